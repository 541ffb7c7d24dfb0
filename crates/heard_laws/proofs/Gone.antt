-- Where the row of an operation goes, a regular connection tells the desk the operation's end.
use Rattle.std.proofs.Common.{◌≡◌, inl, inr, ℕ, Bool, true, false, ◌==◌, ◌&&◌, ◌||◌, not, List, [], ◌∷◌, ◌++◌, refl, ap, ◌∙◌, sym}
use Rattle.std.specs.Prelude.{Option, Some, None, cond, filter, find, flat_map, is_none, nat_lt, option_map, if◌then◌else◌}
use Rattle.std.specs.List.{list_any, list_all}
use Rattle.std.specs.Str.{bytes_eq}
use Rattle.std.proofs.lemmas.List.Folds.{list_any-append}
use Rattle.ldap_spec.specs.Bodies.{who_am_i}
use Rattle.ldap_spec.specs.Kinds.{fits, is_final, is_intermediate, same_kind}
use Rattle.ldap_spec.specs.Messages.{Message}
use Rattle.ldap_spec.specs.Responses.{result_code}
use Rattle.lload_names.specs.declared.names.ConnKind.{ConnKind}
use Rattle.lload_names.specs.declared.names.ConnKind.TheVariants.{Bind as BindKind, Regular}
use Rattle.lload_names.specs.declared.names.EndWhy.{EndWhy}
use Rattle.lload_names.specs.declared.names.EndWhy.TheVariants.{Bad}
use Rattle.lload_names.specs.declared.names.Letter.{Letter}
use Rattle.lload_names.specs.declared.names.Letter.TheVariants.{IsDown}
use Rattle.lload_names.specs.declared.names.OpKind.TheVariants.{Bind}
use Rattle.lload_names.specs.declared.names.OpName.{OpName}
use Rattle.lload_names.specs.declared.names.PartName.TheVariants.{Desk}
use Rattle.lload_names.specs.declared.names.Posted.{Posted}
use Rattle.lload_names.specs.declared.names.Refusal.TheVariants.{C4, C5}
use Rattle.lload_names.specs.declared.names.What.{What}
use Rattle.lload_names.specs.declared.names.What.TheVariants as what
use Rattle.lload_spec.specs.BadMessages.{OpenRequest, is_bad, is_bad_answer, is_bad_for, is_bad_other, is_bad_own, is_ignored}
use Rattle.lload_spec.specs.BadMessages as bad
use Rattle.lload_spec.specs.Journal.{same_op}
use Rattle.lload_spec.specs.Lists.{passes}
use Rattle.lload_spec.specs.News.{tells_ended}
use Rattle.lload_spec.specs.Settings.{Settings, is_kind}
use Rattle.lload_spec.proofs.Growth.{left, right}
use Rattle.lload_laws.proofs.ListLaws.{find-map}
use Rattle.part_laws.proofs.ListLaws.{any_before, any_behind, eqb_same, not_true, or_elim, or_left, or_right, same_number}
use Rattle.part_spec.specs.BindTurn.{answered as bind_answered}
use Rattle.part_spec.specs.ConnectionState.{ConnectionState, Kept, OwnWait, UpRow, behind_final, behind_message, behind_own, behind_who, is_abandoned_by, is_bind, is_bind_row, is_under, is_under_own, is_under_who, message_facts, open_request, put_row}
use Rattle.part_spec.specs.ConnectionTurn.{ended, goes_down, holder_ended, latency, loss, row_ended}
use Rattle.part_spec.specs.Gives.{abandoned_ended, connection_letters}
use Rattle.part_spec.specs.Inputs.{act, failed, letters_alone, nothing, reply, to}
use Rattle.part_spec.specs.Marked.{Taken, letters_to}
use Rattle.part_spec.specs.RegularTurn.{answered, own_answer, row_answer}
use Rattle.connection_laws.proofs.Apart.{are_apart, is_apart}
use Rattle.joined_laws.proofs.Taken.{letters_to_both}
use Rattle.open_laws.proofs.Among.{Among}

-- whether a row is of an operation
abbrev pub is_row_of : OpName → UpRow → Bool
is_row_of op r = same_op op r.op

-- A row among rows.

-- where none of what rows become is of the operation, none of what one of them becomes is
pub none_flat : (t : UpRow → Bool) (f : UpRow → List UpRow) (rows : List UpRow) (r : UpRow) → Among r rows → list_any t (flat_map f rows) ≡ false → list_any t (f r) ≡ false
none_flat t f [] r a h = absurd a
none_flat t f (x ∷ rows) r a h = by (list_any t (f x)) refl (sym (list_any-append t (f x) (flat_map f rows)) ∙ h) a (λ b k. none_flat t f rows r b k)
  where
    by : (b : Bool) → list_any t (f x) ≡ b → (b || list_any t (flat_map f rows)) ≡ false → Among r (x ∷ rows) → (Among r rows → list_any t (flat_map f rows) ≡ false → list_any t (f r) ≡ false) → list_any t (f r) ≡ false
    by true e k c more = absurd (let no : true ≡ false = k in cc)
    by false e k (inl same) more = ap (λ y. list_any t (f y)) (sym same) ∙ e
    by false e k (inr c) more = more c k

pub none_filter : (t q : UpRow → Bool) (rows : List UpRow) (r : UpRow) → Among r rows → t r ≡ true → list_any t (filter q rows) ≡ false → q r ≡ false
none_filter t q [] r a k h = absurd a
none_filter t q (x ∷ rows) r a k h = by (q x) refl h a (λ b j. none_filter t q rows r b k j)
  where
    off : (b : Bool) {c : Bool} → (b || c) ≡ false → c ≡ false
    off true i = absurd (let no : true ≡ false = i in cc)
    off false i = i

    by : (b : Bool) → q x ≡ b → list_any t (cond b (x ∷ filter q rows) (filter q rows)) ≡ false → Among r (x ∷ rows) → (Among r rows → list_any t (filter q rows) ≡ false → q r ≡ false) → q r ≡ false
    by true e j (inl same) more = absurd (let no : true ≡ false = sym (or_left (t x) (list_any t (filter q rows)) (ap t same ∙ k)) ∙ j in cc)
    by true e j (inr c) more = more c (off (t x) j)
    by false e j (inl same) more = ap q (sym same) ∙ e
    by false e j (inr c) more = more c j

-- of rows that are apart one at most is under an identifier
find_apart : (id : ℕ) (rows : List UpRow) (r : UpRow) → are_apart rows ≡ true → Among r rows → is_under id r ≡ true → find (is_under id) rows ≡ Some r
find_apart id [] r h a k = absurd a
find_apart id (x ∷ rows) r h a k = by (is_under id x) refl a (λ b. find_apart id rows r (right (list_all (is_apart x) rows) _ h) b k)
  where
    number : (y : UpRow) → is_under id y ≡ true → y.id ≡ id
    number y j = same_number y.id id (left (y.id == id) _ j)

    other : (ys : List UpRow) → list_all (is_apart x) ys ≡ true → Among r ys → is_under id x ≡ true → false ≡ true
    other [] j b i = absurd b
    other (y ∷ ys) j (inl same) i = sym (not_true (x.id == y.id) (right (not (same_op x.op y.op)) _ (left (is_apart x y) _ j))) ∙ ap (λ n. n == y.id) (number x i ∙ sym (number r k) ∙ ap (λ v. v.id) (sym same)) ∙ eqb_same y.id
    other (y ∷ ys) j (inr b) i = other ys (right (is_apart x y) _ j) b i

    by : (b : Bool) → is_under id x ≡ b → Among r (x ∷ rows) → (Among r rows → find (is_under id) rows ≡ Some r) → cond b (Some x) (find (is_under id) rows) ≡ Some r
    by true e (inl same) more = ap Some same
    by true e (inr b) more = absurd (let no : false ≡ true = other rows (left (list_all (is_apart x) rows) _ h) b e in cc)
    by false e (inl same) more = absurd (let no : false ≡ true = sym e ∙ ap (is_under id) same ∙ k in cc)
    by false e (inr b) more = more b

-- what one of them gives the desk, all of them give
any_flat : (t : Letter → Bool) (f : UpRow → List Posted) (rows : List UpRow) (r : UpRow) → Among r rows → list_any t (letters_to Desk (f r)) ≡ true → list_any t (letters_to Desk (flat_map f rows)) ≡ true
any_flat t f [] r a h = absurd a
any_flat t f (x ∷ rows) r (inl same) h = ap (list_any t) (letters_to_both Desk (f x) (flat_map f rows)) ∙ any_before t (letters_to Desk (f x)) (letters_to Desk (flat_map f rows)) (ap (λ y. list_any t (letters_to Desk (f y))) same ∙ h)
any_flat t f (x ∷ rows) r (inr a) h = ap (list_any t) (letters_to_both Desk (f x) (flat_map f rows)) ∙ any_behind t (letters_to Desk (f x)) (letters_to Desk (flat_map f rows)) (any_flat t f rows r a h)

pub any_behind_posts : (t : Letter → Bool) (xs ys : List Posted) → list_any t (letters_to Desk ys) ≡ true → list_any t (letters_to Desk (xs ++ ys)) ≡ true
any_behind_posts t xs ys h = ap (list_any t) (letters_to_both Desk xs ys) ∙ any_behind t (letters_to Desk xs) (letters_to Desk ys) h

pub any_before_posts : (t : Letter → Bool) (xs ys : List Posted) → list_any t (letters_to Desk xs) ≡ true → list_any t (letters_to Desk (xs ++ ys)) ≡ true
any_before_posts t xs ys h = ap (list_any t) (letters_to_both Desk xs ys) ∙ any_before t (letters_to Desk xs) (letters_to Desk ys) h

-- rows with one more
pub any_put : (t : UpRow → Bool) (r : UpRow) (rows : List UpRow) → list_any t rows ≡ true → list_any t (put_row r rows) ≡ true
any_put t r [] h = absurd (let no : false ≡ true = h in cc)
any_put t r (x ∷ rows) h = by (nat_lt x.id r.id) (or_elim (t x) (list_any t rows) (λ j. or_left (t x) _ j) (λ j. or_right (t x) _ (any_put t r rows j)) h)
  where
    by : (b : Bool) → list_any t (x ∷ put_row r rows) ≡ true → list_any t (elim b [ true ↦ x ∷ put_row r rows | false ↦ r ∷ x ∷ rows ]) ≡ true
    by true k = k
    by false k = or_right (t r) _ h

pub any_new : (t : UpRow → Bool) (r : UpRow) (rows : List UpRow) → t r ≡ true → list_any t (put_row r rows) ≡ true
any_new t r [] h = or_left (t r) false h
any_new t r (x ∷ rows) h = by (nat_lt x.id r.id) (any_new t r rows h)
  where
    by : (b : Bool) → list_any t (put_row r rows) ≡ true → list_any t (elim b [ true ↦ x ∷ put_row r rows | false ↦ r ∷ x ∷ rows ]) ≡ true
    by true k = or_right (t x) _ k
    by false k = or_left (t r) _ h

-- Where a row goes.
module _ (op : OpName) (r : UpRow) (its : is_row_of op r ≡ true) (plain : is_bind_row r ≡ false) (bare : is_none r.kept ≡ true) where
  none_kept : (o : Option Kept) → is_none o ≡ true → o ≡ None
  none_kept None h = refl
  none_kept (Some k) h = absurd (let no : false ≡ true = h in cc)

  -- by a message that is its final answer
  pub gone_answer : (at : ℕ) (m : Message) → list_any (is_row_of op) (behind_message at m r) ≡ false → (is_under m.id r ≡ true) × (is_final r.kind m.rest ≡ true)
  gone_answer at m h = by (is_under m.id r) (fits r.kind m.rest) (is_final r.kind m.rest) refl refl h
    where
      stays : list_any (is_row_of op) (r ∷ []) ≡ false → false ≡ true
      stays k = sym k ∙ or_left (same_op op r.op) false its

      who : is_under_who m.id r ≡ false
      who = ap (λ k. passes (λ w. w == m.id) (elim k [ None ↦ None | Some q ↦ q.who ])) (none_kept r.kept bare)

      by : (a f g : Bool) → is_under m.id r ≡ a → is_final r.kind m.rest ≡ g → list_any (is_row_of op) (elim a [ true ↦ elim f [ false ↦ r ∷ [] | true ↦ elim g [ true ↦ behind_final at m.rest r | false ↦ record r { answered = at } ∷ [] ] ] | false ↦ elim (is_under_who m.id r) [ true ↦ behind_who at m.rest r | false ↦ r ∷ [] ] ]) ≡ false → (is_under m.id r ≡ true) × (is_final r.kind m.rest ≡ true)
      by true true true i j k = (i, j)
      by true true false i j k = absurd (let no : false ≡ true = stays k in cc)
      by true false g i j k = absurd (let no : false ≡ true = stays k in cc)
      by false f g i j k = absurd (let no : false ≡ true = stays (sym (ap (λ b. list_any (is_row_of op) (elim b [ true ↦ behind_who at m.rest r | false ↦ r ∷ [] ])) who) ∙ k) in cc)

  abbrev asking : Message → Bool → List UpRow
  asking m b = elim b [ true ↦ record r { kept = elim r.kept [ None ↦ None | Some k ↦ Some (record k { who = Some m.id }) ] } ∷ [] | false ↦ elim (is_abandoned_by m.rest r) [ true ↦ [] | false ↦ r ∷ [] ] ]

  -- by an own message that abandons it
  pub gone_abandoned : (m : Message) → list_any (is_row_of op) (behind_own m r) ≡ false → is_abandoned_by m.rest r ≡ true
  gone_abandoned m h = by (is_abandoned_by m.rest r) refl (sym (ap (λ b. list_any (is_row_of op) (asking m b)) (who (bytes_eq m.rest who_am_i) r.kept bare)) ∙ h)
    where
      who : (b : Bool) (o : Option Kept) → is_none o ≡ true → (b && passes (λ k. is_none k.who) o) ≡ false
      who true None k = refl
      who false None k = refl
      who b (Some q) k = absurd (let no : false ≡ true = k in cc)

      by : (c : Bool) → is_abandoned_by m.rest r ≡ c → list_any (is_row_of op) (elim c [ true ↦ [] | false ↦ r ∷ [] ]) ≡ false → is_abandoned_by m.rest r ≡ true
      by true e k = e
      by false e k = absurd (let no : false ≡ true = sym k ∙ or_left (same_op op r.op) false its in cc)

-- What it gives then.
module _ (s : Settings) (p : ConnectionState) (kind : p.kind ≡ Regular) (apart : are_apart p.rows ≡ true) (op : OpName) (r : UpRow) (its : is_row_of op r ≡ true) (plain : is_bind_row r ≡ false) (bare : is_none r.kept ≡ true) (there : Among r p.rows) (at : ℕ) (mark : Option Taken) where
  abbrev Gives : What → Type 0
  Gives w = list_any (tells_ended op) (letters_to Desk (connection_letters s p at mark w)) ≡ true

  row_end : (told : Option ℕ) → list_any (tells_ended op) (letters_to Desk (row_ended p r told)) ≡ true
  row_end told = by (is_bind p) (ap (is_kind BindKind) kind)
    where
      by : (b : Bool) → b ≡ false → list_any (tells_ended op) (letters_to Desk (elim b [ true ↦ [] | false ↦ ended p r.op told ])) ≡ true
      by true e = absurd (let no : true ≡ false = e in cc)
      by false e = or_left (same_op op r.op) false its

  -- A message.
  module _ (id : ℕ) (rest : List ℕ) (other : is_under_own p id ≡ false) (under : is_under id r ≡ true) (final : is_final r.kind rest ≡ true) where
    abbrev m : Message
    m = record { id = id; rest = rest }

    found : find (is_under id) p.rows ≡ Some r
    found = find_apart id p.rows r apart there under

    not_for_own : passes (λ n. n == id) (message_facts p).own ≡ false
    not_for_own = by p.own_bind other
      where
        by : (o : Option OwnWait) → passes (λ w. w.id == id) o ≡ false → passes (λ n. n == id) (elim o [ None ↦ None | Some w ↦ Some w.id ]) ≡ false
        by None k = k
        by (Some w) k = k

    fit : fits r.kind rest ≡ true
    fit = or_left (is_final r.kind rest || is_intermediate rest) _ (or_left (is_final r.kind rest) _ final)

    fitting : is_bad_answer m (open_request r) ≡ false
    fitting = ap (λ b. not b || (same_kind Bind r.kind && is_final Bind rest && is_none (result_code rest))) fit ∙ ap (λ b. b && is_final Bind rest && is_none (result_code rest)) plain

    abbrev text : Bool → Bool → Bool → Bool
    text i o b = if i then false else if o then is_bad_own m else b

    good : is_bad (message_facts p) m ≡ false
    good = by (is_ignored m)
      where
        other_good : is_bad_other (message_facts p) m ≡ false
        other_good = ap (is_bad_for (message_facts p) m) (find-map (bad.is_under id) open_request p.rows ∙ ap (option_map open_request) found) ∙ fitting

        by : (i : Bool) → text i (passes (λ n. n == id) (message_facts p).own) (is_bad_other (message_facts p) m) ≡ false
        by true = refl
        by false = ap (λ o. text false o (is_bad_other (message_facts p) m)) not_for_own ∙ other_good

    abbrev taken : Bool → ConnKind → List Posted
    taken b k = letters_alone (elim b [ true ↦ goes_down p Bad | false ↦ elim k [ Regular ↦ answered p at m | BindKind ↦ bind_answered s p m ] ])

    abbrev answers_by : Bool → Option UpRow → List Posted
    answers_by b o = letters_alone (elim b [ true ↦ own_answer p m | false ↦ elim o [ None ↦ nothing | Some q ↦ row_answer p at m q ] ])

    abbrev final_by : Bool → List Posted
    final_by b = letters_alone (elim b [ false ↦ act [] (reply r.op rest false None) | true ↦ act [] (reply r.op rest true None ++ ended p r.op (latency at r)) ])

    letters_are : connection_letters s p at mark (what.Got id rest) ≡ reply r.op rest true None ++ ended p r.op (latency at r)
    letters_are = ap (λ b. taken b p.kind) good ∙ ap (taken false) kind ∙ ap (λ b. answers_by b (find (is_under id) p.rows)) other ∙ ap (answers_by false) found ∙ ap final_by final

    pub got_ends : Gives (what.Got id rest)
    got_ends = ap (λ xs. list_any (tells_ended op) (letters_to Desk xs)) letters_are ∙ any_behind_posts (tells_ended op) (reply r.op rest true None) (ended p r.op (latency at r)) (or_left (same_op op r.op) false its)

  -- An own message, an expiry, and the connection's end.
  pub own_ends : (id : ℕ) (rest : List ℕ) → is_abandoned_by rest r ≡ true → Gives (what.Own id rest)
  own_ends id rest h = any_flat (tells_ended op) (abandoned_ended p rest) p.rows r there (ap (λ b. list_any (tells_ended op) (letters_to Desk (elim b [ true ↦ row_ended p r None | false ↦ [] ]))) h ∙ row_end None)

  pub down_ends : (why : EndWhy) → Gives (what.Down why)
  down_ends why = any_before_posts (tells_ended op) (flat_map (loss p) p.rows) (holder_ended p ++ to Desk (IsDown p.number)) (any_flat (tells_ended op) (loss p) p.rows r there (any_behind_posts (tells_ended op) (failed r.op C4) (row_ended p r None) (row_end None)))

pub expired_ends : (s : Settings) (p : ConnectionState) → p.kind ≡ Regular → (op o : OpName) → same_op op o ≡ true → (at : ℕ) (mark : Option Taken) → list_any (tells_ended op) (letters_to Desk (connection_letters s p at mark (what.Expired o))) ≡ true
expired_ends s p kind op o h at mark = ap (λ k. list_any (tells_ended op) (letters_to Desk (failed o C5 ++ elim k [ Regular ↦ ended p o None | BindKind ↦ [] ]))) kind ∙ any_behind_posts (tells_ended op) (failed o C5) (ended p o None) (or_left (same_op op o) false h)
