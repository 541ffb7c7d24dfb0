-- The rows of a regular connection: each is of an operation other than a Bind, whose answer isn't kept back, and which the
-- list says was sent under the row's identifier.
use Rattle.std.proofs.Common.{◌≡◌, ℕ, Bool, true, false, ◌==◌, ◌&&◌, ◌||◌, not, List, [], ◌∷◌, ◌++◌, refl, ap, ◌∙◌, sym}
use Rattle.std.specs.Prelude.{Option, Some, None, filter, flat_map, cond, is_none, nat_lt, if◌then◌else◌}
use Rattle.std.specs.List.{list_any, list_all}
use Rattle.std.specs.Str.{bytes_eq}
use Rattle.std.proofs.lemmas.List.Folds.{list_all-append}
use Rattle.ldap_spec.specs.Messages.{Message}
use Rattle.ldap_spec.specs.Kinds.{is_final, fits, same_kind, tag_of}
use Rattle.ldap_spec.specs.Responses.{result_code}
use Rattle.ldap_spec.specs.Bodies.{who_am_i, abandon}
use Rattle.lload_names.specs.declared.names.Entry.{Entry}
use Rattle.lload_names.specs.declared.names.PartName.{PartName}
use Rattle.lload_names.specs.declared.names.OpName.{OpName}
use Rattle.lload_names.specs.declared.names.OpKind.TheVariants.{Bind}
use Rattle.lload_names.specs.declared.names.Letter.{Letter}
use Rattle.lload_names.specs.declared.names.Letter.TheVariants.{Forward}
use Rattle.lload_names.specs.declared.names.What.{What}
use Rattle.lload_names.specs.declared.names.What.TheVariants as what
use Rattle.lload_spec.specs.Lists.{passes}
use Rattle.lload_spec.specs.Settings.{Settings}
use Rattle.lload_spec.specs.Journal.{same_op}
use Rattle.lload_spec.specs.Entries.{Named, sent_message}
use Rattle.lload_spec.specs.Answers.{sendings, sendings_from, sending_made}
use Rattle.part_spec.specs.Marked.{Taken}
use Rattle.part_spec.specs.Marks.{has_connection_mark, marks_connection}
use Rattle.part_spec.specs.ConnectionState.{ConnectionState, UpRow, Kept, is_bind_row, is_under, is_under_who, is_under_own, keeps_back, behind_message, behind_own, put_row, with_sent, connection_behind}
use Rattle.lload_spec.proofs.Growth.{left, right, both}
use Rattle.std.proofs.lemmas.List.Folds.{list_any-append}
use Rattle.std.proofs.Math.Bool.{or-false}
use Rattle.lload_laws.proofs.ListLaws.{all_imply}
use Rattle.part_laws.proofs.ListLaws.{any_before, any_behind, or_left, eqb_same, same_op_refl, same_op_eq}

-- whether the list says that a row's operation was sent under its identifier
abbrev pub is_sent_as : ℕ → List Entry → ℕ → OpName → Bool
is_sent_as u place id op = list_any (λ x. x.id == id && same_op op x.op) (sendings u place)

abbrev pub is_sound : ℕ → List Entry → UpRow → Bool
is_sound u place r = not (is_bind_row r) && is_none r.kept && is_sent_as u place r.id r.op

-- a letter that makes no row of a Bind
abbrev pub makes_no_bind : Letter → Bool
makes_no_bind (Forward op kind rest ask_who holder) = not (same_kind Bind kind)
makes_no_bind _ = true

abbrev pub marks_no_bind : Option Taken → Bool
marks_no_bind None = true
marks_no_bind (Some t) = makes_no_bind t.letter

-- whether an entry says so
abbrev pub sent_here : ℕ → OpName → Entry → Bool
sent_here id op e = passes (λ y. y.value.id == id && same_op op y.op) (sent_message e.what)

sent_from : (u id : ℕ) (op : OpName) (before es : List Entry) → list_any (λ x. x.id == id && same_op op x.op) (sendings_from u before es) ≡ list_any (sent_here id op) es
sent_from u id op before [] = refl
sent_from u id op before (e ∷ es) = list_any-append (λ x. x.id == id && same_op op x.op) (sending_made u before e es (sent_message e.what)) (sendings_from u (before ++ e ∷ []) es) ∙ ap (λ b. b || list_any (λ x. x.id == id && same_op op x.op) (sendings_from u (before ++ e ∷ []) es)) (made (sent_message e.what)) ∙ ap (λ b. sent_here id op e || b) (sent_from u id op (before ++ e ∷ []) es)
  where
    made : (o : Option (Named Message)) → list_any (λ x. x.id == id && same_op op x.op) (sending_made u before e es o) ≡ passes (λ y. y.value.id == id && same_op op y.op) o
    made None = refl
    made (Some y) = or-false (y.value.id == id && same_op op y.op)

pub sent_as : (u : ℕ) (place : List Entry) (id : ℕ) (op : OpName) → is_sent_as u place id op ≡ list_any (sent_here id op) place
sent_as u place id op = sent_from u id op [] place

-- what was sent stays so
pub sent_stays : (u : ℕ) (place : List Entry) (e : Entry) (id : ℕ) (op : OpName) → is_sent_as u place id op ≡ true → is_sent_as u (place ++ e ∷ []) id op ≡ true
sent_stays u place e id op h = sent_as u (place ++ e ∷ []) id op ∙ any_before (sent_here id op) place (e ∷ []) (sym (sent_as u place id op) ∙ h)

-- the row of an operation that went upstream, as its Forward says, among the rows
abbrev pub row_sent : ℕ → ℕ → Letter → List UpRow
row_sent at id (Forward op kind rest ask_who holder) = record { id = id; op = op; kind = kind; ask_who = ask_who; sent = at; answered = at; kept = None } ∷ []
row_sent at id _ = []

abbrev pub put_all : List UpRow → List UpRow → List UpRow
put_all [] rows = rows
put_all (r ∷ rs) rows = put_row r rows

pub sent_rows : (at id : ℕ) (sender : PartName) (x : Letter) (p : ConnectionState) → (with_sent at id (Some (record { sender = sender; letter = x })) p).rows ≡ put_all (row_sent at id x) p.rows
sent_rows at id sender (Forward op kind rest ask_who holder) p = refl
sent_rows at id sender _ p = refl

pub all_put : (q : UpRow → Bool) (r : UpRow) (rows : List UpRow) → q r ≡ true → list_all q rows ≡ true → list_all q (put_row r rows) ≡ true
all_put q r [] h k = both (q r) true h refl
all_put q r (x ∷ rows) h k = by (nat_lt x.id r.id) (all_put q r rows h (right (q x) _ k))
  where
    by : (b : Bool) → list_all q (put_row r rows) ≡ true → list_all q (elim b [ true ↦ x ∷ put_row r rows | false ↦ r ∷ x ∷ rows ]) ≡ true
    by true j = both (q x) _ (left (q x) _ k) j
    by false j = both (q r) _ h k

all_put_all : (q : UpRow → Bool) (rs rows : List UpRow) → list_all q rs ≡ true → list_all q rows ≡ true → list_all q (put_all rs rows) ≡ true
all_put_all q [] rows h k = k
all_put_all q (r ∷ rs) rows h k = all_put q r rows (left (q r) _ h) k

sound_stays : (u : ℕ) (place : List Entry) (e : Entry) (r : UpRow) → is_sound u place r ≡ true → is_sound u (place ++ e ∷ []) r ≡ true
sound_stays u place e r h = both (not (is_bind_row r) && is_none r.kept) _ (left (not (is_bind_row r) && is_none r.kept) _ h) (sent_stays u place e r.id r.op (right (not (is_bind_row r) && is_none r.kept) _ h))

-- rows behind what each becomes
pub all_flat : (q : UpRow → Bool) (f : UpRow → List UpRow) (rows : List UpRow) → ((r : UpRow) → q r ≡ true → list_all q (f r) ≡ true) → list_all q rows ≡ true → list_all q (flat_map f rows) ≡ true
all_flat q f [] g h = refl
all_flat q f (r ∷ rows) g h = list_all-append q (f r) (flat_map f rows) ∙ both (list_all q (f r)) _ (g r (left (q r) _ h)) (all_flat q f rows g (right (q r) _ h))

pub all_filter : (q t : UpRow → Bool) (rows : List UpRow) → list_all q rows ≡ true → list_all q (filter t rows) ≡ true
all_filter q t [] h = refl
all_filter q t (r ∷ rows) h = more (t r) (all_filter q t rows (right (q r) _ h))
  where
    more : (b : Bool) → list_all q (filter t rows) ≡ true → list_all q (cond b (r ∷ filter t rows) (filter t rows)) ≡ true
    more true k = both (q r) _ (left (q r) _ h) k
    more false k = k

one_row : (u : ℕ) (place : List Entry) (r : UpRow) → is_sound u place r ≡ true → list_all (is_sound u place) (r ∷ []) ≡ true
one_row u place r h = both (is_sound u place r) true h refl

-- what a sound row isn't
pub no_bind : (u : ℕ) (place : List Entry) (r : UpRow) → is_sound u place r ≡ true → not (is_bind_row r) ≡ true
no_bind u place r h = left (not (is_bind_row r)) (is_none r.kept) (left (not (is_bind_row r) && is_none r.kept) _ h)

pub not_kept : (u : ℕ) (place : List Entry) (r : UpRow) → is_sound u place r ≡ true → is_none r.kept ≡ true
not_kept u place r h = right (not (is_bind_row r)) (is_none r.kept) (left (not (is_bind_row r) && is_none r.kept) _ h)

-- a row behind a message
sound_message : (u : ℕ) (place : List Entry) (at : ℕ) (m : Message) (r : UpRow) → is_sound u place r ≡ true → list_all (is_sound u place) (behind_message at m r) ≡ true
sound_message u place at m r h = under (is_under m.id r) (fits r.kind m.rest) (is_final r.kind m.rest) (is_bind_row r) (no_bind u place r h) (is_under_who m.id r) (tag_of m.rest == 0x78)
  where
    kept_row : list_all (is_sound u place) (r ∷ []) ≡ true
    kept_row = one_row u place r h

    answered_row : list_all (is_sound u place) (record r { answered = at } ∷ []) ≡ true
    answered_row = one_row u place (record r { answered = at }) h

    final : (k : Bool) → not k ≡ true → list_all (is_sound u place) (elim k [ false ↦ [] | true ↦ elim (keeps_back r m.rest) [ true ↦ record r { answered = at; kept = Some (record { rest = m.rest; who = None }) } ∷ [] | false ↦ elim (is_none (result_code m.rest)) [ true ↦ record r { answered = at } ∷ [] | false ↦ [] ] ] ]) ≡ true
    final true j = absurd (let bad : false ≡ true = j in cc)
    final false j = refl

    under : (a f g k : Bool) → not k ≡ true → (w x : Bool) → list_all (is_sound u place) (elim a [ true ↦ elim f [ false ↦ r ∷ [] | true ↦ elim g [ true ↦ elim k [ false ↦ [] | true ↦ elim (keeps_back r m.rest) [ true ↦ record r { answered = at; kept = Some (record { rest = m.rest; who = None }) } ∷ [] | false ↦ elim (is_none (result_code m.rest)) [ true ↦ record r { answered = at } ∷ [] | false ↦ [] ] ] ] | false ↦ record r { answered = at } ∷ [] ] ] | false ↦ elim w [ true ↦ elim x [ true ↦ [] | false ↦ record r { answered = at } ∷ [] ] | false ↦ r ∷ [] ] ]) ≡ true
    under true false g k j w x = kept_row
    under true true true k j w x = final k j
    under true true false k j w x = answered_row
    under false f g k j true true = refl
    under false f g k j true false = answered_row
    under false f g k j false x = kept_row

-- a row behind an own message
sound_own : (u : ℕ) (place : List Entry) (m : Message) (r : UpRow) → is_sound u place r ≡ true → list_all (is_sound u place) (behind_own m r) ≡ true
sound_own u place m r h = who r.kept (not_kept u place r h) (bytes_eq m.rest who_am_i) (not (is_bind_row r) && bytes_eq m.rest (abandon r.id))
  where
    named : (b : Bool) → list_all (is_sound u place) (elim b [ true ↦ [] | false ↦ r ∷ [] ]) ≡ true
    named true = refl
    named false = one_row u place r h

    who : (o : Option Kept) → is_none o ≡ true → (a b : Bool) → list_all (is_sound u place) (elim (a && passes (λ k. is_none k.who) o) [ true ↦ record r { kept = elim o [ None ↦ None | Some k ↦ Some (record k { who = Some m.id }) ] } ∷ [] | false ↦ elim b [ true ↦ [] | false ↦ r ∷ [] ] ]) ≡ true
    who (Some k) j a b = absurd (let bad : false ≡ true = j in cc)
    who None j true b = named b
    who None j false b = named b

-- the row that a Forward makes
sound_sent : (u : ℕ) (place : List Entry) (part : PartName) (at id : ℕ) (op : OpName) (rest : List ℕ) (x : Letter) → makes_no_bind x ≡ true → ((o : OpName) (r : UpRow) → row_sent at id x ≡ r ∷ [] → r.op ≡ op) → list_all (is_sound u (place ++ record { part = part; at = at; what = what.Sent id op rest } ∷ [])) (row_sent at id x) ≡ true
sound_sent u place part at id op rest (Forward o sort r ask holder) h same = both (not (same_kind Bind sort) && true && is_sent_as u (place ++ record { part = part; at = at; what = what.Sent id op rest } ∷ []) id o) true (both (not (same_kind Bind sort) && true) _ (both (not (same_kind Bind sort)) true h refl) (ap (λ q. is_sent_as u (place ++ record { part = part; at = at; what = what.Sent id op rest } ∷ []) id q) (same o (record { id = id; op = o; kind = sort; ask_who = ask; sent = at; answered = at; kept = None }) refl) ∙ here)) refl
  where
    here : is_sent_as u (place ++ record { part = part; at = at; what = what.Sent id op rest } ∷ []) id op ≡ true
    here = sent_as u (place ++ record { part = part; at = at; what = what.Sent id op rest } ∷ []) id op ∙ any_behind (sent_here id op) place (record { part = part; at = at; what = what.Sent id op rest } ∷ []) (or_left (id == id && same_op op op) false (both (id == id) _ (eqb_same id) (same_op_refl op)))
sound_sent u place part at id op rest _ h same = refl

-- the operation of the row that a fitting mark makes
pub row_of_mark : (p : ConnectionState) (at id : ℕ) (op : OpName) (rest : List ℕ) (x : Letter) → marks_connection p (what.Sent id op rest) x ≡ true → (o : OpName) (r : UpRow) → row_sent at id x ≡ r ∷ [] → r.op ≡ op
row_of_mark p at id op rest (Forward q sort body ask holder) h o r e =
    let same : record { id = id; op = q; kind = sort; ask_who = ask; sent = at; answered = at; kept = None } ≡ r = cc in
    let found : same_op op q ≡ true = left (same_op op q) (bytes_eq rest body) (left (same_op op q && bytes_eq rest body) _ h) in
    sym (ap (λ y. y.op) same) ∙ sym (same_op_eq op q found)
row_of_mark p at id op rest _ h o r e = absurd (let bad : [] ≡ r ∷ [] = e in cc)

-- the rows behind an entry
pub rows_more : (s : Settings) (u : ℕ) (place : List Entry) (part : PartName) (at : ℕ) (mark : Option Taken) (p : ConnectionState) (w : What) → has_connection_mark p (record { entry = record { part = part; at = at; what = w }; mark = mark }) ≡ true → marks_no_bind mark ≡ true → list_all (is_sound u place) p.rows ≡ true → list_all (is_sound u (place ++ record { part = part; at = at; what = w } ∷ [])) (connection_behind s (record { part = part; at = at; what = w }) mark p w).rows ≡ true
rows_more s u place part at None p (what.Sent id op rest) fit sort h = absurd (let bad : false ≡ true = fit in cc)
rows_more s u place part at (Some t) p (what.Sent id op rest) fit sort h = ap (list_all (is_sound u there)) (sent_rows at id t.sender t.letter p) ∙ all_put_all (is_sound u there) (row_sent at id t.letter) p.rows (sound_sent u place part at id op rest t.letter sort (row_of_mark p at id op rest t.letter fit)) (all_imply (is_sound u place) (is_sound u there) p.rows (sound_stays u place (record { part = part; at = at; what = what.Sent id op rest })) h)
  where
    there : List Entry
    there = place ++ record { part = part; at = at; what = what.Sent id op rest } ∷ []
rows_more s u place part at mark p (what.Own id rest) fit sort h = all_flat (is_sound u (place ++ record { part = part; at = at; what = what.Own id rest } ∷ [])) (behind_own (record { id = id; rest = rest })) p.rows (sound_own u (place ++ record { part = part; at = at; what = what.Own id rest } ∷ []) (record { id = id; rest = rest })) (all_imply (is_sound u place) (is_sound u (place ++ record { part = part; at = at; what = what.Own id rest } ∷ [])) p.rows (sound_stays u place (record { part = part; at = at; what = what.Own id rest })) h)
rows_more s u place part at mark p (what.Got id rest) fit sort h = by (is_under_own p id)
  where
    later : list_all (is_sound u (place ++ record { part = part; at = at; what = what.Got id rest } ∷ [])) p.rows ≡ true
    later = all_imply (is_sound u place) (is_sound u (place ++ record { part = part; at = at; what = what.Got id rest } ∷ [])) p.rows (sound_stays u place (record { part = part; at = at; what = what.Got id rest })) h

    by : (b : Bool) → list_all (is_sound u (place ++ record { part = part; at = at; what = what.Got id rest } ∷ [])) (if b then p.rows else flat_map (behind_message at (record { id = id; rest = rest })) p.rows) ≡ true
    by true = later
    by false = all_flat (is_sound u (place ++ record { part = part; at = at; what = what.Got id rest } ∷ [])) (behind_message at (record { id = id; rest = rest })) p.rows (sound_message u (place ++ record { part = part; at = at; what = what.Got id rest } ∷ []) at (record { id = id; rest = rest })) later
rows_more s u place part at mark p (what.Expired op) fit sort h = all_filter (is_sound u (place ++ record { part = part; at = at; what = what.Expired op } ∷ [])) (λ r. not (same_op op r.op)) p.rows (all_imply (is_sound u place) (is_sound u (place ++ record { part = part; at = at; what = what.Expired op } ∷ [])) p.rows (sound_stays u place (record { part = part; at = at; what = what.Expired op })) h)
rows_more s u place part at mark p (what.Down why) fit sort h = refl
rows_more s u place part at mark p (what.Arrived) fit sort h = all_imply (is_sound u place) (is_sound u (place ++ record { part = part; at = at; what = what.Arrived } ∷ [])) p.rows (sound_stays u place (record { part = part; at = at; what = what.Arrived })) h
rows_more s u place part at mark p (what.In id rest) fit sort h = all_imply (is_sound u place) (is_sound u (place ++ record { part = part; at = at; what = what.In id rest } ∷ [])) p.rows (sound_stays u place (record { part = part; at = at; what = what.In id rest })) h
rows_more s u place part at mark p (what.Chosen op answer) fit sort h = all_imply (is_sound u place) (is_sound u (place ++ record { part = part; at = at; what = what.Chosen op answer } ∷ [])) p.rows (sound_stays u place (record { part = part; at = at; what = what.Chosen op answer })) h
rows_more s u place part at mark p (what.Out id rest) fit sort h = all_imply (is_sound u place) (is_sound u (place ++ record { part = part; at = at; what = what.Out id rest } ∷ [])) p.rows (sound_stays u place (record { part = part; at = at; what = what.Out id rest })) h
rows_more s u place part at mark p (what.Late op) fit sort h = all_imply (is_sound u place) (is_sound u (place ++ record { part = part; at = at; what = what.Late op } ∷ [])) p.rows (sound_stays u place (record { part = part; at = at; what = what.Late op })) h
rows_more s u place part at mark p (what.Gone why) fit sort h = all_imply (is_sound u place) (is_sound u (place ++ record { part = part; at = at; what = what.Gone why } ∷ [])) p.rows (sound_stays u place (record { part = part; at = at; what = what.Gone why })) h
rows_more s u place part at mark p (what.Linked) fit sort h = all_imply (is_sound u place) (is_sound u (place ++ record { part = part; at = at; what = what.Linked } ∷ [])) p.rows (sound_stays u place (record { part = part; at = at; what = what.Linked })) h
rows_more s u place part at mark p (what.Up) fit sort h = all_imply (is_sound u place) (is_sound u (place ++ record { part = part; at = at; what = what.Up } ∷ [])) p.rows (sound_stays u place (record { part = part; at = at; what = what.Up })) h
rows_more s u place part at mark p (what.Retired) fit sort h = all_imply (is_sound u place) (is_sound u (place ++ record { part = part; at = at; what = what.Retired } ∷ [])) p.rows (sound_stays u place (record { part = part; at = at; what = what.Retired })) h
rows_more s u place part at mark p (what.Missed op) fit sort h = all_imply (is_sound u place) (is_sound u (place ++ record { part = part; at = at; what = what.Missed op } ∷ [])) p.rows (sound_stays u place (record { part = part; at = at; what = what.Missed op })) h
rows_more s u place part at mark p (what.Idle op) fit sort h = all_imply (is_sound u place) (is_sound u (place ++ record { part = part; at = at; what = what.Idle op } ∷ [])) p.rows (sound_stays u place (record { part = part; at = at; what = what.Idle op })) h
rows_more s u place part at mark p (what.Asked op want) fit sort h = all_imply (is_sound u place) (is_sound u (place ++ record { part = part; at = at; what = what.Asked op want } ∷ [])) p.rows (sound_stays u place (record { part = part; at = at; what = what.Asked op want })) h
rows_more s u place part at mark p (what.Chose op answer word) fit sort h = all_imply (is_sound u place) (is_sound u (place ++ record { part = part; at = at; what = what.Chose op answer word } ∷ [])) p.rows (sound_stays u place (record { part = part; at = at; what = what.Chose op answer word })) h
rows_more s u place part at mark p (what.Heard x) fit sort h = all_imply (is_sound u place) (is_sound u (place ++ record { part = part; at = at; what = what.Heard x } ∷ [])) p.rows (sound_stays u place (record { part = part; at = at; what = what.Heard x })) h
rows_more s u place part at mark p (what.Stalled) fit sort h = all_imply (is_sound u place) (is_sound u (place ++ record { part = part; at = at; what = what.Stalled } ∷ [])) p.rows (sound_stays u place (record { part = part; at = at; what = what.Stalled })) h
rows_more s u place part at mark p (what.Flowing) fit sort h = all_imply (is_sound u place) (is_sound u (place ++ record { part = part; at = at; what = what.Flowing } ∷ [])) p.rows (sound_stays u place (record { part = part; at = at; what = what.Flowing })) h
rows_more s u place part at mark p (what.Paused client) fit sort h = all_imply (is_sound u place) (is_sound u (place ++ record { part = part; at = at; what = what.Paused client } ∷ [])) p.rows (sound_stays u place (record { part = part; at = at; what = what.Paused client })) h
rows_more s u place part at mark p (what.Resumed client) fit sort h = all_imply (is_sound u place) (is_sound u (place ++ record { part = part; at = at; what = what.Resumed client } ∷ [])) p.rows (sound_stays u place (record { part = part; at = at; what = what.Resumed client })) h
rows_more s u place part at mark p (what.Replanned number base) fit sort h = all_imply (is_sound u place) (is_sound u (place ++ record { part = part; at = at; what = what.Replanned number base } ∷ [])) p.rows (sound_stays u place (record { part = part; at = at; what = what.Replanned number base })) h
