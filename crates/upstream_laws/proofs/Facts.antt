-- What a message meets on a regular connection, by its state and by its list: the same message is bad.
use Rattle.std.proofs.Common.{◌≡◌, inl, inr, ℕ, Bool, true, false, ◌==◌, ◌&&◌, ◌||◌, not, List, [], ◌∷◌, refl, ap, ◌∙◌, sym, subst}
use Rattle.std.specs.Prelude.{Option, Some, None, cond, find, flat_map, map, is_none, is_some, if◌then◌else◌, option_map}
use Rattle.std.specs.List.{list_any, list_all}
use Rattle.std.proofs.lemmas.List.Folds.{list_any-append}
use Rattle.ldap_spec.specs.Kinds.{is_response, kind_of}
use Rattle.ldap_spec.specs.Messages.{Message}
use Rattle.lload_names.specs.declared.names.OpKind.{OpKind}
use Rattle.lload_spec.specs.Answers.{Final, Sending, asks_who, final_answer, is_kept_back, is_open, sendings, who_id}
use Rattle.lload_spec.specs.BadMessages.{MessageFacts, OpenRequest, is_bad, is_bad_for, is_bad_own, is_bad_who, is_for_own, is_ignored, is_under, is_under_who}
use Rattle.lload_spec.specs.CausedUp.{has_got, message_facts as facts_by_list, open_request as request_of, own_bind_at, own_bind_id}
use Rattle.lload_spec.specs.Journal.{Family, same_op}
use Rattle.lload_spec.specs.Lists.{passes}
use Rattle.lload_spec.specs.Operations.{Operation, operation}
use Rattle.lload_spec.specs.Settings.{Settings}
use Rattle.lload_spec.proofs.Growth.{left, right}
use Rattle.lload_laws.proofs.ListLaws.{find-map}
use Rattle.part_laws.proofs.ListLaws.{eqb_same, not_true, or_left, or_right, same_number}
use Rattle.part_spec.specs.ConnectionState.{Kept, OwnWait, UpRow, message_facts, open_request}
use Rattle.part_spec.specs.Fit.{ConnectionLedger}
use Rattle.part_spec.specs.Marked.{Marked, entries}
use Rattle.connection_laws.proofs.Apart.{are_apart, is_apart}
use Rattle.connection_laws.proofs.Closings.{opens, opens_of}
use Rattle.connection_laws.proofs.OwnBinds.{waiting_of}
use Rattle.connection_laws.proofs.Rows.{is_sound, not_kept}
use Rattle.client_answer_laws.proofs.Each.{Each, each_imply}
use Rattle.rows_laws.proofs.Known.{Known}
use Rattle.rows_laws.proofs.Live.{Live, live_open}
use Rattle.rows_laws.proofs.Lives.{Lives, is_open_in}
use Rattle.rows_laws.proofs.Somewhere.{OneIn, each_flat}
use Rattle.rows_laws.proofs.Walk.{Row, each_row}

find_none : {A : Type 0} (t : A → Bool) (xs : List A) → Each (λ x. t x ≡ false) xs → find t xs ≡ None
find_none t [] h = refl
find_none t (x ∷ xs) h = ap (λ b. cond b (Some x) (find t xs)) h.0 ∙ find_none t xs h.1

none_find : {A : Type 0} (t : A → Bool) (xs : List A) → find t xs ≡ None → Each (λ x. t x ≡ false) xs
none_find t [] h = tt
none_find t (x ∷ xs) h = by (t x) refl h (none_find t xs)
  where
    by : (b : Bool) → t x ≡ b → cond b (Some x) (find t xs) ≡ None → (find t xs ≡ None → Each (λ y. t y ≡ false) xs) → (t x ≡ false) × Each (λ y. t y ≡ false) xs
    by true e k more = absurd (let bad : Some x ≡ None = k in cc)
    by false e k more = (e, more k)

find_some : {A : Type 0} (t : A → Bool) (z : A) (xs : List A) → Each (λ x. t x ≡ true → x ≡ z) xs → list_any t xs ≡ true → find t xs ≡ Some z
find_some t z [] h k = absurd (let bad : false ≡ true = k in cc)
find_some t z (x ∷ xs) h k = by (t x) h.0 k (find_some t z xs h.1)
  where
    by : (b : Bool) → (b ≡ true → x ≡ z) → (b || list_any t xs) ≡ true → (list_any t xs ≡ true → find t xs ≡ Some z) → cond b (Some x) (find t xs) ≡ Some z
    by true f j more = ap Some (f refl)
    by false f j more = more j

each_none : {A : Type 0} (t : A → Bool) (xs : List A) → Each (λ x. t x ≡ false) xs → list_any t xs ≡ false
each_none t [] h = refl
each_none t (x ∷ xs) h = ap (λ b. b || list_any t xs) h.0 ∙ each_none t xs h.1

-- the request of a row, and that of its Sent
none_kept : (o : Option Kept) → is_none o ≡ true → o ≡ None
none_kept None h = refl
none_kept (Some k) h = absurd (let bad : false ≡ true = h in cc)

row_request : (r : UpRow) → is_none r.kept ≡ true → open_request r ≡ record { id = r.id; kind = Some r.kind; kept = false; who = None }
row_request r h = ap (λ k. record { id = r.id; kind = Some r.kind; kept = is_some k; who = elim k [ None ↦ None | Some x ↦ x.who ] }) (none_kept r.kept h)

module _ (s : Settings) (F : Family) (r : UpRow) (x : Sending) (l : Live s F r x) (bare : is_none r.kept ≡ true) where
  abbrev request_by : ℕ → Option OpKind → Option Final → OpenRequest
  request_by id kind f = record { id = id; kind = kind; kept = passes (λ q. is_kept_back (asks_who s l.o) q.rest) f; who = elim f [ None ↦ None | Some q ↦ who_id q.behind ] }

  pub same_request : request_of s l.o x ≡ open_request r
  same_request = ap (λ i. request_by i (kind_of l.o.request.rest) (final_answer l.o x)) l.id ∙ ap (λ k. request_by r.id k (final_answer l.o x)) l.kind ∙ ap (request_by r.id (Some r.kind)) l.unanswered ∙ sym (row_request r bare)

  pub opens_one : opens s F x ≡ open_request r ∷ []
  opens_one = ap (opens_of s x) l.found ∙ ap (λ b. elim b [ true ↦ request_of s l.o x ∷ [] | false ↦ [] ]) (live_open s F r x l) ∙ ap (λ q. q ∷ []) same_request

module _ (s : Settings) (F : Family) (rows : List UpRow) (sents : List Sending) (bare : Each (λ r. is_none r.kept ≡ true) rows) (h : Lives s F rows sents) where
  -- what each row's request is, each open request is
  each_request : (P : OpenRequest → Type 0) → Each (λ r. P (open_request r)) rows → Each P (flat_map (opens s F) sents)
  each_request P each = each_flat (λ x. is_open_in s F x ≡ true → OneIn (λ r. Live s F r x) rows) P (opens s F) sents (λ x k. by x (operation F x.op) refl k) h.of_sents
    where
      at_row : (x : Sending) (rs : List UpRow) → Each (λ r. is_none r.kept ≡ true) rs → Each (λ r. P (open_request r)) rs → OneIn (λ r. Live s F r x) rs → Each P (opens s F x)
      at_row x [] b e o = absurd o
      at_row x (r ∷ rs) b e (inl l) = subst (Each P) (sym (opens_one s F r x l b.0)) (e.0, tt)
      at_row x (r ∷ rs) b e (inr o) = at_row x rs b.1 e.1 o

      by : (x : Sending) (q : Option Operation) → operation F x.op ≡ q → (is_open_in s F x ≡ true → OneIn (λ r. Live s F r x) rows) → Each P (opens s F x)
      by x None e k = subst (Each P) (sym (ap (opens_of s x) e)) tt
      by x (Some o) e k = one (is_open s o x) refl
        where
          one : (b : Bool) → is_open s o x ≡ b → Each P (opens s F x)
          one true i = at_row x rows bare each (k (ap (passes (λ q. is_open s q x)) e ∙ i))
          one false i = subst (Each P) (sym (ap (opens_of s x) e ∙ ap (λ b. elim b [ true ↦ request_of s o x ∷ [] | false ↦ [] ]) i)) tt

  -- a row's request is an open one
  some_request : (t : OpenRequest → Bool) (r : UpRow) → is_none r.kept ≡ true → t (open_request r) ≡ true → OneIn (λ x. Live s F r x) sents → list_any t (flat_map (opens s F) sents) ≡ true
  some_request t r b k o = among sents o
    where
      among : (xs : List Sending) → OneIn (λ x. Live s F r x) xs → list_any t (flat_map (opens s F) xs) ≡ true
      among [] i = absurd i
      among (x ∷ xs) (inl l) = list_any-append t (opens s F x) (flat_map (opens s F) xs) ∙ ap (λ ys. list_any t ys || list_any t (flat_map (opens s F) xs)) (opens_one s F r x l b) ∙ or_left (t (open_request r) || false) _ (or_left (t (open_request r)) false k)
      among (x ∷ xs) (inr i) = list_any-append t (opens s F x) (flat_map (opens s F) xs) ∙ or_right (list_any t (opens s F x)) _ (among xs i)

  -- one row at most is under an identifier
  alone : (id : ℕ) (rs : List UpRow) (r : UpRow) → are_apart rs ≡ true → find (λ q. is_under id (open_request q)) rs ≡ Some r → Each (λ q. is_under id (open_request q) ≡ true → q ≡ r) rs
  alone id [] r a e = tt
  alone id (q ∷ rs) r a e = by (is_under id (open_request q)) refl e (alone id rs r (right (list_all (is_apart q) rs) _ a))
    where
      under : (y : UpRow) → is_under id (open_request y) ≡ true → y.id ≡ id
      under y k = same_number y.id id (left (y.id == id) _ k)

      others : is_under id (open_request q) ≡ true → (ys : List UpRow) → list_all (is_apart q) ys ≡ true → Each (λ y. is_under id (open_request y) ≡ true → y ≡ r) ys
      others k [] b = tt
      others k (y ∷ ys) b = (λ j. absurd (let bad : false ≡ true = sym (not_true (q.id == y.id) (right (not (same_op q.op y.op)) _ (left (is_apart q y) _ b))) ∙ ap (λ i. q.id == i) (under y j ∙ sym (under q k)) ∙ eqb_same q.id in cc), others k ys (right (is_apart q y) _ b))

      by : (b : Bool) → is_under id (open_request q) ≡ b → cond b (Some q) (find (λ y. is_under id (open_request y)) rs) ≡ Some r → (find (λ y. is_under id (open_request y)) rs ≡ Some r → Each (λ y. is_under id (open_request y) ≡ true → y ≡ r) rs) → Each (λ y. is_under id (open_request y) ≡ true → y ≡ r) (q ∷ rs)
      by true k g more = (λ j. let same : q ≡ r = cc in same, others k rs (left (list_all (is_apart q) rs) _ a))
      by false k g more = (λ j. absurd (let bad : false ≡ true = sym k ∙ j in cc), more g)

  -- the request that a message is under
  pub same_find : (id : ℕ) → are_apart rows ≡ true → find (is_under id) (map open_request rows) ≡ find (is_under id) (flat_map (opens s F) sents)
  same_find id a = find-map (is_under id) open_request rows ∙ by (find (λ r. is_under id (open_request r)) rows) refl
    where
      row_there : (r : UpRow) (rs : List UpRow) → Each (λ q. is_none q.kept ≡ true) rs → Each (λ q. OneIn (λ x. Live s F q x) sents) rs → find (λ q. is_under id (open_request q)) rs ≡ Some r → (is_none r.kept ≡ true) × (is_under id (open_request r) ≡ true) × OneIn (λ x. Live s F r x) sents
      row_there r [] b o e = absurd (let bad : None ≡ Some r = e in cc)
      row_there r (q ∷ rs) b o e = here (is_under id (open_request q)) refl e (row_there r rs b.1 o.1)
        where
          here : (c : Bool) → is_under id (open_request q) ≡ c → cond c (Some q) (find (λ y. is_under id (open_request y)) rs) ≡ Some r → (find (λ y. is_under id (open_request y)) rs ≡ Some r → (is_none r.kept ≡ true) × (is_under id (open_request r) ≡ true) × OneIn (λ x. Live s F r x) sents) → (is_none r.kept ≡ true) × (is_under id (open_request r) ≡ true) × OneIn (λ x. Live s F r x) sents
          here true k g more = let same : q ≡ r = cc in subst (λ y. (is_none y.kept ≡ true) × (is_under id (open_request y) ≡ true) × OneIn (λ x. Live s F y x) sents) same (b.0, k, o.0)
          here false k g more = more g

      by : (o : Option UpRow) → find (λ r. is_under id (open_request r)) rows ≡ o → option_map open_request o ≡ find (is_under id) (flat_map (opens s F) sents)
      by None e = sym (find_none (is_under id) (flat_map (opens s F) sents) (each_request (λ y. is_under id y ≡ false) (none_find (λ r. is_under id (open_request r)) rows e)))
      by (Some r) e =
          let there : (is_none r.kept ≡ true) × (is_under id (open_request r) ≡ true) × OneIn (λ x. Live s F r x) sents = row_there r rows bare h.of_rows e in
          sym (find_some (is_under id) (open_request r) (flat_map (opens s F) sents) (each_request (λ y. is_under id y ≡ true → y ≡ open_request r) (each_imply (λ q. is_under id (open_request q) ≡ true → q ≡ r) (λ q. is_under id (open_request q) ≡ true → open_request q ≡ open_request r) rows (λ q k j. ap open_request (k j)) (alone id rows r a e))) (some_request (is_under id) r there.0 there.1 there.2))

  -- none waits for an identity
  no_who : (id : ℕ) → (r : UpRow) → is_none r.kept ≡ true → is_under_who id (open_request r) ≡ false
  no_who id r b = ap (is_under_who id) (row_request r b)

  pub rows_no_who : (id : ℕ) → list_any (is_under_who id) (map open_request rows) ≡ false
  rows_no_who id = among rows bare
    where
      among : (rs : List UpRow) → Each (λ r. is_none r.kept ≡ true) rs → list_any (is_under_who id) (map open_request rs) ≡ false
      among [] b = refl
      among (r ∷ rs) b = ap (λ c. c || list_any (is_under_who id) (map open_request rs)) (no_who id r b.0) ∙ among rs b.1

  pub sents_no_who : (id : ℕ) → list_any (is_under_who id) (flat_map (opens s F) sents) ≡ false
  sents_no_who id = each_none (is_under_who id) (flat_map (opens s F) sents) (each_request (λ y. is_under_who id y ≡ false) (each_imply (λ r. is_none r.kept ≡ true) (λ r. is_under_who id (open_request r) ≡ false) rows (no_who id) bare))

-- the own Bind that waits
abbrev own_id : Option OwnWait → Option ℕ
own_id o = elim o [ None ↦ None | Some own ↦ Some own.id ]

abbrev unless_got : (ℕ → Bool) → Option ℕ → Option ℕ
unless_got got q = elim (passes (λ id. not (got id)) q) [ true ↦ q | false ↦ None ]

own_same : (q : Option ℕ) (at : ℕ) (got : ℕ → Bool) → own_id (waiting_of q at got) ≡ unless_got got q
own_same None at got = refl
own_same (Some id) at got = by (got id)
  where
    by : (b : Bool) → own_id (if b then None else Some (record { id = id; at = at })) ≡ (elim (not b) [ true ↦ Some id | false ↦ None ])
    by true = refl
    by false = refl

-- by what a message is under
for_same : (f g : MessageFacts) (m : Message) (o : Option OpenRequest) → list_any (is_under_who m.id) f.requests ≡ list_any (is_under_who m.id) g.requests → f.given m.id ≡ g.given m.id → is_bad_for f m o ≡ is_bad_for g m o
for_same f g m None e k = ap (λ b. if b then is_bad_who m else not (f.given m.id && is_response m.rest)) e ∙ ap (λ b. if list_any (is_under_who m.id) g.requests then is_bad_who m else not (b && is_response m.rest)) k
for_same f g m (Some x) e k = refl

-- whether a message is bad
pub same_bad : (s : Settings) (F : Family) (u : ℕ) (before : List Marked) (l : ConnectionLedger) → Known s F u before l → (m : Message) → is_bad (message_facts l.state) m ≡ is_bad (facts_by_list s F u (entries before)) m
same_bad s F u before l h m = ap (λ b. text b (is_bad_for (message_facts l.state) m (find (is_under m.id) (message_facts l.state).requests))) own ∙ ap (text (is_for_own (facts_by_list s F u (entries before)) m)) (for_same (message_facts l.state) (facts_by_list s F u (entries before)) m (find (is_under m.id) (message_facts l.state).requests) (rows_no_who s F l.state.rows sents bare h.lives m.id ∙ sym (sents_no_who s F l.state.rows sents bare h.lives m.id)) (sym (h.given.ids m.id)) ∙ ap (is_bad_for (facts_by_list s F u (entries before)) m) (same_find s F l.state.rows sents bare h.lives m.id h.apart.apart))
  where
    sents : List Sending
    sents = sendings u (entries before)

    bare : Each (λ r. is_none r.kept ≡ true) l.state.rows
    bare = each_imply (Row (is_sound u (entries before))) (λ r. is_none r.kept ≡ true) l.state.rows (λ r k. not_kept u (entries before) r k) (each_row (is_sound u (entries before)) l.state.rows h.sound)

    text : Bool → Bool → Bool
    text b c = if is_ignored m then false else if b then is_bad_own m else c

    own : is_for_own (message_facts l.state) m ≡ is_for_own (facts_by_list s F u (entries before)) m
    own = ap (passes (λ id. id == m.id)) (ap own_id h.stands.own ∙ own_same (own_bind_id s u (entries before)) (own_bind_at (entries before)) (λ id. has_got id (entries before)))
