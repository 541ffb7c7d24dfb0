-- The identifiers that a message frees on a regular connection, by its rows and by its Sents.
use Rattle.std.proofs.Common.{◌≡◌, ◌⊎◌, inl, inr, ℕ, Bool, true, false, ◌==◌, ◌&&◌, ◌||◌, not, List, [], ◌∷◌, ◌++◌, refl, ap, ◌∙◌, sym}
use Rattle.std.specs.Prelude.{Option, Some, None, flat_map, is_none, is_some, if◌then◌else◌}
use Rattle.std.specs.List.{list_any, list_all}
use Rattle.std.proofs.lemmas.List.{append-nil}
use Rattle.ldap_spec.specs.Bodies.{abandon}
use Rattle.ldap_spec.specs.Kinds.{fits, kind_of}
use Rattle.ldap_spec.specs.Messages.{Message}
use Rattle.lload_names.specs.declared.names.Entry.{Entry}
use Rattle.lload_names.specs.declared.names.PartName.{PartName}
use Rattle.lload_names.specs.declared.names.What.{What}
use Rattle.lload_names.specs.declared.names.OpKind.TheVariants.{Bind}
use Rattle.lload_names.specs.declared.names.What.TheVariants as what
use Rattle.lload_spec.specs.Answers.{Sending, closing_at, gives_id, is_open, of_operation, sending_made, sendings, sendings_from, until_sent}
use Rattle.lload_spec.specs.Entries.{Named, is_down, is_expired, is_own, sent_message, given_id}
use Rattle.lload_spec.specs.Identifiers.{Ids, with_freed, frees, freed_by, is_given_up}
use Rattle.lload_spec.specs.Journal.{Family, same_op}
use Rattle.lload_spec.specs.Lists.{passes}
use Rattle.lload_spec.specs.Operations.{Operation, operation, is_of}
use Rattle.lload_spec.specs.Settings.{Settings}
use Rattle.lload_spec.proofs.Growth.{left, right, both}
use Rattle.lload_laws.specs.ConnectionGrowth.{later_sending}
use Rattle.part_laws.proofs.ListLaws.{eqb_same, eqb_sym, false_by, not_true, or_elim, or_left, or_right, same_number}
use Rattle.part_spec.specs.ConnectionState.{ConnectionState, OwnWait, UpRow, behind_message, freed_id, is_under_own}
use Rattle.connection_laws.proofs.Apart.{RowsApart, are_apart, is_apart}
use Rattle.connection_laws.proofs.Closings.{none_behind}
use Rattle.connection_laws.proofs.Rows.{is_sound, no_bind, not_kept}
use Rattle.client_answer_laws.proofs.Each.{Each, each_append, each_both, each_imply}
use Rattle.rows_laws.proofs.Live.{Live, is_end, live_idle, none_imply, unclosed, until_any}
use Rattle.rows_laws.proofs.Lives.{Lives, Stays, is_open_in}
use Rattle.rows_laws.proofs.OwnApart.{OwnApart}
use Rattle.rows_laws.proofs.Somewhere.{OneIn, one_passes}
use Rattle.rows_laws.proofs.Steps.{got_answers, got_other}
use Rattle.rows_laws.proofs.Walk.{Row, each_other, each_row}

pub same_by : (a b : Bool) → (a ≡ true → b ≡ true) → (b ≡ true → a ≡ true) → a ≡ b
same_by true true f g = refl
same_by false false f g = refl
same_by true false f g = absurd (let bad : false ≡ true = f refl in cc)
same_by false true f g = absurd (let bad : false ≡ true = g refl in cc)

pub any_each : {A : Type 0} {C : Type 0} (P : A → Type 0) (q : A → Bool) (xs : List A) → Each P xs → ((x : A) → P x → q x ≡ true → C) → list_any q xs ≡ true → C
any_each P q [] e f h = absurd (let bad : false ≡ true = h in cc)
any_each P q (x ∷ xs) e f h = or_elim (q x) (list_any q xs) (f x e.0) (any_each P q xs e.1 f) h

-- One of a list at most gives its number.
abbrev frees_by : {A : Type 0} → (A → Bool) → (A → ℕ) → A → List ℕ
frees_by t id x = if t x then id x ∷ [] else []

none_freed : {A : Type 0} (t : A → Bool) (id : A → ℕ) (xs : List A) → Each (λ x. t x ≡ false) xs → flat_map (frees_by t id) xs ≡ []
none_freed t id [] h = refl
none_freed t id (x ∷ xs) h = ap (λ b. (if b then id x ∷ [] else []) ++ flat_map (frees_by t id) xs) h.0 ∙ none_freed t id xs h.1

one_freed_row : (t : UpRow → Bool) (n : ℕ) (rows : List UpRow) → are_apart rows ≡ true → Each (λ r. t r ≡ true → r.id ≡ n) rows → flat_map (frees_by t (λ r. r.id)) rows ≡ (if list_any t rows then n ∷ [] else [])
one_freed_row t n [] a h = refl
one_freed_row t n (r ∷ rows) a h = by (t r) h.0 (one_freed_row t n rows (right (list_all (is_apart r) rows) _ a) h.1)
  where
    others : r.id ≡ n → (qs : List UpRow) → list_all (is_apart r) qs ≡ true → Each (λ q. t q ≡ true → q.id ≡ n) qs → Each (λ q. t q ≡ false) qs
    others e [] b g = tt
    others e (q ∷ qs) b g = (false_by (t q) (λ k. sym (not_true (r.id == q.id) (right (not (same_op r.op q.op)) _ (left (is_apart r q) _ b))) ∙ ap (λ i. r.id == i) (g.0 k ∙ sym e) ∙ eqb_same r.id), others e qs (right (is_apart r q) _ b) g.1)

    by : (b : Bool) → (b ≡ true → r.id ≡ n) → flat_map (frees_by t (λ q. q.id)) rows ≡ (if list_any t rows then n ∷ [] else []) → (if b then r.id ∷ [] else []) ++ flat_map (frees_by t (λ q. q.id)) rows ≡ (if b || list_any t rows then n ∷ [] else [])
    by true f more = ap (λ l. r.id ∷ l) (none_freed t (λ q. q.id) rows (others (f refl) rows (left (list_all (is_apart r) rows) _ a) h.1)) ∙ ap (λ i. i ∷ []) (f refl)
    by false f more = more

-- a later Sent gives its identifier behind an earlier one
gives_own : (w : What) (q : Named Message) → sent_message w ≡ Some q → passes (λ n. n == q.value.id) (given_id w) ≡ true
gives_own (what.Sent id op rest) q e = let same : record { op = op; value = record { id = id; rest = rest } } ≡ q = cc in ap (λ (z : Named Message). id == z.value.id) (sym same) ∙ eqb_same id
gives_own _ q e = absurd (let bad : None ≡ Some q = e in cc)

later_gives : (u : ℕ) (before es : List Entry) → Each (λ y. list_any (gives_id y.id) es ≡ true) (sendings_from u before es)
later_gives u before [] = tt
later_gives u before (e ∷ es) = each_append (λ y. list_any (gives_id y.id) (e ∷ es) ≡ true) (sending_made u before e es (sent_message e.what)) (sendings_from u (before ++ e ∷ []) es) (here (sent_message e.what) refl) (each_imply (λ y. list_any (gives_id y.id) es ≡ true) (λ y. list_any (gives_id y.id) (e ∷ es) ≡ true) (sendings_from u (before ++ e ∷ []) es) (λ y k. or_right (gives_id y.id e) _ k) (later_gives u (before ++ e ∷ []) es))
  where
    here : (o : Option (Named Message)) → sent_message e.what ≡ o → Each (λ y. list_any (gives_id y.id) (e ∷ es) ≡ true) (sending_made u before e es o)
    here None k = tt
    here (Some q) k = (or_left (gives_id q.value.id e) _ (gives_own e.what q k), tt)

one_freed_sent : (t : Sending → Bool) (n u : ℕ) (before es : List Entry) → Each (λ x. t x ≡ true → (x.id ≡ n) × (list_any (gives_id n) x.behind ≡ false)) (sendings_from u before es) → flat_map (frees_by t (λ x. x.id)) (sendings_from u before es) ≡ (if list_any t (sendings_from u before es) then n ∷ [] else [])
one_freed_sent t n u before [] h = refl
one_freed_sent t n u before (e ∷ es) h = by (sent_message e.what) h (one_freed_sent t n u (before ++ e ∷ []) es)
  where
    by : (o : Option (Named Message)) → Each (λ x. t x ≡ true → (x.id ≡ n) × (list_any (gives_id n) x.behind ≡ false)) (sending_made u before e es o ++ sendings_from u (before ++ e ∷ []) es) → (Each (λ x. t x ≡ true → (x.id ≡ n) × (list_any (gives_id n) x.behind ≡ false)) (sendings_from u (before ++ e ∷ []) es) → flat_map (frees_by t (λ x. x.id)) (sendings_from u (before ++ e ∷ []) es) ≡ (if list_any t (sendings_from u (before ++ e ∷ []) es) then n ∷ [] else [])) → flat_map (frees_by t (λ x. x.id)) (sending_made u before e es o ++ sendings_from u (before ++ e ∷ []) es) ≡ (if list_any t (sending_made u before e es o ++ sendings_from u (before ++ e ∷ []) es) then n ∷ [] else [])
    by None k more = more k
    by (Some q) k more = one (t (record { connection = u; op = q.op; id = q.value.id; at = e.at; rest = q.value.rest; before = before; behind = es })) k.0
      where
        one : (b : Bool) → (b ≡ true → (q.value.id ≡ n) × (list_any (gives_id n) es ≡ false)) → (if b then q.value.id ∷ [] else []) ++ flat_map (frees_by t (λ x. x.id)) (sendings_from u (before ++ e ∷ []) es) ≡ (if b || list_any t (sendings_from u (before ++ e ∷ []) es) then n ∷ [] else [])
        one true f = ap (λ l. q.value.id ∷ l) (none_freed t (λ x. x.id) (sendings_from u (before ++ e ∷ []) es) (each_imply (λ y. (t y ≡ true → (y.id ≡ n) × (list_any (gives_id n) y.behind ≡ false)) × (list_any (gives_id y.id) es ≡ true)) (λ y. t y ≡ false) (sendings_from u (before ++ e ∷ []) es) (λ y c. false_by (t y) (λ j. sym (f refl).1 ∙ ap (λ i. list_any (gives_id i) es) (sym (c.0 j).0) ∙ c.1)) (each_both (λ y. t y ≡ true → (y.id ≡ n) × (list_any (gives_id n) y.behind ≡ false)) (λ y. list_any (gives_id y.id) es ≡ true) (sendings_from u (before ++ e ∷ []) es) k.1 (later_gives u (before ++ e ∷ []) es)))) ∙ ap (λ i. i ∷ []) (f refl).0
        one false f = more k.1

-- whether a message frees the identifier of a row
abbrev empties : List UpRow → Bool
empties rows = elim rows [ [] ↦ true | x ∷ xs ↦ false ]

freed_is : (at : ℕ) (m : Message) (r : UpRow) → freed_id at m r ≡ frees_by (λ q. empties (behind_message at m q)) (λ q. q.id) r
freed_is at m r = by (behind_message at m r)
  where
    by : (rows : List UpRow) → (elim rows [ [] ↦ r.id ∷ [] | x ∷ xs ↦ [] ]) ≡ (if empties rows then r.id ∷ [] else [])
    by [] = refl
    by (x ∷ xs) = refl

none_two : (a b : Entry → Bool) (es : List Entry) → list_any a es ≡ false → list_any b es ≡ false → list_any (λ y. a y || b y) es ≡ false
none_two a b [] h k = refl
none_two a b (x ∷ es) h k = by (a x) (b x) h k (none_two a b es)
  where
    by : (p q : Bool) → (p || list_any a es) ≡ false → (q || list_any b es) ≡ false → (list_any a es ≡ false → list_any b es ≡ false → list_any (λ y. a y || b y) es ≡ false) → ((p || q) || list_any (λ y. a y || b y) es) ≡ false
    by true q i j more = absurd (let bad : true ≡ false = i in cc)
    by false true i j more = absurd (let bad : true ≡ false = j in cc)
    by false false i j more = more i j

-- what an entry frees was open
frees_open : (s : Settings) (F : Family) (e : Entry) (x : Sending) → list_any is_down x.behind ≡ false → of_operation F (frees s e) x ≡ true → is_open_in s F x ≡ true
frees_open s F e x there h = by (operation F x.op) h
  where
    one : (o : Operation) → frees s e o x ≡ true → is_open s o x ≡ true
    one o k =
        let going : list_any (λ y. is_expired o.name y || is_own (abandon x.id) y) x.behind ≡ false = not_true (is_given_up o x) (left (not (is_given_up o x)) _ k) in
        both (is_none (closing_at s o x) && not (list_any (λ y. is_expired o.name y || is_down y) x.behind)) _
        (both (is_none (closing_at s o x)) _ (left (is_none (closing_at s o x)) _ (right (not (is_given_up o x)) _ k))
        (ap not (none_two (is_expired o.name) is_down x.behind (none_imply (is_expired o.name) (λ y. is_expired o.name y || is_own (abandon x.id) y) x.behind (λ y j. or_left (is_expired o.name y) _ j) going) there)))
        (ap not (unnamed (not (is_of Bind o)) (false_by (list_any (is_own (abandon x.id)) (until_sent x.id x.behind)) (λ j. sym (none_imply (is_own (abandon x.id)) (λ y. is_expired o.name y || is_own (abandon x.id) y) x.behind (λ y i. or_right (is_expired o.name y) _ i) going) ∙ until_any (is_own (abandon x.id)) x.id x.behind j))))
      where
        unnamed : (a : Bool) {b : Bool} → b ≡ false → (a && b) ≡ false
        unnamed true j = j
        unnamed false j = refl

    by : (q : Option Operation) → passes (λ o. frees s e o x) q ≡ true → passes (λ o. is_open s o x) q ≡ true
    by None k = k
    by (Some o) k = one o k

-- a Sent that is live behind an entry, it doesn't free
live_unfreed : (s : Settings) (F : Family) (e : Entry) (q : UpRow) (x : Sending) → Live s F q (later_sending e x) → of_operation F (frees s e) x ≡ false
live_unfreed s F e q x l = ap (passes (λ o. frees s e o x)) l.found ∙ ap (λ c. not (is_given_up l.o x) && (is_none (closing_at s l.o x) && is_some c)) (unclosed s F q (later_sending e x) l) ∙ by (not (is_given_up l.o x)) (is_none (closing_at s l.o x))
  where
    by : (a b : Bool) → (a && (b && false)) ≡ false
    by true true = refl
    by true false = refl
    by false b = refl

module _ (s : Settings) (F : Family) (u : ℕ) (place : List Entry) (p : ConnectionState) (sound : list_all (is_sound u place) p.rows ≡ true) (apart : RowsApart place p) (own : (v : OwnWait) → p.own_bind ≡ Some v → OwnApart p.rows p.ids v) (there : list_any is_down place ≡ false) (h : Lives s F p.rows (sendings u place)) (part : PartName) (at id : ℕ) (rest : List ℕ) where
  abbrev got : Entry
  got = record { part = part; at = at; what = what.Got id rest }

  abbrev m : Message
  m = record { id = id; rest = rest }

  abbrev by_row : UpRow → Bool
  by_row r = empties (behind_message at m r)

  abbrev by_sent : Sending → Bool
  by_sent x = of_operation F (frees s got) x

  sounds : Each (Row (is_sound u place)) p.rows
  sounds = each_row (is_sound u place) p.rows sound

  -- the row and the Sent agree
  agree : (r : UpRow) → is_sound u place r ≡ true → (x : Sending) → Live s F r x → by_row r ≡ by_sent x
  agree r k x l = by (got_answers s F r x l (no_bind u place r k) (not_kept u place r k) part at id rest)
    where
      not_given_up : is_given_up l.o x ≡ false
      not_given_up = none_imply (λ y. is_expired l.o.name y || is_own (abandon x.id) y) (is_end l.o x) x.behind (λ y j. or_left (is_expired l.o.name y || is_own (abandon x.id) y) (is_down y) j) l.going

      by : ((behind_message at m r ≡ []) × (is_some (closing_at s l.o (later_sending got x)) ≡ true)) ⊎ Stays s F (behind_message at m r) (later_sending got x) → by_row r ≡ by_sent x
      by (inl c) = ap empties c.0 ∙ sym (ap (passes (λ o. frees s got o x)) l.found ∙ ap (λ b. not b && (is_none (closing_at s l.o x) && is_some (closing_at s l.o (later_sending got x)))) not_given_up ∙ ap (λ q. is_none q && is_some (closing_at s l.o (later_sending got x))) (unclosed s F r x l) ∙ c.1)
      by (inr c) = ap empties c.is ∙ sym (live_unfreed s F got c.row x c.live)

  open_there : Each (λ x. list_any is_down x.behind ≡ false) (sendings u place)
  open_there = each_imply (λ x. not (list_any is_down x.behind) ≡ true) (λ x. list_any is_down x.behind ≡ false) (sendings u place) (λ x k. not_true (list_any is_down x.behind) k) (all_of (sendings u place) (none_behind u is_down [] place there))
    where
      all_of : (xs : List Sending) → list_all (λ x. not (list_any is_down x.behind)) xs ≡ true → Each (λ x. not (list_any is_down x.behind) ≡ true) xs
      all_of [] k = tt
      all_of (x ∷ xs) k = (left (not (list_any is_down x.behind)) _ k, all_of xs (right (not (list_any is_down x.behind)) _ k))

  -- the row of a Sent that is freed
  abbrev Rowed : Sending → Type 0
  Rowed x = by_sent x ≡ true → OneIn (λ r. Live s F r x) p.rows

  rowed : Each Rowed (sendings u place)
  rowed = each_imply (λ x. (is_open_in s F x ≡ true → OneIn (λ r. Live s F r x) p.rows) × (list_any is_down x.behind ≡ false)) Rowed (sendings u place) (λ x k j. k.0 (frees_open s F got x k.1 j)) (each_both (λ x. is_open_in s F x ≡ true → OneIn (λ r. Live s F r x) p.rows) (λ x. list_any is_down x.behind ≡ false) (sendings u place) h.of_sents open_there)

  row_id : (r : UpRow) → is_sound u place r ≡ true → OneIn (λ x. Live s F r x) (sendings u place) → by_row r ≡ true → r.id ≡ id
  row_id r k one j = same_number r.id id (by (r.id == id) refl)
    where
      at_one : (xs : List Sending) → OneIn (λ x. Live s F r x) xs → (r.id == id) ≡ false → false ≡ true
      at_one [] o i = absurd o
      at_one (x ∷ xs) (inl l) i = sym (ap empties (got_other s F r x l (no_bind u place r k) (not_kept u place r k) part at id rest i)) ∙ j
      at_one (x ∷ xs) (inr o) i = at_one xs o i

      by : (b : Bool) → (r.id == id) ≡ b → b ≡ true
      by true i = refl
      by false i = at_one (sendings u place) one i

  sent_id : (x : Sending) → Rowed x → by_sent x ≡ true → (x.id ≡ id) × (list_any (gives_id id) x.behind ≡ false)
  sent_id x k j = each_one p.rows sounds (k j)
    where
      each_one : (rs : List UpRow) → Each (Row (is_sound u place)) rs → OneIn (λ r. Live s F r x) rs → (x.id ≡ id) × (list_any (gives_id id) x.behind ≡ false)
      each_one [] a o = absurd o
      each_one (r ∷ rs) a (inr o) = each_one rs a.1 o
      each_one (r ∷ rs) a (inl l) =
          let same : x.id ≡ id = l.id ∙ other r l a.0 in
          (same, ap (λ i. list_any (gives_id i) x.behind) (sym same) ∙ l.reigns)
        where
          other : (q : UpRow) → Live s F q x → is_sound u place q ≡ true → q.id ≡ id
          other q l i = same_number q.id id (by (q.id == id) refl)
            where
              by : (b : Bool) → (q.id == id) ≡ b → b ≡ true
              by true e = refl
              by false e = sym (ap empties (got_other s F q x l (no_bind u place q i) (not_kept u place q i) part at id rest e)) ∙ agree q i x l ∙ j

  both_ways : list_any by_row p.rows ≡ list_any by_sent (sendings u place)
  both_ways = same_by (list_any by_row p.rows) (list_any by_sent (sendings u place)) (any_each (λ r. (is_sound u place r ≡ true) × OneIn (λ x. Live s F r x) (sendings u place)) by_row p.rows (each_both (Row (is_sound u place)) (λ r. OneIn (λ x. Live s F r x) (sendings u place)) p.rows sounds h.of_rows) (λ r k j. one_passes (λ x. Live s F r x) by_sent (sendings u place) (λ x l. sym (agree r k.0 x l) ∙ j) k.1)) (any_each Rowed by_sent (sendings u place) rowed (λ x k j. row_there p.rows sounds x j (k j)))
    where
      row_there : (rs : List UpRow) → Each (Row (is_sound u place)) rs → (x : Sending) → by_sent x ≡ true → OneIn (λ r. Live s F r x) rs → list_any by_row rs ≡ true
      row_there [] a x j o = absurd o
      row_there (r ∷ rs) a x j (inl l) = or_left (by_row r) _ (agree r a.0 x l ∙ j)
      row_there (r ∷ rs) a x j (inr o) = or_right (by_row r) _ (row_there rs a.1 x j o)

  rows_free : flat_map (freed_id at m) p.rows ≡ freed_by s F u place got
  rows_free = ap (λ f. flat_map f p.rows) (λ i. λ r. freed_is at m r i) ∙ one_freed_row by_row id p.rows apart.apart (each_imply (λ r. (is_sound u place r ≡ true) × OneIn (λ x. Live s F r x) (sendings u place)) (λ r. by_row r ≡ true → r.id ≡ id) p.rows (λ r k j. row_id r k.0 k.1 j) (each_both (Row (is_sound u place)) (λ r. OneIn (λ x. Live s F r x) (sendings u place)) p.rows sounds h.of_rows)) ∙ ap (λ b. if b then id ∷ [] else []) both_ways ∙ sym (one_freed_sent by_sent id u [] place (each_imply Rowed (λ x. by_sent x ≡ true → (x.id ≡ id) × (list_any (gives_id id) x.behind ≡ false)) (sendings u place) (λ x k j. sent_id x k j) rowed))

  -- a message under the own Bind's identifier frees none
  own_frees : (v : OwnWait) → p.own_bind ≡ Some v → (v.id == id) ≡ true → [] ≡ freed_by s F u place got
  own_frees v e k = sym (none_freed by_sent (λ x. x.id) (sendings u place) (each_imply Rowed (λ x. by_sent x ≡ false) (sendings u place) (λ x f. false_by (by_sent x) (λ j. there_is x j p.rows (each_other v.id p.rows (own v e).row) (f j))) rowed))
    where
      there_is : (x : Sending) → by_sent x ≡ true → (rs : List UpRow) → Each (λ r. (r.id == v.id) ≡ false) rs → OneIn (λ r. Live s F r x) rs → false ≡ true
      there_is x j [] a o = absurd o
      there_is x j (r ∷ rs) a (inr o) = there_is x j rs a.1 o
      there_is x j (r ∷ rs) a (inl l) = sym (live_unfreed s F got r x (live_idle s F r x l got refl refl (ap (λ b. if b && passes (λ n. fits n rest) (kind_of l.o.request.rest) then Some rest else None) (ap (λ n. n == x.id) (sym (same_number v.id id k)) ∙ ap (λ n. v.id == n) l.id ∙ eqb_sym v.id r.id ∙ a.0)))) ∙ j

  abbrev ids_by : Bool → Ids
  ids_by b = if b then p.ids else with_freed (flat_map (freed_id at m) p.rows) p.ids

  pub got_ids : (if is_under_own p id then p.ids else with_freed (flat_map (freed_id at m) p.rows) p.ids) ≡ with_freed (freed_by s F u place got) p.ids
  got_ids = by p.own_bind refl
    where
      none : p.ids ≡ with_freed [] p.ids
      none = ap (λ f. record p.ids { free = f }) (sym (append-nil p.ids.free))

      free : ids_by false ≡ with_freed (freed_by s F u place got) p.ids
      free = ap (λ l. with_freed l p.ids) rows_free

      by : (o : Option OwnWait) → p.own_bind ≡ o → ids_by (passes (λ v. v.id == id) o) ≡ with_freed (freed_by s F u place got) p.ids
      by None e = free
      by (Some v) e = one (v.id == id) refl
        where
          one : (b : Bool) → (v.id == id) ≡ b → ids_by b ≡ with_freed (freed_by s F u place got) p.ids
          one true k = none ∙ ap (λ l. with_freed l p.ids) (own_frees v e k)
          one false k = free
