-- Which messages are bad, what a message gives, and the state behind it, by what it is under.
use Rattle.std.proofs.Common.{◌≡◌, ℕ, ◌≤◌, Bool, true, false, ◌==◌, ◌&&◌, ◌||◌, not, if◌then◌else◌, List, [], ◌∷◌, ◌++◌, map, Option, Some, None, arith, refl, ap, ◌∙◌}
use Rattle.std.proofs.lemmas.Bool.Decides.{nat_tests}
use Rattle.std.proofs.lemmas.List.{append-nil}
use Rattle.std.specs.Prelude.{nat_lt, flat_map, find}
use Rattle.std.specs.List.{list_any}
use Rattle.ldap_spec.specs.Messages.{Message}
use Rattle.ldap_spec.specs.Tags.{extended_response}
use Rattle.ldap_spec.specs.Kinds.{fits, is_final, is_response, same_kind, tag_of}
use Rattle.lload_names.specs.declared.names.OpKind.TheVariants.{Bind}
use Rattle.lload_names.specs.declared.names.EndWhy.TheVariants.{Bad}
use Rattle.lload_names.specs.declared.names.What.TheVariants as what
use Rattle.lload_spec.specs.BadMessages as bad
use Rattle.lload_spec.specs.BadMessages.{OpenRequest, MessageFacts}
use Rattle.id_table.specs.declared.row.Row.{Row}
use Rattle.id_table.specs.Rows.{row_of, without, changed, answered as answered_row, Rises}
use Rattle.part_spec.specs.Inputs.{Act, act, nothing, also, reply}
use Rattle.part_spec.specs.ConnectionState.{ConnectionState, UpRow, is_under, is_under_own, behind_message, freed_id, with_got, message_facts, open_request}
use Rattle.part_spec.specs.ConnectionTurn.{goes_down, ended, latency}
use Rattle.part_spec.specs.RegularTurn.{answered, own_answer, row_answer, message}
use Rattle.conn_core.specs.Conn.{Conn, state_of}
use Rattle.conn_core.specs.Kept.{up_row, up_found, ArePlain}
use Rattle.conn_core.proofs.Plain.{flat-none, flat-gone, flat-changed, skip-none, skip-one, find-under, find-request, none-under-who, asked}
use Rattle.upstream_conn.specs.Part.{up_wait, under_own}
use Rattle.conn_core.specs.Dropped.{is_dropped}
use Rattle.upstream_conn.specs.Told.{told_of}
use Rattle.upstream_conn.specs.declared.part.OwnWait.{OwnWait}
use Rattle.upstream_conn.specs.declared.told.Told.TheVariants.{Unfit, More, Last}
use Rattle.upstream_conn.proofs.Messages.{under-own-is, for-own-is, plain-at, leaves, skips, more-row, last-row, unfit-row, more-frees, last-frees, unfit-frees, got-other}

stray-by : (ign f y g r x z w : Bool) → f ≡ false → w ≡ (if x then z else not (g && r)) → x ≡ false → (ign || (g && r)) ≡ true → (if ign then false else if f then y else w) ≡ false
stray-by true f y g r x z w h v k e = refl
stray-by false false y g r false z w h v k e = v ∙ ap not e
stray-by false true y g r x z w h v k e = absurd (let bad : true ≡ false = h in cc)
stray-by false false y g r true z w h v k e = absurd (let bad : true ≡ false = k in cc)

stray-bad-by : (ign f y g r x z w : Bool) → f ≡ false → w ≡ (if x then z else not (g && r)) → x ≡ false → (ign || (g && r)) ≡ false → (if ign then false else if f then y else w) ≡ true
stray-bad-by true f y g r x z w h v k e = absurd (let bad : true ≡ false = e in cc)
stray-bad-by false false y g r false z w h v k e = v ∙ ap not e
stray-bad-by false true y g r x z w h v k e = absurd (let bad : true ≡ false = h in cc)
stray-bad-by false false y g r true z w h v k e = absurd (let bad : true ≡ false = k in cc)

good-by : (ign f y w : Bool) → f ≡ false → w ≡ false → (if ign then false else if f then y else w) ≡ false
good-by true f y w h v = refl
good-by false false y w h v = v
good-by false true y w h v = absurd (let bad : true ≡ false = h in cc)

unfit-by : (ign f y w : Bool) → ign ≡ false → f ≡ false → w ≡ true → (if ign then false else if f then y else w) ≡ true
unfit-by false false y w h k v = v
unfit-by true f y w h k v = absurd (let bad : true ≡ false = h in cc)
unfit-by false true y w h k v = absurd (let bad : true ≡ false = k in cc)

fit-by : (a b x y : Bool) → a ≡ true → b ≡ false → (not a || b && x && y) ≡ false
fit-by true false x y h k = refl
fit-by false b x y h k = absurd (let bad : false ≡ true = h in cc)
fit-by true true x y h k = absurd (let bad : true ≡ false = k in cc)

misfit-by : (a y : Bool) → a ≡ false → (not a || y) ≡ true
misfit-by false y h = refl
misfit-by true y h = absurd (let bad : true ≡ false = h in cc)

module _ (c : Conn) (own : Option OwnWait) (waiting : List ℕ) (at : ℕ) (m : Message) (plain : ArePlain c.table.rows) (other : under_own m.id own ≡ false) where
  abbrev p : ConnectionState
  p = state_of c (up_wait own) None None waiting

  abbrev f : MessageFacts
  f = message_facts p

  pub not-own : is_under_own p m.id ≡ false
  not-own = under-own-is m.id own c waiting ∙ other

  for-own : bad.is_for_own f m ≡ false
  for-own = for-own-is m own c waiting ∙ other

  -- a message that is under nothing that waits, and has no effect
  pub dropped-good : row_of m.id c.table.rows ≡ None → is_dropped c.table.ids.next m.id m.rest ≡ true → bad.is_bad f m ≡ false
  dropped-good none drop = stray-by (bad.is_ignored m) (bad.is_for_own f m) (bad.is_bad_own m) (nat_lt 0 m.id && nat_lt m.id c.table.ids.next) (is_response m.rest) (list_any (bad.is_under_who m.id) f.requests) (bad.is_bad_who m) (bad.is_bad_other f m) for-own (ap (bad.is_bad_for f m) (find-request m.id c.table.rows plain ∙ ap asked none)) (none-under-who m.id c.table.rows plain) drop

  -- and one that has one
  pub stray-bad : row_of m.id c.table.rows ≡ None → is_dropped c.table.ids.next m.id m.rest ≡ false → bad.is_bad f m ≡ true
  stray-bad none kept = stray-bad-by (bad.is_ignored m) (bad.is_for_own f m) (bad.is_bad_own m) (nat_lt 0 m.id && nat_lt m.id c.table.ids.next) (is_response m.rest) (list_any (bad.is_under_who m.id) f.requests) (bad.is_bad_who m) (bad.is_bad_other f m) for-own (ap (bad.is_bad_for f m) (find-request m.id c.table.rows plain ∙ ap asked none)) (none-under-who m.id c.table.rows plain) kept

  pub none-answered : row_of m.id c.table.rows ≡ None → answered p at m ≡ nothing
  none-answered none =
      ap (λ (b : Bool). let a : Act = elim b [ true ↦ own_answer p m | false ↦ elim (find (is_under m.id) p.rows) [ None ↦ nothing | Some r ↦ row_answer p at m r ] ] in a) not-own
      ∙ ap (λ (o : Option UpRow). let a : Act = elim o [ None ↦ nothing | Some r ↦ row_answer p at m r ] in a) (find-under m.id c.table.rows plain ∙ ap up_found none)

  module _ (r : Row) (found : row_of m.id c.table.rows ≡ Some r) where
    pub some-answered : answered p at m ≡ row_answer p at m (up_row r)
    some-answered =
        ap (λ (b : Bool). let a : Act = elim b [ true ↦ own_answer p m | false ↦ elim (find (is_under m.id) p.rows) [ None ↦ nothing | Some q ↦ row_answer p at m q ] ] in a) not-own
        ∙ ap (λ (o : Option UpRow). let a : Act = elim o [ None ↦ nothing | Some q ↦ row_answer p at m q ] in a) (find-under m.id c.table.rows plain ∙ ap up_found found)

    asked-is : bad.is_bad_other f m ≡ bad.is_bad_answer m (open_request (up_row r))
    asked-is = ap (bad.is_bad_for f m) (find-request m.id c.table.rows plain ∙ ap asked found)

    pub fit-good : fits r.kind m.rest ≡ true → bad.is_bad f m ≡ false
    fit-good fit = good-by (bad.is_ignored m) (bad.is_for_own f m) (bad.is_bad_own m) (bad.is_bad_other f m) for-own (asked-is ∙ fit-by (fits r.kind m.rest) (same_kind Bind r.kind) _ _ fit (plain-at m.id c.table.rows r plain found).kind)

    pub unfit-bad : 1 ≤ m.id → fits r.kind m.rest ≡ false → bad.is_bad f m ≡ true
    unfit-bad given fit = unfit-by (bad.is_ignored m) (bad.is_for_own f m) (bad.is_bad_own m) (bad.is_bad_other f m) (ap (λ b. b && tag_of m.rest == extended_response) (let z : (m.id == 0) ≡ false = grind (arith, nat_tests, given) in z)) for-own (asked-is ∙ misfit-by (fits r.kind m.rest) _ fit)

    abbrev told_act : Bool → Act
    told_act b = elim b [ false ↦ act [] (reply r.op m.rest false None) | true ↦ act [] (reply r.op m.rest true None ++ ended p r.op (latency at (up_row r))) ]

    pub row-answers : (b : Bool) → is_final r.kind m.rest ≡ b → row_answer p at m (up_row r) ≡ told_act b
    row-answers b e = ap (λ (d : Bool). told_act d) e

  -- a message that isn't bad
  pub message-good : (a : Act) → bad.is_bad f m ≡ false → answered p at m ≡ a → message p at m ≡ also (act (what.Got m.id m.rest ∷ []) []) a
  message-good a good e =
      ap (λ (b : Bool). let x : Act = elim b [ true ↦ goes_down p Bad | false ↦ answered p at m ] in also (act (what.Got m.id m.rest ∷ []) []) x) good
      ∙ ap (λ (x : Act). also (act (what.Got m.id m.rest ∷ []) []) x) e

  -- and one that is
  pub message-bad : bad.is_bad f m ≡ true → message p at m ≡ also (act (what.Got m.id m.rest ∷ []) []) (goes_down p Bad)
  message-bad b = ap (λ (b : Bool). let x : Act = elim b [ true ↦ goes_down p Bad | false ↦ answered p at m ] in also (act (what.Got m.id m.rest ∷ []) []) x) b

  -- the state behind it
  with_rows : List UpRow → List ℕ → ConnectionState
  with_rows xs ns = record p { rows = xs; ids = record c.table.ids { free = c.table.ids.free ++ ns } }

  got-rows : (xs : List UpRow) (ns : List ℕ) → flat_map (behind_message at m) (map up_row c.table.rows) ≡ xs → flat_map (freed_id at m) (map up_row c.table.rows) ≡ ns → with_got at m p ≡ with_rows xs ns
  unfolding with_rows
  got-rows xs ns e g =
      got-other c (up_wait own) waiting at m not-own
      ∙ ap (λ l. record p { rows = l; ids = record c.table.ids { free = c.table.ids.free ++ flat_map (freed_id at m) (map up_row c.table.rows) } }) e
      ∙ ap (λ l. record p { rows = xs; ids = record c.table.ids { free = c.table.ids.free ++ l } }) g

  pub got-none : row_of m.id c.table.rows ≡ None → with_got at m p ≡ p
  unfolding with_rows
  got-none none =
      got-rows (map up_row c.table.rows) [] (flat-none (behind_message at m) m.id (leaves at m) c.table.rows plain none) (skip-none (freed_id at m) m.id (skips at m) c.table.rows plain none)
      ∙ ap (λ l. record p { ids = record c.table.ids { free = l } }) (append-nil c.table.ids.free)

  module _ (r : Row) (found : row_of m.id c.table.rows ≡ Some r) (rises : Rises 1 c.table.rows c.table.ids.next) where
    pub got-more : told_of r.kind m.rest ≡ More → with_got at m p ≡ record p { rows = map up_row (changed (answered_row at) m.id c.table.rows) }
    unfolding with_rows
    got-more told =
        got-rows _ [] (flat-changed (behind_message at m) m.id (leaves at m) (answered_row at) 1 c.table.ids.next c.table.rows r rises plain found (more-row at m c.table.rows r plain found told)) (skip-one (freed_id at m) m.id (skips at m) 1 c.table.ids.next c.table.rows r rises plain found ∙ more-frees at m c.table.rows r plain found told)
        ∙ ap (λ l. record p { rows = map up_row (changed (answered_row at) m.id c.table.rows); ids = record c.table.ids { free = l } }) (append-nil c.table.ids.free)

    pub got-last : told_of r.kind m.rest ≡ Last → with_got at m p ≡ record p { rows = map up_row (without m.id c.table.rows); ids = record c.table.ids { free = c.table.ids.free ++ r.id ∷ [] } }
    unfolding with_rows
    got-last told = got-rows _ (r.id ∷ []) (flat-gone (behind_message at m) m.id (leaves at m) 1 c.table.ids.next c.table.rows r rises plain found (last-row at m c.table.rows r plain found told)) (skip-one (freed_id at m) m.id (skips at m) 1 c.table.ids.next c.table.rows r rises plain found ∙ last-frees at m c.table.rows r plain found told)

    pub got-unfit : told_of r.kind m.rest ≡ Unfit → with_got at m p ≡ p
    unfolding with_rows
    got-unfit told =
        got-rows _ [] (flat-changed (behind_message at m) m.id (leaves at m) (λ x. x) 1 c.table.ids.next c.table.rows r rises plain found (unfit-row at m c.table.rows r plain found told) ∙ ap (map up_row) (same-rows m.id c.table.rows)) (skip-one (freed_id at m) m.id (skips at m) 1 c.table.ids.next c.table.rows r rises plain found ∙ unfit-frees at m c.table.rows r plain found told)
        ∙ ap (λ l. record p { ids = record c.table.ids { free = l } }) (append-nil c.table.ids.free)
      where
        same-rows : (id : ℕ) (rows : List Row) → changed (λ x. x) id rows ≡ rows
        same-rows id [] = refl
        same-rows id (x ∷ xs) = by (x.id == id) (same-rows id xs)
          where
            by : (b : Bool) → changed (λ x. x) id xs ≡ xs → (if b then x ∷ xs else x ∷ changed (λ x. x) id xs) ≡ x ∷ xs
            by true h = refl
            by false h = ap (λ l. x ∷ l) h
