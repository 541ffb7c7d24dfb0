-- How the Sent entries' names tie them to rows whose numbers rise.
use Rattle.std.proofs.Common.{◌≡◌, ℕ, zero, suc, ◌+◌, ◌<◌, ◌≤◌, Bool, true, false, ◌&&◌, ◌==◌, List, [], ◌∷◌, ◌++◌, refl, ap, ◌∙◌, sym, arith, eq-eqb, ltb-true}
use Rattle.std.specs.Prelude.{Option, Some, None, map, nat_lt, nat_le, slice_get}
use Rattle.std.specs.List.{list_all}
use Rattle.std.specs.Option.{option_or}
use Rattle.std.proofs.lemmas.Bool.{ne_eqb}
use Rattle.std.proofs.lemmas.List.Folds.{find-append, list_all-map}
use Rattle.small_spec.specs.Lists.{passes, agrees}
use Rattle.small_spec.specs.Entries.{Named}
use Rattle.small_spec.specs.Answers.{Sending}
use Rattle.small_spec.proofs.Growth.{left, right, both}
use Rattle.small_world.specs.declared.world.Forwarded.{Forwarded}
use Rattle.small_world.specs.Stands.{numbered, sent_name, are_rising, row_of}
use Rattle.small_world.proofs.RowLaws.{rising_row}

-- what is there and passes
pub passed : {A : Type 0} (t : A → Bool) (o : Option A) → passes t o ≡ true → (x : A) × (o ≡ Some x) × (t x ≡ true)
passed t None h = absurd (let bad : false ≡ true = h in cc)
passed t (Some x) h = (x, refl, h)

-- what passes of a row still does when one more stands behind
pub row_stays : (t : Forwarded → Bool) (k : ℕ) (rows : List Forwarded) (f : Forwarded) → passes t (row_of k rows) ≡ true → passes t (row_of k (rows ++ f ∷ [])) ≡ true
row_stays t k rows f h = let there = passed t (row_of k rows) h in ap (passes t) (find-append (λ g. g.k == k) rows (f ∷ []) ∙ ap (λ o. option_or o (row_of k (f ∷ []))) there.1) ∙ there.2

-- whether a name is that of client 1, and of the row at this index exactly where it has this row's number
abbrev pub ties : ℕ → Forwarded → Named ℕ → Bool
ties n f name = name.op.client == 1 && agrees (name.value == n) (name.op.k == f.k)

no_tie : (n value k : ℕ) (f : Forwarded) → (value == n) ≡ false → (k == f.k) ≡ false → ties n f (record { op = record { client = 1; k = k }; value = value }) ≡ true
no_tie n value k f h j = ap (λ b. agrees b (k == f.k)) h ∙ ap (agrees false) j

later_ties : (start n low most : ℕ) (rows : List Forwarded) (f : Forwarded) → n < start → f.k ≤ low → are_rising low most rows ≡ true → list_all (ties n f) (numbered start rows) ≡ true
later_ties start n low most [] f h j r = refl
later_ties start n low most (g ∷ rows) f h j r = let above : low < g.k = ltb-true low g.k (left (nat_lt low g.k) _ (left (nat_lt low g.k && nat_le g.k most) _ r)) in both (ties n f (record { op = record { client = 1; k = g.k }; value = start })) (list_all (ties n f) (numbered (suc start) rows)) (no_tie n start g.k f (ne_eqb start n (λ e. omega (arith, e))) (ne_eqb g.k f.k (λ e. omega (arith, e)))) (later_ties (suc start) n g.k most rows f (omega arith) (omega arith) (right (nat_lt low g.k && nat_le g.k most) _ r))

numbered_ties : (start low most : ℕ) (rows : List Forwarded) (i : ℕ) (f : Forwarded) → are_rising low most rows ≡ true → slice_get rows i ≡ Some f → list_all (ties (start + i) f) (numbered start rows) ≡ true
numbered_ties start low most [] i f r h = absurd (let bad : None ≡ Some f = h in cc)
numbered_ties start low most (g ∷ rows) zero f r h = let same : g ≡ f = cc in both (ties (start + 0) f (record { op = record { client = 1; k = g.k }; value = start })) (list_all (ties (start + 0) f) (numbered (suc start) rows)) (ap (λ b. agrees b (g.k == f.k)) (eq-eqb start (start + 0) (omega arith)) ∙ eq-eqb g.k f.k (ap (λ x. x.k) same)) (later_ties (suc start) (start + 0) g.k most rows f (omega arith) (omega (arith, ap (λ x. x.k) same)) (right (nat_lt low g.k && nat_le g.k most) _ r))
numbered_ties start low most (g ∷ rows) (suc i) f r h = let above : g.k < f.k = (rising_row g.k most rows i f (right (nat_lt low g.k && nat_le g.k most) _ r) h).0 in let next : suc start + i ≡ start + suc i = omega arith in both (ties (start + suc i) f (record { op = record { client = 1; k = g.k }; value = start })) (list_all (ties (start + suc i) f) (numbered (suc start) rows)) (no_tie (start + suc i) start g.k f (ne_eqb start (start + suc i) (λ e. omega (arith, e))) (ne_eqb g.k f.k (λ e. omega (arith, e)))) (ap (λ n. list_all (ties n f) (numbered (suc start) rows)) (sym next) ∙ numbered_ties (suc start) g.k most rows i f (right (nat_lt low g.k && nat_le g.k most) _ r) h)

-- a Sent is of client 1, and has the identifier of a row exactly where it has the row's number
pub each_tied : (most : ℕ) (rows : List Forwarded) (i : ℕ) (f : Forwarded) (ss : List Sending) → map sent_name ss ≡ numbered 1 rows → are_rising 0 most rows ≡ true → slice_get rows i ≡ Some f → list_all (λ s. ties (1 + i) f (sent_name s)) ss ≡ true
each_tied most rows i f ss names r h = sym (list_all-map (ties (1 + i) f) sent_name ss) ∙ ap (list_all (ties (1 + i) f)) names ∙ numbered_ties 1 0 most rows i f r h
