-- No client that left its exchange holds a connection, where what was given was taken.
use Rattle.std.proofs.Common.{◌≡◌, ℕ, Bool, true, false, ◌==◌, ◌&&◌, ◌||◌, not, List, [], ◌∷◌, ◌++◌, length, refl, ap, ◌∙◌, sym, subst}
use Rattle.std.specs.Prelude.{Some, nat_lt}
use Rattle.std.specs.List.{list_all, list_any}
use Rattle.std.proofs.lemmas.List.Folds.{list_all-append}
use Rattle.lload_names.specs.declared.names.Letter.{Letter}
use Rattle.lload_names.specs.declared.names.OpKind.TheVariants.{Bind}
use Rattle.lload_names.specs.declared.names.PartName.{PartName}
use Rattle.lload_names.specs.declared.names.PartName.TheVariants.{Client, Up as Connection}
use Rattle.lload_names.specs.declared.names.Posted.{Posted}
use Rattle.lload_spec.specs.Fifo.{is_chosen_for}
use Rattle.lload_spec.specs.Journal.{Family, same_part}
use Rattle.lload_spec.specs.Lists.{passes, some_entry}
use Rattle.lload_spec.specs.Operations.{Operation, is_of, operation, operation_in, operations, operations_of}
use Rattle.lload_spec.specs.Owed.{is_held_by, leaves_exchange}
use Rattle.lload_spec.specs.Settings.{Settings}
use Rattle.lload_spec.specs.Settled.{is_leave_told}
use Rattle.lload_spec.proofs.Growth.{left, right, both}
use Rattle.lload_laws.specs.ClientGrowth.{is_named_within}
use Rattle.lload_laws.proofs.ClientGrowth.{own_names}
use Rattle.lload_laws.proofs.ListLaws.{implies_by}
use Rattle.part_laws.proofs.ListLaws.{or_elim, or_left, or_right, same_number}
use Rattle.part_spec.specs.Fit.{is_leave_of}
use Rattle.part_spec.specs.Gives.{gives}
use Rattle.part_spec.specs.Marked.{Marked, entries, letters_to}
use Rattle.client_answer_laws.proofs.Each.{Each, each_both, each_imply}
use Rattle.carried_laws.specs.Laws.{Played}
use Rattle.forward_laws.proofs.Causes.{is_live_choice}
use Rattle.forward_laws.proofs.Ops.{own_found}
use Rattle.forward_laws.proofs.Outs.{each_of}
use Rattle.leave_laws.proofs.Along.{along}
use Rattle.settled_laws.specs.Laws.{Rested}
use Rattle.left_laws.specs.Laws.{LeavesAreTold, LeftGiveLeaves, LeftHoldNothing}
use Rattle.left_laws.proofs.LeaveGiven.{leaves_at, left_gives}

-- what went to a part is among its letters
gone_there : (q : PartName) (t : Letter → Bool) (xs : List Posted) → list_any (λ x. t x.letter && same_part q x.to) xs ≡ true → list_any t (letters_to q xs) ≡ true
gone_there q t [] h = h
gone_there q t (x ∷ xs) h = by (same_part q x.to) refl (gone_there q t xs)
  where
    by : (b : Bool) → same_part q x.to ≡ b → (list_any (λ y. t y.letter && same_part q y.to) xs ≡ true → list_any t (letters_to q xs) ≡ true) → list_any t ((elim b [ true ↦ x.letter ∷ [] | false ↦ [] ]) ++ letters_to q xs) ≡ true
    by true e more = or_elim (t x.letter && same_part q x.to) (list_any (λ y. t y.letter && same_part q y.to) xs) (λ k. or_left (t x.letter) _ (left (t x.letter) _ k)) (λ k. or_right (t x.letter) _ (more k)) h
    by false e more = or_elim (t x.letter && same_part q x.to) (list_any (λ y. t y.letter && same_part q y.to) xs) (λ k. absurd (let bad : false ≡ true = sym e ∙ right (t x.letter) _ k in cc)) more h

pub left_give_leaves : LeftGiveLeaves
left_give_leaves s F marked h o found bind leaves u chosen =
    gone_there (Connection u) (is_leave_of o.name) (gives s (Client o.name.client) (marked (Client o.name.client)))
    (left_gives s o.name.client o.name.k u (marked (Client o.name.client)) (along s o.name.client (marked (Client o.name.client)) (h.joined.shared.shares (Client o.name.client)) (h.joined.fit (Client o.name.client))) (h.joined.fit (Client o.name.client))
    (subst (λ es. passes (is_of Bind) (operation_in o.name.client es o.name) ≡ true) (sym same) (ap (passes (is_of Bind)) found ∙ bind))
    (subst (λ es. some_entry (is_live_choice o.name.client o.name u) es ≡ true) (sym same) chosen)
    (subst (λ es. some_entry (leaves_at o.name.client o.name.k) es ≡ true) (sym same) leaves))
  where
    same : entries (marked (Client o.name.client)) ≡ F.client o.name.client
    same = h.joined.shared.same_entries (Client o.name.client)

-- none that passes, where each fails
none_passes : {A : Type 0} (t : A → Bool) (xs : List A) → ((x : A) → t x ≡ false) → list_any t xs ≡ false
none_passes t [] h = refl
none_passes t (x ∷ xs) h = ap (λ b. b || list_any t xs) (h x) ∙ none_passes t xs h

all_each : {A : Type 0} (t : A → Bool) (xs : List A) → Each (λ x. t x ≡ true) xs → list_all t xs ≡ true
all_each t [] h = refl
all_each t (x ∷ xs) h = both (t x) _ h.0 (all_each t xs h.1)

module _ (holds : LeftHoldNothing) (gave : LeftGiveLeaves) (s : Settings) (F : Family) (marked : PartName → List Marked) (h : Played s F marked) (rest : Rested s F marked) where
  told_one : (o : Operation) → operation F o.name ≡ Some o → is_leave_told s F o ≡ true
  told_one o found = implies_by (is_of Bind o && some_entry (leaves_exchange o) (F.client o.name.client)) (not (list_any (λ u. is_chosen_for F o u && is_held_by s F u (F.connection u) o.name) F.connections)) (λ g. ap not (none_passes (λ u. is_chosen_for F o u && is_held_by s F u (F.connection u) o.name) F.connections (λ u. one g u (is_chosen_for F o u) refl)))
    where
      one : (is_of Bind o && some_entry (leaves_exchange o) (F.client o.name.client)) ≡ true → (u : ℕ) (b : Bool) → is_chosen_for F o u ≡ b → (b && is_held_by s F u (F.connection u) o.name) ≡ false
      one g u false e = refl
      one g u true e = holds s F marked h u o.name (subst (λ l. list_any (is_leave_of o.name) l ≡ true) (sym (rest.all_taken (Client o.name.client) (Connection u))) (gave s F marked h o found (left (is_of Bind o) _ g) (right (is_of Bind o) _ g) u e))

  told_of : (c : ℕ) → list_all (is_leave_told s F) (operations c (F.client c)) ≡ true
  told_of c = all_each (is_leave_told s F) (operations c (F.client c)) (each_imply (λ o. (operation_in c (F.client c) o.name ≡ Some o) × (is_named_within c (length (operations c (F.client c))) o ≡ true)) (λ o. is_leave_told s F o ≡ true) (operations c (F.client c)) (λ o k. told_one o (subst (λ n. operation_in n (F.client n) o.name ≡ Some o) (sym (client_of o k.1)) k.0)) (each_both (λ o. operation_in c (F.client c) o.name ≡ Some o) (λ o. is_named_within c (length (operations c (F.client c))) o ≡ true) (operations c (F.client c)) (own_found c (F.client c)) (each_of (is_named_within c (length (operations c (F.client c)))) (operations c (F.client c)) (own_names c (F.client c)))))
    where
      client_of : (o : Operation) → is_named_within c (length (operations c (F.client c))) o ≡ true → o.name.client ≡ c
      client_of o k = same_number o.name.client c (left (o.name.client == c) _ (left (o.name.client == c && nat_lt 0 o.name.k) _ k))

  told_all : (cs : List ℕ) → list_all (is_leave_told s F) (operations_of F cs) ≡ true
  told_all [] = refl
  told_all (c ∷ cs) = list_all-append (is_leave_told s F) (operations c (F.client c)) (operations_of F cs) ∙ both (list_all (is_leave_told s F) (operations c (F.client c))) _ (told_of c) (told_all cs)

pub leaves_told : LeftHoldNothing → LeftGiveLeaves → LeavesAreTold
leaves_told holds gave s F marked h rest = told_all holds gave s F marked h rest F.clients
