-- What client 1's list keeps when the client arrives, when a Delete is sent or refused, and when its answer comes.
use Rattle.std.specs.Prelude.{◌≡◌, ℕ, suc, ◌+◌, ◌≤◌, ◌<◌, ◌⊎◌, Bool, true, false, ◌==◌, ◌&&◌, ◌||◌, not, List, [], ◌∷◌, ◌++◌, length, map, find, cond, slice_get, slice_set, Some, None}
use Rattle.std.specs.List.{list_any, list_all}
use Rattle.std.proofs.Common.{inl, inr, refl, ap, ◌∙◌, sym, arith}
use Rattle.std.proofs.lemmas.Bool.{eqb-true, eq-eqb, ne_eqb, cases_eq, or_left, or_right}
use Rattle.std.proofs.lemmas.List.Folds.{list_any-append, list_all-append}
use Rattle.ldap_spec.specs.Bodies.{refusal}
use Rattle.lload_names.specs.declared.names.Answer.TheVariants.{Go, Unavailable}
use Rattle.lload_names.specs.declared.names.Entry.{Entry}
use Rattle.lload_names.specs.declared.names.OpName.{OpName}
use Rattle.lload_names.specs.declared.names.OpKind.TheVariants.{Delete}
use Rattle.lload_names.specs.declared.names.Refusal.TheVariants.{C3}
use Rattle.small_spec.specs.Lists.{passes, agrees, implies}
use Rattle.small_spec.specs.Journal.{same_op}
use Rattle.small_spec.specs.Entries.{is_gone}
use Rattle.small_spec.specs.Operations.{Operation, operations, operation_in, is_of, takes_id, is_out_for, is_live, outs}
use Rattle.small_spec.specs.Fifo.{allowed, is_ended_once, is_out_of_some}
use Rattle.small_spec.specs.Standing.{is_one_element}
use Rattle.small_spec.proofs.Growth.{left, right, both, looks_back}
use Rattle.small_laws.specs.ClientGrowth.{later_operation, new_operation}
use Rattle.small_laws.proofs.ClientGrowth.{any_grows, count_rises, count_stays, operations_none, operations_one, all_operations_grow, holds_of_named}
use Rattle.small_laws.proofs.ListLaws.{implied, all-map, all_both, any-map, found_passes}
use Rattle.small_world.specs.declared.world.Forwarded.{Forwarded}
use Rattle.small_world.specs.States.{answered, is_live_with}
use Rattle.small_world.specs.Stands.{ClientList, row_of, is_told, is_latest, is_latest_of, is_owned, are_rising}
use Rattle.small_world.proofs.DeleteFacts.{delete_is_of, delete_kind, delete_makes, deleted_is_final}
use Rattle.small_world.proofs.RowLaws.{all_at, all_set, rising_row, none_above, row_of_answered, row_of_other}
use Rattle.small_world.proofs.ClientOperations.{told_by, same_told, same_takes, no_out_for, IsFinalOut, final_is_out_for, final_ends, final_once, final_got}
use Rattle.small_world.proofs.ClientSteps.{arrived_entry, in_entry, chosen_entry, out_entry, arrived_ends_nothing, in_ends_nothing, chosen_ends_nothing, out_ends_nothing, latest_kept, latest_taken, owned_kept, gone_kept, sent_kept, client_kept, client_taken, sent_row, operation_of_row}

-- the client arrives
pub client_arrived : (rows : List Forwarded) (made : ℕ) (C : List Entry) → ClientList rows made C → ClientList rows made (C ++ arrived_entry ∷ [])
client_arrived rows made C h = client_kept rows made C arrived_entry arrived_ends_nothing refl refl h

-- a Delete is sent
pub client_forwarded : (rows : List Forwarded) (made : ℕ) (C : List Entry) (id : ℕ) (rest : List ℕ) (backend : ℕ) → ClientList rows made C → are_rising 0 made rows ≡ true → list_any (is_live_with id) rows ≡ false → (id == 0) ≡ false → is_one_element 0x4A rest ≡ true → ClientList (rows ++ record { k = made + 1; id = id; answered = false } ∷ []) (made + 1) ((C ++ in_entry id rest ∷ []) ++ chosen_entry (made + 1) (Go 1 backend) ∷ [])
client_forwarded rows made C id rest backend h rising free some is_delete = client_kept (rows ++ sent_row made id ∷ []) (made + 1) (C ++ in_entry id rest ∷ []) (chosen_entry (made + 1) (Go 1 backend)) (chosen_ends_nothing (made + 1) (Go 1 backend)) refl refl (client_taken rows made C id rest h rising free some is_delete)

-- an Out under an identifier that was taken since isn't for the operation
taken_since : (same any : Bool) → (same && not (any || same)) ≡ false
taken_since true true = refl
taken_since true false = refl
taken_since false any = refl

not_for_old : (o : Operation) (id : ℕ) (rest rest' : List ℕ) (k : ℕ) → (id == 0) ≡ false → is_one_element 0x4A rest ≡ true → is_out_for o.request ((o.behind ++ in_entry id rest ∷ []) ++ chosen_entry k Unavailable ∷ []) (out_entry id rest') ≡ false
not_for_old o id rest rest' k some is_delete = ap (λ b. (id == o.request.id) && not b) (same_takes o.request.id (o.behind ++ in_entry id rest ∷ []) (chosen_entry k Unavailable) refl ∙ any_grows (takes_id o.request.id) o.behind (in_entry id rest) ∙ ap (λ m. list_any (takes_id o.request.id) o.behind || passes (λ p. p.id == o.request.id) m) (delete_makes id rest some is_delete)) ∙ taken_since (id == o.request.id) (list_any (takes_id o.request.id) o.behind)

-- a Delete is refused: its operation
refused_new : (rows : List Forwarded) (made : ℕ) (C : List Entry) (id : ℕ) (rest : List ℕ) → are_rising 0 made rows ≡ true → length (operations 1 C) ≡ made → is_one_element 0x4A rest ≡ true → is_told rows (later_operation (out_entry id (refusal Delete C3)) (later_operation (chosen_entry (made + 1) Unavailable) (new_operation 1 C (in_entry id rest) (record { id = id; rest = rest })))) ≡ true
refused_new rows made C id rest rising count is_delete = ap (λ row. told_by row (record { id = id; rest = rest }) (is_ended_once behind) (is_live behind) (outs behind)) (none_above 0 made rows (suc (length (operations 1 C))) rising (omega arith)) ∙ ap (λ ended. told_by None (record { id = id; rest = rest }) ended (is_live behind) (outs behind)) (final_once new (out_entry id (refusal Delete C3)) id (refusal Delete C3) final) ∙ ap (λ live. told_by None (record { id = id; rest = rest }) true live (outs behind)) (final_ends new (out_entry id (refusal Delete C3)) id (refusal Delete C3) final) ∙ ap (told_by None (record { id = id; rest = rest }) true false) (final_got new (out_entry id (refusal Delete C3)) id (refusal Delete C3) final) ∙ both _ _ (both _ true (delete_is_of id rest is_delete) refl) (ap (λ kind. allowed kind [] (refusal Delete C3 ∷ [])) (delete_kind rest is_delete))
  where
    new : Operation
    new = later_operation (chosen_entry (made + 1) Unavailable) (new_operation 1 C (in_entry id rest) (record { id = id; rest = rest }))

    behind : Operation
    behind = later_operation (out_entry id (refusal Delete C3)) (later_operation (chosen_entry (made + 1) Unavailable) (new_operation 1 C (in_entry id rest) (record { id = id; rest = rest })))

    final : IsFinalOut (later_operation (chosen_entry (made + 1) Unavailable) (new_operation 1 C (in_entry id rest) (record { id = id; rest = rest }))) (out_entry id (refusal Delete C3)) id (refusal Delete C3)
    final = record { out = refl; makes_none = refl; id_same = eq-eqb id id refl; none_taken = refl; delete = delete_is_of id rest is_delete; final = refl; live = refl; ended = refl }

-- the operations before
refused_old : (rows : List Forwarded) (id : ℕ) (rest rest' : List ℕ) (k : ℕ) (o : Operation) → (id == 0) ≡ false → is_one_element 0x4A rest ≡ true → is_told rows o ≡ true → is_told rows (later_operation (out_entry id rest') (later_operation (chosen_entry k Unavailable) (later_operation (in_entry id rest) o))) ≡ true
refused_old rows id rest rest' k o some is_delete t = same_told rows rows (later_operation (chosen_entry k Unavailable) (later_operation (in_entry id rest) o)) (out_entry id rest') (out_ends_nothing id rest') (not_for_old o id rest rest' k some is_delete) refl ∙ same_told rows rows (later_operation (in_entry id rest) o) (chosen_entry k Unavailable) (chosen_ends_nothing k Unavailable) (no_out_for o.request (o.behind ++ in_entry id rest ∷ []) (chosen_entry k Unavailable) refl) refl ∙ same_told rows rows o (in_entry id rest) (in_ends_nothing id rest some is_delete) (no_out_for o.request o.behind (in_entry id rest) refl) refl ∙ t

-- the lists that a refused Delete leaves, entry by entry
abbrev behind_in : List Entry → ℕ → List ℕ → List Entry
behind_in C id rest = C ++ in_entry id rest ∷ []

abbrev behind_chosen : ℕ → List Entry → ℕ → List ℕ → List Entry
behind_chosen made C id rest = (C ++ in_entry id rest ∷ []) ++ chosen_entry (made + 1) Unavailable ∷ []

refused_told : (rows : List Forwarded) (made : ℕ) (C : List Entry) (id : ℕ) (rest : List ℕ) → ClientList rows made C → are_rising 0 made rows ≡ true → (id == 0) ≡ false → is_one_element 0x4A rest ≡ true → list_all (is_told rows) (operations 1 (behind_chosen made C id rest ++ out_entry id (refusal Delete C3) ∷ [])) ≡ true
refused_told rows made C id rest h rising some is_delete = ap (list_all (is_told rows)) (operations_none 1 (behind_chosen made C id rest) OUT refl) ∙ all-map test (is_told rows) (later_operation OUT) (operations 1 (behind_chosen made C id rest)) (λ o t. t) (ap (list_all test) (operations_none 1 (behind_in C id rest) CHOSEN refl) ∙ all-map first test (later_operation CHOSEN) (operations 1 (behind_in C id rest)) (λ o t. t) (ap (list_all first) (operations_one 1 C (in_entry id rest) (record { id = id; rest = rest }) (delete_makes id rest some is_delete)) ∙ list_all-append first (map (later_operation (in_entry id rest)) (operations 1 C)) (new_operation 1 C (in_entry id rest) (record { id = id; rest = rest }) ∷ []) ∙ both _ _ (all-map (is_told rows) first (later_operation (in_entry id rest)) (operations 1 C) (λ o t. refused_old rows id rest (refusal Delete C3) (made + 1) o some is_delete t) h.each_told) (both _ true (refused_new rows made C id rest rising h.count is_delete) refl)))
  where
    OUT : Entry
    OUT = out_entry id (refusal Delete C3)

    CHOSEN : Entry
    CHOSEN = chosen_entry (made + 1) Unavailable

    test : Operation → Bool
    test o = is_told rows (later_operation (out_entry id (refusal Delete C3)) o)

    first : Operation → Bool
    first o = is_told rows (later_operation (out_entry id (refusal Delete C3)) (later_operation (chosen_entry (made + 1) Unavailable) o))

-- its Out is for its operation
refused_owned : (made : ℕ) (C : List Entry) (id : ℕ) (rest rest' : List ℕ) → (id == 0) ≡ false → is_one_element 0x4A rest ≡ true → is_out_of_some 1 (behind_chosen made C id rest) (out_entry id rest') ≡ true
refused_owned made C id rest rest' some is_delete = ap (list_any test) (operations_none 1 (behind_in C id rest) CHOSEN refl) ∙ any-map test (later_operation CHOSEN) (operations 1 (behind_in C id rest)) ∙ ap (list_any first) (operations_one 1 C (in_entry id rest) (record { id = id; rest = rest }) (delete_makes id rest some is_delete)) ∙ list_any-append first (map (later_operation (in_entry id rest)) (operations 1 C)) (new ∷ []) ∙ or_right _ (first new || false) (or_left (first new) false (both (id == id) true (eq-eqb id id refl) refl))
  where
    CHOSEN : Entry
    CHOSEN = chosen_entry (made + 1) Unavailable

    new : Operation
    new = new_operation 1 C (in_entry id rest) (record { id = id; rest = rest })

    test : Operation → Bool
    test o = is_out_for o.request o.behind (out_entry id rest')

    first : Operation → Bool
    first o = is_out_for o.request (o.behind ++ chosen_entry (made + 1) Unavailable ∷ []) (out_entry id rest')

-- a Delete is refused
pub client_refused : (rows : List Forwarded) (made : ℕ) (C : List Entry) (id : ℕ) (rest : List ℕ) → ClientList rows made C → are_rising 0 made rows ≡ true → list_any (is_live_with id) rows ≡ false → (id == 0) ≡ false → is_one_element 0x4A rest ≡ true → ClientList rows (made + 1) (((C ++ in_entry id rest ∷ []) ++ chosen_entry (made + 1) Unavailable ∷ []) ++ out_entry id (refusal Delete C3) ∷ [])
client_refused rows made C id rest h rising free some is_delete = record {
  count = omega (arith, count_stays 1 (behind_chosen made C id rest) OUT refl, count_stays 1 (behind_in C id rest) CHOSEN refl, count_rises 1 C (in_entry id rest) (record { id = id; rest = rest }) (delete_makes id rest some is_delete), h.count);
  each_told = refused_told rows made C id rest h rising some is_delete;
  each_latest = latest_kept rows (behind_chosen made C id rest) OUT refl (latest_kept rows (behind_in C id rest) CHOSEN refl (latest_taken rows C (in_entry id rest) (record { id = id; rest = rest }) (delete_makes id rest some is_delete) free h.each_latest));
  each_owned = looks_back is_owned (behind_chosen made C id rest) OUT ∙ both _ _ (owned_kept (behind_in C id rest) CHOSEN refl (owned_kept C (in_entry id rest) refl h.each_owned)) (both _ _ (refused_owned made C id rest (refusal Delete C3) some is_delete) (ap not gone));
  none_gone = gone_kept (behind_chosen made C id rest) OUT (out_ends_nothing id (refusal Delete C3)) gone;
  none_sent = sent_kept (behind_chosen made C id rest) OUT (out_ends_nothing id (refusal Delete C3)) (sent_kept (behind_in C id rest) CHOSEN (chosen_ends_nothing (made + 1) Unavailable) (sent_kept C (in_entry id rest) (in_ends_nothing id rest some is_delete) h.none_sent));
}
  where
    OUT : Entry
    OUT = out_entry id (refusal Delete C3)

    CHOSEN : Entry
    CHOSEN = chosen_entry (made + 1) Unavailable

    gone : list_any is_gone (behind_chosen made C id rest) ≡ false
    gone = gone_kept (behind_in C id rest) CHOSEN (chosen_ends_nothing (made + 1) Unavailable) (gone_kept C (in_entry id rest) (in_ends_nothing id rest some is_delete) h.none_gone)

-- both answers are the same
agreed_true : (a b : Bool) → agrees a b ≡ true → b ≡ true → a ≡ true
agreed_true true b h k = refl
agreed_true false true h k = h
agreed_true false false h k = k

agreed_false : (a b : Bool) → agrees a b ≡ true → b ≡ false → a ≡ false
agreed_false true b h k = absurd (let bad : true ≡ false = sym h ∙ k in cc)
agreed_false false b h k = refl

no_texts : (xs : List (List ℕ)) → (length xs == 0) ≡ true → xs ≡ []
no_texts [] h = refl
no_texts (x ∷ xs) h = absurd (let bad : suc (length xs) ≡ 0 = eqb-true (suc (length xs)) 0 h in omega arith)

-- the operation whose row is answered: the Out is its final one
own_final : (rows : List Forwarded) (f : Forwarded) (o : Operation) (rest : List ℕ) → row_of o.name.k rows ≡ Some f → f.answered ≡ false → f.k ≡ o.name.k → is_told rows o ≡ true → is_latest f o ≡ true → is_one_element 0x6B rest ≡ true → IsFinalOut o (out_entry f.id rest) f.id rest
own_final rows f o rest row waits number t latest is_delete = record {
  out = refl;
  makes_none = refl;
  id_same = same;
  none_taken = ap (λ id. list_any (takes_id id) o.behind) (sym (eqb-true f.id o.request.id same)) ∙ agreed_false (list_any (takes_id f.id) o.behind) (not (o.name.k == f.k)) (implied (o.request.id == f.id) _ latest (eq-eqb o.request.id f.id (sym (eqb-true f.id o.request.id same)))) (ap not (eq-eqb o.name.k f.k (sym number)));
  delete = left (is_of Delete o) (is_ended_once o) (left (is_of Delete o && is_ended_once o) _ t);
  final = deleted_is_final rest is_delete;
  live = agreed_true (is_live o) (not f.answered) (right (f.id == o.request.id) _ (left (f.id == o.request.id && agrees (is_live o) (not f.answered)) _ as_row)) (ap not waits);
  ended = right (is_of Delete o) (is_ended_once o) (left (is_of Delete o && is_ended_once o) _ t);
}
  where
    as_row : (f.id == o.request.id && agrees (is_live o) (not f.answered) && implies (not f.answered) (length (outs o) == 0)) ≡ true
    as_row = right (is_of Delete o && is_ended_once o) _ (ap (λ r. told_by r o.request (is_ended_once o) (is_live o) (outs o)) (sym row) ∙ t)

    same : (f.id == o.request.id) ≡ true
    same = left (f.id == o.request.id) _ (left (f.id == o.request.id && agrees (is_live o) (not f.answered)) _ as_row)

-- it is told by its row, answered
own_told : (rows' : List Forwarded) (f : Forwarded) (o : Operation) (rest : List ℕ) → row_of o.name.k rows' ≡ Some (answered f) → IsFinalOut o (out_entry f.id rest) f.id rest → is_told rows' (later_operation (out_entry f.id rest) o) ≡ true
own_told rows' f o rest row final = ap (λ r. told_by r o.request (is_ended_once behind) (is_live behind) (outs behind)) row ∙ ap (λ ended. told_by (Some (answered f)) o.request ended (is_live behind) (outs behind)) (final_once o (out_entry f.id rest) f.id rest final) ∙ ap (λ live. told_by (Some (answered f)) o.request true live (outs behind)) (final_ends o (out_entry f.id rest) f.id rest final) ∙ both _ _ (both _ true final.delete refl) (both _ true (both _ true final.id_same refl) refl)
  where
    behind : Operation
    behind = later_operation (out_entry f.id rest) o

-- for no other operation is it an Out
taken_by_latest : (same any : Bool) → (same ≡ true → any ≡ true) → (same && not any) ≡ false
taken_by_latest true any h = ap not (h refl)
taken_by_latest false any h = refl

not_for_other : (f : Forwarded) (o : Operation) (rest : List ℕ) → (f.k ≡ o.name.k → ⊥) → is_latest f o ≡ true → is_out_for o.request o.behind (out_entry f.id rest) ≡ false
not_for_other f o rest apart latest = taken_by_latest (f.id == o.request.id) (list_any (takes_id o.request.id) o.behind) (λ same. ap (λ id. list_any (takes_id id) o.behind) (sym (eqb-true f.id o.request.id same)) ∙ agreed_true (list_any (takes_id f.id) o.behind) (not (o.name.k == f.k)) (implied (o.request.id == f.id) _ latest (eq-eqb o.request.id f.id (sym (eqb-true f.id o.request.id same)))) (ap not (ne_eqb o.name.k f.k (λ e. apart (sym e)))))

-- an operation behind the answer to a row
answered_told : (made : ℕ) (rows : List Forwarded) (i : ℕ) (f : Forwarded) (o : Operation) (rest : List ℕ) → are_rising 0 made rows ≡ true → slice_get rows i ≡ Some f → f.answered ≡ false → is_one_element 0x6B rest ≡ true → is_told rows o ≡ true → is_latest f o ≡ true → (f.k ≡ o.name.k) ⊎ (f.k ≡ o.name.k → ⊥) → is_told (slice_set rows i (answered f)) (later_operation (out_entry f.id rest) o) ≡ true
answered_told made rows i f o rest rising at waits is_delete t latest (inl e) = own_told (slice_set rows i (answered f)) f o rest (ap (λ k. row_of k (slice_set rows i (answered f))) (sym e) ∙ row_of_answered 0 made rows i f rising at) (own_final rows f o rest (ap (λ k. row_of k rows) (sym e) ∙ row.2) waits e t latest is_delete)
  where
    row : (0 < f.k) × (f.k ≤ made) × (row_of f.k rows ≡ Some f)
    row = rising_row 0 made rows i f rising at
answered_told made rows i f o rest rising at waits is_delete t latest (inr d) = same_told rows (slice_set rows i (answered f)) o (out_entry f.id rest) (out_ends_nothing f.id rest) (not_for_other f o rest d latest) (row_of_other rows i f o.name.k at d) ∙ t

-- of the operations, the row's own alone isn't followed by another with its identifier
latest_of_row : (rows : List Forwarded) (made : ℕ) (C : List Entry) (i : ℕ) (f : Forwarded) → ClientList rows made C → slice_get rows i ≡ Some f → f.answered ≡ false → list_all (is_latest f) (operations 1 C) ≡ true
latest_of_row rows made C i f h at waits = implied (not f.answered) _ (all_at (is_latest_of (operations 1 C)) rows i f at h.each_latest) (ap not waits)

-- the Out is for the row's operation
any_found : {A : Type 0} (q t : A → Bool) (xs : List A) (y : A) → find t xs ≡ Some y → q y ≡ true → list_any q xs ≡ true
any_found q t [] y f k = absurd (let bad : None ≡ Some y = f in cc)
any_found q t (x ∷ xs) y f k = more (t x) f (λ g. any_found q t xs y g k)
  where
    more : (b : Bool) → cond b (Some x) (find t xs) ≡ Some y → (find t xs ≡ Some y → list_any q xs ≡ true) → (q x || list_any q xs) ≡ true
    more true g later = let same : x ≡ y = cc in or_left (q x) _ (ap q same ∙ k)
    more false g later = or_right (q x) _ (later g)

answered_owned : (rows : List Forwarded) (made : ℕ) (C : List Entry) (i : ℕ) (f : Forwarded) (rest : List ℕ) → ClientList rows made C → are_rising 0 made rows ≡ true → slice_get rows i ≡ Some f → f.answered ≡ false → is_one_element 0x6B rest ≡ true → is_out_of_some 1 C (out_entry f.id rest) ≡ true
answered_owned rows made C i f rest h rising at waits is_delete = any_found (λ o. is_out_for o.request o.behind (out_entry f.id rest)) (λ o. same_op name o.name) (operations 1 C) own.0 own.1 (final_is_out_for own.0 (out_entry f.id rest) f.id rest (own_final rows f own.0 rest (ap (λ k. row_of k rows) (sym number) ∙ row.2) waits number (holds_of_named (is_told rows) C name own.0 own.1 h.each_told) (holds_of_named (is_latest f) C name own.0 own.1 (latest_of_row rows made C i f h at waits)) is_delete))
  where
    name : OpName
    name = record { client = 1; k = f.k }

    own : (o : Operation) × (operation_in C (record { client = 1; k = f.k }) ≡ Some o)
    own = operation_of_row rows made C i f h rising at

    row : (0 < f.k) × (f.k ≤ made) × (row_of f.k rows ≡ Some f)
    row = rising_row 0 made rows i f rising at

    number : f.k ≡ own.0.name.k
    number = eqb-true f.k own.0.name.k (right _ (f.k == own.0.name.k) (found_passes (λ o. same_op name o.name) (operations 1 C) own.0 own.1))

-- an operation that was sent is answered
pub client_answered : (rows : List Forwarded) (made : ℕ) (C : List Entry) (i : ℕ) (f : Forwarded) (rest : List ℕ) → ClientList rows made C → are_rising 0 made rows ≡ true → slice_get rows i ≡ Some f → f.answered ≡ false → is_one_element 0x6B rest ≡ true → ClientList (slice_set rows i (answered f)) made (C ++ out_entry f.id rest ∷ [])
client_answered rows made C i f rest h rising at waits is_delete = record {
  count = count_stays 1 C (out_entry f.id rest) refl ∙ h.count;
  each_told = all_operations_grow (is_told (slice_set rows i (answered f))) (λ o. is_told rows o && is_latest f o) 1 C (out_entry f.id rest) (λ o t. answered_told made rows i f o rest rising at waits is_delete (left (is_told rows o) _ t) (right (is_told rows o) _ t) (cases_eq f.k o.name.k)) (all_both (is_told rows) (is_latest f) (operations 1 C) h.each_told (latest_of_row rows made C i f h at waits)) refl;
  each_latest = all_set (is_latest_of (operations 1 (C ++ out_entry f.id rest ∷ []))) rows i (answered f) refl (latest_kept rows C (out_entry f.id rest) refl h.each_latest);
  each_owned = looks_back is_owned C (out_entry f.id rest) ∙ both _ _ h.each_owned (both _ _ (answered_owned rows made C i f rest h rising at waits is_delete) (ap not h.none_gone));
  none_gone = gone_kept C (out_entry f.id rest) (out_ends_nothing f.id rest) h.none_gone;
  none_sent = sent_kept C (out_entry f.id rest) (out_ends_nothing f.id rest) h.none_sent;
}
