-- What client 1's list keeps with one entry more: one by which nothing begins, and a Delete that is sent.
use Rattle.std.specs.Prelude.{◌≡◌, ℕ, suc, ◌+◌, ◌≤◌, ◌<◌, nat_le, Bool, true, false, ◌==◌, ◌&&◌, not, List, [], ◌∷◌, ◌++◌, length, slice_get, Some, None}
use Rattle.std.specs.List.{list_any, list_all}
use Rattle.std.proofs.Common.{refl, ap, ◌∙◌, sym, arith}
use Rattle.std.proofs.lemmas.Bool.{eqb-false, eq-eqb, ne_eqb, leb-true, not-true, or_parts, or_from, or_right}
use Rattle.std.proofs.lemmas.List.Folds.{list_all-append}
use Rattle.ldap_spec.specs.Messages.{Message}
use Rattle.lload_names.specs.declared.names.Answer.{Answer}
use Rattle.lload_names.specs.declared.names.Entry.{Entry}
use Rattle.lload_names.specs.declared.names.PartName.TheVariants.{Client}
use Rattle.lload_names.specs.declared.names.What.TheVariants.{Arrived, In, Chosen, Out}
use Rattle.small_spec.specs.Lists.{passes, each_entry, agrees, implies}
use Rattle.small_spec.specs.Entries.{operation_message, out_message, is_gone}
use Rattle.small_spec.specs.Operations.{Operation, operations, operation_in, operation_made, takes_id}
use Rattle.small_spec.specs.Fifo.{is_out_of_some, is_sent_entry}
use Rattle.small_spec.specs.Standing.{is_one_element}
use Rattle.small_spec.proofs.Growth.{left, right, both, looks_back}
use Rattle.small_laws.specs.ClientGrowth.{later_operation, new_operation, is_named_within}
use Rattle.small_laws.proofs.ClientGrowth.{any_grows, own_names, count_rises, count_stays, all_operations_grow, named_is_there}
use Rattle.small_laws.proofs.ListLaws.{implied, implies_by, all_imply, all_both}
use Rattle.small_world.specs.declared.world.Forwarded.{Forwarded}
use Rattle.small_world.specs.States.{is_live_with}
use Rattle.small_world.specs.Stands.{ClientList, row_of, is_told, is_latest, is_latest_of, is_owned, are_rising}
use Rattle.small_world.proofs.DeleteFacts.{delete_is_of, delete_makes, delete_no_bind_in, delete_no_abandon_of}
use Rattle.small_world.proofs.RowLaws.{rising_row, row_of_old, row_of_new}
use Rattle.small_world.proofs.ClientOperations.{EndsNothing, told_by, same_told, no_out_for, same_latest}

-- the entries of client 1
abbrev pub arrived_entry : Entry
arrived_entry = record { part = Client 1; at = 0; what = Arrived }

abbrev pub in_entry : ℕ → List ℕ → Entry
in_entry id rest = record { part = Client 1; at = 0; what = In id rest }

abbrev pub chosen_entry : ℕ → Answer → Entry
chosen_entry k answer = record { part = Client 1; at = 0; what = Chosen (record { client = 1; k = k }) answer }

abbrev pub out_entry : ℕ → List ℕ → Entry
out_entry id rest = record { part = Client 1; at = 0; what = Out id rest }

pub arrived_ends_nothing : EndsNothing arrived_entry
arrived_ends_nothing = record { no_abandon = λ opened. refl; no_bind = refl; no_gone = refl; no_sent = refl }

pub in_ends_nothing : (id : ℕ) (rest : List ℕ) → (id == 0) ≡ false → is_one_element 0x4A rest ≡ true → EndsNothing (in_entry id rest)
in_ends_nothing id rest k h = record { no_abandon = λ opened. delete_no_abandon_of opened (in_entry id rest) id rest refl h; no_bind = delete_no_bind_in (in_entry id rest) id rest (delete_makes id rest k h) h; no_gone = refl; no_sent = refl }

pub chosen_ends_nothing : (k : ℕ) (answer : Answer) → EndsNothing (chosen_entry k answer)
chosen_ends_nothing k answer = record { no_abandon = λ opened. refl; no_bind = refl; no_gone = refl; no_sent = refl }

pub out_ends_nothing : (id : ℕ) (rest : List ℕ) → EndsNothing (out_entry id rest)
out_ends_nothing id rest = record { no_abandon = λ opened. refl; no_bind = refl; no_gone = refl; no_sent = refl }

-- none passes, and so each fails
none_all : {A : Type 0} (t : A → Bool) (xs : List A) → list_any t xs ≡ false → list_all (λ x. not (t x)) xs ≡ true
none_all t [] h = refl
none_all t (x ∷ xs) h = both (not (t x)) _ (ap not (or_parts (t x) (list_any t xs) h).0) (none_all t xs (or_parts (t x) (list_any t xs) h).1)

second_fails : (a b : Bool) → (a && b) ≡ false → a ≡ true → b ≡ false
second_fails true b h k = h
second_fails false b h k = absurd (let bad : false ≡ true = k in cc)

-- the number of a named operation is at most their count
pub number_within : (n : ℕ) (o : Operation) → is_named_within 1 n o ≡ true → o.name.k ≤ n
number_within n o h = leb-true o.name.k n (right _ (nat_le o.name.k n) h)

-- the rows that wait keep their latest operation, behind an entry that begins none, and behind a request whose
-- identifier none of them has
latest_row_kept : (f : Forwarded) (C : List Entry) (e : Entry) → operation_message e.what ≡ None → is_latest_of (operations 1 C) f ≡ true → is_latest_of (operations 1 (C ++ e ∷ [])) f ≡ true
latest_row_kept f C e none h = implies_by (not f.answered) _ (λ n. all_operations_grow (is_latest f) (is_latest f) 1 C e (λ o t. same_latest f o e (ap (passes (λ m. m.id == f.id)) none) ∙ t) (implied (not f.answered) _ h n) (ap (λ m. list_all (is_latest f) (operation_made 1 (suc (length (operations 1 C))) C e [] m)) none))

pub latest_kept : (rows : List Forwarded) (C : List Entry) (e : Entry) → operation_message e.what ≡ None → list_all (is_latest_of (operations 1 C)) rows ≡ true → list_all (is_latest_of (operations 1 (C ++ e ∷ []))) rows ≡ true
latest_kept rows C e none h = all_imply (is_latest_of (operations 1 C)) (is_latest_of (operations 1 (C ++ e ∷ []))) rows (λ f. latest_row_kept f C e none) h

other_id : (f : Forwarded) (id : ℕ) → is_live_with id f ≡ false → not f.answered ≡ true → (id == f.id) ≡ false
other_id f id h n = let apart : (f.id == id) ≡ false = second_fails (not f.answered) (f.id == id) h n in ne_eqb id f.id (λ e. eqb-false f.id id apart (sym e))

latest_row_taken : (f : Forwarded) (C : List Entry) (e : Entry) (m : Message) → operation_message e.what ≡ Some m → is_live_with m.id f ≡ false → is_latest_of (operations 1 C) f ≡ true → is_latest_of (operations 1 (C ++ e ∷ [])) f ≡ true
latest_row_taken f C e m some free h = implies_by (not f.answered) _ (λ n. all_operations_grow (is_latest f) (is_latest f) 1 C e (λ o t. same_latest f o e (ap (passes (λ p. p.id == f.id)) some ∙ other_id f m.id free n) ∙ t) (implied (not f.answered) _ h n) (ap (λ p. list_all (is_latest f) (operation_made 1 (suc (length (operations 1 C))) C e [] p)) some ∙ both (is_latest f (new_operation 1 C e m)) true (ap (λ b. implies b (agrees false (not (suc (length (operations 1 C)) == f.k)))) (other_id f m.id free n)) refl))

pub latest_taken : (rows : List Forwarded) (C : List Entry) (e : Entry) (m : Message) → operation_message e.what ≡ Some m → list_any (is_live_with m.id) rows ≡ false → list_all (is_latest_of (operations 1 C)) rows ≡ true → list_all (is_latest_of (operations 1 (C ++ e ∷ []))) rows ≡ true
latest_taken rows C e m some free h = all_imply (λ f. not (is_live_with m.id f) && is_latest_of (operations 1 C) f) (is_latest_of (operations 1 (C ++ e ∷ []))) rows (λ f t. latest_row_taken f C e m some (not-true (is_live_with m.id f) (left (not (is_live_with m.id f)) _ t)) (right (not (is_live_with m.id f)) _ t)) (all_both (λ f. not (is_live_with m.id f)) (is_latest_of (operations 1 C)) rows (none_all (is_live_with m.id) rows free) h)

-- the other parts of what the list keeps
told_kept : (rows : List Forwarded) (C : List Entry) (e : Entry) → EndsNothing e → out_message e.what ≡ None → operation_message e.what ≡ None → list_all (is_told rows) (operations 1 C) ≡ true → list_all (is_told rows) (operations 1 (C ++ e ∷ [])) ≡ true
told_kept rows C e q out none h = all_operations_grow (is_told rows) (is_told rows) 1 C e (λ o t. same_told rows rows o e q (no_out_for o.request o.behind e out) refl ∙ t) h (ap (λ m. list_all (is_told rows) (operation_made 1 (suc (length (operations 1 C))) C e [] m)) none)

pub owned_kept : (C : List Entry) (e : Entry) → out_message e.what ≡ None → each_entry is_owned C ≡ true → each_entry is_owned (C ++ e ∷ []) ≡ true
owned_kept C e out h = looks_back is_owned C e ∙ both (each_entry is_owned C) (is_owned C e) h (ap (λ m. implies (passes (λ _. true) m) (is_out_of_some 1 C e && not (list_any is_gone C))) out)

pub gone_kept : (C : List Entry) (e : Entry) → EndsNothing e → list_any is_gone C ≡ false → list_any is_gone (C ++ e ∷ []) ≡ false
gone_kept C e q h = any_grows is_gone C e ∙ or_from (list_any is_gone C) (is_gone e) h q.no_gone

pub sent_kept : (C : List Entry) (e : Entry) → EndsNothing e → list_any is_sent_entry C ≡ false → list_any is_sent_entry (C ++ e ∷ []) ≡ false
sent_kept C e q h = any_grows is_sent_entry C e ∙ or_from (list_any is_sent_entry C) (is_sent_entry e) h q.no_sent

-- an entry by which nothing begins or ends, and which the client didn't get
pub client_kept : (rows : List Forwarded) (made : ℕ) (C : List Entry) (e : Entry) → EndsNothing e → out_message e.what ≡ None → operation_message e.what ≡ None → ClientList rows made C → ClientList rows made (C ++ e ∷ [])
client_kept rows made C e q out none h = record {
  count = count_stays 1 C e none ∙ h.count;
  each_told = told_kept rows C e q out none h.each_told;
  each_latest = latest_kept rows C e none h.each_latest;
  each_owned = owned_kept C e out h.each_owned;
  none_gone = gone_kept C e q h.none_gone;
  none_sent = sent_kept C e q h.none_sent;
}

-- the row of a Delete that is sent
abbrev pub sent_row : ℕ → ℕ → Forwarded
sent_row made id = record { k = made + 1; id = id; answered = false }

-- its operation is told by its row
told_new : (rows : List Forwarded) (made : ℕ) (C : List Entry) (id : ℕ) (rest : List ℕ) → are_rising 0 made rows ≡ true → length (operations 1 C) ≡ made → is_one_element 0x4A rest ≡ true → is_told (rows ++ sent_row made id ∷ []) (new_operation 1 C (in_entry id rest) (record { id = id; rest = rest })) ≡ true
told_new rows made C id rest rising count is_delete = ap (λ row. told_by row (record { id = id; rest = rest }) true true []) found ∙ both _ _ (both _ true (delete_is_of id rest is_delete) refl) (both _ true (both (id == id) true (eq-eqb id id refl) refl) refl)
  where
    number : suc (length (operations 1 C)) ≡ made + 1
    number = omega arith

    found : row_of (suc (length (operations 1 C))) (rows ++ sent_row made id ∷ []) ≡ Some (sent_row made id)
    found = ap (λ k. row_of k (rows ++ sent_row made id ∷ [])) number ∙ row_of_new 0 made rows (sent_row made id) rising refl

-- it is the latest with its identifier
latest_old : (made n : ℕ) (o : Operation) (e : Entry) (id : ℕ) → takes_id id e ≡ true → n ≡ made → is_named_within 1 n o ≡ true → is_latest (sent_row made id) (later_operation e o) ≡ true
latest_old made n o e id takes count named = implies_by (o.request.id == id) _ (λ same. ap (λ b. agrees b (not (o.name.k == made + 1))) (any_grows (takes_id id) o.behind e ∙ or_right (list_any (takes_id id) o.behind) (takes_id id e) takes) ∙ ap not (ne_eqb o.name.k (made + 1) apart))
  where
    apart : o.name.k ≡ made + 1 → ⊥
    apart d = let within : o.name.k ≤ n = number_within n o named in omega arith

latest_new : (made : ℕ) (C : List Entry) (e : Entry) (m : Message) → operation_message e.what ≡ Some m → length (operations 1 C) ≡ made → list_all (is_latest (sent_row made m.id)) (operations 1 (C ++ e ∷ [])) ≡ true
latest_new made C e m some count = all_operations_grow (is_latest (sent_row made m.id)) (is_named_within 1 (length (operations 1 C))) 1 C e (λ o t. latest_old made (length (operations 1 C)) o e m.id (ap (passes (λ p. p.id == m.id)) some ∙ eq-eqb m.id m.id refl) count t) (own_names 1 C) (ap (λ p. list_all (is_latest (sent_row made m.id)) (operation_made 1 (suc (length (operations 1 C))) C e [] p)) some ∙ both (is_latest (sent_row made m.id) (new_operation 1 C e m)) true (implies_by (m.id == m.id) _ (λ same. ap (λ b. agrees false (not b)) (eq-eqb (suc (length (operations 1 C))) (made + 1) number))) refl)
  where
    number : suc (length (operations 1 C)) ≡ made + 1
    number = omega arith

-- a Delete that is sent comes in
pub client_taken : (rows : List Forwarded) (made : ℕ) (C : List Entry) (id : ℕ) (rest : List ℕ) → ClientList rows made C → are_rising 0 made rows ≡ true → list_any (is_live_with id) rows ≡ false → (id == 0) ≡ false → is_one_element 0x4A rest ≡ true → ClientList (rows ++ sent_row made id ∷ []) (made + 1) (C ++ in_entry id rest ∷ [])
client_taken rows made C id rest h rising free some is_delete = record {
  count = omega (arith, count_rises 1 C (in_entry id rest) (record { id = id; rest = rest }) makes, h.count);
  each_told = all_operations_grow (is_told (rows ++ sent_row made id ∷ [])) (λ o. is_told rows o && is_named_within 1 (length (operations 1 C)) o) 1 C (in_entry id rest) old (all_both (is_told rows) (is_named_within 1 (length (operations 1 C))) (operations 1 C) h.each_told (own_names 1 C)) (ap (λ m. list_all (is_told (rows ++ sent_row made id ∷ [])) (operation_made 1 (suc (length (operations 1 C))) C (in_entry id rest) [] m)) makes ∙ both _ true (told_new rows made C id rest rising h.count is_delete) refl);
  each_latest = list_all-append (is_latest_of (operations 1 (C ++ in_entry id rest ∷ []))) rows (sent_row made id ∷ []) ∙ both _ _ (latest_taken rows C (in_entry id rest) (record { id = id; rest = rest }) makes free h.each_latest) (both _ true (latest_new made C (in_entry id rest) (record { id = id; rest = rest }) makes h.count) refl);
  each_owned = owned_kept C (in_entry id rest) refl h.each_owned;
  none_gone = gone_kept C (in_entry id rest) (in_ends_nothing id rest some is_delete) h.none_gone;
  none_sent = sent_kept C (in_entry id rest) (in_ends_nothing id rest some is_delete) h.none_sent;
}
  where
    makes : operation_message (In id rest) ≡ Some (record { id = id; rest = rest })
    makes = delete_makes id rest some is_delete

    old : (o : Operation) → (is_told rows o && is_named_within 1 (length (operations 1 C)) o) ≡ true → is_told (rows ++ sent_row made id ∷ []) (later_operation (in_entry id rest) o) ≡ true
    old o t = same_told rows (rows ++ sent_row made id ∷ []) o (in_entry id rest) (in_ends_nothing id rest some is_delete) (no_out_for o.request o.behind (in_entry id rest) refl) (row_of_old made rows (sent_row made id) o.name.k refl within) ∙ left (is_told rows o) _ t
      where
        within : o.name.k ≤ made
        within = let most : o.name.k ≤ length (operations 1 C) = number_within (length (operations 1 C)) o (right (is_told rows o) _ t) in omega (arith, h.count)

-- each row has its operation
pub operation_of_row : (rows : List Forwarded) (made : ℕ) (C : List Entry) (i : ℕ) (f : Forwarded) → ClientList rows made C → are_rising 0 made rows ≡ true → slice_get rows i ≡ Some f → (o : Operation) × (operation_in C (record { client = 1; k = f.k }) ≡ Some o)
operation_of_row rows made C i f h rising at = let row : (0 < f.k) × (f.k ≤ made) × (row_of f.k rows ≡ Some f) = rising_row 0 made rows i f rising at in named_is_there 1 f.k C row.0 (omega (arith, row.1, h.count))
