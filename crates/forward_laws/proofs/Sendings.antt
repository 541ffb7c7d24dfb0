-- The Sent entries of a list and of a family, and the letters to a part among those that are given.
use Rattle.std.proofs.Common.{◌≡◌, ℕ, Bool, true, false, ◌==◌, ◌&&◌, ◌||◌, List, [], ◌∷◌, ◌++◌, refl, ap, ◌∙◌, sym, subst}
use Rattle.std.specs.Prelude.{Option, Some, None}
use Rattle.std.specs.List.{list_any, list_all}
use Rattle.std.proofs.lemmas.List.Folds.{list_all-append}
use Rattle.ldap_spec.specs.Messages.{Message}
use Rattle.lload_names.specs.declared.names.Entry.{Entry}
use Rattle.lload_names.specs.declared.names.Letter.{Letter}
use Rattle.lload_names.specs.declared.names.OpName.{OpName}
use Rattle.lload_names.specs.declared.names.PartName.{PartName}
use Rattle.lload_names.specs.declared.names.Posted.{Posted}
use Rattle.lload_spec.specs.Answers.{Sending, sending_made, sendings_from, sendings, sendings_at, all_sendings}
use Rattle.lload_spec.specs.Entries.{Named, sent_message, is_sent}
use Rattle.lload_spec.specs.Fifo.{is_sent_at}
use Rattle.lload_spec.specs.Journal.{Family, IsWhole, same_op, same_part}
use Rattle.lload_spec.specs.Lists.{passes}
use Rattle.lload_spec.specs.Operations.{Operation}
use Rattle.lload_spec.proofs.Growth.{both}
use Rattle.lload_laws.proofs.ListLaws.{any-filter}
use Rattle.part_laws.proofs.ListLaws.{any_before, any_behind, eqb_same, or_elim, or_left, or_right, same_number, same_op_refl}
use Rattle.part_spec.specs.Marked.{letters_to}

-- what is so of each Sent whose entry stands in the list
pub each_sending : (u : ℕ) (P : Sending → Bool) (before es : List Entry) → ((sent : Sending) → sent.connection ≡ u → list_any (is_sent sent.op) es ≡ true → P sent ≡ true) → list_all P (sendings_from u before es) ≡ true
each_sending u P before [] f = refl
each_sending u P before (e ∷ es) f = list_all-append P (sending_made u before e es (sent_message e.what)) (sendings_from u (before ++ e ∷ []) es) ∙ both (list_all P (sending_made u before e es (sent_message e.what))) _ (here (sent_message e.what) refl) (each_sending u P (before ++ e ∷ []) es (λ sent k j. f sent k (or_right (is_sent sent.op e) _ j)))
  where
    here : (o : Option (Named Message)) → sent_message e.what ≡ o → list_all P (sending_made u before e es o) ≡ true
    here None k = refl
    here (Some n) k = both (P (record { connection = u; op = n.op; id = n.value.id; at = e.at; rest = n.value.rest; before = before; behind = es })) true (f (record { connection = u; op = n.op; id = n.value.id; at = e.at; rest = n.value.rest; before = before; behind = es }) refl (or_left (is_sent n.op e) _ (ap (passes (λ x. same_op n.op x.op)) k ∙ same_op_refl n.op))) refl

-- of all Sent entries, where it is so of those of each connection
pub all_sent : (F : Family) (P : Sending → Bool) (us : List ℕ) → ((u : ℕ) → list_all P (sendings u (F.connection u)) ≡ true) → list_all P (sendings_at F us) ≡ true
all_sent F P [] f = refl
all_sent F P (u ∷ us) f = list_all-append P (sendings u (F.connection u)) (sendings_at F us) ∙ both (list_all P (sendings u (F.connection u))) _ (f u) (all_sent F P us f)

-- a Sent that stands in a list is among its Sent entries
abbrev is_here : OpName → ℕ → Sending → Bool
is_here op u sent = same_op op sent.op && (sent.connection == u)

among : (op : OpName) (u : ℕ) (before es : List Entry) → list_any (is_sent op) es ≡ true → list_any (is_here op u) (sendings_from u before es) ≡ true
among op u before [] h = absurd (let bad : false ≡ true = h in cc)
among op u before (e ∷ es) h =
    or_elim (is_sent op e) (list_any (is_sent op) es)
    (λ k. any_before (is_here op u) (sending_made u before e es (sent_message e.what)) (sendings_from u (before ++ e ∷ []) es) (made (sent_message e.what) k))
    (λ k. any_behind (is_here op u) (sending_made u before e es (sent_message e.what)) (sendings_from u (before ++ e ∷ []) es) (among op u (before ++ e ∷ []) es k)) h
  where
    made : (o : Option (Named Message)) → passes (λ x. same_op op x.op) o ≡ true → list_any (is_here op u) (sending_made u before e es o) ≡ true
    made None k = absurd (let bad : false ≡ true = k in cc)
    made (Some n) k = or_left (same_op op n.op && (u == u)) false (both (same_op op n.op) _ k (eqb_same u))

at_named : (F : Family) (op : OpName) (u : ℕ) (us : List ℕ) → list_any (λ n. n == u) us ≡ true → list_any (is_here op u) (sendings u (F.connection u)) ≡ true → list_any (is_here op u) (sendings_at F us) ≡ true
at_named F op u [] h k = absurd (let bad : false ≡ true = h in cc)
at_named F op u (n ∷ us) h k =
    or_elim (n == u) (list_any (λ m. m == u) us)
    (λ j. any_before (is_here op u) (sendings n (F.connection n)) (sendings_at F us) (subst (λ v. list_any (is_here op u) (sendings v (F.connection v)) ≡ true) (sym (same_number n u j)) k))
    (λ j. any_behind (is_here op u) (sendings n (F.connection n)) (sendings_at F us) (at_named F op u us j k)) h

-- the operation was sent at the connection whose list has its Sent
pub sent_at : (F : Family) (u : ℕ) (o : Operation) → IsWhole F → list_any (is_sent o.name) (F.connection u) ≡ true → is_sent_at F u o ≡ true
sent_at F u o whole h = any-filter (λ sent. sent.connection == u) (λ sent. same_op o.name sent.op) (all_sendings F) ∙ at_named F o.name u F.connections named (among o.name u [] (F.connection u) h)
  where
    named : list_any (λ n. n == u) F.connections ≡ true
    named = by (list_any (λ n. n == u) F.connections) refl
      where
        by : (d : Bool) → list_any (λ n. n == u) F.connections ≡ d → d ≡ true
        by true e = refl
        by false e = sym (ap (list_any (is_sent o.name)) (whole.connections_named u e)) ∙ h

-- a letter to a part is one that was given to it
pub given_to : (q : PartName) (test : Letter → Bool) (xs : List Posted) → list_any test (letters_to q xs) ≡ true → list_any (λ x. same_part q x.to && test x.letter) xs ≡ true
given_to q test [] h = absurd (let bad : false ≡ true = h in cc)
given_to q test (x ∷ xs) h = by (same_part q x.to) h (given_to q test xs)
  where
    by : (d : Bool) → list_any test ((elim d [ true ↦ x.letter ∷ [] | false ↦ [] ]) ++ letters_to q xs) ≡ true → (list_any test (letters_to q xs) ≡ true → list_any (λ y. same_part q y.to && test y.letter) xs ≡ true) → (d && test x.letter || list_any (λ y. same_part q y.to && test y.letter) xs) ≡ true
    by true k ih = or_elim (test x.letter) (list_any test (letters_to q xs)) (λ j. or_left (test x.letter) _ j) (λ j. or_right (test x.letter) _ (ih j)) k
    by false k ih = ih k
