-- Where no Sent of an operation stands in all lists, none stands in the list of any connection.
use Rattle.std.proofs.Common.{◌≡◌, ℕ, Bool, true, false, ◌==◌, ◌&&◌, not, List, [], ◌∷◌, ◌++◌, length, arith, refl, ap, ◌∙◌, sym, subst}
use Rattle.std.specs.Prelude.{Option, Some, None, cond, filter}
use Rattle.std.specs.List.{list_any, list_all}
use Rattle.std.proofs.lemmas.Bool.Decides.{nat_tests}
use Rattle.std.proofs.lemmas.List.Folds.{list_all-append}
use Rattle.ldap_spec.specs.Messages.{Message}
use Rattle.lload_names.specs.declared.names.Entry.{Entry}
use Rattle.lload_names.specs.declared.names.OpName.{OpName}
use Rattle.lload_spec.specs.Answers.{Sending, sending_made, sendings_from, sendings, sendings_at, all_sendings, sendings_of}
use Rattle.lload_spec.specs.Entries.{Named, sent_message, is_sent}
use Rattle.lload_spec.specs.Journal.{Family, IsWhole, same_op}
use Rattle.lload_spec.specs.Lists.{passes}
use Rattle.lload_spec.proofs.Growth.{left, right, both}
use Rattle.part_laws.proofs.ListLaws.{or_elim, same_number}

none_kept : {A : Type 0} (t : A → Bool) (xs : List A) → (length (filter t xs) == 0) ≡ true → list_all (λ x. not (t x)) xs ≡ true
none_kept t [] h = refl
none_kept t (x ∷ xs) h = by (t x) refl h (none_kept t xs)
  where
    by : (b : Bool) → t x ≡ b → (length (cond b (x ∷ filter t xs) (filter t xs)) == 0) ≡ true → ((length (filter t xs) == 0) ≡ true → list_all (λ y. not (t y)) xs ≡ true) → (not (t x) && list_all (λ y. not (t y)) xs) ≡ true
    by true e k ih = absurd (grind (arith, nat_tests, k))
    by false e k ih = both (not (t x)) _ (ap not e) (ih k)

module _ (op : OpName) where
  abbrev of_other : Sending → Bool
  of_other sent = not (same_op op sent.op)

  none_here : (u : ℕ) (before es : List Entry) → list_all of_other (sendings_from u before es) ≡ true → list_all (λ e. not (is_sent op e)) es ≡ true
  none_here u before [] h = refl
  none_here u before (e ∷ es) h = by (sent_message e.what) h (none_here u (before ++ e ∷ []) es)
    where
      by : (o : Option (Named Message)) → list_all of_other (sending_made u before e es o ++ sendings_from u (before ++ e ∷ []) es) ≡ true → (list_all of_other (sendings_from u (before ++ e ∷ []) es) ≡ true → list_all (λ x. not (is_sent op x)) es ≡ true) → (not (passes (λ x. same_op op x.op) o) && list_all (λ x. not (is_sent op x)) es) ≡ true
      by None k ih = ih k
      by (Some n) k ih = both (not (same_op op n.op)) _ (left (not (same_op op n.op)) _ k) (ih (right (not (same_op op n.op)) _ k))

  of_named : (F : Family) (u : ℕ) (us : List ℕ) → list_any (λ n. n == u) us ≡ true → list_all of_other (sendings_at F us) ≡ true → list_all of_other (sendings u (F.connection u)) ≡ true
  of_named F u [] h k = absurd (let bad : false ≡ true = h in cc)
  of_named F u (n ∷ us) h k =
      let parts : (list_all of_other (sendings n (F.connection n)) && list_all of_other (sendings_at F us)) ≡ true = sym (list_all-append of_other (sendings n (F.connection n)) (sendings_at F us)) ∙ k in
      or_elim (n == u) (list_any (λ m. m == u) us)
      (λ j. subst (λ v. list_all of_other (sendings v (F.connection v)) ≡ true) (same_number n u j) (left (list_all of_other (sendings n (F.connection n))) _ parts))
      (λ j. of_named F u us j (right (list_all of_other (sendings n (F.connection n))) _ parts)) h

  pub none_sent : (F : Family) (u : ℕ) → IsWhole F → (length (sendings_of F op) == 0) ≡ true → list_all (λ e. not (is_sent op e)) (F.connection u) ≡ true
  none_sent F u whole h = by (list_any (λ n. n == u) F.connections) refl
    where
      by : (b : Bool) → list_any (λ n. n == u) F.connections ≡ b → list_all (λ e. not (is_sent op e)) (F.connection u) ≡ true
      by true e = none_here u [] (F.connection u) (of_named F u F.connections e (none_kept (λ (sent : Sending). same_op op sent.op) (all_sendings F) h))
      by false e = subst (λ l. list_all (λ x. not (is_sent op x)) l ≡ true) (sym (whole.connections_named u e)) refl
