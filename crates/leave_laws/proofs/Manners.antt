-- An operation that its client ends: by a Bind, an Abandon or a Cancel, or with its own end.
use Rattle.std.proofs.Common.{◌≡◌, ℕ, ◌≤◌, Bool, true, false, ◌==◌, ◌&&◌, ◌||◌, List, [], ◌∷◌, ◌++◌, length, refl, ap, ◌∙◌, sym, subst, append_assoc}
use Rattle.std.specs.Prelude.{Option, Some, None, is_none, nat_le, nat_lt, option_map}
use Rattle.std.proofs.lemmas.Bool.{leb-true}
use Rattle.std.proofs.lemmas.List.{append-nil}
use Rattle.ldap_spec.specs.Messages.{Message}
use Rattle.lload_names.specs.declared.names.Entry.{Entry}
use Rattle.lload_spec.specs.Journal.{same_op}
use Rattle.lload_spec.specs.Lists.{passes}
use Rattle.lload_spec.specs.Operations.{Ending, Manner, Operation, ending, ending_from, ending_or, is_by_client, is_ended_by_client, is_live, manner_of, operation_in, operations}
use Rattle.lload_spec.proofs.Growth.{end_stays, right}
use Rattle.lload_laws.specs.ClientGrowth.{is_named_within, later_operation}
use Rattle.lload_laws.proofs.ClientGrowth.{ending_grows, old_operations, own_names}
use Rattle.lload_laws.proofs.ListLaws.{found, found_passes}
use Rattle.part_laws.proofs.ListLaws.{or_elim, or_left, or_right, same_number}

-- whether an entry that ends an operation so ends it by its client
abbrev pub is_clients : Option Manner → Bool
is_clients o = passes (λ m. is_by_client (record { manner = m; at = 0; behind = [] })) o

-- the end of a live operation
now : (r : Message) (since L : List Entry) (e : Entry) → is_none (ending_from r since L) ≡ true → is_clients (manner_of r (since ++ L) e) ≡ true → passes is_by_client (ending_from r since (L ++ e ∷ [])) ≡ true
now r since [] e h k = by (manner_of r since e) (subst (λ l. is_clients (manner_of r l e) ≡ true) (append-nil since) k)
  where
    by : (m : Option Manner) → is_clients m ≡ true → passes is_by_client (ending_or m e [] None) ≡ true
    by None j = absurd (let bad : false ≡ true = j in cc)
    by (Some m) j = j
now r since (x ∷ L) e h k = by (manner_of r since x) h (λ i. now r (since ++ x ∷ []) L e i (subst (λ l. is_clients (manner_of r l e) ≡ true) (sym (append_assoc since (x ∷ []) L)) k))
  where
    by : (m : Option Manner) → is_none (ending_or m x L (ending_from r (since ++ x ∷ []) L)) ≡ true → (is_none (ending_from r (since ++ x ∷ []) L) ≡ true → passes is_by_client (ending_from r (since ++ x ∷ []) (L ++ e ∷ [])) ≡ true) → passes is_by_client (ending_or m x (L ++ e ∷ []) (ending_from r (since ++ x ∷ []) (L ++ e ∷ []))) ≡ true
    by None j ih = ih j
    by (Some m) j ih = absurd (let bad : false ≡ true = j in cc)

-- it stays so
stays : (e : Entry) (o : Operation) → is_ended_by_client o ≡ true → is_ended_by_client (later_operation e o) ≡ true
stays e o h = by (ending o) refl h
  where
    by : (x : Option Ending) → ending o ≡ x → passes is_by_client x ≡ true → is_ended_by_client (later_operation e o) ≡ true
    by None z k = absurd (let bad : false ≡ true = k in cc)
    by (Some x) z k = ap (passes is_by_client) (end_stays o.request [] o.behind (e ∷ []) x z) ∙ k

-- whether the operation of a number was ended by its client, and whether it is live or was
abbrev pub has_ended : ℕ → ℕ → List Entry → Bool
has_ended c k place = passes is_ended_by_client (operation_in c place (record { client = c; k = k }))

abbrev pub is_clients_own : Operation → Bool
is_clients_own o = is_live o || is_ended_by_client o

abbrev pub is_ours : ℕ → ℕ → List Entry → Bool
is_ours c k place = passes is_clients_own (operation_in c place (record { client = c; k = k }))

module _ (c k : ℕ) (place : List Entry) (e : Entry) where
  -- what is found stays, with the entry behind it
  pub found_later : (o : Operation) → operation_in c place (record { client = c; k = k }) ≡ Some o → operation_in c (place ++ e ∷ []) (record { client = c; k = k }) ≡ Some (later_operation e o)
  found_later o h = old_operations c k place e within ∙ ap (option_map (later_operation e)) h
    where
      named : is_named_within c (length (operations c place)) o ≡ true
      named = found (is_named_within c (length (operations c place))) (λ x. same_op (record { client = c; k = k }) x.name) (operations c place) o h (own_names c place)

      same : k ≡ o.name.k
      same = same_number k o.name.k (right (c == o.name.client) _ (found_passes (λ x. same_op (record { client = c; k = k }) x.name) (operations c place) o h))

      within : k ≤ length (operations c place)
      within = leb-true k (length (operations c place)) (ap (λ n. nat_le n (length (operations c place))) same ∙ right (o.name.client == c && nat_lt 0 o.name.k) _ named)

  pub ended_stays : has_ended c k place ≡ true → has_ended c k (place ++ e ∷ []) ≡ true
  ended_stays h = by (operation_in c place (record { client = c; k = k })) refl h
    where
      by : (o : Option Operation) → operation_in c place (record { client = c; k = k }) ≡ o → passes is_ended_by_client o ≡ true → has_ended c k (place ++ e ∷ []) ≡ true
      by None z j = absurd (let bad : false ≡ true = j in cc)
      by (Some o) z j = ap (passes is_ended_by_client) (found_later o z) ∙ stays e o j

  -- where the entry ends it by its client, if it does
  pub ours_stay : ((o : Operation) → operation_in c place (record { client = c; k = k }) ≡ Some o → (is_none (manner_of o.request o.behind e) || is_clients (manner_of o.request o.behind e)) ≡ true) → is_ours c k place ≡ true → is_ours c k (place ++ e ∷ []) ≡ true
  ours_stay f h = by (operation_in c place (record { client = c; k = k })) refl h
    where
      one : (o : Operation) → (is_none (manner_of o.request o.behind e) || is_clients (manner_of o.request o.behind e)) ≡ true → is_clients_own o ≡ true → is_clients_own (later_operation e o) ≡ true
      one o g j =
          or_elim (is_live o) (is_ended_by_client o)
          (λ i. or_elim (is_none (manner_of o.request o.behind e)) (is_clients (manner_of o.request o.behind e))
          (λ q. or_left (is_live (later_operation e o)) _ (ending_grows o.request o.behind e ∙ ap (λ b. b && is_none (manner_of o.request o.behind e)) i ∙ q))
          (λ q. or_right (is_live (later_operation e o)) _ (now o.request [] o.behind e i q)) g)
          (λ i. or_right (is_live (later_operation e o)) _ (stays e o i)) j

      by : (o : Option Operation) → operation_in c place (record { client = c; k = k }) ≡ o → passes is_clients_own o ≡ true → is_ours c k (place ++ e ∷ []) ≡ true
      by None z j = absurd (let bad : false ≡ true = j in cc)
      by (Some o) z j = ap (passes is_clients_own) (found_later o z) ∙ one o (f o z) j

  pub ours_ended : ((o : Operation) → operation_in c place (record { client = c; k = k }) ≡ Some o → is_clients (manner_of o.request o.behind e) ≡ true) → is_ours c k place ≡ true → has_ended c k (place ++ e ∷ []) ≡ true
  ours_ended f h = by (operation_in c place (record { client = c; k = k })) refl h
    where
      by : (o : Option Operation) → operation_in c place (record { client = c; k = k }) ≡ o → passes is_clients_own o ≡ true → has_ended c k (place ++ e ∷ []) ≡ true
      by None z j = absurd (let bad : false ≡ true = j in cc)
      by (Some o) z j = ap (passes is_ended_by_client) (found_later o z) ∙ or_elim (is_live o) (is_ended_by_client o) (λ i. now o.request [] o.behind e i (f o z)) (λ i. stays e o i) j

-- and behind any entries
pub ended_more : (c k : ℕ) (L M : List Entry) → has_ended c k L ≡ true → has_ended c k (L ++ M) ≡ true
ended_more c k L [] h = subst (λ l. has_ended c k l ≡ true) (sym (append-nil L)) h
ended_more c k L (e ∷ M) h = subst (λ l. has_ended c k l ≡ true) (append_assoc L (e ∷ []) M) (ended_more c k (L ++ e ∷ []) M (ended_stays c k L e h))
