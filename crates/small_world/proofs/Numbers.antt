-- Which operations there are, and what Sent entries of one connection have.
use Rattle.std.proofs.Common.{◌≡◌, ℕ, ◌≤◌, ◌<◌, Bool, true, false, ◌==◌, ◌||◌, List, [], ◌∷◌, ◌++◌, refl, ap, ◌∙◌, sym, length}
use Rattle.std.specs.Prelude.{Option, Some, None, find, cond}
use Rattle.std.specs.List.{list_all, list_any}
use Rattle.std.proofs.lemmas.List.Folds.{list_all-append, list_any-append}
use Rattle.std.proofs.lemmas.Bool.{eq-eqb, or_right}
use Rattle.std.proofs.Math.Bool.{or-false}
use Rattle.ldap_spec.specs.Messages.{Message}
use Rattle.lload_names.specs.declared.names.Entry.{Entry}
use Rattle.lload_names.specs.declared.names.OpName.{OpName}
use Rattle.small_spec.specs.Lists.{passes}
use Rattle.small_spec.specs.Journal.{same_op}
use Rattle.small_spec.specs.Entries.{Named, sent_message}
use Rattle.small_spec.specs.Operations.{Operation, operations}
use Rattle.small_spec.specs.Answers.{sendings, sendings_from, sending_made}
use Rattle.small_laws.proofs.ClientGrowth.{named_is_there as operation_of_number}
use Rattle.small_spec.proofs.Growth.{left, right, both}

-- an element that is found and passes a test
pub any_found : {A : Type 0} (t q : A → Bool) (xs : List A) (y : A) → find t xs ≡ Some y → q y ≡ true → list_any q xs ≡ true
any_found t q [] y f k = absurd (let bad : None ≡ Some y = f in cc)
any_found t q (x ∷ xs) y f k = more (t x) f (λ g. any_found t q xs y g k)
  where
    more : (b : Bool) → cond b (Some x) (find t xs) ≡ Some y → (find t xs ≡ Some y → list_any q xs ≡ true) → (q x || list_any q xs) ≡ true
    more true g rest = let same : x ≡ y = cc in ap (λ z. q z || list_any q xs) same ∙ ap (λ b. b || list_any q xs) k
    more false g rest = or_right (q x) (list_any q xs) (rest g)

-- one that passes a test, where some does, and what holds of each
pub record Passing (A : Type 0) (t q : A → Bool) : Type 0 where
  pub element : A
  pub passes : t element ≡ true
  pub holds : q element ≡ true

pub passing : {A : Type 0} (t q : A → Bool) (xs : List A) → list_any t xs ≡ true → list_all q xs ≡ true → Passing A t q
passing {A = A} t q [] h k = absurd (let bad : false ≡ true = h in cc)
passing {A = A} t q (x ∷ xs) h k = more (t x) refl h (λ g. passing t q xs g (right (q x) _ k))
  where
    more : (b : Bool) → t x ≡ b → (b || list_any t xs) ≡ true → (list_any t xs ≡ true → Passing A t q) → Passing A t q
    more true e g rest = record { element = x; passes = e; holds = left (q x) _ k }
    more false e g rest = rest g

-- the operation of a number from 1 to their count
pub record Found (c k : ℕ) (os : List Operation) : Type 0 where
  pub operation : Operation
  pub is_found : find (λ o. same_op (record { client = c; k = k }) o.name) os ≡ Some operation

pub named_is_there : (c k : ℕ) (L : List Entry) → 0 < k → k ≤ length (operations c L) → Found c k (operations c L)
named_is_there c k L low high = let there = operation_of_number c k L low high in record { operation = there.0; is_found = there.1 }

-- the Sent entries of a connection's list are of that connection
of_connection_made : (u : ℕ) (before : List Entry) (x : Entry) (L : List Entry) (m : Option (Named Message)) → list_all (λ s. s.connection == u) (sending_made u before x L m) ≡ true
of_connection_made u before x L None = refl
of_connection_made u before x L (Some s) = both (u == u) true (eq-eqb u u refl) refl

of_connection_from : (u : ℕ) (before L : List Entry) → list_all (λ s. s.connection == u) (sendings_from u before L) ≡ true
of_connection_from u before [] = refl
of_connection_from u before (x ∷ L) = list_all-append (λ s. s.connection == u) (sending_made u before x L (sent_message x.what)) (sendings_from u (before ++ x ∷ []) L) ∙ both _ _ (of_connection_made u before x L (sent_message x.what)) (of_connection_from u (before ++ x ∷ []) L)

pub of_connection : (u : ℕ) (L : List Entry) → list_all (λ s. s.connection == u) (sendings u L) ≡ true
of_connection u L = of_connection_from u [] L

-- an identifier was given by an entry where a Sent has it
sent_any_made : (test : OpName → ℕ → Bool) (u : ℕ) (before : List Entry) (x : Entry) (L : List Entry) (m : Option (Named Message)) → passes (λ s. test s.op s.value.id) m ≡ list_any (λ s. test s.op s.id) (sending_made u before x L m)
sent_any_made test u before x L None = refl
sent_any_made test u before x L (Some s) = sym (or-false (test s.op s.value.id))

sent_any_from : (test : OpName → ℕ → Bool) (u : ℕ) (before L : List Entry) → list_any (λ e. passes (λ s. test s.op s.value.id) (sent_message e.what)) L ≡ list_any (λ s. test s.op s.id) (sendings_from u before L)
sent_any_from test u before [] = refl
sent_any_from test u before (x ∷ L) = ap (λ b. b || list_any (λ e. passes (λ s. test s.op s.value.id) (sent_message e.what)) L) (sent_any_made test u before x L (sent_message x.what)) ∙ ap (λ b. list_any (λ s. test s.op s.id) (sending_made u before x L (sent_message x.what)) || b) (sent_any_from test u (before ++ x ∷ []) L) ∙ sym (list_any-append (λ s. test s.op s.id) (sending_made u before x L (sent_message x.what)) (sendings_from u (before ++ x ∷ []) L))

pub sent_any : (test : OpName → ℕ → Bool) (u : ℕ) (L : List Entry) → list_any (λ e. passes (λ s. test s.op s.value.id) (sent_message e.what)) L ≡ list_any (λ s. test s.op s.id) (sendings u L)
sent_any test u L = sent_any_from test u [] L
