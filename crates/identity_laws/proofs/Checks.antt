-- The first check of each operation is the same by its client's state and by the family.
use Rattle.std.proofs.Common.{◌≡◌, ℕ, suc, ◌+◌, true, List, [], ◌∷◌, ◌++◌, length, refl, ap, ◌∙◌, subst, append_assoc}
use Rattle.std.specs.Prelude.{Option, Some, None, is_some, take}
use Rattle.std.proofs.lemmas.List.{map-append}
use Rattle.ldap_spec.specs.Messages.{Message}
use Rattle.lload_names.specs.declared.names.PartName.{PartName}
use Rattle.lload_names.specs.declared.names.PartName.TheVariants.{Client}
use Rattle.lload_names.specs.declared.names.What.{What}
use Rattle.lload_names.specs.declared.names.What.TheVariants as what
use Rattle.lload_spec.specs.Entries.{in_message, operation_message}
use Rattle.lload_spec.specs.FirstCheck.{check, first_check}
use Rattle.lload_spec.specs.Journal.{Family, same_op}
use Rattle.lload_spec.specs.Operations.{Operation, operations, operations_from, operation_made, made}
use Rattle.lload_spec.specs.Settings.{Settings}
use Rattle.lload_laws.proofs.ListLaws.{found_passes}
use Rattle.part_laws.proofs.ListLaws.{same_op_eq}
use Rattle.part_spec.specs.ClientState.{client_of, facts_of}
use Rattle.part_spec.specs.Marked.{Marked, entries}
use Rattle.part_spec.specs.Share.{check_in}
use Rattle.client_answer_laws.proofs.Each.{Each, each_append, each_found}
use Rattle.carried_laws.specs.Laws.{IdentitiesAreRight, Played}
use Rattle.identity_laws.specs.Laws.{ClientsAreKnown, ChecksAreKnown}
use Rattle.identity_laws.proofs.Ins.{Known, client_known, known_at}

pub take_before : (before ms : List Marked) → take (length (entries before)) (before ++ ms) ≡ before
take_before [] ms = refl
take_before (m ∷ before) ms = ap (λ l. m ∷ l) (take_before before ms)

pub made_in : (w : What) (x : Message) → operation_message w ≡ Some x → is_some (in_message w) ≡ true
made_in (what.In id rest) x e = refl
made_in _ x e = absurd (let bad : None ≡ Some x = e in cc)

-- the check of an operation
abbrev IsSame : Settings → Family → ℕ → List Marked → Operation → Type 0
IsSame s F c list o = check_in s c list o.before o.request ≡ first_check s F c o.before o.request

same_from : (s : Settings) (F : Family) (c k : ℕ) (before ms : List Marked) → Known s F c before ms → Each (IsSame s F c (before ++ ms)) (operations_from c k (entries before) (entries ms))
same_from s F c k before [] h = tt
same_from s F c k before (m ∷ ms) h =
    let grown : entries (before ++ m ∷ []) ≡ entries before ++ m.entry ∷ [] = map-append (λ (x : Marked). x.entry) before (m ∷ []) in
    each_append (IsSame s F c (before ++ m ∷ ms)) (operation_made c (suc k) (entries before) m.entry (entries ms) (operation_message m.entry.what)) (operations_from c (k + made (operation_message m.entry.what)) (entries before ++ m.entry ∷ []) (entries ms))
    (by (operation_message m.entry.what) refl)
    (subst (λ l. Each (IsSame s F c (before ++ m ∷ ms)) (operations_from c (k + made (operation_message m.entry.what)) l (entries ms))) grown (subst (λ l. Each (IsSame s F c l) (operations_from c (k + made (operation_message m.entry.what)) (entries (before ++ m ∷ [])) (entries ms))) (append_assoc before (m ∷ []) ms) (same_from s F c (k + made (operation_message m.entry.what)) (before ++ m ∷ []) ms h.1)))
  where
    by : (o : Option Message) → operation_message m.entry.what ≡ o → Each (IsSame s F c (before ++ m ∷ ms)) (operation_made c (suc k) (entries before) m.entry (entries ms) o)
    by None e = tt
    by (Some x) e = (ap (λ l. check s (facts_of (client_of s c l)) x) (take_before before (m ∷ ms)) ∙ ap (λ f. check s f x) (h.0 (made_in m.entry.what x e)), tt)

module _ (told : IdentitiesAreRight) where
  pub known_in : (s : Settings) (F : Family) (marked : PartName → List Marked) → Played s F marked → (c : ℕ) → Known s F c [] (marked (Client c))
  known_in s F marked h c = client_known s F c (marked (Client c)) (h.clients c).events (h.clients c).same (h.joined.shared.same_entries (Client c)) (told s F marked h c)

  pub clients_known : ClientsAreKnown
  clients_known s F marked h c before m behind e k = known_at s F c [] before m behind (subst (Known s F c []) e (known_in s F marked h c)) k

  pub checks_known : ChecksAreKnown
  checks_known s F marked h op o e =
      let all : Each (IsSame s F op.client (marked (Client op.client))) (operations op.client (entries (marked (Client op.client)))) = same_from s F op.client 0 [] (marked (Client op.client)) (known_in s F marked h op.client) in
      let here : Each (IsSame s F op.client (marked (Client op.client))) (operations op.client (F.client op.client)) = subst (λ l. Each (IsSame s F op.client (marked (Client op.client))) (operations op.client l)) (h.joined.shared.same_entries (Client op.client)) all in
      let one : IsSame s F op.client (marked (Client op.client)) o = each_found (IsSame s F op.client (marked (Client op.client))) (λ x. same_op op x.name) (operations op.client (F.client op.client)) o e here in
      let name : op ≡ o.name = same_op_eq op o.name (found_passes (λ x. same_op op x.name) (operations op.client (F.client op.client)) o e) in
      subst (λ c. check_in s c (marked (Client c)) o.before o.request ≡ first_check s F c o.before o.request) (ap (λ n. n.client) name) one
