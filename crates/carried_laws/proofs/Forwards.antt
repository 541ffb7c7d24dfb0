-- Each Forward that a client gave says of its operation what the client's list says.
use Rattle.std.proofs.Common.{◌≡◌, ℕ, Bool, true, false, ◌==◌, ◌&&◌, List, [], ◌∷◌, ◌++◌, length, refl, ap, ◌∙◌, sym, subst, append_assoc}
use Rattle.std.specs.Prelude.{Option, Some, None, is_some, nat_lt}
use Rattle.std.specs.List.{list_all}
use Rattle.std.proofs.lemmas.List.Folds.{list_all-append}
use Rattle.ldap_spec.specs.Kinds.{kind_of, same_kind}
use Rattle.ldap_spec.specs.Messages.{Message}
use Rattle.lload_names.specs.declared.names.Entry.{Entry}
use Rattle.lload_names.specs.declared.names.Letter.{Letter}
use Rattle.lload_names.specs.declared.names.Letter.TheVariants.{Forward}
use Rattle.lload_names.specs.declared.names.OpKind.{OpKind}
use Rattle.lload_names.specs.declared.names.OpKind.TheVariants.{Bind, Search, Modify, Add, Delete, ModifyDn, Compare, Extended}
use Rattle.lload_names.specs.declared.names.OpName.{OpName}
use Rattle.lload_names.specs.declared.names.Posted.{Posted}
use Rattle.lload_names.specs.declared.names.What.TheVariants as what
use Rattle.lload_spec.specs.Answers.{wants_identity}
use Rattle.lload_spec.specs.Journal.{same_op}
use Rattle.lload_spec.specs.Lists.{agrees, passes}
use Rattle.lload_spec.specs.Entries.{makes_operation}
use Rattle.lload_spec.specs.Operations.{Operation, operations, operation_in, is_request_of}
use Rattle.lload_spec.specs.Settings.{Settings}
use Rattle.lload_spec.proofs.Growth.{right, both}
use Rattle.lload_laws.proofs.ListLaws.{all_imply, found_passes}
use Rattle.part_laws.proofs.ListLaws.{eq_eqb}
use Rattle.part_spec.specs.ClientState.{ClientState, ClientRow, empty_client, step_client, client_behind, name_of, new_row}
use Rattle.part_spec.specs.Gives.{client_gives, client_letters}
use Rattle.part_spec.specs.Marked.{Marked, entries}
use Rattle.client_laws.proofs.ClientClauses.{Says, says_more, nothing_kept}
use Rattle.client_laws.proofs.ClientTurns.{count_more}
use Rattle.client_laws.proofs.ClientGives.{in_state}
use Rattle.client_answer_laws.proofs.Asks.{going_makes}
use Rattle.client_answer_laws.proofs.Each.{Each, each_found}
use Rattle.client_answer_laws.proofs.Known.{within_there}
use Rattle.client_answer_laws.proofs.Waits.{IsOf, RowKnown, rows_known}
use Rattle.carried_laws.specs.Laws.{says_rightly}
use Rattle.carried_laws.proofs.Letters.{PassesOthers, letters_pass}
use Rattle.carried_laws.proofs.Stays.{Kept, operation_kept}

-- whether a Forward says of its operation what the client's list says up to this place
abbrev pub is_right_at : Settings → ℕ → List Entry → Letter → Bool
is_right_at s c place (Forward op kind _ ask_who holder) = passes (says_rightly s ask_who kind) (operation_in c place op)
is_right_at s c place _ = true

abbrev pub are_right_at : Settings → ℕ → List Entry → List Posted → Bool
are_right_at s c place xs = list_all (λ x. is_right_at s c place x.letter) xs

pub same_kind_same : (k : OpKind) → same_kind k k ≡ true
same_kind_same Bind = refl
same_kind_same Search = refl
same_kind_same Modify = refl
same_kind_same Add = refl
same_kind_same Delete = refl
same_kind_same ModifyDn = refl
same_kind_same Compare = refl
same_kind_same Extended = refl

agrees_same : (b : Bool) → agrees b b ≡ true
agrees_same true = refl
agrees_same false = refl

others_right : (s : Settings) (c : ℕ) (place : List Entry) → PassesOthers (is_right_at s c place)
others_right s c place = record { returned = λ op u. refl; drop = λ op. refl; leave = λ op. refl; pause = λ n. refl; resume = λ n. refl }

-- it stays so as the list grows
right_later : (s : Settings) (c : ℕ) (L M : List Entry) (x : Letter) → is_right_at s c L x ≡ true → is_right_at s c (L ++ M) x ≡ true
right_later s c L M (Forward op kind rest ask holder) h = by (operation_in c L op) refl h
  where
    by : (o : Option Operation) → operation_in c L op ≡ o → passes (says_rightly s ask kind) o ≡ true → passes (says_rightly s ask kind) (operation_in c (L ++ M) op) ≡ true
    by None e k = absurd (let bad : false ≡ true = k in cc)
    by (Some o) e k =
        let more : Kept c (L ++ M) op o = operation_kept c L M op o e in
        ap (passes (says_rightly s ask kind)) more.found ∙ ap (λ m. passes (same_kind kind) (kind_of m.rest) && agrees ask (wants_identity s m)) more.request ∙ k
right_later s c L M _ h = refl

-- the Forward of a row
row_right : (s : Settings) (c : ℕ) (place : List Entry) (p : ClientState) → p.number ≡ c → (r : ClientRow) (kind : OpKind) (holder : OpName) → RowKnown s c place r → kind_of r.request.rest ≡ Some kind → is_right_at s c place (Forward (name_of p r) kind r.request.rest (wants_identity s r.request) holder) ≡ true
row_right s c place p number r kind holder h k = by (operation_in c place (name_of p r)) refl there
  where
    there : is_some (operation_in c place (name_of p r)) ≡ true
    there = within_there c place (name_of p r) (both (p.number == c && nat_lt 0 r.k) _ (both (p.number == c) _ (eq_eqb p.number c number) h.positive) h.within)

    by : (o : Option Operation) → operation_in c place (name_of p r) ≡ o → is_some o ≡ true → passes (says_rightly s (wants_identity s r.request) kind) o ≡ true
    by None e j = absurd (let bad : false ≡ true = j in cc)
    by (Some o) e j =
        let named : same_op (name_of p r) o.name ≡ true = found_passes (λ x. same_op (name_of p r) x.name) (operations c place) o e in
        let is_of : IsOf s r o = each_found (λ x. (r.k == x.name.k) ≡ true → IsOf s r x) (λ x. same_op (name_of p r) x.name) (operations c place) o e h.same (right (p.number == o.name.client) _ named) in
        both (passes (same_kind kind) (kind_of o.request.rest)) _ (ap (passes (same_kind kind)) (sym is_of.carries.kind ∙ k) ∙ same_kind_same kind) (ap (agrees (wants_identity s r.request)) (sym is_of.carries.wants) ∙ agrees_same (wants_identity s r.request))

each_last : {A : Type 0} (P : A → Type 0) (xs : List A) (y : A) → Each P (xs ++ y ∷ []) → P y
each_last P [] y h = h.0
each_last P (x ∷ xs) y h = each_last P xs y h.1

-- What is known of a client behind each list.
record At (s : Settings) (c : ℕ) (place : List Entry) (p : ClientState) : Type 0 where
  says : Says c place p
  count : p.count ≡ length (operations c place)
  rows : Each (RowKnown s c place) p.rows

at_more : (s : Settings) (c : ℕ) (place : List Entry) (p : ClientState) (m : Marked) → At s c place p → At s c (place ++ m.entry ∷ []) (step_client s p m)
at_more s c place p m h =
    record {
      says = says_more s c place p m h.says;
      count = count_more s c place m.entry m.mark p h.count;
      rows = rows_known s c m.entry.at m.entry.part m.mark place p h.says.number h.count m.entry.what h.rows;
    }

module _ (s : Settings) (c : ℕ) (place : List Entry) (p : ClientState) (m : Marked) (h : At s c place p) where
  abbrev behind : List Entry
  behind = place ++ m.entry ∷ []

  -- its Forward would say what the list behind the entry says
  abbrev Right : ClientRow → Type 0
  Right r = (kind : OpKind) (holder : OpName) → kind_of r.request.rest ≡ Some kind → is_right_at s c (place ++ m.entry ∷ []) (Forward (name_of p r) kind r.request.rest (wants_identity s r.request) holder) ≡ true

  old_right : (r : ClientRow) → RowKnown s c place r → Right r
  old_right r k kind holder e = right_later s c place (m.entry ∷ []) (Forward (name_of p r) kind r.request.rest (wants_identity s r.request) holder) (row_right s c place p h.says.number r kind holder k e)

  new_right : (x : Message) → m.entry.what ≡ what.In x.id x.rest → makes_operation x ≡ true → Right (new_row s p x)
  new_right x e makes kind holder k = row_right s c (place ++ m.entry ∷ []) p h.says.number (new_row s p x) kind holder (new_known (is_request_of Bind x) (subst (Each (RowKnown s c (place ++ m.entry ∷ []))) rows_in (rows_known s c m.entry.at m.entry.part m.mark place p h.says.number h.count m.entry.what h.rows))) k
    where
      rows_in : (client_behind s m.entry.at m.mark p m.entry.what).rows ≡ (in_state s m.entry.at p x true (is_request_of Bind x)).rows
      rows_in = ap (λ w. (client_behind s m.entry.at m.mark p w).rows) e ∙ ap (λ b. (in_state s m.entry.at p x b (is_request_of Bind x)).rows) makes

      new_known : (b : Bool) → Each (RowKnown s c (place ++ m.entry ∷ [])) (in_state s m.entry.at p x true b).rows → RowKnown s c (place ++ m.entry ∷ []) (new_row s p x)
      new_known true j = j.0
      new_known false j = each_last (RowKnown s c (place ++ m.entry ∷ [])) p.rows (new_row s p x) j

  letters_right : are_right_at s c (place ++ m.entry ∷ []) (client_letters s p m.entry.at m.entry.what) ≡ true
  letters_right = letters_pass s (is_right_at s c (place ++ m.entry ∷ [])) (others_right s c (place ++ m.entry ∷ [])) p Right (λ r kind holder k e. k kind holder e) m.entry.at m.entry.what (λ op a r e k. old_right r (each_found (RowKnown s c place) (λ x. p.number == op.client && x.k == op.k) p.rows r k h.rows)) (λ x e goes. new_right x e (going_makes s p x goes)) (λ x e asks. refl)

-- The walk.
gives_right : (s : Settings) (c : ℕ) (place : List Entry) (p : ClientState) (ms : List Marked) → At s c place p → are_right_at s c (place ++ entries ms) (client_gives s p ms) ≡ true
gives_right s c place p [] h = refl
gives_right s c place p (m ∷ ms) h =
    let L : List Entry = place ++ m.entry ∷ [] in
    let xs : List Posted = client_letters s p m.entry.at m.entry.what in
    let ys : List Posted = client_gives s (step_client s p m) ms in
    subst (λ l. are_right_at s c l (xs ++ ys) ≡ true) (append_assoc place (m.entry ∷ []) (entries ms))
    (list_all-append (λ (x : Posted). is_right_at s c (L ++ entries ms) x.letter) xs ys
    ∙ both (are_right_at s c (L ++ entries ms) xs) _ (all_imply (λ (x : Posted). is_right_at s c L x.letter) (λ (x : Posted). is_right_at s c (L ++ entries ms) x.letter) xs (λ x k. right_later s c L (entries ms) x.letter k) (letters_right s c place p m h))
    (gives_right s c L (step_client s p m) ms (at_more s c place p m h)))

-- each Forward that a client's list gives says what the list says
pub client_gives_right : (s : Settings) (c : ℕ) (ms : List Marked) → are_right_at s c (entries ms) (client_gives s (empty_client c) ms) ≡ true
client_gives_right s c ms = gives_right s c [] (empty_client c) ms (record { says = (nothing_kept s c).says; count = refl; rows = tt })
