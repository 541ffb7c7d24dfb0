-- What a client's Forward carries is its request with the client's own identity, as the family says it was where the request
-- came.
use Rattle.std.proofs.Common.{◌≡◌, ℕ, suc, Bool, true, false, ◌==◌, ◌&&◌, List, [], ◌∷◌, ◌++◌, length, refl, ap, arith, ◌∙◌, sym, subst, append_assoc}
use Rattle.std.specs.Prelude.{Option, Some, None, is_some, nat_le, nat_lt, unwrap_or, if◌then◌else◌}
use Rattle.std.specs.List.{list_all}
use Rattle.std.specs.Str.{bytes_eq}
use Rattle.std.proofs.lemmas.Bool.Decides.{nat_tests}
use Rattle.std.proofs.lemmas.List.{map-append}
use Rattle.std.proofs.lemmas.List.Folds.{list_all-append}
use Rattle.ldap_spec.specs.Kinds.{kind_of}
use Rattle.ldap_spec.specs.Messages.{Message}
use Rattle.lload_names.specs.declared.names.Entry.{Entry}
use Rattle.lload_names.specs.declared.names.Letter.{Letter}
use Rattle.lload_names.specs.declared.names.Letter.TheVariants.{Forward}
use Rattle.lload_names.specs.declared.names.OpKind.{OpKind}
use Rattle.lload_names.specs.declared.names.OpKind.TheVariants.{Bind}
use Rattle.lload_names.specs.declared.names.OpName.{OpName}
use Rattle.lload_names.specs.declared.names.Posted.{Posted}
use Rattle.lload_names.specs.declared.names.What.TheVariants as what
use Rattle.lload_spec.specs.Answers.{wants_identity}
use Rattle.lload_spec.specs.Entries.{in_message, makes_operation, operation_message}
use Rattle.lload_spec.specs.Identity.{carried_for, identity}
use Rattle.lload_spec.specs.Journal.{Family, same_op}
use Rattle.lload_spec.specs.Lists.{passes}
use Rattle.lload_spec.specs.Operations.{Operation, operations, operation_in, is_request_of}
use Rattle.lload_spec.specs.Settings.{Settings}
use Rattle.lload_spec.proofs.Growth.{right, both}
use Rattle.lload_laws.specs.ClientGrowth.{later_operation, is_named_within}
use Rattle.lload_laws.proofs.ListLaws.{all_imply, bytes_same, found_passes}
use Rattle.part_laws.proofs.ListLaws.{eq_eqb, not_both}
use Rattle.part_spec.specs.ClientState.{ClientState, ClientRow, empty_client, step_client, client_of, client_behind, name_of, new_row}
use Rattle.part_spec.specs.Gives.{client_gives, client_letters}
use Rattle.part_spec.specs.Marked.{Marked, entries}
use Rattle.client_laws.proofs.ClientClauses.{Says, says_more, nothing_kept}
use Rattle.client_laws.proofs.ClientGives.{in_state}
use Rattle.client_laws.proofs.ClientTurns.{count_more}
use Rattle.client_answer_laws.proofs.Asks.{going_makes}
use Rattle.client_answer_laws.proofs.Each.{Each, each_both, each_found, each_imply}
use Rattle.client_answer_laws.proofs.Known.{within_there}
use Rattle.client_answer_laws.proofs.Rows.{rows_behind}
use Rattle.client_answer_laws.proofs.Waits.{RowKnown, each_grows, fresh_number, named_each, rows_known}
use Rattle.carried_laws.proofs.Letters.{PassesOthers, letters_pass}
use Rattle.carried_laws.proofs.Stays.{Kept, operation_kept}
use Rattle.identity_laws.proofs.Ins.{steps_push}

each_last : {A : Type 0} (P : A → Type 0) (xs : List A) (y : A) → Each P (xs ++ y ∷ []) → P y
each_last P [] y h = h.0
each_last P (x ∷ xs) y h = each_last P xs y h.1

module _ (s : Settings) (F : Family) (c : ℕ) where
  -- whether a Forward carries what its operation should, by the client's list up to this place
  abbrev pub is_carried_at : List Entry → Letter → Bool
  is_carried_at place (Forward op _ rest ask_who holder) = passes (λ o. bytes_eq rest (carried_for s o.request (identity s F c o.before))) (operation_in c place op)
  is_carried_at place _ = true

  abbrev pub are_carried_at : List Entry → List Posted → Bool
  are_carried_at place xs = list_all (λ x. is_carried_at place x.letter) xs

  others_carried : (place : List Entry) → PassesOthers (is_carried_at place)
  others_carried place = record { returned = λ op u. refl; drop = λ op. refl; leave = λ op. refl; pause = λ n. refl; resume = λ n. refl }

  carried_later : (L M : List Entry) (x : Letter) → is_carried_at L x ≡ true → is_carried_at (L ++ M) x ≡ true
  carried_later L M (Forward op kind rest ask holder) h = by (operation_in c L op) refl h
    where
      by : (o : Option Operation) → operation_in c L op ≡ o → passes (λ q. bytes_eq rest (carried_for s q.request (identity s F c q.before))) o ≡ true → passes (λ q. bytes_eq rest (carried_for s q.request (identity s F c q.before))) (operation_in c (L ++ M) op) ≡ true
      by None e k = absurd (let bad : false ≡ true = k in cc)
      by (Some o) e k =
          let more : Kept c (L ++ M) op o = operation_kept c L M op o e in
          ap (passes (λ q. bytes_eq rest (carried_for s q.request (identity s F c q.before)))) more.found ∙ ap (λ m. bytes_eq rest (carried_for s m (identity s F c more.later.before))) more.request ∙ ap (λ b. bytes_eq rest (carried_for s o.request (identity s F c b))) more.before ∙ k
  carried_later L M _ h = refl

  -- a row carries what its operation should
  abbrev pub Carries : ClientRow → Operation → Type 0
  Carries r o = (r.k == o.name.k) ≡ true → r.request.rest ≡ carried_for s o.request (identity s F c o.before)

  abbrev pub RowCarries : List Entry → ClientRow → Type 0
  RowCarries place r = Each (Carries r) (operations c place)

  row_carried : (place : List Entry) (p : ClientState) → p.number ≡ c → (r : ClientRow) (kind : OpKind) (ask : Bool) (holder : OpName) → RowKnown s c place r → RowCarries place r → is_carried_at place (Forward (name_of p r) kind r.request.rest ask holder) ≡ true
  row_carried place p number r kind ask holder h k = by (operation_in c place (name_of p r)) refl there
    where
      there : is_some (operation_in c place (name_of p r)) ≡ true
      there = within_there c place (name_of p r) (both (p.number == c && nat_lt 0 r.k) _ (both (p.number == c) _ (eq_eqb p.number c number) h.positive) h.within)

      by : (o : Option Operation) → operation_in c place (name_of p r) ≡ o → is_some o ≡ true → passes (λ q. bytes_eq r.request.rest (carried_for s q.request (identity s F c q.before))) o ≡ true
      by None e j = absurd (let bad : false ≡ true = j in cc)
      by (Some o) e j =
          let named : same_op (name_of p r) o.name ≡ true = found_passes (λ x. same_op (name_of p r) x.name) (operations c place) o e in
          let same : r.request.rest ≡ carried_for s o.request (identity s F c o.before) = each_found (Carries r) (λ x. same_op (name_of p r) x.name) (operations c place) o e k (right (p.number == o.name.client) _ named) in
          ap (bytes_eq r.request.rest) (sym same) ∙ bytes_same r.request.rest

  -- What is known of a client at a place.
  pub record At (place : List Entry) (p : ClientState) : Type 0 where
    pub says : Says c place p
    pub count : p.count ≡ length (operations c place)
    pub rows : Each (RowKnown s c place) p.rows
    pub carry : Each (RowCarries place) p.rows

  module _ (place : List Entry) (p : ClientState) (m : Marked) (h : At place p) (who : is_some (in_message m.entry.what) ≡ true → p.identity ≡ identity s F c place) where
    abbrev behind : List Entry
    behind = place ++ m.entry ∷ []

    older : (r : ClientRow) → RowKnown s c place r × RowCarries place r → RowCarries (place ++ m.entry ∷ []) r
    older r k = each_grows (Carries r) c place m.entry (each_imply (Carries r) (λ o. Carries r (later_operation m.entry o)) (operations c place) (λ o f j. f j) k.1) (λ x e j. absurd (let low : nat_le r.k (length (operations c place)) ≡ true = k.0.within in grind (arith, nat_tests, low, j)))

    newer : (x : Message) → m.entry.what ≡ what.In x.id x.rest → makes_operation x ≡ true → RowCarries (place ++ m.entry ∷ []) (new_row s p x)
    newer x e makes = each_grows (Carries (new_row s p x)) c place m.entry (each_imply (λ o. is_named_within c (length (operations c place)) o ≡ true) (λ o. Carries (new_row s p x) (later_operation m.entry o)) (operations c place) (λ o k j. not_both (suc (length (operations c place)) == o.name.k) (ap (λ n. suc n == o.name.k) (sym h.count) ∙ j) (fresh_number c place o k)) (named_each c place)) (λ y k j. one y (let same : Some x ≡ Some y = sym message ∙ k in cc))
      where
        put : Bool → Option Message
        put b = elim b [ true ↦ Some (record { id = x.id; rest = x.rest }) | false ↦ None ]

        message : operation_message m.entry.what ≡ Some x
        message = ap operation_message e ∙ ap put makes

        one : (y : Message) → x ≡ y → (new_row s p x).request.rest ≡ carried_for s y (identity s F c place)
        one y same = subst (λ (z : Message). (new_row s p x).request.rest ≡ carried_for s z (identity s F c place)) same (ap (carried_for s x) (who (ap (λ w. is_some (in_message w)) e)))

    known_behind : Each (RowKnown s c (place ++ m.entry ∷ [])) (client_behind s m.entry.at m.mark p m.entry.what).rows
    known_behind = rows_known s c m.entry.at m.entry.part m.mark place p h.says.number h.count m.entry.what h.rows

    pub at_more : At (place ++ m.entry ∷ []) (step_client s p m)
    at_more =
        record {
          says = says_more s c place p m h.says;
          count = count_more s c place m.entry m.mark p h.count;
          rows = known_behind;
          carry = rows_behind s m.entry.at m.mark p (RowCarries (place ++ m.entry ∷ [])) (each_imply (λ r. RowKnown s c place r × RowCarries place r) (RowCarries (place ++ m.entry ∷ [])) p.rows older (each_both (RowKnown s c place) (RowCarries place) p.rows h.rows h.carry)) m.entry.what newer (λ op u b q r e n k. by (r.k == q.k) r u k);
        }
      where
        by : (b : Bool) (r : ClientRow) (u : ℕ) → RowCarries (place ++ m.entry ∷ []) r → RowCarries (place ++ m.entry ∷ []) (if b then record r { connection = Some (unwrap_or r.connection u) } else r)
        by true r u k = each_imply (Carries r) (Carries (record r { connection = Some (unwrap_or r.connection u) })) (operations c (place ++ m.entry ∷ [])) (λ o f j. f j) k
        by false r u k = k

    -- its Forward carries what it should, behind the entry
    abbrev Right : ClientRow → Type 0
    Right r = (kind : OpKind) (holder : OpName) → kind_of r.request.rest ≡ Some kind → is_carried_at (place ++ m.entry ∷ []) (Forward (name_of p r) kind r.request.rest (wants_identity s r.request) holder) ≡ true

    old_right : (r : ClientRow) → RowKnown s c place r × RowCarries place r → Right r
    old_right r k kind holder e = carried_later place (m.entry ∷ []) (Forward (name_of p r) kind r.request.rest (wants_identity s r.request) holder) (row_carried place p h.says.number r kind (wants_identity s r.request) holder k.0 k.1)

    new_right : (x : Message) → m.entry.what ≡ what.In x.id x.rest → makes_operation x ≡ true → Right (new_row s p x)
    new_right x e makes kind holder k = row_carried (place ++ m.entry ∷ []) p h.says.number (new_row s p x) kind (wants_identity s (new_row s p x).request) holder (new_known (is_request_of Bind x) (subst (Each (RowKnown s c (place ++ m.entry ∷ []))) rows_in known_behind)) (newer x e makes)
      where
        rows_in : (client_behind s m.entry.at m.mark p m.entry.what).rows ≡ (in_state s m.entry.at p x true (is_request_of Bind x)).rows
        rows_in = ap (λ w. (client_behind s m.entry.at m.mark p w).rows) e ∙ ap (λ b. (in_state s m.entry.at p x b (is_request_of Bind x)).rows) makes

        new_known : (b : Bool) → Each (RowKnown s c (place ++ m.entry ∷ [])) (in_state s m.entry.at p x true b).rows → RowKnown s c (place ++ m.entry ∷ []) (new_row s p x)
        new_known true j = j.0
        new_known false j = each_last (RowKnown s c (place ++ m.entry ∷ [])) p.rows (new_row s p x) j

    pub letters_carried : are_carried_at (place ++ m.entry ∷ []) (client_letters s p m.entry.at m.entry.what) ≡ true
    letters_carried = letters_pass s (is_carried_at (place ++ m.entry ∷ [])) (others_carried (place ++ m.entry ∷ [])) p Right (λ r kind holder k e. k kind holder e) m.entry.at m.entry.what (λ op a r e k. old_right r (each_found (λ x. RowKnown s c place x × RowCarries place x) (λ x. p.number == op.client && x.k == op.k) p.rows r k (each_both (RowKnown s c place) (RowCarries place) p.rows h.rows h.carry))) (λ x e goes. new_right x e (going_makes s p x goes)) (λ x e asks. refl)

  -- The walk over a list at whose messages the state's identity is the family's.
  module _ (list : List Marked) (known : (before : List Marked) (m : Marked) (ms : List Marked) → list ≡ before ++ m ∷ ms → is_some (in_message m.entry.what) ≡ true → (client_of s c before).identity ≡ identity s F c (entries before)) where
    gives_from : (before ms : List Marked) → list ≡ before ++ ms → At (entries before) (client_of s c before) → are_carried_at (entries before ++ entries ms) (client_gives s (client_of s c before) ms) ≡ true
    gives_from before [] e h = refl
    gives_from before (m ∷ ms) e h =
        let L : List Entry = entries before ++ m.entry ∷ [] in
        let p : ClientState = client_of s c before in
        let grown : entries (before ++ m ∷ []) ≡ L = map-append (λ (x : Marked). x.entry) before (m ∷ []) in
        let next : client_of s c (before ++ m ∷ []) ≡ step_client s p m = steps_push s (empty_client c) before m in
        let at : At (entries (before ++ m ∷ [])) (client_of s c (before ++ m ∷ [])) = subst (At (entries (before ++ m ∷ []))) (sym next) (subst (λ l. At l (step_client s p m)) (sym grown) (at_more (entries before) p m h (known before m ms e))) in
        let rest : are_carried_at (L ++ entries ms) (client_gives s (step_client s p m) ms) ≡ true = subst (λ q. are_carried_at (L ++ entries ms) (client_gives s q ms) ≡ true) next (subst (λ l. are_carried_at (l ++ entries ms) (client_gives s (client_of s c (before ++ m ∷ [])) ms) ≡ true) grown (gives_from (before ++ m ∷ []) ms (e ∙ sym (append_assoc before (m ∷ []) ms)) at)) in
        let xs : List Posted = client_letters s p m.entry.at m.entry.what in
        let ys : List Posted = client_gives s (step_client s p m) ms in
        subst (λ l. are_carried_at l (xs ++ ys) ≡ true) (append_assoc (entries before) (m.entry ∷ []) (entries ms))
        (list_all-append (λ (x : Posted). is_carried_at (L ++ entries ms) x.letter) xs ys
        ∙ both (are_carried_at (L ++ entries ms) xs) _ (all_imply (λ (x : Posted). is_carried_at L x.letter) (λ (x : Posted). is_carried_at (L ++ entries ms) x.letter) xs (λ x k. carried_later L (entries ms) x.letter k) (letters_carried (entries before) p m h (known before m ms e))) rest)

    -- each Forward that the list gives carries its own client's identity
    pub gives_carried : are_carried_at (entries list) (client_gives s (empty_client c) list) ≡ true
    gives_carried = gives_from [] list refl (record { says = (nothing_kept s c).says; count = refl; rows = tt; carry = tt })
