-- What a client's state says of its rows and of what it asked, by the list: numbers, actions, and choices.
use Rattle.std.proofs.Common.{◌≡◌, ℕ, suc, ◌≤◌, Bool, true, false, ◌==◌, ◌&&◌, not, List, [], ◌∷◌, ◌++◌, length, refl, ap, arith, ◌∙◌, sym, subst}
use Rattle.std.specs.Prelude.{Option, Some, None, is_some, map, nat_le, nat_lt, unwrap_or, if◌then◌else◌}
use Rattle.std.specs.List.{list_any, list_all}
use Rattle.std.proofs.lemmas.Bool.{le-leb, leb-true, lt-ltb}
use Rattle.std.proofs.lemmas.Bool.Decides.{nat_tests}
use Rattle.ldap_spec.specs.Messages.{Message}
use Rattle.ldap_spec.specs.Kinds.{kind_of, same_kind}
use Rattle.ldap_spec.specs.Requests.{request}
use Rattle.lload_names.specs.declared.names.Entry.{Entry}
use Rattle.lload_names.specs.declared.names.OpName.{OpName}
use Rattle.lload_names.specs.declared.names.OpKind.TheVariants.{Bind}
use Rattle.lload_names.specs.declared.names.PartName.{PartName}
use Rattle.lload_names.specs.declared.names.Answer.TheVariants.{Go}
use Rattle.lload_names.specs.declared.names.What.{What}
use Rattle.lload_names.specs.declared.names.What.TheVariants as what
use Rattle.lload_spec.specs.Lists.{passes, implies}
use Rattle.lload_spec.specs.Settings.{Settings}
use Rattle.lload_spec.specs.Entries.{operation_message, makes_operation}
use Rattle.lload_spec.specs.Operations.{Operation, operations, operation_made, is_request_of, is_simple_bind}
use Rattle.lload_spec.specs.Answers.{wants_identity}
use Rattle.lload_spec.specs.Identity.{proxied, carried_for}
use Rattle.lload_spec.specs.Binding.{action}
use Rattle.lload_spec.specs.FirstCheck.{lets_go_on}
use Rattle.lload_spec.specs.Strict.{is_choice_for}
use Rattle.part_spec.specs.Marked.{Taken}
use Rattle.part_spec.specs.ClientState.{ClientState, ClientRow, client_behind, is_bind_row, facts_of, check_at, row_named, new_row, held_connection, forwarded}
use Rattle.lload_spec.proofs.Growth.{left, right, both}
use Rattle.lload_laws.specs.ClientGrowth.{later_operation, new_operation, is_named_within}
use Rattle.lload_laws.proofs.ClientGrowth.{operations_grow, own_names, count_stays, count_rises}
use Rattle.lload_laws.proofs.ListLaws.{found_passes, implies_by}
use Rattle.part_laws.proofs.ListLaws.{not_both, implies_stays, or_left, any_before, any_behind, same_number, eq_eqb, le_same}
use Rattle.client_laws.proofs.KindsKept.{carried_kind}
use Rattle.client_laws.proofs.ClientLives.{entry_of}
use Rattle.client_answer_laws.proofs.Each.{Each, each_imply, each_append, each_map}
use Rattle.client_answer_laws.proofs.Rows.{rows_behind}

-- whether a name is of this client, with a number from 1 to n
abbrev pub is_within : ℕ → ℕ → OpName → Bool
is_within c n op = op.client == c && nat_lt 0 op.k && nat_le op.k n

-- a request as it goes upstream is of an operation
pub record Carries (s : Settings) (m : Message) (o : Operation) : Type 0 where
  pub kind : kind_of m.rest ≡ kind_of o.request.rest
  pub wants : wants_identity s m ≡ wants_identity s o.request

-- and so is a row
pub record IsOf (s : Settings) (r : ClientRow) (o : Operation) : Type 0 where
  pub carries : Carries s r.request o
  pub action : r.action ≡ action s o.request.rest

-- what holds of operations holds of a longer list
pub each_grows : (P : Operation → Type 0) (c : ℕ) (place : List Entry) (e : Entry) → Each (λ o. P (later_operation e o)) (operations c place) → ((m : Message) → operation_message e.what ≡ Some m → P (new_operation c place e m)) → Each P (operations c (place ++ e ∷ []))
each_grows P c place e h f = subst (Each P) (sym (operations_grow c place e)) (each_append P (map (later_operation e) (operations c place)) (operation_made c (suc (length (operations c place))) place e [] (operation_message e.what)) (each_map P (later_operation e) (operations c place) h) (by (operation_message e.what) refl))
  where
    by : (o : Option Message) → operation_message e.what ≡ o → Each P (operation_made c (suc (length (operations c place))) place e [] o)
    by None k = tt
    by (Some m) k = (f m k, tt)

pub named_each : (c : ℕ) (place : List Entry) → Each (λ o. is_named_within c (length (operations c place)) o ≡ true) (operations c place)
named_each c place = go (is_named_within c (length (operations c place))) (operations c place) (own_names c place)
  where
    go : (t : Operation → Bool) (os : List Operation) → list_all t os ≡ true → Each (λ o. t o ≡ true) os
    go t [] h = tt
    go t (o ∷ os) h = (left (t o) _ h, go t os (right (t o) _ h))

pub carried_wants : (s : Settings) (m : Message) (who : List ℕ) → wants_identity s (record m { rest = carried_for s m who }) ≡ wants_identity s m
carried_wants s m who = by (is_request_of Bind m) refl
  where
    none : (a b : Bool) → (a && false && b) ≡ false
    none true b = refl
    none false b = refl

    by : (b : Bool) → is_request_of Bind m ≡ b → wants_identity s (record m { rest = carried_for s m who }) ≡ wants_identity s m
    by true e = ap (λ x. wants_identity s (record m { rest = if x then m.rest else proxied s m.rest who })) e
    by false e = ap (λ k. s.proxies_authorization && passes (same_kind Bind) k && not (passes is_simple_bind (request (carried_for s m who)))) (carried_kind s m who) ∙ ap (λ b. s.proxies_authorization && b && not (passes is_simple_bind (request (carried_for s m who)))) e ∙ none s.proxies_authorization (not (passes is_simple_bind (request (carried_for s m who)))) ∙ sym (ap (λ b. s.proxies_authorization && b && not (passes is_simple_bind (request m.rest))) e ∙ none s.proxies_authorization (not (passes is_simple_bind (request m.rest))))

-- What is known of a row: its number, its operation's request, and the choice of its connection where it isn't a Bind.
pub record RowKnown (s : Settings) (c : ℕ) (place : List Entry) (r : ClientRow) : Type 0 where
  pub within : nat_le r.k (length (operations c place)) ≡ true
  pub positive : nat_lt 0 r.k ≡ true
  pub same : Each (λ o. (r.k == o.name.k) ≡ true → IsOf s r o) (operations c place)
  pub chosen : implies (not (is_bind_row r) && is_some r.connection) (list_any (is_choice_for (record { client = c; k = r.k })) place) ≡ true

-- there are no fewer operations behind an entry
pub more_operations : (c : ℕ) (place : List Entry) (e : Entry) → length (operations c place) ≤ length (operations c (place ++ e ∷ []))
more_operations c place e = by (operation_message e.what) refl
  where
    by : (o : Option Message) → operation_message e.what ≡ o → length (operations c place) ≤ length (operations c (place ++ e ∷ []))
    by None k = let same : length (operations c (place ++ e ∷ [])) ≡ length (operations c place) = count_stays c place e k in omega (arith, same)
    by (Some m) k = let more : length (operations c (place ++ e ∷ [])) ≡ suc (length (operations c place)) = count_rises c place e m k in omega (arith, more)

pub le_more : (a b n : ℕ) → nat_le a b ≡ true → b ≤ n → nat_le a n ≡ true
le_more a b n h k = le-leb a n (let j : a ≤ b = leb-true a b h in omega (arith, j, k))

pub within_more : (c n m : ℕ) (op : OpName) → n ≤ m → is_within c n op ≡ true → is_within c m op ≡ true
within_more c n m op l h = both (op.client == c && nat_lt 0 op.k) _ (left (op.client == c && nat_lt 0 op.k) _ h) (le_more op.k n m (right (op.client == c && nat_lt 0 op.k) _ h) l)

-- a new number is no number of these operations
pub fresh_number : (c : ℕ) (place : List Entry) (o : Operation) → is_named_within c (length (operations c place)) o ≡ true → (suc (length (operations c place)) == o.name.k) ≡ false
fresh_number c place o h = by (suc (length (operations c place)) == o.name.k) refl
  where
    by : (b : Bool) → (suc (length (operations c place)) == o.name.k) ≡ b → b ≡ false
    by true k = let top : nat_le o.name.k (length (operations c place)) ≡ true = right (o.name.client == c && nat_lt 0 o.name.k) _ h in absurd (grind (arith, nat_tests, top, k))
    by false k = refl

module _ (s : Settings) (c at : ℕ) (part : PartName) (mark : Option Taken) (place : List Entry) (p : ClientState) (number : p.number ≡ c) (count : p.count ≡ length (operations c place)) (w : What) where
  abbrev behind : List Entry
  behind = place ++ entry_of part at w ∷ []

  older : (r : ClientRow) → RowKnown s c place r → RowKnown s c (place ++ entry_of part at w ∷ []) r
  older r h =
      record {
        within = le_more r.k (length (operations c place)) (length (operations c (place ++ entry_of part at w ∷ []))) h.within (more_operations c place (entry_of part at w));
        positive = h.positive;
        same = each_grows (λ o. (r.k == o.name.k) ≡ true → IsOf s r o) c place (entry_of part at w) (each_imply (λ o. (r.k == o.name.k) ≡ true → IsOf s r o) (λ o. (r.k == o.name.k) ≡ true → IsOf s r (later_operation (entry_of part at w) o)) (operations c place) (λ o f k. record { carries = record { kind = (f k).carries.kind; wants = (f k).carries.wants }; action = (f k).action }) h.same) (λ m k j. absurd (let low : nat_le r.k (length (operations c place)) ≡ true = h.within in grind (arith, nat_tests, low, j)));
        chosen = implies_stays (not (is_bind_row r) && is_some r.connection) _ _ (any_before (is_choice_for (record { client = c; k = r.k })) place (entry_of part at w ∷ [])) h.chosen;
      }

  newer : (m : Message) → w ≡ what.In m.id m.rest → makes_operation m ≡ true → RowKnown s c (place ++ entry_of part at w ∷ []) (new_row s p m)
  newer m e makes =
      record {
        within = ap (λ n. nat_le (suc n) (length (operations c (place ++ entry_of part at w ∷ [])))) count ∙ ap (nat_le (suc (length (operations c place)))) (count_rises c place (entry_of part at w) m message) ∙ le_same (suc (length (operations c place)));
        positive = lt-ltb 0 (suc p.count) (omega arith);
        same = each_grows (λ o. (suc p.count == o.name.k) ≡ true → IsOf s (new_row s p m) o) c place (entry_of part at w) (each_imply (λ o. is_named_within c (length (operations c place)) o ≡ true) (λ o. (suc p.count == o.name.k) ≡ true → IsOf s (new_row s p m) (later_operation (entry_of part at w) o)) (operations c place) (λ o h k. not_both (suc (length (operations c place)) == o.name.k) (ap (λ n. suc n == o.name.k) (sym count) ∙ k) (fresh_number c place o h)) (named_each c place)) (λ x k j. one x (let same : Some m ≡ Some x = sym message ∙ k in cc));
        chosen = unchosen;
      }
    where
      put : Bool → Option Message
      put b = elim b [ true ↦ Some (record { id = m.id; rest = m.rest }) | false ↦ None ]

      message : operation_message w ≡ Some m
      message = ap operation_message e ∙ ap put makes

      one : (x : Message) → m ≡ x → IsOf s (new_row s p m) (new_operation c place (entry_of part at w) x)
      one x same = subst (λ (y : Message). IsOf s (new_row s p m) (new_operation c place (entry_of part at w) y)) same (record { carries = record { kind = carried_kind s m p.identity; wants = carried_wants s m p.identity }; action = refl })

      unchosen : implies (not (is_bind_row (new_row s p m)) && is_some (new_row s p m).connection) (list_any (is_choice_for (record { client = c; k = suc p.count })) (place ++ entry_of part at w ∷ [])) ≡ true
      unchosen = ap (λ k. implies (not (passes (same_kind Bind) k) && is_some (new_row s p m).connection) (list_any (is_choice_for (record { client = c; k = suc p.count })) (place ++ entry_of part at w ∷ []))) (carried_kind s m p.identity) ∙ by (is_request_of Bind m) (facts_of p).in_exchange (lets_go_on (check_at s p m))
        where
          by : (a b d : Bool) → implies (not a && is_some (elim (a && b && d) [ true ↦ held_connection p | false ↦ None ])) (list_any (is_choice_for (record { client = c; k = suc p.count })) (place ++ entry_of part at w ∷ [])) ≡ true
          by true b d = refl
          by false true d = refl
          by false false d = refl

  forwards : (op : OpName) (u b : ℕ) (q r : ClientRow) → w ≡ what.Chosen op (Go u b) → row_named p op ≡ Some q → RowKnown s c (place ++ entry_of part at w ∷ []) r → RowKnown s c (place ++ entry_of part at w ∷ []) (forwarded q.k u r)
  forwards op u b q r e f h = by (r.k == q.k) refl
    where
      named : (p.number == op.client && q.k == op.k) ≡ true
      named = found_passes (λ x. p.number == op.client && x.k == op.k) p.rows q f

      by : (d : Bool) → (r.k == q.k) ≡ d → RowKnown s c (place ++ entry_of part at w ∷ []) (if d then record r { connection = Some (unwrap_or r.connection u) } else r)
      by false j = h
      by true j =
          let k : r.k ≡ op.k = same_number r.k q.k j ∙ same_number q.k op.k (right (p.number == op.client) _ named) in
          let client : c ≡ op.client = sym number ∙ same_number p.number op.client (left (p.number == op.client) _ named) in
          let mine : is_choice_for (record { client = c; k = r.k }) (entry_of part at w) ≡ true = ap (λ v. is_choice_for (record { client = c; k = r.k }) (entry_of part at v)) e ∙ both (c == op.client) _ (eq_eqb c op.client client) (eq_eqb r.k op.k k) in
          record {
            within = h.within;
            positive = h.positive;
            same = each_imply (λ o. (r.k == o.name.k) ≡ true → IsOf s r o) (λ o. (r.k == o.name.k) ≡ true → IsOf s (record r { connection = Some (unwrap_or r.connection u) }) o) (operations c (place ++ entry_of part at w ∷ [])) (λ o g i. record { carries = (g i).carries; action = (g i).action }) h.same;
            chosen = implies_by (not (is_bind_row r) && true) _ (λ i. any_behind (is_choice_for (record { client = c; k = r.k })) place (entry_of part at w ∷ []) (or_left (is_choice_for (record { client = c; k = r.k }) (entry_of part at w)) false mine));
          }

  pub rows_known : Each (RowKnown s c place) p.rows → Each (RowKnown s c (place ++ entry_of part at w ∷ [])) (client_behind s at mark p w).rows
  rows_known h = rows_behind s at mark p (RowKnown s c (place ++ entry_of part at w ∷ [])) (each_imply (RowKnown s c place) (RowKnown s c (place ++ entry_of part at w ∷ [])) p.rows older h) w newer forwards
