-- What a client waits for from connections: answers to operations of its own, whose requests it carried.
use Rattle.std.proofs.Common.{◌≡◌, ℕ, suc, Bool, true, false, ◌==◌, ◌&&◌, List, [], ◌∷◌, ◌++◌, length, refl, ap, arith, ◌∙◌, sym, subst}
use Rattle.std.specs.Prelude.{Option, Some, None, nat_le, nat_lt, if◌then◌else◌}
use Rattle.std.proofs.lemmas.Bool.{lt-ltb}
use Rattle.std.proofs.lemmas.Bool.Decides.{nat_tests}
use Rattle.ldap_spec.specs.Messages.{Message}
use Rattle.lload_names.specs.declared.names.Entry.{Entry}
use Rattle.lload_names.specs.declared.names.OpName.{OpName}
use Rattle.lload_names.specs.declared.names.PartName.{PartName}
use Rattle.lload_names.specs.declared.names.Answer.{Answer}
use Rattle.lload_names.specs.declared.names.What.{What}
use Rattle.lload_names.specs.declared.names.What.TheVariants as what
use Rattle.lload_spec.specs.Settings.{Settings}
use Rattle.lload_spec.specs.Journal.{same_op}
use Rattle.lload_spec.specs.Entries.{operation_message, makes_operation}
use Rattle.lload_spec.specs.Operations.{operations}
use Rattle.lload_spec.specs.FirstCheck.{lets_go_on}
use Rattle.part_spec.specs.ClientState.{ClientState, ClientRow, check_at, is_pinned, row_named, new_row, next_name, held_connection}
use Rattle.part_spec.specs.Fit.{Expected, expected_behind, with_forward, going_to}
use Rattle.lload_spec.proofs.Growth.{left, right, both}
use Rattle.lload_laws.specs.ClientGrowth.{later_operation, new_operation, is_named_within}
use Rattle.lload_laws.proofs.ClientGrowth.{count_rises}
use Rattle.lload_laws.proofs.ListLaws.{found_passes}
use Rattle.part_laws.proofs.ListLaws.{not_both, same_number, eq_eqb, le_same}
use Rattle.client_laws.proofs.KindsKept.{carried_kind}
use Rattle.client_laws.proofs.ClientLives.{entry_of}
use Rattle.client_answer_laws.proofs.Each.{Each, each_imply, each_append, each_found}
use Rattle.client_answer_laws.proofs.Waits.{Carries, IsOf, RowKnown, is_within, within_more, more_operations, each_grows, named_each, fresh_number, carried_wants}
use Rattle.client_answer_laws.proofs.Asks.{going_makes}

pub record ExpectKnown (s : Settings) (c : ℕ) (place : List Entry) (x : Expected) : Type 0 where
  pub within : is_within c (length (operations c place)) x.op ≡ true
  pub same : Each (λ o. same_op x.op o.name ≡ true → Carries s x.request o) (operations c place)

module _ (s : Settings) (c at : ℕ) (part : PartName) (place : List Entry) (p : ClientState) (number : p.number ≡ c) (count : p.count ≡ length (operations c place)) (rows : Each (RowKnown s c place) p.rows) (expected : List Expected) (h : Each (ExpectKnown s c place) expected) where
  older : (w : What) (x : Expected) → ExpectKnown s c place x → ExpectKnown s c (place ++ entry_of part at w ∷ []) x
  older w x k =
      record {
        within = within_more c (length (operations c place)) (length (operations c (place ++ entry_of part at w ∷ []))) x.op (more_operations c place (entry_of part at w)) k.within;
        same = each_grows (λ o. same_op x.op o.name ≡ true → Carries s x.request o) c place (entry_of part at w) (each_imply (λ o. same_op x.op o.name ≡ true → Carries s x.request o) (λ o. same_op x.op o.name ≡ true → Carries s x.request (later_operation (entry_of part at w) o)) (operations c place) (λ o f j. record { kind = (f j).kind; wants = (f j).wants }) k.same) (λ m e j. absurd (let top : nat_le x.op.k (length (operations c place)) ≡ true = right (x.op.client == c && nat_lt 0 x.op.k) _ k.within in let equal : (x.op.k == suc (length (operations c place))) ≡ true = right (x.op.client == c) _ j in grind (arith, nat_tests, top, equal)));
      }

  olders : (w : What) → Each (ExpectKnown s c (place ++ entry_of part at w ∷ [])) expected
  olders w = each_imply (ExpectKnown s c place) (ExpectKnown s c (place ++ entry_of part at w ∷ [])) expected (older w) h

  forwards : (w : What) (op : OpName) (m : Message) (to : Option ℕ) → ExpectKnown s c (place ++ entry_of part at w ∷ []) (record { op = op; request = m; connection = 0 }) → Each (ExpectKnown s c (place ++ entry_of part at w ∷ [])) (with_forward op m to expected)
  forwards w op m None k = olders w
  forwards w op m (Some u) k = each_append (ExpectKnown s c (place ++ entry_of part at w ∷ [])) expected (record { op = op; request = m; connection = u } ∷ []) (olders w) (record { within = k.within; same = k.same }, tt)

  goes : (m : Message) → makes_operation m ≡ true → ExpectKnown s c (place ++ entry_of part at (what.In m.id m.rest) ∷ []) (record { op = next_name p; request = (new_row s p m).request; connection = 0 })
  goes m makes =
      record {
        within = both (p.number == c && nat_lt 0 (suc p.count)) _ (both (p.number == c) (nat_lt 0 (suc p.count)) (eq_eqb p.number c number) (lt-ltb 0 (suc p.count) (omega arith))) (ap (λ n. nat_le (suc n) (length (operations c (place ++ entry_of part at (what.In m.id m.rest) ∷ [])))) count ∙ ap (nat_le (suc (length (operations c place)))) (count_rises c place (entry_of part at (what.In m.id m.rest)) m message) ∙ le_same (suc (length (operations c place))));
        same = each_grows (λ o. same_op (next_name p) o.name ≡ true → Carries s (new_row s p m).request o) c place (entry_of part at (what.In m.id m.rest)) (each_imply (λ o. is_named_within c (length (operations c place)) o ≡ true) (λ o. same_op (next_name p) o.name ≡ true → Carries s (new_row s p m).request (later_operation (entry_of part at (what.In m.id m.rest)) o)) (operations c place) (λ o k j. not_both (suc (length (operations c place)) == o.name.k) (ap (λ n. suc n == o.name.k) (sym count) ∙ right (p.number == o.name.client) _ j) (fresh_number c place o k)) (named_each c place)) (λ x e j. one x (let equal : Some m ≡ Some x = sym message ∙ e in cc));
      }
    where
      put : Bool → Option Message
      put b = elim b [ true ↦ Some (record { id = m.id; rest = m.rest }) | false ↦ None ]

      message : operation_message (what.In m.id m.rest) ≡ Some m
      message = ap put makes

      one : (x : Message) → m ≡ x → Carries s (new_row s p m).request (new_operation c place (entry_of part at (what.In m.id m.rest)) x)
      one x equal = subst (λ (y : Message). Carries s (new_row s p m).request (new_operation c place (entry_of part at (what.In m.id m.rest)) y)) equal (record { kind = carried_kind s m p.identity; wants = carried_wants s m p.identity })

  chosen : (op : OpName) (a : Answer) (o : Option ClientRow) → row_named p op ≡ o → Each (ExpectKnown s c (place ++ entry_of part at (what.Chosen op a) ∷ [])) (elim o [ None ↦ expected | Some r ↦ with_forward op r.request (going_to a) expected ])
  chosen op a None e = olders (what.Chosen op a)
  chosen op a (Some r) e =
      let named : (p.number == op.client && r.k == op.k) ≡ true = found_passes (λ x. p.number == op.client && x.k == op.k) p.rows r e in
      let number_is : r.k ≡ op.k = same_number r.k op.k (right (p.number == op.client) _ named) in
      let client : op.client ≡ c = sym (same_number p.number op.client (left (p.number == op.client) _ named)) ∙ number in
      let known : RowKnown s c place r = each_found (RowKnown s c place) (λ x. p.number == op.client && x.k == op.k) p.rows r e rows in
      let top : nat_le op.k (length (operations c place)) ≡ true = ap (λ n. nat_le n (length (operations c place))) (sym number_is) ∙ known.within in
      forwards (what.Chosen op a) op r.request (going_to a) (older (what.Chosen op a) (record { op = op; request = r.request; connection = 0 }) (record {
        within = both (op.client == c && nat_lt 0 op.k) _ (both (op.client == c) _ (eq_eqb op.client c client) (ap (nat_lt 0) (sym number_is) ∙ known.positive)) top;
        same = each_imply (λ q. (r.k == q.name.k) ≡ true → IsOf s r q) (λ q. same_op op q.name ≡ true → Carries s r.request q) (operations c place) (λ q f j. (f (ap (λ n. n == q.name.k) number_is ∙ right (op.client == q.name.client) _ j)).carries) known.same;
      }))

  pub expected_known : (w : What) → Each (ExpectKnown s c (place ++ entry_of part at w ∷ [])) (expected_behind s p expected w)
  expected_known (what.In id rest) = by (lets_go_on (check_at s p (record { id = id; rest = rest }))) (is_pinned s p (record { id = id; rest = rest })) (going_makes s p (record { id = id; rest = rest }))
    where
      m : Message
      m = record { id = id; rest = rest }

      by : (a b : Bool) → (a ≡ true → makes_operation (record { id = id; rest = rest }) ≡ true) → Each (ExpectKnown s c (place ++ entry_of part at (what.In id rest) ∷ [])) (if a && b then with_forward (next_name p) (new_row s p (record { id = id; rest = rest })).request (held_connection p) expected else expected)
      by true true f = forwards (what.In id rest) (next_name p) (new_row s p (record { id = id; rest = rest })).request (held_connection p) (goes (record { id = id; rest = rest }) (f refl))
      by true false f = olders (what.In id rest)
      by false b f = olders (what.In id rest)
  expected_known (what.Chosen op a) = chosen op a (row_named p op) refl
  expected_known _ = olders _
