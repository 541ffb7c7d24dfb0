-- An exchange is over where a Bind of it was answered for good; and an operation that ended is chosen for no more.
use Rattle.std.proofs.Common.{◌≡◌, ℕ, suc, Bool, true, false, ◌&&◌, ◌||◌, not, if◌then◌else◌, List, [], ◌∷◌, ◌++◌, length, refl, ap, ◌∙◌, sym, subst}
use Rattle.std.specs.Prelude.{Some, None, is_none, map, nat_le, option_map}
use Rattle.std.specs.List.{list_any}
use Rattle.ldap_spec.specs.Responses.{has_code}
use Rattle.ldap_spec.specs.Tags.{bind_in_progress}
use Rattle.lload_names.specs.declared.names.EndWhy.{EndWhy}
use Rattle.lload_names.specs.declared.names.Entry.{Entry}
use Rattle.lload_names.specs.declared.names.OpKind.TheVariants.{Bind}
use Rattle.lload_names.specs.declared.names.PartName.{PartName}
use Rattle.lload_names.specs.declared.names.What.TheVariants as what
use Rattle.lload_spec.specs.Entries.{is_choice_of, operation_message}
use Rattle.lload_spec.specs.Journal.{same_op}
use Rattle.lload_spec.specs.Lists.{passes, some_split_from}
use Rattle.lload_spec.specs.Operations.{Abandoned, Operation, Rebound, got_final, is_abandon_of, is_bind_in, is_final_for, is_live, is_of, manner_of, operation_in, operation_made, operations, outs_under}
use Rattle.lload_spec.proofs.Growth.{left, right, both}
use Rattle.lload_laws.specs.ClientGrowth.{later_operation}
use Rattle.lload_laws.proofs.ClientGrowth.{ending_grows, old_operations, operations_grow, operations_none, outs_grow}
use Rattle.lload_laws.proofs.ListLaws.{any-map, any_imply}
use Rattle.part_laws.proofs.ListLaws.{any_before, or_right}
use Rattle.client_laws.proofs.ClientOuts.{has_last}
use Rattle.client_answer_laws.proofs.Only.{out_added}
use Rattle.forward_laws.proofs.Causes.{is_live_choice}
use Rattle.forward_laws.proofs.Ops.{number_within}
use Rattle.identity_laws.proofs.Finals.{got_more}
use Rattle.leave_laws.proofs.Lists.{any_found}

-- whether a Bind from this number on was answered for good
abbrev pub ends_from : ℕ → Operation → Bool
ends_from k b = nat_le k b.name.k && is_of Bind b && got_final (λ r. not (has_code bind_in_progress r)) b

-- whether the exchange that the operation of this number began is over
abbrev pub is_ended : ℕ → ℕ → List Entry → Bool
is_ended c k place = list_any (ends_from k) (operations c place)

later_ends : (k : ℕ) (e : Entry) (o : Operation) → ends_from k o ≡ true → ends_from k (later_operation e o) ≡ true
later_ends k e o h =
    both (nat_le k o.name.k && is_of Bind o) _ (left (nat_le k o.name.k && is_of Bind o) _ h)
    (ap (list_any (λ r. is_final_for o.request r && not (has_code bind_in_progress r))) (outs_grow o.request.id o.behind e)
    ∙ any_before (λ r. is_final_for o.request r && not (has_code bind_in_progress r)) (outs_under o.request.id o.behind) _ (right (nat_le k o.name.k && is_of Bind o) _ h))

-- it stays so
pub ended_more : (c k : ℕ) (place : List Entry) (e : Entry) → is_ended c k place ≡ true → is_ended c k (place ++ e ∷ []) ≡ true
ended_more c k place e h =
    ap (list_any (ends_from k)) (operations_grow c place e)
    ∙ any_before (ends_from k) (map (later_operation e) (operations c place)) (operation_made c (suc (length (operations c place))) place e [] (operation_message e.what))
    (any-map (ends_from k) (later_operation e) (operations c place) ∙ any_imply (ends_from k) (λ o. ends_from k (later_operation e o)) (operations c place) (later_ends k e) h)

-- behind an answer for good
pub out_ended : (c k n : ℕ) (place : List Entry) (part : PartName) (at id : ℕ) (rest : List ℕ) (o : Operation) → operation_in c place (record { client = c; k = n }) ≡ Some o → nat_le k o.name.k ≡ true → is_of Bind o ≡ true → has_last id o ≡ true → is_final_for o.request rest ≡ true → has_code bind_in_progress rest ≡ false → is_ended c k (place ++ record { part = part; at = at; what = what.Out id rest } ∷ []) ≡ true
out_ended c k n place part at id rest o found below bind last final over =
    ap (list_any (ends_from k)) (operations_none c place went refl) ∙ any-map (ends_from k) (later_operation went) (operations c place)
    ∙ any_found (λ q. same_op (record { client = c; k = n }) q.name) (λ q. ends_from k (later_operation went q)) (operations c place) o found
    (both (nat_le k o.name.k && is_of Bind o) _ (both (nat_le k o.name.k) _ below bind)
    (got_more (λ r. not (has_code bind_in_progress r)) o (later_operation went o) rest refl (out_added part at id rest o last)
    ∙ or_right (got_final (λ r. not (has_code bind_in_progress r)) o) _ (both (is_final_for o.request rest) _ final (ap not over))))
  where
    went : Entry
    went = record { part = part; at = at; what = what.Out id rest }

and_none : (b : Bool) → (b && false) ≡ false
and_none true = refl
and_none false = refl

-- an operation that isn't live
pub record Dead (c k : ℕ) (place : List Entry) : Type 0 where
  pub operation : Operation
  pub found : operation_in c place (record { client = c; k = k }) ≡ Some operation
  pub dead : is_live operation ≡ false

pub found_more : (c k : ℕ) (place : List Entry) (e : Entry) (o : Operation) → operation_in c place (record { client = c; k = k }) ≡ Some o → operation_in c (place ++ e ∷ []) (record { client = c; k = k }) ≡ Some (later_operation e o)
found_more c k place e o h = old_operations c k place e (number_within c k place o h) ∙ ap (option_map (later_operation e)) h

pub dead_more : (c k : ℕ) (place : List Entry) (e : Entry) → Dead c k place → Dead c k (place ++ e ∷ [])
dead_more c k place e h = record { operation = later_operation e h.operation; found = found_more c k place e h.operation h.found; dead = ending_grows h.operation.request h.operation.behind e ∙ ap (λ b. b && is_none (manner_of h.operation.request h.operation.behind e)) h.dead }

-- an entry ends it
dead_behind : (c k : ℕ) (place : List Entry) (e : Entry) (o : Operation) → operation_in c place (record { client = c; k = k }) ≡ Some o → is_none (manner_of o.request o.behind e) ≡ false → Dead c k (place ++ e ∷ [])
dead_behind c k place e o h j = record { operation = later_operation e o; found = found_more c k place e o h; dead = ending_grows o.request o.behind e ∙ ap (λ b. is_live o && b) j ∙ and_none (is_live o) }

pub gone_dead : (c k : ℕ) (place : List Entry) (e : Entry) (o : Operation) → operation_in c place (record { client = c; k = k }) ≡ Some o → (why : EndWhy) → e.what ≡ what.Gone why → Dead c k (place ++ e ∷ [])
gone_dead c k place e o h why z = dead_behind c k place e o h (subst (λ w. is_none (manner_of o.request o.behind (record { part = e.part; at = e.at; what = w })) ≡ false) (sym z) refl)

pub bind_dead : (c k : ℕ) (place : List Entry) (e : Entry) (o : Operation) → operation_in c place (record { client = c; k = k }) ≡ Some o → (id : ℕ) (rest : List ℕ) → e.what ≡ what.In id rest → is_bind_in e ≡ true → Dead c k (place ++ e ∷ [])
bind_dead c k place e o h id rest z bind = dead_behind c k place e o h (subst (λ w. is_bind_in (record { part = e.part; at = e.at; what = w }) ≡ true → is_none (manner_of o.request o.behind (record { part = e.part; at = e.at; what = w })) ≡ false) (sym z) (ends (is_abandon_of o.request (record { part = e.part; at = e.at; what = what.In id rest })) (is_bind_in (record { part = e.part; at = e.at; what = what.In id rest }))) bind)
  where
    ends : (a b : Bool) → b ≡ true → is_none (if a then Some Abandoned else if b then Some Rebound else None) ≡ false
    ends true b k = refl
    ends false true k = refl
    ends false false k = absurd (let bad : false ≡ true = k in cc)

-- so no connection is chosen for it while it is live
pub none_chosen : (c k u : ℕ) (M L : List Entry) → Dead c k L → some_split_from (λ b x d. is_live_choice c (record { client = c; k = k }) u b x) L M ≡ false
none_chosen c k u [] L h = refl
none_chosen c k u (e ∷ M) L h =
    ap (λ b. b || some_split_from (λ b x d. is_live_choice c (record { client = c; k = k }) u b x) (L ++ e ∷ []) M) (ap (λ o. is_choice_of (record { client = c; k = k }) u e && passes is_live o) h.found ∙ ap (λ b. is_choice_of (record { client = c; k = k }) u e && b) h.dead ∙ and_none (is_choice_of (record { client = c; k = k }) u e))
    ∙ none_chosen c k u M (L ++ e ∷ []) (dead_more c k L e h)
