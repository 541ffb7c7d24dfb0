-- What a message makes, by the first check that holds of it.
use Rattle.std.proofs.Common.{◌≡◌, ℕ, Bool, true, false, not, ◌==◌, ◌&&◌, ◌||◌, cond, if◌then◌else◌, List, [], ◌∷◌, filter, map, Option, Some, None, Result, Ok, Err, refl, ap, subst, sym, ◌∙◌}
use Rattle.std.specs.List.{list_any}
use Rattle.std.specs.Result.{OnOk}
use Rattle.ldap_spec.specs.Kinds.{kind_of}
use Rattle.ldap_spec.specs.Messages.{Message}
use Rattle.ldap_spec.specs.Requests.{request}
use Rattle.lload_names.specs.Same.{same_kind}
use Rattle.lload_names.specs.declared.names.EndWhy.TheVariants.{ZeroId, IdInUse}
use Rattle.lload_names.specs.declared.names.OpKind.{OpKind}
use Rattle.lload_names.specs.declared.names.OpKind.TheVariants.{Bind}
use Rattle.lload_names.specs.declared.names.What.TheVariants as what
use Rattle.lload_spec.specs.Entries.{makes_operation}
use Rattle.lload_spec.specs.FirstCheck.{Check, ClientFacts, Ends, GoesOn, check, check_request, is_in_use}
use Rattle.lload_spec.specs.Lists.{passes}
use Rattle.lload_spec.specs.Settings.{Settings}
use Rattle.part_spec.specs.Inputs.{Act, act, nothing}
use Rattle.part_spec.specs.ClientState.{ClientState, is_present, is_holding, check_at, facts_of}
use Rattle.part_spec.specs.ClientTurn.{by_check, message, binds, asks}
use Rattle.outbox.specs.declared.outbox.Outbox.{Outbox}
use Rattle.client_rows.specs.Rows.{has_id}
use Rattle.client_rows.specs.declared.row.Row.{Row}
use Rattle.lload_spec.specs.Binding.{action}
use Rattle.restrictions.specs.Actions.{action_view}
use Rattle.restrictions.specs.declared.action.Action.{Action}
use Rattle.client_session.specs.declared.check.Check.{Check as Kept}
use Rattle.client_session.specs.declared.check.Check.TheVariants as kept
use Rattle.client_session.specs.Checks.{facts, live_row, HasAction}
use Rattle.client_session.specs.Did.{Did}
use Rattle.client_session.specs.declared.part.ClientPart.{ClientPart}
use Rattle.client_session.specs.Stands.{Stands}
use Rattle.client_session.proofs.Passed.{kind-makes}
use Rattle.client_session.proofs.Views.{facts-shown}

pub on-ok : {T E X Y : Type 0} (r : Result T E) → (X → Y) → OnOk r X → OnOk r Y
on-ok (Ok t) f h = f h
on-ok (Err e) f h = h

-- a message that is taken
pub taken : (s : Settings) (p : ClientState) (at : ℕ) (m : Message) (k : Check) (old new : Outbox) (d : ClientPart) → is_present p ≡ true → is_holding s p ≡ false → check_at s p m ≡ k → Did s p at None (by_check s p at m k) old new d → Did s p at None (message s p at m) old new d
taken s p at m k old new d there free found h =
    let by : Bool → Bool → Act = λ t f. elim (t && not f) [ false ↦ nothing | true ↦ by_check s p at m (check_at s p m) ] in
    subst (λ (a : Act). Did s p at None a old new d) (sym (ap (λ t. by t (is_holding s p)) there ∙ ap (by true) free ∙ ap (by_check s p at m) found)) h

-- a request that goes on

pub in-use-ends : (s : Settings) (p : ClientState) (d : ClientPart) (m : Message) (kind : OpKind) → kind_of m.rest ≡ Some kind → (m.id == 0) ≡ false → is_in_use (facts d) m.id ≡ true → Stands s p d → check_at s p m ≡ Ends IdInUse
in-use-ends s p d m kind k zero used h =
    let by : Bool → Bool → Bool → Check = λ z o u. if z then Ends ZeroId else if o && u then Ends IdInUse else check_request s (facts_of p) m (request m.rest) in
    ap (λ z. by z (makes_operation m) (is_in_use (facts_of p) m.id)) zero
    ∙ ap (λ o. by false o (is_in_use (facts_of p) m.id)) (kind-makes m kind k zero)
    ∙ ap (by false true) (ap (λ f. is_in_use f m.id) (facts-shown s p d h) ∙ used)

pub never-both : {C : Type 0} (k : Check) → k ≡ GoesOn → k ≡ Ends IdInUse → C
never-both k a b = absurd (let bad : ◌≡◌ {A = Check} GoesOn (Ends IdInUse) = sym a ∙ b in cc)

-- no live operation has an identifier that isn't in use
pub unused : (id : ℕ) (rs : List Row) → list_any (λ x. x.id == id) (map live_row rs) ≡ false → filter (has_id id) rs ≡ []
unused id [] e = refl
unused id (r ∷ rs) e = by (r.id == id) e (unused id rs)
  where
    by : (b : Bool) → (b || list_any (λ x. x.id == id) (map live_row rs)) ≡ false → (list_any (λ x. x.id == id) (map live_row rs) ≡ false → filter (has_id id) rs ≡ []) → cond b (r ∷ filter (has_id id) rs) (filter (has_id id) rs) ≡ []
    by true f ih = absurd (let bad : true ≡ false = f in cc)
    by false f ih = ih f

-- a Bind, and another request
pub did-bind : (s : Settings) (p : ClientState) (at : ℕ) (m : Message) (old new : Outbox) (d : ClientPart) (kind : OpKind) → kind_of m.rest ≡ Some kind → same_kind Bind kind ≡ true → Did s p at None (act (what.In m.id m.rest ∷ []) (binds s p at m)) old new d → Did s p at None (by_check s p at m GoesOn) old new d
did-bind s p at m old new d kind its is h = subst (λ (b : Bool). Did s p at None (act (what.In m.id m.rest ∷ []) (elim b [ true ↦ binds s p at m | false ↦ asks s p at m ])) old new d) (sym (ap (passes (same_kind Bind)) its ∙ is)) h

pub did-other : (s : Settings) (p : ClientState) (at : ℕ) (m : Message) (old new : Outbox) (d : ClientPart) (kind : OpKind) → kind_of m.rest ≡ Some kind → same_kind Bind kind ≡ false → Did s p at None (act (what.In m.id m.rest ∷ []) (asks s p at m)) old new d → Did s p at None (by_check s p at m GoesOn) old new d
did-other s p at m old new d kind its is h = subst (λ (b : Bool). Did s p at None (act (what.In m.id m.rest ∷ []) (elim b [ true ↦ binds s p at m | false ↦ asks s p at m ])) old new d) (sym (ap (passes (same_kind Bind)) its ∙ is)) h

pub stays : (p : ClientState) → is_present p ≡ true → p.gone ≡ false
stays p e = by p.arrived p.gone e
  where
    by : (a g : Bool) → (a && not g) ≡ true → g ≡ false
    by true true f = absurd (let bad : false ≡ true = f in cc)
    by true false f = refl
    by false g f = absurd (let bad : false ≡ true = f in cc)

-- the action that a check found
pub goes-action : (s : Settings) (rest slice : List ℕ) → slice ≡ rest → (k : Kept) (a : Action) → k ≡ kept.GoesOn a → HasAction s slice k → action_view a ≡ action s rest
goes-action s rest slice same k a is h = subst (λ (x : Kept). HasAction s slice x) is h ∙ ap (action s) same
