-- A pick keeps the latencies of each backend.
use Rattle.std.proofs.Common.{◌≡◌, ◌≢◌, ℕ, Bool, true, false, List, [], ◌∷◌, ◌++◌, slice_get, slice_index_or, Option, Some, None, ⊎_elim, refl, sym, ap, ◌∙◌}
use Rattle.std.proofs.lemmas.Bool.{cases_eq}
use Rattle.lload_names.specs.declared.plans.BackendPlan.{BackendPlan}
use Rattle.lload_names.specs.declared.plans.TierPlan.{TierPlan}
use Rattle.lload_spec.specs.Order.{has_backend}
use Rattle.lload_spec.specs.Picks.{last_of}
use Rattle.lload_spec.specs.Settings.{Settings, backend_of}
use Rattle.lload_spec.specs.Choice.{DeskFacts}
use Rattle.tier_select.specs.Calls.{Call, Picked, standing, latencies_at}
use Rattle.desk_tables.specs.Rows.{row_of}
use Rattle.desk_tables.specs.Turns.{Turn}
use Rattle.desk_tables.specs.declared.conns.Conn.{Conn}
use Rattle.desk_choice.specs.Tells.{RowTells, RoundTells, Tells}
use Rattle.desk_choice.specs.declared.tables.Tables.{Tables}
use Rattle.desk_choice.proofs.One.{known}
use Rattle.desk_choice.proofs.Tiers.{round-knows}
use Rattle.desk_rules.specs.Latencies.{AreRings}
use Rattle.desk_rules.specs.Turning.{IsPick, IsPicked}
use Rattle.desk_rules.proofs.Picking.{turn, heard-pick, get-within}
use Rattle.desk_rules.proofs.Hearing.{kept-of}

-- what a pick makes of the backends that were picked last
pub one-pick : (s : Settings) (f : DeskFacts) (u : ℕ) → (last : TierPlan → Option ℕ) × IsPick s u f last
one-pick s f u = ((λ t. elim (has_backend t (backend_of s u)) [ true ↦ Some (backend_of s u) | false ↦ f.last_backend t ]), (λ i t e. refl))

pub picked-rings : (s : Settings) (f : DeskFacts) (u : ℕ) (last : TierPlan → Option ℕ) (r : Conn) (d : Tables) (k : Tells s f d) (was : row_of d.conns u ≡ Some r) (pick : IsPick s u f last) (latencies : ℕ → List ℕ) → AreRings f.tiers latencies d.rounds.items → (turns : List Turn) → IsPicked r.spot.place (turn s f u last r d k was pick).0 (slice_get turns r.spot.tier) → ((j : ℕ) → j ≢ r.spot.tier → slice_get turns j ≡ slice_get d.rounds.items j) → AreRings f.tiers latencies turns
picked-rings s f u last r d k was pick latencies rings turns here others j p t x b e h a = ⊎_elim same apart (cases_eq j r.spot.tier)
  where
    row : RowTells s f u r
    row = known s f u (row_of d.conns u) r was (k.rows u)

    was-turn : (x : Turn) × (slice_get d.rounds.items r.spot.tier ≡ Some x)
    was-turn = turn s f u last r d k was pick

    knows : RoundTells f r.spot.tier row.in_plan.tier was-turn.0
    knows = round-knows s f d r.spot.tier row.in_plan.tier was-turn.0 k (record { plan = row.in_plan.tier_at; turn = was-turn.1 })

    apart : j ≢ r.spot.tier → slice_index_or x.tier.latencies p [] ≡ latencies b.number
    apart ne = rings j p t x b e (sym (others j ne) ∙ h) a

    same : j ≡ r.spot.tier → slice_index_or x.tier.latencies p [] ≡ latencies b.number
    same is =
        let tiers : Some t ≡ Some row.in_plan.tier = sym e ∙ ap (slice_get f.tiers) is ∙ row.in_plan.tier_at in
        let tier : t ≡ row.in_plan.tier = cc in
        let now : Some x ≡ Some here.0 = sym h ∙ ap (slice_get turns) is ∙ here.1 in
        let turned : x ≡ here.0 = cc in
        let plan = row.in_plan.tier in
        let calls = knows.tells.calls in
        let at : slice_get plan.backends p ≡ Some b = ap (λ (t : TierPlan). slice_get t.backends p) (sym tier) ∙ a in
        let within = get-within plan.backends p b at in
        ap (λ (y : Turn). slice_index_or y.tier.latencies p []) turned
        ∙ kept-of plan (calls ++ Picked r.spot.place ∷ []) here.0.tier p (here.3 plan calls knows.tells.stands) within
        ∙ ap (last_of 16) (heard-pick p calls r.spot.place)
        ∙ sym (kept-of plan calls was-turn.0.tier p knows.tells.stands within)
        ∙ rings r.spot.tier p plan was-turn.0 b row.in_plan.tier_at was-turn.1 at
