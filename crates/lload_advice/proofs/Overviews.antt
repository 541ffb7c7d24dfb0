-- The backends of tiers, one tier after the other.
use Rattle.std.proofs.Common.{◌≡◌, ℕ, ◌+◌, ◌<◌, List, [], ◌∷◌, ◌++◌, length, take, get_or, refl, ap, sym, ◌∙◌, append_assoc, append-nil, add-one}
use Rattle.std.proofs.Math.Seq.{take-suc}
use Rattle.lload_names.specs.Plans.{backends_of}
use Rattle.lload_names.specs.declared.plans.TierPlan.{TierPlan}

-- the backends of tiers and of others behind them
backends-append : (tiers more : List TierPlan) → backends_of (tiers ++ more) ≡ backends_of tiers ++ backends_of more
backends-append [] more = refl
backends-append (tier ∷ tiers) more =
    ap (λ backends. tier.backends ++ backends) (backends-append tiers more) ∙ sym (append_assoc tier.backends (backends_of tiers) (backends_of more))

-- one tier more
pub backends-more : (tiers : List TierPlan) (i : ℕ) (tier : TierPlan) → i < length tiers → tier ≡ get_or tiers i tier → backends_of (take (i + 1) tiers) ≡ backends_of (take i tiers) ++ tier.backends
backends-more tiers i tier inside is =
    ap (λ n. backends_of (take n tiers)) (add-one i)
    ∙ (ap backends_of (take-suc tiers i tier inside ∙ ap (λ t. take i tiers ++ t ∷ []) (sym is))
    ∙ (backends-append (take i tiers) (tier ∷ []) ∙ ap (λ backends. backends_of (take i tiers) ++ backends) (append-nil tier.backends)))
