-- A rule with the drain behind it is the turn of an input.
use Rattle.std.proofs.Common.{◌≡◌, ℕ, Bool, true, false, ◌&&◌, not, Option, None, refl, ap, ◌∙◌, sym, subst}
use Rattle.lload_names.specs.declared.names.ConnKind.TheVariants.{Regular}
use Rattle.lload_names.specs.declared.inputs.Input.{Input}
use Rattle.lload_spec.specs.Settings.{Settings}
use Rattle.part_spec.specs.Inputs.{Act, nothing, moment_for, letter_of}
use Rattle.part_spec.specs.ConnectionState.{ConnectionState}
use Rattle.part_spec.specs.ConnectionTurn.{is_drained}
use Rattle.part_spec.specs.RegularTurn.{regular_rule}
use Rattle.outbox.specs.declared.outbox.Outbox.{Outbox}
use Rattle.conn_core.specs.Did.{Did}
use Rattle.conn_core.specs.Turned.{Turned, drained_act}
use Rattle.conn_core.proofs.Turns as turns
use Rattle.upstream_conn.specs.Part.{Knows, Stands, state}
use Rattle.upstream_conn.specs.declared.part.UpstreamPart.{UpstreamPart}

-- a rule with the drain behind it
pub step-turned : (s : Settings) (p : ConnectionState) (u v : UpstreamPart) (q : ConnectionState) (input : Input) (x y z : Outbox) (at : ℕ) (a : Act) → Stands s p u → at ≡ moment_for u.core.moment input → regular_rule s (state u) at input ≡ a → Did s (state u) at (letter_of input) a x y q → Did s q at None (drained_act q) y z (state v) → Knows s v → is_drained (state v) ≡ false → Turned s p input x z (λ t. Stands s t v)
step-turned s p u v q input x y z at a h now rule d e kv und =
    subst (λ (t : ConnectionState). Turned s t input x z (λ r. Stands s r v)) (sym h.is)
    (turns.step-turned s Regular (state u) q (state v) input x y z at a (λ r. Stands s r v) h.knows.fits.placed (ap is_drained (sym h.is) ∙ h.undrained) now (turns.regular-act s (state u) at input a h.knows.steady.kind rule) d e (λ is. record { is = is; knows = kv; undrained = ap is_drained is ∙ und }))

-- an input without a rule
pub nothing-turned : (s : Settings) (p : ConnectionState) (u : UpstreamPart) (input : Input) (x : Outbox) → Stands s p u → regular_rule s (state u) (moment_for u.core.moment input) input ≡ nothing → Turned s p input x x (λ t. Stands s t u)
nothing-turned s p u input x h rule =
    let went : is_drained (state u) ≡ false = ap is_drained (sym h.is) ∙ h.undrained in
    subst (λ (t : ConnectionState). Turned s t input x x (λ r. Stands s r u)) (sym h.is)
    (turns.nothing-turned s Regular (state u) input x (λ r. Stands s r u) h.knows.fits.placed went (turns.regular-act s (state u) (moment_for u.core.moment input) input nothing h.knows.steady.kind rule) (λ is. record { is = is; knows = h.knows; undrained = ap is_drained is ∙ went }))

-- Which inputs have a rule.
pub free : (l d k w : Bool) → l ≡ true → d ≡ false → w ≡ false → ((l && not d) && not (k && not d && w)) ≡ true
free true false true false h i j = refl
free true false false false h i j = refl
free false d k w h i j = absurd (let bad : false ≡ true = h in cc)
free true true k w h i j = absurd (let bad : true ≡ false = i in cc)
free true false k true h i j = absurd (let bad : true ≡ false = j in cc)

pub held : (l d k w : Bool) → k ≡ true → w ≡ true → ((l && not d) && not (k && not d && w)) ≡ false
held true true true true h i = refl
held true false true true h i = refl
held false d true true h i = refl
held l d false w h i = absurd (let bad : false ≡ true = h in cc)
held l d true false h i = absurd (let bad : false ≡ true = i in cc)

pub absent : (l d x : Bool) → (l && not d) ≡ false → ((l && not d) && x) ≡ false
absent l d x h = ap (λ b. b && x) h
