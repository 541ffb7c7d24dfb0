-- A rule with the drain behind it is the turn of an input.
use Rattle.std.proofs.Common.{◌≡◌, ℕ, false, None, ap, ◌∙◌, sym, subst}
use Rattle.lload_names.specs.declared.names.ConnKind.TheVariants.{Bind as BindKind}
use Rattle.lload_names.specs.declared.inputs.Input.{Input}
use Rattle.lload_spec.specs.Settings.{Settings}
use Rattle.part_spec.specs.Inputs.{Act, nothing, moment_for, letter_of}
use Rattle.part_spec.specs.ConnectionState.{ConnectionState}
use Rattle.part_spec.specs.ConnectionTurn.{is_drained}
use Rattle.part_spec.specs.BindTurn.{bind_rule}
use Rattle.outbox.specs.declared.outbox.Outbox.{Outbox}
use Rattle.conn_core.specs.Did.{Did}
use Rattle.conn_core.specs.Turned.{Turned, drained_act}
use Rattle.conn_core.proofs.Turns as turns
use Rattle.bind_conn.specs.Part.{Knows, Stands, state}
use Rattle.bind_conn.specs.declared.part.BindPart.{BindPart}

-- a rule with the drain behind it
pub step-turned : (s : Settings) (p : ConnectionState) (u v : BindPart) (q : ConnectionState) (input : Input) (x y z : Outbox) (at : ℕ) (a : Act) → Stands s p u → at ≡ moment_for u.core.moment input → bind_rule s (state u) at input ≡ a → Did s (state u) at (letter_of input) a x y q → Did s q at None (drained_act q) y z (state v) → Knows s v → is_drained (state v) ≡ false → Turned s p input x z (λ t. Stands s t v)
step-turned s p u v q input x y z at a h now rule d e kv und =
    subst (λ (t : ConnectionState). Turned s t input x z (λ r. Stands s r v)) (sym h.is)
    (turns.step-turned s BindKind (state u) q (state v) input x y z at a (λ r. Stands s r v) h.knows.placed (ap is_drained (sym h.is) ∙ h.undrained) now (turns.bind-act s (state u) at input a h.knows.steady.kind rule) d e (λ is. record { is = is; knows = kv; undrained = ap is_drained is ∙ und }))

-- an input without a rule
pub nothing-turned : (s : Settings) (p : ConnectionState) (u : BindPart) (input : Input) (x : Outbox) → Stands s p u → bind_rule s (state u) (moment_for u.core.moment input) input ≡ nothing → Turned s p input x x (λ t. Stands s t u)
nothing-turned s p u input x h rule =
    let went : is_drained (state u) ≡ false = ap is_drained (sym h.is) ∙ h.undrained in
    subst (λ (t : ConnectionState). Turned s t input x x (λ r. Stands s r u)) (sym h.is)
    (turns.nothing-turned s BindKind (state u) input x (λ r. Stands s r u) h.knows.placed went (turns.bind-act s (state u) (moment_for u.core.moment input) input nothing h.knows.steady.kind rule) (λ is. record { is = is; knows = h.knows; undrained = ap is_drained is ∙ went }))
