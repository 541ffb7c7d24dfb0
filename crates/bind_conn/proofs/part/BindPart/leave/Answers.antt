use Rattle.std.proofs.Common.{◌≡◌, ◌∷◌, [], Bool, true, false, ap, sym, ◌∙◌, subst}
use Rattle.lload_names.specs.declared.names.EndWhy.TheVariants.{Unfinished}
use Rattle.lload_names.specs.declared.names.What.TheVariants as what
use Rattle.part_spec.specs.Inputs.{Act, act}
use Rattle.part_spec.specs.ConnectionTurn.{goes_down}
use Rattle.part_spec.specs.BindTurn.{leaves}
use Rattle.conn_core.specs.Did.{Did}
use Rattle.bind_conn.specs.Part.{state}
use Rattle.bind_conn.proofs.part.BindPart.leave.Goals as goal

pub returns-clause-did : goal.returns-clause-did
returns-clause-did c = λ s mark k.
    let b = c.args.self.now in
    let is : leaves (state b) c.args.holder ≡ act (what.Idle c.args.holder ∷ []) [] = ap (λ (x : Bool). let a : Act = elim x [ true ↦ goes_down (state b) Unfinished | false ↦ act (what.Idle c.args.holder ∷ []) [] ] in a) (sym c.is_held_by.ensures ∙ c.if-is_held_by.false) in
    subst (λ (a : Act). Did s (state b) c.args.at mark a c.args.out.now c.idle.new.out (state c.idle.new.self)) (sym is) (c.in_ok-idle.ensures.did s mark k)
