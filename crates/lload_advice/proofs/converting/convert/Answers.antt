use Rattle.std.proofs.Common.{subst, sym, ◌∙◌}
use Rattle.lload_advice.specs.Converting.{IsCommented}
use Rattle.lload_advice.proofs.Comments.{commented-same}
use Rattle.lload_advice.proofs.converting.convert.Goals as goal
use Rattle.lload_advice.proofs.converting.convert.Goals.{then-is_empty+in_ok-text, else-is_empty+in_ok-text-2}

pub returns-clause-commented : goal.returns-clause-commented
returns-clause-commented c =
    elim c.if-is_empty.branch [
      | then-is_empty+in_ok-text w ↦ subst (IsCommented c.args.text.now) (sym (w.text-is ∙ w.in_ok-text.ensures)) (commented-same c.args.text.now)
      | else-is_empty+in_ok-text-2 w ↦ subst (IsCommented c.args.text.now) (sym w.text-is) w.in_ok-text-2.ensures
    ]
