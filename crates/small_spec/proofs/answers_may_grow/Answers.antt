use Rattle.small_spec.proofs.Growth.{answers_may_grow}
use Rattle.small_spec.proofs.answers_may_grow.Goals as goal

pub returns : goal.returns
returns c = answers_may_grow
