use Rattle.std.proofs.Common.{arith}
use Rattle.lload_conf.proofs.Lengths.{line_count-le}
use Rattle.lload_conf.proofs.reading.line_behind.Goals as goal

pub overflow_add-result : goal.overflow_add-result
overflow_add-result c = omega (arith, line_count-le c.args.text.now)
