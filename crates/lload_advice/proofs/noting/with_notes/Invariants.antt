use Rattle.std.proofs.Common.{◌≡◌, ◌+◌, ◌++◌, drop, map}
use Rattle.lload_advice.specs.Notes.{noted_arguments, noted_of, numbered}
use Rattle.lload_advice.proofs.noting.with_notes.Given as goal

abbrev pub invariant-loop-argument : goal.invariant-loop-argument
invariant-loop-argument l = record {
  at : l.index ≡ l.argument-index + 1;
  same : map noted_of l.notes ++ numbered l.line (noted_arguments l.directive l.index (drop l.argument-index l.arguments)) ≡ map noted_of l.initial.notes ++ numbered l.line (noted_arguments l.directive 1 l.arguments);
}
