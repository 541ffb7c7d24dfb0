use Rattle.std.proofs.Common.{◌≡◌, ℕ, List, take, drop}
use Rattle.std.specs.HashSet.{contains_text}
use Rattle.std.specs.List.{list_any}
use Rattle.lload_conf.specs.Faults.{first_repeat, repeat_behind}
use Rattle.lload_conf.proofs.Repeats.{has_lower}
use Rattle.lload_conf.proofs.line.first_repeat.Given as goal

abbrev pub invariant-loop-word : goal.invariant-loop-word
invariant-loop-word l = record {
  count : l.index ≡ l.word-index;
  rest : repeat_behind (take l.word-index l.words) (drop l.word-index l.words) ≡ first_repeat l.words;
  seen : (q : List ℕ) → contains_text l.seen q ≡ list_any (has_lower q) (take l.word-index l.words);
}
