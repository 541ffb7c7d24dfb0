use Rattle.std.proofs.Common.{◌≡◌, ℕ, ◌-◌, ◌<◌, ◌≤◌, false}
use Rattle.tier_select.specs.Flags.{word_bit}
use Rattle.tier_select.proofs.flags.first_in_words.Given as goal

-- no place before the next one is set
abbrev pub invariant-loop-next : goal.invariant-loop-next
invariant-loop-next l = record {
  from : l.from ≤ l.next;
  none : (k : ℕ) → l.from ≤ k → k < l.next → k < l.to → word_bit l.words k ≡ false;
}

abbrev pub decreases-loop-next : goal.decreases-loop-next
decreases-loop-next l = l.to - l.next
