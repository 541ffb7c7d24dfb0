use Rattle.std.proofs.Common.{◌+◌, sym, ap, ◌∙◌, arith}
use Rattle.std.proofs.lemmas.Option.{slice_get-get_or}
use Rattle.std.specs.Option.{option_copied}
use Rattle.tier_select.proofs.Means.{sum_more}
use Rattle.tier_select.proofs.ring.Ring.mean.Goals.{in-Some, in_default}
use Rattle.tier_select.proofs.ring.Ring.mean.Goals as goal

pub loop-index-preserved : goal.loop-index-preserved
loop-index-preserved c =
    let items = c.self.inside.latencies.items in
    let i = c.loop-index.index in
    elim c.match-get.branch [
      | in-Some w ↦
          let read = sym c.get.ensures ∙ ap option_copied w.in-Some.is in
          let more = sum_more items i w.in-Some.latency.now read in
          record { total = w.sum-is ∙ (ap (λ n. n + w.in-Some.latency.now) c.loop-index.invariant.total ∙ sym more); low = omega arith; few = c.loop-index.invariant.few; all = c.loop-index.invariant.all }
      | in_default w ↦
          let read = slice_get-get_or items i 0 (omega arith) in
          let none = sym c.get.ensures ∙ ap option_copied w.in_default.is in
          absurd cc
    ]
