use Rattle.part_spec.specs.Merge.{world_of}
use Rattle.part_spec.specs.World.{journal_of}
use Rattle.run_promise_laws.proofs.every_run_keeps_its_promises.Goals as goal

pub returns : goal.returns
returns c = record {
  promised = λ s ms k. record { whole = c.the_family_of_a_journal_is_whole.ensures (journal_of (world_of s ms)); good = c.the_six_promises_hold_of_runs.ensures s ms k; strict = c.what_is_promised_beside_them_holds_of_runs.ensures s ms k };
  shares = c.parts_keep_their_shares_in_runs.ensures;
  rest = λ s ms k none. record { linked = (c.parts_are_rested_in_runs.ensures s ms k none).joined.linked; settled = c.nothing_is_left_where_nothing_waits_in_runs.ensures s ms k none; all_taken = (c.parts_are_rested_in_runs.ensures s ms k none).all_taken };
}
