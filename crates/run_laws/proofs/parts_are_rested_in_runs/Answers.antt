use Rattle.run_laws.proofs.parts_are_rested_in_runs.Goals as goal

pub returns : goal.returns
returns c = λ s ms k e. record {
  joined = c.parts_are_joined_in_runs.ensures s ms k;
  all_taken = λ p q. c.parts_are_linked.ensures.at_rest s ms p q k e;
}
