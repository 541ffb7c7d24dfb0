use Rattle.run_laws.proofs.parts_are_joined_in_runs.Goals as goal

pub returns : goal.returns
returns c = λ s ms k. record {
  shared = c.parts_keep_their_shares_in_runs.ensures s ms k;
  linked = c.parts_are_linked.ensures.linked s ms k;
  fit = λ p. (c.letters_are_fit.ensures.fitness s ms).taken p;
}
