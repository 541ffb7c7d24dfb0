use Rattle.part_spec.specs.Merge.{world_of}
use Rattle.part_spec.specs.World.{list_in}
use Rattle.run_laws.specs.Runs.{family_of_run}
use Rattle.run_laws.proofs.requests_carry_their_own_clients_identity_in_runs.Goals as goal

pub returns : goal.returns
returns c = λ s ms k. c.a_sent_carries_its_own_clients_identity.ensures s (family_of_run s ms) (list_in (world_of s ms)) (c.parts_are_played_in_runs.ensures s ms k)
