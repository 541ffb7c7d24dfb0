-- All that is promised, and the headline, of every run of the parts.
use Rattle.std.specs.Prelude.{◌≡◌, List, [], Some, IsTrue}
use Rattle.lload_names.specs.declared.names.OpName.{OpName}
use Rattle.lload_spec.specs.Good.{Good, Promised}
use Rattle.lload_spec.specs.Operations.{Operation, operation}
use Rattle.lload_spec.specs.Settings.{Settings}
use Rattle.lload_spec.specs.Settled.{Settled}
use Rattle.lload_spec.specs.Strict.{Strict}
use Rattle.part_spec.specs.Linked.{AtRest}
use Rattle.part_spec.specs.Merge.{PartMove, world_of}
use Rattle.part_spec.specs.World.{list_in}
use Rattle.link_laws.specs.Moves.{end_rightly}
use Rattle.promise_laws.specs.Headline.{Headline}
use Rattle.run_laws.specs.Runs.{family_of_run}

-- the six promises
abbrev pub RunsAreGood : Type 0
RunsAreGood = (s : Settings) (ms : List PartMove) → IsTrue (end_rightly ms) → Good s (family_of_run s ms)

-- what is promised beside them
abbrev pub RunsAreStrict : Type 0
RunsAreStrict = (s : Settings) (ms : List PartMove) → IsTrue (end_rightly ms) → Strict s (family_of_run s ms)

-- where no letter waits, nothing is left to be taken
abbrev pub RunsAreSettled : Type 0
RunsAreSettled =
    (s : Settings) (ms : List PartMove) → IsTrue (end_rightly ms) → (world_of s ms).letters ≡ []
    → Settled s (family_of_run s ms)

-- all that is promised of a family
abbrev pub RunsArePromised : Type 0
RunsArePromised = (s : Settings) (ms : List PartMove) → IsTrue (end_rightly ms) → Promised s (family_of_run s ms)

-- where no letter waits, the run is at rest: what each part took of another is all that this one gave it
abbrev pub RunsRest : Type 0
RunsRest =
    (s : Settings) (ms : List PartMove) → IsTrue (end_rightly ms) → (world_of s ms).letters ≡ []
    → AtRest s (family_of_run s ms) (list_in (world_of s ms))

-- the headline, of each operation of each client
abbrev pub RunsKeepHeadline : Type 0
RunsKeepHeadline =
    (s : Settings) (ms : List PartMove) → IsTrue (end_rightly ms) → (op : OpName) (o : Operation)
    → operation (family_of_run s ms) op ≡ Some o → Headline s (family_of_run s ms) op o
