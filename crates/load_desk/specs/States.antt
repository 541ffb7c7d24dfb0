-- The desk's state behind an Ask, and behind a letter that it heard.
use Rattle.std.specs.Prelude.{◌≡◌, ℕ, List, Option, Some, None}
use Rattle.lload_names.specs.declared.names.Answer.{Answer}
use Rattle.lload_names.specs.declared.names.OpName.{OpName}
use Rattle.lload_names.specs.declared.names.Letter.{Letter}
use Rattle.lload_names.specs.declared.names.Want.{Want}
use Rattle.lload_spec.specs.Settings.{Settings}
use Rattle.part_spec.specs.DeskState.{DeskState, with_choice, with_heard}
use Rattle.desk_rules.specs.Latencies.{IsTold}

-- behind what was asked and chosen
abbrev pub with_choice_at : Settings → OpName → Want → Answer → ℕ → DeskState → DeskState
with_choice_at s op want answer at p =
    record (with_choice s op answer (record p { moment = at; asked = Some (record { op = op; value = want }) })) {
      moment = at;
      asked = None;
    }

-- behind a letter
abbrev pub with_heard_at : Settings → Letter → ℕ → DeskState → DeskState
with_heard_at s letter at p = record (with_heard s letter p) { moment = at; asked = None }

-- the backend of a connection has one latency more, where one is told
abbrev pub IsToldOf : Settings → ℕ → Option ℕ → (ℕ → List ℕ) → (ℕ → List ℕ) → Type 0
IsToldOf s conn None before after = (b : ℕ) → after b ≡ before b
IsToldOf s conn (Some latency) before after = IsTold s conn latency before after
