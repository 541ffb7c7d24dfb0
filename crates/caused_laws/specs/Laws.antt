-- Causes that are read off the family: by who its clients are.
use Rattle.std.specs.Prelude.{◌≡◌, ℕ, true, List, IsTrue}
use Rattle.lload_names.specs.declared.names.ConnKind.TheVariants.{Bind as BindKind}
use Rattle.lload_names.specs.declared.names.PartName.{PartName}
use Rattle.lload_names.specs.declared.names.PartName.TheVariants.{Up as Connection}
use Rattle.lload_spec.specs.Caused.{each_check_followed, each_gone_caused}
use Rattle.lload_spec.specs.CausedUp.{each_bind_expiry_told, message_facts as facts_by_list}
use Rattle.lload_spec.specs.Identity.{OwnIdentity}
use Rattle.lload_spec.specs.Journal.{Family}
use Rattle.lload_spec.specs.OneEach.{each_holder_alone}
use Rattle.lload_spec.specs.Settings.{Settings, is_of_kind}
use Rattle.part_spec.specs.ConnectionState.{connection_of, message_facts}
use Rattle.part_spec.specs.Marked.{Marked, entries}
use Rattle.part_spec.specs.Says.{ConnectionSays}
use Rattle.bind_laws.specs.Turns.{are_told_rightly}
use Rattle.joined_laws.specs.Joined.{Joined}
use Rattle.carried_laws.specs.Laws.{Played}

-- each In has directly behind it what its first check wants, and each Gone has its cause
pub record OfChecks (s : Settings) (F : Family) : Type 0 where
  pub checks : IsTrue (each_check_followed s F)
  pub gone : IsTrue (each_gone_caused s F)

abbrev pub CausedByChecks : Type 0
CausedByChecks = (s : Settings) (F : Family) (marked : PartName → List Marked) → Played s F marked → OfChecks s F

-- each forwarded request carries its own client's identity
abbrev pub CarriesOwnIdentity : Type 0
CarriesOwnIdentity =
    (s : Settings) (F : Family) (marked : PartName → List Marked) → Played s F marked → OwnIdentity s F

-- each Expired of a Bind has the end of its connection directly behind it
abbrev pub ExpiredBindsAreTold : Type 0
ExpiredBindsAreTold =
    (s : Settings) (F : Family) (marked : PartName → List Marked) → Joined s F marked
    → IsTrue (each_bind_expiry_told F)

-- what a bind connection's state says behind its list is what the list says by the family: its identifiers, and which
-- request is open to a message; for each Forward that it took says of its operation what the family says
pub record BindSaid (s : Settings) (F : Family) (u : ℕ) (list : List Marked) : Type 0 where
  pub told : IsTrue (are_told_rightly s F list)
  pub says : ConnectionSays s F u list
  pub meets : message_facts (connection_of s u list) ≡ facts_by_list s F u (entries list)

abbrev pub BindConnectionsSay : Type 0
BindConnectionsSay =
    (s : Settings) (F : Family) (marked : PartName → List Marked) → Played s F marked
    → (u : ℕ) → is_of_kind s BindKind u ≡ true → BindSaid s F u (marked (Connection u))

-- each bind connection has one holder at a time: where a Bind is sent, the one before it is settled, and its client left the
-- connection or is the same
abbrev pub HoldersAreAlone : Type 0
HoldersAreAlone =
    (s : Settings) (F : Family) (marked : PartName → List Marked) → Played s F marked → IsTrue (each_holder_alone s F)
