-- What the calls of a world make, as the script's rules say it.
use Rattle.std.specs.Prelude.{◌≡◌, ℕ, if◌then◌else◌, List, [], ◌∷◌}
use Rattle.ldap_spec.specs.Messages.{Message}
use Rattle.lload_names.specs.declared.names.Entry.{Entry}
use Rattle.lload_names.specs.declared.names.PartName.{PartName}
use Rattle.lload_names.specs.declared.names.PartName.TheVariants.{Desk, Client, Up as Connection}
use Rattle.lload_names.specs.declared.names.Letter.TheVariants.{IsUp}
use Rattle.lload_names.specs.declared.names.What.TheVariants.{Arrived, Linked, Up, Heard}
use Rattle.small_spec.specs.Journal.{same_part, of_part}
use Rattle.small_spec.specs.History.{in_messages, got_messages}
use Rattle.small_spec.specs.Follows.{IsRequestRound, IsAnswerRound}
use Rattle.small_world.specs.declared.world.Link.{Link}
use Rattle.small_world.specs.States.{is_unheard}

-- the entries by which a part begins
abbrev pub beginning : PartName → List Entry
beginning Desk = []
beginning (Client n) = record { part = Client n; at = 0; what = Arrived } ∷ []
beginning (Connection n) = record { part = Connection n; at = 0; what = Linked } ∷ record { part = Connection n; at = 0; what = Up } ∷ []

-- the entry by which the desk hears that connection 1 is up, where this waits
abbrev pub hearing : Link → List Entry
hearing link = if is_unheard link then record { part = Desk; at = 0; what = Heard (IsUp 1) } ∷ [] else []

-- a message from a part, and all that follows from it, behind a journal
abbrev pub IsRound : PartName → List Entry → List Entry → Type 0
IsRound Desk J piece = ⊥
IsRound (Client n) J piece = IsRequestRound 0 0 J piece
IsRound (Connection n) J piece = IsAnswerRound 0 J piece

-- these entries take in one message, from this part, and no other message from any
pub record Takes (part : PartName) (m : Message) (piece : List Entry) : Type 0 where
  pub clients : (n : ℕ) → in_messages (of_part (Client n) piece) ≡ (if same_part (Client n) part then m ∷ [] else [])
  pub connections : (n : ℕ) → got_messages (of_part (Connection n) piece) ≡ (if same_part (Connection n) part then m ∷ [] else [])

-- these entries take in no message
pub record TakesNothing (piece : List Entry) : Type 0 where
  pub clients : (n : ℕ) → in_messages (of_part (Client n) piece) ≡ []
  pub connections : (n : ℕ) → got_messages (of_part (Connection n) piece) ≡ []
