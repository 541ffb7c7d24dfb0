-- What a play takes in when bytes are fed to a part.
use Rattle.std.specs.Prelude.{◌≡◌, ℕ, Bool, true, false, ◌==◌, ◌&&◌, not, List, [], ◌∷◌, ◌++◌}
use Rattle.ldap_spec.specs.Messages.{Message, SpellsWithin}
use Rattle.lload_names.specs.declared.names.PartName.{PartName}
use Rattle.lload_names.specs.declared.names.PartName.TheVariants.{Desk, Client, Up as Connection}
use Rattle.small_spec.specs.Plain.{plain}
use Rattle.small_spec.specs.Standing.{is_one_element}
use Rattle.small_world.specs.States.{has_begun, uses, gave}
use Rattle.small_play.specs.PlayState.{PlayState}
use Rattle.small_play.specs.Waiting.{waits}

-- how many octets the contents of a message may have that a part takes; the desk takes none
abbrev pub limit_of : PartName → ℕ
limit_of Desk = 0
limit_of (Client n) = plain.max_incoming_client
limit_of (Connection n) = plain.max_incoming_upstream

-- whether a part that has begun may be fed a message: client 1 a Delete with an identifier other than 0 that neither is
-- in use nor waits, and connection 1 the answer of a Delete, with an identifier that was given
abbrev pub may_be_fed : PlayState → PartName → Message → Bool
may_be_fed p Desk m = false
may_be_fed p (Client n) m = has_begun p.world (Client n) && (not (m.id == 0) && is_one_element 0x4A m.rest && not (uses p.world m.id) && not (waits p.requests m.id))
may_be_fed p (Connection n) m = has_begun p.world (Connection n) && (is_one_element 0x6B m.rest && gave p.world m.id)

-- the play behind it
abbrev pub fed_with : PlayState → PartName → Message → PlayState
fed_with p Desk m = p
fed_with p (Client n) m = record p { requests = p.requests ++ m ∷ [] }
fed_with p (Connection n) m = record p { answers = p.answers ++ m ∷ [] }

-- all of the bytes spell a message, within the part's limit, that the part may be fed, and it waits behind the others
pub record TakesIn (part : PartName) (bytes : List ℕ) (before after : PlayState) : Type 0 where
  pub message : Message
  pub spelled : SpellsWithin (limit_of part) bytes message
  pub may : may_be_fed before part message ≡ true
  pub waiting : after ≡ fed_with before part message
