-- Where a framer stands, by all that it was fed and all that was passed.
use Rattle.std.specs.Prelude.{◌≡◌, ◌≢◌, ℕ, List, [], ◌∷◌, ◌++◌}
use Rattle.ldap_spec.specs.Framing.{IsStream}
use Rattle.ldap_spec.specs.Messages.{Message, SpellsWithin}
use Rattle.ldap_spec.specs.Streams.{Reading, Whole, Short, Bad, TooBig, read}
use Rattle.msg_framer.specs.Held.{Held}

-- the octets are one spelling of each message, in order, and then what stands behind them
abbrev pub BeginsWith : ℕ → List ℕ → List Message → List ℕ → Type 0
BeginsWith limit octets [] behind = octets ≡ behind
BeginsWith limit octets (m ∷ ms) behind = (spelling : List ℕ) × (more : List ℕ) × SpellsWithin limit spelling m × (octets ≡ spelling ++ more) × BeginsWith limit more ms behind

-- no message comes any more, whatever follows
abbrev pub HasEnded : Reading → Type 0
HasEnded (Whole m behind) = ⊥
HasEnded (Short needed) = ⊥
HasEnded (Bad at) = Unit {0}
HasEnded (TooBig n) = Unit {0}

-- what is left behind a piece: it is dropped once no message comes any more
abbrev pub fed_by : Reading → List ℕ → List ℕ → List ℕ
fed_by (Whole m behind) left piece = left ++ piece
fed_by (Short needed) left piece = left ++ piece
fed_by (Bad at) left piece = left
fed_by (TooBig n) left piece = left

-- what is left begins with this message, and this stands behind it
abbrev pub IsFirst : Held → Message → List ℕ → Type 0
IsFirst f m behind = read f.limit f.left ≡ Whole m behind

-- what is left begins with a message
abbrev pub HasMessage : Held → Type 0
HasMessage f = (m : Message) × (behind : List ℕ) × IsFirst f m behind

-- all octets that were fed, in whatever pieces: those that were kept are one spelling of each message that was passed, in order, and then what is left; the others came when no message came any more
pub record Stands (fed : List ℕ) (passed : List Message) (f : Held) : Type 0 where
  pub kept : List ℕ
  pub dropped : List ℕ
  pub all : fed ≡ kept ++ dropped
  pub begins : BeginsWith f.limit kept passed f.left
  pub ended : dropped ≢ [] → HasEnded (read f.limit f.left)

-- the stream goes on behind the messages that were passed, with the messages and the tail of what is left
abbrev pub IsBehind : List Message → Held → List Message → List ℕ → Type 0
IsBehind passed f ms tail = (more : List Message) × (ms ≡ passed ++ more) × IsStream f.limit f.left more tail
