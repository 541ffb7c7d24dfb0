-- What a framer answers.
use Rattle.std.specs.Prelude.{◌≡◌, ◌≤◌, ℕ, List, [], ◌∷◌, ◌++◌, length}
use Rattle.ldap_spec.specs.Messages.{Message, IsMessage}
use Rattle.ldap_spec.specs.Streams.{Reading, Whole, Short, Bad as NoMessage, TooBig as TooLong, read}
use Rattle.msg_framer.specs.declared.framer.Next.{Next}
use Rattle.msg_framer.specs.declared.framer.Next.TheVariants.{Message as FirstMessage, NotYet, Bad, TooBig}

-- the answer that tells this reading
abbrev pub Tells : Reading → Next → Type 0
Tells reading (FirstMessage id rest) = (behind : List ℕ) × (reading ≡ Whole (record { id = id; rest = rest.now }) behind)
Tells reading NotYet = (needed : ℕ) × (reading ≡ Short needed)
Tells reading Bad = (at : ℕ) × (reading ≡ NoMessage at)
Tells reading TooBig = (n : ℕ) × (reading ≡ TooLong n)

-- what is lent is a message, with no more octets than contents may have
abbrev pub LendsMessage : ℕ → Next → Type 0
LendsMessage limit (FirstMessage id rest) = IsMessage (record { id = id; rest = rest.now }) × (length rest.now ≤ limit)
LendsMessage limit NotYet = Unit {0}
LendsMessage limit Bad = Unit {0}
LendsMessage limit TooBig = Unit {0}

-- the answer that tells the first of these messages, or, where there is none, the end that the tail tells
abbrev pub Announces : ℕ → List Message → List ℕ → Next → Type 0
Announces limit (m ∷ ms) tail (FirstMessage id rest) = m ≡ record { id = id; rest = rest.now }
Announces limit (m ∷ ms) tail _ = ⊥
Announces limit [] tail (FirstMessage id rest) = ⊥
Announces limit [] tail next = Tells (read limit tail) next

-- the messages of a stream are those that were passed, and then others, of which the answer tells the first, or that there is none and why
abbrev pub GoesOn : ℕ → List Message → List Message → List ℕ → Next → Type 0
GoesOn limit passed ms tail next = (more : List Message) × (ms ≡ passed ++ more) × Announces limit more tail next
