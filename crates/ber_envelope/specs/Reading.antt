-- What is answered for the first message of some bytes.
use Rattle.std.specs.Prelude.{◌≡◌, ℕ, ◌+◌, ◌-◌, ◌≤◌, ◌<◌, List, length, take, drop, Some, None, Result, Ok, Err}
use Rattle.ldap_spec.specs.Messages.{Message, message_of_contents, SpellsWithin}
use Rattle.ldap_spec.specs.Streams.{Reading, Whole as WholeMessage, Short as TooShort, Bad as NoMessage, TooBig as TooLong, bad_place, read_contents}
use Rattle.ber_envelope.specs.declared.reading.Read.{Read}
use Rattle.ber_envelope.specs.declared.reading.Read.TheVariants.{Whole, Short, Bad, TooBig}

-- the message of an identifier, and the bytes between two places as its rest
abbrev pub message_between : List ℕ → ℕ → ℕ → ℕ → Message
message_between bytes id rest_at end = record { id = id; rest = take (end - rest_at) (drop rest_at bytes) }

-- the answer that tells this reading
abbrev pub Answers : List ℕ → Reading → Read → Type 0
Answers bytes reading (Whole id rest_at end) = (rest_at ≤ end) × (end ≤ length bytes) × (reading ≡ WholeMessage (message_between bytes id rest_at end) (drop end bytes))
Answers bytes reading (Short needed) = reading ≡ TooShort needed
Answers bytes reading (Bad at) = reading ≡ NoMessage at
Answers bytes reading (TooBig n) = reading ≡ TooLong n

-- the same of contents of a length within the limit that begin at a place
abbrev pub AnswersSized : List ℕ → ℕ → ℕ → Read → Type 0
AnswersSized bytes from n (Whole id rest_at end) = (from + n ≤ length bytes) × Answers bytes (read_contents from (from + n) bytes) (Whole id rest_at end)
AnswersSized bytes from n (Short needed) = (length bytes < from + n) × (needed ≡ from + n)
AnswersSized bytes from n (Bad at) = (from + n ≤ length bytes) × (read_contents from (from + n) bytes ≡ NoMessage at)
AnswersSized bytes from n (TooBig m) = ⊥

-- the identifier and the place of the rest in a message's contents, or the place of the first element that can't be read
abbrev pub AnswersContents : List ℕ → Result (ℕ × ℕ) ℕ → Type 0
AnswersContents contents (Ok r) = (r.1 ≤ length contents) × (message_of_contents contents ≡ Some (record { id = r.0; rest = drop r.1 contents }))
AnswersContents contents (Err at) = (at ≤ length contents) × (message_of_contents contents ≡ None) × (bad_place contents ≡ at)

-- what is answered as whole spells its message within the limit
abbrev pub IsSpelled : ℕ → List ℕ → Read → Type 0
IsSpelled limit bytes (Whole id rest_at end) = (rest_at ≤ end) × (end ≤ length bytes) × SpellsWithin limit (take end bytes) (message_between bytes id rest_at end)
IsSpelled limit bytes _ = Unit {0}

-- the answer is this message, with so many octets
abbrev pub Finds : List ℕ → ℕ → Message → Read → Type 0
Finds bytes size m (Whole id rest_at end) = (end ≡ size) × (message_between bytes id rest_at end ≡ m)
Finds bytes size m _ = ⊥

-- no more bytes are asked for than so many
abbrev pub NeedsAtMost : ℕ → Read → Type 0
NeedsAtMost size (Short needed) = needed ≤ size
NeedsAtMost size _ = Unit {0}
