-- Laws of streams, as statements.
use Rattle.std.specs.Prelude.{◌≡◌, ℕ, List}
use Rattle.ldap_spec.specs.Framing.{IsStream}
use Rattle.ldap_spec.specs.Laws.{AreOctets}
use Rattle.ldap_spec.specs.Messages.{Message}
use Rattle.ldap_spec.specs.Streams.{stream}

-- what is computed of octets is their stream
abbrev pub StreamIsThere : Type 0
StreamIsThere = (limit : ℕ) (bytes : List ℕ) → AreOctets bytes → IsStream limit bytes (stream limit bytes).messages (stream limit bytes).tail

-- they have no other
abbrev pub OneStream : Type 0
OneStream = (limit : ℕ) (bytes tail end : List ℕ) (ms ns : List Message) → IsStream limit bytes ms tail → IsStream limit bytes ns end → (ms ≡ ns) × (tail ≡ end)
