-- The answer that a framer keeps.
use Rattle.std.specs.Prelude.{◌≡◌, ℕ, List, ◌++◌}
use Rattle.ldap_spec.specs.Laws.{AreOctets}
use Rattle.ldap_spec.specs.Streams.{read}
use Rattle.ber_envelope.specs.Reading.{Answers}
use Rattle.ber_envelope.specs.declared.reading.Read.{Read}
use Rattle.ber_envelope.specs.declared.reading.Read.TheVariants.{Whole, Short, Bad, TooBig}

-- these are octets, and this is what is answered for the first message of them
pub record IsRead (limit : ℕ) (bytes : List ℕ) (first : Read) : Type 0 where
  pub octets : AreOctets bytes
  pub answers : Answers bytes (read limit bytes) first

-- this was read of what the bytes begin with
pub record WasRead (limit : ℕ) (bytes : List ℕ) (first : Read) : Type 0 where
  pub before : List ℕ
  pub more : List ℕ
  pub joined : bytes ≡ before ++ more
  pub was : IsRead limit before first

-- the answer after which no message comes
abbrev pub IsEnd : Read → Type 0
IsEnd (Whole id rest_at end) = ⊥
IsEnd (Short needed) = ⊥
IsEnd (Bad at) = Unit {0}
IsEnd (TooBig n) = Unit {0}
