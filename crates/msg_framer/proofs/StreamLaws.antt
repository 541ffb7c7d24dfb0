-- Octets are one stream.
use Rattle.std.proofs.Common.{◌≡◌, ℕ, zero, suc, ◌≤◌, List, [], ◌∷◌, ◌++◌, length, refl, ap, subst, ◌∙◌, sym, arith}
use Rattle.std.proofs.lemmas.List.{append-nil}
use Rattle.ldap_spec.specs.Laws.{AreOctets}
use Rattle.ldap_spec.specs.Messages.{Message}
use Rattle.ldap_spec.specs.Streams.{Reading, Whole, Short, Bad, TooBig, read, Stream, preceded, stream_within}
use Rattle.ldap_spec.specs.Framing.{IsStream, BeginsNoMessage}
use Rattle.ldap_spec.proofs.Octets.{octets_last}
use Rattle.ldap_spec.proofs.ReadingLaws.{spelled_is_read, read_is_spelled}
use Rattle.msg_framer.specs.History.{BeginsWith}
use Rattle.msg_framer.specs.Laws.{StreamIsThere, OneStream}
use Rattle.msg_framer.proofs.Beginnings.{stream_begins}
use Rattle.msg_framer.proofs.Histories.{behind_shorter}

-- a stream without the fact about its tail
stream_cut : (limit : ℕ) (bytes : List ℕ) (ms : List Message) (tail : List ℕ) → IsStream limit bytes ms tail → BeginsWith limit bytes ms tail × BeginsNoMessage limit tail
stream_cut limit bytes [] tail s = (s.0, s.1)
stream_cut limit bytes (m ∷ ms) tail s = let c = stream_cut limit s.1 ms tail s.4 in ((s.0, s.1, s.2, s.3, c.0), c.1)

no_more : (limit : ℕ) (tail : List ℕ) (more : List Message) (end : List ℕ) → BeginsNoMessage limit tail → IsStream limit tail more end → (more ≡ []) × (tail ≡ end)
no_more limit tail [] end n s = (refl, s.0)
no_more limit tail (m ∷ ms) end n s = absurd (n s.0 s.1 m s.3 s.2)

pub one_stream : OneStream
one_stream limit bytes tail end ms ns s t =
    let c = stream_cut limit bytes ms tail s in
    let b = stream_begins limit bytes ms ns tail end c.0 t in
    let e = no_more limit tail b.0 end c.1 b.2 in
    (sym (b.1 ∙ (ap (λ (more : List Message). ms ++ more) e.0 ∙ append-nil ms)), e.1)

whole_is_no_short : (needed : ℕ) (m : Message) (behind : List ℕ) → Short needed ≡ Whole m behind → ⊥
whole_is_no_short needed m behind h = cc

-- what isn't read as a message begins with none
none_begins : (limit : ℕ) (bytes : List ℕ) (r : Reading) → read limit bytes ≡ r → ((m : Message) (behind : List ℕ) → r ≡ Whole m behind → ⊥) → BeginsNoMessage limit bytes
none_begins limit bytes r h n = λ s behind m e w. n m behind (sym h ∙ (ap (read limit) e ∙ spelled_is_read limit s behind m w))

-- the stream behind what was read
abbrev by_reading : ℕ → ℕ → List ℕ → Reading → Stream
by_reading k limit bytes r = elim r [ Whole m behind ↦ preceded m (stream_within k limit behind) | Short n ↦ record { messages = []; tail = bytes } | Bad n ↦ record { messages = []; tail = bytes } | TooBig n ↦ record { messages = []; tail = bytes } ]

abbrev IsStreamOf : ℕ → List ℕ → Stream → Type 0
IsStreamOf limit bytes s = IsStream limit bytes s.messages s.tail

there_by : (k limit : ℕ) (bytes : List ℕ) (r : Reading) → read limit bytes ≡ r → AreOctets bytes → length bytes ≤ suc k →
    ((behind : List ℕ) → AreOctets behind → length behind ≤ k → IsStreamOf limit behind (stream_within k limit behind)) → IsStreamOf limit bytes (by_reading k limit bytes r)
there_by k limit bytes (Whole m behind) h o l rec =
    let s = read_is_spelled limit bytes behind m o h in
    let few : length behind ≤ k = omega (arith, behind_shorter limit bytes behind m o h) in
    (s.0, behind, s.2, s.1, rec behind (octets_last s.0 behind (subst AreOctets s.1 o)) few)
there_by k limit bytes (Short n) h o l rec = (refl, none_begins limit bytes (Short n) h (λ m behind e. cc))
there_by k limit bytes (Bad n) h o l rec = (refl, none_begins limit bytes (Bad n) h (λ m behind e. cc))
there_by k limit bytes (TooBig n) h o l rec = (refl, none_begins limit bytes (TooBig n) h (λ m behind e. cc))

there_within : (k limit : ℕ) (bytes : List ℕ) → AreOctets bytes → length bytes ≤ k → IsStreamOf limit bytes (stream_within k limit bytes)
there_within zero limit [] o l = (refl, none_begins limit [] (Short 2) refl (λ m behind e. cc))
there_within zero limit (x ∷ xs) o l = absurd (omega arith)
there_within (suc k) limit bytes o l = there_by k limit bytes (read limit bytes) refl o l (there_within k limit)

pub stream_is_there : StreamIsThere
stream_is_there limit bytes o = there_within (length bytes) limit bytes o (omega arith)
