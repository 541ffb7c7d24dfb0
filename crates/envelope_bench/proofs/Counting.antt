-- How many messages came of the octets that a framer was fed.
use Rattle.std.proofs.Common.{◌≡◌, ℕ, ◌+◌, ◌≤◌, List, [], ◌∷◌, ◌++◌, length, refl, ap, ◌∙◌, sym, arith, append_assoc, length-append}
use Rattle.std.proofs.lemmas.List.{append-nil}
use Rattle.ldap_spec.specs.Laws.{AreOctets}
use Rattle.ldap_spec.specs.Messages.{Message}
use Rattle.ldap_spec.specs.Framing.{IsStream}
use Rattle.msg_framer.specs.declared.framer.Next.{Next}
use Rattle.msg_framer.specs.declared.framer.Next.TheVariants.{Message as FirstMessage, NotYet, Bad, TooBig}
use Rattle.msg_framer.specs.Held.{Held}
use Rattle.msg_framer.specs.History.{BeginsWith, IsFirst, Stands}
use Rattle.msg_framer.specs.Telling.{Announces, GoesOn}
use Rattle.msg_framer.proofs.Histories.{behind_shorter, some_spelled}

-- so many messages were passed of what was fed, which the bytes are with what is left of them
pub record Counted (limit : ℕ) (bytes left : List ℕ) (found : ℕ) (f : Held) : Type 0 where
  pub fed : List ℕ
  pub passed : List Message
  pub joined : bytes ≡ fed ++ left
  pub stands : Stands fed passed f
  pub counted : length passed ≡ found
  pub limited : f.limit ≡ limit

-- all that come of these octets
abbrev pub AreAll : ℕ → List ℕ → ℕ → Type 0
AreAll limit fed found = (ms : List Message) (tail : List ℕ) → IsStream limit fed ms tail → length ms ≡ found

-- of no octets none come
pub none_come : (limit : ℕ) → AreAll limit [] 0
none_come limit [] tail s = refl
none_come limit (m ∷ ms) tail s =
    let e : [] ≡ s.0 ++ s.1 = s.3 in
    let w : s.0 ≡ 48 ∷ _ = s.2.spelling.spelled in
    absurd (omega (arith, ap length e, ap length w, length-append s.0 s.1))

none_announced : (limit : ℕ) (more : List Message) (tail : List ℕ) (next : Next) → ((id : ℕ) → (rest : _) → next ≡ FirstMessage id rest → ⊥) → Announces limit more tail next → more ≡ []
none_announced limit [] tail next n a = refl
none_announced limit (m ∷ ms) tail (FirstMessage id rest) n a = absurd (n id rest refl)
none_announced limit (m ∷ ms) tail NotYet n a = absurd a
none_announced limit (m ∷ ms) tail Bad n a = absurd a
none_announced limit (m ∷ ms) tail TooBig n a = absurd a

-- and behind those that were passed none come where the answer is no message
pub all_passed : (limit : ℕ) (passed ms : List Message) (tail : List ℕ) (next : Next) → ((id : ℕ) → (rest : _) → next ≡ FirstMessage id rest → ⊥) → GoesOn limit passed ms tail next → length ms ≡ length passed
all_passed limit passed ms tail next n g = ap length (g.1 ∙ (ap (λ (more : List Message). passed ++ more) (none_announced limit g.0 tail next n g.2) ∙ append-nil passed))

-- each message has an octet at least
begins_count : (limit : ℕ) (octets : List ℕ) (ms : List Message) (behind : List ℕ) → BeginsWith limit octets ms behind → length ms + length behind ≤ length octets
begins_count limit octets [] behind h = omega (arith, ap length h)
begins_count limit octets (m ∷ ms) behind h = omega (arith, ap length h.3, length-append h.0 h.1, begins_count limit h.1 ms behind h.4, some_spelled limit h.0 m h.2)

pub one_more : (limit : ℕ) (bytes left : List ℕ) (found : ℕ) (f : Held) (m : Message) (behind : List ℕ) → Counted limit bytes left found f → AreOctets f.left → IsFirst f m behind → found + 1 ≤ length bytes
one_more limit bytes left found f m behind h o first =
    let s = h.stands in
    omega (arith, h.counted, begins_count f.limit s.kept h.passed f.left s.begins, behind_shorter f.limit f.left behind m o first, ap length s.all, length-append s.kept s.dropped, ap length h.joined, length-append h.fed left)

-- behind another piece, which the bytes that were left begin with
pub counted_fed : (limit : ℕ) (bytes left piece behind : List ℕ) (found : ℕ) (f g : Held) (h : Counted limit bytes left found f) → left ≡ piece ++ behind → Stands (h.fed ++ piece) h.passed g → g.limit ≡ f.limit → Counted limit bytes behind found g
counted_fed limit bytes left piece behind found f g h e s l = record {
  fed = h.fed ++ piece;
  passed = h.passed;
  joined = h.joined ∙ (ap (λ (xs : List ℕ). h.fed ++ xs) e ∙ sym (append_assoc h.fed piece behind));
  stands = s;
  counted = h.counted;
  limited = l ∙ h.limited;
}
