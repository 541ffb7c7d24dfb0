-- Octets that begin with messages, and the streams that they are.
use Rattle.std.proofs.Common.{◌≡◌, ℕ, List, [], ◌∷◌, ◌++◌, refl, ap, subst, ◌∙◌, sym, append_assoc}
use Rattle.std.proofs.lemmas.List.{append_cancel_left}
use Rattle.ldap_spec.specs.Messages.{Message, SpellsWithin}
use Rattle.ldap_spec.specs.Framing.{IsStream}
use Rattle.ldap_spec.proofs.Spelled.{one_spelling}
use Rattle.msg_framer.specs.History.{BeginsWith}

-- more octets behind them
pub begins_more : (limit : ℕ) (octets : List ℕ) (ms : List Message) (behind more : List ℕ) → BeginsWith limit octets ms behind → BeginsWith limit (octets ++ more) ms (behind ++ more)
begins_more limit octets [] behind more h = ap (λ (xs : List ℕ). xs ++ more) h
begins_more limit octets (m ∷ ms) behind more h =
    (h.0, h.1 ++ more, h.2, ap (λ (xs : List ℕ). xs ++ more) h.3 ∙ append_assoc h.0 h.1 more, begins_more limit h.1 ms behind more h.4)

-- one message more
pub begins_last : (limit : ℕ) (octets : List ℕ) (ms : List Message) (behind spelling more : List ℕ) (m : Message) → BeginsWith limit octets ms behind → SpellsWithin limit spelling m → behind ≡ spelling ++ more →
    BeginsWith limit octets (ms ++ m ∷ []) more
begins_last limit octets [] behind spelling more m h w e = (spelling, more, w, h ∙ e, refl)
begins_last limit octets (n ∷ ms) behind spelling more m h w e = (h.0, h.1, h.2, h.3, begins_last limit h.1 ms behind spelling more m h.4 w e)

-- the stream of what stands behind them goes on the same
pub stream_behind : (limit : ℕ) (octets : List ℕ) (ms ns : List Message) (behind tail : List ℕ) → BeginsWith limit octets ms behind → IsStream limit behind ns tail → IsStream limit octets (ms ++ ns) tail
stream_behind limit octets [] ns behind tail h s = subst (λ (xs : List ℕ). IsStream limit xs ns tail) (sym h) s
stream_behind limit octets (m ∷ ms) ns behind tail h s = (h.0, h.1, h.2, h.3, stream_behind limit h.1 ms ns behind tail h.4 s)

-- these messages, and then the stream of what stands behind them
abbrev pub ContinuesWith : ℕ → List Message → List ℕ → List Message → List ℕ → Type 0
ContinuesWith limit ms behind ns tail = (more : List Message) × (ns ≡ ms ++ more) × IsStream limit behind more tail

-- where the first spelling is the same, so is the rest of the stream
same_first : (limit : ℕ) (s t behind others : List ℕ) (m n : Message) → SpellsWithin limit s m → SpellsWithin limit t n → s ++ behind ≡ t ++ others → (m ≡ n) × (behind ≡ others)
same_first limit s t behind others m n w v e =
    let one = one_spelling s t behind others m n w.spelling v.spelling e in
    (one.1, append_cancel_left s behind others (e ∙ ap (λ (xs : List ℕ). xs ++ others) (sym one.0)))

-- a stream of octets that begin with messages begins with these
pub stream_begins : (limit : ℕ) (octets : List ℕ) (ms ns : List Message) (behind tail : List ℕ) → BeginsWith limit octets ms behind → IsStream limit octets ns tail → ContinuesWith limit ms behind ns tail
stream_begins limit octets [] ns behind tail h s = (ns, refl, subst (λ (xs : List ℕ). IsStream limit xs ns tail) h s)
stream_begins limit octets (m ∷ ms) [] behind tail h s = absurd (s.1 h.0 h.1 m (sym s.0 ∙ h.3) h.2)
stream_begins limit octets (m ∷ ms) (n ∷ ns) behind tail h s =
    let same = same_first limit h.0 s.0 h.1 s.1 m n h.2 s.2 (sym h.3 ∙ s.3) in
    let rest : IsStream limit h.1 ns tail = subst (λ (xs : List ℕ). IsStream limit xs ns tail) (sym same.1) s.4 in
    let on : ContinuesWith limit ms behind ns tail = stream_begins limit h.1 ms ns behind tail h.4 rest in
    let first : m ≡ n = same.0 in
    let others : ns ≡ ms ++ on.0 = on.1 in
    (on.0, cc, on.2)
