-- The bytes that were fed: streams that grow by a message, and the message that all of the bytes are.
use Rattle.std.specs.Prelude.{◌≡◌, ℕ, ◌≤◌, ◌<◌, ◌^◌, ◌-◌, List, [], ◌∷◌, ◌++◌, length, take, drop, Option, Some, None, refl}
use Rattle.std.proofs.Common.{ap, ◌∙◌, sym, subst, append_assoc, arith}
use Rattle.std.proofs.Math.Seq.{take-length}
use Rattle.std.proofs.lemmas.List.{append-nil, length-append}
use Rattle.ldap_spec.specs.Messages.{Message, SpellsWithin, message_within}
use Rattle.ldap_spec.specs.Laws.{AreOctets}
use Rattle.ldap_spec.specs.Framing.{BeginsNoMessage, IsStream}
use Rattle.ldap_spec.proofs.Spelled.{computed_spells_within, spelled_computes_within}
use Rattle.lload_names.specs.declared.names.PartName.{PartName}
use Rattle.lload_names.specs.declared.names.PartName.TheVariants.{Desk, Client, Up as Connection}
use Rattle.ber_envelope.specs.declared.reading.Read.{Read}
use Rattle.ber_envelope.specs.declared.reading.Read.TheVariants.{Whole, Short, Bad, TooBig}
use Rattle.ber_envelope.specs.Reading.{message_between, IsSpelled, Finds}
use Rattle.small_play.specs.Feeding.{limit_of}

pub nothing_begins : (limit : ℕ) → BeginsNoMessage limit []
nothing_begins limit spelling behind m e s = let bad : [] ≡ (48 ∷ (s.spelling.message_length ++ (2 ∷ (s.spelling.id_length ++ (s.spelling.integer ++ m.rest))))) ++ behind = e ∙ ap (λ l. l ++ behind) s.spelling.spelled in cc

-- a whole stream, and one message more
pub stream_more : (limit : ℕ) (bytes : List ℕ) (ms : List Message) (s : List ℕ) (m : Message) → IsStream limit bytes ms [] → SpellsWithin limit s m → IsStream limit (bytes ++ s) (ms ++ m ∷ []) []
stream_more limit bytes [] s m h spelled = (s, [], spelled, ap (λ l. l ++ s) h.0 ∙ sym (append-nil s), (refl, nothing_begins limit))
stream_more limit bytes (k ∷ ms) s m h spelled = (h.0, h.1 ++ s, h.2, ap (λ l. l ++ s) h.3 ∙ append_assoc h.0 h.1 s, stream_more limit h.1 ms s m h.4 spelled)

-- the rest of a message within a limit has fewer octets
pub rest_within : (limit : ℕ) (bytes : List ℕ) (m : Message) → SpellsWithin limit bytes m → length m.rest ≤ limit
rest_within limit bytes m s = omega (arith, length-append s.spelling.id_length (s.spelling.integer ++ m.rest), length-append s.spelling.integer m.rest, s.within)

-- and so has that of a message that a part takes
pub limit_small : (part : PartName) → limit_of part < 2 ^ 30
limit_small Desk = omega arith
limit_small (Client n) = omega arith
limit_small (Connection n) = omega arith

-- the message that is read of all of the bytes
pub all_within : (limit : ℕ) (bytes : List ℕ) (id rest_at end : ℕ) → end ≡ length bytes → IsSpelled limit bytes (Whole id rest_at end) → message_within limit bytes ≡ Some (record { id = id; rest = take (length bytes - rest_at) (drop rest_at bytes) })
all_within limit bytes id rest_at end all spelled =
    let m : ℕ → Message = λ n. message_between bytes id rest_at n in
    let whole : SpellsWithin limit (take (length bytes) bytes) (m (length bytes)) = subst (λ n. SpellsWithin limit (take n bytes) (m n)) all spelled.2 in
    spelled_computes_within limit bytes (m (length bytes)) (subst (λ s. SpellsWithin limit s (m (length bytes))) (take-length bytes) whole)

-- none is computed where all of the bytes aren't found to be one
no_message : (o : Option Message) → ((m : Message) → o ≡ Some m → ⊥) → o ≡ None
no_message None h = refl
no_message (Some m) h = absurd (h m refl)

pub none_within : (limit : ℕ) (bytes : List ℕ) (result : Read) → AreOctets bytes → ((s more : List ℕ) (m : Message) → bytes ≡ s ++ more → SpellsWithin limit s m → Finds bytes (length s) m result) → ((m : Message) → Finds bytes (length bytes) m result → ⊥) → message_within limit bytes ≡ None
none_within limit bytes result octets found none = no_message (message_within limit bytes) (λ m e. none m (found bytes [] m (sym (append-nil bytes)) (computed_spells_within limit bytes m octets e)))

-- only a whole message is found
pub found_whole : (bytes : List ℕ) (size : ℕ) (m : Message) (result : Read) → ((id rest_at end : ℕ) → result ≡ Whole id rest_at end → ⊥) → Finds bytes size m result → ⊥
found_whole bytes size m (Whole id rest_at end) not_whole found = not_whole id rest_at end refl
found_whole bytes size m (Short needed) not_whole found = found
found_whole bytes size m (Bad at) not_whole found = found
found_whole bytes size m (TooBig n) not_whole found = found
