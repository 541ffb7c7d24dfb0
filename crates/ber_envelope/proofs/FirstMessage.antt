-- The first message of some bytes, as it is answered.
use Rattle.std.proofs.Common.{◌≡◌, ℕ, ◌+◌, ◌-◌, ◌≤◌, ltb, List, [], ◌∷◌, ◌++◌, length, take, drop, Some, Ok, ap, subst, ◌∙◌, sym, arith, length-append, length-drop, length-take, take-append-drop, drop-drop, le-ltb, lt-ltb}
use Rattle.std.proofs.lemmas.List.{append_cancel_right, drop-take}
use Rattle.ldap_spec.specs.Elements.{length_of, length_size}
use Rattle.ldap_spec.specs.Messages.{Message, message_of_contents, SpellsWithin}
use Rattle.ldap_spec.specs.Streams.{Reading, Whole as WholeMessage, Short as TooShort, read_sized, read}
use Rattle.ldap_spec.specs.Laws.{AreOctets}
use Rattle.ldap_spec.proofs.Cases.{yes, no}
use Rattle.ldap_spec.proofs.ReadingLaws.{read_front, read_within, read_message, spelled_is_read, read_is_spelled, needs_no_more}
use Rattle.ber_envelope.specs.declared.lengths.Length.TheVariants.{Whole as WholeLength}
use Rattle.ber_envelope.specs.declared.reading.Read.{Read}
use Rattle.ber_envelope.specs.declared.reading.Read.TheVariants.{Whole, Short, Bad, TooBig}
use Rattle.ber_envelope.specs.Lengths.{IsLength}
use Rattle.ber_envelope.specs.Reading.{message_between, Answers, AnswersSized, AnswersContents, IsSpelled, Finds, NeedsAtMost}

pub answer_spelled : (limit : ℕ) (bytes : List ℕ) (result : Read) → AreOctets bytes → Answers bytes (read limit bytes) result → IsSpelled limit bytes result
answer_spelled limit bytes (Whole id rest_at end) o a =
    let m : Message = message_between bytes id rest_at end in
    let r = read_is_spelled limit bytes (drop end bytes) m o a.2 in
    let same : r.0 ≡ take end bytes = append_cancel_right r.0 (take end bytes) (drop end bytes) (sym r.1 ∙ sym (take-append-drop end bytes)) in
    (a.0, a.1, subst (λ (s : List ℕ). SpellsWithin limit s m) same r.2)
answer_spelled limit bytes (Short needed) o a = tt
answer_spelled limit bytes (Bad at) o a = tt
answer_spelled limit bytes (TooBig n) o a = tt

whole_same : (m n : Message) (xs ys : List ℕ) → WholeMessage m xs ≡ WholeMessage n ys → (m ≡ n) × (xs ≡ ys)
whole_same m n xs ys h = (cc, cc)

found_by : (bytes : List ℕ) (reading : Reading) (result : Read) (s more : List ℕ) (m : Message) → Answers bytes reading result → bytes ≡ s ++ more → reading ≡ WholeMessage m more → Finds bytes (length s) m result
found_by bytes reading (Whole id rest_at end) s more m a h r =
    let same = whole_same (message_between bytes id rest_at end) m (drop end bytes) more (sym a.2 ∙ r) in
    (omega (arith, ap length h, length-append s more, ap length same.1, length-drop end bytes, a.1), same.0)
found_by bytes reading (Short needed) s more m a h r = absurd (cc)
found_by bytes reading (Bad at) s more m a h r = absurd (cc)
found_by bytes reading (TooBig n) s more m a h r = absurd (cc)

pub answer_found : (limit : ℕ) (bytes : List ℕ) (result : Read) → Answers bytes (read limit bytes) result →
    (s more : List ℕ) (m : Message) → bytes ≡ s ++ more → SpellsWithin limit s m → Finds bytes (length s) m result
answer_found limit bytes result a s more m h w = found_by bytes (read limit bytes) result s more m a h (ap (read limit) h ∙ spelled_is_read limit s more m w)

pub answer_needed : (limit : ℕ) (bytes : List ℕ) (result : Read) → Answers bytes (read limit bytes) result →
    (s others more : List ℕ) (m : Message) → bytes ++ more ≡ s ++ others → SpellsWithin limit s m → NeedsAtMost (length s) result
answer_needed limit bytes (Whole id rest_at end) a s others more m h w = tt
answer_needed limit bytes (Short needed) a s others more m h w = needs_no_more limit needed bytes more s others m a h w
answer_needed limit bytes (Bad at) a s others more m h w = tt
answer_needed limit bytes (TooBig n) a s others more m h w = tt

-- what is read behind a whole length
front : (limit size value : ℕ) (behind : List ℕ) → IsLength behind (WholeLength size value) → read limit (48 ∷ behind) ≡ read_sized limit (1 + size) (48 ∷ behind) (Some value)
front limit size value [] l = absurd (omega (arith, l.0, l.1))
front limit size value (n ∷ xs) l =
    let k : length_size n ≡ size = l.2 in
    let sized : length_of (take (length_size n) (n ∷ xs)) ≡ Some value = rw k l.3 in
    read_front limit n xs value (omega (arith, l.0, k)) (omega (arith, l.1, k)) sized ∙ ap (λ (j : ℕ). read_sized limit j (48 ∷ n ∷ xs) (Some value)) (omega arith)

pub sized_answers : (limit size value : ℕ) (behind : List ℕ) (result : Read) → IsLength behind (WholeLength size value) → value ≤ limit → AnswersSized (48 ∷ behind) (1 + size) value result →
    Answers (48 ∷ behind) (read limit (48 ∷ behind)) result
sized_answers limit size value behind (Whole id rest_at end) l small a =
    (a.1.0, a.1.1, front limit size value behind l ∙ (read_within limit (1 + size) value (48 ∷ behind) small a.0 ∙ a.1.2))
sized_answers limit size value behind (Short needed) l small a =
    front limit size value behind l ∙ (no (ltb limit value) _ _ (le-ltb _ _ small) ∙ (yes (ltb (length (48 ∷ behind)) (1 + size + value)) _ _ (lt-ltb _ _ a.0) ∙ ap TooShort (sym a.1)))
sized_answers limit size value behind (Bad at) l small a =
    front limit size value behind l ∙ (read_within limit (1 + size) value (48 ∷ behind) small a.0 ∙ a.1)
sized_answers limit size value behind (TooBig n) l small a = absurd a

-- the same of bytes with that tag and length in front
pub front_answers : (limit size value t : ℕ) (bytes behind : List ℕ) (result : Read) → bytes ≡ t ∷ behind → t ≡ 48 → IsLength behind (WholeLength size value) → value ≤ limit → AnswersSized bytes (1 + size) value result →
    Answers bytes (read limit bytes) result
front_answers limit size value t bytes behind result h k l small a =
    let same : bytes ≡ 48 ∷ behind = h ∙ ap (λ (tag : ℕ). tag ∷ behind) k in
    let Q : List ℕ → Type 0 = λ b. Answers b (read limit b) result in
    subst Q (sym same) (sized_answers limit size value behind result l small (subst (λ (b : List ℕ). AnswersSized b (1 + size) value result) same a))

-- the message whose contents stand between these places
pub contents_answers : (bytes : List ℕ) (from size id rest_at : ℕ) → from + size ≤ length bytes → AnswersContents (take ((from + size) - from) (drop from bytes)) (Ok (id, rest_at)) →
    AnswersSized bytes from size (Whole id (from + rest_at) (from + size))
contents_answers bytes from size id rest_at there a =
    let behind : List ℕ = drop from bytes in
    let number : (from + size) - from ≡ size = omega arith in
    let small : rest_at ≤ size = omega (arith, a.0, length-take ((from + size) - from) behind) in
    let cut : (from + size) - from ≡ rest_at + (size - rest_at) = omega arith in
    let left : size - rest_at ≡ (from + size) - (from + rest_at) = omega arith in
    let rest : drop rest_at (take ((from + size) - from) behind) ≡ take ((from + size) - (from + rest_at)) (drop (from + rest_at) bytes) =
    ap (λ (n : ℕ). drop rest_at (take n behind)) cut ∙ (drop-take rest_at (size - rest_at) behind ∙ (ap (λ (n : ℕ). take n (drop rest_at behind)) left ∙ ap (take ((from + size) - (from + rest_at))) (drop-drop rest_at from bytes))) in
    let m : Message = message_between bytes id (from + rest_at) (from + size) in
    let computed : message_of_contents (take ((from + size) - from) behind) ≡ Some m = a.1 ∙ ap (λ (r : List ℕ). Some (record { id = id; rest = r })) rest in
    (there, (omega arith, there, read_message from (from + size) bytes m computed))
