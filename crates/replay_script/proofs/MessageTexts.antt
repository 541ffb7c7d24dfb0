-- The hexadecimal text of a message.
use Rattle.std.proofs.Common.{◌≡◌, ℕ, zero, suc, ◌+◌, ◌/◌, ◌%◌, ◌^◌, ◌<◌, ◌≤◌, ◌==◌, Bool, true, false, nat_lt, cond, List, [], ◌∷◌, ◌++◌, length, refl, ap, sym, subst, ◌∙◌, arith, length-append, append-nil}
use Rattle.std.specs.Prelude.{Some, None, Option, IsTrue}
use Rattle.std.specs.List.{list_all}
use Rattle.std.proofs.lemmas.Bool.Decides.{nat_tests}
use Rattle.std.proofs.lemmas.List.Sums.{list_all-from_AllPass}
use Rattle.hex.specs.Hex.{is_hex_digit, IsBytes}
use Rattle.hex.proofs.HexLemmas.{decode_of-encode_upper, decode_of-ok}
use Rattle.ldap_spec.specs.Elements.{written, shortest_length, shortest_integer, shortest_octets_within}
use Rattle.ldap_spec.specs.Laws.{AreOctets}
use Rattle.ldap_spec.specs.Messages.{Message, IsMessage, canonical}
use Rattle.ldap_spec.specs.Streams.{Reading, Whole, Short, Bad, TooBig, read}
use Rattle.ldap_spec.proofs.ReadingLaws.{written_is_read}
use Rattle.lload_spec.specs.Script.{bytes_of}
use Rattle.lload_spec.specs.Transcript.{message_text}
use Rattle.lload_spec.specs.Writable.{can_be_spelled}
use Rattle.replay_script.specs.EntryFields.{longest, message_at_front, message_in, spellable}
use Rattle.replay_script.proofs.NumberTexts.{both_pass, is_without, is_without-cons}
use Rattle.replay_script.proofs.HexWords.{ok_of}

bytes_cons : (x : ℕ) (xs : List ℕ) → x < 256 → IsBytes xs → IsBytes (x ∷ xs)
bytes_cons x xs one more zero = one
bytes_cons x xs one more (suc i) = more i

bytes_nil : IsBytes []
bytes_nil i = omega arith

bytes_append : (xs ys : List ℕ) → IsBytes xs → IsBytes ys → IsBytes (xs ++ ys)
bytes_append [] ys first second = second
bytes_append (x ∷ xs) ys first second = bytes_cons x (xs ++ ys) (first 0) (bytes_append xs ys (λ i. first (suc i)) second)

if_bytes : (t : Bool) (xs ys : List ℕ) → (t ≡ true → IsBytes xs) → (t ≡ false → IsBytes ys) → IsBytes (cond t xs ys)
if_bytes true xs ys first second = first refl
if_bytes false xs ys first second = second refl

if_few : (t : Bool) (xs ys : List ℕ) (most : ℕ) → length xs ≤ most → length ys ≤ most → length (cond t xs ys) ≤ most
if_few true xs ys most first second = first
if_few false xs ys most first second = second

below : (n limit : ℕ) → nat_lt n limit ≡ true → n < limit
below n limit test = grind (arith, nat_tests, test)

-- the shortest octets of a number
shortest_bytes : (k n : ℕ) → IsBytes (shortest_octets_within k n)
shortest_bytes zero n = bytes_nil
shortest_bytes (suc k) n = if_bytes (nat_lt n 256) (n ∷ []) (shortest_octets_within k (n / 256) ++ (n % 256) ∷ []) (λ one. bytes_cons n [] (below n 256 one) bytes_nil) (λ more. bytes_append (shortest_octets_within k (n / 256)) ((n % 256) ∷ []) (shortest_bytes k (n / 256)) (bytes_cons (n % 256) [] (omega arith) bytes_nil))

shortest_few : (k n : ℕ) → length (shortest_octets_within k n) ≤ k
shortest_few zero n = omega arith
shortest_few (suc k) n = if_few (nat_lt n 256) (n ∷ []) (shortest_octets_within k (n / 256) ++ (n % 256) ∷ []) (suc k) (omega arith) (omega (arith, length-append (shortest_octets_within k (n / 256)) ((n % 256) ∷ []), shortest_few k (n / 256)))

length_bytes : (n : ℕ) → IsBytes (shortest_length n)
length_bytes n = if_bytes (nat_lt n 128) (n ∷ []) ((128 + length (shortest_octets_within 4 n)) ∷ shortest_octets_within 4 n) (λ one. bytes_cons n [] (small one) bytes_nil) (λ more. bytes_cons (128 + length (shortest_octets_within 4 n)) (shortest_octets_within 4 n) (omega (arith, shortest_few 4 n)) (shortest_bytes 4 n)) where
  small : nat_lt n 128 ≡ true → n < 256
  small one = let limit = below n 128 one in omega arith

four_bytes : (a b c d : ℕ) → a < 256 → b < 256 → c < 256 → d < 256 → IsBytes (a ∷ b ∷ c ∷ d ∷ [])
four_bytes a b c d one two three four = bytes_cons a (b ∷ c ∷ d ∷ []) one (bytes_cons b (c ∷ d ∷ []) two (bytes_cons c (d ∷ []) three (bytes_cons d [] four bytes_nil)))

integer_bytes : (n : ℕ) → n < 2 ^ 31 → IsBytes (shortest_integer n)
integer_bytes n small =
    let four : List ℕ = (n / 16777216) ∷ (n / 65536 % 256) ∷ (n / 256 % 256) ∷ (n % 256) ∷ [] in
    let three : List ℕ = (n / 65536) ∷ (n / 256 % 256) ∷ (n % 256) ∷ [] in
    let two : List ℕ = (n / 256) ∷ (n % 256) ∷ [] in
    let more : List ℕ = cond (nat_lt n 8388608) three four in
    if_bytes (nat_lt n 128) (n ∷ []) (cond (nat_lt n 32768) two more) (λ low. let limit = below n 128 low in bytes_cons n [] (omega arith) bytes_nil)
    (λ high. if_bytes (nat_lt n 32768) two more (λ low. let limit = below n 32768 low in bytes_cons (n / 256) ((n % 256) ∷ []) (omega arith) (bytes_cons (n % 256) [] (omega arith) bytes_nil))
    (λ higher. if_bytes (nat_lt n 8388608) three four (λ low. let limit = below n 8388608 low in bytes_cons (n / 65536) ((n / 256 % 256) ∷ (n % 256) ∷ []) (omega arith) (bytes_cons (n / 256 % 256) ((n % 256) ∷ []) (omega arith) (bytes_cons (n % 256) [] (omega arith) bytes_nil)))
    (λ highest. four_bytes (n / 16777216) (n / 65536 % 256) (n / 256 % 256) (n % 256) (omega arith) (omega arith) (omega arith) (omega arith))))

written_bytes : (tag : ℕ) (contents : List ℕ) → tag < 256 → IsBytes contents → IsBytes (written tag contents)
written_bytes tag contents low bytes = bytes_cons tag _ low (bytes_append (shortest_length (length contents)) contents (length_bytes (length contents)) bytes)

-- the canonical spelling has octets alone
canonical_bytes : (m : Message) → m.id < 2 ^ 31 → AreOctets m.rest → IsBytes (canonical m)
canonical_bytes m small octets =
    let id : List ℕ = written 2 (shortest_integer m.id) in
    written_bytes 48 (id ++ m.rest) (omega arith) (bytes_append id m.rest (written_bytes 2 (shortest_integer m.id) (omega arith) (integer_bytes m.id small)) octets.each)

-- what the tests of a message say
spelled_limits : (id : ℕ) (rest : List ℕ) → can_be_spelled id rest ≡ true → (id < 2 ^ 31) × (length rest < 2 ^ 30)
spelled_limits id rest can = let (low, short) = both_pass (nat_lt id (2 ^ 31)) (nat_lt (length rest) (2 ^ 30)) can in (grind (arith, nat_tests, low), grind (arith, nat_tests, short))

-- what is read of a reading
abbrev front_of : Reading → Option Message
front_of r = elim r [ Whole m more ↦ spellable m | Short n ↦ None | Bad n ↦ None | TooBig n ↦ None ]

front_is : (m : Message) → can_be_spelled m.id m.rest ≡ true → IsMessage m → message_at_front (canonical m) ≡ Some m
front_is m can is =
    let limits = spelled_limits m.id m.rest can in
    let whole = written_is_read longest [] m is (omega (arith, limits.1)) (omega arith) in
    let whole : read longest (canonical m) ≡ Whole m [] = ap (read longest) (sym (append-nil (canonical m))) ∙ whole in
    ap front_of whole ∙ (rw can refl)

-- the message is read of its text
pub message_in-text : (id : ℕ) (rest : List ℕ) → IsTrue (can_be_spelled id rest) → IsMessage (record { id = id; rest = rest }) → AreOctets rest → message_in (message_text id rest) ≡ Some (record { id = id; rest = rest })
message_in-text id rest can is octets =
    let m : Message = record { id = id; rest = rest } in
    let limits = spelled_limits id rest can in
    let decoded = decode_of-encode_upper (canonical m) (canonical_bytes m limits.0 octets) in
    let bytes : bytes_of (message_text id rest) ≡ Some (canonical m) = ap ok_of decoded in
    rw bytes (front_is m can is)

hex_without_space : (text : List ℕ) → list_all is_hex_digit text ≡ true → is_without 32 text ≡ true
hex_without_space [] digits = refl
hex_without_space (c ∷ cs) digits =
    let (digit, more) = both_pass (is_hex_digit c) (list_all is_hex_digit cs) digits in
    is_without-cons 32 c cs (not_space c digit) (hex_without_space cs more) where
      not_space : (c : ℕ) → is_hex_digit c ≡ true → (c == 32) ≡ false
      not_space c digit = at (c == 32) refl where
        at : (t : Bool) → (c == 32) ≡ t → t ≡ false
        at true space = let e : c ≡ 32 = grind (arith, nat_tests, space) in cc (subst (λ (x : ℕ). is_hex_digit x ≡ true) e digit)
        at false other = refl

pub message_without_space : (id : ℕ) (rest : List ℕ) → IsTrue (can_be_spelled id rest) → AreOctets rest → is_without 32 (message_text id rest) ≡ true
message_without_space id rest can octets =
    let m : Message = record { id = id; rest = rest } in
    let limits = spelled_limits id rest can in
    let decoded = decode_of-encode_upper (canonical m) (canonical_bytes m limits.0 octets) in
    hex_without_space (message_text id rest) (list_all-from_AllPass is_hex_digit (message_text id rest) (decode_of-ok (message_text id rest) (canonical m) decoded).1)
