-- What the reads of a link in memory give.
use Rattle.std.proofs.Common.{◌≡◌, ℕ, ◌+◌, ◌≤◌, ◌<◌, Bool, true, false, List, [], ◌∷◌, ◌++◌, length, take, drop, get_or, refl, sym, ap, ◌∙◌, arith, append_assoc, length-append}
use Rattle.std.specs.Prelude.{nat_le, min, if◌then◌else◌}
use Rattle.std.proofs.lemmas.List.{take_more, take-append-le, drop-append-le}
use Rattle.std.specs.Prelude.{Some}
use Rattle.lload_links.specs.Plans.{bytes_of, due, read_answer, later_reads}
use Rattle.lload_links.specs.Tells.{Reads, count_read}
use Rattle.lload_links.specs.declared.link.LinkRead.{LinkRead}
use Rattle.lload_links.specs.declared.link.LinkRead.TheVariants.{Got}
use Rattle.lload_links.specs.declared.mem_link.MemRead.{MemRead}
use Rattle.lload_links.specs.declared.mem_link.MemRead.TheVariants.{Bytes, NotYet, Until, Fail}

bytes_of-append : (xs ys : List MemRead) → bytes_of (xs ++ ys) ≡ bytes_of xs ++ bytes_of ys
bytes_of-append [] ys = refl
bytes_of-append (Bytes bs ∷ xs) ys = ap (λ t. bs ++ t) (bytes_of-append xs ys) ∙ sym (append_assoc bs (bytes_of xs) (bytes_of ys))
bytes_of-append (NotYet ∷ xs) ys = bytes_of-append xs ys
bytes_of-append (Until n ∷ xs) ys = bytes_of-append xs ys
bytes_of-append (Fail ∷ xs) ys = bytes_of-append xs ys

-- one step more gives so many bytes more
pub bytes_more : (rs : List MemRead) (i : ℕ) (r : MemRead) → i < length rs → r ≡ get_or rs i r → length (bytes_of (take (i + 1) rs)) ≡ length (bytes_of (take i rs)) + length (bytes_of (r ∷ []))
bytes_more rs i r h e =
    ap (λ z. length (bytes_of z)) (take_more rs i r h)
    ∙ ap length (bytes_of-append (take i rs) (get_or rs i r ∷ []))
    ∙ length-append (bytes_of (take i rs)) (bytes_of (get_or rs i r ∷ []))
    ∙ ap (λ (x : MemRead). length (bytes_of (take i rs)) + length (bytes_of (x ∷ []))) (sym e)

until_passes : (n : ℕ) (later rs : List MemRead) (b : Bool) → bytes_of later ≡ bytes_of rs → bytes_of (if b then later else Until n ∷ rs) ≡ bytes_of rs
until_passes n later rs true same = same
until_passes n later rs false same = refl

-- what is passed over gives no bytes
pub bytes_of-due : (written : ℕ) (rs : List MemRead) → bytes_of (due written rs) ≡ bytes_of rs
bytes_of-due written [] = refl
bytes_of-due written (Bytes [] ∷ rs) = bytes_of-due written rs
bytes_of-due written (Bytes (b ∷ bs) ∷ rs) = refl
bytes_of-due written (NotYet ∷ rs) = refl
bytes_of-due written (Until n ∷ rs) = until_passes n (due written rs) rs (nat_le n written) (bytes_of-due written rs)
bytes_of-due written (Fail ∷ rs) = refl

-- so the reads that are met have the bytes of all
pub bytes_of_met : (written : ℕ) (met rs : List MemRead) → met ≡ due written rs → bytes_of met ≡ bytes_of rs
bytes_of_met written met rs is = ap bytes_of is ∙ bytes_of-due written rs

-- where bytes are met, there is one at least
pub due_bytes : (written : ℕ) (rs later : List MemRead) (bs : List ℕ) → Bytes bs ∷ later ≡ due written rs → 0 < length bs
due_bytes written [] later bs e = absurd (cc)
due_bytes written (Bytes [] ∷ rs) later bs e = due_bytes written rs later bs e
due_bytes written (Bytes (c ∷ cs) ∷ rs) later bs e = let same : bs ≡ c ∷ cs = cc in rw same (omega arith)
due_bytes written (NotYet ∷ rs) later bs e = absurd (cc)
due_bytes written (Until n ∷ rs) later bs e = until_bytes n written rs later bs (nat_le n written) (due_bytes written rs later bs) e
  where
    until_bytes : (n written : ℕ) (rs later : List MemRead) (bs : List ℕ) (b : Bool) → (Bytes bs ∷ later ≡ due written rs → 0 < length bs) → Bytes bs ∷ later ≡ (if b then due written rs else Until n ∷ rs) → 0 < length bs
    until_bytes n written rs later bs true h e = h e
    until_bytes n written rs later bs false h e = absurd (cc)
due_bytes written (Fail ∷ rs) later bs e = absurd (cc)

-- the bytes behind a read are those before it without those that it moved
pub bytes_of-later_reads : (room : ℕ) (rs : List MemRead) → bytes_of (later_reads room rs) ≡ drop (count_read (read_answer room rs)) (bytes_of rs)
bytes_of-later_reads room [] = refl
bytes_of-later_reads room (Bytes bs ∷ rs) =
    let within : min (length bs) room ≤ length bs = omega arith in sym (drop-append-le (min (length bs) room) bs (bytes_of rs) within)
bytes_of-later_reads room (NotYet ∷ rs) = refl
bytes_of-later_reads room (Until n ∷ rs) = refl
bytes_of-later_reads room (Fail ∷ rs) = refl

-- a read that moved the first bytes of the step that was met moved the next of all that was left
pub moved_next : (bs rest all buf : List ℕ) (room : ℕ) (answer : LinkRead) → answer ≡ Got (min (length bs) room) → 0 < length bs → 0 < room → room ≡ length buf → take (min (length bs) room) buf ≡ take (min (length bs) room) bs → bs ++ rest ≡ all → Reads (Some all) buf answer
moved_next bs rest all buf room answer is some place long same whole =
    let within : min (length bs) room ≤ length bs = omega arith in
    rw (is, ← whole) (omega arith, omega (arith, long), (omega (arith, length-append bs rest), same ∙ sym (take-append-le (min (length bs) room) bs rest within)))
