-- What a link in memory tells behind its steps.
use Rattle.std.proofs.Common.{◌≡◌, ◌≢◌, ℕ, ◌+◌, ◌-◌, ◌^◌, ◌≤◌, ◌<◌, ◌⊎◌, inl, inr, Bool, true, false, Some, List, [], ◌∷◌, ◌++◌, length, take, drop, refl, sym, ap, ◌∙◌, arith}
use Rattle.std.proofs.lemmas.Bool.Decides.{nat_tests}
use Rattle.std.specs.Prelude.{◌==◌, ◌||◌, min, nat_lt, if◌then◌else◌}
use Rattle.lload_outside.specs.Causes.{Rose}
use Rattle.lload_links.specs.Plans.{bytes_of, due, is_ready, is_ready_to_take, behind_look, read_answer, later_reads, write_answer, Answers, counted, faults_read, faults_written}
use Rattle.lload_links.specs.Tells.{count_read, after_read}
use Rattle.lload_links.specs.Held.{LinkHeld, tells_of, due_reads, after_look, after_link_read}
use Rattle.lload_links.specs.declared.link.Ready.{Ready}
use Rattle.lload_links.specs.declared.link.Ready.TheVariants.{Yes, NotYet as NotReady, Failed as LookFailed}
use Rattle.lload_links.specs.declared.link.LinkRead.{LinkRead}
use Rattle.lload_links.specs.declared.link.LinkRead.TheVariants.{Got, End, NotYet as NotRead, Failed as ReadFailed}
use Rattle.lload_links.specs.declared.link.LinkWrite.{LinkWrite}
use Rattle.lload_links.specs.declared.link.LinkWrite.TheVariants.{Put, NotYet as NotWritten, Failed as WriteFailed}
use Rattle.lload_links.specs.declared.mem_link.MemRead.{MemRead}
use Rattle.lload_links.specs.declared.mem_link.MemRead.TheVariants.{Bytes, NotYet, Until, Fail}
use Rattle.lload_links.specs.declared.mem_link.MemWrite.{MemWrite}
use Rattle.lload_links.specs.declared.mem_link.MemWrite.TheVariants.{Take, NotYet as NotTaken, Fail as FailWrite}
use Rattle.lload_links.proofs.ReadSteps.{bytes_of-due, bytes_of-later_reads}

-- a count rises by one, or stays at its last value
counted_rises : (n : ℕ) → n ≤ counted n
counted_rises n = grind (arith, nat_tests)

counted_rose : (n : ℕ) → counted n < 2 ^ 64 → Rose n (counted n)
counted_rose n small = risen (nat_lt n (2 ^ 64 - 1)) refl small
  where
    risen : (b : Bool) → nat_lt n (2 ^ 64 - 1) ≡ b → (if b then n + 1 else n) < 2 ^ 64 → Rose n (if b then n + 1 else n)
    risen true e h = inl (omega arith)
    risen false e h = inr (grind (arith, nat_tests, e, h))

pub faults_read_rises : (a : LinkRead) (n : ℕ) → n ≤ faults_read a n
faults_read_rises (Got k) n = omega arith
faults_read_rises End n = omega arith
faults_read_rises NotRead n = omega arith
faults_read_rises ReadFailed n = counted_rises n

pub faults_read_rose : (a : LinkRead) (n : ℕ) → a ≡ ReadFailed → faults_read a n < 2 ^ 64 → Rose n (faults_read a n)
faults_read_rose a n is small = rw is (counted_rose n (rw is at small))

pub faults_written_rises : (a : LinkWrite) (n : ℕ) → n ≤ faults_written a n
faults_written_rises (Put k) n = omega arith
faults_written_rises NotWritten n = omega arith
faults_written_rises WriteFailed n = counted_rises n

pub faults_written_rose : (a : LinkWrite) (n : ℕ) → a ≡ WriteFailed → faults_written a n < 2 ^ 64 → Rose n (faults_written a n)
faults_written_rose a n is small = rw is (counted_rose n (rw is at small))

-- a look keeps the bytes
pub bytes_of-behind_look : (rs : List MemRead) → bytes_of (behind_look rs) ≡ bytes_of rs
bytes_of-behind_look [] = refl
bytes_of-behind_look (Bytes bs ∷ rs) = refl
bytes_of-behind_look (NotYet ∷ rs) = refl
bytes_of-behind_look (Until n ∷ rs) = refl
bytes_of-behind_look (Fail ∷ rs) = refl

pub look_tells : (link : LinkHeld) → tells_of (after_look link) ≡ tells_of link
look_tells link =
    let left = bytes_of-behind_look (due_reads link) ∙ bytes_of-due (length link.written) link.reads in
    ap (λ bytes. record (tells_of link) { left = Some bytes }) left

-- a link that isn't ready to be read has `NotYet` before it
pub not_ready : (ready : Bool) (answer : Ready) → answer ≡ (if ready then Yes else NotReady) → answer ≡ NotReady → Some ready ≢ Some true
not_ready true answer is not = absurd (cc)
not_ready false answer is not = λ e. cc

pub never_fails : (ready : Bool) (answer : Ready) → answer ≡ (if ready then Yes else NotReady) → answer ≢ LookFailed
never_fails true answer is = λ e. cc
never_fails false answer is = λ e. cc

pub not_read : (room : ℕ) (rs : List MemRead) → read_answer room rs ≡ NotRead → Some (is_ready rs) ≢ Some true
not_read room [] is = absurd (cc)
not_read room (Bytes bs ∷ rs) is = absurd (cc)
not_read room (NotYet ∷ rs) is = λ e. cc
not_read room (Until n ∷ rs) is = λ e. cc
not_read room (Fail ∷ rs) is = absurd (cc)

-- what is told behind a read
pub read_tells : (link : LinkHeld) (room : ℕ) (buf : List ℕ) → tells_of (after_link_read link room buf) ≡ after_read (tells_of link) (read_answer room (due_reads link)) buf
read_tells link room buf =
    let answer = read_answer room (due_reads link) in
    let left : bytes_of (later_reads room (due_reads link)) ≡ drop (count_read answer) (bytes_of link.reads) =
    bytes_of-later_reads room (due_reads link) ∙ ap (λ bytes. drop (count_read answer) bytes) (bytes_of-due (length link.written) link.reads) in
    ap (λ bytes. record (tells_of link) { left = Some bytes; was_read = Some (link.was_read ++ take (count_read answer) buf); last_read = Some answer }) left

not_put : (n : ℕ) (b : Bool) (answer : LinkWrite) → Answers (if b then WriteFailed else Put n) answer → answer ≢ NotWritten
not_put n true answer is = λ e. cc
not_put n false answer (inl is) = λ e. cc
not_put n false answer (inr is) = λ e. cc

-- a write is told `NotYet` only where that is planned
pub not_written : (len : ℕ) (ws : List MemWrite) (answer : LinkWrite) → Answers (write_answer len ws) answer → answer ≡ NotWritten → Some (is_ready_to_take ws) ≢ Some true
not_written len [] answer is not = absurd (not_put len (len == 0) answer is not)
not_written len (Take n ∷ ws) answer is not = absurd (not_put (min n len) (len == 0 || n == 0) answer is not)
not_written len (NotTaken ∷ ws) answer is not = λ e. cc
not_written len (FailWrite ∷ ws) answer is not = absurd (cc)
