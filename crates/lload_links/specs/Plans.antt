-- The plans of a link in memory: what its reads and its writes answer, in order.
use Rattle.std.specs.Prelude.{ℕ, ◌+◌, ◌-◌, ◌^◌, ◌≡◌, ◌⊎◌, ◌||◌, ◌==◌, nat_le, nat_lt, min, Bool, true, false, List, [], ◌∷◌, ◌++◌, length, drop, if◌then◌else◌}
use Rattle.lload_links.specs.declared.link.LinkRead.{LinkRead}
use Rattle.lload_links.specs.declared.link.LinkRead.TheVariants.{Got, End, NotYet as NotRead, Failed as ReadFailed}
use Rattle.lload_links.specs.declared.link.LinkWrite.{LinkWrite}
use Rattle.lload_links.specs.declared.link.LinkWrite.TheVariants.{Put, NotYet as NotWritten, Failed as WriteFailed}
use Rattle.lload_links.specs.declared.mem_link.MemRead.{MemRead}
use Rattle.lload_links.specs.declared.mem_link.MemRead.TheVariants.{Bytes, NotYet, Until, Fail}
use Rattle.lload_links.specs.declared.mem_link.MemWrite.{MemWrite}
use Rattle.lload_links.specs.declared.mem_link.MemWrite.TheVariants.{Take, NotYet as NotTaken, Fail as FailWrite}

-- all bytes that these reads give
abbrev pub bytes_of : List MemRead → List ℕ
bytes_of [] = []
bytes_of (Bytes bs ∷ rs) = bs ++ bytes_of rs
bytes_of (NotYet ∷ rs) = bytes_of rs
bytes_of (Until n ∷ rs) = bytes_of rs
bytes_of (Fail ∷ rs) = bytes_of rs

-- the reads that are met once so many bytes were written: empty `Bytes`, and each `Until` that is reached, are passed over
abbrev pub due : ℕ → List MemRead → List MemRead
due written [] = []
due written (Bytes [] ∷ rs) = due written rs
due written (Bytes (b ∷ bs) ∷ rs) = Bytes (b ∷ bs) ∷ rs
due written (NotYet ∷ rs) = NotYet ∷ rs
due written (Until n ∷ rs) = if nat_le n written then due written rs else Until n ∷ rs
due written (Fail ∷ rs) = Fail ∷ rs

-- whether the read that is met is ready
abbrev pub is_ready : List MemRead → Bool
is_ready [] = true
is_ready (Bytes bs ∷ rs) = true
is_ready (NotYet ∷ rs) = false
is_ready (Until n ∷ rs) = false
is_ready (Fail ∷ rs) = true

-- what a read answers that meets these, with so much room in its buffer
abbrev pub read_answer : ℕ → List MemRead → LinkRead
read_answer room [] = End
read_answer room (Bytes bs ∷ rs) = Got (min (length bs) room)
read_answer room (NotYet ∷ rs) = NotRead
read_answer room (Until n ∷ rs) = NotRead
read_answer room (Fail ∷ rs) = ReadFailed

-- the reads behind it
abbrev pub later_reads : ℕ → List MemRead → List MemRead
later_reads room [] = []
later_reads room (Bytes bs ∷ rs) = Bytes (drop (min (length bs) room) bs) ∷ rs
later_reads room (NotYet ∷ rs) = rs
later_reads room (Until n ∷ rs) = Until n ∷ rs
later_reads room (Fail ∷ rs) = rs

-- a look passes over one `NotYet`
abbrev pub behind_look : List MemRead → List MemRead
behind_look [] = []
behind_look (Bytes bs ∷ rs) = Bytes bs ∷ rs
behind_look (NotYet ∷ rs) = rs
behind_look (Until n ∷ rs) = Until n ∷ rs
behind_look (Fail ∷ rs) = Fail ∷ rs

-- whether the next write is ready
abbrev pub is_ready_to_take : List MemWrite → Bool
is_ready_to_take [] = true
is_ready_to_take (Take n ∷ ws) = true
is_ready_to_take (NotTaken ∷ ws) = false
is_ready_to_take (FailWrite ∷ ws) = true

-- what a write of so many bytes is to answer, which meets these; to write nothing is a fault
abbrev pub write_answer : ℕ → List MemWrite → LinkWrite
write_answer len [] = if len == 0 then WriteFailed else Put len
write_answer len (Take n ∷ ws) = if len == 0 || n == 0 then WriteFailed else Put (min n len)
write_answer len (NotTaken ∷ ws) = if len == 0 then WriteFailed else NotWritten
write_answer len (FailWrite ∷ ws) = WriteFailed

-- the writes behind it
abbrev pub later_writes : ℕ → List MemWrite → List MemWrite
later_writes len ws = if len == 0 then ws else drop 1 ws

-- A write answers what it is to answer, but fails where there is no memory for the bytes.
abbrev pub Answers : LinkWrite → LinkWrite → Type 0
Answers (Put n) answer = (answer ≡ Put n) ⊎ (answer ≡ WriteFailed)
Answers NotWritten answer = answer ≡ NotWritten
Answers WriteFailed answer = answer ≡ WriteFailed

-- a count of faults behind an answer: it stays at its last value
abbrev pub counted : ℕ → ℕ
counted faults = if nat_lt faults (2 ^ 64 - 1) then faults + 1 else faults

abbrev pub faults_read : LinkRead → ℕ → ℕ
faults_read ReadFailed faults = counted faults
faults_read (Got n) faults = faults
faults_read End faults = faults
faults_read NotRead faults = faults

abbrev pub faults_written : LinkWrite → ℕ → ℕ
faults_written WriteFailed faults = counted faults
faults_written (Put n) faults = faults
faults_written NotWritten faults = faults
