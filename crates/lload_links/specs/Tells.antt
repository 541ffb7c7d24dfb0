-- What a link tells of itself, and what its calls change of that. `None` is what isn't told.
use Rattle.std.specs.Prelude.{ℕ, ◌≡◌, ◌≤◌, ◌<◌, List, [], ◌++◌, length, take, drop, Option, Some, None}
use Rattle.lload_outside.specs.Told.{Told}
use Rattle.lload_links.specs.declared.link.Origin.{Origin}
use Rattle.lload_links.specs.declared.link.LinkRead.{LinkRead}
use Rattle.lload_links.specs.declared.link.LinkRead.TheVariants.{Got, End, NotYet as NotRead, Failed as ReadFailed}
use Rattle.lload_links.specs.declared.link.LinkWrite.{LinkWrite}
use Rattle.lload_links.specs.declared.link.LinkWrite.TheVariants.{Put, NotYet as NotWritten, Failed as WriteFailed}

-- who made it, the bytes that are left to read, those that were read and that were written, and the answers of its last
-- read and of its last write
pub record LinkTells : Type 0 where
  pub origin : Origin
  pub left : Option (List ℕ)
  pub was_read : Option (List ℕ)
  pub written : Option (List ℕ)
  pub last_read : Option LinkRead
  pub last_write : Option LinkWrite

-- Nothing was read from the link and nothing was written to it, where it tells.
abbrev pub IsUnused : LinkTells → Type 0
IsUnused tells = Told (λ xs. xs ≡ []) tells.was_read × Told (λ xs. xs ≡ []) tells.written

-- What a read answers: `Got` moves at least 1 byte and at most as many as the buffer has, and these are the next that
-- were left; `End` comes only where nothing is left.
abbrev pub Reads : Option (List ℕ) → List ℕ → LinkRead → Type 0
Reads left buf (Got n) =
    (0 < n) × (n ≤ length buf) × Told (λ xs. (n ≤ length xs) × (take n buf ≡ take n xs)) left
Reads left buf End = Told (λ xs. xs ≡ []) left
Reads left buf NotRead = Unit {0}
Reads left buf ReadFailed = Unit {0}

-- What a write answers: `Put` takes at least 1 byte of the piece.
abbrev pub Writes : List ℕ → LinkWrite → Type 0
Writes piece (Put n) = (0 < n) × (n ≤ length piece)
Writes piece NotWritten = Unit {0}
Writes piece WriteFailed = Unit {0}

-- how many bytes a read moved, and how many a write took
abbrev pub count_read : LinkRead → ℕ
count_read (Got n) = n
count_read End = 0
count_read NotRead = 0
count_read ReadFailed = 0

abbrev pub count_written : LinkWrite → ℕ
count_written (Put n) = n
count_written NotWritten = 0
count_written WriteFailed = 0

-- bytes behind others, and without so many in front
abbrev pub with_more : Option (List ℕ) → List ℕ → Option (List ℕ)
with_more None more = None
with_more (Some xs) more = Some (xs ++ more)

abbrev pub without : ℕ → Option (List ℕ) → Option (List ℕ)
without n None = None
without n (Some xs) = Some (drop n xs)

-- what is told behind a read with this answer, which left this in the buffer
abbrev pub after_read : LinkTells → LinkRead → List ℕ → LinkTells
after_read tells answer buf = record tells {
  left = without (count_read answer) tells.left;
  was_read = with_more tells.was_read (take (count_read answer) buf);
  last_read = Some answer;
}

-- what is told behind a write of a piece with this answer
abbrev pub after_write : LinkTells → LinkWrite → List ℕ → LinkTells
after_write tells answer piece = record tells {
  written = with_more tells.written (take (count_written answer) piece);
  last_write = Some answer;
}
