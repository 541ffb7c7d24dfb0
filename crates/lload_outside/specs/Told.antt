-- What a read and a write change, by their answer, of what an object tells. `None` is what isn't told.
use Rattle.std.specs.Prelude.{ℕ, ◌≡◌, ◌≤◌, ◌<◌, List, [], ◌++◌, length, take, drop, min, Option, Some, None}
use Rattle.lload_outside.specs.declared.source.Taken.{Taken}
use Rattle.lload_outside.specs.declared.source.Taken.TheVariants.{Got, End, Failed as ReadFailed}
use Rattle.lload_outside.specs.declared.sink.Given.{Given}
use Rattle.lload_outside.specs.declared.sink.Given.TheVariants.{Put, Failed as WriteFailed, NoMemory as NoRoom}
use Rattle.lload_outside.specs.declared.files.FileRead.{FileRead}
use Rattle.lload_outside.specs.declared.files.FileRead.TheVariants.{Whole, TooLong, Failed as FileFailed, NoMemory as NoRoomForFile}

-- A fact on some bytes, where they are told.
abbrev pub Told : (List ℕ → Type 0) → Option (List ℕ) → Type 0
Told P None = Unit {0}
Told P (Some xs) = P xs

-- The first n bytes of what was left stand at the front of the buffer, and the others are left.
abbrev pub Moved : ℕ → List ℕ → Option (List ℕ) → Option (List ℕ) → Type 0
Moved n buf None after = after ≡ None
Moved n buf (Some xs) after = (n ≤ length xs) × (take n buf ≡ take n xs) × (after ≡ Some (drop n xs))

-- What a read does: `Got` moves at least 1 byte and at most as many as the buffer has, and every other answer leaves
-- what is left. So where this is told, `End` comes exactly where nothing is left and the call doesn't fail.
abbrev pub Reads : Option (List ℕ) → Option (List ℕ) → List ℕ → Taken → Type 0
Reads before after buf (Got n) = (0 < n) × (n ≤ length buf) × Moved n buf before after
Reads before after buf End = (after ≡ before) × Told (λ xs. xs ≡ []) before
Reads before after buf ReadFailed = after ≡ before

-- The first n bytes of the piece were appended.
abbrev pub Appended : ℕ → List ℕ → Option (List ℕ) → Option (List ℕ) → Type 0
Appended n piece None after = after ≡ None
Appended n piece (Some xs) after = after ≡ Some (xs ++ take n piece)

-- What a write does: `Put` appends at least 1 byte of a piece that isn't empty, and every other answer appends none.
abbrev pub Writes : Option (List ℕ) → Option (List ℕ) → List ℕ → Given → Type 0
Writes before after piece (Put n) = (n ≤ length piece) × (0 < length piece → 0 < n) × Appended n piece before after
Writes before after piece WriteFailed = after ≡ before
Writes before after piece NoRoom = after ≡ before

-- What a read of a file gives: all of it within the limit, and `TooLong` only where it has more bytes.
abbrev pub ReadsFile : Option (List ℕ) → ℕ → FileRead → Type 0
ReadsFile held limit (Whole body) = (length body ≤ limit) × Told (λ xs. body ≡ xs) held
ReadsFile held limit TooLong = Told (λ xs. limit < length xs) held
ReadsFile held limit FileFailed = Unit {0}
ReadsFile held limit NoRoomForFile = Unit {0}

-- A read moved as many bytes as were left and the buffer has.
abbrev pub MovesMost : List ℕ → ℕ → Taken → Type 0
MovesMost left room (Got n) = n ≡ min (length left) room
MovesMost left room End = Unit {0}
MovesMost left room ReadFailed = Unit {0}

-- A read wrote nothing to the buffer but the bytes that it moved.
abbrev pub KeepsRest : List ℕ → List ℕ → Taken → Type 0
KeepsRest before after (Got n) = drop n after ≡ drop n before
KeepsRest before after End = after ≡ before
KeepsRest before after ReadFailed = after ≡ before

-- A write took the whole piece, where it took any of it.
abbrev pub PutsAll : List ℕ → Given → Type 0
PutsAll piece (Put n) = n ≡ length piece
PutsAll piece WriteFailed = Unit {0}
PutsAll piece NoRoom = Unit {0}
