-- What the reader of lines says of its steps.
use Rattle.std.specs.Prelude.{◌≡◌, ℕ, ◌%◌, ◌==◌, ◌&&◌, Bool, true, false, if◌then◌else◌, codes, length, List, [], ◌∷◌, Option, Some, None, IsSome, IsTrue, Result, Ok, Err}
use Rattle.std.specs.Char.{is_ascii_hexdigit}
use Rattle.std.specs.List.{list_all}
use Rattle.std.specs.Str.{bytes_eq}
use Rattle.lload_names.specs.declared.command.Command.{Command}
use Rattle.lload_names.specs.declared.command.Command.TheVariants.{ClientBytes, UpBytes}
use Rattle.lload_spec.specs.Script.{bytes_of}
use Rattle.replay_script.specs.declared.read.LineFault.{LineFault}
use Rattle.replay_script.specs.declared.read.LineFault.TheVariants.{NotACommand, NoMemory}

-- the result is what is there, it refuses exactly where nothing is there, and else there was no memory for it
abbrev pub Reads : {A : Type 0} → Result A LineFault → Option A → Type 0
Reads (Ok x) there = there ≡ Some x
Reads (Err NotACommand) there = there ≡ None
Reads (Err NoMemory) there = IsSome there

-- whether a command holds octets
abbrev pub holds_octets : Command → Bool
holds_octets (ClientBytes _ _) = true
holds_octets (UpBytes _ _) = true
holds_octets _ = false

-- there is a command, and it holds octets
abbrev pub HoldsOctets : Option Command → Type 0
HoldsOctets None = ⊥
HoldsOctets (Some command) = IsTrue (holds_octets command)

-- the result is the command that is there, it refuses exactly where none is there, and else there was no memory for
-- its octets
abbrev pub ReadsCommand : Result Command LineFault → Option Command → Type 0
ReadsCommand (Ok command) there = there ≡ Some command
ReadsCommand (Err NotACommand) there = there ≡ None
ReadsCommand (Err NoMemory) there = HoldsOctets there

-- the bytes that the second of two words says in hexadecimal behind the word `bytes`
abbrev pub fed_bytes : List (List ℕ) → Option (List ℕ)
fed_bytes (w ∷ h ∷ []) = if bytes_eq w (codes "bytes") then bytes_of h else None
fed_bytes _ = None

-- whether a word is an even number of hexadecimal digits
abbrev pub hex_test : List ℕ → Bool
hex_test text = length text % 2 == 0 && list_all is_ascii_hexdigit text
