-- What a table of files holds.
use Rattle.std.specs.Prelude.{ℕ, List, Option, find, option_map}
use Rattle.std.specs.Str.{bytes_eq}
use Rattle.lload_outside.specs.declared.files.NamedFile.{NamedFile}

-- what the first file of a name holds
abbrev pub file_of : List NamedFile → List ℕ → Option (List ℕ)
file_of files name = option_map (λ file. file.content) (find (λ file. bytes_eq file.name name) files)
