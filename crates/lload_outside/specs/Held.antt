-- What contracts see of the objects in memory.
use Rattle.std.specs.Prelude.{ℕ, Bool, ◌||◌, List, count_by, is_none}
use Rattle.std.specs.Str.{bytes_eq}
use Rattle.lload_outside.specs.Calls.{CallPlan, fails_next}
use Rattle.lload_outside.specs.Files.{file_of}
use Rattle.lload_outside.specs.declared.files.NamedFile.{NamedFile}

-- a source: what is left of it, and its calls
pub record SourceHeld : Type 0 where
  pub left : List ℕ
  pub calls : CallPlan

-- a sink: what it took, and its calls
pub record SinkHeld : Type 0 where
  pub written : List ℕ
  pub calls : CallPlan

-- files: the table, the names whose read failed, and the calls
pub record FilesHeld : Type 0 where
  pub files : List NamedFile
  pub failed : List (List ℕ)
  pub calls : CallPlan

-- how often a read of a name failed
abbrev pub times_failed : List (List ℕ) → List ℕ → ℕ
times_failed failed name = count_by (λ other. bytes_eq other name) failed

-- whether a read of a name fails: the call does, or there is no such file
abbrev pub read_fails : FilesHeld → List ℕ → Bool
read_fails held name = fails_next held.calls.to_come || is_none (file_of held.files name)
