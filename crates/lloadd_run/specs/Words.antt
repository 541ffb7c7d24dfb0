-- The words of the program (this project's own), and what they ask for.
use Rattle.std.specs.Prelude.{◌≡◌, ℕ, ◌==◌, ◌&&◌, Bool, false, not, if◌then◌else◌, List, [], ◌∷◌, Option, Some, None, codes, bytes_eq}
use Rattle.lloadd_run.specs.declared.words.Job.{Job}
use Rattle.lloadd_run.specs.declared.words.Job.TheVariants.{Check as CheckJob, ReplayPlain as ReplayJob}

-- what words can ask for
pub data Asked : Type 0 where
  -- a check of the configuration with this name
  Check : List ℕ → Asked
  -- a replay of a script on the configuration `plain`
  ReplayPlain : Asked

-- whether a word can name a configuration: it isn't empty and doesn't begin with `-`
abbrev pub is_conf : List ℕ → Bool
is_conf [] = false
is_conf (c ∷ cs) = not (c == 45)

-- what the words ask for: `check CONF` or `replay plain`; other words ask for nothing
abbrev pub asked_of : List (List ℕ) → Option Asked
asked_of (verb ∷ conf ∷ []) =
    if bytes_eq verb (codes "check") && is_conf conf then Some (Check conf)
    else if bytes_eq verb (codes "replay") && bytes_eq conf (codes "plain") then Some ReplayPlain
    else None
asked_of _ = None

-- the words ask for a check of the configuration with this name
abbrev pub AsksCheck : List (List ℕ) → List ℕ → Type 0
AsksCheck words conf = asked_of words ≡ Some (Check conf)

-- the words ask for a replay on the configuration `plain`
abbrev pub AsksReplay : List (List ℕ) → Type 0
AsksReplay words = asked_of words ≡ Some ReplayPlain

-- what a job was asked for as
abbrev pub asked : Job → Asked
asked (CheckJob conf) = Check conf.now
asked ReplayJob = ReplayPlain
