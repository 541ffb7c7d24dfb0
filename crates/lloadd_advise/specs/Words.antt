-- The words of the program (this project's own), and what they ask for.
use Rattle.std.specs.Prelude.{ℕ, ◌==◌, ◌&&◌, Bool, false, not, if◌then◌else◌, List, [], ◌∷◌, Option, Some, None, codes, bytes_eq}
use Rattle.lloadd_advise.specs.declared.job.Job.{Job}
use Rattle.lloadd_advise.specs.declared.job.Job.TheVariants.{Advise as AdviseJob, Convert as ConvertJob}

-- what words can ask for
pub data Asked : Type 0 where
  -- advice on the file with this name
  Advise : List ℕ → Asked
  -- that file as one that lloadd takes
  Convert : List ℕ → Asked

-- whether a word can name a file: it isn't empty and doesn't begin with `-`
abbrev pub is_conf : List ℕ → Bool
is_conf [] = false
is_conf (c ∷ cs) = not (c == 45)

-- what the words ask for: `CONF` or `--convert CONF`; other words ask for nothing
abbrev pub asked_of : List (List ℕ) → Option Asked
asked_of (conf ∷ []) = if is_conf conf then Some (Advise conf) else None
asked_of (verb ∷ conf ∷ []) = if bytes_eq verb (codes "--convert") && is_conf conf then Some (Convert conf) else None
asked_of _ = None

-- what a job was asked for as
abbrev pub asked : Job → Asked
asked (AdviseJob conf) = Advise conf.now
asked (ConvertJob conf) = Convert conf.now
