-- The built-in configuration as one that is checked, and what words ask for.
use Rattle.std.proofs.Common.{◌≡◌, ℕ, true, List, codes, refl, sym, ◌∙◌, lit≤, bytes_eq}
use Rattle.std.specs.Prelude.{Option, Some, Ok}
use Rattle.lload_conf.specs.Configuration.{configuration, plain_text}
use Rattle.lload_conf.specs.declared.config.Config.{Config}
use Rattle.lloadd_run.specs.Checking.{Has, text_of}
use Rattle.lloadd_run.specs.Words.{AsksCheck, AsksReplay, Check, ReplayPlain}

-- the built-in configuration is that of its text
pub has_plain : (held : List ℕ → Option (List ℕ)) (conf : List ℕ) (config : Config) → bytes_eq conf (codes "plain") ≡ true → configuration plain_text ≡ Ok config → Has 1048576 (text_of held conf) (Ok config)
has_plain held conf config is answer = record { text = plain_text; is_told = rw is refl; within = lit≤ tt; answer_is = answer }

-- words ask for one thing
pub not_both : (words : List (List ℕ)) (conf : List ℕ) → AsksCheck words conf → AsksReplay words → ⊥
not_both words conf check replay = two (sym check ∙ replay) where
  two : Some (Check conf) ≡ Some ReplayPlain → ⊥
  two same = cc
