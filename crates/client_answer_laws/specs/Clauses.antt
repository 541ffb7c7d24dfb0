-- Clauses of a client's share that need fit letters, and the share.
use Rattle.std.specs.Prelude.{ℕ, List, IsTrue}
use Rattle.lload_names.specs.declared.names.PartName.TheVariants.{Client}
use Rattle.lload_spec.specs.Settings.{Settings}
use Rattle.part_spec.specs.Fit.{fit_beginning}
use Rattle.part_spec.specs.Share.{Share, lives_as_a_client, each_answered, each_refusal_caused, each_success_known}
use Rattle.part_laws.specs.Turns.{Event}
use Rattle.client_laws.specs.Turns.{client_list}

-- the list is one of a client's life, up to the first letter that isn't fit
abbrev pub ClientLife : Type 0
ClientLife =
    (s : Settings) (c : ℕ) (xs : List Event)
    → IsTrue (lives_as_a_client s c (fit_beginning s (Client c) (client_list s c xs)))

-- what each operation got is a beginning of the answers that were taken for it, or such a beginning without a final one
-- and then one answer of the proxy's own
abbrev pub ClientAnswered : Type 0
ClientAnswered =
    (s : Settings) (c : ℕ) (xs : List Event)
    → IsTrue (each_answered c (fit_beginning s (Client c) (client_list s c xs)))

-- each success that was kept back went out with a readable identity
abbrev pub ClientSuccesses : Type 0
ClientSuccesses =
    (s : Settings) (c : ℕ) (xs : List Event)
    → IsTrue (each_success_known s c (fit_beginning s (Client c) (client_list s c xs)))

-- each operation that got an answer of the proxy's own has its cause
abbrev pub ClientRefusals : Type 0
ClientRefusals =
    (s : Settings) (c : ℕ) (xs : List Event)
    → IsTrue (each_refusal_caused s c (fit_beginning s (Client c) (client_list s c xs)))

-- a client's list keeps its share, up to the first letter that isn't fit
abbrev pub ClientShares : Type 0
ClientShares = (s : Settings) (c : ℕ) (xs : List Event) → Share s (Client c) (client_list s c xs)
