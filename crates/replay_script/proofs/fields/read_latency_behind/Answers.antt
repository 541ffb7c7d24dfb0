use Rattle.std.proofs.Common.{ℕ, sym, ap, ◌∙◌}
use Rattle.std.specs.Prelude.{Option}
use Rattle.replay_script.specs.EntryFields.{first_by, latency_of}
use Rattle.replay_script.proofs.Keys.{behind-passed}
use Rattle.replay_script.proofs.fields.read_latency_behind.Goals as goal

pub returns : goal.returns
returns c =
    let passed = behind-passed {A = Option ℕ} (first_by latency_of) _ c.args.words _ c.in_ok-read_key.ensures in
    c.read_latency.ensures ∙ ap (first_by latency_of) (sym c.in_ok-next_word.ensures) ∙ sym passed
