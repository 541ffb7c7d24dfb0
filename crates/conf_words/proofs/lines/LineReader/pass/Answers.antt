use Rattle.std.proofs.Common.{ap, ◌∙◌}
use Rattle.std.specs.Prelude.{drop}
use Rattle.conf_words.proofs.Groups.{lines_at-passed}
use Rattle.conf_words.proofs.lines.LineReader.pass.Goals as goal

pub returns-in-Some : goal.returns-in-Some
returns-in-Some c = lines_at-passed c.self.inside.place c.pass_continuations-self-inside.result c.in-Some.first c.in-Some.ensures c.pass_continuations-self-inside.ensures ∙ ap (drop 1) c.self.view_is
