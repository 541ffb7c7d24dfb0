use lib.Utf8.{encode}
use Rattle.std.proofs.Common.{sym, ◌∙◌}
use Rattle.conf_words.proofs.Encoded.{encode-keeps}
use Rattle.conf_words.proofs.WordSteps.{goes_behind, goes_escaped, when_ok}
use Rattle.conf_words.proofs.words.WordMaker.take.Goals as goal

pub returns-then-is_escaped : goal.returns-then-is_escaped
returns-then-is_escaped c =
    when_ok c.add.result (goes_escaped c.args.self.now c.add.new.self c.args.c c.if-not-self.false (sym c.is_escaped.ensures ∙ c.if-is_escaped.true)) c.add.ensures

pub returns : goal.returns
unfolding encode
returns c =
    when_ok c.take_plain-2.result (goes_behind c.args.self.now c.add-2.new.self c.take_plain-2.new.self _ c.if-not-self.false (encode-keeps c.args.c (sym c.is_escaped.ensures ∙ c.if-is_escaped.false)) c.in_ok-add.ensures) c.take_plain-2.ensures
