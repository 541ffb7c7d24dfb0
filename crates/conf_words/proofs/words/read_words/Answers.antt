use Rattle.std.proofs.Common.{◌≡◌, rules, subst, true}
use Rattle.std.specs.Str.{is_utf8}
use Rattle.std.proofs.lemmas.Str.{is_utf8-from_IsUtf8}
use Rattle.conf_words.specs.WordMaking.{Goes}
use Rattle.conf_words.proofs.Contents.{content_of-other, reads_all}
use Rattle.conf_words.proofs.words.read_words.Goals as goal

pub returns-in_default : goal.returns-in_default
returns-in_default c = content_of-other c.args.line.now c.in_default.ensures.cases.0

pub returns-in_err-take_text : goal.returns-in_err-take_text
returns-in_err-take_text c =
    let utf8 : is_utf8 c.args.line.now ≡ true = is_utf8-from_IsUtf8 c.args.line.now c.in-Ok.ensures.cases.1 in
    search rules

pub returns : goal.returns
returns c = reads_all c.finish.result c.new-maker.result c.take_text.new.self c.args.line.now c.in-Ok.ensures.cases.1 c.new-maker.ensures.words c.new-maker.ensures.word c.new-maker.ensures.quoted c.new-maker.ensures.escaped (subst (Goes c.new-maker.result c.take_text.new.self) c.in-Ok.ensures.cases.0 c.in_ok-take_text.ensures) c.finish.ensures
