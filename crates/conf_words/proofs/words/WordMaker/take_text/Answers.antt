use Rattle.std.proofs.Common.{sym, ◌∙◌, ◌≡◌, ◌++◌, rules, ap, append_assoc}
use Rattle.std.specs.Str.Iter.{chars_rest}
use Rattle.std.specs.Prelude.{encode_utf8}
use Rattle.conf_words.specs.WordMaking.{Goes, leaves_open, makes}
use Rattle.conf_words.proofs.WordSteps.{nothing_left}
use Rattle.conf_words.proofs.words.WordMaker.take_text.Goals as goal

pub loop-c-init : goal.loop-c-init
loop-c-init c =
    let whole : chars_rest c.into_iter-c-iterator.result ≡ c.args.text.now = search rules in
    (λ rest. ap (λ text. makes c.args.self.now (text ++ rest)) (sym whole), λ rest. ap (λ text. leaves_open c.args.self.now (text ++ rest)) (sym whole))

pub loop-c-preserved : goal.loop-c-preserved
loop-c-preserved c =
    let left = c.in-Some.ensures.steps.0 in
    let goes : Goes c.loop-c.self c.take.new.self (encode_utf8 c.in-Some.c) = c.in_ok-take.ensures in (
      λ rest. c.loop-c.invariant.0 rest ∙ (ap (λ text. makes c.loop-c.self (text ++ rest)) left ∙ (ap (makes c.loop-c.self) (append_assoc (encode_utf8 c.in-Some.c) (chars_rest c.next.new.self) rest) ∙ goes.words (chars_rest c.next.new.self ++ rest))),
      λ rest. c.loop-c.invariant.1 rest ∙ (ap (λ text. leaves_open c.loop-c.self (text ++ rest)) left ∙ (ap (leaves_open c.loop-c.self) (append_assoc (encode_utf8 c.in-Some.c) (chars_rest c.next.new.self) rest) ∙ goes.open_quote (chars_rest c.next.new.self ++ rest))),
    )

pub returns : goal.returns
returns c = nothing_left c.args.self.now c.loop-c.self c.args.text.now (chars_rest c.loop-c.c-iterator) c.in-None.ensures.steps.0.0 c.loop-c.invariant.0 c.loop-c.invariant.1
