use lib.Utf8.{encode}
use Rattle.std.proofs.Common.{arith, sym, ◌∙◌}
use Rattle.std.proofs.lemmas.Bool.Decides.{nat_tests}
use Rattle.conf_words.proofs.Encoded.{encode-of_word, encode-some}
use Rattle.conf_words.proofs.WordSteps.{goes_added, goes_quoted}
use Rattle.conf_words.proofs.words.WordMaker.take_plain.Goals as goal

pub returns-then-c-eq34 : goal.returns-then-c-eq34
unfolding encode
returns-then-c-eq34 c = rw c.if-c-eq34.true (goes_quoted c.args.self.now c.turn_quote.new.self c.requires c.turn_quote.ensures)

pub returns-in_ok-add : goal.returns-in_ok-add
returns-in_ok-add c =
    goes_added c.args.self.now c.add.new.self _ c.requires
    (encode-of_word c.args.self.now.quoted c.args.c (record { no_backslash = grind (arith, nat_tests); no_quote = grind (arith, nat_tests); no_gap = sym c.is_separated_by.ensures ∙ c.if-is_separated_by.false }))
    (encode-some c.args.c) c.in_ok-add.ensures
