use lib.Utf8.{encode}
use Rattle.std.proofs.Common.{refl}
use Rattle.std.specs.Str.{chars, is_utf8}
use Rattle.conf_words.proofs.examples.lines_are_faulty.Goals as goal

pub returns-clause-not_utf8 : goal.returns-clause-not_utf8
unfolding chars encode is_utf8
returns-clause-not_utf8 c = refl

pub returns-clause-not_utf8_and_open : goal.returns-clause-not_utf8_and_open
unfolding chars encode is_utf8
returns-clause-not_utf8_and_open c = refl

pub returns-clause-open_quote : goal.returns-clause-open_quote
unfolding chars encode is_utf8
returns-clause-open_quote c = refl

pub returns-clause-blank_within_quotes : goal.returns-clause-blank_within_quotes
unfolding chars encode is_utf8
returns-clause-blank_within_quotes c = refl

pub returns-clause-escaped_quote_does_not_close : goal.returns-clause-escaped_quote_does_not_close
unfolding chars encode is_utf8
returns-clause-escaped_quote_does_not_close c = refl
