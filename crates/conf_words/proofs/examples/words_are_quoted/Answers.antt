use lib.Utf8.{encode}
use Rattle.std.proofs.Common.{refl}
use Rattle.std.specs.Str.{chars, is_utf8}
use Rattle.conf_words.proofs.examples.words_are_quoted.Goals as goal

pub returns-clause-quoted : goal.returns-clause-quoted
unfolding chars encode is_utf8
returns-clause-quoted c = refl

pub returns-clause-within_a_word : goal.returns-clause-within_a_word
unfolding chars encode is_utf8
returns-clause-within_a_word c = refl

pub returns-clause-empty_word : goal.returns-clause-empty_word
unfolding chars encode is_utf8
returns-clause-empty_word c = refl

pub returns-clause-escaped : goal.returns-clause-escaped
unfolding chars encode is_utf8
returns-clause-escaped c = refl

pub returns-clause-backslash_stays : goal.returns-clause-backslash_stays
unfolding chars encode is_utf8
returns-clause-backslash_stays c = refl

pub returns-clause-escaped_within_quotes : goal.returns-clause-escaped_within_quotes
unfolding chars encode is_utf8
returns-clause-escaped_within_quotes c = refl

pub returns-clause-umlaut : goal.returns-clause-umlaut
unfolding chars encode is_utf8
returns-clause-umlaut c = refl
