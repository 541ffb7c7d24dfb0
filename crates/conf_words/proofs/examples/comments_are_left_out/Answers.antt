use lib.Utf8.{encode}
use Rattle.std.proofs.Common.{refl}
use Rattle.std.specs.Str.{chars, is_utf8}
use Rattle.conf_words.proofs.examples.comments_are_left_out.Goals as goal

pub returns-clause-continued : goal.returns-clause-continued
unfolding chars encode is_utf8
returns-clause-continued c = refl

pub returns-clause-ended : goal.returns-clause-ended
unfolding chars encode is_utf8
returns-clause-ended c = refl

pub returns-clause-within_a_line : goal.returns-clause-within_a_line
unfolding chars encode is_utf8
returns-clause-within_a_line c = refl
