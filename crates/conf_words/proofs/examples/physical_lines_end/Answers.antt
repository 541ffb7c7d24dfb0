use lib.Utf8.{encode}
use Rattle.std.proofs.Common.{refl}
use Rattle.std.specs.Str.{chars, is_utf8}
use Rattle.conf_words.proofs.examples.physical_lines_end.Goals as goal

pub returns-clause-last_lacks_its_end : goal.returns-clause-last_lacks_its_end
unfolding chars encode is_utf8
returns-clause-last_lacks_its_end c = refl

pub returns-clause-carriage_return : goal.returns-clause-carriage_return
unfolding chars encode is_utf8
returns-clause-carriage_return c = refl

pub returns-clause-return_inside : goal.returns-clause-return_inside
unfolding chars encode is_utf8
returns-clause-return_inside c = refl

pub returns-clause-return_at_the_end : goal.returns-clause-return_at_the_end
unfolding chars encode is_utf8
returns-clause-return_at_the_end c = refl
