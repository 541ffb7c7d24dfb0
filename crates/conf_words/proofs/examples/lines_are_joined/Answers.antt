use lib.Utf8.{encode}
use Rattle.std.proofs.Common.{refl}
use Rattle.std.specs.Str.{chars, is_utf8}
use Rattle.conf_words.proofs.examples.lines_are_joined.Goals as goal

pub returns-clause-continued : goal.returns-clause-continued
unfolding chars encode is_utf8
returns-clause-continued c = refl

pub returns-clause-joined_by_one_space : goal.returns-clause-joined_by_one_space
unfolding chars encode is_utf8
returns-clause-joined_by_one_space c = refl

pub returns-clause-blank_ends_a_line : goal.returns-clause-blank_ends_a_line
unfolding chars encode is_utf8
returns-clause-blank_ends_a_line c = refl

pub returns-clause-spaces_are_blank : goal.returns-clause-spaces_are_blank
unfolding chars encode is_utf8
returns-clause-spaces_are_blank c = refl

pub returns-clause-nothing_before : goal.returns-clause-nothing_before
unfolding chars encode is_utf8
returns-clause-nothing_before c = refl
