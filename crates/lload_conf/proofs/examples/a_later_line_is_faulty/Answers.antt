use Rattle.std.proofs.Common.{refl}
use lib.Utf8.{encode}
use Rattle.std.specs.Str.{chars, is_utf8}
use Rattle.lload_conf.proofs.examples.a_later_line_is_faulty.Goals as goal

pub returns-clause-port_zero : goal.returns-clause-port_zero
unfolding chars is_utf8 encode
returns-clause-port_zero c = refl

pub returns-clause-again : goal.returns-clause-again
unfolding chars is_utf8 encode
returns-clause-again c = refl

pub returns-clause-no_uri : goal.returns-clause-no_uri
unfolding chars is_utf8 encode
returns-clause-no_uri c = refl

pub returns-clause-host : goal.returns-clause-host
unfolding chars is_utf8 encode
returns-clause-host c = refl

pub returns-clause-places : goal.returns-clause-places
unfolding chars is_utf8 encode
returns-clause-places c = refl

pub returns-clause-first : goal.returns-clause-first
unfolding chars is_utf8 encode
returns-clause-first c = refl

pub returns-clause-restricted : goal.returns-clause-restricted
unfolding chars is_utf8 encode
returns-clause-restricted c = refl
