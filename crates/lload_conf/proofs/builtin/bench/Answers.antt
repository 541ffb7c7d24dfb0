use Rattle.std.proofs.Common.{refl}
use lib.Utf8.{encode}
use Rattle.std.specs.Str.{chars, is_utf8}
use Rattle.lload_conf.proofs.builtin.bench.Goals as goal

pub built_in-requires-clause-accepted : goal.built_in-requires-clause-accepted
unfolding chars is_utf8 encode
built_in-requires-clause-accepted c = refl
