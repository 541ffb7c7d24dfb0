use Rattle.std.proofs.Common.{refl}
use lib.Utf8.{encode}
use Rattle.std.specs.Str.{chars, is_utf8}
use Rattle.lload_conf.proofs.examples.plain_is_accepted.Goals as goal

pub returns : goal.returns
unfolding chars is_utf8 encode
returns c = refl
