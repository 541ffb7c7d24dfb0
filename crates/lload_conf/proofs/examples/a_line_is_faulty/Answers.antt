use Rattle.std.proofs.Common.{refl}
use lib.Utf8.{encode}
use Rattle.std.specs.Str.{chars, is_utf8}
use Rattle.lload_conf.proofs.examples.a_line_is_faulty.Goals as goal

pub returns-clause-empty : goal.returns-clause-empty
unfolding chars is_utf8 encode
returns-clause-empty c = refl

pub returns-clause-not_text : goal.returns-clause-not_text
unfolding chars is_utf8 encode
returns-clause-not_text c = refl

pub returns-clause-open_quote : goal.returns-clause-open_quote
unfolding chars is_utf8 encode
returns-clause-open_quote c = refl

pub returns-clause-unknown : goal.returns-clause-unknown
unfolding chars is_utf8 encode
returns-clause-unknown c = refl

pub returns-clause-two_arguments : goal.returns-clause-two_arguments
unfolding chars is_utf8 encode
returns-clause-two_arguments c = refl

pub returns-clause-not_a_number : goal.returns-clause-not_a_number
unfolding chars is_utf8 encode
returns-clause-not_a_number c = refl

pub returns-clause-unknown_type : goal.returns-clause-unknown_type
unfolding chars is_utf8 encode
returns-clause-unknown_type c = refl

pub returns-clause-not_a_pair : goal.returns-clause-not_a_pair
unfolding chars is_utf8 encode
returns-clause-not_a_pair c = refl

pub returns-clause-key_twice : goal.returns-clause-key_twice
unfolding chars is_utf8 encode
returns-clause-key_twice c = refl

pub returns-clause-feature : goal.returns-clause-feature
unfolding chars is_utf8 encode
returns-clause-feature c = refl

pub returns-clause-left_out : goal.returns-clause-left_out
unfolding chars is_utf8 encode
returns-clause-left_out c = refl

pub returns-clause-no_tier : goal.returns-clause-no_tier
unfolding chars is_utf8 encode
returns-clause-no_tier c = refl

pub returns-clause-no_backend : goal.returns-clause-no_backend
unfolding chars is_utf8 encode
returns-clause-no_backend c = refl

pub returns-clause-no_credentials : goal.returns-clause-no_credentials
unfolding chars is_utf8 encode
returns-clause-no_credentials c = refl

pub returns-clause-lowest : goal.returns-clause-lowest
unfolding chars is_utf8 encode
returns-clause-lowest c = refl

pub returns-clause-seconds : goal.returns-clause-seconds
unfolding chars is_utf8 encode
returns-clause-seconds c = refl

pub returns-clause-not_an_oid : goal.returns-clause-not_an_oid
unfolding chars is_utf8 encode
returns-clause-not_an_oid c = refl

pub returns-clause-not_an_action : goal.returns-clause-not_an_action
unfolding chars is_utf8 encode
returns-clause-not_an_action c = refl

pub returns-clause-isolated : goal.returns-clause-isolated
unfolding chars is_utf8 encode
returns-clause-isolated c = refl
