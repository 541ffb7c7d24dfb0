-- Which messages have no effect.
use Rattle.std.specs.Prelude.{ℕ, Bool, ◌==◌, ◌&&◌, ◌||◌, nat_lt, List}
use Rattle.ldap_spec.specs.Tags.{extended_response}
use Rattle.ldap_spec.specs.Kinds.{is_response, tag_of}

-- whether a message that is under nothing that waits is dropped: an extended response under 0, or a response under an
-- identifier that was given
abbrev pub is_dropped : ℕ → ℕ → List ℕ → Bool
is_dropped next id rest =
    (id == 0 && tag_of rest == extended_response) || ((nat_lt 0 id && nat_lt id next) && is_response rest)
