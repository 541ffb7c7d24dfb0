-- What a message tells of the request that it is under.
use Rattle.std.specs.Prelude.{ℕ, true, false, ◌==◌, List}
use Rattle.ldap_spec.specs.Tags.{success, bind_response}
use Rattle.ldap_spec.specs.Kinds.{fits, is_final, tag_of}
use Rattle.ldap_spec.specs.Responses.{has_code}
use Rattle.lload_names.specs.declared.names.OpKind.{OpKind}
use Rattle.upstream_conn.specs.declared.told.Told.{Told}
use Rattle.upstream_conn.specs.declared.told.Told.TheVariants.{Unfit, More, Last}
use Rattle.upstream_conn.specs.declared.told.OwnTold.{OwnTold}
use Rattle.upstream_conn.specs.declared.told.OwnTold.TheVariants as own

-- of an operation: it can't answer one of this kind, it is one of its answers, or the last
abbrev pub told_of : OpKind → List ℕ → Told
told_of kind rest = elim (fits kind rest) [ false ↦ Unfit | true ↦ elim (is_final kind rest) [ true ↦ Last | false ↦ More ] ]

-- of the own Bind: it can't answer it, its success, or another result
abbrev pub own_told : List ℕ → OwnTold
own_told rest =
    elim (tag_of rest == bind_response) [
      | false ↦ own.Unfit
      | true ↦ elim (has_code success rest) [ true ↦ own.Success | false ↦ own.Refused ]
    ]
