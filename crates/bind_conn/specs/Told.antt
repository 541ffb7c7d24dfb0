-- What a message tells of the Bind, or of the Who Am I, that it is under.
use Rattle.std.specs.Prelude.{ℕ, Bool, true, false, ◌==◌, ◌&&◌, List, Option, Some, None}
use Rattle.ldap_spec.specs.Tags.{success, bind_in_progress, extended_response}
use Rattle.ldap_spec.specs.Kinds.{is_final, is_intermediate, tag_of}
use Rattle.ldap_spec.specs.Responses.{result_code, tells_who}
use Rattle.lload_names.specs.declared.names.OpKind.TheVariants.{Bind}
use Rattle.bind_conn.specs.declared.told.Told.{Told}
use Rattle.bind_conn.specs.declared.told.Told.TheVariants.{Unfit, More, Going, Success, Done}
use Rattle.bind_conn.specs.declared.told.WhoTold.{WhoTold}
use Rattle.bind_conn.specs.declared.told.WhoTold.TheVariants as who

-- by its result code
abbrev pub by_code : Bool → ℕ → Told
by_code asks code =
    elim (code == bind_in_progress) [
      | true ↦ Going
      | false ↦ elim (asks && code == success) [ true ↦ Success | false ↦ Done ]
    ]

-- where it can be read
abbrev pub by_result : Bool → Option ℕ → Told
by_result asks None = Unfit
by_result asks (Some code) = by_code asks code

-- by whether it is an intermediate response or the final one, and its result
abbrev pub told_by : Bool → Bool → Bool → Option ℕ → Told
told_by asks part final result =
    elim part [ true ↦ More | false ↦ elim final [ false ↦ Unfit | true ↦ by_result asks result ] ]

-- of a Bind, whose identity is asked for or not
abbrev pub told_of : Bool → List ℕ → Told
told_of asks rest = told_by asks (is_intermediate rest) (is_final Bind rest) (result_code rest)

-- of a Who Am I
abbrev pub who_by : Bool → Bool → Bool → WhoTold
who_by part extended tells =
    elim part [
      | true ↦ who.More
      | false ↦ elim extended [ false ↦ who.Unfit | true ↦ elim tells [ true ↦ who.Tells | false ↦ who.Refuses ] ]
    ]

abbrev pub who_told : List ℕ → WhoTold
who_told rest = who_by (is_intermediate rest) (tag_of rest == extended_response) (tells_who rest)
