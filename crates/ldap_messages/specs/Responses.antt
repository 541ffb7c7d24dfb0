-- Kinds of responses, as they are told.
use Rattle.std.specs.Prelude.{◌≡◌, ℕ, Bool, true, IsTrue, List}
use Rattle.ldap_spec.specs.Kinds.{same_kind, tag_of, is_final, is_intermediate}
use Rattle.lload_names.specs.declared.names.OpKind.{OpKind}
use Rattle.lload_names.specs.declared.names.OpKind.TheVariants.{Search}
use Rattle.ldap_messages.specs.declared.responses.ResponseKind.{ResponseKind}
use Rattle.ldap_messages.specs.declared.responses.ResponseKind.TheVariants.{Entry, Reference, Intermediate, Final}

-- the rest is a response of this kind (RFC 4511, 4.5.2: an entry has the tag 64, a reference 73)
abbrev pub IsResponse : List ℕ → ResponseKind → Type 0
IsResponse rest Entry = tag_of rest ≡ 0x64
IsResponse rest Reference = tag_of rest ≡ 0x73
IsResponse rest Intermediate = IsTrue (is_intermediate rest)
IsResponse rest (Final kind) = IsTrue (is_final kind rest)

-- whether a response of this kind may answer a request of that
abbrev pub fits_kind : OpKind → ResponseKind → Bool
fits_kind asked Entry = same_kind asked Search
fits_kind asked Reference = same_kind asked Search
fits_kind asked Intermediate = true
fits_kind asked (Final answered) = same_kind asked answered
