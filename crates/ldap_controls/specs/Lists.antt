-- Controls as they are lent, and as the definitions have them.
use Rattle.std.specs.Prelude.{◌≡◌, ℕ, ◌+◌, ◌<◌, List, [], ◌∷◌, length, Option, Some, None, unwrap_or}
use Rattle.std.specs.Option.{option_copied}
use Rattle.ldap_spec.specs.Controls.{Control as ControlRead, listed_controls}
use Rattle.ldap_controls.specs.declared.lists.Control.{Control}

-- the control that a lent one is
abbrev pub control_view : Control → ControlRead
control_view c = record { oid = c.oid.now; critical = c.critical; value = option_copied c.value }

-- the controls in contents of a list that can be read
abbrev pub listed : List ℕ → List ControlRead
listed contents = unwrap_or (listed_controls contents) []

-- a list with a control in front, where the list can be read
abbrev pub with_control : ControlRead → Option (List ControlRead) → Option (List ControlRead)
with_control c o = elim o [ None ↦ None | Some cs ↦ Some (c ∷ cs) ]

-- contents that begin with a control, and others behind it
pub record BeginsWith (contents : List ℕ) (c : ControlRead) (behind : List ℕ) : Type 0 where
  pub is : listed_controls contents ≡ with_control c (listed_controls behind)
  pub shorter : length behind < length contents

-- the controls in contents that begin with none: there are none, or they can't be read
abbrev pub nothing_listed : List ℕ → Option (List ControlRead)
nothing_listed [] = Some []
nothing_listed (x ∷ xs) = None

-- the octets of a control beside those that are written for every one
abbrev pub octets_of : ControlRead → ℕ
octets_of c = length c.oid + length (unwrap_or c.value [])
