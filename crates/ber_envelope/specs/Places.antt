-- Elements of the bytes of a slice, by their places.
use Rattle.std.specs.Prelude.{◌≡◌, ℕ, ◌+◌, ◌-◌, ◌≤◌, List, length, take, drop, Some}
use Rattle.ldap_spec.specs.Elements.{Element as Parsed, first_element}
use Rattle.ber_envelope.specs.declared.elements.Element.{Element}

-- the element that begins at a place, by its tag, and the places where its contents begin and end
abbrev pub element_between : List ℕ → ℕ → Element → Parsed
element_between bytes at e = record { tag = e.tag; contents = take (e.end - e.body_at) (drop e.body_at bytes); octets = take (e.end - at) (drop at bytes); behind = drop e.end bytes }

-- this is the element of the bytes that begins at the place
pub record IsElementAt (bytes : List ℕ) (at : ℕ) (e : Element) : Type 0 where
  pub first : first_element (drop at bytes) ≡ Some (element_between bytes at e)
  pub begins : at + 2 ≤ e.body_at
  pub ordered : e.body_at ≤ e.end
  pub within : e.end ≤ length bytes
