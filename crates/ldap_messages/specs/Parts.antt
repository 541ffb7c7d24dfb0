-- The first element of some bytes, as it is lent.
use Rattle.std.specs.Prelude.{◌≡◌, List, ◌++◌, ℕ, Option, Some}
use Rattle.ldap_spec.specs.Elements.{Element}
use Rattle.ldap_messages.specs.declared.parts.Part.{Part}

-- this is the element
pub record IsFirst (o : Option Element) (p : Part) : Type 0 where
  pub octets : List ℕ
  pub is : o ≡ Some (record { tag = p.tag; contents = p.contents.now; octets = octets; behind = p.behind.now })

-- this is a part of the bytes
pub record IsPart (bytes part : List ℕ) : Type 0 where
  pub before : List ℕ
  pub after : List ℕ
  pub is : bytes ≡ before ++ (part ++ after)

-- the contents of the element, and what stands behind it, are parts of the bytes
pub record ArePartsOf (bytes : List ℕ) (p : Part) : Type 0 where
  pub contents : IsPart bytes p.contents.now
  pub behind : IsPart bytes p.behind.now
