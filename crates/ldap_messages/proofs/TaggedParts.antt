-- The first element with a tag, among those of some bytes.
use Rattle.std.proofs.Common.{◌≡◌, ◌==◌, ℕ, zero, suc, ◌≤◌, Bool, true, false, eqb, List, [], ◌∷◌, ◌++◌, length, Option, Some, None, refl, ap, ◌∙◌, sym, arith, length-append}
use Rattle.std.proofs.lemmas.Bool.Decides.{nat_tests}
use Rattle.ldap_spec.specs.Elements.{Element, first_element}
use Rattle.ldap_spec.specs.Responses.{find_tagged, contents_of, who_value}
use Rattle.ldap_spec.proofs.ElementLists.{shorter}
use Rattle.ldap_spec.proofs.Splits.{split_of}

-- what is found behind the first
abbrev behind_first : ℕ → ℕ → Element → Bool → Option (List ℕ)
behind_first tag k e b = elim b [ true ↦ Some e.contents | false ↦ find_tagged tag k e.behind ]

abbrev from_first : ℕ → ℕ → Option Element → Option (List ℕ)
from_first tag k o = elim o [ None ↦ None | Some e ↦ elim (e.tag == tag) [ true ↦ Some e.contents | false ↦ find_tagged tag k e.behind ] ]

behind_same : (tag k j : ℕ) (e : Element) (b : Bool) → find_tagged tag k e.behind ≡ find_tagged tag j e.behind → behind_first tag k e b ≡ behind_first tag j e b
behind_same tag k j e true h = refl
behind_same tag k j e false h = h

from_same : (tag k j : ℕ) (o : Option Element) → ((e : Element) → o ≡ Some e → find_tagged tag k e.behind ≡ find_tagged tag j e.behind) → from_first tag k o ≡ from_first tag j o
from_same tag k j None h = refl
from_same tag k j (Some e) h = behind_same tag k j e (eqb e.tag tag) (h e refl)

-- what is found doesn't depend on the count, where that is no less than the length
find_enough : (tag k j : ℕ) (bytes : List ℕ) → length bytes ≤ k → length bytes ≤ j → find_tagged tag k bytes ≡ find_tagged tag j bytes
find_enough tag zero zero bytes a b = refl
find_enough tag zero (suc j) [] a b = refl
find_enough tag (suc k) zero [] a b = refl
find_enough tag zero (suc j) (x ∷ xs) a b = absurd (omega arith)
find_enough tag (suc k) zero (x ∷ xs) a b = absurd (omega arith)
find_enough tag (suc k) (suc j) bytes a b = from_same tag k j (first_element bytes)
    (λ e h. find_enough tag k j e.behind (omega (arith, (shorter bytes e h).0, (shorter bytes e h).1)) (omega (arith, (shorter bytes e h).0, (shorter bytes e h).1)))

other : (tag k : ℕ) (e : Element) (b : Bool) → b ≡ false → behind_first tag k e b ≡ find_tagged tag k e.behind
other tag k e true h = absurd (cc)
other tag k e false h = refl

differs : (m n : ℕ) → (m ≡ n → ⊥) → eqb m n ≡ false
differs m n h = grind (arith, nat_tests)

-- behind an element with another tag
pub find_next : (tag : ℕ) (bytes : List ℕ) (e : Element) → first_element bytes ≡ Some e → (e.tag ≡ tag → ⊥) → find_tagged tag (length bytes) bytes ≡ find_tagged tag (length e.behind) e.behind
find_next tag [] e h d = absurd (cc)
find_next tag (x ∷ xs) e h d =
    let s = shorter (x ∷ xs) e h in
    ap (from_first tag (length xs)) h ∙ (other tag (length xs) e (eqb e.tag tag) (differs e.tag tag d) ∙ find_enough tag (length xs) (length e.behind) e.behind (omega (arith, s.0, s.1)) (omega arith))

abbrev contents_from : Option Element → List ℕ
contents_from o = elim o [ None ↦ [] | Some e ↦ e.contents ]

-- in the contents of the first element
pub who_first : (rest : List ℕ) (e : Element) → first_element rest ≡ Some e → find_tagged 0x8B (length e.contents) e.contents ≡ who_value rest
who_first rest e h =
    let s = split_of rest e h in
    let small : length e.contents ≤ length rest = omega (arith, ap length s.spelled, length-append s.size (e.contents ++ e.behind), length-append e.contents e.behind) in
    let contents : contents_of rest ≡ e.contents = ap contents_from h in
    find_enough 0x8B (length e.contents) (length rest) e.contents (omega arith) small ∙ ap (find_tagged 0x8B (length rest)) (sym contents)
