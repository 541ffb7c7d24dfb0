-- Lengths and elements at the front of some bytes.
use Rattle.std.proofs.Common.{◌≡◌, ℕ, zero, suc, ◌+◌, ◌-◌, ◌%◌, ◌<◌, ◌≤◌, Bool, true, false, cond, ◌&&◌, ltb, eqb, List, [], ◌∷◌, length, take, drop, Option, Some, None, is_some, refl, ap, ◌∙◌, sym, arith, ◌⊎◌, length-take, length-drop, drop-drop}
use Rattle.std.proofs.lemmas.Bool.{lt-ltb, eq-eqb}
use Rattle.std.proofs.lemmas.Bool.Decides.{nat_tests}
use Rattle.std.proofs.lemmas.List.{take_all}
use Rattle.ldap_spec.specs.Elements.{Element as Parsed, number_of, length_of, length_size, is_tag, first_element, elements, whole_element}
use Rattle.ldap_spec.specs.Streams.{bad_element}
use Rattle.ldap_spec.proofs.ElementLists.{are_elements_first, bad_first}
use Rattle.ldap_spec.proofs.Cases.{keeps}
use Rattle.ldap_spec.proofs.FirstElement.{element_of, first_made}
use Rattle.ber_envelope.specs.declared.elements.Element.{Element}
use Rattle.ber_envelope.specs.declared.lengths.Length.TheVariants.{Whole}
use Rattle.ber_envelope.specs.Lengths.{size_at_front, IsLength}
use Rattle.ber_envelope.specs.Places.{IsElementAt, element_between}

both : {a b : Bool} → a ≡ true → b ≡ true → (a && b) ≡ true
both {a} {b} h k = rw (h, k) refl

nothing : {A : Type 0} (b : Bool) (o : Option A) → o ≡ None → cond b o None ≡ None
nothing true o h = h
nothing false o h = refl

-- an octet below 128 is a length
pub short_whole : (n : ℕ) (xs : List ℕ) → n < 128 → length_of (take 1 (n ∷ xs)) ≡ Some n
short_whole n xs h = grind (arith, nat_tests)

pub short_size : (n : ℕ) → n < 128 → length_size n ≡ 1
short_size n h = grind (arith, nat_tests)

-- one that says how many octets follow it
pub long_size : (k : ℕ) → 1 ≤ k → k ≤ 4 → length_size (128 + k) ≡ 1 + k
long_size k a b = grind (arith, nat_tests)

pub long_whole : (k : ℕ) (xs : List ℕ) → 1 ≤ k → k ≤ 4 → k ≤ length xs → length_of (take (1 + k) ((128 + k) ∷ xs)) ≡ Some (number_of (take k xs))
long_whole zero xs a b h = absurd (omega arith)
long_whole (suc k) [] a b h = absurd (omega arith)
long_whole (suc k) (x ∷ xs) a b h =
    let few : length (take k xs) ≡ k = omega (arith, length-take k xs) in
    let above : ltb 128 (128 + suc k) ≡ true = lt-ltb 128 (128 + suc k) (omega arith) in
    let counted : eqb (length_size (128 + suc k)) (suc (suc (length (take k xs)))) ≡ true = eq-eqb _ _ (omega (arith, long_size (suc k) a b)) in
    let size : 1 + suc k ≡ suc (suc k) = omega arith in
    rw size (keeps (ltb 128 (128 + suc k) && eqb (length_size (128 + suc k)) (suc (suc (length (take k xs))))) (number_of (x ∷ take k xs)) (both above counted))

-- any other begins no length
pub unread_size : (n : ℕ) → (n ≡ 128) ⊎ (132 < n) → length_size n ≡ 0
unread_size n h = grind (arith, nat_tests)

-- octets that are too few for a length spell none
pub too_few : (bytes : List ℕ) → length bytes < size_at_front bytes → length_of bytes ≡ None
too_few [] h = refl
too_few (n ∷ []) h = grind (arith, nat_tests)
too_few (n ∷ x ∷ xs) h = grind (arith, nat_tests)

-- no element begins where no length is whole behind the tag
pub unsized : (tag : ℕ) (behind : List ℕ) → length_of (take (size_at_front behind) behind) ≡ None → first_element (tag ∷ behind) ≡ None
unsized tag [] h = refl
unsized tag (n ∷ xs) h = nothing (is_tag tag) _ (ap (whole_element tag (suc (length_size n)) (tag ∷ n ∷ xs)) h)

-- nor behind an octet that is no tag
pub untagged : (tag : ℕ) (behind : List ℕ) → is_tag tag ≡ false → first_element (tag ∷ behind) ≡ None
untagged tag [] h = refl
untagged tag (n ∷ xs) h = rw h refl

-- a shorter list is taken whole
pub no_length : (behind : List ℕ) → length behind < size_at_front behind → length_of (take (size_at_front behind) behind) ≡ None
no_length behind h = rw (take_all (size_at_front behind) behind (omega arith)) (too_few behind h)

-- the element whose contents begin and end at these places
between : (bytes : List ℕ) (at before value tag body_at end : ℕ) → body_at ≡ at + before → end ≡ body_at + value →
    element_of tag before value (drop at bytes) ≡ element_between bytes at (record { tag = tag; body_at = body_at; end = end })
between bytes at before value tag body_at end b e =
    let contents : take value (drop before (drop at bytes)) ≡ take (end - body_at) (drop body_at bytes) = rw (drop-drop before at bytes, b) (ap (λ (n : ℕ). take n (drop (at + before) bytes)) (omega arith)) in
    let octets : take (before + value) (drop at bytes) ≡ take (end - at) (drop at bytes) = ap (λ (n : ℕ). take n (drop at bytes)) (omega arith) in
    let behind : drop (before + value) (drop at bytes) ≡ drop end bytes = drop-drop (before + value) at bytes ∙ ap (λ (n : ℕ). drop n bytes) (omega arith) in
    let made : List ℕ → List ℕ → List ℕ → Parsed = λ c o d. record { tag = tag; contents = c; octets = o; behind = d } in
    ap (λ (c : List ℕ). made c (take (before + value) (drop at bytes)) (drop (before + value) (drop at bytes))) contents
    ∙ (ap (λ (o : List ℕ). made (take (end - body_at) (drop body_at bytes)) o (drop (before + value) (drop at bytes))) octets
    ∙ ap (λ (d : List ℕ). made (take (end - body_at) (drop body_at bytes)) (take (end - at) (drop at bytes)) d) behind)

-- the element behind a tag and a whole length
pub element_made : (bytes : List ℕ) (at tag size value : ℕ) (behind : List ℕ) → drop at bytes ≡ tag ∷ behind → is_tag tag ≡ true → IsLength behind (Whole size value) → at + 1 + size + value ≤ length bytes →
    IsElementAt bytes at (record { tag = tag; body_at = at + 1 + size; end = at + 1 + size + value })
element_made bytes at tag size value [] d t l w = absurd (omega (arith, l.0, l.1))
element_made bytes at tag size value (n ∷ xs) d t l w =
    let long : length bytes - at ≡ suc (suc (length xs)) = sym (length-drop at bytes) ∙ ap length d in
    let sized : length_of (take (length_size n) (n ∷ xs)) ≡ Some value = rw l.2 l.3 in
    let made : first_element (tag ∷ n ∷ xs) ≡ Some (element_of tag (suc (length_size n)) value (tag ∷ n ∷ xs)) = first_made tag n value xs t sized (omega (arith, l.2)) in
    record {
      first = ap first_element d ∙ (made ∙ (ap (λ (b : List ℕ). Some (element_of tag (suc (length_size n)) value b)) (sym d) ∙ ap Some (between bytes at (suc (length_size n)) value tag (at + 1 + size) (at + 1 + size + value) (omega (arith, l.2)) (omega arith))));
      begins = omega (arith, l.0);
      ordered = omega arith;
      within = w;
    }

pub is_tag-other : (tag : ℕ) → (tag % 32 ≡ 31 → ⊥) → is_tag tag ≡ true
is_tag-other tag h = grind (arith, nat_tests)

-- whether the bytes from a place on are whole elements, behind one of them
pub read_next : (bytes : List ℕ) (at : ℕ) (e : Element) → IsElementAt bytes at e → is_some (elements (drop at bytes)) ≡ is_some (elements (drop e.end bytes))
read_next bytes at e h = are_elements_first (drop at bytes) (element_between bytes at e) h.first

-- the place of the first that can't be read, behind one that can
pub place_next : (bytes : List ℕ) (at : ℕ) (e : Element) → IsElementAt bytes at e →
    at + bad_element (length (drop at bytes)) (drop at bytes) ≡ e.end + bad_element (length (drop e.end bytes)) (drop e.end bytes)
place_next bytes at e h =
    let octets : length (take (e.end - at) (drop at bytes)) ≡ e.end - at = omega (arith, length-take (e.end - at) (drop at bytes), length-drop at bytes, h.begins, h.ordered, h.within) in
    omega (arith, bad_first (drop at bytes) (element_between bytes at e) h.first, octets, h.begins, h.ordered)
