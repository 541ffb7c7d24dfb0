-- What is written of a control, and where it is put.
use Rattle.std.proofs.Common.{◌≡◌, ℕ, zero, suc, ◌+◌, ◌-◌, ◌/◌, ◌%◌, ◌≤◌, Bool, true, false, cond, ltb, List, [], ◌∷◌, ◌++◌, length, take, Option, Some, None, unwrap_or, ap, ◌∙◌, sym, arith, length-append}
use Rattle.std.proofs.lemmas.List.{take_at}
use Rattle.ldap_spec.specs.Tags.{octet_string, sequence}
use Rattle.ldap_spec.specs.Elements.{Element, first_element, shortest_length, shortest_octets_within, written}
use Rattle.ldap_spec.specs.Controls.{Control, list_with_first, with_first, written_control, written_critical, written_value}
use Rattle.ldap_spec.proofs.FirstElement.{octets_behind}
use Rattle.ldap_messages.specs.Parts.{IsPart}
use Rattle.ldap_controls.specs.Lists.{octets_of}

few_by : (b : Bool) (n k : ℕ) (xs : List ℕ) → length xs ≤ k → length (cond b (n ∷ []) (xs ++ n % 256 ∷ [])) ≤ suc k
few_by true n k xs h = omega arith
few_by false n k xs h = omega (arith, length-append xs (n % 256 ∷ []))

few_octets : (k n : ℕ) → length (shortest_octets_within k n) ≤ k
few_octets zero n = omega arith
few_octets (suc k) n = few_by (ltb n 256) n k (shortest_octets_within k (n / 256)) (few_octets k (n / 256))

few_digits : (b : Bool) (n : ℕ) (xs : List ℕ) → length xs ≤ 4 → length (cond b (n ∷ []) ((128 + length xs) ∷ xs)) ≤ 5
few_digits true n xs h = omega arith
few_digits false n xs h = omega arith

-- an element is at most so many octets longer than its contents
written_few : (tag : ℕ) (contents : List ℕ) → length (written tag contents) ≤ length contents + 6
written_few tag contents =
    omega (arith, few_digits (ltb (length contents) 128) (length contents) (shortest_octets_within 4 (length contents)) (few_octets 4 (length contents)), length-append (shortest_length (length contents)) contents)

critical_few : (b : Bool) → length (written_critical b) ≤ 3
critical_few true = omega arith
critical_few false = omega arith

value_few : (o : Option (List ℕ)) → length (written_value o) ≤ length (unwrap_or o []) + 6
value_few None = omega arith
value_few (Some v) = written_few octet_string v

-- a control is at most so many octets longer than its OID and its value
pub control_few : (c : Control) → length (written_control c) ≤ octets_of c + 21
control_few c =
    let fields : List ℕ = written_critical c.critical ++ written_value c.value in
    omega (
      arith,
      written_few sequence (written octet_string c.oid ++ fields),
      length-append (written octet_string c.oid) fields,
      length-append (written_critical c.critical) (written_value c.value),
      written_few octet_string c.oid,
      critical_few c.critical,
      value_few c.value,
    )

-- the octets of an element are those before what stands behind it
octets_before : (rest : List ℕ) (e : Element) → first_element rest ≡ Some e → take (length rest - length e.behind) rest ≡ e.octets
octets_before rest e h =
    let split = octets_behind rest e h in
    let size : length rest - length e.behind ≡ length e.octets = omega (arith, ap length split, length-append e.octets e.behind) in
    ap (λ (xs : List ℕ). take (length rest - length e.behind) xs) split ∙ take_at e.octets e.behind (length rest - length e.behind) (sym size)

abbrev put_from : Control → List ℕ → Option Element → List ℕ
put_from c rest o = elim o [ None ↦ rest | Some op ↦ op.octets ++ list_with_first c op.behind ]

-- behind the octets of the operation stands the list with the control first
pub put_first : (c : Control) (rest : List ℕ) (e : Element) → first_element rest ≡ Some e → take (length rest - length e.behind) rest ++ list_with_first c e.behind ≡ with_first c rest
put_first c rest e h = ap (λ (xs : List ℕ). xs ++ list_with_first c e.behind) (octets_before rest e h) ∙ sym (ap (put_from c rest) h)

-- a part has no more octets than the whole
pub part_few : (bytes part : List ℕ) → IsPart bytes part → length part ≤ length bytes
part_few bytes part p = omega (arith, ap length p.is, length-append p.before (part ++ p.after), length-append part p.after)
