-- What is no Abandon, or no Unbind, by its tag is none by its fields.
use Rattle.std.proofs.Common.{◌≡◌, ℕ, suc, ◌+◌, Bool, true, false, ◌==◌, List, [], ◌∷◌, length, take, drop, refl, ◌∙◌, sym}
use Rattle.std.specs.Prelude.{Option, Some, None, nat_le, if◌then◌else◌}
use Rattle.ldap_spec.specs.Kinds.{kind_of_tag, is_abandon, is_unbind}
use Rattle.ldap_spec.specs.Elements.{Element, first_element, whole_element, length_of, is_tag, length_size, first_tagged, integer_of}
use Rattle.ldap_spec.specs.Requests.{Request, Method, BindRequest, UnbindRequest, AbandonRequest, ExtendedRequest, PlainRequest, request, request_of, method_of, bind_of, bind_fields, abandon_fields, extended_fields, plain_fields}
use Rattle.lload_names.specs.declared.names.OpKind.{OpKind}
use Rattle.lload_spec.specs.Operations.{abandons_id}

-- a test that only Unbind and Abandon may pass
module _ (q : Option Request → Bool) (none : q None ≡ false) (bind : (v : ℕ) (name : List ℕ) (m : Method) → q (Some (BindRequest v name m)) ≡ false) (extended : (name : List ℕ) → q (Some (ExtendedRequest name)) ≡ false) (plain : (kind : OpKind) → q (Some (PlainRequest kind)) ≡ false) where
  bind_fails : (contents : List ℕ) → q (bind_fields contents) ≡ false
  bind_fails contents = first (first_tagged 0x02 contents)
    where
      method : (version : ℕ) (name : List ℕ) (o : Option Method) → q (elim o [ None ↦ None | Some m ↦ Some (BindRequest version name m) ]) ≡ false
      method version name None = none
      method version name (Some m) = bind version name m

      fields : (v : Option ℕ) (name : List ℕ) (o : Option Element) → q (bind_of v name o) ≡ false
      fields None name o = none
      fields (Some version) name None = none
      fields (Some version) name (Some e) = method version name (method_of e)

      second : (v : Element) (o : Option Element) → q (elim o [ None ↦ None | Some n ↦ bind_of (integer_of v.contents) n.contents (first_element n.behind) ]) ≡ false
      second v None = none
      second v (Some n) = fields (integer_of v.contents) n.contents (first_element n.behind)

      first : (o : Option Element) → q (elim o [ None ↦ None | Some v ↦ elim (first_tagged 0x04 v.behind) [ None ↦ None | Some n ↦ bind_of (integer_of v.contents) n.contents (first_element n.behind) ] ]) ≡ false
      first None = none
      first (Some v) = second v (first_tagged 0x04 v.behind)

  element_fails : (e : Element) → ((e.tag == 0x42) ≡ true → q (Some UnbindRequest) ≡ false) → ((e.tag == 0x50) ≡ true → (i : ℕ) → q (Some (AbandonRequest i)) ≡ false) → q (request_of e) ≡ false
  element_fails e unbind abandon = by (e.tag == 0x60) (e.tag == 0x42) (e.tag == 0x50) (e.tag == 0x77) unbind abandon
    where
      named : (o : Option Element) → q (elim o [ None ↦ None | Some n ↦ Some (ExtendedRequest n.contents) ]) ≡ false
      named None = none
      named (Some n) = extended n.contents

      other : (o : Option OpKind) → q (plain_fields o) ≡ false
      other None = none
      other (Some kind) = plain kind

      abandoned : (o : Option ℕ) → ((i : ℕ) → q (Some (AbandonRequest i)) ≡ false) → q (abandon_fields o) ≡ false
      abandoned None f = none
      abandoned (Some i) f = f i

      by : (a b x d : Bool) → (b ≡ true → q (Some UnbindRequest) ≡ false) → (x ≡ true → (i : ℕ) → q (Some (AbandonRequest i)) ≡ false) → q (if a then bind_fields e.contents else if b then Some UnbindRequest else if x then abandon_fields (integer_of e.contents) else if d then extended_fields e.contents else plain_fields (kind_of_tag e.tag)) ≡ false
      by true b x d f g = bind_fails e.contents
      by false true x d f g = f refl
      by false false true d f g = abandoned (integer_of e.contents) (g refl)
      by false false false true f g = named (first_tagged 0x80 e.contents)
      by false false false false f g = other (kind_of_tag e.tag)

  pub request_fails : (rest : List ℕ) → (is_unbind rest ≡ true → q (Some UnbindRequest) ≡ false) → (is_abandon rest ≡ true → (i : ℕ) → q (Some (AbandonRequest i)) ≡ false) → q (request rest) ≡ false
  request_fails [] unbind abandon = none
  request_fails (t ∷ []) unbind abandon = none
  request_fails (t ∷ n ∷ xs) unbind abandon = by (is_tag t) (length_of (take (length_size n) (n ∷ xs)))
    where
      put : Option Element → Option Request
      put o = elim o [ None ↦ None | Some e ↦ request_of e ]

      whole : (size : ℕ) (b : Bool) → q (put (if b then Some (record { tag = t; contents = take size (drop (suc (length_size n)) (t ∷ n ∷ xs)); octets = take (suc (length_size n) + size) (t ∷ n ∷ xs); behind = drop (suc (length_size n) + size) (t ∷ n ∷ xs) }) else None)) ≡ false
      whole size true = element_fails (record { tag = t; contents = take size (drop (suc (length_size n)) (t ∷ n ∷ xs)); octets = take (suc (length_size n) + size) (t ∷ n ∷ xs); behind = drop (suc (length_size n) + size) (t ∷ n ∷ xs) }) unbind abandon
      whole size false = none

      by : (b : Bool) (o : Option ℕ) → q (put (if b then whole_element t (suc (length_size n)) (t ∷ n ∷ xs) o else None)) ≡ false
      by true None = none
      by true (Some size) = whole size (nat_le (suc (length_size n) + size) (length (t ∷ n ∷ xs)))
      by false o = none

-- no Abandon names an identifier
pub request_names_none : (i : ℕ) (rest : List ℕ) → is_abandon rest ≡ false → abandons_id i (request rest) ≡ false
request_names_none i rest h = request_fails (abandons_id i) refl (λ v name m. refl) (λ name. refl) (λ kind. refl) rest (λ e. refl) (λ e j. absurd (let bad : true ≡ false = sym e ∙ h in cc))

-- and no request is an Unbind
abbrev pub is_unbind_request : Option Request → Bool
is_unbind_request (Some UnbindRequest) = true
is_unbind_request _ = false

pub request_is_no_unbind : (rest : List ℕ) → is_unbind rest ≡ false → is_unbind_request (request rest) ≡ false
request_is_no_unbind rest h = request_fails is_unbind_request refl (λ v name m. refl) (λ name. refl) (λ kind. refl) rest (λ e. absurd (let bad : true ≡ false = sym e ∙ h in cc)) (λ e j. refl)
