-- A request that its first check refuses or answers has a kind.
use Rattle.std.proofs.Common.{◌≡◌, ℕ, suc, ◌+◌, Bool, true, false, ◌==◌, ◌&&◌, List, [], ◌∷◌, length, take, drop, refl, ap, ◌∙◌}
use Rattle.std.specs.Prelude.{Option, Some, None, is_some, nat_le, if◌then◌else◌}
use Rattle.ldap_spec.specs.Messages.{Message}
use Rattle.ldap_spec.specs.Kinds.{kind_of, kind_of_tag}
use Rattle.ldap_spec.specs.Elements.{Element, whole_element, length_of, is_tag, length_size, integer_of}
use Rattle.ldap_spec.specs.Requests.{Request, BindRequest, UnbindRequest, AbandonRequest, ExtendedRequest, PlainRequest, request, request_of, bind_fields, abandon_fields, extended_fields, plain_fields}
use Rattle.lload_names.specs.declared.names.OpKind.{OpKind}
use Rattle.lload_names.specs.declared.names.EndWhy.TheVariants.{ZeroId, IdInUse}
use Rattle.lload_spec.specs.Settings.{Settings}
use Rattle.lload_spec.specs.Entries.{makes_operation}
use Rattle.lload_spec.specs.FirstCheck.{Check, Ends, Refuses, Answers, Cancels, GoesOn, check_request, is_in_use}
use Rattle.part_spec.specs.ClientState.{ClientState, facts_of, check_at}
use Rattle.part_laws.proofs.ListLaws.{same_number}

-- whether a request is one of an operation
abbrev pub is_operation : Option Request → Bool
is_operation (Some (BindRequest version name method)) = true
is_operation (Some (ExtendedRequest name)) = true
is_operation (Some (PlainRequest kind)) = true
is_operation _ = false

element_kind : (e : Element) → is_operation (request_of e) ≡ true → is_some (kind_of_tag e.tag) ≡ true
element_kind e h = by (e.tag == 0x60) (e.tag == 0x42) (e.tag == 0x50) (e.tag == 0x77) refl refl h
  where
    of_tag : (t : ℕ) → is_some (kind_of_tag t) ≡ true → e.tag ≡ t → is_some (kind_of_tag e.tag) ≡ true
    of_tag t k j = ap (λ n. is_some (kind_of_tag n)) j ∙ k

    abandoned : {C : Type 0} (o : Option ℕ) → is_operation (abandon_fields o) ≡ true → C
    abandoned None k = absurd (let bad : false ≡ true = k in cc)
    abandoned (Some i) k = absurd (let bad : false ≡ true = k in cc)

    plain : (o : Option OpKind) → is_operation (plain_fields o) ≡ true → is_some o ≡ true
    plain None k = absurd (let bad : false ≡ true = k in cc)
    plain (Some kind) k = refl

    by : (a b x d : Bool) → (e.tag == 0x60) ≡ a → (e.tag == 0x77) ≡ d → is_operation (if a then bind_fields e.contents else if b then Some UnbindRequest else if x then abandon_fields (integer_of e.contents) else if d then extended_fields e.contents else plain_fields (kind_of_tag e.tag)) ≡ true → is_some (kind_of_tag e.tag) ≡ true
    by true b x d f g k = of_tag 0x60 refl (same_number e.tag 0x60 f)
    by false true x d f g k = absurd (let bad : false ≡ true = k in cc)
    by false false true d f g k = abandoned (integer_of e.contents) k
    by false false false true f g k = of_tag 0x77 refl (same_number e.tag 0x77 g)
    by false false false false f g k = plain (kind_of_tag e.tag) k

pub request_kind : (rest : List ℕ) → is_operation (request rest) ≡ true → is_some (kind_of rest) ≡ true
request_kind [] h = absurd (let bad : false ≡ true = h in cc)
request_kind (t ∷ []) h = absurd (let bad : false ≡ true = h in cc)
request_kind (t ∷ n ∷ xs) h = by (is_tag t) (length_of (take (length_size n) (n ∷ xs))) h
  where
    put : Option Element → Option Request
    put o = elim o [ None ↦ None | Some e ↦ request_of e ]

    whole : (size : ℕ) (b : Bool) → is_operation (put (if b then Some (record { tag = t; contents = take size (drop (suc (length_size n)) (t ∷ n ∷ xs)); octets = take (suc (length_size n) + size) (t ∷ n ∷ xs); behind = drop (suc (length_size n) + size) (t ∷ n ∷ xs) }) else None)) ≡ true → is_some (kind_of_tag t) ≡ true
    whole size true k = element_kind (record { tag = t; contents = take size (drop (suc (length_size n)) (t ∷ n ∷ xs)); octets = take (suc (length_size n) + size) (t ∷ n ∷ xs); behind = drop (suc (length_size n) + size) (t ∷ n ∷ xs) }) k
    whole size false k = absurd (let bad : false ≡ true = k in cc)

    by : (b : Bool) (o : Option ℕ) → is_operation (put (if b then whole_element t (suc (length_size n)) (t ∷ n ∷ xs) o else None)) ≡ true → is_some (kind_of_tag t) ≡ true
    by true None k = absurd (let bad : false ≡ true = k in cc)
    by true (Some size) k = whole size (nat_le (suc (length_size n) + size) (length (t ∷ n ∷ xs))) k
    by false o k = absurd (let bad : false ≡ true = k in cc)

-- whether a check is of a request that has a kind: it is answered, or goes on
abbrev pub has_its_kind : Check → Bool
has_its_kind (Refuses which) = true
has_its_kind (Answers which) = true
has_its_kind (Cancels id kind) = true
has_its_kind GoesOn = true
has_its_kind _ = false

pub answered_kind : (s : Settings) (p : ClientState) (m : Message) → has_its_kind (check_at s p m) ≡ true → is_some (kind_of m.rest) ≡ true
answered_kind s p m h = by (m.id == 0) (makes_operation m && is_in_use (facts_of p) m.id) (request m.rest) refl h
  where
    by : (z b : Bool) (o : Option Request) → request m.rest ≡ o → has_its_kind (if z then Ends ZeroId else if b then Ends IdInUse else check_request s (facts_of p) m o) ≡ true → is_some (kind_of m.rest) ≡ true
    by true b o e k = absurd (let bad : false ≡ true = k in cc)
    by false true o e k = absurd (let bad : false ≡ true = k in cc)
    by false false None e k = absurd (let bad : false ≡ true = k in cc)
    by false false (Some UnbindRequest) e k = absurd (let bad : false ≡ true = k in cc)
    by false false (Some (AbandonRequest i)) e k = absurd (let bad : false ≡ true = k in cc)
    by false false (Some (BindRequest version name method)) e k = request_kind m.rest (ap is_operation e)
    by false false (Some (ExtendedRequest name)) e k = request_kind m.rest (ap is_operation e)
    by false false (Some (PlainRequest kind)) e k = request_kind m.rest (ap is_operation e)
