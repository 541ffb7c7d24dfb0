-- A Bind of another version than 3 is refused for it, or ends its client.
use Rattle.std.proofs.Common.{◌≡◌, ◌⊎◌, inl, inr, ℕ, suc, ◌+◌, Bool, true, false, ◌==◌, ◌&&◌, not, List, [], ◌∷◌, length, take, drop, refl, ap}
use Rattle.std.specs.Prelude.{Option, Some, None, nat_le, if◌then◌else◌}
use Rattle.ldap_spec.specs.Elements.{Element, first_tagged, is_tag, length_of, length_size, whole_element, integer_of}
use Rattle.ldap_spec.specs.Kinds.{kind_of, kind_of_tag, same_kind}
use Rattle.ldap_spec.specs.Messages.{Message}
use Rattle.ldap_spec.specs.Requests.{Request, BindRequest, UnbindRequest, AbandonRequest, ExtendedRequest, PlainRequest, abandon_fields, bind_fields, extended_fields, plain_fields, request, request_of}
use Rattle.lload_names.specs.declared.names.EndWhy.{EndWhy}
use Rattle.lload_names.specs.declared.names.EndWhy.TheVariants.{IdInUse, ZeroId}
use Rattle.lload_names.specs.declared.names.OpKind.{OpKind}
use Rattle.lload_names.specs.declared.names.OpKind.TheVariants.{Add, Bind, Compare, Delete, Extended, Modify, ModifyDn, Search}
use Rattle.lload_names.specs.declared.names.Refusal.TheVariants.{C11}
use Rattle.lload_spec.specs.CausedUp.{has_other_version}
use Rattle.lload_spec.specs.Entries.{makes_operation}
use Rattle.lload_spec.specs.FirstCheck.{Check, Ends, GoesOn, Refuses, check_request, is_in_use}
use Rattle.lload_spec.specs.Lists.{passes}
use Rattle.lload_spec.specs.Settings.{Settings}
use Rattle.part_spec.specs.ClientState.{ClientState, check_at, facts_of}

abandon_reads : (o : Option ℕ) → passes has_other_version (abandon_fields o) ≡ true → false ≡ true
abandon_reads None h = h
abandon_reads (Some id) h = h

extended_reads : (xs : List ℕ) → passes has_other_version (extended_fields xs) ≡ true → false ≡ true
extended_reads xs h = by (first_tagged 0x80 xs) h
  where
    by : (o : Option Element) → passes has_other_version (elim o [ None ↦ None | Some n ↦ Some (ExtendedRequest n.contents) ]) ≡ true → false ≡ true
    by None k = k
    by (Some n) k = k

plain_reads : (o : Option OpKind) → passes has_other_version (plain_fields o) ≡ true → false ≡ true
plain_reads None h = h
plain_reads (Some sort) h = h

-- the rest begins with the tag of a Bind
pub other_version_bind : (rest : List ℕ) → passes has_other_version (request rest) ≡ true → passes (same_kind Bind) (kind_of rest) ≡ true
other_version_bind [] h = absurd (let bad : false ≡ true = h in cc)
other_version_bind (t ∷ []) h = absurd (let bad : false ≡ true = h in cc)
other_version_bind (t ∷ n ∷ xs) h = by (is_tag t) (length_of (take (length_size n) (n ∷ xs))) h
  where
    put : Option Element → Option Request
    put o = elim o [ None ↦ None | Some e ↦ request_of e ]

    bound : (a : Bool) → (t == 0x60) ≡ a → a ≡ true → passes (same_kind Bind) (kind_of_tag t) ≡ true
    bound true e k = ap (λ d. passes (same_kind Bind) (if d then Some Bind else if t == 0x63 then Some Search else if t == 0x66 then Some Modify else if t == 0x68 then Some Add else if t == 0x4a then Some Delete else if t == 0x6c then Some ModifyDn else if t == 0x6e then Some Compare else if t == 0x77 then Some Extended else None)) e
    bound false e k = absurd (let bad : false ≡ true = k in cc)

    of_tag : (e : Element) (a b d f : Bool) → passes has_other_version (if a then bind_fields e.contents else if b then Some UnbindRequest else if d then abandon_fields (integer_of e.contents) else if f then extended_fields e.contents else plain_fields (kind_of_tag e.tag)) ≡ true → a ≡ true
    of_tag e true b d f k = refl
    of_tag e false true d f k = k
    of_tag e false false true f k = abandon_reads (integer_of e.contents) k
    of_tag e false false false true k = extended_reads e.contents k
    of_tag e false false false false k = plain_reads (kind_of_tag e.tag) k

    element : ℕ → Element
    element size = record { tag = t; contents = take size (drop (suc (length_size n)) (t ∷ n ∷ xs)); octets = take (suc (length_size n) + size) (t ∷ n ∷ xs); behind = drop (suc (length_size n) + size) (t ∷ n ∷ xs) }

    whole : (size : ℕ) (b : Bool) → passes has_other_version (put (if b then Some (element size) else None)) ≡ true → passes (same_kind Bind) (kind_of_tag t) ≡ true
    whole size true k = bound (t == 0x60) refl (of_tag (element size) (t == 0x60) (t == 0x42) (t == 0x50) (t == 0x77) k)
    whole size false k = absurd (let bad : false ≡ true = k in cc)

    by : (b : Bool) (o : Option ℕ) → passes has_other_version (put (if b then whole_element t (suc (length_size n)) (t ∷ n ∷ xs) o else None)) ≡ true → passes (same_kind Bind) (kind_of_tag t) ≡ true
    by true None k = absurd (let bad : false ≡ true = k in cc)
    by true (Some size) k = whole size (nat_le (suc (length_size n) + size) (length (t ∷ n ∷ xs))) k
    by false o k = absurd (let bad : false ≡ true = k in cc)

-- what the first check does with it
pub other_version_check : (s : Settings) (p : ClientState) (m : Message) → passes has_other_version (request m.rest) ≡ true → ((why : EndWhy) × (check_at s p m ≡ Ends why)) ⊎ (check_at s p m ≡ Refuses C11)
other_version_check s p m h = by (m.id == 0) (makes_operation m && is_in_use (facts_of p) m.id) (request m.rest) h
  where
    checked : Bool → Bool → Option Request → Check
    checked z b o = if z then Ends ZeroId else if b then Ends IdInUse else check_request s (facts_of p) m o

    version_is : (b : Bool) → not b ≡ true → (if b then GoesOn else Refuses C11) ≡ Refuses C11
    version_is true k = absurd (let bad : false ≡ true = k in cc)
    version_is false k = refl

    by : (z b : Bool) (o : Option Request) → passes has_other_version o ≡ true → ((why : EndWhy) × (checked z b o ≡ Ends why)) ⊎ (checked z b o ≡ Refuses C11)
    by true b o k = inl (ZeroId, refl)
    by false true o k = inl (IdInUse, refl)
    by false false None k = absurd (let bad : false ≡ true = k in cc)
    by false false (Some (BindRequest version name method)) k = inr (version_is (version == 3) k)
    by false false (Some UnbindRequest) k = absurd (let bad : false ≡ true = k in cc)
    by false false (Some (AbandonRequest id)) k = absurd (let bad : false ≡ true = k in cc)
    by false false (Some (ExtendedRequest name)) k = absurd (let bad : false ≡ true = k in cc)
    by false false (Some (PlainRequest sort)) k = absurd (let bad : false ≡ true = k in cc)
