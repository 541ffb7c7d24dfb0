-- A Bind that its first check refuses makes an operation, and is of another version than 3.
use Rattle.std.proofs.Common.{◌≡◌, ℕ, suc, ◌+◌, Bool, true, false, ◌==◌, ◌&&◌, not, List, [], ◌∷◌, length, take, drop, refl, ap}
use Rattle.std.specs.Prelude.{Option, Some, None, nat_le, if◌then◌else◌}
use Rattle.ldap_spec.specs.Elements.{Element, first_element, first_tagged, is_tag, length_of, length_size, whole_element, integer_of}
use Rattle.ldap_spec.specs.Kinds.{kind_of, kind_of_tag, same_kind}
use Rattle.ldap_spec.specs.Messages.{Message}
use Rattle.ldap_spec.specs.Requests.{Method, Request, BindRequest, UnbindRequest, AbandonRequest, ExtendedRequest, PlainRequest, abandon_fields, bind_fields, bind_of, extended_fields, method_of, plain_fields, request, request_of}
use Rattle.lload_names.specs.declared.names.EndWhy.TheVariants.{ZeroId, IdInUse}
use Rattle.lload_names.specs.declared.names.OpKind.{OpKind}
use Rattle.lload_names.specs.declared.names.OpKind.TheVariants.{Bind, Search, Modify, Add, Delete, ModifyDn, Compare, Extended}
use Rattle.lload_names.specs.declared.names.Refusal.{Refusal}
use Rattle.lload_names.specs.declared.names.Refusal.TheVariants.{C11}
use Rattle.lload_spec.specs.CausedUp.{has_other_version}
use Rattle.lload_spec.specs.Entries.{makes_operation}
use Rattle.lload_spec.specs.FirstCheck.{Ends, GoesOn, Refuses, check_request, is_in_use}
use Rattle.lload_spec.specs.Lists.{passes}
use Rattle.lload_spec.specs.Operations.{is_request_of}
use Rattle.lload_spec.specs.Settings.{Settings}
use Rattle.part_spec.specs.ClientState.{ClientState, check_at, facts_of}
use Rattle.bind_laws.proofs.Meets.{bind_kind}
use Rattle.client_laws.proofs.ClientEnds.{checked_id, kind_makes}
use Rattle.client_laws.proofs.ClientTurns.{is_end}

pub bind_request : (k : Option OpKind) → passes (same_kind Bind) k ≡ true → k ≡ Some Bind
bind_request None h = absurd (let bad : false ≡ true = h in cc)
bind_request (Some k) h = ap Some (bind_kind k h)

-- whether what is read of a request is a Bind, where something is
abbrev is_bind_read : Option Request → Bool
is_bind_read None = true
is_bind_read (Some (BindRequest version name method)) = true
is_bind_read _ = false

fields_read : (xs : List ℕ) → is_bind_read (bind_fields xs) ≡ true
fields_read xs = by (first_tagged 0x02 xs)
  where
    auth : (version : ℕ) (name : List ℕ) (m : Option Method) → is_bind_read (elim m [ None ↦ None | Some x ↦ Some (BindRequest version name x) ]) ≡ true
    auth version name None = refl
    auth version name (Some x) = refl

    made : (o : Option ℕ) (name : List ℕ) (e : Option Element) → is_bind_read (bind_of o name e) ≡ true
    made None name e = refl
    made (Some version) name None = refl
    made (Some version) name (Some e) = auth version name (method_of e)

    named : (v : Element) (o : Option Element) → is_bind_read (elim o [ None ↦ None | Some n ↦ bind_of (integer_of v.contents) n.contents (first_element n.behind) ]) ≡ true
    named v None = refl
    named v (Some n) = made (integer_of v.contents) n.contents (first_element n.behind)

    by : (o : Option Element) → is_bind_read (elim o [ None ↦ None | Some v ↦ elim (first_tagged 0x04 v.behind) [ None ↦ None | Some n ↦ bind_of (integer_of v.contents) n.contents (first_element n.behind) ] ]) ≡ true
    by None = refl
    by (Some v) = named v (first_tagged 0x04 v.behind)

-- the tag of a Bind
bind_tag : (t : ℕ) → kind_of_tag t ≡ Some Bind → (t == 0x60) ≡ true
bind_tag t h = by (t == 0x60) (t == 0x63) (t == 0x66) (t == 0x68) (t == 0x4a) (t == 0x6c) (t == 0x6e) (t == 0x77) h
  where
    by : (a b d e f g i j : Bool) → (if a then Some Bind else if b then Some Search else if d then Some Modify else if e then Some Add else if f then Some Delete else if g then Some ModifyDn else if i then Some Compare else if j then Some Extended else None) ≡ Some Bind → a ≡ true
    by true b d e f g i j k = refl
    by false true d e f g i j k = absurd (let bad : Some Search ≡ Some Bind = k in cc)
    by false false true e f g i j k = absurd (let bad : Some Modify ≡ Some Bind = k in cc)
    by false false false true f g i j k = absurd (let bad : Some Add ≡ Some Bind = k in cc)
    by false false false false true g i j k = absurd (let bad : Some Delete ≡ Some Bind = k in cc)
    by false false false false false true i j k = absurd (let bad : Some ModifyDn ≡ Some Bind = k in cc)
    by false false false false false false true j k = absurd (let bad : Some Compare ≡ Some Bind = k in cc)
    by false false false false false false false true k = absurd (let bad : Some Extended ≡ Some Bind = k in cc)
    by false false false false false false false false k = absurd (let bad : None ≡ Some Bind = k in cc)

request_read : (rest : List ℕ) → kind_of rest ≡ Some Bind → is_bind_read (request rest) ≡ true
request_read [] h = refl
request_read (t ∷ []) h = refl
request_read (t ∷ n ∷ xs) h = by (is_tag t) (length_of (take (length_size n) (n ∷ xs)))
  where
    put : Option Element → Option Request
    put o = elim o [ None ↦ None | Some e ↦ request_of e ]

    of_tag : (a : Bool) (e : Element) → a ≡ true → is_bind_read (if a then bind_fields e.contents else if e.tag == 0x42 then Some UnbindRequest else if e.tag == 0x50 then abandon_fields (integer_of e.contents) else if e.tag == 0x77 then extended_fields e.contents else plain_fields (kind_of_tag e.tag)) ≡ true
    of_tag true e k = fields_read e.contents
    of_tag false e k = absurd (let bad : false ≡ true = k in cc)

    whole : (size : ℕ) (b : Bool) → is_bind_read (put (if b then Some (record { tag = t; contents = take size (drop (suc (length_size n)) (t ∷ n ∷ xs)); octets = take (suc (length_size n) + size) (t ∷ n ∷ xs); behind = drop (suc (length_size n) + size) (t ∷ n ∷ xs) }) else None)) ≡ true
    whole size true = of_tag (t == 0x60) (record { tag = t; contents = take size (drop (suc (length_size n)) (t ∷ n ∷ xs)); octets = take (suc (length_size n) + size) (t ∷ n ∷ xs); behind = drop (suc (length_size n) + size) (t ∷ n ∷ xs) }) (bind_tag t h)
    whole size false = refl

    by : (b : Bool) (o : Option ℕ) → is_bind_read (put (if b then whole_element t (suc (length_size n)) (t ∷ n ∷ xs) o else None)) ≡ true
    by true None = refl
    by true (Some size) = whole size (nat_le (suc (length_size n) + size) (length (t ∷ n ∷ xs)))
    by false o = refl

module _ (s : Settings) (p : ClientState) (m : Message) (which : Refusal) (refused : check_at s p m ≡ Refuses which) (bind : is_request_of Bind m ≡ true) where
  pub refused_makes : makes_operation m ≡ true
  refused_makes = kind_makes m Bind (bind_request (kind_of m.rest) bind) (checked_id s p m (ap is_end refused))

  pub refused_version : passes has_other_version (request m.rest) ≡ true
  refused_version = by (m.id == 0) (makes_operation m && is_in_use (facts_of p) m.id) (request m.rest) (request_read m.rest (bind_request (kind_of m.rest) bind)) refused
    where
      version_is : (b : Bool) → (if b then GoesOn else Refuses C11) ≡ Refuses which → not b ≡ true
      version_is true k = absurd (let bad : GoesOn ≡ Refuses which = k in cc)
      version_is false k = refl

      by : (z b : Bool) (o : Option Request) → is_bind_read o ≡ true → (if z then Ends ZeroId else if b then Ends IdInUse else check_request s (facts_of p) m o) ≡ Refuses which → passes has_other_version o ≡ true
      by true b o r k = absurd (let bad : Ends ZeroId ≡ Refuses which = k in cc)
      by false true o r k = absurd (let bad : Ends IdInUse ≡ Refuses which = k in cc)
      by false false None r k = absurd (cc)
      by false false (Some (BindRequest version name method)) r k = version_is (version == 3) k
      by false false (Some UnbindRequest) r k = absurd (let bad : false ≡ true = r in cc)
      by false false (Some (AbandonRequest id)) r k = absurd (let bad : false ≡ true = r in cc)
      by false false (Some (ExtendedRequest name)) r k = absurd (let bad : false ≡ true = r in cc)
      by false false (Some (PlainRequest sort)) r k = absurd (let bad : false ≡ true = r in cc)
