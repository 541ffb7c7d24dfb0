-- What is known of a request that the first check takes for a Cancel of a live operation.
use Rattle.std.proofs.Common.{◌≡◌, ℕ, suc, ◌+◌, Bool, true, false, ◌==◌, ◌&&◌, ◌||◌, List, [], ◌∷◌, length, take, drop, refl, ap, ◌∙◌, sym}
use Rattle.std.specs.Prelude.{Option, Some, None, find, cond, is_none, nat_le, if◌then◌else◌}
use Rattle.std.specs.List.{list_any}
use Rattle.std.specs.Str.{bytes_eq}
use Rattle.ldap_spec.specs.Messages.{Message}
use Rattle.ldap_spec.specs.Kinds.{kind_of_tag, tag_of}
use Rattle.ldap_spec.specs.Controls.{controls, start_tls, cancel_name}
use Rattle.ldap_spec.specs.Elements.{Element, first_element, whole_element, length_of, is_tag, length_size, first_tagged, integer_of}
use Rattle.ldap_spec.specs.Requests.{Request, Method, BindRequest, UnbindRequest, AbandonRequest, ExtendedRequest, PlainRequest, request, request_of, method_of, bind_of, bind_fields, abandon_fields, extended_fields, plain_fields, cancel_id}
use Rattle.lload_names.specs.declared.names.OpKind.{OpKind}
use Rattle.lload_names.specs.declared.names.EndWhy.TheVariants.{ZeroId, IdInUse, Unreadable}
use Rattle.lload_names.specs.declared.names.Refusal.TheVariants.{C2, C6, C7, C8, C10, C11}
use Rattle.lload_names.specs.declared.names.CancelAnswer.TheVariants.{C14, C15, C16}
use Rattle.lload_spec.specs.Settings.{Settings, Reject}
use Rattle.lload_spec.specs.Entries.{makes_operation}
use Rattle.lload_spec.specs.Binding.{action, is_action}
use Rattle.lload_spec.specs.FirstCheck.{Check, Ends, Unbinds, Abandons, Refuses, Answers, Cancels, GoesOn, ClientFacts, LiveRequest, is_in_use, is_proxied_already, is_full, may_be_canceled, cancels, check_cancel, check_restrictions, check_named, check_request, check}
use Rattle.lload_spec.proofs.Growth.{left}
use Rattle.lload_laws.proofs.ListLaws.{found_passes}
use Rattle.part_laws.proofs.ListLaws.{same_number, or_left, or_right, eqb_same}

-- whether a request is an Extended one
abbrev pub is_ext : Option Request → Bool
is_ext (Some (ExtendedRequest name)) = true
is_ext _ = false

no_way : {C : Type 0} → false ≡ true → C
no_way h = absurd (let bad : false ≡ true = h in cc)

bind_no_ext : (contents : List ℕ) → is_ext (bind_fields contents) ≡ false
bind_no_ext contents = first (first_tagged 0x02 contents)
  where
    method : (version : ℕ) (name : List ℕ) (o : Option Method) → is_ext (elim o [ None ↦ None | Some m ↦ Some (BindRequest version name m) ]) ≡ false
    method version name None = refl
    method version name (Some m) = refl

    bind : (v : Option ℕ) (name : List ℕ) (o : Option Element) → is_ext (bind_of v name o) ≡ false
    bind None name o = refl
    bind (Some version) name None = refl
    bind (Some version) name (Some e) = method version name (method_of e)

    second : (v : Element) (o : Option Element) → is_ext (elim o [ None ↦ None | Some n ↦ bind_of (integer_of v.contents) n.contents (first_element n.behind) ]) ≡ false
    second v None = refl
    second v (Some n) = bind (integer_of v.contents) n.contents (first_element n.behind)

    first : (o : Option Element) → is_ext (elim o [ None ↦ None | Some v ↦ elim (first_tagged 0x04 v.behind) [ None ↦ None | Some n ↦ bind_of (integer_of v.contents) n.contents (first_element n.behind) ] ]) ≡ false
    first None = refl
    first (Some v) = second v (first_tagged 0x04 v.behind)

element_ext : (e : Element) → is_ext (request_of e) ≡ true → (e.tag == 0x77) ≡ true
element_ext e h = by (e.tag == 0x60) (e.tag == 0x42) (e.tag == 0x50) (e.tag == 0x77) refl h
  where
    abandon : (o : Option ℕ) → is_ext (abandon_fields o) ≡ true → (e.tag == 0x77) ≡ true
    abandon None k = no_way k
    abandon (Some n) k = no_way k

    plain : (o : Option OpKind) → is_ext (plain_fields o) ≡ true → (e.tag == 0x77) ≡ true
    plain None k = no_way k
    plain (Some sort) k = no_way k

    by : (a b x d : Bool) → (e.tag == 0x77) ≡ d → is_ext (if a then bind_fields e.contents else if b then Some UnbindRequest else if x then abandon_fields (integer_of e.contents) else if d then extended_fields e.contents else plain_fields (kind_of_tag e.tag)) ≡ true → (e.tag == 0x77) ≡ true
    by true b x d f k = no_way (sym (bind_no_ext e.contents) ∙ k)
    by false true x d f k = no_way k
    by false false true d f k = abandon (integer_of e.contents) k
    by false false false true f k = f
    by false false false false f k = plain (kind_of_tag e.tag) k

pub ext_tag : (rest : List ℕ) → is_ext (request rest) ≡ true → (tag_of rest == 0x77) ≡ true
ext_tag [] h = no_way h
ext_tag (t ∷ []) h = no_way h
ext_tag (t ∷ n ∷ xs) h = by (is_tag t) (length_of (take (length_size n) (n ∷ xs))) h
  where
    put : Option Element → Option Request
    put o = elim o [ None ↦ None | Some e ↦ request_of e ]

    whole : (size : ℕ) (b : Bool) → is_ext (put (if b then Some (record { tag = t; contents = take size (drop (suc (length_size n)) (t ∷ n ∷ xs)); octets = take (suc (length_size n) + size) (t ∷ n ∷ xs); behind = drop (suc (length_size n) + size) (t ∷ n ∷ xs) }) else None)) ≡ true → (t == 0x77) ≡ true
    whole size true k = element_ext (record { tag = t; contents = take size (drop (suc (length_size n)) (t ∷ n ∷ xs)); octets = take (suc (length_size n) + size) (t ∷ n ∷ xs); behind = drop (suc (length_size n) + size) (t ∷ n ∷ xs) }) k
    whole size false k = no_way k

    by : (b : Bool) (o : Option ℕ) → is_ext (put (if b then whole_element t (suc (length_size n)) (t ∷ n ∷ xs) o else None)) ≡ true → (t == 0x77) ≡ true
    by true None k = no_way k
    by true (Some size) k = whole size (nat_le (suc (length_size n) + size) (length (t ∷ n ∷ xs))) k
    by false o k = no_way k

-- the live request that a Cancel ends
pub record NamedOne (f : ClientFacts) (id : ℕ) (kind : OpKind) : Type 0 where
  pub request : LiveRequest
  pub found : find (may_be_canceled id) f.live ≡ Some request
  pub kind_is : request.kind ≡ Some kind

-- what the check found
pub record Named (f : ClientFacts) (m : Message) (id : ℕ) (kind : OpKind) : Type 0 where
  pub ext : is_ext (request m.rest) ≡ true
  pub other : (id == m.id) ≡ false
  pub live : list_any (λ x. x.id == id) f.live ≡ true
  pub one : NamedOne f id kind

abbrev is_cancels : Check → Bool
is_cancels (Cancels id kind) = true
is_cancels _ = false

no_cancels : {C : Type 0} (c : Check) (id : ℕ) (kind : OpKind) → is_cancels c ≡ false → c ≡ Cancels id kind → C
no_cancels c id kind h k = no_way (sym h ∙ ap is_cancels k)

restrictions_none : (s : Settings) (f : ClientFacts) (rest : List ℕ) → is_cancels (check_restrictions s f rest) ≡ false
restrictions_none s f rest = by (is_proxied_already s f rest) (is_action Reject (action s rest)) (is_full s f)
  where
    by : (a b c : Bool) → is_cancels (if a then Refuses C8 else if b then Refuses C6 else if c then Refuses C2 else GoesOn) ≡ false
    by true b c = refl
    by false true c = refl
    by false false true = refl
    by false false false = refl

-- one that is found is among them
found_live : (t : LiveRequest → Bool) (xs : List LiveRequest) (x : LiveRequest) → find t xs ≡ Some x → list_any (λ y. y.id == x.id) xs ≡ true
found_live t [] x h = absurd (let bad : None ≡ Some x = h in cc)
found_live t (y ∷ ys) x h = more (t y) h (found_live t ys x)
  where
    more : (b : Bool) → cond b (Some y) (find t ys) ≡ Some x → (find t ys ≡ Some x → list_any (λ z. z.id == x.id) ys ≡ true) → (y.id == x.id || list_any (λ z. z.id == x.id) ys) ≡ true
    more true k g = let same : y ≡ x = cc in or_left (y.id == x.id) _ (ap (λ z. z.id == x.id) same ∙ eqb_same x.id)
    more false k g = or_right (y.id == x.id) _ (g k)

record Found (f : ClientFacts) (n id : ℕ) (kind : OpKind) : Type 0 where
  other : (id == n) ≡ false
  live : list_any (λ x. x.id == id) f.live ≡ true
  one : NamedOne f id kind

cancel_found : (f : ClientFacts) (n id : ℕ) (kind : OpKind) (o : Option ℕ) → check_cancel f n o ≡ Cancels id kind → Found f n id kind
cancel_found f n id kind None h = no_cancels (Answers C16) id kind refl h
cancel_found f n id kind (Some named) h = by (named == n) refl h
  where
    state : Bool → Check
    state b = elim b [ true ↦ Answers C15 | false ↦ cancels (find (may_be_canceled named) f.live) ]

    by : (b : Bool) → (named == n) ≡ b → state b ≡ Cancels id kind → Found f n id kind
    by true e k = no_cancels (Answers C15) id kind refl k
    by false e k = one (find (may_be_canceled named) f.live) refl k
      where
        one : (o : Option LiveRequest) → find (may_be_canceled named) f.live ≡ o → cancels o ≡ Cancels id kind → Found f n id kind
        one None g j = no_cancels (Answers C14) id kind refl j
        one (Some x) g j = kinds x.kind refl j
          where
            put : Option OpKind → Check
            put q = elim q [ None ↦ Answers C14 | Some c ↦ Cancels x.id c ]

            kinds : (q : Option OpKind) → x.kind ≡ q → put q ≡ Cancels id kind → Found f n id kind
            kinds None e' i = no_cancels (Answers C14) id kind refl i
            kinds (Some c) e' i =
                let sort : c ≡ kind = cc in
                let same : x.id ≡ id = cc in
                let name : x.id ≡ named = same_number x.id named (left (x.id == named) _ (found_passes (may_be_canceled named) f.live x g)) in
                record { other = ap (λ y. y == n) (sym same ∙ name) ∙ e; live = ap (λ y. list_any (λ z. z.id == y) f.live) (sym same) ∙ found_live (may_be_canceled named) f.live x g; one = record { request = x; found = ap (λ y. find (may_be_canceled y) f.live) (sym same ∙ name) ∙ g; kind_is = e' ∙ ap Some sort } }

named_found : (s : Settings) (f : ClientFacts) (m : Message) (name : List ℕ) (id : ℕ) (kind : OpKind) → check_named s f m name ≡ Cancels id kind → (bytes_eq name cancel_name ≡ true) × Found f m.id id kind
named_found s f m name id kind h = by (is_none (controls m.rest)) f.in_exchange (bytes_eq name start_tls) (bytes_eq name cancel_name) refl h
  where
    by : (a b c d : Bool) → bytes_eq name cancel_name ≡ d → (if a then Ends Unreadable else if b then Refuses C7 else if c then Refuses C10 else if d then check_cancel f m.id (cancel_id m.rest) else check_restrictions s f m.rest) ≡ Cancels id kind → (bytes_eq name cancel_name ≡ true) × Found f m.id id kind
    by true b c d e k = no_cancels (Ends Unreadable) id kind refl k
    by false true c d e k = no_cancels (Refuses C7) id kind refl k
    by false false true d e k = no_cancels (Refuses C10) id kind refl k
    by false false false true e k = (e, cancel_found f m.id id kind (cancel_id m.rest) k)
    by false false false false e k = no_cancels (check_restrictions s f m.rest) id kind (restrictions_none s f m.rest) k

pub cancel_named : (s : Settings) (f : ClientFacts) (m : Message) (id : ℕ) (kind : OpKind) → check s f m ≡ Cancels id kind → Named f m id kind × ((m.id == 0) ≡ false)
cancel_named s f m id kind h = by (m.id == 0) (makes_operation m && is_in_use f m.id) refl h
  where
    asked : (r : Option Request) → request m.rest ≡ r → check_request s f m r ≡ Cancels id kind → Named f m id kind
    asked None e k = no_cancels (Ends Unreadable) id kind refl k
    asked (Some (BindRequest version name method)) e k = three (version == 3) k
      where
        three : (b : Bool) → (if b then GoesOn else Refuses C11) ≡ Cancels id kind → Named f m id kind
        three true j = no_cancels GoesOn id kind refl j
        three false j = no_cancels (Refuses C11) id kind refl j
    asked (Some UnbindRequest) e k = no_cancels Unbinds id kind refl k
    asked (Some (AbandonRequest n)) e k = no_cancels (Abandons n) id kind refl k
    asked (Some (ExtendedRequest name)) e k =
        let it = named_found s f m name id kind k in
        record { ext = ap is_ext e; other = it.1.other; live = it.1.live; one = it.1.one }
    asked (Some (PlainRequest sort)) e k = no_way (named_found s f m [] id kind k).0

    by : (z b : Bool) → (m.id == 0) ≡ z → (if z then Ends ZeroId else if b then Ends IdInUse else check_request s f m (request m.rest)) ≡ Cancels id kind → Named f m id kind × ((m.id == 0) ≡ false)
    by true b e k = no_cancels (Ends ZeroId) id kind refl k
    by false true e k = no_cancels (Ends IdInUse) id kind refl k
    by false false e k = (asked (request m.rest) refl k, e)
