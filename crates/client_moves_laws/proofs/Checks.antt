-- What the first check tells of a message.
use Rattle.std.proofs.Common.{◌≡◌, ℕ, Bool, true, false, ◌==◌, ◌&&◌, not, if◌then◌else◌, List, [], ◌∷◌, Option, Some, None, refl, ap, ◌∙◌, sym}
use Rattle.std.specs.Prelude.{find, is_some, is_none}
use Rattle.std.specs.Str.{bytes_eq}
use Rattle.std.proofs.lemmas.Bool.{eqb-true}
use Rattle.ldap_spec.specs.Messages.{Message}
use Rattle.ldap_spec.specs.Controls.{controls, start_tls, cancel_name}
use Rattle.ldap_spec.specs.Kinds.{kind_of, kind_of_tag, is_abandon, is_unbind, same_kind, tag_of}
use Rattle.ldap_spec.specs.Requests.{Request, BindRequest, UnbindRequest, AbandonRequest, ExtendedRequest, PlainRequest, request, cancel_id}
use Rattle.lload_names.specs.declared.names.CancelAnswer.TheVariants.{C14, C15, C16}
use Rattle.lload_names.specs.declared.names.EndWhy.TheVariants.{ZeroId, IdInUse, Unreadable}
use Rattle.lload_names.specs.declared.names.OpKind.{OpKind}
use Rattle.lload_names.specs.declared.names.OpKind.TheVariants.{Bind}
use Rattle.lload_names.specs.declared.names.Refusal.TheVariants.{C2, C6, C7, C8, C10, C11}
use Rattle.lload_spec.specs.Settings.{Settings, Reject}
use Rattle.lload_spec.specs.Binding.{action, is_action}
use Rattle.lload_spec.specs.Entries.{makes_operation}
use Rattle.lload_spec.specs.FirstCheck.{Check, Ends, Unbinds, Abandons, Refuses, Answers, Cancels, GoesOn, ClientFacts, LiveRequest, is_in_use, is_proxied_already, is_full, may_be_canceled, cancels, check_cancel, check_restrictions, check_named, check_request, check}
use Rattle.lload_spec.specs.Lists.{passes}
use Rattle.lload_spec.specs.Operations.{abandons_id, is_request_of}
use Rattle.lload_spec.proofs.Growth.{left}
use Rattle.client_laws.proofs.ClientCancels.{ext_tag, is_ext}
use Rattle.client_laws.proofs.ClientEnds.{kind_makes}
use Rattle.client_laws.proofs.ClientKinds.{is_operation, request_kind}
use Rattle.client_laws.proofs.NamesNone.{request_names_none}
use Rattle.part_laws.proofs.ListLaws.{eqb_same}

-- a check that makes an operation, and doesn't end the client
abbrev pub is_operating : Check → Bool
is_operating (Refuses which) = true
is_operating (Answers which) = true
is_operating (Cancels id kind) = true
is_operating GoesOn = true
is_operating _ = false

pub record Operates (f : ClientFacts) (m : Message) : Type 0 where
  pub makes : makes_operation m ≡ true
  pub kind : is_some (kind_of m.rest) ≡ true
  pub free : is_in_use f m.id ≡ false

kind_there : (o : Option OpKind) → is_some o ≡ true → (kind : OpKind) × (o ≡ Some kind)
kind_there None e = absurd (cc)
kind_there (Some kind) e = (kind, refl)

pub operates : (s : Settings) (f : ClientFacts) (m : Message) → is_operating (check s f m) ≡ true → Operates f m
operates s f m h = by (m.id == 0) (makes_operation m && is_in_use f m.id) (request m.rest) refl refl refl h
  where
    made : (m.id == 0) ≡ false → (makes_operation m && is_in_use f m.id) ≡ false → is_operation (request m.rest) ≡ true → Operates f m
    made z b o =
        let some = request_kind m.rest o in
        let kind = kind_there (kind_of m.rest) some in
        let makes = kind_makes m kind.0 kind.1 z in
        record { makes = makes; kind = some; free = sym (ap (λ (t : Bool). t && is_in_use f m.id) makes) ∙ b }

    by : (z b : Bool) (o : Option Request) → (m.id == 0) ≡ z → (makes_operation m && is_in_use f m.id) ≡ b → request m.rest ≡ o → is_operating (if z then Ends ZeroId else if b then Ends IdInUse else check_request s f m o) ≡ true → Operates f m
    by true b o e i r k = absurd (let bad : false ≡ true = k in cc)
    by false true o e i r k = absurd (let bad : false ≡ true = k in cc)
    by false false None e i r k = absurd (let bad : false ≡ true = k in cc)
    by false false (Some UnbindRequest) e i r k = absurd (let bad : false ≡ true = k in cc)
    by false false (Some (AbandonRequest n)) e i r k = absurd (let bad : false ≡ true = k in cc)
    by false false (Some (BindRequest version name method)) e i r k = made e i (ap is_operation r)
    by false false (Some (ExtendedRequest name)) e i r k = made e i (ap is_operation r)
    by false false (Some (PlainRequest kind)) e i r k = made e i (ap is_operation r)

-- Abandons.
pub record Abandoned (m : Message) (id : ℕ) : Type 0 where
  pub makes : makes_operation m ≡ false
  pub here : (m.id == 0) ≡ false
  pub is : request m.rest ≡ Some (AbandonRequest id)

abbrev pub abandons_as : ℕ → Check → Bool
abandons_as id (Abandons n) = n == id
abandons_as id _ = false

not_abandoning : (s : Settings) (f : ClientFacts) (m : Message) (name : List ℕ) (id : ℕ) → abandons_as id (check_named s f m name) ≡ false
not_abandoning s f m name id = by (is_none (controls m.rest)) f.in_exchange (bytes_eq name start_tls) (bytes_eq name cancel_name)
  where
    found : (o : Option LiveRequest) → abandons_as id (cancels o) ≡ false
    found None = refl
    found (Some x) = kinds x.kind
      where
        kinds : (o : Option OpKind) → abandons_as id (elim o [ None ↦ Answers C14 | Some kind ↦ Cancels x.id kind ]) ≡ false
        kinds None = refl
        kinds (Some kind) = refl

    named : (o : Option ℕ) → abandons_as id (check_cancel f m.id o) ≡ false
    named None = refl
    named (Some n) = one (n == m.id)
      where
        one : (b : Bool) → abandons_as id (elim b [ true ↦ Answers C15 | false ↦ cancels (find (may_be_canceled n) f.live) ]) ≡ false
        one true = refl
        one false = found (find (may_be_canceled n) f.live)

    limits : (a b c : Bool) → abandons_as id (if a then Refuses C8 else if b then Refuses C6 else if c then Refuses C2 else GoesOn) ≡ false
    limits true b c = refl
    limits false true c = refl
    limits false false true = refl
    limits false false false = refl

    by : (a b c d : Bool) → abandons_as id (if a then Ends Unreadable else if b then Refuses C7 else if c then Refuses C10 else if d then check_cancel f m.id (cancel_id m.rest) else check_restrictions s f m.rest) ≡ false
    by true b c d = refl
    by false true c d = refl
    by false false true d = refl
    by false false false true = named (cancel_id m.rest)
    by false false false false = limits (is_proxied_already s f m.rest) (is_action Reject (action s m.rest)) (is_full s f)

pub abandoned : (s : Settings) (f : ClientFacts) (m : Message) (id : ℕ) → check s f m ≡ Abandons id → Abandoned m id
abandoned s f m id h = by (m.id == 0) (makes_operation m && is_in_use f m.id) (request m.rest) refl refl (ap (abandons_as id) h ∙ eqb_same id)
  where
    no_version : (b : Bool) → abandons_as id (if b then GoesOn else Refuses C11) ≡ false
    no_version true = refl
    no_version false = refl

    unmade : (n : ℕ) → request m.rest ≡ Some (AbandonRequest n) → (b : Bool) → is_abandon m.rest ≡ b → makes_operation m ≡ false
    unmade n r true i = ap (λ (t : Bool). (not (m.id == 0) && not (is_unbind m.rest)) && not t) i ∙ none (not (m.id == 0) && not (is_unbind m.rest))
      where
        none : (t : Bool) → (t && false) ≡ false
        none true = refl
        none false = refl
    unmade n r false i = absurd (let bad : false ≡ true = sym (request_names_none n m.rest i) ∙ (ap (abandons_id n) r ∙ eqb_same n) in cc)

    by : (z b : Bool) (o : Option Request) → (m.id == 0) ≡ z → request m.rest ≡ o → abandons_as id (if z then Ends ZeroId else if b then Ends IdInUse else check_request s f m o) ≡ true → Abandoned m id
    by true b o e r k = absurd (let bad : false ≡ true = k in cc)
    by false true o e r k = absurd (let bad : false ≡ true = k in cc)
    by false false None e r k = absurd (let bad : false ≡ true = k in cc)
    by false false (Some UnbindRequest) e r k = absurd (let bad : false ≡ true = k in cc)
    by false false (Some (AbandonRequest n)) e r k = record { makes = unmade n r (is_abandon m.rest) refl; here = e; is = r ∙ ap (λ (i : ℕ). Some (AbandonRequest i)) (eqb-true n id k) }
    by false false (Some (BindRequest version name method)) e r k = absurd (let bad : false ≡ true = sym (no_version (version == 3)) ∙ k in cc)
    by false false (Some (ExtendedRequest name)) e r k = absurd (let bad : false ≡ true = sym (not_abandoning s f m name id) ∙ k in cc)
    by false false (Some (PlainRequest kind)) e r k = absurd (let bad : false ≡ true = sym (not_abandoning s f m [] id) ∙ k in cc)

-- what a Cancel ends is the live operation that it finds
pub record Finds (f : ClientFacts) (id : ℕ) (kind : OpKind) : Type 0 where
  pub live : LiveRequest
  pub is : find (may_be_canceled id) f.live ≡ Some live
  pub sort : live.kind ≡ Some kind

abbrev pub cancels_as : Check → Option ℕ
cancels_as (Cancels id kind) = Some id
cancels_as _ = None

no_one : {P : Type 0} (c : Check) (id : ℕ) (kind : OpKind) → cancels_as c ≡ None → c ≡ Cancels id kind → P
no_one c id kind n e = absurd (let bad : None ≡ Some id = sym n ∙ ap cancels_as e in cc)

restricted : (s : Settings) (f : ClientFacts) (rest : List ℕ) → cancels_as (check_restrictions s f rest) ≡ None
restricted s f rest = by (is_proxied_already s f rest) (is_action Reject (action s rest)) (is_full s f)
  where
    by : (a b c : Bool) → cancels_as (if a then Refuses C8 else if b then Refuses C6 else if c then Refuses C2 else GoesOn) ≡ None
    by true b c = refl
    by false true c = refl
    by false false true = refl
    by false false false = refl

finds_one : (f : ClientFacts) (n id : ℕ) (kind : OpKind) (o : Option ℕ) → check_cancel f n o ≡ Cancels id kind → Finds f id kind
finds_one f n id kind None h = no_one (Answers C16) id kind refl h
finds_one f n id kind (Some named) h = by (named == n) h
  where
    found : (o : Option LiveRequest) → find (may_be_canceled named) f.live ≡ o → cancels o ≡ Cancels id kind → Finds f id kind
    found None g j = no_one (Answers C14) id kind refl j
    found (Some x) g j = kinds x.kind refl j
      where
        passes_named : (xs : List LiveRequest) → find (may_be_canceled named) xs ≡ Some x → (x.id == named) ≡ true
        passes_named [] e = absurd (cc)
        passes_named (z ∷ zs) e = one (may_be_canceled named z) refl e (passes_named zs)
          where
            one : (t : Bool) → may_be_canceled named z ≡ t → (if t then Some z else find (may_be_canceled named) zs) ≡ Some x → (find (may_be_canceled named) zs ≡ Some x → (x.id == named) ≡ true) → (x.id == named) ≡ true
            one true i k ih = let same : z ≡ x = cc in ap (λ (r : LiveRequest). r.id == named) (sym same) ∙ left (z.id == named) _ i
            one false i k ih = ih k

        kinds : (o : Option OpKind) → x.kind ≡ o → (elim o [ None ↦ Answers C14 | Some k ↦ Cancels x.id k ]) ≡ Cancels id kind → Finds f id kind
        kinds None i k = no_one (Answers C14) id kind refl k
        kinds (Some c) i k =
            let name : x.id ≡ named = eqb-true x.id named (passes_named f.live g) in
            let same : x.id ≡ id = cc in
            let sort : c ≡ kind = cc in
            record { live = x; is = ap (λ (j : ℕ). find (may_be_canceled j) f.live) (sym same ∙ name) ∙ g; sort = i ∙ ap Some sort }

    by : (b : Bool) → (elim b [ true ↦ Answers C15 | false ↦ cancels (find (may_be_canceled named) f.live) ]) ≡ Cancels id kind → Finds f id kind
    by true k = no_one (Answers C15) id kind refl k
    by false k = found (find (may_be_canceled named) f.live) refl k

finds_named : (s : Settings) (f : ClientFacts) (m : Message) (name : List ℕ) (id : ℕ) (kind : OpKind) → check_named s f m name ≡ Cancels id kind → Finds f id kind
finds_named s f m name id kind h = by (is_none (controls m.rest)) f.in_exchange (bytes_eq name start_tls) (bytes_eq name cancel_name) h
  where
    by : (a b c d : Bool) → (if a then Ends Unreadable else if b then Refuses C7 else if c then Refuses C10 else if d then check_cancel f m.id (cancel_id m.rest) else check_restrictions s f m.rest) ≡ Cancels id kind → Finds f id kind
    by true b c d k = no_one (Ends Unreadable) id kind refl k
    by false true c d k = no_one (Refuses C7) id kind refl k
    by false false true d k = no_one (Refuses C10) id kind refl k
    by false false false true k = finds_one f m.id id kind (cancel_id m.rest) k
    by false false false false k = no_one (check_restrictions s f m.rest) id kind (restricted s f m.rest) k

pub finds : (s : Settings) (f : ClientFacts) (m : Message) (id : ℕ) (kind : OpKind) → check s f m ≡ Cancels id kind → Finds f id kind
finds s f m id kind h = by (m.id == 0) (makes_operation m && is_in_use f m.id) (request m.rest) h
  where
    by : (z b : Bool) (o : Option Request) → (if z then Ends ZeroId else if b then Ends IdInUse else check_request s f m o) ≡ Cancels id kind → Finds f id kind
    by true b o k = no_one (Ends ZeroId) id kind refl k
    by false true o k = no_one (Ends IdInUse) id kind refl k
    by false false None k = no_one (Ends Unreadable) id kind refl k
    by false false (Some UnbindRequest) k = no_one Unbinds id kind refl k
    by false false (Some (AbandonRequest n)) k = no_one (Abandons n) id kind refl k
    by false false (Some (BindRequest version name method)) k = three (version == 3) k
      where
        three : (b : Bool) → (if b then GoesOn else Refuses C11) ≡ Cancels id kind → Finds f id kind
        three true j = no_one GoesOn id kind refl j
        three false j = no_one (Refuses C11) id kind refl j
    by false false (Some (ExtendedRequest name)) k = finds_named s f m name id kind k
    by false false (Some (PlainRequest sort)) k = finds_named s f m [] id kind k

-- what answers a Cancel is of an extended request
abbrev pub is_answering : Check → Bool
is_answering (Answers which) = true
is_answering _ = false

answers_named : (s : Settings) (f : ClientFacts) (m : Message) (name : List ℕ) → is_answering (check_named s f m name) ≡ true → bytes_eq name cancel_name ≡ true
answers_named s f m name h = by (is_none (controls m.rest)) f.in_exchange (bytes_eq name start_tls) (bytes_eq name cancel_name) refl h
  where
    limits : (a b c : Bool) → is_answering (if a then Refuses C8 else if b then Refuses C6 else if c then Refuses C2 else GoesOn) ≡ false
    limits true b c = refl
    limits false true c = refl
    limits false false true = refl
    limits false false false = refl

    by : (a b c d : Bool) → bytes_eq name cancel_name ≡ d → is_answering (if a then Ends Unreadable else if b then Refuses C7 else if c then Refuses C10 else if d then check_cancel f m.id (cancel_id m.rest) else check_restrictions s f m.rest) ≡ true → bytes_eq name cancel_name ≡ true
    by true b c d e k = absurd (let bad : false ≡ true = k in cc)
    by false true c d e k = absurd (let bad : false ≡ true = k in cc)
    by false false true d e k = absurd (let bad : false ≡ true = k in cc)
    by false false false true e k = e
    by false false false false e k = absurd (let bad : false ≡ true = sym (limits (is_proxied_already s f m.rest) (is_action Reject (action s m.rest)) (is_full s f)) ∙ k in cc)

pub answers_ext : (s : Settings) (f : ClientFacts) (m : Message) → is_answering (check s f m) ≡ true → is_ext (request m.rest) ≡ true
answers_ext s f m h = by (m.id == 0) (makes_operation m && is_in_use f m.id) (request m.rest) refl h
  where
    by : (z b : Bool) (o : Option Request) → request m.rest ≡ o → is_answering (if z then Ends ZeroId else if b then Ends IdInUse else check_request s f m o) ≡ true → is_ext (request m.rest) ≡ true
    by true b o r k = absurd (let bad : false ≡ true = k in cc)
    by false true o r k = absurd (let bad : false ≡ true = k in cc)
    by false false None r k = absurd (let bad : false ≡ true = k in cc)
    by false false (Some UnbindRequest) r k = absurd (let bad : false ≡ true = k in cc)
    by false false (Some (AbandonRequest n)) r k = absurd (let bad : false ≡ true = k in cc)
    by false false (Some (BindRequest version name method)) r k = three (version == 3) k
      where
        three : (b : Bool) → is_answering (if b then GoesOn else Refuses C11) ≡ true → is_ext (request m.rest) ≡ true
        three true j = absurd (let bad : false ≡ true = j in cc)
        three false j = absurd (let bad : false ≡ true = j in cc)
    by false false (Some (ExtendedRequest name)) r k = ap is_ext r
    by false false (Some (PlainRequest sort)) r k = absurd (let bad : false ≡ true = answers_named s f m [] k in cc)

-- an extended request is no Bind
pub ext_plain : (m : Message) → is_ext (request m.rest) ≡ true → is_request_of Bind m ≡ false
ext_plain m e = ap (λ (n : ℕ). passes (same_kind Bind) (kind_of_tag n)) (eqb-true (tag_of m.rest) 0x77 (ext_tag m.rest e))
