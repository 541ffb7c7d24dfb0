-- Requests as they are lent, and as the definitions have them.
use Rattle.std.specs.Prelude.{◌≡◌, ℕ, List, [], Option, Some, None}
use Rattle.ldap_spec.specs.Elements.{Element, first_element, first_tagged}
use Rattle.ldap_spec.specs.Requests.{Method as MethodRead, Simple as SimpleRead, Sasl as SaslRead, Other as OtherRead, Request as RequestRead, BindRequest as BindRead, UnbindRequest, AbandonRequest, ExtendedRequest, PlainRequest}
use Rattle.ldap_spec.specs.Responses.{contents_of}
use Rattle.ldap_messages.specs.Parts.{IsPart}
use Rattle.ldap_messages.specs.declared.requests.Method.{Method}
use Rattle.ldap_messages.specs.declared.requests.Method.TheVariants.{Simple, Sasl, Other}
use Rattle.ldap_messages.specs.declared.requests.BindRequest.{BindRequest}
use Rattle.ldap_messages.specs.declared.requests.Request.{Request}
use Rattle.ldap_messages.specs.declared.requests.Request.TheVariants.{Bind, Unbind, Abandon, Extended, Plain}

-- an element by its tag and its contents alone
abbrev pub element : ℕ → List ℕ → Element
element tag contents = record { tag = tag; contents = contents; octets = []; behind = [] }

abbrev pub method_view : Method → MethodRead
method_view (Simple password) = SimpleRead password.now
method_view (Sasl mechanism) = SaslRead
method_view (Other tag) = OtherRead

abbrev pub bind_view : BindRequest → RequestRead
bind_view b = BindRead b.version b.name.now (method_view b.method)

abbrev pub view : Request → RequestRead
view (Bind b) = bind_view b
view Unbind = UnbindRequest
view (Abandon id) = AbandonRequest id
view (Extended name) = ExtendedRequest name.now
view (Plain kind) = PlainRequest kind

-- the element of authentication in the contents of a Bind (RFC 4511, 4.2)
abbrev pub authentication : List ℕ → Option Element
authentication contents = elim (first_tagged 0x02 contents) [ None ↦ None | Some v ↦ elim (first_tagged 0x04 v.behind) [ None ↦ None | Some n ↦ first_element n.behind ] ]

-- the mechanism of SASL in an element of authentication
abbrev pub mechanism_of : Option Element → Option (List ℕ)
mechanism_of o = elim o [ None ↦ None | Some e ↦ elim (first_tagged 0x04 e.contents) [ None ↦ None | Some m ↦ Some m.contents ] ]

-- the tag of an element, where there is one
abbrev pub tag_in : Option Element → Option ℕ
tag_in o = elim o [ None ↦ None | Some e ↦ Some e.tag ]

-- the mechanism and the tag are those of the element
abbrev pub IsMethodOf : Option Element → Method → Type 0
IsMethodOf o (Simple password) = Unit {0}
IsMethodOf o (Sasl mechanism) = mechanism_of o ≡ Some mechanism.now
IsMethodOf o (Other tag) = tag_in o ≡ Some tag

-- the method of a Bind is that of its element of authentication
abbrev pub HasMethod : List ℕ → Request → Type 0
HasMethod rest (Bind b) = IsMethodOf (authentication (contents_of rest)) b.method
HasMethod rest _ = Unit {0}

-- what is lent is a part of the bytes
abbrev pub MethodLends : List ℕ → Method → Type 0
MethodLends bytes (Simple password) = IsPart bytes password.now
MethodLends bytes (Sasl mechanism) = IsPart bytes mechanism.now
MethodLends bytes (Other tag) = Unit {0}

abbrev pub BindLends : List ℕ → BindRequest → Type 0
BindLends bytes b = IsPart bytes b.name.now × MethodLends bytes b.method

abbrev pub Lends : List ℕ → Request → Type 0
Lends bytes (Bind b) = BindLends bytes b
Lends bytes (Extended name) = IsPart bytes name.now
Lends bytes _ = Unit {0}
