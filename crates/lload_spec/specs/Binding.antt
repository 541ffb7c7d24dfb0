-- What a client is bound to: restrictions and write coherence (restrict_exop, restrict_control, write_coherence in
-- lloadd.conf(5)).
use Rattle.std.specs.Prelude.{not, ℕ, Bool, true, false, ◌==◌, ◌&&◌, ◌||◌, nat_lt, if◌then◌else◌, List, [], ◌∷◌, ◌++◌, max, filter, find, length, Option, Some, None, IsTrue, codes}
use Rattle.std.specs.List.{list_all}
use Rattle.std.specs.Str.{bytes_eq}
use Rattle.ldap_spec.specs.Messages.{Message}
use Rattle.ldap_spec.specs.Requests.{Request, ExtendedRequest, PlainRequest, request}
use Rattle.ldap_spec.specs.Controls.{Control, controls}
use Rattle.lload_names.specs.declared.names.Entry.{Entry}
use Rattle.lload_names.specs.declared.names.OpKind.{OpKind}
use Rattle.lload_names.specs.declared.names.OpKind.TheVariants.{Bind, Modify, Add, Delete, ModifyDn}
use Rattle.lload_names.specs.declared.names.ConnKind.{ConnKind}
use Rattle.lload_names.specs.declared.names.ConnKind.TheVariants.{Regular, Bind as BindKind}
use Rattle.lload_names.specs.declared.names.Answer.{Answer}
use Rattle.lload_names.specs.declared.names.Answer.TheVariants.{Go}
use Rattle.lload_names.specs.declared.names.Bound.{Bound}
use Rattle.lload_names.specs.declared.names.Bound.TheVariants.{Free}
use Rattle.lload_names.specs.declared.names.Want.{Want}
use Rattle.lload_spec.specs.Lists.{passes, first, last, where_there}
use Rattle.lload_spec.specs.Settings.{Settings, Action, Ignore, Write, BindBackend, BindConnection, Reject, Restriction, backend_of}
use Rattle.lload_spec.specs.Journal.{Family}
pub use Rattle.lload_names.specs.Same.{same_bound, same_want}
pub use Rattle.lload_spec.specs.Window.{has_coherence}
use Rattle.lload_spec.specs.Window.{Standing, binding_of}
use Rattle.lload_spec.specs.Entries.{Named, chosen, asked}
use Rattle.lload_spec.specs.Operations.{Operation, operation_in, operation, ending, is_request_of, is_live, is_live_at, last_bind}

-- the place of an action in their order
abbrev pub rank : Action → ℕ
rank Ignore = 0
rank Write = 1
rank BindBackend = 2
rank BindConnection = 3
rank Reject = 4

-- whether two actions are one
abbrev pub is_action : Action → Action → Bool
is_action a b = rank a == rank b

-- the higher of two actions
abbrev pub higher : Action → Action → Action
higher a b = if nat_lt (rank a) (rank b) then b else a

-- the action of a restriction found for an OID, else another
abbrev pub action_or : Action → Option Restriction → Action
action_or default None = default
action_or default (Some r) = r.action

-- the action that a list of restrictions has for an OID, else another
abbrev pub action_for : List Restriction → List ℕ → Action → Action
action_for restrictions oid default = action_or default (find (λ r. bytes_eq r.oid oid) restrictions)

-- the action that a kind of request begins with: Add, Modify, Delete and ModifyDN write
abbrev pub own_action : OpKind → Action
own_action Modify = Write
own_action Add = Write
own_action Delete = Write
own_action ModifyDn = Write
own_action _ = Ignore

-- the highest of an action and the actions of these controls
abbrev pub highest : Settings → Action → List Control → Action
highest s a [] = a
highest s a (c ∷ cs) = highest s (higher a (action_for s.control_restrictions c.oid Ignore)) cs

-- the highest of an action and those of the controls that were read
abbrev pub with_controls : Settings → Action → Option (List Control) → Action
with_controls s a None = Ignore
with_controls s a (Some cs) = highest s a cs

-- the effective action of a request with these controls; an Extended request has that of its name, else that of 1.1;
-- one whose request or controls can't be read has none
abbrev pub action_by : Settings → Option (List Control) → Option Request → Action
action_by s cs (Some (PlainRequest kind)) = with_controls s (own_action kind) cs
action_by s None (Some (ExtendedRequest name)) = Ignore
action_by s (Some cs) (Some (ExtendedRequest name)) =
    action_for s.exop_restrictions name (action_for s.exop_restrictions (codes "1.1") Ignore)
action_by s cs _ = Ignore

-- the effective action of a rest
abbrev pub action : Settings → List ℕ → Action
action s rest = action_by s (controls rest) (request rest)

-- a choice of a connection that the client learned for an operation which was live, with the operation as it stands at
-- the place
pub record Choice : Type 0 where
  pub operation : Operation
  pub connection : ℕ

-- the choice that an operation and an answer make
abbrev pub choice_of : Operation → Answer → List Choice
choice_of o (Go n backend) = record { operation = o; connection = n } ∷ []
choice_of o _ = []

-- the choice that an entry marks at this place, where its operation was live when it came; it is looked up in the whole
-- list up to the place that is asked for
abbrev pub choice_made : ℕ → List Entry → List Entry → Option (Named Answer) → List Choice
choice_made c place before None = []
choice_made c place before (Some x) =
    if is_live_at c before x.op then elim (operation_in c place x.op) [ None ↦ [] | Some o ↦ choice_of o x.value ]
    else []

-- the choices among these entries, behind those before
abbrev pub choices_from : ℕ → List Entry → List Entry → List Entry → List Choice
choices_from c place before [] = []
choices_from c place before (e ∷ es) =
    choice_made c place before (chosen e.what) ++ choices_from c place (before ++ e ∷ []) es

-- whether an operation came behind this Bind
abbrev pub is_behind : Option Operation → Operation → Bool
is_behind None o = true
is_behind (Some b) o = nat_lt b.name.k o.name.k

-- the choices at a place of a client's list, since its last Bind
abbrev pub choices : ℕ → List Entry → List Choice
choices c place = filter (λ x. is_behind (last_bind c place) x.operation) (choices_from c place [] place)

-- the choices of operations with this action
abbrev pub with_action : Settings → Action → List Choice → List Choice
with_action s a cs = filter (λ x. is_action a (action s x.operation.request.rest)) cs

-- the latest of the moments at which these operations ended, or this moment
abbrev pub latest_end : ℕ → List Choice → ℕ
latest_end at [] = at
latest_end at (x ∷ xs) = latest_end (elim (ending x.operation) [ None ↦ at | Some e ↦ max at e.at ]) xs

-- the connection, and the backend, of the first of some choices
abbrev pub connection_of : Option Choice → Option ℕ
connection_of None = None
connection_of (Some x) = Some x.connection

abbrev pub backend_by : Settings → Option Choice → Option ℕ
backend_by s None = None
backend_by s (Some x) = Some (backend_of s x.connection)

-- how many of some choices are of live operations
abbrev pub live_count : List Choice → ℕ
live_count xs = length (filter (λ x. is_live x.operation) xs)

-- what these choices say of the window
abbrev pub standing_by : Settings → List Choice → Standing
standing_by s xs =
    record {
      seconds = s.write_coherence;
      connection = connection_of (first (with_action s BindConnection xs));
      backend = backend_by s (first (with_action s BindBackend xs));
      write = backend_by s (last (with_action s Write xs));
      live = live_count (with_action s Write xs);
      ended = latest_end 0 (with_action s Write xs);
    }

-- what a client is bound to at a place of its list and a moment
abbrev pub binding : Settings → ℕ → List Entry → ℕ → Bound
binding s c place t = binding_of (standing_by s (choices c place)) t

-- whether an action binds its client to where an operation goes, with write coherence for so long (this project's own)
abbrev pub restricts : Settings → Action → Bool
restricts s a =
    is_action BindConnection a || is_action BindBackend a || is_action Write a && has_coherence s.write_coherence

-- whether an operation lets its client's later messages wait: a Bind, or one whose action restricts them and that has
-- no choice yet
abbrev pub makes_wait : Settings → Bool → Action → Bool → Bool
makes_wait s is_a_bind a is_chosen = is_a_bind || restricts s a && not is_chosen

-- the kind of connection for a request
abbrev pub kind_wanted : Message → ConnKind
kind_wanted m = if is_request_of Bind m then BindKind else Regular

-- what the desk should be asked for a request of a client that is bound so: a free bind connection for a Bind, else a
-- regular one as the client is bound
abbrev pub want_by : Message → Bound → Want
want_by m bound =
    elim (is_request_of Bind m) [
      | true ↦ record { kind = BindKind; bound = Free }
      | false ↦ record { kind = Regular; bound = bound }
    ]

-- what it should be asked for an operation, as its client is bound at its In
abbrev pub want_of : Settings → Operation → Want
want_of s o = want_by o.request (binding s o.name.client o.before o.at)

-- whether an Asked wants what it should
abbrev pub is_rightly_asked : Settings → Family → Entry → Bool
is_rightly_asked s F e =
    where_there (λ a. passes (λ o. same_want a.value (want_of s o)) (operation F a.op)) (asked e.what)

-- each Asked wants what it should
abbrev pub each_asked_rightly : Settings → Family → Bool
each_asked_rightly s F = list_all (is_rightly_asked s F) F.desk

-- each request asks for what its client is bound to
abbrev pub BoundOk : Settings → Family → Type 0
BoundOk s F = IsTrue (each_asked_rightly s F)
