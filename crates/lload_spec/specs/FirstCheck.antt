-- The checks of a request that arrives, in their order, by the facts of its client; the first that holds decides.
use Rattle.std.specs.Prelude.{ℕ, Bool, true, false, ◌==◌, ◌&&◌, not, nat_le, if◌then◌else◌, List, [], length, find, map, Option, Some, None, is_none}
use Rattle.std.specs.List.{list_any}
use Rattle.std.specs.Str.{bytes_eq}
use Rattle.ldap_spec.specs.Tags.{bind_version}
use Rattle.ldap_spec.specs.Messages.{Message}
use Rattle.ldap_spec.specs.Kinds.{kind_of, same_kind}
use Rattle.ldap_spec.specs.Requests.{Request, BindRequest, UnbindRequest, AbandonRequest, ExtendedRequest, PlainRequest, request, cancel_id}
use Rattle.ldap_spec.specs.Controls.{controls, has_control, start_tls, cancel_name, proxied_authorization}
use Rattle.lload_names.specs.declared.names.Entry.{Entry}
use Rattle.lload_names.specs.declared.names.OpKind.{OpKind}
use Rattle.lload_names.specs.declared.names.OpKind.TheVariants.{Bind}
use Rattle.lload_names.specs.declared.names.CancelAnswer.{CancelAnswer}
use Rattle.lload_names.specs.declared.names.CancelAnswer.TheVariants.{C14, C15, C16}
use Rattle.lload_names.specs.declared.names.EndWhy.{EndWhy}
use Rattle.lload_names.specs.declared.names.EndWhy.TheVariants.{ZeroId, IdInUse, Unreadable}
use Rattle.lload_names.specs.declared.names.Refusal.{Refusal}
use Rattle.lload_names.specs.declared.names.Refusal.TheVariants.{C2, C6, C7, C8, C10, C11}
use Rattle.lload_spec.specs.Lists.{passes}
use Rattle.lload_spec.specs.Settings.{Settings, Reject, is_privileged}
use Rattle.lload_spec.specs.Journal.{Family}
use Rattle.lload_spec.specs.Entries.{makes_operation}
use Rattle.lload_spec.specs.Operations.{live_operations, last_bind, is_request_of}
use Rattle.lload_spec.specs.Fifo.{is_in_progress}
use Rattle.lload_spec.specs.Identity.{identity}
use Rattle.lload_spec.specs.Binding.{action, is_action}

-- what the first check that holds does: it ends the client with the protocol error notice, or takes an Unbind or an
-- Abandon, or refuses the request, or answers a Cancel, or ends the live operation that a Cancel names; else the
-- request goes on
pub data Check : Type 0 where
  Ends : EndWhy → Check
  Unbinds : Check
  Abandons : ℕ → Check
  Refuses : Refusal → Check
  Answers : CancelAnswer → Check
  Cancels : ℕ → OpKind → Check
  GoesOn : Check

-- a live operation: its identifier, and its kind, where its request has one
pub record LiveRequest : Type 0 where
  pub id : ℕ
  pub kind : Option OpKind

abbrev pub live_request : Message → LiveRequest
live_request m = record { id = m.id; kind = kind_of m.rest }

-- what the checks ask of a client, before the request: its live operations by rising number, its identity, and whether
-- it is between the steps of a SASL exchange
pub record ClientFacts : Type 0 where
  pub live : List LiveRequest
  pub identity : List ℕ
  pub in_exchange : Bool

-- whether the identifier is one of a live operation
abbrev pub is_in_use : ClientFacts → ℕ → Bool
is_in_use f id = list_any (λ x. x.id == id) f.live

-- whether a client that isn't privileged asks for proxied authorization itself, with the feature on (RFC 4370)
abbrev pub is_proxied_already : Settings → ClientFacts → List ℕ → Bool
is_proxied_already s f rest =
    s.proxies_authorization && has_control proxied_authorization rest && not (is_privileged s f.identity)

-- whether as many operations are live as a client may have (client_max_pending in lloadd.conf(5))
abbrev pub is_full : Settings → ClientFacts → Bool
is_full s f = not (s.client_max_pending == 0) && nat_le s.client_max_pending (length f.live)

-- the checks of identity, restrictions and count
abbrev pub check_restrictions : Settings → ClientFacts → List ℕ → Check
check_restrictions s f rest =
    if is_proxied_already s f rest then Refuses C8
    else if is_action Reject (action s rest) then Refuses C6
    else if is_full s f then Refuses C2
    else GoesOn

-- whether a live operation has this identifier and isn't a Bind
abbrev pub may_be_canceled : ℕ → LiveRequest → Bool
may_be_canceled id x = x.id == id && not (passes (same_kind Bind) x.kind)

-- the end of a live operation by a Cancel, where its request has a kind
abbrev pub cancels : Option LiveRequest → Check
cancels None = Answers C14
cancels (Some x) = elim x.kind [ None ↦ Answers C14 | Some kind ↦ Cancels x.id kind ]

-- the check of a Cancel with this identifier that names another: its value can be read, it doesn't name itself, and a
-- live operation other than a Bind has the named identifier (RFC 3909, section 2.3)
abbrev pub check_cancel : ClientFacts → ℕ → Option ℕ → Check
check_cancel f id None = Answers C16
check_cancel f id (Some named) =
    elim (named == id) [ true ↦ Answers C15 | false ↦ cancels (find (may_be_canceled named) f.live) ]

-- the checks of a request other than Bind, Unbind and Abandon, with its name where it is extended: its controls can be
-- read, no exchange is in progress, it isn't StartTLS or Cancel
abbrev pub check_named : Settings → ClientFacts → Message → List ℕ → Check
check_named s f m name =
    if is_none (controls m.rest) then Ends Unreadable
    else if f.in_exchange then Refuses C7
    else if bytes_eq name start_tls then Refuses C10
    else if bytes_eq name cancel_name then check_cancel f m.id (cancel_id m.rest)
    else check_restrictions s f m.rest

-- the checks of a request that was read; a Bind has to have version 3 (RFC 4511, 4.2)
abbrev pub check_request : Settings → ClientFacts → Message → Option Request → Check
check_request s f m None = Ends Unreadable
check_request s f m (Some (BindRequest version name method)) = if version == bind_version then GoesOn else Refuses C11
check_request s f m (Some UnbindRequest) = Unbinds
check_request s f m (Some (AbandonRequest id)) = Abandons id
check_request s f m (Some (ExtendedRequest name)) = check_named s f m name
check_request s f m (Some (PlainRequest _)) = check_named s f m []

-- what the first check does that holds of a message, by the facts before it
abbrev pub check : Settings → ClientFacts → Message → Check
check s f m =
    if m.id == 0 then Ends ZeroId
    else if makes_operation m && is_in_use f m.id then Ends IdInUse
    else check_request s f m (request m.rest)

-- whether a check lets the request go on
abbrev pub lets_go_on : Check → Bool
lets_go_on GoesOn = true
lets_go_on _ = false

-- whether a request is a Bind that goes on with the exchange that its client is in, so that the desk isn't asked
abbrev pub is_pinned_by : Settings → ClientFacts → Message → Bool
is_pinned_by s f m = is_request_of Bind m && f.in_exchange && lets_go_on (check s f m)

-- whether the desk is asked for a request: its check lets it go on, and no exchange says where to
abbrev pub asks_desk : Settings → ClientFacts → Message → Bool
asks_desk s f m = lets_go_on (check s f m) && not (is_pinned_by s f m)

-- The facts of a client at a place of its list.

-- whether the client is between the steps of a SASL exchange: its last Bind was answered to it with saslBindInProgress
abbrev pub is_between_steps : ℕ → List Entry → Bool
is_between_steps c place = passes is_in_progress (last_bind c place)

abbrev pub client_facts : Settings → Family → ℕ → List Entry → ClientFacts
client_facts s F c place =
    record {
      live = map (λ o. live_request o.request) (live_operations c place);
      identity = identity s F c place;
      in_exchange = is_between_steps c place;
    }

-- what the first check does that holds of a message at a place of a client's list
abbrev pub first_check : Settings → Family → ℕ → List Entry → Message → Check
first_check s F c place m = check s (client_facts s F c place) m
