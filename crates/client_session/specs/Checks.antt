-- The first check of a message, by what the part knows.
use Rattle.std.specs.Prelude.{◌≡◌, ℕ, Bool, List, [], map, Option, Some, None}
use Rattle.lload_names.specs.declared.names.OpKind.{OpKind}
use Rattle.lload_spec.specs.Settings.{Settings}
use Rattle.lload_spec.specs.Binding.{action}
use Rattle.lload_spec.specs.FirstCheck.{Check as CheckRead, Ends, Unbinds, Abandons, Refuses, Answers, Cancels, GoesOn, LiveRequest, ClientFacts}
use Rattle.proxy_authz.specs.Carrying.{own_name}
use Rattle.restrictions.specs.Actions.{action_view}
use Rattle.restrictions.specs.Table.{HasRestrictions}
use Rattle.ldap_messages.specs.declared.requests.Request.{Request}
use Rattle.ldap_messages.specs.declared.requests.Request.TheVariants.{Extended}
use Rattle.client_rows.specs.declared.row.Row.{Row}
use Rattle.client_session.specs.declared.settings.ClientSettings.{ClientSettings}
use Rattle.client_session.specs.declared.part.ClientPart.{ClientPart}
use Rattle.client_session.specs.declared.check.Check.{Check}
use Rattle.client_session.specs.declared.check.Check.TheVariants as kept

-- settings of the proxy that have those of the part
pub record Agrees (s : Settings) (c : ClientSettings) : Type 0 where
  pub most : s.client_max_pending ≡ c.max_pending
  pub proxies : s.proxies_authorization ≡ c.proxyauthz
  pub own : own_name s ≡ c.binddn
  pub coherence : s.write_coherence ≡ c.write_coherence
  pub restrictions : HasRestrictions s c.restrictions

-- what the checks ask of a live operation
abbrev pub live_row : Row → LiveRequest
live_row r = record { id = r.id; kind = Some r.kind }

-- what they ask of the client
abbrev pub facts : ClientPart → ClientFacts
facts d = record { live = map live_row d.operations.rows; identity = d.identity; in_exchange = d.in_exchange }

-- what a check does
abbrev pub check_view : Check → CheckRead
check_view (kept.Ends why) = Ends why
check_view kept.Unbinds = Unbinds
check_view (kept.Abandons id) = Abandons id
check_view (kept.Refuses which) = Refuses which
check_view (kept.Answers which) = Answers which
check_view (kept.Cancels id kind) = Cancels id kind
check_view (kept.GoesOn a) = GoesOn

-- where the request goes on, its action is that of its rest
abbrev pub HasAction : Settings → List ℕ → Check → Type 0
HasAction s rest (kept.GoesOn a) = action_view a ≡ action s rest
HasAction s rest _ = Unit {0}

-- the name of an Extended request, and none of another
abbrev pub name_of : Request → List ℕ
name_of (Extended name) = name.now
name_of _ = []
