-- The identity of a client, and what each forwarded request carries of it.
use Rattle.std.specs.Prelude.{ℕ, Bool, true, ◌==◌, ◌||◌, not, if◌then◌else◌, List, [], ◌++◌, length, Option, Some, None, IsTrue, unwrap_or, codes}
use Rattle.std.specs.List.{list_all}
use Rattle.std.specs.Str.{bytes_eq}
use Rattle.ldap_spec.specs.Tags.{success}
use Rattle.ldap_spec.specs.Messages.{Message}
use Rattle.ldap_spec.specs.Requests.{Request, BindRequest, Simple, request}
use Rattle.ldap_spec.specs.Responses.{has_code, who_value}
use Rattle.ldap_spec.specs.Controls.{Control, proxied_authorization, with_first}
use Rattle.lload_names.specs.declared.names.Entry.{Entry}
use Rattle.lload_names.specs.declared.names.OpKind.TheVariants.{Bind}
use Rattle.lload_spec.specs.Lists.{passes}
use Rattle.lload_spec.specs.Settings.{Settings, is_privileged}
use Rattle.lload_spec.specs.Journal.{Family}
use Rattle.lload_spec.specs.Operations.{Operation, operation, is_request_of, last_bind, got_final}
use Rattle.lload_spec.specs.Answers.{Sending, all_sendings, closing}

-- the identity of a simple Bind: dn: and the name, where name and password both aren't empty (RFC 4513, 5.1)
abbrev pub simple_identity : List ℕ → List ℕ → List ℕ
simple_identity name password = if length name == 0 || length password == 0 then [] else codes "dn:" ++ name

-- the identity that a successful Bind request gives: by name and password, or by what Who Am I told of it, with proxied
-- authorization on (RFC 4513, 5.1; RFC 4532)
abbrev pub identity_of : Settings → Option (List ℕ) → Option Request → List ℕ
identity_of s who (Some (BindRequest version name (Simple password))) = simple_identity name password
identity_of s who _ = if s.proxies_authorization then unwrap_or who [] else []

-- the identity that the answer which settles a Bind tells
abbrev pub who_by : Option (List ℕ) → Option (List ℕ)
who_by None = None
who_by (Some answer) = who_value answer

-- the identity that a Bind gives its client: none before a final Out of success stands under it
abbrev pub identity_by : Settings → Family → Operation → List ℕ
identity_by s F b =
    if got_final (has_code success) b then identity_of s (who_by (closing s F b)) (request b.request.rest) else []

-- the identity of a client at a place of its list: what its last Bind before the place gave there, none where there is
-- none
abbrev pub identity : Settings → Family → ℕ → List Entry → List ℕ
identity s F c place = elim (last_bind c place) [ None ↦ [] | Some b ↦ identity_by s F b ]

-- the critical control that carries an identity (RFC 4370)
abbrev pub identity_control : List ℕ → Control
identity_control who = record { oid = proxied_authorization; critical = true; value = Some who }

-- what goes upstream: the rest itself without proxied authorization and for the privileged identity, else with the
-- identity first in its control list
abbrev pub proxied : Settings → List ℕ → List ℕ → List ℕ
proxied s rest who =
    if not s.proxies_authorization || is_privileged s who then rest else with_first (identity_control who) rest

-- what a request carries upstream for a client of this identity: a Bind goes as it came
abbrev pub carried_for : Settings → Message → List ℕ → List ℕ
carried_for s m who = if is_request_of Bind m then m.rest else proxied s m.rest who

-- what an operation should carry: its request, with its client's identity at its In
abbrev pub carried : Settings → Family → Operation → List ℕ
carried s F o = carried_for s o.request (identity s F o.name.client o.before)

-- whether a Sent carries its own client's identity
abbrev pub has_own_identity : Settings → Family → Sending → Bool
has_own_identity s F sent = passes (λ o. bytes_eq sent.rest (carried s F o)) (operation F sent.op)

-- each Sent carries its own client's identity
abbrev pub each_sent_identified : Settings → Family → Bool
each_sent_identified s F = list_all (has_own_identity s F) (all_sendings F)

-- each forwarded request carries its own client's identity
abbrev pub OwnIdentity : Settings → Family → Type 0
OwnIdentity s F = IsTrue (each_sent_identified s F)
