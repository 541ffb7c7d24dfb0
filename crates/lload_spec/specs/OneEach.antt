-- Identifiers of an upstream connection are given in order, and again where they are free; a bind connection has one
-- holder at a time; own messages have a reason.
use Rattle.std.specs.Prelude.{ℕ, Bool, false, ◌==◌, ◌&&◌, ◌||◌, not, nat_le, List, [], ◌∷◌, ◌++◌, length, filter, IsTrue, is_some, is_none}
use Rattle.std.specs.List.{list_any, list_all}
use Rattle.ldap_spec.specs.Tags.{success}
use Rattle.ldap_spec.specs.Messages.{Message}
use Rattle.ldap_spec.specs.Responses.{has_code}
use Rattle.ldap_spec.specs.Bodies.{simple_bind, abandon, who_am_i}
use Rattle.lload_names.specs.declared.names.Entry.{Entry}
use Rattle.lload_names.specs.declared.names.OpKind.TheVariants.{Bind}
use Rattle.lload_names.specs.declared.names.ConnKind.TheVariants.{Regular, Bind as BindKind}
use Rattle.lload_spec.specs.Lists.{passes, last, first_passes, last_passes, each_split, implies, where_there}
use Rattle.lload_spec.specs.Settings.{Settings, is_of_kind}
use Rattle.lload_spec.specs.Journal.{Family}
use Rattle.lload_spec.specs.Identifiers.{each_id_right}
use Rattle.lload_spec.specs.Entries.{own_message, got_message, is_own, is_linked, is_expired}
use Rattle.lload_spec.specs.Operations.{Operation, is_of, is_final_for, is_ended_by_client}
use Rattle.lload_spec.specs.Answers.{Sending, sendings, of_operation, final_answer, closing_at, is_left_in_progress, asks_who, is_open, is_reigning, is_last_sent}

-- whether a Bind is settled at the end of the list that its Sent was taken from, and another client may follow: it is
-- settled, and its final answer isn't saslBindInProgress, or the client is the same
abbrev pub is_followed_by : Settings → ℕ → Operation → Sending → Bool
is_followed_by s client o sent =
    is_some (closing_at s o sent)
    && (o.name.client == client || not (is_left_in_progress o sent))

-- on a bind connection the Bind before this Sent is settled, and left the connection to this client
abbrev pub has_free_way : Settings → Family → ℕ → Sending → Bool
has_free_way s F u sent =
    where_there (λ before. of_operation F (is_followed_by s sent.op.client) before) (last (sendings u sent.before))

-- whether a regular connection begins with an own Bind
abbrev pub begins_with_bind : Settings → ℕ → Bool
begins_with_bind s u = is_of_kind s Regular u && is_some s.own_bind

-- whether an entry is the own Bind of the settings
abbrev pub is_own_bind : Settings → Entry → Bool
is_own_bind s e = passes (λ own. is_own (simple_bind own.dn own.credentials) e) s.own_bind

-- whether an entry is directly where the own Bind is due: behind Linked
abbrev pub is_bind_due : Settings → ℕ → Entry → Bool
is_bind_due s u e = begins_with_bind s u && is_linked e.what

-- whether a Got answers this open Bind, whose success is kept back, with success, in its reign
abbrev pub succeeds : Settings → Message → Operation → Sending → Bool
succeeds s m o sent =
    asks_who s o && is_reigning sent && is_open s o sent && is_none (final_answer o sent)
    && (m.id == sent.id && is_final_for o.request m.rest && has_code success m.rest)

-- whether an entry is directly where Who Am I is due: behind the Got that answered such a Bind so
abbrev pub is_who_due : Settings → Family → ℕ → List Entry → Entry → Bool
is_who_due s F u place e =
    passes (λ m. list_any (of_operation F (succeeds s m)) (sendings u place)) (got_message e.what)

-- the own Bind stands directly behind each Linked where one is configured, and Who Am I where it is due
abbrev pub has_due_messages : Settings → Family → ℕ → List Entry → Entry → List Entry → Bool
has_due_messages s F u place e behind =
    implies (is_bind_due s u e) (first_passes (is_own_bind s) behind)
    && implies (is_who_due s F u place e) (first_passes (is_own who_am_i) behind)

-- whether the operation of a Sent may be abandoned at the end of this place: it isn't a Bind, and its client ended it,
-- or it expired just before
abbrev pub may_be_abandoned : List Entry → Operation → Sending → Bool
may_be_abandoned place o sent = not (is_of Bind o) && (is_ended_by_client o || last_passes (is_expired o.name) place)

-- whether an own message is an Abandon that names the last Sent with an identifier, which is of such an operation
abbrev pub is_due_abandon : Family → ℕ → List Entry → Entry → Bool
is_due_abandon F u place e =
    list_any (λ sent. is_last_sent sent && is_own (abandon sent.id) e && of_operation F (may_be_abandoned place) sent)
    (sendings u place)

-- whether Who Am I is due directly behind the last of these entries, which stand behind those before
abbrev pub last_is_who_due : Settings → Family → ℕ → List Entry → List Entry → Bool
last_is_who_due s F u before [] = false
last_is_who_due s F u before (e ∷ []) = is_who_due s F u before e
last_is_who_due s F u before (e ∷ f ∷ es) = last_is_who_due s F u (before ++ e ∷ []) (f ∷ es)

-- each own message is the own Bind, Who Am I or an Abandon, where it is due
abbrev pub is_due_own : Settings → Family → ℕ → List Entry → Entry → Bool
is_due_own s F u place e =
    is_own_bind s e && last_passes (is_bind_due s u) place || is_own who_am_i e && last_is_who_due s F u [] place
    || is_due_abandon F u place e

-- each own message has its reason
abbrev pub has_reason : Settings → Family → ℕ → List Entry → Entry → Bool
has_reason s F u place e = implies (is_some (own_message e.what)) (is_due_own s F u place e)

-- whether at most one Abandon names the identifier of a Sent
abbrev pub is_named_once : List Entry → Sending → Bool
is_named_once list sent = nat_le (length (filter (is_own (abandon sent.id)) list)) 1

-- on a bind connection each Sent has free way
abbrev pub has_one_holder : Settings → Family → ℕ → Bool
has_one_holder s F u = implies (is_of_kind s BindKind u) (list_all (has_free_way s F u) (sendings u (F.connection u)))

abbrev pub has_own_messages : Settings → Family → ℕ → Bool
has_own_messages s F u =
    each_split (λ place e behind. has_due_messages s F u place e behind && has_reason s F u place e) (F.connection u)
    && list_all (is_named_once (F.connection u)) (sendings u (F.connection u))

-- each bind connection has one holder at a time
abbrev pub each_holder_alone : Settings → Family → Bool
each_holder_alone s F = list_all (has_one_holder s F) F.connections

-- each own message has its reason, and stands where it is due
abbrev pub each_own_reasoned : Settings → Family → Bool
each_own_reasoned s F = list_all (has_own_messages s F) F.connections

-- whether each upstream connection gives identifiers in order, has one holder at a time, and sends own messages for a
-- reason
abbrev pub keeps_one_each : Settings → Family → Bool
keeps_one_each s F = each_id_right s F && each_holder_alone s F && each_own_reasoned s F

-- each upstream connection gives identifiers in order, has one holder at a time, and sends own messages for a reason
pub record OneEach (s : Settings) (F : Family) : Type 0 where
  pub ids_right : IsTrue (each_id_right s F)
  pub holder_alone : IsTrue (each_holder_alone s F)
  pub own_reasoned : IsTrue (each_own_reasoned s F)
