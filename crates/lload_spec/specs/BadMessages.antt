-- Which messages take an upstream connection down, by the facts of it (RFC 4511, 4.1.1; this project's own).
use Rattle.std.specs.Prelude.{ℕ, Bool, false, ◌==◌, ◌&&◌, ◌||◌, not, if◌then◌else◌, List, find, Option, Some, None, is_none}
use Rattle.std.specs.List.{list_any}
use Rattle.ldap_spec.specs.Tags.{bind_response, extended_response, intermediate_response}
use Rattle.ldap_spec.specs.Messages.{Message}
use Rattle.ldap_spec.specs.Kinds.{fits, is_final, is_response, same_kind, tag_of}
use Rattle.ldap_spec.specs.Responses.{result_code}
use Rattle.lload_names.specs.declared.names.OpKind.{OpKind}
use Rattle.lload_names.specs.declared.names.OpKind.TheVariants.{Bind}
use Rattle.lload_spec.specs.Lists.{passes}

-- an open operation: its identifier, its kind where its request has one, whether its success is kept back, and the
-- identifier of the Who Am I that asks for the identity behind it
pub record OpenRequest : Type 0 where
  pub id : ℕ
  pub kind : Option OpKind
  pub kept : Bool
  pub who : Option ℕ

-- what a message meets: the identifier of the own Bind that waits, the open operations, and which identifiers were
-- given
pub record MessageFacts : Type 0 where
  pub own : Option ℕ
  pub requests : List OpenRequest
  pub given : ℕ → Bool

-- whether a message is under an open operation's identifier and answers it, or is under that of its Who Am I
abbrev pub is_under : ℕ → OpenRequest → Bool
is_under id x = x.id == id && not x.kept

abbrev pub is_under_who : ℕ → OpenRequest → Bool
is_under_who id x = passes (λ who. who == id) x.who

-- whether an extended response has identifier 0, which has no effect (RFC 4511, 4.4; this project's own)
abbrev pub is_ignored : Message → Bool
is_ignored m = m.id == 0 && tag_of m.rest == extended_response

-- whether a message can't answer an open operation: its kind doesn't fit, or it ends a Bind with a code that can't be
-- read
abbrev pub is_bad_answer : Message → OpenRequest → Bool
is_bad_answer m x =
    not (passes (λ kind. fits kind m.rest) x.kind)
    || passes (same_kind Bind) x.kind && is_final Bind m.rest && is_none (result_code m.rest)

-- whether a message can't answer a Who Am I: it is neither an intermediate nor an extended response
abbrev pub is_bad_who : Message → Bool
is_bad_who m = not (tag_of m.rest == intermediate_response || tag_of m.rest == extended_response)

-- whether a message that is under nothing open can't be dropped: dropped are responses under an identifier that was
-- given
abbrev pub is_bad_stray : MessageFacts → Message → Bool
is_bad_stray f m = not (f.given m.id && is_response m.rest)

-- whether a message that answers no open operation is bad: it answers a Who Am I, or is under nothing open
abbrev pub is_bad_beside : MessageFacts → Message → Bool
is_bad_beside f m = if list_any (is_under_who m.id) f.requests then is_bad_who m else is_bad_stray f m

-- whether a message is bad, by the open operation that it answers, if there is one
abbrev pub is_bad_for : MessageFacts → Message → Option OpenRequest → Bool
is_bad_for f m None = is_bad_beside f m
is_bad_for f m (Some x) = is_bad_answer m x

-- whether a message is bad where it isn't under the own Bind
abbrev pub is_bad_other : MessageFacts → Message → Bool
is_bad_other f m = is_bad_for f m (find (is_under m.id) f.requests)

-- whether a message is under the identifier of the own Bind that waits, and whether it can't answer that
abbrev pub is_for_own : MessageFacts → Message → Bool
is_for_own f m = passes (λ id. id == m.id) f.own

abbrev pub is_bad_own : Message → Bool
is_bad_own m = not (tag_of m.rest == bind_response)

-- whether a message takes the connection down
abbrev pub is_bad : MessageFacts → Message → Bool
is_bad f m =
    if is_ignored m then false
    else if is_for_own f m then is_bad_own m
    else is_bad_other f m
