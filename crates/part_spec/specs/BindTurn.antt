-- The turns of a bind connection's part: what each input gives, a rule each. One client at a time holds it, under the
-- operation that was chosen for it. Behind its end only Forward, Drop and Leave have rules.
use Rattle.std.specs.Prelude.{ℕ, Bool, true, false, ◌&&◌, not, List, [], ◌∷◌, ◌++◌, filter, find, Some, None}
use Rattle.ldap_spec.specs.Tags.{bind_in_progress}
use Rattle.ldap_spec.specs.Messages.{Message}
use Rattle.ldap_spec.specs.Kinds.{is_intermediate}
use Rattle.ldap_spec.specs.Responses.{has_code, who_value, tells_who}
use Rattle.ldap_spec.specs.Bodies.{who_am_i}
use Rattle.lload_names.specs.declared.names.OpName.{OpName}
use Rattle.lload_names.specs.declared.names.EndWhy.TheVariants.{TimedOut, Unfinished}
use Rattle.lload_names.specs.declared.names.Refusal.TheVariants.{C4, C5, C9}
use Rattle.lload_names.specs.declared.names.Posted.{Posted}
use Rattle.lload_names.specs.declared.names.Letter.{Letter}
use Rattle.lload_names.specs.declared.names.Letter.TheVariants.{Forward, Drop, Leave}
use Rattle.lload_names.specs.declared.names.What.TheVariants as what
use Rattle.lload_spec.specs.Lists.{passes}
use Rattle.lload_spec.specs.Journal.{same_op}
use Rattle.lload_spec.specs.Settings.{Settings}
use Rattle.lload_spec.specs.Identifiers.{id_for}
use Rattle.lload_names.specs.declared.inputs.Input.{Input}
use Rattle.lload_names.specs.declared.inputs.Input.TheVariants.{LinkUp, Message as MessageIn, LetterFrom, Tick}
use Rattle.part_spec.specs.Inputs.{Act, act, nothing, also, letter_of, reply, failed}
use Rattle.part_spec.specs.ConnectionState.{ConnectionState, UpRow, is_there, is_stopped, is_under, is_under_who, keeps_back}
use Rattle.part_spec.specs.ConnectionTurn.{ended, holder_ended, is_due, giving, retires, goes_down, comes_up, takes_down, with_drained, where_so}

-- linked: a bind connection is up at once
abbrev pub link_up : ConnectionState → Act
link_up p = also (act (what.Linked ∷ []) []) (comes_up p)

-- a success is kept back, and the identity behind it is asked for (RFC 4532)
abbrev pub keep_back : Settings → ConnectionState → Act
keep_back s p = act (giving s p.ids.next (what.Own p.ids.next who_am_i)) (retires s p p.ids.next)

-- a Bind response: it goes to the client; unless its exchange goes on, its holder lets go of the connection
abbrev pub bind_answer : Settings → ConnectionState → List ℕ → UpRow → Act
bind_answer s p rest r =
    elim (has_code bind_in_progress rest) [
      | true ↦ act [] (reply r.op rest true None)
      | false ↦ elim (keeps_back r rest) [
        | true ↦ keep_back s p
        | false ↦ act [] (reply r.op rest true None ++ holder_ended p)
      ]
    ]

-- an answer to the live Bind
abbrev pub row_answer : Settings → ConnectionState → List ℕ → UpRow → Act
row_answer s p rest r =
    elim (is_intermediate rest) [
      | true ↦ act [] (reply r.op rest false None)
      | false ↦ bind_answer s p rest r
    ]

-- the answer that is kept back
abbrev pub kept_rest : UpRow → List ℕ
kept_rest r = elim r.kept [ None ↦ [] | Some k ↦ k.rest ]

-- the letters of an answer to Who Am I: the kept answer goes to the client with the identity, or the Bind is refused
abbrev pub identity_letters : UpRow → List ℕ → List Posted
identity_letters r rest =
    elim (tells_who rest) [
      | true ↦ reply r.op (kept_rest r) true (who_value rest)
      | false ↦ failed r.op C9
    ]

-- an answer to Who Am I
abbrev pub who_answer : ConnectionState → List ℕ → UpRow → Act
who_answer p rest r =
    elim (is_intermediate rest) [ true ↦ nothing | false ↦ act [] (identity_letters r rest ++ holder_ended p) ]

-- what a message that isn't bad gives; while Who Am I waits, the Bind's own identifier is one that isn't in use
abbrev pub answered : Settings → ConnectionState → Message → Act
answered s p m =
    elim (find (is_under m.id) p.rows) [
      | Some r ↦ row_answer s p m.rest r
      | None ↦ elim (find (is_under_who m.id) p.rows) [ Some r ↦ who_answer p m.rest r | None ↦ nothing ]
    ]

abbrev pub message : Settings → ConnectionState → Message → Act
message s p m = also (act (what.Got m.id m.rest ∷ []) []) (takes_down p m (answered s p m))

-- whether this operation holds the connection
abbrev pub holds : ConnectionState → OpName → Bool
holds p holder = passes (same_op holder) p.holder

-- whether it held the connection when this went down, where its end was given
abbrev pub was_lost : ConnectionState → OpName → Bool
was_lost p holder = passes (same_op holder) p.lost

-- the end of a holder whose Forward is missed, unless it was given before
abbrev pub missed_ended : ConnectionState → OpName → List Posted
missed_ended p holder = elim (was_lost p holder) [ true ↦ [] | false ↦ ended p holder None ]

-- the letters of a Bind that is missed
abbrev pub missed_letters : ConnectionState → OpName → OpName → List Posted
missed_letters p op holder = failed op C4 ++ missed_ended p holder

-- a Forward: it is sent, and its holder holds the connection; or it is missed where the connection takes no further
-- operations
abbrev pub forwards : Settings → ConnectionState → OpName → List ℕ → OpName → Act
forwards s p op rest holder =
    elim (is_stopped p) [
      | true ↦ act (what.Missed op ∷ []) (missed_letters p op holder)
      | false ↦ act (giving s (id_for p.ids) (what.Sent (id_for p.ids) op rest)) (retires s p (id_for p.ids))
    ]

-- a Leave: the holder's exchange is unfinished, so that the connection goes down; any other Leave is idle
abbrev pub leaves : ConnectionState → OpName → Act
leaves p holder =
    elim (holds p holder && not p.down) [ true ↦ goes_down p Unfinished | false ↦ act (what.Idle holder ∷ []) [] ]

-- a letter; no Drop comes to a bind connection, so there is nothing for it to end
abbrev pub letter : Settings → ConnectionState → Letter → Act
letter s p (Forward op _ rest _ holder) = forwards s p op rest holder
letter s p (Drop op) = act (what.Idle op ∷ []) []
letter s p (Leave holder) = leaves p holder
letter s p _ = nothing

-- the live Bind expires, and takes the connection down
abbrev pub expires : ConnectionState → UpRow → Act
expires p r =
    also (act (what.Expired r.op ∷ []) (failed r.op C5))
    (goes_down (record p { rows = filter (λ x. not (same_op r.op x.op)) p.rows }) TimedOut)

-- a clock step
abbrev pub ticks : Settings → ConnectionState → ℕ → Act
ticks s p at = elim (find (is_due s at) p.rows) [ None ↦ nothing | Some r ↦ expires p r ]

-- what an input gives at a moment, but for the end of a drained connection
abbrev pub bind_rule : Settings → ConnectionState → ℕ → Input → Act
bind_rule s p at (LinkUp now) = where_so (not p.linked) (link_up p)
bind_rule s p at (MessageIn now id rest) = where_so (is_there p) (message s p (record { id = id; rest = rest }))
bind_rule s p at (LetterFrom now word sender l) = where_so p.linked (letter s p l)
bind_rule s p at (Tick now) = where_so (is_there p) (ticks s p at)
bind_rule s p at _ = nothing

-- what an input gives at a moment
abbrev pub bind_act : Settings → ConnectionState → ℕ → Input → Act
bind_act s p at input = with_drained s at (letter_of input) p (bind_rule s p at input)
