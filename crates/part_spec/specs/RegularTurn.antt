-- The turns of a regular connection's part: what each input gives, a rule each. A connection begins with LinkUp; behind
-- its end only Forward, Drop, Pause and Resume have rules, and while it holds no message has one.
use Rattle.std.specs.Prelude.{ℕ, suc, Bool, true, false, ◌&&◌, not, List, [], ◌∷◌, ◌++◌, filter, find, Some, None}
use Rattle.ldap_spec.specs.Tags.{success}
use Rattle.ldap_spec.specs.Messages.{Message}
use Rattle.ldap_spec.specs.Kinds.{is_final}
use Rattle.ldap_spec.specs.Responses.{has_code}
use Rattle.ldap_spec.specs.Bodies.{abandon, simple_bind}
use Rattle.lload_names.specs.declared.names.OpName.{OpName}
use Rattle.lload_names.specs.declared.names.EndWhy.TheVariants.{OwnBind as OwnBindFailed, TimedOut}
use Rattle.lload_names.specs.declared.names.Refusal.TheVariants.{C4, C5}
use Rattle.lload_names.specs.declared.names.Posted.{Posted}
use Rattle.lload_names.specs.declared.names.Letter.{Letter}
use Rattle.lload_names.specs.declared.names.Letter.TheVariants.{Forward, Drop, Pause, Resume}
use Rattle.lload_names.specs.declared.names.What.TheVariants as what
use Rattle.lload_spec.specs.Lists.{passes}
use Rattle.lload_spec.specs.Settings.{Settings}
use Rattle.lload_spec.specs.CausedUp.{is_past}
use Rattle.lload_spec.specs.Identifiers.{id_for}
use Rattle.lload_names.specs.declared.inputs.Input.{Input}
use Rattle.lload_names.specs.declared.inputs.Input.TheVariants.{LinkUp, Message as MessageIn, LetterFrom, Tick}
use Rattle.part_spec.specs.Inputs.{Act, act, nothing, also, letter_of, reply, failed}
use Rattle.part_spec.specs.ConnectionState.{ConnectionState, UpRow, is_there, is_holding, is_stopped, is_under, is_under_own, row_named}
use Rattle.part_spec.specs.ConnectionTurn.{ended, latency, is_due, giving, retires, goes_down, comes_up, takes_down, with_drained, where_so}

-- linked: the own Bind goes first where one is configured, else the connection is up
abbrev pub link_up : Settings → ConnectionState → Act
link_up s p =
    also (act (what.Linked ∷ []) [])
    (elim s.own_bind [
      | None ↦ comes_up p
      | Some own ↦
          act (giving s p.ids.next (what.Own p.ids.next (simple_bind own.dn own.credentials)))
          (retires s p p.ids.next)
    ])

-- the answer to the own Bind: a Bind response of code 0 brings the connection up, another takes it down
abbrev pub own_answer : ConnectionState → Message → Act
own_answer p m = elim (has_code success m.rest) [ true ↦ comes_up p | false ↦ goes_down p OwnBindFailed ]

-- an answer to an operation: it goes to the client, and a final one ends the operation
abbrev pub row_answer : ConnectionState → ℕ → Message → UpRow → Act
row_answer p at m r =
    elim (is_final r.kind m.rest) [
      | false ↦ act [] (reply r.op m.rest false None)
      | true ↦ act [] (reply r.op m.rest true None ++ ended p r.op (latency at r))
    ]

-- what a message that isn't bad gives: the own Bind's answer, an operation's, or nothing
abbrev pub answered : ConnectionState → ℕ → Message → Act
answered p at m =
    elim (is_under_own p m.id) [
      | true ↦ own_answer p m
      | false ↦ elim (find (is_under m.id) p.rows) [ None ↦ nothing | Some r ↦ row_answer p at m r ]
    ]

abbrev pub message : ConnectionState → ℕ → Message → Act
message p at m = also (act (what.Got m.id m.rest ∷ []) []) (takes_down p m (answered p at m))

-- the letters of an operation that is missed
abbrev pub missed_letters : ConnectionState → OpName → List Posted
missed_letters p op = failed op C4 ++ ended p op None

-- a Forward: it is sent, or missed where the connection takes no further operations
abbrev pub forwards : Settings → ConnectionState → OpName → List ℕ → Act
forwards s p op rest =
    elim (is_stopped p) [
      | true ↦ act (what.Missed op ∷ []) (missed_letters p op)
      | false ↦ act (giving s (id_for p.ids) (what.Sent (id_for p.ids) op rest)) (retires s p (id_for p.ids))
    ]

-- a live operation is abandoned
abbrev pub abandons : Settings → ConnectionState → UpRow → Act
abandons s p r =
    act (giving s p.ids.next (what.Own p.ids.next (abandon r.id))) (ended p r.op None ++ retires s p p.ids.next)

-- a Drop
abbrev pub drops : Settings → ConnectionState → OpName → Act
drops s p op = elim (row_named p op) [ None ↦ act (what.Idle op ∷ []) [] | Some r ↦ abandons s p r ]

-- a letter
abbrev pub letter : Settings → ConnectionState → Letter → Act
letter s p (Forward op _ rest _ _) = forwards s p op rest
letter s p (Drop op) = drops s p op
letter s p (Pause client) = act (what.Paused client ∷ []) []
letter s p (Resume client) = act (what.Resumed client ∷ []) []
letter s p _ = nothing

-- a due operation expires, and is abandoned under this identifier
abbrev pub expires : Settings → ConnectionState → ℕ → UpRow → Act
expires s p id r =
    act (what.Expired r.op ∷ giving s id (what.Own id (abandon r.id)))
    (failed r.op C5 ++ (ended p r.op None ++ retires s p id))

-- these expire, with identifiers from this one on
abbrev pub expire : Settings → ConnectionState → ℕ → List UpRow → Act
expire s p id [] = nothing
expire s p id (r ∷ rs) = also (expires s p id r) (expire s p (suc id) rs)

-- whether the own Bind is due
abbrev pub is_own_due : Settings → ConnectionState → ℕ → Bool
is_own_due s p at = passes (λ own. is_past s.timeout own.at at) p.own_bind

-- a clock step: each due operation expires, by rising identifier; a due own Bind takes the connection down
abbrev pub ticks : Settings → ConnectionState → ℕ → Act
ticks s p at =
    also (expire s p p.ids.next (filter (is_due s at) p.rows)) (where_so (is_own_due s p at) (goes_down p TimedOut))

-- what an input gives at a moment, but for the end of a drained connection
abbrev pub regular_rule : Settings → ConnectionState → ℕ → Input → Act
regular_rule s p at (LinkUp now) = where_so (not p.linked) (link_up s p)
regular_rule s p at (MessageIn now id rest) =
    where_so (is_there p && not (is_holding p)) (message p at (record { id = id; rest = rest }))
regular_rule s p at (LetterFrom now word sender l) = where_so p.linked (letter s p l)
regular_rule s p at (Tick now) = where_so (is_there p) (ticks s p at)
regular_rule s p at _ = nothing

-- what an input gives at a moment
abbrev pub regular_act : Settings → ConnectionState → ℕ → Input → Act
regular_act s p at input = with_drained s at (letter_of input) p (regular_rule s p at input)
