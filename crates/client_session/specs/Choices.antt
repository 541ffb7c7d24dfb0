-- What a choice does to a client, as its part does it.
use Rattle.std.specs.Prelude.{ℕ, Bool, true, false, not, ◌&&◌, if◌then◌else◌, List, [], ◌∷◌, filter, map, Option, Some, None}
use Rattle.lload_names.specs.Same.{same_kind, same_op}
use Rattle.lload_names.specs.declared.names.Answer.{Answer}
use Rattle.lload_names.specs.declared.names.Answer.TheVariants.{Go, Busy, Unavailable}
use Rattle.lload_names.specs.declared.names.Hold.{Hold}
use Rattle.lload_names.specs.declared.names.Hold.TheVariants as hold
use Rattle.lload_names.specs.declared.names.OpKind.{OpKind}
use Rattle.lload_names.specs.declared.names.OpKind.TheVariants.{Bind}
use Rattle.lload_names.specs.declared.names.OpName.{OpName}
use Rattle.lload_names.specs.declared.names.Letter.TheVariants.{Forward}
use Rattle.lload_names.specs.declared.names.PartName.TheVariants.{Up as Connection}
use Rattle.lload_names.specs.declared.names.Posted.{Posted}
use Rattle.lload_names.specs.declared.names.Refusal.{Refusal}
use Rattle.lload_names.specs.declared.names.Refusal.TheVariants.{C1, C3}
use Rattle.lload_names.specs.declared.names.What.{What}
use Rattle.lload_spec.specs.Pauses.{Pausing, forwarding, pauses_behind, pause_letters}
use Rattle.part_spec.specs.Inputs.{to}
use Rattle.part_spec.specs.ClientState.{ClientState, ClientRow, AskedFor, chosen_window, forwarded, is_bind_row, name_of}
use Rattle.part_spec.specs.ClientTurn.{refused}
use Rattle.restrictions.specs.declared.action.Action.{Action}
use Rattle.restrictions.specs.declared.action.Action.TheVariants as kept
use Rattle.client_session.specs.declared.part.Held.{Held}

-- with what an answer without a connection refuses an operation
abbrev pub refusal_by : Answer → Option Refusal
refusal_by Busy = Some C1
refusal_by Unavailable = Some C3
refusal_by (Go u b) = None

-- how an action binds
abbrev pub hold_of : Action → Option Hold
hold_of kept.Write = Some hold.Write
hold_of kept.Backend = Some hold.Backend
hold_of kept.Connection = Some hold.Connection
hold_of _ = None

-- what the desk was asked for and didn't choose, behind a choice
abbrev pub chosen_asked : OpName → List AskedFor → List AskedFor
chosen_asked op asked = filter (λ a. not (same_op op a.op)) asked

-- behind a choice that nothing else follows
abbrev pub with_chosen : ℕ → OpName → ClientState → ClientState
with_chosen at op p = record p { moment = at; asked = chosen_asked op p.asked }

-- what happens at a refusal of an operation, where it is live
abbrev pub refused_live : Option ClientRow → Refusal → List What
refused_live None which = []
refused_live (Some r) which = refused r.request which

-- whether a Forward of an operation of this kind is followed by Pause, and the connections that are paused then
abbrev pub pauses_by : OpKind → ℕ → Pausing → Bool
pauses_by kind u q = not (same_kind Bind kind) && pauses_behind q u

abbrev pub pausing_by : OpKind → ℕ → Pausing → Pausing
pausing_by kind u q = elim (same_kind Bind kind) [ true ↦ q | false ↦ forwarding u q ]

-- where a live operation was sent to a connection: it binds the client, and a Bind's client holds the connection
abbrev pub with_sent : ℕ → ℕ → ClientRow → ClientState → ClientState
with_sent u b r p =
    record p {
      rows = map (forwarded r.k u) p.rows;
      hold = if is_bind_row r then Some (record { connection = u; holder = name_of p r }) else p.hold;
      window = chosen_window r.action u b p.window;
    }

-- the connection that is held behind a choice of one
abbrev pub hold_by : OpKind → ℕ → OpName → Option Held → Option Held
hold_by kind u op old = if same_kind Bind kind then Some (record { conn = u; holder = op }) else old

-- the Forward of an operation with a request, where there is one
abbrev pub forward_of : OpName → OpKind → Option (List ℕ) → Bool → OpName → ℕ → List Posted
forward_of op sort None ask_who holder u = []
forward_of op sort (Some rest) ask_who holder u = to (Connection u) (Forward op sort rest ask_who holder)

-- the Pause behind it
abbrev pub pause_where : ℕ → Bool → ℕ → List Posted
pause_where number pauses u = if pauses then pause_letters number (u ∷ []) else []
