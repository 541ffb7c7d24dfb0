-- Wrong turns that leave something out, or pass something over: before each stands the rule, and behind the colon what is
-- done in its place.
use Rattle.std.specs.Prelude.{ℕ, true, false, not, List, [], ◌∷◌, filter, flat_map, Option, Some, None}
use Rattle.lload_names.specs.declared.inputs.Effects.{Effects}
use Rattle.lload_names.specs.declared.inputs.Input.{Input}
use Rattle.lload_names.specs.declared.inputs.Input.TheVariants.{LetterFrom, Message as MessageIn}
use Rattle.lload_names.specs.declared.names.Answer.TheVariants.{Unavailable}
use Rattle.lload_names.specs.declared.names.EndWhy.TheVariants.{Bad, TimedOut}
use Rattle.lload_names.specs.declared.names.Letter.{Letter}
use Rattle.lload_names.specs.declared.names.Letter.TheVariants.{Choice, Drop, IsUp}
use Rattle.lload_names.specs.declared.names.PartName.TheVariants.{Desk, Client, Up as Connection}
use Rattle.lload_names.specs.declared.names.What.TheVariants.{Idle}
use Rattle.lload_spec.specs.Entries.{heard, is_gone}
use Rattle.lload_spec.specs.Fifo.{is_out_entry}
use Rattle.part_spec.specs.ClientTurn.{client_turn}
use Rattle.part_spec.specs.ConnectionState.{ConnectionState}
use Rattle.part_spec.specs.DeskTurn.{desk_turn}
use Rattle.part_spec.specs.Marked.{Marked}
use Rattle.part_spec.specs.Inputs.{act, effects_of, moment_for}
use Rattle.part_spec.specs.World.{client_in, connection_in, list_in, turn_of}
use Rattle.turn_examples.specs.Changes.{is_ask, is_choice, is_failed, is_forward, is_pause, is_reply, is_resume, is_told_down, passed_over_if, without_letters}
use Rattle.turn_examples.specs.Connections.{stays_up}
use Rattle.turn_examples.specs.Runs.{Turning, with_clients, with_connections, with_desk}

-- Clients.

-- The desk is asked for a request that goes on: it isn't.
abbrev pub ask_forgotten : Turning
ask_forgotten = with_clients (λ s w c input. without_letters is_ask (turn_of s w (Client c) input))

-- An operation goes to the connection that was chosen for it: it doesn't.
abbrev pub forward_forgotten : Turning
forward_forgotten = with_clients (λ s w c input. without_letters is_forward (turn_of s w (Client c) input))

-- An Unbind ends its client: the client stays.
abbrev pub not_gone : Effects → Effects
not_gone e = record { entries = filter (λ x. not (is_gone x)) e.entries; letters = [] }

abbrev pub unbind_passed_over : Turning
unbind_passed_over = with_clients (λ s w c input. not_gone (turn_of s w (Client c) input))

-- A client that reads again lets the connections that it pauses be read: it doesn't.
abbrev pub resume_forgotten : Turning
resume_forgotten = with_clients (λ s w c input. without_letters is_resume (turn_of s w (Client c) input))

-- A client that doesn't read pauses its connections, and one to which an operation goes then: it doesn't.
abbrev pub pause_forgotten : Turning
pause_forgotten = with_clients (λ s w c input. without_letters is_pause (turn_of s w (Client c) input))

-- An answer goes out: it is passed over.
abbrev pub answer_passed_over : Turning
answer_passed_over = with_clients (λ s w c input. passed_over_if is_reply input (turn_of s w (Client c) input))

-- A request that its first check refuses gets its refusal: it doesn't.
abbrev pub silent_at_message : Input → Effects → Effects
silent_at_message (MessageIn now id rest) e = record e { entries = filter (λ x. not (is_out_entry x)) e.entries }
silent_at_message input e = e

abbrev pub refusal_untold : Turning
refusal_untold = with_clients (λ s w c input. silent_at_message input (turn_of s w (Client c) input))

-- A request for which no connection is there is refused: its client isn't told.
abbrev pub silent_if_unavailable : Input → Effects → Effects
silent_if_unavailable (LetterFrom now word sender (Choice op Unavailable)) e =
    record e { entries = filter (λ x. not (is_out_entry x)) e.entries }
silent_if_unavailable input e = e

abbrev pub unavailable_untold : Turning
unavailable_untold = with_clients (λ s w c input. silent_if_unavailable input (turn_of s w (Client c) input))

-- A Bind goes on with its exchange, at the connection that its client holds: the desk is asked anew.
abbrev pub exchange_asked_anew : Turning
exchange_asked_anew =
    with_clients (λ s w c input. client_turn s (record (client_in w c) { in_exchange = false }) input)

-- Connections.

-- A message that is no answer to what is live takes its connection down: it doesn't.
abbrev pub bad_message_taken : Turning
bad_message_taken = with_connections (λ s w u input. stays_up Bad (turn_of s w (Connection u) input))

-- A Bind that expires takes its connection down: it doesn't.
abbrev pub expired_bind_stays_up : Turning
expired_bind_stays_up = with_connections (λ s w u input. stays_up TimedOut (turn_of s w (Connection u) input))

-- The client of an operation that is lost, or missed, is told so: it isn't.
abbrev pub loss_untold : Turning
loss_untold = with_connections (λ s w u input. without_letters is_failed (turn_of s w (Connection u) input))

-- The desk hears that a connection is down: it doesn't.
abbrev pub down_untold : Turning
down_untold = with_connections (λ s w u input. without_letters is_told_down (turn_of s w (Connection u) input))

-- A Drop of a live operation abandons it: it comes to nothing.
abbrev pub idle_if_dropped : ConnectionState → Input → Effects → Effects
idle_if_dropped p (LetterFrom now word sender (Drop op)) e =
    effects_of (Connection p.number) (moment_for p.moment (LetterFrom now word sender (Drop op)))
    (act (Idle op ∷ []) [])
idle_if_dropped p input e = e

abbrev pub drop_passed_over : Turning
drop_passed_over =
    with_connections (λ s w u input. idle_if_dropped (connection_in s w u) input (turn_of s w (Connection u) input))

-- A connection pauses, and goes on, as clients tell it: it doesn't.
abbrev pub pause_passed_over : Turning
pause_passed_over = with_connections (λ s w u input. passed_over_if is_pause input (turn_of s w (Connection u) input))

abbrev pub resume_passed_over : Turning
resume_passed_over =
    with_connections (λ s w u input. passed_over_if is_resume input (turn_of s w (Connection u) input))

-- The desk.

-- A choice is told to the client: it isn't.
abbrev pub choice_untold : Turning
choice_untold = with_desk (λ s w input. without_letters is_choice (turn_of s w Desk input))

-- A connection that is down isn't chosen: one is that was ever up.
abbrev pub told_up : Option Letter → List ℕ
told_up (Some (IsUp u)) = u ∷ []
told_up _ = []

abbrev pub ever_up : List Marked → List ℕ
ever_up list = flat_map (λ m. told_up (heard m.entry.what)) list

abbrev pub chosen_behind_end : Turning
chosen_behind_end = with_desk (λ s w input. desk_turn s (record w.desk { viable = ever_up (list_in w Desk) }) input)
