-- Wrong turns of connections, regular ones and of either kind: before each stands the rule, and behind the colon what
-- is done in its place.
use Rattle.std.specs.Prelude.{true, false, List, [], ◌∷◌, ◌++◌, find, map, filter, not, Some, None, is_some}
use Rattle.std.specs.List.{list_any}
use Rattle.ldap_spec.specs.Bodies.{abandon}
use Rattle.lload_names.specs.declared.inputs.Effects.{Effects}
use Rattle.lload_names.specs.declared.inputs.Input.{Input}
use Rattle.lload_names.specs.declared.inputs.Input.TheVariants.{LetterFrom, LinkUp, Tick}
use Rattle.lload_names.specs.declared.names.EndWhy.{EndWhy}
use Rattle.lload_names.specs.declared.names.EndWhy.TheVariants.{Drained, OwnBind}
use Rattle.lload_names.specs.declared.names.Letter.{Letter}
use Rattle.lload_names.specs.declared.names.Letter.TheVariants.{Ended, Reply}
use Rattle.lload_names.specs.declared.names.PartName.TheVariants.{Up as Connection}
use Rattle.lload_names.specs.declared.names.Posted.{Posted}
use Rattle.lload_names.specs.declared.names.Refusal.TheVariants.{C4}
use Rattle.lload_names.specs.declared.names.What.{What}
use Rattle.lload_names.specs.declared.names.What.TheVariants.{Idle, Own}
use Rattle.lload_spec.specs.Answers.{sendings}
use Rattle.lload_spec.specs.Entries.{is_down_by, is_retired, own_message}
use Rattle.lload_spec.specs.Journal.{same_op}
use Rattle.lload_spec.specs.Settings.{Settings}
use Rattle.part_spec.specs.ConnectionState.{ConnectionState}
use Rattle.part_spec.specs.ConnectionTurn.{comes_up}
use Rattle.part_spec.specs.Inputs.{effects_of, failed, moment_for}
use Rattle.part_spec.specs.Marked.{entries}
use Rattle.part_spec.specs.Turn.{connection_turn}
use Rattle.part_spec.specs.World.{World, connection_in, list_in, turn_of}
use Rattle.turn_examples.specs.Changes.{is_answer_before_last, is_ended, is_failed, is_told_down, is_told_retired, is_told_up, letters_twice, with_letters, with_whats, without_letters, without_whats}
use Rattle.turn_examples.specs.Runs.{Turning, with_connections}

-- The end of an operation is told to the desk once: it is told twice.
abbrev pub ended_twice : Turning
ended_twice = with_connections (λ s w u input. letters_twice is_ended (turn_of s w (Connection u) input))

-- It is told: it isn't.
abbrev pub ended_forgotten : Turning
ended_forgotten = with_connections (λ s w u input. without_letters is_ended (turn_of s w (Connection u) input))

-- Behind the final answer nothing is given to the client: a refusal is.
abbrev pub refused_too : Posted → Letter → List Posted
refused_too x (Reply op rest true who) = x ∷ failed op C4
refused_too x _ = x ∷ []

abbrev pub refused_behind_final_answer : Turning
refused_behind_final_answer =
    with_connections (λ s w u input. with_letters (λ x. refused_too x x.letter) (turn_of s w (Connection u) input))

-- Each answer goes to the client: those before the last don't.
abbrev pub answers_passed_over : Turning
answers_passed_over =
    with_connections (λ s w u input. without_letters is_answer_before_last (turn_of s w (Connection u) input))

-- The desk hears how long an answer took: it doesn't.
abbrev pub unmeasured : Posted → Letter → List Posted
unmeasured x (Ended op conn latency) = record x { letter = Ended op conn None } ∷ []
unmeasured x _ = x ∷ []

abbrev pub latency_forgotten : Turning
latency_forgotten =
    with_connections (λ s w u input. with_letters (λ x. unmeasured x x.letter) (turn_of s w (Connection u) input))

-- An identifier is given again once it is free: it is given while an operation has it.
abbrev pub with_ids_in_use : ConnectionState → ConnectionState
with_ids_in_use p = record p { ids = record p.ids { free = map (λ r. r.id) p.rows ++ p.ids.free } }

abbrev pub freed_identifier_given_twice : Turning
freed_identifier_given_twice =
    with_connections (λ s w u input. connection_turn s (with_ids_in_use (connection_in s w u)) input)

-- No message is taken while the connection is paused: one is.
abbrev pub message_taken_while_paused : Turning
message_taken_while_paused =
    with_connections (λ s w u input. connection_turn s (record (connection_in s w u) { waiting = [] }) input)

-- A connection with an own Bind comes up at its answer: it comes up at once.
abbrev pub up_at_once : ConnectionState → Input → Effects → Effects
up_at_once p (LinkUp now) e =
    record {
      entries = e.entries ++ (effects_of (Connection p.number) (moment_for p.moment (LinkUp now)) (comes_up p)).entries;
      letters = e.letters ++ (comes_up p).letters;
    }
up_at_once p input e = e

abbrev pub up_before_own_bind : Turning
up_before_own_bind =
    with_connections (λ s w u input. up_at_once (connection_in s w u) input (turn_of s w (Connection u) input))

-- The desk hears that a connection is up: it doesn't.
abbrev pub up_untold : Turning
up_untold = with_connections (λ s w u input. without_letters is_told_up (turn_of s w (Connection u) input))

-- A connection retires where it gives its last identifier: it doesn't.
abbrev pub never_retired : Turning
never_retired =
    with_connections
    (λ s w u input. without_letters is_told_retired (without_whats is_retired (turn_of s w (Connection u) input)))

-- A retired connection with nothing to do goes down: it stays up.
abbrev pub stays_up : EndWhy → Effects → Effects
stays_up why e =
    elim (list_any (is_down_by why) e.entries) [
      | true ↦ without_letters is_told_down (record e { entries = filter (λ x. not (is_down_by why x)) e.entries })
      | false ↦ e
    ]

abbrev pub drained_stays_up : Turning
drained_stays_up = with_connections (λ s w u input. stays_up Drained (turn_of s w (Connection u) input))

-- A connection whose own Bind is refused goes down: it stays up.
abbrev pub refused_stays_up : Turning
refused_stays_up = with_connections (λ s w u input. stays_up OwnBind (turn_of s w (Connection u) input))

-- A connection that is down misses what is forwarded to it: it sends that.
abbrev pub sends_anyway : Settings → ConnectionState → Input → Effects
sends_anyway s p (LetterFrom now word sender letter) =
    connection_turn s (record p { down = false }) (LetterFrom now word sender letter)
sends_anyway s p input = connection_turn s p input

abbrev pub sent_behind_end : Turning
sent_behind_end = with_connections (λ s w u input. sends_anyway s (connection_in s w u) input)

-- An operation that expires is abandoned: it isn't.
abbrev pub unabandoned : Input → Effects → Effects
unabandoned (Tick now) e = without_whats (λ what. is_some (own_message what)) e
unabandoned input e = e

abbrev pub expired_not_abandoned : Turning
expired_not_abandoned = with_connections (λ s w u input. unabandoned input (turn_of s w (Connection u) input))

-- Its client is told so: it isn't.
abbrev pub untold : Input → Effects → Effects
untold (Tick now) e = without_letters is_failed e
untold input e = e

abbrev pub expiry_untold : Turning
expiry_untold = with_connections (λ s w u input. untold input (turn_of s w (Connection u) input))

-- A Drop of an operation that is over comes to nothing: the operation is abandoned.
abbrev pub abandoned_anyway : World → ConnectionState → What → What
abandoned_anyway w p (Idle op) =
    elim (find (λ q. same_op op q.op) (sendings p.number (entries (list_in w (Connection p.number))))) [
      | None ↦ Idle op
      | Some q ↦ Own p.ids.next (abandon q.id)
    ]
abandoned_anyway w p what = what

abbrev pub answered_and_abandoned : Turning
answered_and_abandoned =
    with_connections
    (λ s w u input. with_whats (abandoned_anyway w (connection_in s w u)) (turn_of s w (Connection u) input))
