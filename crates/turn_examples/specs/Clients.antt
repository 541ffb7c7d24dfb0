-- Wrong turns of clients: before each stands the rule, and behind the colon what is done in its place.
use Rattle.std.specs.Prelude.{ℕ, true, false, ◌==◌, not, List, [], ◌∷◌, ◌++◌, filter, find, length, unwrap_or, Option, Some, None}
use Rattle.std.specs.List.{list_any}
use Rattle.ldap_spec.specs.Bodies.{refusal}
use Rattle.ldap_spec.specs.Kinds.{kind_of}
use Rattle.ldap_spec.specs.Messages.{Message}
use Rattle.ldap_spec.specs.Requests.{is_cancel}
use Rattle.lload_names.specs.declared.inputs.Effects.{Effects}
use Rattle.lload_names.specs.declared.inputs.Input.{Input}
use Rattle.lload_names.specs.declared.inputs.Input.TheVariants.{LetterFrom, Message as MessageIn, Stall}
use Rattle.lload_names.specs.declared.names.Answer.TheVariants.{Busy}
use Rattle.lload_names.specs.declared.names.Entry.{Entry}
use Rattle.lload_names.specs.declared.names.Letter.{Letter}
use Rattle.lload_names.specs.declared.names.Letter.TheVariants.{Choice, Failed, Forward, Reply, Returned}
use Rattle.lload_names.specs.declared.names.OpName.{OpName}
use Rattle.lload_names.specs.declared.names.PartName.TheVariants.{Client, Up as Connection}
use Rattle.lload_names.specs.declared.names.Posted.{Posted}
use Rattle.lload_names.specs.declared.names.Refusal.{Refusal}
use Rattle.lload_names.specs.declared.names.What.{What}
use Rattle.lload_names.specs.declared.names.What.TheVariants.{Late, Out}
use Rattle.lload_spec.specs.Answers.{sendings, wants_identity}
use Rattle.lload_spec.specs.Entries.{is_gone, is_notice}
use Rattle.lload_spec.specs.FirstCheck.{Check, Refuses}
use Rattle.lload_spec.specs.Fifo.{is_out_entry}
use Rattle.lload_spec.specs.Identity.{carried_for}
use Rattle.lload_spec.specs.Journal.{same_op}
use Rattle.lload_spec.specs.Lists.{last}
use Rattle.lload_spec.specs.Operations.{Operation, operation_in}
use Rattle.lload_spec.specs.Settings.{Settings}
use Rattle.part_spec.specs.ClientState.{ClientState, check_at, empty_client, is_present, is_written, step_client}
use Rattle.part_spec.specs.ClientTurn.{asks, by_check, client_turn, stalls}
use Rattle.part_spec.specs.Inputs.{effects_of, moment_for, to, where_so}
use Rattle.part_spec.specs.Marked.{Marked, entries}
use Rattle.part_spec.specs.World.{World, client_in, list_in, turn_of}
use Rattle.turn_examples.specs.Changes.{is_drop, is_leave, is_pause, is_resume, is_returned, letters_twice, with_letters, with_whats, without_letters}
use Rattle.turn_examples.specs.Runs.{Turning, with_clients}

-- the operation of a client
abbrev pub operation_of : World → OpName → Option Operation
operation_of w op = operation_in op.client (entries (list_in w (Client op.client))) op

-- An answer goes out under the identifier that the client chose: it goes out under that of its connection.
abbrev pub id_upstream : World → ℕ → OpName → ℕ
id_upstream w u op =
    elim (find (λ q. same_op op q.op) (sendings u (entries (list_in w (Connection u))))) [ None ↦ 0 | Some q ↦ q.id ]

abbrev pub renamed : ℕ → What → What
renamed id (Out own rest) = Out id rest
renamed id what = what

abbrev pub as_upstream : World → Input → Effects → Effects
as_upstream w (LetterFrom now word (Connection u) (Reply op rest is_last who)) e =
    with_whats (renamed (id_upstream w u op)) e
as_upstream w input e = e

abbrev pub answer_under_upstream_identifier : Turning
answer_under_upstream_identifier = with_clients (λ s w c input. as_upstream w input (turn_of s w (Client c) input))

-- An answer, or a refusal, to an operation that isn't live doesn't go out: it does.
abbrev pub out_if_late : World → List ℕ → What → What
out_if_late w rest (Late op) = elim (operation_of w op) [ None ↦ Late op | Some o ↦ Out o.request.id rest ]
out_if_late w rest what = what

abbrev pub refused_if_late : World → Refusal → What → What
refused_if_late w which (Late op) =
    elim (operation_of w op) [
      | None ↦ Late op
      | Some o ↦ elim (kind_of o.request.rest) [
        | None ↦ Late op
        | Some kind ↦ Out o.request.id (refusal kind which)
      ]
    ]
refused_if_late w which what = what

abbrev pub told_though_late : World → Input → Effects → Effects
told_though_late w (LetterFrom now word sender (Reply op rest is_last who)) e = with_whats (out_if_late w rest) e
told_though_late w (LetterFrom now word sender (Failed op which)) e = with_whats (refused_if_late w which) e
told_though_late w input e = e

abbrev pub late_letter_goes_out : Turning
late_letter_goes_out = with_clients (λ s w c input. told_though_late w input (turn_of s w (Client c) input))

-- The end of an operation that was forwarded is told by a Drop: it isn't.
abbrev pub drop_forgotten : Turning
drop_forgotten = with_clients (λ s w c input. without_letters is_drop (turn_of s w (Client c) input))

-- The end of a client is told to the bind connection that it holds by a Leave: it isn't.
abbrev pub leave_forgotten : Turning
leave_forgotten = with_clients (λ s w c input. without_letters is_leave (turn_of s w (Client c) input))

-- A choice for an operation that isn't live is returned: it is followed.
abbrev pub forwarded_anyway : Settings → World → Posted → OpName → ℕ → List Posted
forwarded_anyway s w x op u =
    elim (operation_of w op) [
      | None ↦ x ∷ []
      | Some o ↦ elim (kind_of o.request.rest) [
        | None ↦ x ∷ []
        | Some kind ↦ to (Connection u) (Forward op kind o.request.rest (wants_identity s o.request) op)
      ]
    ]

abbrev pub forwarded_if_returned : Settings → World → Posted → Letter → List Posted
forwarded_if_returned s w x (Returned op u) = forwarded_anyway s w x op u
forwarded_if_returned s w x _ = x ∷ []

abbrev pub late_choice_followed : Turning
late_choice_followed =
    with_clients
    (λ s w c input. with_letters (λ x. forwarded_if_returned s w x x.letter) (turn_of s w (Client c) input))

-- It is returned: the desk isn't told.
abbrev pub returned_forgotten : Turning
returned_forgotten = with_clients (λ s w c input. without_letters is_returned (turn_of s w (Client c) input))

-- A client that ends lets each connection that it pauses be read again: it doesn't.
abbrev pub resumed_unless_gone : Effects → Effects
resumed_unless_gone e = elim (list_any is_gone e.entries) [ true ↦ without_letters is_resume e | false ↦ e ]

abbrev pub resume_forgotten_at_gone : Turning
resume_forgotten_at_gone = with_clients (λ s w c input. resumed_unless_gone (turn_of s w (Client c) input))

-- A client that doesn't read pauses each of its connections once: it pauses them twice.
abbrev pub pause_given_twice : Turning
pause_given_twice = with_clients (λ s w c input. letters_twice is_pause (turn_of s w (Client c) input))

-- It stalls where it isn't stalled: it stalls again.
abbrev pub stalls_anyway : World → ℕ → Input → Effects → Effects
stalls_anyway w c (Stall now) e =
    effects_of (Client c) (moment_for (client_in w c).moment (Stall now)) (stalls (client_in w c))
stalls_anyway w c input e = e

abbrev pub stalled_twice : Turning
stalled_twice = with_clients (λ s w c input. stalls_anyway w c input (turn_of s w (Client c) input))

-- No message is taken while the client's part holds: one is.
abbrev pub taken_anyway : Settings → ClientState → Input → Effects → Effects
taken_anyway s p (MessageIn now id rest) e =
    effects_of (Client p.number) (moment_for p.moment (MessageIn now id rest))
    (where_so (is_present p)
    (by_check s p (moment_for p.moment (MessageIn now id rest)) (record { id = id; rest = rest })
    (check_at s p (record { id = id; rest = rest }))))
taken_anyway s p input e = e

abbrev pub message_taken_while_holding : Turning
message_taken_while_holding =
    with_clients (λ s w c input. taken_anyway s (client_in w c) input (turn_of s w (Client c) input))

-- A request carries the identity of its client's last Bind: it carries the last identity that a Bind gave.
abbrev pub identities : Settings → ClientState → List Marked → List (List ℕ)
identities s p [] = []
identities s p (m ∷ ms) = (step_client s p m).identity ∷ identities s (step_client s p m) ms

abbrev pub identity_once : Settings → World → ℕ → List ℕ
identity_once s w c =
    unwrap_or
    (last (filter (λ who. not (length who == 0)) (identities s (empty_client c) (list_in w (Client c))))) []

abbrev pub carried_once : Settings → World → OpName → List ℕ → List ℕ
carried_once s w op rest =
    elim (operation_of w op) [ None ↦ rest | Some o ↦ carried_for s o.request (identity_once s w op.client) ]

abbrev pub with_identity_once : Settings → World → Posted → Letter → List Posted
with_identity_once s w x (Forward op kind_sent rest ask_who holder) =
    record x { letter = Forward op kind_sent (carried_once s w op rest) ask_who holder } ∷ []
with_identity_once s w x _ = x ∷ []

abbrev pub identity_of_earlier_bind_kept : Turning
identity_of_earlier_bind_kept =
    with_clients
    (λ s w c input. with_letters (λ x. with_identity_once s w x x.letter) (turn_of s w (Client c) input))

-- A Cancel ends the operation that it names, and then succeeds: it succeeds first.
abbrev pub last_two_swapped : List Entry → List Entry
last_two_swapped (x ∷ y ∷ z ∷ []) = x ∷ z ∷ y ∷ []
last_two_swapped es = es

abbrev pub swapped_at_cancel : Input → Effects → Effects
swapped_at_cancel (MessageIn now id rest) e =
    elim (is_cancel rest) [ true ↦ record e { entries = last_two_swapped e.entries } | false ↦ e ]
swapped_at_cancel input e = e

abbrev pub cancel_succeeds_first : Turning
cancel_succeeds_first = with_clients (λ s w c input. swapped_at_cancel input (turn_of s w (Client c) input))

-- A write binds its client for some time behind its answer: it does so until the answer.
abbrev pub bound_while_written : ClientState → ClientState
bound_while_written p =
    elim (list_any is_written p.rows) [
      | true ↦ p
      | false ↦ record p { window = record p.window { write = None } }
    ]

abbrev pub write_window_dropped_at_answer : Turning
write_window_dropped_at_answer =
    with_clients (λ s w c input. client_turn s (bound_while_written (client_in w c)) input)

-- A request that finds its tier busy is refused: its client isn't told.
abbrev pub silent_if_busy : Input → Effects → Effects
silent_if_busy (LetterFrom now word sender (Choice op Busy)) e =
    record e { entries = filter (λ x. not (is_out_entry x)) e.entries }
silent_if_busy input e = e

abbrev pub busy_untold : Turning
busy_untold = with_clients (λ s w c input. silent_if_busy input (turn_of s w (Client c) input))

-- The desk isn't asked for a request that is refused: it is.
abbrev pub asks_if_refused : Settings → ClientState → ℕ → Message → Check → List Posted
asks_if_refused s p at m (Refuses which) = asks s p at m
asks_if_refused s p at m found = []

abbrev pub asks_anyway : Settings → ClientState → Input → Effects → Effects
asks_anyway s p (MessageIn now id rest) e =
    record e {
      letters =
          e.letters
          ++ asks_if_refused s p (moment_for p.moment (MessageIn now id rest)) (record { id = id; rest = rest })
          (check_at s p (record { id = id; rest = rest }));
    }
asks_anyway s p input e = e

abbrev pub refused_and_asked : Turning
refused_and_asked =
    with_clients (λ s w c input. asks_anyway s (client_in w c) input (turn_of s w (Client c) input))

-- A client that breaks the protocol is told so before its end: it isn't.
abbrev pub unnoticed : Effects → Effects
unnoticed e = record e { entries = filter (λ x. not (is_notice x)) e.entries }

abbrev pub notice_forgotten : Turning
notice_forgotten = with_clients (λ s w c input. unnoticed (turn_of s w (Client c) input))
