-- Wrong turns of bind connections: before each stands the rule, and behind the colon what is done in its place.
use Rattle.std.specs.Prelude.{true, false, ◌&&◌, List, [], ◌∷◌, ◌++◌, find, Some, None}
use Rattle.ldap_spec.specs.Responses.{has_code}
use Rattle.ldap_spec.specs.Tags.{bind_in_progress}
use Rattle.lload_names.specs.declared.inputs.Effects.{Effects}
use Rattle.lload_names.specs.declared.inputs.Input.{Input}
use Rattle.lload_names.specs.declared.inputs.Input.TheVariants.{LetterFrom, Message as MessageIn}
use Rattle.lload_names.specs.declared.names.Letter.{Letter}
use Rattle.lload_names.specs.declared.names.Letter.TheVariants.{Failed, Leave}
use Rattle.lload_names.specs.declared.names.PartName.TheVariants.{Up as Connection}
use Rattle.lload_names.specs.declared.names.Posted.{Posted}
use Rattle.lload_names.specs.declared.names.Refusal.TheVariants.{C9}
use Rattle.lload_names.specs.declared.names.What.TheVariants.{Got, Idle}
use Rattle.part_spec.specs.BindTurn.{holds, kept_rest}
use Rattle.part_spec.specs.ConnectionState.{ConnectionState, is_bind, is_under, keeps_back, row_named}
use Rattle.part_spec.specs.ConnectionTurn.{holder_ended}
use Rattle.part_spec.specs.Inputs.{act, effects_of, moment_for, reply}
use Rattle.part_spec.specs.World.{connection_in, turn_of}
use Rattle.turn_examples.specs.Changes.{with_letters}
use Rattle.turn_examples.specs.Runs.{Turning, with_connections}

-- A holder keeps its connection while its exchange goes on: it gives it back.
abbrev pub given_back : ConnectionState → Input → Effects → Effects
given_back p (MessageIn now id rest) e =
    elim (is_bind p && has_code bind_in_progress rest) [
      | true ↦ record e { letters = e.letters ++ holder_ended p }
      | false ↦ e
    ]
given_back p input e = e

abbrev pub given_back_while_in_progress : Turning
given_back_while_in_progress =
    with_connections (λ s w u input. given_back (connection_in s w u) input (turn_of s w (Connection u) input))

-- A success is kept back until the identity behind it is told: it goes out at once.
abbrev pub told_at_once : ConnectionState → Input → Effects → Effects
told_at_once p (MessageIn now id rest) e =
    elim (find (λ r. is_under id r && keeps_back r rest) p.rows) [
      | None ↦ e
      | Some r ↦
          effects_of (Connection p.number) (moment_for p.moment (MessageIn now id rest))
          (act (Got id rest ∷ []) (reply r.op rest true None ++ holder_ended p))
    ]
told_at_once p input e = e

abbrev pub success_not_kept_back : Turning
success_not_kept_back =
    with_connections (λ s w u input. told_at_once (connection_in s w u) input (turn_of s w (Connection u) input))

-- A connection whose exchange is left unfinished goes down: it stays up.
abbrev pub stays_if_left : ConnectionState → Input → Effects → Effects
stays_if_left p (LetterFrom now word sender (Leave holder)) e =
    elim (holds p holder) [
      | true ↦
          effects_of (Connection p.number) (moment_for p.moment (LetterFrom now word sender (Leave holder)))
          (act (Idle holder ∷ []) (holder_ended p))
      | false ↦ e
    ]
stays_if_left p input e = e

abbrev pub unfinished_stays_up : Turning
unfinished_stays_up =
    with_connections (λ s w u input. stays_if_left (connection_in s w u) input (turn_of s w (Connection u) input))

-- A Bind is refused where the identity behind its success isn't told: its success goes out.
abbrev pub told_anyway : ConnectionState → Posted → Letter → List Posted
told_anyway p x (Failed op C9) =
    elim (row_named p op) [ None ↦ x ∷ [] | Some r ↦ reply op (kept_rest r) true None ]
told_anyway p x _ = x ∷ []

abbrev pub unknown_succeeds : Turning
unknown_succeeds =
    with_connections
    (λ s w u input. with_letters (λ x. told_anyway (connection_in s w u) x x.letter) (turn_of s w (Connection u) input))
