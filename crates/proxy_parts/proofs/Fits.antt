-- What a client may take by its state, it may take by its part's contract.
use Rattle.std.proofs.Common.{◌≡◌, ℕ, Option, Some, None}
use Rattle.lload_names.specs.declared.inputs.Input.{Input}
use Rattle.lload_names.specs.declared.inputs.Input.TheVariants.{Arrive, LinkUp, Message, LetterFrom, Tick, LinkGone, Stall, Flow, Reload}
use Rattle.lload_names.specs.declared.names.Letter.{Letter}
use Rattle.lload_names.specs.declared.names.Letter.TheVariants.{Ask, Choice, Returned, Forward, Reply, Failed, Drop, Leave, Ended, IsUp, IsRetired, IsDown, Pause, Resume}
use Rattle.part_spec.specs.ClientState.{ClientState, ClientRow, row_named}
use Rattle.client_session.specs.Fit.{IsFit, IsFitLetter, connection_of}
use Rattle.taken_laws.specs.Taking.{ClientMayTake}
use Rattle.proxy_parts.specs.Clients.{MayTake}

waits : (o : Option ClientRow) → ◌≡◌ {A = Option ℕ} (elim o [ None ↦ None | Some r ↦ r.connection ]) None → connection_of o ≡ None
waits None h = h
waits (Some r) h = h

letter : (p : ClientState) (l : Letter) → ClientMayTake p l → IsFitLetter p l
letter p (Choice op answer) h = record { asked = h.asked; waits = waits (row_named p op) h.waits }
letter p (Ask op want) h = tt
letter p (Returned op conn) h = tt
letter p (Forward op which rest ask_who holder) h = tt
letter p (Reply op rest is_last who) h = tt
letter p (Failed op which) h = tt
letter p (Drop op) h = tt
letter p (Leave holder) h = tt
letter p (Ended op conn latency) h = tt
letter p (IsUp conn) h = tt
letter p (IsRetired conn) h = tt
letter p (IsDown conn) h = tt
letter p (Pause client) h = tt
letter p (Resume client) h = tt

pub fits : (p : ClientState) (input : Input) → MayTake p input → IsFit p input
fits p (LetterFrom now word sender l) h = letter p l h
fits p (Arrive now) h = tt
fits p (LinkUp now) h = tt
fits p (Message now id rest) h = tt
fits p (Tick now) h = tt
fits p (LinkGone now why) h = tt
fits p (Stall now) h = tt
fits p (Flow now) h = tt
fits p (Reload now plan base) h = tt
