-- The entries that a message makes in the small world, by what the world is.
use Rattle.std.specs.Prelude.{ℕ, suc, ◌+◌, ◌-◌, if◌then◌else◌, List, [], ◌∷◌, length, slice_get, Some, None}
use Rattle.ldap_spec.specs.Bodies.{refusal}
use Rattle.lload_names.specs.declared.names.Entry.{Entry}
use Rattle.lload_names.specs.declared.names.OpKind.TheVariants.{Delete}
use Rattle.lload_names.specs.declared.names.Refusal.TheVariants.{C3}
use Rattle.lload_names.specs.declared.names.ConnKind.TheVariants.{Regular}
use Rattle.lload_names.specs.declared.names.Bound.TheVariants.{Free}
use Rattle.lload_names.specs.declared.names.Answer.{Answer}
use Rattle.lload_names.specs.declared.names.Answer.TheVariants.{Go, Unavailable}
use Rattle.lload_names.specs.declared.names.Letter.TheVariants.{Ended}
use Rattle.lload_names.specs.declared.names.PartName.TheVariants.{Desk, Client, Up as Connection}
use Rattle.lload_names.specs.declared.names.What.TheVariants.{In, Chosen, Out, Sent, Got, Asked, Chose, Heard}
use Rattle.small_world.specs.States.{WorldState, is_heard_state}

-- each kind of entry
abbrev pub came : ℕ → List ℕ → Entry
came id rest = record { part = Client 1; at = 0; what = In id rest }

abbrev pub asked_for : ℕ → Entry
asked_for k = record { part = Desk; at = 0; what = Asked (record { client = 1; k = k }) (record { kind = Regular; bound = Free }) }

abbrev pub chose : ℕ → Answer → Entry
chose k answer = record { part = Desk; at = 0; what = Chose (record { client = 1; k = k }) answer 0 }

abbrev pub learned : ℕ → Answer → Entry
learned k answer = record { part = Client 1; at = 0; what = Chosen (record { client = 1; k = k }) answer }

abbrev pub sent : ℕ → ℕ → List ℕ → Entry
sent id k rest = record { part = Connection 1; at = 0; what = Sent id (record { client = 1; k = k }) rest }

abbrev pub out : ℕ → List ℕ → Entry
out id rest = record { part = Client 1; at = 0; what = Out id rest }

abbrev pub got : ℕ → List ℕ → Entry
got id rest = record { part = Connection 1; at = 0; what = Got id rest }

abbrev pub told_ended : ℕ → Entry
told_ended k = record { part = Desk; at = 0; what = Heard (Ended (record { client = 1; k = k }) 1 (Some 0)) }

-- a request that goes to connection 1
abbrev pub forwarding : ℕ → ℕ → ℕ → List ℕ → List Entry
forwarding k n id rest = came id rest ∷ asked_for k ∷ chose k (Go 1 1) ∷ learned k (Go 1 1) ∷ sent n k rest ∷ []

-- a request that is refused
abbrev pub refusing : ℕ → ℕ → List ℕ → List Entry
refusing k id rest = came id rest ∷ asked_for k ∷ chose k Unavailable ∷ learned k Unavailable ∷ out id (refusal Delete C3) ∷ []

-- the answer to a live operation
abbrev pub answering : ℕ → ℕ → ℕ → List ℕ → List Entry
answering k n id rest = got n rest ∷ told_ended k ∷ out id rest ∷ []

-- what a request makes: it goes to connection 1 where the desk heard that this is up, and is refused elsewhere
abbrev pub request_piece : WorldState → ℕ → List ℕ → List Entry
request_piece w id rest = if is_heard_state w.link then forwarding (w.made + 1) (suc (length w.forwarded)) id rest else refusing (w.made + 1) id rest

-- what an answer makes: it goes to the client of a live operation, and has no effect elsewhere
abbrev pub answer_piece : WorldState → ℕ → List ℕ → List Entry
answer_piece w id rest = elim (slice_get w.forwarded (id - 1)) [ None ↦ [] | Some f ↦ if f.answered then got id rest ∷ [] else answering f.k id f.id rest ]
