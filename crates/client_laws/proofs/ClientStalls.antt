-- Whether a client is stalled: its state says what its list says, for every list.
use Rattle.std.proofs.Common.{◌≡◌, ℕ, Bool, true, false, ◌&&◌, not, List, [], ◌∷◌, ◌++◌, ◌==◌, refl, ap, ◌∙◌, sym}
use Rattle.std.specs.Prelude.{Option, Some, None, if◌then◌else◌}
use Rattle.ldap_spec.specs.Messages.{Message}
use Rattle.ldap_spec.specs.Responses.{has_code}
use Rattle.ldap_spec.specs.Requests.{request}
use Rattle.lload_names.specs.declared.names.Entry.{Entry}
use Rattle.lload_names.specs.declared.names.OpKind.TheVariants.{Bind}
use Rattle.lload_names.specs.declared.names.PartName.{PartName}
use Rattle.lload_names.specs.declared.names.Answer.{Answer}
use Rattle.lload_names.specs.declared.names.Answer.TheVariants.{Go, Busy, Unavailable}
use Rattle.lload_names.specs.declared.names.What.{What}
use Rattle.lload_names.specs.declared.names.What.TheVariants as what
use Rattle.lload_spec.specs.Settings.{Settings}
use Rattle.lload_spec.specs.Lists.{put_number}
use Rattle.lload_spec.specs.Entries.{makes_operation}
use Rattle.lload_spec.specs.Identity.{identity_of}
use Rattle.lload_spec.specs.Operations.{Operation, operation_in, is_live, is_of, is_request_of, is_final_for}
use Rattle.lload_spec.specs.Pauses.{Pausing, no_pause, pauses_behind, forwarding, with_chosen, pausing_behind, pausing_from}
use Rattle.part_spec.specs.Marked.{Marked, Taken}
use Rattle.part_spec.specs.ClientState.{ClientState, ClientRow, empty_client, client_behind, step_client, step_clients, without, abandons, with_bind, with_request, with_connection, with_answer, is_bind_row, row_named, row_under, who_told}
use Rattle.part_spec.specs.Marked.{entries}
use Rattle.client_laws.specs.Turns.{ClientStalls}

-- behind what happened
abbrev after : What → Bool → Bool
after what.Stalled b = true
after what.Flowing b = false
after (what.Gone why) b = false
after _ b = b

forwarding_stalled : (u : ℕ) (q : Pausing) → (forwarding u q).stalled ≡ q.stalled
forwarding_stalled u q = all (pauses_behind q u) (put_number u q.paused)
  where
    state : Bool → List ℕ → Pausing
    state b us = elim b [ true ↦ record q { paused = us } | false ↦ q ]

    all : (b : Bool) (us : List ℕ) → (state b us).stalled ≡ q.stalled
    all true us = refl
    all false us = refl

chosen_stalled : (o : Option Operation) (a : Answer) (q : Pausing) → (with_chosen o a q).stalled ≡ q.stalled
chosen_stalled None a q = refl
chosen_stalled (Some o) (Go u b) q = by (is_live o && not (is_of Bind o))
  where
    state : Bool → Pausing
    state x = elim x [ true ↦ forwarding u q | false ↦ q ]

    by : (x : Bool) → (state x).stalled ≡ q.stalled
    by true = forwarding_stalled u q
    by false = refl
chosen_stalled (Some o) Busy q = refl
chosen_stalled (Some o) Unavailable q = refl

-- by the list
list_stalled : (c : ℕ) (place : List Entry) (part : PartName) (at : ℕ) (w : What) (q : Pausing) → (pausing_behind c place w q).stalled ≡ after w q.stalled
list_stalled c place part at (what.Chosen op answer) q = by q.stalled
  where
    state : Bool → Pausing
    state b = elim b [ true ↦ with_chosen (operation_in c place op) answer q | false ↦ q ]

    by : (b : Bool) → (state b).stalled ≡ q.stalled
    by true = chosen_stalled (operation_in c place op) answer q
    by false = refl
list_stalled c place part at what.Stalled q = refl
list_stalled c place part at _ q = refl

-- by the state
connection_stalled : (u b : ℕ) (p : ClientState) (r : ClientRow) → (with_connection u b p r).pausing.stalled ≡ p.pausing.stalled
connection_stalled u b p r = by (is_bind_row r)
  where
    state : Bool → Pausing
    state x = elim x [ true ↦ p.pausing | false ↦ forwarding u p.pausing ]

    by : (x : Bool) → (state x).stalled ≡ p.pausing.stalled
    by true = refl
    by false = forwarding_stalled u p.pausing

state_stalled : (s : Settings) (at : ℕ) (mark : Option Taken) (p : ClientState) (w : What) → (client_behind s at mark p w).pausing.stalled ≡ after w p.pausing.stalled
state_stalled s at mark p (what.In id rest) = by (makes_operation m) (is_request_of Bind m)
  where
    m : Message
    m = record { id = id; rest = rest }

    state : Bool → Bool → ClientState
    state a b = elim a [ false ↦ without (abandons m) at p | true ↦ elim b [ true ↦ with_bind s m p | false ↦ with_request s m p ] ]

    by : (a b : Bool) → (state a b).pausing.stalled ≡ p.pausing.stalled
    by false b = refl
    by true true = refl
    by true false = refl
state_stalled s at mark p (what.Chosen op (Go u b)) = by (row_named p op)
  where
    state : Option ClientRow → ClientState
    state o = elim o [ None ↦ p | Some r ↦ with_connection u b p r ]

    by : (o : Option ClientRow) → (state o).pausing.stalled ≡ p.pausing.stalled
    by None = refl
    by (Some r) = connection_stalled u b p r
state_stalled s at mark p (what.Chosen op Busy) = refl
state_stalled s at mark p (what.Chosen op Unavailable) = refl
state_stalled s at mark p (what.Out id rest) = by (row_under p id)
  where
    out_state : Option ClientRow → ClientState
    out_state o = elim o [ None ↦ p | Some r ↦ with_answer s at mark rest p r ]

    by : (o : Option ClientRow) → (out_state o).pausing.stalled ≡ p.pausing.stalled
    by None = refl
    by (Some r) = row (is_final_for r.request rest) (is_bind_row r) (has_code 14 rest)
      where
        ended : ClientState
        ended = without (λ x. x.k == r.k) at p

        answered : Bool → ClientState
        answered b = elim b [ true ↦ record ended { in_exchange = true } | false ↦ record ended { hold = None; identity = if has_code 0 rest then identity_of s (who_told mark) (request r.request.rest) else [] } ]

        state : Bool → Bool → Bool → ClientState
        state f b x = elim f [ false ↦ p | true ↦ elim b [ true ↦ answered x | false ↦ ended ] ]

        row : (f b x : Bool) → (state f b x).pausing.stalled ≡ p.pausing.stalled
        row false b x = refl
        row true true true = refl
        row true true false = refl
        row true false x = refl
state_stalled s at mark p what.Stalled = refl
state_stalled s at mark p _ = refl

stalls_from : (s : Settings) (c : ℕ) (ms : List Marked) (place : List Entry) (p : ClientState) (q : Pausing) → p.pausing.stalled ≡ q.stalled → (step_clients s p ms).pausing.stalled ≡ (pausing_from c q place (entries ms)).stalled
stalls_from s c [] place p q h = h
stalls_from s c (m ∷ ms) place p q h = stalls_from s c ms (place ++ m.entry ∷ []) (step_client s p m) (pausing_behind c place m.entry.what q) (state_stalled s m.entry.at m.mark p m.entry.what ∙ ap (after m.entry.what) h ∙ sym (list_stalled c place m.entry.part m.entry.at m.entry.what q))

pub client_stalls : ClientStalls
client_stalls s c list = stalls_from s c list [] (empty_client c) no_pause refl
