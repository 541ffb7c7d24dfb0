-- Which connections a client that doesn't read has paused, and for which clients a connection pauses (client_max_unsent
-- in lloadd.conf(5), this project's own).
use Rattle.std.specs.Prelude.{ℕ, Bool, true, false, ◌==◌, ◌&&◌, not, List, [], ◌∷◌, ◌++◌, filter, flat_map, map, Option, Some, None}
use Rattle.std.specs.List.{list_any}
use Rattle.lload_names.specs.declared.names.Entry.{Entry}
use Rattle.lload_names.specs.declared.names.OpKind.TheVariants.{Bind}
use Rattle.lload_names.specs.declared.names.ConnKind.TheVariants.{Regular}
use Rattle.lload_names.specs.declared.names.Answer.{Answer}
use Rattle.lload_names.specs.declared.names.Answer.TheVariants.{Go}
use Rattle.lload_names.specs.declared.names.PartName.TheVariants.{Up as Connection}
use Rattle.lload_names.specs.declared.names.Posted.{Posted}
use Rattle.lload_names.specs.declared.names.Letter.TheVariants.{Pause, Resume}
use Rattle.lload_names.specs.declared.names.What.{What}
use Rattle.lload_names.specs.declared.names.What.TheVariants as what
use Rattle.lload_spec.specs.Lists.{put_number, rising_once}
use Rattle.lload_spec.specs.Settings.{Settings, is_of_kind}
use Rattle.lload_spec.specs.Entries.{is_down}
use Rattle.lload_spec.specs.Operations.{Operation, operation_in, live_operations, is_of, is_live, chosen_connection}

-- By the facts of a client.

-- whether the client is stalled, and the connections whose last letter of the two kinds from it was Pause, by rising
-- number
pub record Pausing : Type 0 where
  pub stalled : Bool
  pub paused : List ℕ

abbrev pub no_pause : Pausing
no_pause = record { stalled = false; paused = [] }

-- it stalls, where live operations were forwarded to these regular connections
abbrev pub stalling : List ℕ → Pausing → Pausing
stalling us q = record { stalled = true; paused = rising_once (us ++ q.paused) }

-- whether an operation that goes to this regular connection is followed by Pause
abbrev pub pauses_behind : Pausing → ℕ → Bool
pauses_behind q u = q.stalled && not (list_any (λ n. n == u) q.paused)

-- an operation went to this regular connection
abbrev pub forwarding : ℕ → Pausing → Pausing
forwarding u q = elim (pauses_behind q u) [ true ↦ record q { paused = put_number u q.paused } | false ↦ q ]

-- the letters to these connections
abbrev pub pause_letters : ℕ → List ℕ → List Posted
pause_letters c us = map (λ u. record { to = Connection u; letter = Pause c }) us

abbrev pub resume_letters : ℕ → List ℕ → List Posted
resume_letters c us = map (λ u. record { to = Connection u; letter = Resume c }) us

-- the letter behind a Forward to a regular connection
abbrev pub pause_behind : ℕ → Pausing → ℕ → List Posted
pause_behind c q u = elim (pauses_behind q u) [ true ↦ pause_letters c (u ∷ []) | false ↦ [] ]

-- By a client's list.

-- the regular connection that an operation was forwarded to, if it was
abbrev pub regular_connection : Operation → List ℕ
regular_connection o =
    elim (is_of Bind o) [ true ↦ [] | false ↦ elim (chosen_connection o) [ None ↦ [] | Some u ↦ u ∷ [] ] ]

-- those of the live operations at a place
abbrev pub regular_connections : ℕ → List Entry → List ℕ
regular_connections c place = flat_map regular_connection (live_operations c place)

-- behind a choice for an operation, which is forwarded where it is live
abbrev pub with_chosen : Option Operation → Answer → Pausing → Pausing
with_chosen (Some o) (Go u b) q = elim (is_live o && not (is_of Bind o)) [ true ↦ forwarding u q | false ↦ q ]
with_chosen _ _ q = q

-- behind what happened, which stands behind these entries
abbrev pub pausing_behind : ℕ → List Entry → What → Pausing → Pausing
pausing_behind c place what.Stalled q = stalling (regular_connections c place) q
pausing_behind c place what.Flowing q = no_pause
pausing_behind c place (what.Gone why) q = no_pause
pausing_behind c place (what.Chosen op answer) q =
    elim q.stalled [ true ↦ with_chosen (operation_in c place op) answer q | false ↦ q ]
pausing_behind c place _ q = q

abbrev pub pausing_from : ℕ → Pausing → List Entry → List Entry → Pausing
pausing_from c q before [] = q
pausing_from c q before (e ∷ es) = pausing_from c (pausing_behind c before e.what q) (before ++ e ∷ []) es

-- at a place of the client's list
abbrev pub pausing_at : ℕ → List Entry → Pausing
pausing_at c place = pausing_from c no_pause [] place

-- By a connection's list.

-- the clients for which a connection pauses, behind what happened
abbrev pub waiting_behind : List ℕ → What → List ℕ
waiting_behind cs (what.Paused c) = put_number c cs
waiting_behind cs (what.Resumed c) = filter (λ d. not (d == c)) cs
waiting_behind cs _ = cs

abbrev pub waiting_from : List ℕ → List Entry → List ℕ
waiting_from cs [] = cs
waiting_from cs (e ∷ es) = waiting_from (waiting_behind cs e.what) es

-- those whose last entry of the two kinds at a place of the list says so
abbrev pub waiting_clients : List Entry → List ℕ
waiting_clients place = waiting_from [] place

-- whether a connection pauses for some client
abbrev pub is_waiting : List ℕ → Bool
is_waiting [] = false
is_waiting (c ∷ cs) = true

-- whether a regular connection holds, so that no message of it is taken: it isn't down, and pauses for some client
abbrev pub holds_at : Settings → ℕ → List Entry → Bool
holds_at s u place = is_of_kind s Regular u && not (list_any is_down place) && is_waiting (waiting_clients place)
