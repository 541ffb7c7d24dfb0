-- The states say what the lists say: of the plan in force, and of the clients for which a connection pauses.
use Rattle.std.proofs.Common.{◌≡◌, ℕ, List, [], ◌∷◌, refl, ap, ◌∙◌}
use Rattle.std.specs.Prelude.{Option, Some, None}
use Rattle.lload_names.specs.declared.names.Entry.{Entry}
use Rattle.lload_names.specs.declared.names.OpName.{OpName}
use Rattle.lload_names.specs.declared.names.Answer.{Answer}
use Rattle.lload_names.specs.declared.names.Answer.TheVariants.{Go, Busy, Unavailable}
use Rattle.lload_names.specs.declared.names.Letter.{Letter}
use Rattle.lload_names.specs.declared.names.Letter.TheVariants.{Returned, Ended, IsUp, IsRetired, IsDown}
use Rattle.lload_names.specs.declared.names.What.{What}
use Rattle.lload_names.specs.declared.names.What.TheVariants as what
use Rattle.lload_spec.specs.Settings.{Settings}
use Rattle.lload_spec.specs.Entries.{replanned}
use Rattle.lload_spec.specs.Order.{plan_behind}
use Rattle.lload_spec.specs.Pauses.{waiting_behind, waiting_from}
use Rattle.part_spec.specs.Marked.{Marked, Taken}
use Rattle.part_spec.specs.ConnectionState.{ConnectionState, connection_behind, step_connection, step_connections}
use Rattle.part_spec.specs.DeskState.{DeskState, with_choice, with_heard, desk_behind, step_desk, step_desks}
use Rattle.part_spec.specs.Marked.{entries}
use Rattle.part_spec.specs.Laws.{DeskPlans, ConnectionWaits}

-- a choice, and what is heard, leave the plan
choice-plan : (s : Settings) (op : OpName) (a : Answer) (p : DeskState) → (with_choice s op a p).plan ≡ p.plan
choice-plan s op (Go n b) p = refl
choice-plan s op Busy p = refl
choice-plan s op Unavailable p = refl

heard-plan : (s : Settings) (l : Letter) (p : DeskState) → (with_heard s l p).plan ≡ p.plan
heard-plan s (IsUp u) p = refl
heard-plan s (IsRetired u) p = refl
heard-plan s (IsDown u) p = refl
heard-plan s (Returned op u) p = refl
heard-plan s (Ended op u latency) p = refl
heard-plan s _ p = refl

-- the number of the plan in force, where this one was before
abbrev plan_at : What → ℕ → ℕ
plan_at w k = elim (replanned w) [ None ↦ k | Some r ↦ r.number ]

behind-plan : (s : Settings) (p : DeskState) (w : What) → (desk_behind s p w).plan ≡ plan_at w p.plan
behind-plan s p (what.Chose op a word) = choice-plan s op a p
behind-plan s p (what.Heard l) = heard-plan s l p
behind-plan s p (what.Replanned k base) = refl
behind-plan s p _ = refl

plans :
    (s : Settings) (p : DeskState) (list : List Marked) → (step_desks s p list).plan ≡ plan_behind p.plan (entries list)
plans s p [] = refl
plans s p (m ∷ ms) =
    plans s (step_desk s p m) ms
    ∙ ap (λ k. plan_behind k (entries ms)) (behind-plan s p m.entry.what)

pub desk-plans : DeskPlans
desk-plans s p list = plans s p list

-- what isn't a pause leaves the clients for which a connection pauses
behind-waiting :
    (s : Settings) (e : Entry) (mark : Option Taken) (p : ConnectionState) (w : What)
    → (connection_behind s e mark p w).waiting ≡ waiting_behind p.waiting w
behind-waiting s e mark p (what.Paused client) = refl
behind-waiting s e mark p _ = refl

waits :
    (s : Settings) (p : ConnectionState) (list : List Marked)
    → (step_connections s p list).waiting ≡ waiting_from p.waiting (entries list)
waits s p [] = refl
waits s p (m ∷ ms) =
    waits s (step_connection s p m) ms
    ∙ ap (λ cs. waiting_from cs (entries ms)) (behind-waiting s m.entry m.mark p m.entry.what)

pub connection-waits : ConnectionWaits
connection-waits s p list = waits s p list
