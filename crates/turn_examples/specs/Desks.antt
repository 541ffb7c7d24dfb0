-- Wrong turns of the desk: before each stands the rule, and behind the colon what is done in its place.
use Rattle.std.specs.Prelude.{ℕ, suc, ◌-◌, max, [], ◌∷◌, drop}
use Rattle.lload_names.specs.declared.inputs.Effects.{Effects}
use Rattle.lload_names.specs.declared.inputs.Input.{Input}
use Rattle.lload_names.specs.declared.inputs.Input.TheVariants.{LetterFrom, Reload}
use Rattle.lload_names.specs.declared.names.Answer.{Answer}
use Rattle.lload_names.specs.declared.names.Answer.TheVariants.{Busy}
use Rattle.lload_names.specs.declared.names.Letter.TheVariants.{Ask}
use Rattle.lload_names.specs.declared.names.PartName.TheVariants.{Desk}
use Rattle.lload_names.specs.declared.names.Want.{Want}
use Rattle.lload_names.specs.declared.names.What.TheVariants.{Replanned}
use Rattle.lload_spec.specs.Choice.{pick_of_tiers}
use Rattle.lload_spec.specs.Settings.{Settings}
use Rattle.part_spec.specs.DeskState.{DeskState, facts_of}
use Rattle.part_spec.specs.DeskTurn.{answer_to, chooses, desk_turn}
use Rattle.part_spec.specs.Inputs.{act, effects_of, moment_for}
use Rattle.turn_examples.specs.Runs.{Turning, with_desk}

-- A connection is picked by the plan in force: it is picked by the one before.
abbrev pub by_plan_before : Settings → DeskState → Input → Effects
by_plan_before s p (LetterFrom now word sender letter) =
    desk_turn s (record p { plan = max 1 (p.plan - 1) }) (LetterFrom now word sender letter)
by_plan_before s p input = desk_turn s p input

abbrev pub picked_by_plan_before : Turning
picked_by_plan_before = with_desk (λ s w input. by_plan_before s w.desk input)

-- A request whose tier is busy is refused: the next tier is tried.
abbrev pub or_next_tier : Settings → DeskState → ℕ → Want → Answer → Answer
or_next_tier s p word want Busy =
    pick_of_tiers s (facts_of s p) want.kind word (drop 1 (facts_of s p).tiers)
or_next_tier s p word want answer = answer

abbrev pub with_next_tier : Settings → DeskState → Input → Effects
with_next_tier s p (LetterFrom now word sender (Ask op want)) =
    effects_of Desk (moment_for p.moment (LetterFrom now word sender (Ask op want)))
    (chooses op want (or_next_tier s p word want (answer_to s p word want)) word)
with_next_tier s p input = desk_turn s p input

abbrev pub next_tier_when_first_is_busy : Turning
next_tier_when_first_is_busy = with_desk (λ s w input. with_next_tier s w.desk input)

-- A tier takes its backends in turn: it takes the first that is eligible.
abbrev pub always_first_eligible : Turning
always_first_eligible = with_desk (λ s w input. desk_turn s (record w.desk { last_backends = [] }) input)

-- A plan is taken with the base that the run says: it is taken with any.
abbrev pub any_base : Settings → DeskState → Input → Effects
any_base s p (Reload now plan base) =
    effects_of Desk (moment_for p.moment (Reload now plan base)) (act (Replanned (suc p.plan) base ∷ []) [])
any_base s p input = desk_turn s p input

abbrev pub plan_taken_with_any_base : Turning
plan_taken_with_any_base = with_desk (λ s w input. any_base s w.desk input)

-- An operation is pending until its end is heard: none ever is.
abbrev pub nothing_pending : Turning
nothing_pending = with_desk (λ s w input. desk_turn s (record w.desk { pending = [] }) input)
