-- Each choice of the desk is the right one; all is read from the desk's list alone.
use Rattle.std.specs.Prelude.{ℕ, suc, Bool, false, ◌==◌, ◌&&◌, nat_le, List, length, Option, Some, None, IsTrue}
use Rattle.lload_names.specs.declared.names.Entry.{Entry}
use Rattle.lload_names.specs.declared.names.OpName.{OpName}
use Rattle.lload_names.specs.declared.names.Answer.{Answer}
use Rattle.lload_names.specs.declared.names.Want.{Want}
use Rattle.lload_spec.specs.Lists.{passes, last, first_passes, each_split, where_there}
use Rattle.lload_spec.specs.Journal.{same_op, same_answer}
use Rattle.lload_spec.specs.Entries.{Named, Replan, asked, chose, replanned, word_of}
use Rattle.lload_spec.specs.Settings.{Settings, plan_in_force}
use Rattle.lload_spec.specs.Choice.{right_answer}
use Rattle.lload_spec.specs.Order.{plan_number, desk_facts}

-- whether an entry chooses for the operation that was asked
abbrev pub chooses_for : OpName → Entry → Bool
chooses_for op e = passes (λ c. same_op op c.op) (chose e.what)

-- each Asked has its Chose directly behind it
abbrev pub is_answered : Entry → List Entry → Bool
is_answered e behind = where_there (λ a. first_passes (chooses_for a.op) behind) (asked e.what)

-- whether a choice is the right answer to what the entry before it asked
abbrev pub is_right_for : Settings → List Entry → ℕ → Named Answer → Option (Named Want) → Bool
is_right_for s place w c None = false
is_right_for s place w c (Some a) =
    same_op a.op c.op && same_answer c.value (right_answer s (desk_facts s place) a.value w)

-- what the last entry before asked
abbrev pub asked_last : List Entry → Option (Named Want)
asked_last place = elim (last place) [ None ↦ None | Some e ↦ asked e.what ]

-- each Chose is the right answer to the Asked directly before it
abbrev pub is_right_choice : Settings → List Entry → Entry → Bool
is_right_choice s place e =
    where_there (λ c. is_right_for s place (word_of e.what) c (asked_last place)) (chose e.what)

-- whether a plan of this number and base comes behind this one in the settings
abbrev pub is_next_plan : Settings → ℕ → Replan → Bool
is_next_plan s k r = r.number == suc k && nat_le r.number (length s.plans) && r.base == (plan_in_force s r.number).base

-- each entry that takes a plan takes the next one of the run, with its base
abbrev pub is_right_plan : Settings → List Entry → Entry → Bool
is_right_plan s place e = where_there (λ r. is_next_plan s (plan_number place) r) (replanned e.what)

-- each Asked has its Chose directly behind it, each Chose is right, and each plan is the next one
abbrev pub each_chosen_rightly : Settings → List Entry → Bool
each_chosen_rightly s desk =
    each_split (λ place e behind. is_answered e behind && is_right_choice s place e && is_right_plan s place e) desk

-- each choice of the desk is the right one, by the plan in force
abbrev pub Right : Settings → List Entry → Type 0
Right s desk = IsTrue (each_chosen_rightly s desk)
