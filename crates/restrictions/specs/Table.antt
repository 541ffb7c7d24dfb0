-- The restrictions of a configuration, and the settings that have them.
use Rattle.std.specs.Prelude.{◌≡◌, ℕ, List}
use Rattle.lload_spec.specs.Settings.{Action, Settings}
use Rattle.restrictions.specs.Actions.{put}
use Rattle.restrictions.specs.declared.table.Restrictions.{Restrictions}

-- with an action for the Extended requests of one more name
abbrev pub with_exop : List ℕ → Action → Restrictions → Restrictions
with_exop oid a t = record { exops = put oid a t.exops; controls = t.controls }

-- with an action for one more control
abbrev pub with_control : List ℕ → Action → Restrictions → Restrictions
with_control oid a t = record { exops = t.exops; controls = put oid a t.controls }

-- the settings have these restrictions
pub record HasRestrictions (s : Settings) (t : Restrictions) : Type 0 where
  pub exops : s.exop_restrictions ≡ t.exops
  pub controls : s.control_restrictions ≡ t.controls
