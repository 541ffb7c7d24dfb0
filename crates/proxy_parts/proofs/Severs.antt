-- What the end of a link leaves of a connection.
use Rattle.std.proofs.Common.{◌≡◌, ◌<◌, ℕ, Bool, true, false, length, None, refl, arith}
use Rattle.std.specs.Prelude.{max}
use Rattle.lload_names.specs.declared.names.EndWhy.{EndWhy}
use Rattle.lload_names.specs.declared.names.PartName.TheVariants.{Up}
use Rattle.lload_spec.specs.Settings.{Settings}
use Rattle.part_spec.specs.Inputs.{effects_of, marked_by, where_so}
use Rattle.part_spec.specs.ConnectionState.{ConnectionState, is_there, step_connections}
use Rattle.part_spec.specs.ConnectionTurn.{goes_down}
use Rattle.part_spec.specs.Turn.{connection_sever}

-- one whose end gives a letter is down
pub severed-down : (s : Settings) (p : ConnectionState) (now : ℕ) (why : EndWhy) → 0 < length (connection_sever p now why).letters → (step_connections s p (marked_by None (connection_sever p now why).entries)).down ≡ true
severed-down s p now why = by (is_there p)
  where
    by : (b : Bool) → 0 < length (effects_of (Up p.number) (max p.moment now) (where_so b (goes_down p why))).letters → (step_connections s p (marked_by None (effects_of (Up p.number) (max p.moment now) (where_so b (goes_down p why))).entries)).down ≡ true
    by true h = refl
    by false h = absurd (omega (arith, h))
