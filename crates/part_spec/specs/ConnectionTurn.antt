-- Rules that regular connections and bind connections share.
use Rattle.std.specs.Prelude.{ℕ, Bool, true, false, ◌==◌, ◌&&◌, not, List, [], ◌∷◌, ◌++◌, length, flat_map, Option, Some, None, is_none}
use Rattle.ldap_spec.specs.Messages.{Message}
use Rattle.lload_spec.specs.BadMessages.{is_bad}
use Rattle.lload_names.specs.declared.names.OpName.{OpName}
use Rattle.lload_names.specs.declared.names.EndWhy.{EndWhy}
use Rattle.lload_names.specs.declared.names.EndWhy.TheVariants.{Bad, Drained}
use Rattle.lload_names.specs.declared.names.Refusal.TheVariants.{C4}
use Rattle.lload_names.specs.declared.names.PartName.TheVariants.{Desk, Up as Connection}
use Rattle.lload_names.specs.declared.names.Posted.{Posted}
use Rattle.lload_names.specs.declared.names.Letter.TheVariants.{Ended, IsUp, IsRetired, IsDown}
use Rattle.lload_names.specs.declared.names.What.{What}
use Rattle.lload_names.specs.declared.names.What.TheVariants as what
use Rattle.lload_spec.specs.Settings.{Settings}
use Rattle.lload_spec.specs.CausedUp.{is_past}
use Rattle.lload_spec.specs.Owed.{latency_between}
use Rattle.part_spec.specs.Marked.{Taken}
pub use Rattle.part_spec.specs.Inputs.{where_so}
use Rattle.part_spec.specs.Inputs.{Act, act, also, entries_of, marked_by, to, failed}
use Rattle.part_spec.specs.ConnectionState.{ConnectionState, UpRow, is_bind, message_facts, step_connections}

-- the end of a chosen operation, as the desk hears it
abbrev pub ended : ConnectionState → OpName → Option ℕ → List Posted
ended p op latency = to Desk (Ended op p.number latency)

-- the end of a row's operation on a regular connection; on a bind connection it is the holder that ends
abbrev pub row_ended : ConnectionState → UpRow → Option ℕ → List Posted
row_ended p r latency = elim (is_bind p) [ true ↦ [] | false ↦ ended p r.op latency ]

-- the end of the holder of a bind connection
abbrev pub holder_ended : ConnectionState → List Posted
holder_ended p = elim p.holder [ None ↦ [] | Some h ↦ ended p h None ]

-- the moment less that of the Sent, as far as 32 bits hold it
abbrev pub latency : ℕ → UpRow → Option ℕ
latency at r = Some (latency_between r.sent at)

-- whether a row's operation is due at a moment (bindconf timeout in lloadd.conf(5))
abbrev pub is_due : Settings → ℕ → UpRow → Bool
is_due s at r = is_past s.timeout r.answered at

-- an entry that gives this identifier, with Retired directly behind it where it is the limit (this project's own)
abbrev pub giving : Settings → ℕ → What → List What
giving s id entry = elim (id == s.id_limit) [ true ↦ entry ∷ what.Retired ∷ [] | false ↦ entry ∷ [] ]

-- the letter that the desk hears of this
abbrev pub retires : Settings → ConnectionState → ℕ → List Posted
retires s p id = elim (id == s.id_limit) [ true ↦ to Desk (IsRetired p.number) | false ↦ [] ]

-- the letters for an operation that is lost
abbrev pub loss : ConnectionState → UpRow → List Posted
loss p r = failed r.op C4 ++ row_ended p r None

-- the letters of a connection's end: each live operation is lost, then the holder ends, then the desk hears it
abbrev pub down_letters : ConnectionState → List Posted
down_letters p = flat_map (loss p) p.rows ++ (holder_ended p ++ to Desk (IsDown p.number))

-- the connection goes down
abbrev pub goes_down : ConnectionState → EndWhy → Act
goes_down p why = act (what.Down why ∷ []) (down_letters p)

-- it comes up
abbrev pub comes_up : ConnectionState → Act
comes_up p = act (what.Up ∷ []) (to Desk (IsUp p.number))

-- a message that takes the connection down, or what another one gives
abbrev pub takes_down : ConnectionState → Message → Act → Act
takes_down p m a = elim (is_bad (message_facts p) m) [ true ↦ goes_down p Bad | false ↦ a ]

-- the state behind what a turn made so far
abbrev pub behind_act : Settings → ℕ → Option Taken → ConnectionState → Act → ConnectionState
behind_act s at mark p a = step_connections s p (marked_by mark (entries_of (Connection p.number) at a.whats))

-- whether nothing is left to do for a retired connection
abbrev pub is_drained : ConnectionState → Bool
is_drained p = p.retired && not p.down && length p.rows == 0 && is_none p.holder

-- where a rule leaves a retired connection with nothing to do, it goes down
abbrev pub with_drained : Settings → ℕ → Option Taken → ConnectionState → Act → Act
with_drained s at mark p a =
    elim (is_drained (behind_act s at mark p a)) [
      | true ↦ also a (act (what.Down Drained ∷ []) (to Desk (IsDown p.number)))
      | false ↦ a
    ]
