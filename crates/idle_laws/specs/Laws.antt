-- Leaves that come to nothing on bind connections: each is given once, and is owed.
use Rattle.std.specs.Prelude.{◌≡◌, ℕ, Bool, true, ◌&&◌, not, List, [], ◌∷◌, IsTrue}
use Rattle.std.specs.List.{list_any}
use Rattle.lload_names.specs.declared.names.ConnKind.TheVariants.{Bind as BindKind}
use Rattle.lload_names.specs.declared.names.OpName.{OpName}
use Rattle.lload_names.specs.declared.names.PartName.{PartName}
use Rattle.lload_names.specs.declared.names.PartName.TheVariants.{Client, Up as Connection}
use Rattle.lload_spec.specs.Journal.{Family}
use Rattle.lload_spec.specs.Lists.{each_entry, implies}
use Rattle.lload_spec.specs.Owed.{is_idle_owed}
use Rattle.lload_spec.specs.Settings.{Settings, is_of_kind}
use Rattle.lload_spec.specs.Strict.{each_idle_owed}
use Rattle.part_spec.specs.Fit.{is_leave_of}
use Rattle.part_spec.specs.Gives.{gives}
use Rattle.part_spec.specs.Marked.{Marked, letters_to}
use Rattle.carried_laws.specs.Laws.{Played}

-- whether at most one of these passes the test
abbrev pub is_once : {A : Type 0} → (A → Bool) → List A → Bool
is_once test [] = true
is_once test (x ∷ xs) = implies (test x) (not (list_any test xs)) && is_once test xs

-- a client gives a connection one Leave of a holder at most
abbrev pub LeavesAreGivenOnce : Type 0
LeavesAreGivenOnce =
    (s : Settings) (F : Family) (marked : PartName → List Marked) → Played s F marked → (u : ℕ) (holder : OpName)
    → IsTrue
    (is_once (is_leave_of holder)
    (letters_to (Connection u) (gives s (Client holder.client) (marked (Client holder.client)))))

-- each Idle of a bind connection is owed
abbrev pub BindIdlesAreOwed : Type 0
BindIdlesAreOwed =
    (s : Settings) (F : Family) (marked : PartName → List Marked) → Played s F marked
    → (u : ℕ) → is_of_kind s BindKind u ≡ true → IsTrue (each_entry (is_idle_owed s F u) (F.connection u))

-- and so each Drop and each Leave that comes to nothing
abbrev pub EachIdleIsOwed : Type 0
EachIdleIsOwed =
    (s : Settings) (F : Family) (marked : PartName → List Marked) → Played s F marked → IsTrue (each_idle_owed s F)
