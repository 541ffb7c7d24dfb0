-- The same in each world that moves of the parts make: the letter that waits first from a sender may be taken.
use Rattle.std.specs.Prelude.{◌≡◌, ℕ, true, List, drop, Some, find}
use Rattle.lload_names.specs.declared.names.ConnKind.TheVariants.{Regular, Bind as BindKind}
use Rattle.lload_names.specs.declared.names.Letter.TheVariants.{IsUp}
use Rattle.lload_names.specs.declared.names.PartName.{PartName}
use Rattle.lload_names.specs.declared.names.PartName.TheVariants.{Desk, Client, Up as Connection}
use Rattle.lload_spec.specs.Settings.{Settings}
use Rattle.part_spec.specs.Merge.{PartMove, world_of}
use Rattle.part_spec.specs.Runs.{agree_with, are_above}
use Rattle.part_spec.specs.World.{Flight, World, client_in, connection_in, is_between}
use Rattle.taken_laws.specs.Taking.{BindMayTake, ClientMayTake, DeskMayTake, HoldsOnce, RegularMayTake}

-- a letter is the first that waits between two parts
abbrev pub WaitsFirst : World → PartName → PartName → Flight → Type 0
WaitsFirst w sender receiver f = find (is_between sender receiver) w.letters ≡ Some f

abbrev pub FirstsForRegular : Type 0
FirstsForRegular =
    (s : Settings) (ms : List PartMove) (u : ℕ) (sender : PartName) (f : Flight)
    → (connection_in s (world_of s ms) u).kind ≡ Regular → WaitsFirst (world_of s ms) sender (Connection u) f
    → RegularMayTake (connection_in s (world_of s ms) u) f.posted.letter

abbrev pub FirstsForBind : Type 0
FirstsForBind =
    (s : Settings) (ms : List PartMove) (u : ℕ) (sender : PartName) (f : Flight)
    → (connection_in s (world_of s ms) u).kind ≡ BindKind → WaitsFirst (world_of s ms) sender (Connection u) f
    → BindMayTake (connection_in s (world_of s ms) u) f.posted.letter

abbrev pub FirstsForDesk : Type 0
FirstsForDesk =
    (s : Settings) (ms : List PartMove) (sender : PartName) (f : Flight) → WaitsFirst (world_of s ms) sender Desk f
    → DeskMayTake s (world_of s ms).desk f.posted.letter

abbrev pub FirstsForClient : Type 0
FirstsForClient =
    (s : Settings) (ms : List PartMove) (c : ℕ) (sender : PartName) (f : Flight)
    → WaitsFirst (world_of s ms) sender (Client c) f → ClientMayTake (client_in (world_of s ms) c) f.posted.letter

-- at the desk an operation is pending at most once, and a connection viable at most once
abbrev pub DeskOfRunsHoldsOnce : Type 0
DeskOfRunsHoldsOnce = (s : Settings) (ms : List PartMove) → HoldsOnce (world_of s ms).desk

-- that a connection is up waits first only where the connection was linked
abbrev pub FirstUpsAreLinked : Type 0
FirstUpsAreLinked =
    (s : Settings) (ms : List PartMove) (sender : PartName) (f : Flight) (u : ℕ)
    → WaitsFirst (world_of s ms) sender Desk f → f.posted.letter ≡ IsUp u
    → (connection_in s (world_of s ms) u).linked ≡ true

-- so where the settings agree with the world it is one of the plans so far: no later plan has its base below it
abbrev pub FirstUpsAreOfPlans : Type 0
FirstUpsAreOfPlans =
    (s : Settings) (ms : List PartMove) (sender : PartName) (f : Flight) (u : ℕ)
    → WaitsFirst (world_of s ms) sender Desk f → f.posted.letter ≡ IsUp u → agree_with s (world_of s ms) ≡ true
    → are_above u (drop (world_of s ms).desk.plan s.plans) ≡ true
