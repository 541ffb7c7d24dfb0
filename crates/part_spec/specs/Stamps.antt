-- Turns with stamps: an order between the lists of several parts. A turn's stamp is a number of the contracts alone;
-- its entries and the letters that it gives have it.
use Rattle.std.specs.Prelude.{◌≡◌, ℕ, suc, Bool, true, false, ◌&&◌, nat_lt, max, List, [], ◌∷◌, ◌++◌, Option, Some, None, IsTrue}
use Rattle.lload_names.specs.declared.names.PartName.{PartName}
use Rattle.lload_names.specs.declared.names.Posted.{Posted}
use Rattle.lload_names.specs.declared.names.PartName.TheVariants.{Desk, Up as Connection}
use Rattle.std.specs.List.{list_any, list_all}
use Rattle.lload_spec.specs.Lists.{passes, implies}
use Rattle.lload_spec.specs.Entries.{replanned}
use Rattle.lload_spec.specs.Settings.{Settings}
use Rattle.lload_spec.specs.Journal.{Family, same_part}
use Rattle.part_spec.specs.Marked.{Marked, Taken}
use Rattle.part_spec.specs.Gives.{gives}
use Rattle.part_spec.specs.Linked.{Linked}

-- a turn of a part: its stamp, its entries with the letter that it took, and the letters that it gave
pub record Turn : Type 0 where
  pub stamp : ℕ
  pub entries : List Marked
  pub letters : List Posted

-- the list of a part, by its turns, and the letters that they gave
abbrev pub list_of_turns : List Turn → List Marked
list_of_turns [] = []
list_of_turns (t ∷ ts) = t.entries ++ list_of_turns ts

abbrev pub letters_of : List Turn → List Posted
letters_of [] = []
letters_of (t ∷ ts) = t.letters ++ letters_of ts

-- whether each stamp is above this one and those before it
abbrev pub rise_above : ℕ → List Turn → Bool
rise_above n [] = true
rise_above n (t ∷ ts) = nat_lt n t.stamp && rise_above t.stamp ts

-- the stamp, once for each letter of these that goes to a part
abbrev pub stamp_each_to : PartName → ℕ → List Posted → List ℕ
stamp_each_to q n [] = []
stamp_each_to q n (x ∷ xs) = (elim (same_part q x.to) [ true ↦ n ∷ [] | false ↦ [] ]) ++ stamp_each_to q n xs

-- the stamps of the letters that these turns gave to a part, in order
abbrev pub stamps_given : PartName → List Turn → List ℕ
stamps_given q [] = []
stamps_given q (t ∷ ts) = stamp_each_to q t.stamp t.letters ++ stamps_given q ts

-- whether a mark is of a letter of this sender
abbrev pub is_from : PartName → Option Taken → Bool
is_from p None = false
is_from p (Some t) = same_part p t.sender

-- the stamp, once for each mark of a letter of this sender
abbrev pub stamp_each_from : PartName → ℕ → List Marked → List ℕ
stamp_each_from p n [] = []
stamp_each_from p n (m ∷ ms) = (elim (is_from p m.mark) [ true ↦ n ∷ [] | false ↦ [] ]) ++ stamp_each_from p n ms

-- the stamps of the turns that took the letters of a sender, in order
abbrev pub stamps_taken : PartName → List Turn → List ℕ
stamps_taken p [] = []
stamps_taken p (t ∷ ts) = stamp_each_from p t.stamp t.entries ++ stamps_taken p ts

-- whether each that was taken has a greater stamp than the one that was given, one by one, and none is taken that
-- wasn't given
abbrev pub are_later : List ℕ → List ℕ → Bool
are_later given [] = true
are_later [] (t ∷ ts) = false
are_later (g ∷ gs) (t ∷ ts) = nat_lt g t && are_later gs ts

-- whether an entry takes a plan with a base below this connection
abbrev pub is_plan_below : ℕ → Marked → Bool
is_plan_below u m = passes (λ r. nat_lt r.base u) (replanned m.entry.what)

-- whether each of the desk's turns that takes such a plan has a smaller stamp than each of these turns
abbrev pub come_behind_plans : ℕ → List Turn → List Turn → Bool
come_behind_plans u desk turns =
    list_all (λ d. implies (list_any (is_plan_below u) d.entries) (list_all (λ t. nat_lt d.stamp t.stamp) turns)) desk

-- the lists of all parts are linked, with stamps: the letters of the turns are those that the lists stand for, the
-- stamps of one list rise from turn to turn, and each mark has a greater stamp than its letter; each turn of a
-- connection has a greater one than that which took a plan with a base below it
pub record StampedLinked (s : Settings) (F : Family) (turns : PartName → List Turn) : Type 0 where
  pub linked : Linked s F (λ p. list_of_turns (turns p))
  pub posted : (p : PartName) → gives s p (list_of_turns (turns p)) ≡ letters_of (turns p)
  pub rises : (p : PartName) → IsTrue (rise_above 0 (turns p))
  pub planned : (u : ℕ) → IsTrue (come_behind_plans u (turns Desk) (turns (Connection u)))
  pub later : (p q : PartName) → IsTrue (are_later (stamps_given q (turns p)) (stamps_taken p (turns q)))

-- the stamp of a part's next turn under a lock of its own: one more than its last one, or than that of the letter that
-- it takes, where this is greater; before the first turn the last one is 0, and of a connection the desk's last one
-- when the connection was made
abbrev pub next_stamp : ℕ → Option ℕ → ℕ
next_stamp before None = suc before
next_stamp before (Some letter) = suc (max before letter)
