-- How the parts' lists are linked in each world that moves make.
use Rattle.std.specs.Prelude.{◌≡◌, ℕ, List, [], IsTrue}
use Rattle.lload_names.specs.declared.names.PartName.{PartName}
use Rattle.lload_names.specs.declared.names.PartName.TheVariants.{Desk, Up as Connection}
use Rattle.lload_spec.specs.Journal.{family}
use Rattle.lload_spec.specs.Settings.{Settings}
use Rattle.part_spec.specs.Gives.{gives}
use Rattle.part_spec.specs.Linked.{Linked}
use Rattle.part_spec.specs.Marked.{letters_to, taken_from}
use Rattle.part_spec.specs.Merge.{PartMove, world_of}
use Rattle.part_spec.specs.Share.{ConnectionShare, DeskShare}
use Rattle.part_spec.specs.Stamps.{are_later, stamps_given, stamps_taken}
use Rattle.part_spec.specs.World.{World, given_in, journal_of, list_in, turns_in}
use Rattle.link_laws.specs.Moves.{Links, end_rightly}

-- what each part gave another is what this one took, and then what waits
abbrev pub AlwaysLinks : Type 0
AlwaysLinks = (s : Settings) (ms : List PartMove) → Links (world_of s ms)

-- each mark has a greater stamp than its letter
abbrev pub AlwaysLater : Type 0
AlwaysLater =
    (s : Settings) (ms : List PartMove) (p q : PartName)
    → IsTrue (are_later (stamps_given q (turns_in (world_of s ms) p)) (stamps_taken p (turns_in (world_of s ms) q)))

-- where links end for reasons that a link has, the lists of the parts are linked
abbrev pub AlwaysLinked : Type 0
AlwaysLinked =
    (s : Settings) (ms : List PartMove) → IsTrue (end_rightly ms)
    → Linked s (family (journal_of (world_of s ms))) (list_in (world_of s ms))

-- what each part gave is what its list gives
abbrev pub AlwaysGives : Type 0
AlwaysGives =
    (s : Settings) (ms : List PartMove) (p : PartName) → IsTrue (end_rightly ms)
    → gives s p (list_in (world_of s ms) p) ≡ given_in (world_of s ms) p

-- and where nothing waits, what each part took of another is all that this one's list gives it
abbrev pub AllTakenAtRest : Type 0
AllTakenAtRest =
    (s : Settings) (ms : List PartMove) (p q : PartName) → IsTrue (end_rightly ms) → (world_of s ms).letters ≡ []
    → taken_from p (list_in (world_of s ms) q) ≡ letters_to q (gives s p (list_in (world_of s ms) p))

-- the desk's list keeps its share of the promises, and so does the list of each connection
pub record KeepShares (s : Settings) (w : World) : Type 0 where
  pub desk : DeskShare s (list_in w Desk)
  pub connections : (u : ℕ) → ConnectionShare s u (list_in w (Connection u))

abbrev pub AlwaysShares : Type 0
AlwaysShares = (s : Settings) (ms : List PartMove) → IsTrue (end_rightly ms) → KeepShares s (world_of s ms)
