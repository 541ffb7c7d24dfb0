-- Laws of the worlds that moves make, as statements.
use Rattle.std.specs.Prelude.{◌≡◌, ℕ, List, IsTrue}
use Rattle.lload_names.specs.declared.names.PartName.{PartName}
use Rattle.lload_names.specs.declared.names.PartName.TheVariants.{Desk, Client, Up as Connection}
use Rattle.lload_spec.specs.Settings.{Settings}
use Rattle.lload_spec.specs.Journal.{family}
use Rattle.part_spec.specs.ClientState.{client_of}
use Rattle.part_spec.specs.ConnectionState.{connection_of}
use Rattle.part_spec.specs.DeskState.{desk_of}
use Rattle.part_spec.specs.Linked.{IsBeginning, Linked, list_of}
use Rattle.part_spec.specs.Marked.{entries, taken_from, letters_to}
use Rattle.part_spec.specs.Fit.{is_all_fit}
use Rattle.part_spec.specs.Gives.{gives}
use Rattle.part_spec.specs.Marks.{has_right_marks}
use Rattle.part_spec.specs.Merge.{Move, PartMove, AreTurns, moved, world_of}
use Rattle.part_spec.specs.Share.{Share}
use Rattle.part_spec.specs.Stamps.{Turn, list_of_turns, letters_of, rise_above, stamps_given, stamps_taken, are_later}
use Rattle.part_spec.specs.World.{World, empty_world, client_in, connection_in, journal_of, list_in, given_in, turns_in}
use Rattle.link_laws.specs.Moves.{end_rightly, marks_move, marks_moves, Links}

-- where each letter that was taken has a mark, what each part gave another is what this one took, and then what waits
abbrev pub LinksLaw : Type 0
LinksLaw =
    (s : Settings) (ms : List PartMove) → IsTrue (marks_moves s empty_world ms) → Links (world_of s ms)

-- it stays so in any world, behind each move that marks the letter that it takes
abbrev pub LinksStay : Type 0
LinksStay =
    (s : Settings) (w : World) (p : PartName) (move : Move)
    → IsTrue (marks_move s w p move) → Links w → Links (moved s p move w)

-- the entries of each part's list are those of the part in the world's journal
abbrev pub EntriesLaw : Type 0
EntriesLaw = (w : World) (p : PartName) → entries (list_in w p) ≡ list_of (family (journal_of w)) p

-- each part's state is that of its list
pub record StatesAreOfLists (s : Settings) (w : World) : Type 0 where
  pub clients : (c : ℕ) → client_in w c ≡ client_of s c (list_in w (Client c))
  pub connections : (u : ℕ) → connection_in s w u ≡ connection_of s u (list_in w (Connection u))
  pub desk : w.desk ≡ desk_of s (list_in w Desk)

abbrev pub StatesLaw : Type 0
StatesLaw = (s : Settings) (ms : List PartMove) → StatesAreOfLists s (world_of s ms)

-- a part's turns make its list and gave its letters, their stamps rise, and each is what an intake gives behind those
-- before
pub record TurnsAreOfLists (s : Settings) (w : World) (p : PartName) : Type 0 where
  pub lists : list_of_turns (turns_in w p) ≡ list_in w p
  pub given : letters_of (turns_in w p) ≡ given_in w p
  pub rise : IsTrue (rise_above 0 (turns_in w p))
  pub made : AreTurns s p (turns_in w p)

abbrev pub TurnsLaw : Type 0
TurnsLaw = (s : Settings) (ms : List PartMove) (p : PartName) → TurnsAreOfLists s (world_of s ms) p

-- where each letter that was taken has a mark, each mark has a greater stamp than its letter
abbrev pub LaterLaw : Type 0
LaterLaw =
    (s : Settings) (ms : List PartMove) → IsTrue (marks_moves s empty_world ms) → (p q : PartName)
    → IsTrue (are_later (stamps_given q (turns_in (world_of s ms) p)) (stamps_taken p (turns_in (world_of s ms) q)))

-- what the desk's turns gave is what their list gives
abbrev pub DeskTurnsGive : Type 0
DeskTurnsGive =
    (s : Settings) (turns : List Turn) → AreTurns s Desk turns → gives s Desk (list_of_turns turns) ≡ letters_of turns

-- what the desk gave is what its list gives
abbrev pub DeskGivesLaw : Type 0
DeskGivesLaw =
    (s : Settings) (ms : List PartMove)
    → gives s Desk (list_in (world_of s ms) Desk) ≡ given_in (world_of s ms) Desk

-- what each part took from the desk is a beginning of what the desk's list gives it
abbrev pub DeskLinksLaw : Type 0
DeskLinksLaw =
    (s : Settings) (ms : List PartMove) → IsTrue (marks_moves s empty_world ms) → (q : PartName)
    → IsBeginning (taken_from Desk (list_in (world_of s ms) q))
    (letters_to q (gives s Desk (list_in (world_of s ms) Desk)))

-- the desk's list keeps its share, up to the first letter that isn't fit
abbrev pub DeskSharesLaw : Type 0
DeskSharesLaw = (s : Settings) (ms : List PartMove) → Share s Desk (list_in (world_of s ms) Desk)

-- where links end for reasons that a link has, what each client gave is what its list gives
abbrev pub ClientsGiveLaw : Type 0
ClientsGiveLaw =
    (s : Settings) (ms : List PartMove) (c : ℕ) → IsTrue (end_rightly ms)
    → gives s (Client c) (list_in (world_of s ms) (Client c)) ≡ given_in (world_of s ms) (Client c)

-- and what each part took from a client is a beginning of what the client's list gives it
abbrev pub ClientLinksLaw : Type 0
ClientLinksLaw =
    (s : Settings) (ms : List PartMove) (c : ℕ) → IsTrue (end_rightly ms) → IsTrue (marks_moves s empty_world ms)
    → (q : PartName)
    → IsBeginning (taken_from (Client c) (list_in (world_of s ms) q))
    (letters_to q (gives s (Client c) (list_in (world_of s ms) (Client c))))

-- and each entry of a client's list has the right mark
abbrev pub ClientMarksLaw : Type 0
ClientMarksLaw =
    (s : Settings) (ms : List PartMove) (c : ℕ) → IsTrue (end_rightly ms)
    → IsTrue (has_right_marks s (Client c) (list_in (world_of s ms) (Client c)))

-- and each client's list keeps its share, up to the first letter that isn't fit
abbrev pub ClientSharesLaw : Type 0
ClientSharesLaw =
    (s : Settings) (ms : List PartMove) (c : ℕ) → IsTrue (end_rightly ms)
    → Share s (Client c) (list_in (world_of s ms) (Client c))

-- where links end for reasons that a link has, each connection's list keeps its share, up to the first letter that isn't
-- fit
abbrev pub ConnectionSharesLaw : Type 0
ConnectionSharesLaw =
    (s : Settings) (ms : List PartMove) (u : ℕ) → IsTrue (end_rightly ms)
    → Share s (Connection u) (list_in (world_of s ms) (Connection u))

-- where each letter that it took was fit too, what a connection gave is what its list gives
abbrev pub ConnectionsGiveLaw : Type 0
ConnectionsGiveLaw =
    (s : Settings) (ms : List PartMove) (u : ℕ) → IsTrue (end_rightly ms)
    → IsTrue (is_all_fit s (Connection u) (list_in (world_of s ms) (Connection u)))
    → gives s (Connection u) (list_in (world_of s ms) (Connection u)) ≡ given_in (world_of s ms) (Connection u)

-- and what each part took from a connection is a beginning of what the connection's list gives it
abbrev pub ConnectionLinksLaw : Type 0
ConnectionLinksLaw =
    (s : Settings) (ms : List PartMove) (u : ℕ) → IsTrue (end_rightly ms)
    → IsTrue (is_all_fit s (Connection u) (list_in (world_of s ms) (Connection u)))
    → IsTrue (marks_moves s empty_world ms) → (q : PartName)
    → IsBeginning (taken_from (Connection u) (list_in (world_of s ms) q))
    (letters_to q (gives s (Connection u) (list_in (world_of s ms) (Connection u))))

-- each letter of each part's list was fit where it was taken
abbrev pub IsAllFit : Settings → World → Type 0
IsAllFit s w = (p : PartName) → IsTrue (is_all_fit s p (list_in w p))

-- where links end for reasons that a link has, and each letter was fit and has a mark, the lists of the parts are
-- linked
abbrev pub WorldsLinkedLaw : Type 0
WorldsLinkedLaw =
    (s : Settings) (ms : List PartMove) → IsTrue (end_rightly ms) → IsTrue (marks_moves s empty_world ms)
    → IsAllFit s (world_of s ms) → Linked s (family (journal_of (world_of s ms))) (list_in (world_of s ms))
