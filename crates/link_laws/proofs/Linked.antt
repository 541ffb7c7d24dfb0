-- The lists of a world's parts are linked, where each letter that was taken was fit and has a mark.
use Rattle.std.proofs.Common.{◌≡◌, ℕ, true, List, subst}
use Rattle.lload_names.specs.declared.names.PartName.{PartName}
use Rattle.lload_names.specs.declared.names.PartName.TheVariants.{Desk, Client, Up as Connection}
use Rattle.lload_spec.specs.Settings.{Settings}
use Rattle.part_spec.specs.Linked.{IsBeginning}
use Rattle.part_spec.specs.Gives.{gives}
use Rattle.part_spec.specs.Marked.{taken_from, letters_to}
use Rattle.part_spec.specs.Marks.{has_right_marks}
use Rattle.part_spec.specs.Merge.{PartMove, world_of}
use Rattle.part_spec.specs.Share.{DeskShare, ConnectionShare, PartShare}
use Rattle.part_spec.specs.World.{empty_world, list_in}
use Rattle.part_spec.specs.Laws.{FitIsWhole}
use Rattle.link_laws.specs.Moves.{end_rightly, marks_moves}
use Rattle.link_laws.specs.Laws.{IsAllFit, WorldsLinkedLaw}
use Rattle.link_laws.proofs.Entries.{entries_in}
use Rattle.link_laws.proofs.DeskLinks.{desk_shares_in, desk_links}
use Rattle.link_laws.proofs.ClientLinks.{client_links, client_marks_in}
use Rattle.link_laws.proofs.ConnectionLinks.{connection_shares_in, connection_links}

module _ (fit_is_whole : FitIsWhole) (s : Settings) (ms : List PartMove) (rightly : end_rightly ms ≡ true) (marks : marks_moves s empty_world ms ≡ true) (fit : IsAllFit s (world_of s ms)) where
  -- where each letter was fit, the share is of the whole list
  pub desk_share : DeskShare s (list_in (world_of s ms) Desk)
  desk_share = subst (PartShare s Desk) (fit_is_whole s Desk (list_in (world_of s ms) Desk) (fit Desk)) (desk_shares_in s ms)

  pub connection_share : (u : ℕ) → ConnectionShare s u (list_in (world_of s ms) (Connection u))
  connection_share u = subst (PartShare s (Connection u)) (fit_is_whole s (Connection u) (list_in (world_of s ms) (Connection u)) (fit (Connection u))) (connection_shares_in s ms u rightly)

  marked : (p : PartName) → has_right_marks s p (list_in (world_of s ms) p) ≡ true
  marked Desk = desk_share.marks
  marked (Client c) = client_marks_in s ms c rightly
  marked (Connection u) = (connection_share u).marks

  in_order : (p q : PartName) → IsBeginning (taken_from p (list_in (world_of s ms) q)) (letters_to q (gives s p (list_in (world_of s ms) p)))
  in_order Desk q = desk_links s ms marks q
  in_order (Client c) q = client_links s ms c rightly marks q
  in_order (Connection u) q = connection_links s ms u rightly (fit (Connection u)) marks q

pub worlds_linked : FitIsWhole → WorldsLinkedLaw
worlds_linked fit_is_whole s ms rightly marks fit = record {
  marks = marked fit_is_whole s ms rightly marks fit;
  same_entries = entries_in (world_of s ms);
  in_order = in_order fit_is_whole s ms rightly marks fit;
}
