-- What the promises say of one list alone: it comes of the shares of the parts, with no word on what crosses between them.
use Rattle.std.specs.Prelude.{◌≡◌, List, IsTrue}
use Rattle.lload_names.specs.declared.names.PartName.{PartName}
use Rattle.lload_spec.specs.Settings.{Settings}
use Rattle.lload_spec.specs.Journal.{Family, of_part}
use Rattle.lload_spec.specs.Fifo.{each_ended_once, each_out_owned}
use Rattle.lload_spec.specs.Right.{Right}
use Rattle.lload_spec.specs.Caused.{each_busy_told, each_unavailable_told, each_late_caused, each_stall_caused, each_entry_placed, moments_never_fall}
use Rattle.lload_spec.specs.CausedUp.{each_up_due, each_retirement_due, each_own_bind_end_due, each_missed_caused}
use Rattle.part_spec.specs.Linked.{list_of}
use Rattle.part_spec.specs.Marked.{Marked, entries}
use Rattle.part_spec.specs.Share.{PartShare}

-- the lists of a family with the letters that they took: each has entries of its own part, and keeps the part's share
pub record Shared (s : Settings) (F : Family) (marked : PartName → List Marked) : Type 0 where
  pub same_entries : (p : PartName) → entries (marked p) ≡ list_of F p
  pub own_entries : (p : PartName) → of_part p (list_of F p) ≡ list_of F p
  pub shares : (p : PartName) → PartShare s p (marked p)

-- what the promises say of one list alone
pub record OfOneList (s : Settings) (F : Family) : Type 0 where
  pub right : Right s F.desk
  pub ended_once : IsTrue (each_ended_once F)
  pub outs_owned : IsTrue (each_out_owned F)
  pub busy : IsTrue (each_busy_told F)
  pub unavailable : IsTrue (each_unavailable_told F)
  pub late : IsTrue (each_late_caused F)
  pub stalls : IsTrue (each_stall_caused F)
  pub moments : IsTrue (moments_never_fall F)
  pub entries_placed : IsTrue (each_entry_placed F)
  pub ups : IsTrue (each_up_due s F)
  pub retirements : IsTrue (each_retirement_due s F)
  pub own_bind_ends : IsTrue (each_own_bind_end_due s F)
  pub missed : IsTrue (each_missed_caused F)

abbrev pub OneListLaw : Type 0
OneListLaw =
    (s : Settings) (F : Family) (marked : PartName → List Marked) → Shared s F marked → OfOneList s F
