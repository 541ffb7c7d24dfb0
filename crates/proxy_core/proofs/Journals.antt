-- A run with one move more: its journal, and that its links end rightly.
use Rattle.std.proofs.Common.{◌≡◌, Bool, true, List, [], ◌∷◌, ◌++◌, map, refl, ap, ◌∙◌, sym, subst}
use Rattle.std.specs.Prelude.{◌&&◌, IsTrue, Option, None}
use Rattle.std.proofs.lemmas.List.{map-append}
use Rattle.std.proofs.lemmas.List.Folds.{list_all-append}
use Rattle.lload_names.specs.declared.inputs.Effects.{Effects}
use Rattle.lload_names.specs.declared.names.Entry.{Entry}
use Rattle.lload_names.specs.declared.names.PartName.{PartName}
use Rattle.lload_names.specs.declared.names.PartName.TheVariants.{Desk, Client, Up as Connection}
use Rattle.lload_spec.specs.Settings.{Settings}
use Rattle.part_spec.specs.Inputs.{marked_by}
use Rattle.part_spec.specs.Marked.{Marked, Taken}
use Rattle.part_spec.specs.Merge.{PartMove, Move, moved, behind_moves, world_of}
use Rattle.part_spec.specs.World.{World, behind, journal_of}
use Rattle.link_laws.specs.Moves.{end_rightly, move_ends_rightly}
use Rattle.proxy_core.specs.Runs.{Stands, Moved, move_of}
use Rattle.proxy_core.specs.States.{Is}
use Rattle.proxy_core.specs.declared.world.World.{World as Here}

-- the entries of a turn, without their mark

unmarked : (es : List Entry) → map (λ m. m.entry) (map (λ (x : Entry). let m : Marked = record { entry = x; mark = None } in m) es) ≡ es
unmarked [] = refl
unmarked (e ∷ es) = ap (λ l. e ∷ l) (unmarked es)

entries-of : (mark : Option Taken) (es : List Entry) → map (λ m. m.entry) (marked_by mark es) ≡ es
entries-of mark [] = refl
entries-of mark (e ∷ es) = ap (λ l. e ∷ l) (unmarked es)

-- the journal behind a turn
pub journal-behind : (s : Settings) (p : PartName) (mark : Option Taken) (e : Effects) (v : World) → journal_of (behind s p mark e v) ≡ journal_of v ++ e.entries
journal-behind s Desk mark e v = map-append (λ m. m.entry) v.journal (marked_by mark e.entries) ∙ ap (λ l. journal_of v ++ l) (entries-of mark e.entries)
journal-behind s (Client c) mark e v = map-append (λ m. m.entry) v.journal (marked_by mark e.entries) ∙ ap (λ l. journal_of v ++ l) (entries-of mark e.entries)
journal-behind s (Connection u) mark e v = map-append (λ m. m.entry) v.journal (marked_by mark e.entries) ∙ ap (λ l. journal_of v ++ l) (entries-of mark e.entries)

-- the run with one move more
moves-more : (s : Settings) (v : World) (ms : List PartMove) (m : PartMove) → behind_moves s v (ms ++ m ∷ []) ≡ moved s m.part m.move (behind_moves s v ms)
moves-more s v [] m = refl
moves-more s v (x ∷ ms) m = moves-more s (moved s x.part x.move v) ms m

both : (a b : Bool) → a ≡ true → b ≡ true → (a && b) ≡ true
both a b h k = ap (λ x. x && b) h ∙ k

ends-more : (ms : List PartMove) (m : PartMove) → IsTrue (end_rightly ms) → move_ends_rightly m.move ≡ true → IsTrue (end_rightly (ms ++ m ∷ []))
ends-more ms m h k = list_all-append (λ x. move_ends_rightly x.move) ms (m ∷ []) ∙ both (end_rightly ms) (move_ends_rightly m.move && true) h (both (move_ends_rightly m.move) true k refl)

-- a world that stands for the world behind a move stands for the run with it
pub run-moved : (s : Settings) (ms : List PartMove) (p : PartName) (move : Move) (made : List Entry) (old new : Here)
    → Stands s ms old → move_ends_rightly move ≡ true
    → journal_of (moved s p move (world_of s ms)) ≡ journal_of (world_of s ms) ++ made
    → Is s (moved s p move (world_of s ms)) new
    → Moved s ms p move made new
run-moved s ms p move made old new h right journal is =
    let more = moves-more s _ ms (move_of p move) in
    record {
      journal = ap journal_of more ∙ journal;
      stands = record { is = subst (λ v. Is s v new) (sym more) is; ends = ends-more ms (move_of p move) h.ends right };
    }
