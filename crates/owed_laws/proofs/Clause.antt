-- Each letter that comes too late was given, by the law on what was taken and the one on what connections give.
use Rattle.std.proofs.Common.{◌≡◌, ◌+◌, ◌≤◌, true, ◌==◌, List, arith}
use Rattle.std.specs.Prelude.{Some, nat_le}
use Rattle.std.specs.List.{list_all}
use Rattle.std.proofs.lemmas.Bool.{le-leb, leb-true}
use Rattle.lload_names.specs.declared.names.PartName.{PartName}
use Rattle.lload_spec.specs.Journal.{Family}
use Rattle.lload_spec.specs.Lists.{each_entry}
use Rattle.lload_spec.specs.Operations.{Operation, operation}
use Rattle.lload_spec.specs.Owed.{count_late, count_told, is_late_owed, told_to}
use Rattle.lload_spec.specs.Settings.{Settings}
use Rattle.lload_spec.specs.Strict.{is_late_own}
use Rattle.lload_spec.proofs.Growth.{both}
use Rattle.part_laws.proofs.ListLaws.{or_elim, or_left, or_right}
use Rattle.part_spec.specs.Marked.{Marked}
use Rattle.carried_laws.specs.Laws.{Played}
use Rattle.told_laws.proofs.Refusals.{each_operation}
use Rattle.late_laws.specs.Laws.{LatesAreOwn}
use Rattle.given_laws.specs.Laws.{GivenAsTold, count_given}
use Rattle.owed_laws.specs.Laws.{AreTaken, LatesAreOwed, LatesAreTaken}

module _ (told : GivenAsTold) (taken : LatesAreTaken) (s : Settings) (F : Family) (marked : PartName → List Marked) (h : Played s F marked) where
  one_owed : (o : Operation) → operation F o.name ≡ Some o → is_late_owed s F o ≡ true
  one_owed o there =
      let its : AreTaken s F marked o = taken s F marked h o there in
      or_elim (count_late F o == 0) (nat_le (count_late F o + count_told o) (count_given s marked o.name its.source))
      (λ k. or_left (count_late F o == 0) _ k)
      (λ k.
      let few : count_late F o + count_told o ≤ count_given s marked o.name its.source = leb-true (count_late F o + count_told o) (count_given s marked o.name its.source) k in
      let given : count_given s marked o.name its.source ≤ told_to s F o = leb-true (count_given s marked o.name its.source) (told_to s F o) (told s F marked h.joined h.whole o there its.source) in
      or_right (count_late F o == 0) _ (le-leb (count_late F o + count_told o) (told_to s F o) (omega (arith, few, given)))) its.few

pub lates_owed : LatesAreOwn → GivenAsTold → LatesAreTaken → LatesAreOwed
lates_owed own told taken s F marked h = both (list_all (λ c. each_entry (is_late_own c) (F.client c)) F.clients) _ (own s F marked h.joined) (each_operation F (is_late_owed s F) (one_owed told taken s F marked h) F.clients)
