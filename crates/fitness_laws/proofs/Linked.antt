-- What each part gave is what its list gives; where nothing waits, what each part took of another is all of it; and the desk
-- and the connections keep their shares.
use Rattle.std.proofs.Common.{◌≡◌, [], ◌++◌, ap, ◌∙◌, sym}
use Rattle.std.specs.Prelude.{filter, map}
use Rattle.std.proofs.lemmas.List.{append-nil}
use Rattle.lload_names.specs.declared.names.PartName.{PartName}
use Rattle.lload_names.specs.declared.names.PartName.TheVariants.{Desk, Client, Up as Connection}
use Rattle.lload_spec.specs.Settings.{Settings}
use Rattle.part_spec.specs.Gives.{gives}
use Rattle.part_spec.specs.Laws.{FitIsWhole}
use Rattle.part_spec.specs.Marked.{letters_to, taken_from}
use Rattle.part_spec.specs.World.{World, Flight, given_in, is_between, list_in}
use Rattle.link_laws.specs.Laws.{ClientsGiveLaw, ConnectionsGiveLaw, DeskGivesLaw}
use Rattle.link_laws.specs.Moves.{Links}
use Rattle.link_laws.proofs.Linked.{connection_share, desk_share}
use Rattle.fitness_laws.specs.Fitness.{FitnessLaw, MarksLaw}
use Rattle.fitness_laws.specs.Linked.{AlwaysGives, AlwaysShares}

pub all_give : DeskGivesLaw → ClientsGiveLaw → ConnectionsGiveLaw → FitnessLaw → AlwaysGives
all_give desk clients connections fitness s ms Desk rightly = desk s ms
all_give desk clients connections fitness s ms (Client c) rightly = clients s ms c rightly
all_give desk clients connections fitness s ms (Connection u) rightly = connections s ms u rightly ((fitness s ms).taken (Connection u))

pub all_taken : (s : Settings) (w : World) (p q : PartName) → Links w → gives s p (list_in w p) ≡ given_in w p → w.letters ≡ [] → taken_from p (list_in w q) ≡ letters_to q (gives s p (list_in w p))
all_taken s w p q links given none =
    sym (append-nil (taken_from p (list_in w q)))
    ∙ ap (λ l. taken_from p (list_in w q) ++ map (λ (f : Flight). f.posted.letter) (filter (is_between p q) l)) (sym none)
    ∙ sym (links p q) ∙ ap (letters_to q) (sym given)

pub shares_kept : FitIsWhole → FitnessLaw → MarksLaw → AlwaysShares
shares_kept whole fitness marks s ms rightly =
    record {
      desk = desk_share whole s ms rightly (marks s ms) (fitness s ms).taken;
      connections = connection_share whole s ms rightly (marks s ms) (fitness s ms).taken;
    }
