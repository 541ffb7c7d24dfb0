-- The letter that waits first in a run is fit, and each part's state is that of its list; so it may be taken.
use Rattle.std.proofs.Common.{◌≡◌, List, refl, ap, ◌∙◌, sym, subst}
use Rattle.lload_names.specs.declared.names.Letter.{Letter}
use Rattle.lload_names.specs.declared.names.Letter.TheVariants.{Choice}
use Rattle.lload_names.specs.declared.names.PartName.TheVariants.{Desk, Up as Connection}
use Rattle.part_spec.specs.ConnectionState.{ConnectionState, connection_of}
use Rattle.part_spec.specs.DeskState.{DeskState, desk_of}
use Rattle.part_spec.specs.Fit.{is_all_fit, is_fit}
use Rattle.part_spec.specs.Marked.{Marked}
use Rattle.part_spec.specs.Merge.{world_of}
use Rattle.part_spec.specs.World.{World, client_in, connection_in, list_in, turns_in}
use Rattle.link_laws.specs.Laws.{StatesLaw, TurnsAreOfLists, TurnsLaw}
use Rattle.fitness_laws.specs.Fitness.{FitnessLaw, MarksLaw}
use Rattle.due_laws.specs.Runs.{TakenChoicesAreDue}
use Rattle.due_laws.proofs.Firsts.{taken_fit}
use Rattle.taken_laws.specs.Laws.{FitForBind, FitForDesk, FitForRegular, DeskHoldsOnce}
use Rattle.taken_laws.specs.Runs.{FirstsForBind, FirstsForClient, FirstsForDesk, FirstsForRegular, DeskOfRunsHoldsOnce}
use Rattle.taken_laws.specs.Taking.{BindMayTake, ClientMayTake, DeskMayTake, HoldsOnce, RegularMayTake}

module _ (states : StatesLaw) (fitness : FitnessLaw) (marks : MarksLaw) where
  pub firsts_for_regular : FitForRegular → FirstsForRegular
  firsts_for_regular law s ms u sender f kind first =
      let w : World = world_of s ms in
      let here : connection_in s w u ≡ connection_of s u (list_in w (Connection u)) = (states s ms).connections u in
      subst (λ (p : ConnectionState). RegularMayTake p f.posted.letter) (sym here)
      (law s u (list_in w (Connection u)) sender f.posted.letter (ap (λ (p : ConnectionState). p.kind) (sym here) ∙ kind) (taken_fit fitness marks s ms sender (Connection u) f first))

  pub firsts_for_bind : FitForBind → FirstsForBind
  firsts_for_bind law s ms u sender f kind first =
      let w : World = world_of s ms in
      let here : connection_in s w u ≡ connection_of s u (list_in w (Connection u)) = (states s ms).connections u in
      subst (λ (p : ConnectionState). BindMayTake p f.posted.letter) (sym here)
      (law s u (list_in w (Connection u)) sender f.posted.letter (ap (λ (p : ConnectionState). p.kind) (sym here) ∙ kind) (taken_fit fitness marks s ms sender (Connection u) f first))

  module _ (turns : TurnsLaw) where
    pub desk_of_runs_holds_once : DeskHoldsOnce → DeskOfRunsHoldsOnce
    desk_of_runs_holds_once law s ms =
        let t : TurnsAreOfLists s (world_of s ms) Desk = turns s ms Desk in
        subst HoldsOnce (ap (desk_of s) t.lists ∙ sym (states s ms).desk) (law s (turns_in (world_of s ms) Desk) t.made (ap (is_all_fit s Desk) t.lists ∙ (fitness s ms).taken Desk))

    pub firsts_for_desk : FitForDesk → FirstsForDesk
    firsts_for_desk law s ms sender f first =
        let t : TurnsAreOfLists s (world_of s ms) Desk = turns s ms Desk in
        subst (λ (p : DeskState). DeskMayTake s p f.posted.letter) (ap (desk_of s) t.lists ∙ sym (states s ms).desk)
        (law s (turns_in (world_of s ms) Desk) sender f.posted.letter t.made (ap (is_all_fit s Desk) t.lists ∙ (fitness s ms).taken Desk) (ap (λ (l : List Marked). is_fit s Desk l sender f.posted.letter) t.lists ∙ taken_fit fitness marks s ms sender Desk f first))

pub firsts_for_client : TakenChoicesAreDue → FirstsForClient
firsts_for_client due s ms c sender f first = by f.posted.letter refl
  where
    by : (letter : Letter) → f.posted.letter ≡ letter → ClientMayTake (client_in (world_of s ms) c) letter
    by (Choice op answer) e = due s ms c sender f op answer first e
    by _ e = tt
