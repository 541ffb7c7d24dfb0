-- That a connection is up comes only from one that was linked; so where the settings agree with a world it is none of a later
-- plan.
use Rattle.std.proofs.Common.{◌≡◌, ℕ, Bool, true, false, ◌==◌, List, [], ◌∷◌, refl, ap, arith, ◌∙◌, sym, subst}
use Rattle.std.specs.Prelude.{Option, Some, None, cond, drop, find, is_some, length, max, nat_le}
use Rattle.std.specs.List.{list_any}
use Rattle.std.proofs.lemmas.Bool.{le-leb, leb-true}
use Rattle.lload_names.specs.declared.names.Letter.TheVariants.{IsUp}
use Rattle.lload_names.specs.declared.names.PartName.{PartName}
use Rattle.lload_names.specs.declared.names.PartName.TheVariants.{Desk, Up as Connection}
use Rattle.lload_names.specs.declared.plans.Planned.{Planned}
use Rattle.lload_spec.specs.Journal.{same_part}
use Rattle.lload_spec.specs.News.{tells_up}
use Rattle.lload_spec.specs.Settings.{Settings, place_at}
use Rattle.lload_spec.proofs.Growth.{left, right}
use Rattle.lload_laws.proofs.ListLaws.{all_imply}
use Rattle.part_spec.specs.ConnectionState.{ConnectionState, connection_of, empty_connection}
use Rattle.part_spec.specs.Fit.{is_fit, is_of_sender}
use Rattle.part_spec.specs.Marked.{letters_to, taken_from}
use Rattle.part_spec.specs.Merge.{PartMove, world_of}
use Rattle.part_spec.specs.Runs.{are_above}
use Rattle.part_spec.specs.World.{Flight, World, connection_in, given_in, greatest_in, greatest_linked, is_between, list_in, turns_in}
use Rattle.part_laws.proofs.ListLaws.{any_behind, eqb_same, le_max, same_number}
use Rattle.link_laws.specs.Laws.{StatesLaw, TurnsAreOfLists, TurnsLaw}
use Rattle.link_laws.specs.Moves.{waiting_between}
use Rattle.link_laws.proofs.Entries.{same_part_is}
use Rattle.fitness_laws.specs.Fitness.{FitnessLaw, MarksLaw}
use Rattle.fitness_laws.specs.Linked.{AlwaysLinks}
use Rattle.due_laws.proofs.Firsts.{taken_fit}
use Rattle.taken_laws.specs.Runs.{FirstUpsAreLinked, FirstUpsAreOfPlans}
use Rattle.taken_laws.proofs.Ups.{first_waits, gave_up, has_up, to_some}

-- What waits first says that its sender is up.
module _ (states : StatesLaw) (turns : TurnsLaw) (fitness : FitnessLaw) (marks : MarksLaw) (links : AlwaysLinks) where
  sent_by : (s : Settings) (ms : List PartMove) (sender : PartName) (f : Flight) (u : ℕ) → find (is_between sender Desk) (world_of s ms).letters ≡ Some f → f.posted.letter ≡ IsUp u → sender ≡ Connection u
  sent_by s ms sender f u first same =
      let fit : is_fit s Desk (list_in (world_of s ms) Desk) sender (IsUp u) ≡ true = ap (is_fit s Desk (list_in (world_of s ms) Desk) sender) (sym same) ∙ taken_fit fitness marks s ms sender Desk f first in
      same_part_is sender (Connection u) (left (same_part sender (Connection u)) (is_some (place_at s u)) (left (is_of_sender s sender u) _ fit))

  linked_there : (s : Settings) (ms : List PartMove) (f : Flight) (u : ℕ) → find (is_between (Connection u) Desk) (world_of s ms).letters ≡ Some f → f.posted.letter ≡ IsUp u → (connection_in s (world_of s ms) u).linked ≡ true
  linked_there s ms f u first same =
      let w : World = world_of s ms in
      let t : TurnsAreOfLists s w (Connection u) = turns s ms (Connection u) in
      let waits : list_any (tells_up u) (waiting_between w (Connection u) Desk) ≡ true = first_waits (tells_up u) (is_between (Connection u) Desk) w.letters f first (ap (tells_up u) same ∙ eqb_same u) in
      let gave : list_any (tells_up u) (letters_to Desk (given_in w (Connection u))) ≡ true = ap (list_any (tells_up u)) (links s ms (Connection u) Desk) ∙ any_behind (tells_up u) (taken_from (Connection u) (list_in w Desk)) (waiting_between w (Connection u) Desk) waits in
      let made = gave_up s u u (turns_in w (Connection u)) t.made (ap (has_up u) t.given ∙ to_some u Desk (given_in w (Connection u)) gave) in
      ap (λ (p : ConnectionState). p.linked) ((states s ms).connections u) ∙ ap (λ l. (connection_of s u l).linked) (sym t.lists) ∙ made

  pub first_ups_are_linked : FirstUpsAreLinked
  first_ups_are_linked s ms sender f u first same = linked_there s ms f u (subst (λ (p : PartName). find (is_between p Desk) (world_of s ms).letters ≡ Some f) (sent_by s ms sender f u first same) first) same

-- A connection that was linked is at most the greatest.
more_than : (b : Bool) (u n k : ℕ) → nat_le u k ≡ true → nat_le u (elim b [ true ↦ max n k | false ↦ k ]) ≡ true
more_than true u n k h = let low = leb-true u k h in le-leb u (max n k) (omega (arith, low))
more_than false u n k h = h

-- the state of a connection among these
abbrev place_in : Settings → ℕ → Option ConnectionState → ConnectionState
place_in s u o = elim o [ None ↦ empty_connection s u | Some p ↦ p ]

below_greatest : (s : Settings) (u : ℕ) (ps : List ConnectionState) → (place_in s u (find (λ (p : ConnectionState). p.number == u) ps)).linked ≡ true → nat_le u (greatest_in ps) ≡ true
below_greatest s u [] h = absurd (let bad : false ≡ true = h in cc)
below_greatest s u (p ∷ ps) h = by (p.number == u) refl h (below_greatest s u ps)
  where
    here : (b : Bool) → b ≡ true → (p.number == u) ≡ true → nat_le u (elim b [ true ↦ max p.number (greatest_in ps) | false ↦ greatest_in ps ]) ≡ true
    here true k same = ap (λ n. nat_le n (max p.number (greatest_in ps))) (sym (same_number p.number u same)) ∙ le_max p.number (greatest_in ps)
    here false k same = absurd (let bad : false ≡ true = k in cc)

    by : (b : Bool) → (p.number == u) ≡ b → (place_in s u (cond b (Some p) (find (λ (q : ConnectionState). q.number == u) ps))).linked ≡ true → ((place_in s u (find (λ (q : ConnectionState). q.number == u) ps)).linked ≡ true → nat_le u (greatest_in ps) ≡ true) → nat_le u (elim p.linked [ true ↦ max p.number (greatest_in ps) | false ↦ greatest_in ps ]) ≡ true
    by true e k more = here p.linked k e
    by false e k more = more_than p.linked u p.number (greatest_in ps) (more k)

-- what is above one is above what is below that
above_less : (u n : ℕ) (plans : List Planned) → nat_le u n ≡ true → are_above n plans ≡ true → are_above u plans ≡ true
above_less u n plans low h = all_imply (λ (p : Planned). nat_le n p.base) (λ (p : Planned). nat_le u p.base) plans (λ p k. let one = leb-true u n low in let two = leb-true n p.base k in le-leb u p.base (omega (arith, one, two))) h

pub first_ups_are_of_plans : FirstUpsAreLinked → FirstUpsAreOfPlans
first_ups_are_of_plans law s ms sender f u first same agrees =
    let w : World = world_of s ms in
    let low : nat_le u (greatest_linked w) ≡ true = below_greatest s u w.connections (law s ms sender f u first same) in
    above_less u (greatest_linked w) (drop w.desk.plan s.plans) low (right (nat_le w.desk.plan (length s.plans)) _ agrees)
