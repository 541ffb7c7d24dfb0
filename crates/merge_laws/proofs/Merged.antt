-- The merge of a whole family of turns that is linked with stamps is a run of the world of all parts.
use Rattle.std.proofs.Common.{◌≡◌, ◌⊎◌, ℕ, zero, suc, ◌<◌, ◌≤◌, Bool, true, false, List, [], ◌∷◌, ◌++◌, length, refl, ap, ◌∙◌, sym, subst, inl, inr, arith, append_assoc, le_refl}
use Rattle.std.specs.Prelude.{Option, Some, None, cond, nat_le, map}
use Rattle.std.specs.List.{list_any, list_all}
use Rattle.std.proofs.lemmas.List.{append-nil}
use Rattle.lload_names.specs.declared.inputs.Effects.{Effects}
use Rattle.lload_names.specs.declared.names.Entry.{Entry}
use Rattle.lload_names.specs.declared.names.Letter.{Letter}
use Rattle.lload_names.specs.declared.names.PartName.{PartName}
use Rattle.lload_names.specs.declared.names.PartName.TheVariants.{Desk, Client, Up as Connection}
use Rattle.lload_spec.specs.Settings.{Settings}
use Rattle.lload_spec.specs.Journal.{Family, IsWhole, same_part}
use Rattle.part_spec.specs.Gives.{gives}
use Rattle.part_spec.specs.Inputs.{marked_by}
use Rattle.part_spec.specs.Marked.{Marked, Taken, taken_from, letters_to}
use Rattle.part_spec.specs.Merge.{AreTurnsFrom, Intake, IsEmptyTurn, IsMoveOf, IsRun, IsTurnOf, MergeLaw, earliest, letter_in, merge, merge_within, moved, parts_of, remaining_of, turn_behind, turns_of, without_turn}
use Rattle.part_spec.specs.Stamps.{StampedLinked, Turn, are_later, letters_of, list_of_turns, rise_above, stamp_each_from, stamps_given, stamps_taken}
use Rattle.part_spec.specs.World.{World, PartTurn, empty_world, list_in}
use Rattle.link_laws.specs.Laws.{LinksStay, StatesLaw, TurnsLaw}
use Rattle.link_laws.specs.Moves.{effects_in, ends_rightly, has_entry, waiting_between}
use Rattle.link_laws.proofs.Entries.{same_part_is}
use Rattle.link_laws.proofs.Later.{given_count, given_grows, one_stamped, taken_count, taken_grows}
use Rattle.link_laws.proofs.Links.{letters_more, one_taken, taken_more}
use Rattle.link_laws.proofs.Turns.{letters_of_more, lists_more}
use Rattle.merge_laws.specs.Laws.{AreTurnsBy, IsOfRun, MergedRunLaw}
use Rattle.merge_laws.proofs.Earliest.{Next, after, after_other, after_own, firsts, has_all, has_none, next, none_earliest, none_left, none_of, others_apart, part_same, remains_after, size, size_falls}
use Rattle.merge_laws.proofs.Named.{given_above, no_entries, none_behind, unnamed}
use Rattle.merge_laws.proofs.Quiet.{turn_quiet}
use Rattle.merge_laws.proofs.Steps.{Behind, Found, Makes, effects_are, fewer_taken, first_behind, found_first, goes_on, links_are, list_is, makes_intake, stays_empty, with_turn}

-- the turn at a place of a part's turns is empty, or is one behind those before it
abbrev Turning : (Intake → Type 0) → Settings → PartName → Turn → List Marked → Type 0
Turning Passes s p t list = IsEmptyTurn t ⊎ ((i : IsTurnOf s p list t) × Passes i.intake)

turn_at : (Passes : Intake → Type 0) (s : Settings) (p : PartName) (before : List Marked) (done : List Turn) (t : Turn) (ts : List Turn) → AreTurnsBy Passes s p before (done ++ t ∷ ts) → Turning Passes s p t (before ++ list_of_turns done)
turn_at Passes s p before [] t ts h = subst (Turning Passes s p t) (sym (append-nil before)) h.0
turn_at Passes s p before (u ∷ done) t ts h = subst (Turning Passes s p t) (append_assoc before u.entries (list_of_turns done)) (turn_at Passes s p (before ++ u.entries) done t ts h.1)

-- any intake passes, where nothing is asked of it
any_pass : (s : Settings) (p : PartName) (before : List Marked) (ts : List Turn) → AreTurnsFrom s p before ts → AreTurnsBy (λ x. Unit {0}) s p before ts
any_pass s p before [] h = tt
any_pass s p before (t ∷ ts) h = (by h.0, any_pass s p (before ++ t.entries) ts h.1)
  where
    by : IsEmptyTurn t ⊎ IsTurnOf s p before t → Turning (λ x. Unit {0}) s p t before
    by (inl k) = inl k
    by (inr i) = inr (i, tt)

gives_nothing : (s : Settings) (p : PartName) → gives s p [] ≡ []
gives_nothing s Desk = refl
gives_nothing s (Client c) = refl
gives_nothing s (Connection u) = refl

module _ (s : Settings) (Passes : Intake → Type 0) (F : Family) (turns : PartName → List Turn) (whole : IsWhole F) (linked : StampedLinked s F turns) where
  abbrev ps : List PartName
  ps = parts_of F

  unnamed_list : (p : PartName) → list_any (same_part p) (parts_of F) ≡ false → list_of_turns (turns p) ≡ []
  unnamed_list p h = no_entries (list_of_turns (turns p)) (linked.linked.same_entries p ∙ unnamed F p whole h)

  unnamed_letters : (p : PartName) → list_any (same_part p) (parts_of F) ≡ false → letters_of (turns p) ≡ []
  unnamed_letters p h = sym (linked.posted p) ∙ ap (gives s p) (unnamed_list p h) ∙ gives_nothing s p

  -- A turn that takes a letter, where it comes first: the letter waits first.
  module _ (states : StatesLaw) (turns_law : TurnsLaw) (w : World) (done rest : PartName → List Turn) (h : Behind s Passes w done) (split : (p : PartName) → turns p ≡ done p ++ rest p) (t : PartTurn) (n : Next (parts_of F) rest t) (sender : PartName) (l : Letter) (e : Effects) (k : has_entry e ≡ true) (same : t.turn.entries ≡ marked_by (Some (record { sender = sender; letter = l })) e.entries) where
    abbrev mark : Option Taken
    mark = Some (record { sender = sender; letter = l })

    abbrev before : List Letter
    before = taken_from sender (list_of_turns (done t.part))

    abbrev later : List Turn
    later = n.front.later

    own_split : turns t.part ≡ done t.part ++ t.turn ∷ later
    own_split = split t.part ∙ ap (λ r. done t.part ++ r) n.front.is_first

    taken_here : taken_from sender t.turn.entries ≡ l ∷ []
    taken_here = ap (taken_from sender) same ∙ one_taken sender mark e k ∙ ap (λ b. elim b [ true ↦ l ∷ [] | false ↦ [] ]) (part_same sender)

    taken_split : taken_from sender (list_of_turns (turns t.part)) ≡ before ++ l ∷ taken_from sender (list_of_turns later)
    taken_split =
        ap (λ ts. taken_from sender (list_of_turns ts)) own_split ∙ ap (taken_from sender) (lists_more (done t.part) (t.turn ∷ later))
        ∙ taken_more sender (list_of_turns (done t.part)) (t.turn.entries ++ list_of_turns later)
        ∙ ap (λ x. before ++ x) (taken_more sender t.turn.entries (list_of_turns later) ∙ ap (λ x. x ++ taken_from sender (list_of_turns later)) taken_here)

    given_split : letters_to t.part (letters_of (turns sender)) ≡ letters_to t.part (letters_of (done sender)) ++ letters_to t.part (letters_of (rest sender))
    given_split = ap (λ ts. letters_to t.part (letters_of ts)) (split sender) ∙ ap (letters_to t.part) (letters_of_more (done sender) (rest sender)) ∙ letters_more t.part (letters_of (done sender)) (letters_of (rest sender))

    -- what was given to the part, by what it took
    given_taken : letters_to t.part (letters_of (turns sender)) ≡ (before ++ l ∷ taken_from sender (list_of_turns later)) ++ (linked.linked.in_order sender t.part).0
    given_taken = ap (letters_to t.part) (sym (linked.posted sender)) ∙ (linked.linked.in_order sender t.part).1 ∙ ap (λ x. x ++ (linked.linked.in_order sender t.part).0) taken_split

    -- the sender is named, since it gave the letter
    is_named : list_any (same_part sender) (parts_of F) ≡ true
    is_named = by (list_any (same_part sender) (parts_of F)) refl
      where
        by : (b : Bool) → list_any (same_part sender) (parts_of F) ≡ b → b ≡ true
        by true z = refl
        by false z = none_behind before l (taken_from sender (list_of_turns later)) (linked.linked.in_order sender t.part).0 (sym given_taken ∙ ap (letters_to t.part) (unnamed_letters sender z))

    none_below : list_all (λ g. nat_le t.turn.stamp g) (stamps_given t.part (rest sender)) ≡ true
    none_below = by (rest sender) refl
      where
        by : (us : List Turn) → rest sender ≡ us → list_all (λ g. nat_le t.turn.stamp g) (stamps_given t.part us) ≡ true
        by [] z = refl
        by (u ∷ us) z = given_above t.part t.turn.stamp 0 (done sender) u us (ap (rise_above 0) (sym (split sender ∙ ap (λ r. done sender ++ r) z)) ∙ linked.rises sender) (n.first sender is_named u us z)

    stamps_split : stamps_taken sender (turns t.part) ≡ stamps_taken sender (done t.part) ++ t.turn.stamp ∷ stamps_taken sender later
    stamps_split =
        ap (stamps_taken sender) own_split ∙ taken_grows sender (done t.part) (t.turn ∷ later)
        ∙ ap (λ x. stamps_taken sender (done t.part) ++ (x ++ stamps_taken sender later)) (ap (stamp_each_from sender t.turn.stamp) same ∙ one_stamped sender t.turn.stamp mark e k ∙ ap (λ b. elim b [ true ↦ t.turn.stamp ∷ [] | false ↦ [] ]) (part_same sender))

    -- one more was given than was taken
    one_waits : length before < length (letters_to t.part (letters_of (done sender)))
    one_waits =
        let less : length (stamps_taken sender (done t.part)) < length (stamps_given t.part (done sender)) =
        fewer_taken (stamps_given t.part (done sender)) (stamps_given t.part (rest sender)) (stamps_taken sender (done t.part)) t.turn.stamp (stamps_taken sender later)
        (sym (ap (λ g. are_later g (stamps_taken sender (turns t.part))) (ap (stamps_given t.part) (split sender) ∙ given_grows t.part (done sender) (rest sender)) ∙ ap (are_later (stamps_given t.part (done sender) ++ stamps_given t.part (rest sender))) stamps_split) ∙ linked.later sender t.part)
        none_below in
        omega (arith, less, given_count t.part (done sender), taken_count sender (done t.part))

    waits : (ls : List Letter) → waiting_between w sender t.part ≡ ls → Found w sender t.part l
    waits [] z =
        absurd (let all : length (letters_to t.part (letters_of (done sender))) ≡ length before = ap length (links_are s Passes states turns_law w done h sender t.part ∙ ap (λ x. before ++ x) z ∙ append-nil before) in omega (arith, all, one_waits))
    waits (x ∷ ls) z =
        let given : before ++ ((x ∷ ls) ++ letters_to t.part (letters_of (rest sender))) ≡ before ++ l ∷ (taken_from sender (list_of_turns later) ++ (linked.linked.in_order sender t.part).0) =
        sym (append_assoc before (x ∷ ls) (letters_to t.part (letters_of (rest sender))))
        ∙ ap (λ y. y ++ letters_to t.part (letters_of (rest sender))) (sym (links_are s Passes states turns_law w done h sender t.part ∙ ap (λ y. before ++ y) z))
        ∙ sym given_split ∙ given_taken
        ∙ append_assoc before (l ∷ taken_from sender (list_of_turns later)) (linked.linked.in_order sender t.part).0 in
        let first : x ∷ (ls ++ letters_to t.part (letters_of (rest sender))) ≡ l ∷ (taken_from sender (list_of_turns later) ++ (linked.linked.in_order sender t.part).0) = first_behind before ((x ∷ ls) ++ letters_to t.part (letters_of (rest sender))) (taken_from sender (list_of_turns later) ++ (linked.linked.in_order sender t.part).0) l given in
        let own : x ≡ l = cc in
        found_first w sender t.part l ls (z ∙ ap (λ y. y ∷ ls) own)

    pub finds : Found w sender t.part l
    finds = waits (waiting_between w sender t.part) refl

  -- One turn.
  module _ (stay : LinksStay) (states : StatesLaw) (turns_law : TurnsLaw) (are : (p : PartName) → AreTurnsBy Passes s p [] (turns p)) where
    module _ (w : World) (done rest : PartName → List Turn) (h : Behind s Passes w done) (split : (p : PartName) → turns p ≡ done p ++ rest p) (t : PartTurn) (n : Next (parts_of F) rest t) where
      abbrev Moves : Type 0
      Moves = (m : IsMoveOf s w t) × Behind s Passes (moved s t.part m.move w) (with_turn t done)

      -- a turn with an entry is a move
      by_move : (i : IsTurnOf s t.part (list_of_turns (done t.part)) t.turn) → Passes i.intake → has_entry (turn_behind s t.part (list_of_turns (done t.part)) i.intake) ≡ true → Moves
      by_move i passes k = goes_on s Passes stay w done t h i.intake passes effects makes same letters
        where
          effects : Effects
          effects = effects_in s w t.part i.intake

          are_same : effects ≡ turn_behind s t.part (list_of_turns (done t.part)) i.intake
          are_same = effects_are s Passes states turns_law w done h t.part i.intake

          same : t.turn.entries ≡ marked_by (letter_in i.intake) effects.entries
          same = i.entries ∙ ap (λ e. marked_by (letter_in i.intake) e.entries) (sym are_same)

          letters : t.turn.letters ≡ effects.letters
          letters = i.letters ∙ ap (λ e. e.letters) (sym are_same)

          marked : has_entry effects ≡ true
          marked = ap has_entry are_same ∙ k

          makes : Makes s w t.part i.intake effects
          makes = makes_intake s w t.part i.intake marked (λ now word sender l z. finds states turns_law w done rest h split t n sender l effects marked (same ∙ ap (λ x. marked_by (letter_in x) effects.entries) z))

      one : IsEmptyTurn t.turn ⊎ Moves
      one = by (turn_at Passes s t.part [] (done t.part) t.turn n.front.later (subst (AreTurnsBy Passes s t.part []) (split t.part ∙ ap (λ r. done t.part ++ r) n.front.is_first) (are t.part)))
        where
          of_entries : (i : IsTurnOf s t.part (list_of_turns (done t.part)) t.turn) → Passes i.intake → (es : List Entry) → (turn_behind s t.part (list_of_turns (done t.part)) i.intake).entries ≡ es → IsEmptyTurn t.turn ⊎ Moves
          of_entries i passes [] z = inl (record { no_entries = i.entries ∙ ap (marked_by (letter_in i.intake)) z; no_letters = i.letters ∙ turn_quiet s t.part (list_of_turns (done t.part)) i.intake z })
          of_entries i passes (e ∷ es) z = inr (by_move i passes (ap (λ l. elim l [ [] ↦ false | x ∷ xs ↦ true ]) z))

          by : Turning Passes s t.part t.turn (list_of_turns (done t.part)) → IsEmptyTurn t.turn ⊎ Moves
          by (inl k) = inl k
          by (inr i) = of_entries i.0 i.1 (turn_behind s t.part (list_of_turns (done t.part)) i.0.intake).entries refl

      -- what was done, and what remains, behind it
      split_more : (p : PartName) → turns p ≡ with_turn t done p ++ after rest t p
      split_more p = by (same_part p t.part) refl
        where
          by : (b : Bool) → same_part p t.part ≡ b → turns p ≡ (done p ++ cond b (t.turn ∷ []) []) ++ after rest t p
          by true z =
              let own : p ≡ t.part = same_part_is p t.part z in
              split p ∙ ap (λ r. done p ++ r) (ap rest own ∙ n.front.is_first ∙ ap (λ r. t.turn ∷ r) (sym (ap (after rest t) own ∙ after_own rest t n.front)))
              ∙ sym (append_assoc (done p) (t.turn ∷ []) (after rest t p))
          by false z = split p ∙ ap (λ r. done p ++ r) (sym (after_other rest t p (others_apart p t.part z))) ∙ ap (λ d. d ++ after rest t p) (sym (append-nil (done p)))

    abbrev with_first : Option PartTurn → ℕ → (PartName → List Turn) → List PartTurn
    with_first o k rest = elim o [ None ↦ [] | Some t ↦ t ∷ merge_within k (map (without_turn t.part) (map (remaining_of rest) (parts_of F))) ]

    runs : (k : ℕ) (done rest : PartName → List Turn) (w : World) → Behind s Passes w done → ((p : PartName) → turns p ≡ done p ++ rest p) → IsRun s w (merge_within k (map (remaining_of rest) (parts_of F)))
    runs zero done rest w h split = tt
    runs (suc k) done rest w h split = by (earliest (firsts rest (parts_of F))) refl (runs k)
      where
        by : (o : Option PartTurn) → earliest (firsts rest (parts_of F)) ≡ o → ((d r : PartName → List Turn) (v : World) → Behind s Passes v d → ((p : PartName) → turns p ≡ d p ++ r p) → IsRun s v (merge_within k (map (remaining_of r) (parts_of F)))) → IsRun s w (with_first o k rest)
        by None e ih = tt
        by (Some t) e ih = subst (λ rs. IsRun s w (t ∷ merge_within k rs)) (sym (remains_after rest t (parts_of F))) (turn (one w done rest h split t n))
          where
            n : Next (parts_of F) rest t
            n = next (parts_of F) rest t e

            turn : IsEmptyTurn t.turn ⊎ ((m : IsMoveOf s w t) × Behind s Passes (moved s t.part m.move w) (with_turn t done)) → IsRun s w (t ∷ merge_within k (map (remaining_of (after rest t)) (parts_of F)))
            turn (inl empty) = inl (empty, ih (with_turn t done) (after rest t) w (stays_empty s Passes stay w done t h empty) (split_more w done rest h split t n))
            turn (inr m) = inr (m.0, ih (with_turn t done) (after rest t) (moved s t.part m.0.move w) m.1 (split_more w done rest h split t n))

    -- the world behind all of them
    record Ended : Type 0 where
      world : World
      done : PartName → List Turn
      behind : Behind s Passes world done
      all : (p : PartName) → list_of_turns (done p) ≡ list_of_turns (turns p)

    none_remains : (done rest : PartName → List Turn) (w : World) → Behind s Passes w done → ((p : PartName) → turns p ≡ done p ++ rest p) → ((p : PartName) → list_any (same_part p) (parts_of F) ≡ true → rest p ≡ []) → Ended
    none_remains done rest w h split none = record { world = w; done = done; behind = h; all = λ p. by p (list_any (same_part p) (parts_of F)) refl }
      where
        first_none : (xs ys : List Marked) → xs ++ ys ≡ [] → xs ≡ []
        first_none [] ys z = refl
        first_none (x ∷ xs) ys z = absurd (let bad : x ∷ (xs ++ ys) ≡ [] = z in cc)

        by : (p : PartName) (b : Bool) → list_any (same_part p) (parts_of F) ≡ b → list_of_turns (done p) ≡ list_of_turns (turns p)
        by p true z = ap list_of_turns (sym (split p ∙ ap (λ r. done p ++ r) (none p z) ∙ append-nil (done p)))
        by p false z =
            let empty : list_of_turns (done p) ++ list_of_turns (rest p) ≡ [] = sym (lists_more (done p) (rest p)) ∙ ap list_of_turns (sym (split p)) ∙ unnamed_list p z in
            first_none (list_of_turns (done p)) (list_of_turns (rest p)) empty ∙ sym (unnamed_list p z)

    ends : (k : ℕ) (done rest : PartName → List Turn) (w : World) → Behind s Passes w done → ((p : PartName) → turns p ≡ done p ++ rest p) → size (parts_of F) rest ≤ k → Ended
    ends zero done rest w h split few = none_remains done rest w h split (none_of (parts_of F) rest few)
    ends (suc k) done rest w h split few = by (earliest (firsts rest (parts_of F))) refl (ends k)
      where
        by : (o : Option PartTurn) → earliest (firsts rest (parts_of F)) ≡ o → ((d r : PartName → List Turn) (v : World) → Behind s Passes v d → ((p : PartName) → turns p ≡ d p ++ r p) → size (parts_of F) r ≤ k → Ended) → Ended
        by None e ih = none_remains done rest w h split (none_left rest (parts_of F) (none_earliest (firsts rest (parts_of F)) e))
        by (Some t) e ih = turn (one w done rest h split t n)
          where
            n : Next (parts_of F) rest t
            n = next (parts_of F) rest t e

            fewer : size (parts_of F) (after rest t) ≤ k
            fewer = let less : size (parts_of F) (after rest t) < size (parts_of F) rest = size_falls rest t n.front (parts_of F) n.among in omega (arith, less, few)

            turn : IsEmptyTurn t.turn ⊎ ((m : IsMoveOf s w t) × Behind s Passes (moved s t.part m.move w) (with_turn t done)) → Ended
            turn (inl empty) = ih (with_turn t done) (after rest t) w (stays_empty s Passes stay w done t h empty) (split_more w done rest h split t n) fewer
            turn (inr m) = ih (with_turn t done) (after rest t) (moved s t.part m.0.move w) m.1 (split_more w done rest h split t n) fewer

    begins : Behind s Passes empty_world (λ p. [])
    begins = record { moves = []; made = refl; rightly = λ f. refl; links = λ p q. refl; lists = λ p. refl; letters = λ p. refl }

    pub is_run : IsRun s empty_world (merge (parts_of F) turns)
    is_run = runs (size (parts_of F) turns) (λ p. []) turns empty_world begins (λ p. refl)

    pub of_run : ((x : Intake) → Passes x → ends_rightly x ≡ true) → IsOfRun s turns
    of_run f = by (ends (size (parts_of F) turns) (λ p. []) turns empty_world begins (λ p. refl) (le_refl (size (parts_of F) turns)))
      where
        by : Ended → IsOfRun s turns
        by e =
            record {
              moves = e.behind.moves;
              rightly = e.behind.rightly f;
              lists = λ p. ap (λ w. list_in w p) (sym e.behind.made) ∙ list_is s Passes states turns_law e.world e.done e.behind p ∙ e.all p;
            }

  same_lists : (p : PartName) → list_of_turns (turns_of p (merge (parts_of F) turns)) ≡ list_of_turns (turns p)
  same_lists p = by (list_any (same_part p) (parts_of F)) refl
    where
      by : (b : Bool) → list_any (same_part p) (parts_of F) ≡ b → list_of_turns (turns_of p (merge (parts_of F) turns)) ≡ list_of_turns (turns p)
      by true z = ap list_of_turns (has_all (parts_of F) p (size (parts_of F) turns) turns z (le_refl (size (parts_of F) turns)))
      by false z = ap list_of_turns (has_none (parts_of F) p (size (parts_of F) turns) turns z) ∙ sym (unnamed_list p z)

pub merges : LinksStay → StatesLaw → TurnsLaw → MergeLaw
merges stay states turns_law s F turns whole linked are =
    record {
      run = is_run s (λ x. Unit {0}) F turns whole linked stay states turns_law (λ p. any_pass s p [] (turns p) (are p));
      same_turns = same_lists s (λ x. Unit {0}) F turns whole linked;
    }

pub merged_run : LinksStay → StatesLaw → TurnsLaw → MergedRunLaw
merged_run stay states turns_law s F turns whole linked are = of_run s (λ x. ends_rightly x ≡ true) F turns whole linked stay states turns_law are (λ x h. h)
