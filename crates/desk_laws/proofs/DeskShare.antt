-- The desk keeps its share, and what its list gives is what its turns gave.
use Rattle.std.proofs.Common.{◌≡◌, ℕ, suc, Bool, true, false, ◌==◌, ◌&&◌, ◌||◌, not, List, [], ◌∷◌, ◌++◌, refl, ap, ◌∙◌, sym, subst, append_assoc}
use Rattle.std.specs.Prelude.{Option, Some, None, max, nat_le}
use Rattle.std.specs.List.{list_any, list_all}
use Rattle.std.proofs.lemmas.List.{append-nil, map-append}
use Rattle.std.proofs.lemmas.List.Folds.{list_all-append}
use Rattle.std.proofs.Math.Bool.{or-false}
use Rattle.lload_names.specs.declared.names.Entry.{Entry}
use Rattle.lload_names.specs.declared.names.OpName.{OpName}
use Rattle.lload_names.specs.declared.names.Want.{Want}
use Rattle.lload_names.specs.declared.names.PartName.{PartName}
use Rattle.lload_names.specs.declared.names.PartName.TheVariants.{Desk, Client, Up as Connection}
use Rattle.lload_names.specs.declared.names.Letter.{Letter}
use Rattle.lload_names.specs.declared.names.Letter.TheVariants.{Ask, Returned, Ended, IsUp, IsRetired, IsDown}
use Rattle.lload_names.specs.declared.names.What.{What}
use Rattle.lload_names.specs.declared.names.What.TheVariants as what
use Rattle.lload_spec.specs.Lists.{passes, last, first_passes, each_split_from}
use Rattle.lload_spec.specs.Settings.{Settings}
use Rattle.lload_spec.specs.Journal.{same_op, same_answer, same_part}
use Rattle.lload_spec.specs.Entries.{Named, asked, heard, is_of_desk}
use Rattle.lload_spec.specs.Caused.{is_later}
use Rattle.lload_spec.specs.Order.{up_told, plan_number, desk_facts}
use Rattle.lload_spec.specs.News.{tells_up, tells_down, tells_stopped, tells_over, tells_ended, tells_returned, same_news}
use Rattle.lload_spec.specs.Choice.{right_answer}
use Rattle.lload_spec.specs.Right.{is_answered, is_right_choice, is_right_for, is_right_plan, is_next_plan, chooses_for}
use Rattle.lload_spec.specs.Strict.{is_asked_for, has_place_in_desk}
use Rattle.part_spec.specs.Marked.{Marked, Taken, entries}
use Rattle.part_spec.specs.Marks.{marks_desk, has_desk_mark}
use Rattle.part_spec.specs.Gives.{desk_letters, desk_gives as desk_gives_from}
use Rattle.lload_names.specs.Same.{same_latency}
use Rattle.lload_names.specs.declared.inputs.Input.TheVariants.{LetterFrom, Reload}
use Rattle.lload_names.specs.declared.plans.TierPlan.{TierPlan}
use Rattle.part_spec.specs.Inputs.{act, nothing, effects_of, marked_by}
use Rattle.part_spec.specs.DeskState.{DeskState, empty_desk, step_desk, step_desks, desk_of, facts_of}
use Rattle.part_spec.specs.DeskTurn.{answer_to, is_taken}
use Rattle.part_spec.specs.Fit.{DeskLedger, empty_desk_ledger, step_desk_ledger, fits_desk, is_unfit, is_none_taken, is_pending, is_of_sender, ledger_behind as behind}
use Rattle.part_spec.specs.Share.{DeskShare}
use Rattle.lload_spec.proofs.Growth.{left, right, both}
use Rattle.lload_laws.proofs.ListLaws.{any_imply, passes_imply}
use Rattle.part_laws.specs.Turns.{Event, Comes, letter_with, made}
use Rattle.desk_laws.specs.Turns.{desk_event, DeskShares, DeskGives, DeskSaysSo, DeskSaysWhoIsViable}
use Rattle.part_spec.specs.Says.{DeskSaysViable}
use Rattle.part_laws.proofs.ListLaws.{splits_grow, last_push, same_op_refl, same_op_eq, eqb_same, eqb_sym, or_left, or_right, le_max, le_same, false_by}
use Rattle.part_laws.proofs.Same.{same_want_refl, same_answer_refl}
use Rattle.part_laws.proofs.Induction.{through}
use Rattle.part_laws.proofs.Giving.{turns_give}
use Rattle.desk_laws.proofs.DeskSays.{says_more, says_nothing, says_all, ends}
use Rattle.desk_laws.proofs.DeskFacts.{same_facts, facts_said, viable_at, is_lost}
use Rattle.desk_laws.proofs.DeskStands.{DeskStands, entry_at, ledger_at, viable_kept, viable_push, hears, asks, replans, fresh_ask, fresh_news, fresh_end}

-- The choices.

-- whether an entry is answered and its choice right
abbrev rightly : Settings → List Entry → Entry → List Entry → Bool
rightly s place e behind = is_answered e behind && is_right_choice s place e && is_right_plan s place e

stays_answered : (M : List Entry) (e : Entry) (behind : List Entry) → is_answered e behind ≡ true → is_answered e (behind ++ M) ≡ true
stays_answered M e behind h = by (asked e.what) behind h
  where
    by : (a : Option (Named Want)) (c : List Entry) → (elim a [ None ↦ true | Some x ↦ first_passes (chooses_for x.op) c ]) ≡ true → (elim a [ None ↦ true | Some x ↦ first_passes (chooses_for x.op) (c ++ M) ]) ≡ true
    by None c k = refl
    by (Some a) [] k = absurd (let bad : false ≡ true = k in cc)
    by (Some a) (x ∷ c) k = k

stays_right : (s : Settings) (M : List Entry) (place : List Entry) (e : Entry) (behind : List Entry) → rightly s place e behind ≡ true → rightly s place e (behind ++ M) ≡ true
stays_right s M place e behind h = both (is_answered e (behind ++ M) && is_right_choice s place e) _ (both (is_answered e (behind ++ M)) _ (stays_answered M e behind (left (is_answered e behind) _ (left (is_answered e behind && is_right_choice s place e) _ h))) (right (is_answered e behind) _ (left (is_answered e behind && is_right_choice s place e) _ h))) (right (is_answered e behind && is_right_choice s place e) _ h)

-- an entry that asks and chooses nothing
heard_rightly : (s : Settings) (place : List Entry) (at : ℕ) (x : Letter) → each_split_from (rightly s) [] place ≡ true → each_split_from (rightly s) [] (place ++ entry_at at (what.Heard x) ∷ []) ≡ true
heard_rightly s place at x h = splits_grow (rightly s) [] place (entry_at at (what.Heard x) ∷ []) (stays_right s (entry_at at (what.Heard x) ∷ [])) h refl

-- the right answer by the state before the Asked is right behind it
module _ (s : Settings) (place : List Entry) (l : DeskLedger) (h : DeskStands s place l) (at : ℕ) (op : OpName) (want : Want) where
  -- the facts of the state before an Asked are those of the list behind it
  facts_asked : facts_of s l.state ≡ desk_facts s (place ++ entry_at at (what.Asked op want) ∷ [])
  facts_asked = same_facts s (place ++ entry_at at (what.Asked op want) ∷ []) (step_desk s l.state (record { entry = entry_at at (what.Asked op want); mark = None })) (says_more s place l.state (record { entry = entry_at at (what.Asked op want); mark = None }) h.says) (h.viable ∙ viable_kept (viable_at place) ∙ sym (viable_push place (entry_at at (what.Asked op want))))

  asked_rightly : (word : ℕ) → each_split_from (rightly s) [] place ≡ true → each_split_from (rightly s) [] (place ++ entry_at at (what.Asked op want) ∷ entry_at at (what.Chose op (answer_to s l.state word want) word) ∷ []) ≡ true
  asked_rightly word k = splits_grow (rightly s) [] place (e1 ∷ e2 ∷ []) (stays_right s (e1 ∷ e2 ∷ [])) k (both (is_answered e1 (e2 ∷ []) && true && true) _ (both (same_op op op && true) true (both (same_op op op) true (same_op_refl op) refl) refl) (both (is_right_choice s (place ++ e1 ∷ []) e2 && true) true (both (is_right_choice s (place ++ e1 ∷ []) e2) true chosen refl) refl))
    where
      e1 : Entry
      e1 = entry_at at (what.Asked op want)

      e2 : Entry
      e2 = entry_at at (what.Chose op (answer_to s l.state word want) word)

      chosen : is_right_choice s (place ++ entry_at at (what.Asked op want) ∷ []) (entry_at at (what.Chose op (answer_to s l.state word want) word)) ≡ true
      chosen = ap (λ o. is_right_for s (place ++ entry_at at (what.Asked op want) ∷ []) word (record { op = op; value = answer_to s l.state word want }) (elim o [ None ↦ None | Some e ↦ asked e.what ])) (last_push place (entry_at at (what.Asked op want))) ∙ both (same_op op op) _ (same_op_refl op) (ap (λ f. same_answer (answer_to s l.state word want) (right_answer s f want word)) (sym facts_asked) ∙ same_answer_refl (answer_to s l.state word want))

-- The moments, and what else is said of the desk's list.
module _ (s : Settings) (place : List Entry) (l : DeskLedger) (h : DeskStands s place l) (now : ℕ) where
  -- an entry at the moment of an input is later than those before
  later_than : (w : What) → is_later place (entry_at (max l.state.moment now) w) ≡ true
  later_than w = by (last place) (h.says.moment)
    where
      by : (o : Option Entry) → l.state.moment ≡ (elim o [ None ↦ 0 | Some e ↦ e.at ]) → (elim o [ None ↦ true | Some e ↦ nat_le e.at (max l.state.moment now) ]) ≡ true
      by None k = refl
      by (Some e) k = ap (λ n. nat_le n (max l.state.moment now)) (sym k) ∙ le_max l.state.moment now

abbrev is_later_at : List Entry → Entry → List Entry → Bool
is_later_at place e behind = is_later place e

abbrev has_place_at : List Entry → Entry → List Entry → Bool
has_place_at place e behind = is_of_desk e.what && has_place_in_desk place e

-- What is kept behind each turn.
pub record DeskKeeps (s : Settings) (before : List Marked) (l : DeskLedger) : Type 0 where
  pub stands : DeskStands s (entries before) l
  pub marks : list_all has_desk_mark before ≡ true
  pub right : each_split_from (rightly s) [] (entries before) ≡ true
  pub moments : each_split_from is_later_at [] (entries before) ≡ true
  pub lives : each_split_from has_place_at [] (entries before) ≡ true

keeps_nothing : (s : Settings) (before : List Marked) (l : DeskLedger) → DeskKeeps s before l → DeskKeeps s (before ++ []) l
keeps_nothing s before l h = subst (λ b. DeskKeeps s b l) (sym (append-nil before)) h

module _ (s : Settings) (before : List Marked) (l : DeskLedger) (h : DeskKeeps s before l) (sender : PartName) (now : ℕ) where
  -- a letter that is heard, where it is one that the desk hears, and is heard for the first time
  hears_it : (x : Letter) → marks_desk (what.Heard x) x ≡ true → ((n : ℕ) → up_told x ≡ n ∷ [] → is_lost (entries before) n ≡ false) → ((op : OpName) → ends (what.Heard x) op ≡ true → list_any (λ y. same_op op y.op) l.state.pending ≡ true) → list_any (λ y. passes (same_news x) (heard y.what)) (entries before) ≡ false → DeskKeeps s (before ++ record { entry = entry_at (max l.state.moment now) (what.Heard x); mark = Some (record { sender = sender; letter = x }) } ∷ []) (ledger_at s l (max l.state.moment now) (Some (record { sender = sender; letter = x })) (what.Heard x))
  hears_it x fitting up end once =
      record {
        stands = subst (λ q. DeskStands s q (ledger_at s l at mark (what.Heard x))) (sym grown) (hears s (entries before) l h.stands at sender x up end);
        marks = list_all-append has_desk_mark before (m ∷ []) ∙ both (list_all has_desk_mark before) _ h.marks (both (has_desk_mark m) true fitting refl);
        right = ap (each_split_from (rightly s) []) grown ∙ heard_rightly s (entries before) at x h.right;
        moments = ap (each_split_from is_later_at []) grown ∙ splits_grow is_later_at [] (entries before) (e ∷ []) (λ b y c k. k) h.moments (both (is_later (entries before) e) true (later_than s (entries before) l h.stands now (what.Heard x)) refl);
        lives = ap (each_split_from has_place_at []) grown ∙ splits_grow has_place_at [] (entries before) (e ∷ []) (λ b y c k. k) h.lives (both (has_place_in_desk (entries before) e) true (ap not once) refl);
      }
    where
      at : ℕ
      at = max l.state.moment now

      mark : Option Taken
      mark = Some (record { sender = sender; letter = x })

      e : Entry
      e = entry_at (max l.state.moment now) (what.Heard x)

      m : Marked
      m = record { entry = entry_at (max l.state.moment now) (what.Heard x); mark = Some (record { sender = sender; letter = x }) }

      grown : entries (before ++ record { entry = entry_at (max l.state.moment now) (what.Heard x); mark = Some (record { sender = sender; letter = x }) } ∷ []) ≡ entries before ++ entry_at (max l.state.moment now) (what.Heard x) ∷ []
      grown = map-append (λ y. y.entry) before (record { entry = entry_at (max l.state.moment now) (what.Heard x); mark = Some (record { sender = sender; letter = x }) } ∷ [])

  -- an Ask, which is the first of its operation
  asks_it : (op : OpName) (want : Want) (word : ℕ) → list_any (is_asked_for op) (entries before) ≡ false → DeskKeeps s (before ++ record { entry = entry_at (max l.state.moment now) (what.Asked op want); mark = Some (record { sender = sender; letter = Ask op want }) } ∷ record { entry = entry_at (max l.state.moment now) (what.Chose op (answer_to s l.state word want) word); mark = None } ∷ []) (ledger_at s (ledger_at s l (max l.state.moment now) (Some (record { sender = sender; letter = Ask op want })) (what.Asked op want)) (max l.state.moment now) None (what.Chose op (answer_to s l.state word want) word))
  asks_it op want word new =
      record {
        stands = subst (λ q. DeskStands s q behind_both) (append_assoc (entries before) (e1 ∷ []) (e2 ∷ []) ∙ sym grown) (asks s (entries before) l h.stands at sender op want (answer_to s l.state word want) word new);
        marks = list_all-append has_desk_mark before (m1 ∷ m2 ∷ []) ∙ both (list_all has_desk_mark before) _ h.marks (both (has_desk_mark m1) true (both (same_op op op) _ (same_op_refl op) (same_want_refl want)) refl);
        right = ap (each_split_from (rightly s) []) grown ∙ asked_rightly s (entries before) l h.stands at op want word h.right;
        moments = ap (each_split_from is_later_at []) grown ∙ splits_grow is_later_at [] (entries before) (e1 ∷ e2 ∷ []) (λ b y c k. k) h.moments (both (is_later (entries before) e1) _ (later_than s (entries before) l h.stands now (what.Asked op want)) (both (is_later (entries before ++ e1 ∷ []) e2) true (ap (λ o. elim o [ None ↦ true | Some y ↦ nat_le y.at at ]) (last_push (entries before) e1) ∙ le_same at) refl));
        lives = ap (each_split_from has_place_at []) grown ∙ splits_grow has_place_at [] (entries before) (e1 ∷ e2 ∷ []) (λ b y c k. k) h.lives (both (has_place_in_desk (entries before) e1) _ (both (not (list_any (is_asked_for op) (entries before))) true (ap not new) refl) refl);
      }
    where
      at : ℕ
      at = max l.state.moment now

      e1 : Entry
      e1 = entry_at (max l.state.moment now) (what.Asked op want)

      e2 : Entry
      e2 = entry_at (max l.state.moment now) (what.Chose op (answer_to s l.state word want) word)

      m1 : Marked
      m1 = record { entry = entry_at (max l.state.moment now) (what.Asked op want); mark = Some (record { sender = sender; letter = Ask op want }) }

      m2 : Marked
      m2 = record { entry = entry_at (max l.state.moment now) (what.Chose op (answer_to s l.state word want) word); mark = None }

      behind_both : DeskLedger
      behind_both = ledger_at s (ledger_at s l (max l.state.moment now) (Some (record { sender = sender; letter = Ask op want })) (what.Asked op want)) (max l.state.moment now) None (what.Chose op (answer_to s l.state word want) word)

      grown : entries (before ++ m1 ∷ m2 ∷ []) ≡ entries before ++ e1 ∷ e2 ∷ []
      grown = map-append (λ y. y.entry) before (m1 ∷ m2 ∷ [])

-- another plan that is taken
replans_it : (s : Settings) (before : List Marked) (l : DeskLedger) → DeskKeeps s before l → (now : ℕ) (plan : List TierPlan) (base : ℕ) → is_taken s l.state plan base ≡ true → DeskKeeps s (before ++ record { entry = entry_at (max l.state.moment now) (what.Replanned (suc l.state.plan) base); mark = None } ∷ []) (ledger_at s l (max l.state.moment now) None (what.Replanned (suc l.state.plan) base))
replans_it s before l h now plan base taken =
    record {
      stands = subst (λ q. DeskStands s q (ledger_at s l at None w)) (sym grown) (replans s (entries before) l h.stands at (suc l.state.plan) base);
      marks = list_all-append has_desk_mark before (m ∷ []) ∙ both (list_all has_desk_mark before) _ h.marks refl;
      right = ap (each_split_from (rightly s) []) grown ∙ splits_grow (rightly s) [] (entries before) (e ∷ []) (stays_right s (e ∷ [])) h.right (both (is_right_plan s (entries before) e) true next refl);
      moments = ap (each_split_from is_later_at []) grown ∙ splits_grow is_later_at [] (entries before) (e ∷ []) (λ b y c k. k) h.moments (both (is_later (entries before) e) true (later_than s (entries before) l h.stands now w) refl);
      lives = ap (each_split_from has_place_at []) grown ∙ splits_grow has_place_at [] (entries before) (e ∷ []) (λ b y c k. k) h.lives refl;
    }
  where
    at : ℕ
    at = max l.state.moment now

    w : What
    w = what.Replanned (suc l.state.plan) base

    e : Entry
    e = entry_at (max l.state.moment now) (what.Replanned (suc l.state.plan) base)

    m : Marked
    m = record { entry = entry_at (max l.state.moment now) (what.Replanned (suc l.state.plan) base); mark = None }

    next : is_next_plan s (plan_number (entries before)) (record { number = suc l.state.plan; base = base }) ≡ true
    next = ap (λ k. is_next_plan s k (record { number = suc l.state.plan; base = base })) (sym h.stands.says.plan) ∙ left (is_next_plan s l.state.plan (record { number = suc l.state.plan; base = base })) _ (left _ _ taken)

    grown : entries (before ++ record { entry = entry_at (max l.state.moment now) (what.Replanned (suc l.state.plan) base); mark = None } ∷ []) ≡ entries before ++ entry_at (max l.state.moment now) (what.Replanned (suc l.state.plan) base) ∷ []
    grown = map-append (λ y. y.entry) before (record { entry = entry_at (max l.state.moment now) (what.Replanned (suc l.state.plan) base); mark = None } ∷ [])

-- a fit letter, taken apart
fit_by : (b : Bool) → not b ≡ false → b ≡ true
fit_by true h = refl
fit_by false h = absurd (let bad : true ≡ false = h in cc)

no_ups : (place : List Entry) (n : ℕ) → [] ≡ n ∷ [] → is_lost place n ≡ false
no_ups place n h = absurd (let bad : [] ≡ n ∷ [] = h in cc)

no_end : {C : Type 0} → false ≡ true → C
no_end h = absurd (let bad : false ≡ true = h in cc)

-- the letters of a connection's state that stand in the way of a fit one
abbrev up_before : ℕ → Letter → Bool
up_before u x = tells_up u x || tells_stopped u x

up_again : (u : ℕ) (x : Letter) → same_news (IsUp u) x ≡ true → up_before u x ≡ true
up_again u (IsUp v) k = or_left (v == u) (tells_stopped u (IsUp v)) (eqb_sym v u ∙ k)
up_again u _ k = no_end k

up_lost : (u : ℕ) (x : Letter) → tells_stopped u x ≡ true → up_before u x ≡ true
up_lost u x k = or_right (tells_up u x) (tells_stopped u x) k

retired_again : (u : ℕ) (x : Letter) → same_news (IsRetired u) x ≡ true → tells_stopped u x ≡ true
retired_again u (IsRetired v) k = or_left (v == u) false (eqb_sym v u ∙ k)
retired_again u _ k = no_end k

down_again : (u : ℕ) (x : Letter) → same_news (IsDown u) x ≡ true → tells_down u x ≡ true
down_again u (IsDown v) k = eqb_sym v u ∙ k
down_again u _ k = no_end k

returned_again : (op : OpName) (u : ℕ) (x : Letter) → same_news (Returned op u) x ≡ true → tells_over op x ≡ true
returned_again op u (Returned o v) k = or_right (tells_ended op (Returned o v)) (same_op op o) k
returned_again op u _ k = no_end k

ended_again : (op : OpName) (u : ℕ) (latency : Option ℕ) (x : Letter) → same_news (Ended op u latency) x ≡ true → tells_over op x ≡ true
ended_again op u latency (Ended o v l) k = or_left (same_op op o) (tells_returned op (Ended o v l)) k
ended_again op u latency _ k = no_end k

latency_refl : (l : Option ℕ) → same_latency l l ≡ true
latency_refl None = refl
latency_refl (Some n) = eqb_same n

module _ (s : Settings) (before : List Marked) (l : DeskLedger) (h : DeskKeeps s before l) (op : OpName) (u : ℕ) (fit : is_pending l.state op u ≡ true) where
  -- an operation that is pending
  pends : list_any (λ x. same_op op x.op) l.state.pending ≡ true
  pends = any_imply (λ x. same_op op x.op && x.value == u) (λ x. same_op op x.op) l.state.pending (λ x k. left (same_op op x.op) (x.value == u) k) fit

  pends_as : (q : OpName) → same_op q op ≡ true → list_any (λ x. same_op q x.op) l.state.pending ≡ true
  pends_as q k = subst (λ o. list_any (λ x. same_op o x.op) l.state.pending ≡ true) (sym (same_op_eq q op k)) pends

  -- what was heard of it before is no end
  end_once : (test : Letter → Bool) → ((x : Letter) → test x ≡ true → tells_over op x ≡ true) → list_any (λ y. passes test (heard y.what)) (entries before) ≡ false
  end_once test f = false_by (list_any (λ y. passes test (heard y.what)) (entries before)) (λ k. sym (fresh_end s (entries before) l h.stands op pends) ∙ any_imply (λ y. passes test (heard y.what)) (λ y. ends y.what op) (entries before) (λ y j. passes_imply test (tells_over op) (heard y.what) f j) k)

-- each turn keeps it
keeps : (s : Settings) (before : List Marked) (l : DeskLedger) (x : Event) → DeskKeeps s before l → is_unfit (fits_desk s) l (letter_with x) ≡ false → DeskKeeps s (before ++ made (desk_event s) l.state x) (behind (step_desk_ledger s) l (made (desk_event s) l.state x))
keeps s before l (Comes (LetterFrom now word sender (Ask op want))) h u = asks_it s before l h sender now op want word (fresh_ask s (entries before) l h.stands op (right _ _ (fit_by (fits_desk s l sender (Ask op want)) u)))
keeps s before l (Comes (LetterFrom now word sender (Returned op c))) h u =
    let pending = right (same_part sender (Client op.client)) (is_pending l.state op c) (fit_by (fits_desk s l sender (Returned op c)) u) in
    hears_it s before l h sender now (Returned op c) (both (same_op op op) _ (same_op_refl op) (eqb_same c)) (λ n k. no_ups (entries before) n k) (λ q k. pends_as s before l h op c pending q k) (end_once s before l h op c pending (same_news (Returned op c)) (returned_again op c))
keeps s before l (Comes (LetterFrom now word sender (Ended op c latency))) h u =
    let pending = right (same_part sender (Connection c)) (is_pending l.state op c) (fit_by (fits_desk s l sender (Ended op c latency)) u) in
    hears_it s before l h sender now (Ended op c latency) (both (same_op op op && c == c) _ (both (same_op op op) _ (same_op_refl op) (eqb_same c)) (latency_refl latency)) (λ n k. no_ups (entries before) n k) (λ q k. pends_as s before l h op c pending q (sym (or-false (same_op q op)) ∙ k)) (end_once s before l h op c pending (same_news (Ended op c latency)) (ended_again op c latency))
keeps s before l (Comes (LetterFrom now word sender (IsUp c))) h u =
    let none = right (is_of_sender s sender c) (is_none_taken (up_before c) l.taken) (fit_by (fits_desk s l sender (IsUp c)) u) in
    hears_it s before l h sender now (IsUp c) (eqb_same c) (λ n k. let same : c ≡ n = cc in subst (λ v. is_lost (entries before) v ≡ false) same (fresh_news s (entries before) l h.stands (tells_stopped c) (up_before c) (up_lost c) none)) (λ q k. no_end k) (fresh_news s (entries before) l h.stands (same_news (IsUp c)) (up_before c) (up_again c) none)
keeps s before l (Comes (LetterFrom now word sender (IsRetired c))) h u =
    let none = right (is_of_sender s sender c) (is_none_taken (tells_stopped c) l.taken) (fit_by (fits_desk s l sender (IsRetired c)) u) in
    hears_it s before l h sender now (IsRetired c) (eqb_same c) (λ n k. no_ups (entries before) n k) (λ q k. no_end k) (fresh_news s (entries before) l h.stands (same_news (IsRetired c)) (tells_stopped c) (retired_again c) none)
keeps s before l (Comes (LetterFrom now word sender (IsDown c))) h u =
    let none = right (is_of_sender s sender c) (is_none_taken (tells_down c) l.taken) (fit_by (fits_desk s l sender (IsDown c)) u) in
    hears_it s before l h sender now (IsDown c) (eqb_same c) (λ n k. no_ups (entries before) n k) (λ q k. no_end k) (fresh_news s (entries before) l h.stands (same_news (IsDown c)) (tells_down c) (down_again c) none)
keeps s before l (Comes (Reload now plan base)) h u = by (is_taken s l.state plan base) refl
  where
    by : (b : Bool) → is_taken s l.state plan base ≡ b → DeskKeeps s (before ++ marked_by None (effects_of Desk (max l.state.moment now) (elim b [ true ↦ act (what.Replanned (suc l.state.plan) base ∷ []) [] | false ↦ nothing ])).entries) (behind (step_desk_ledger s) l (marked_by None (effects_of Desk (max l.state.moment now) (elim b [ true ↦ act (what.Replanned (suc l.state.plan) base ∷ []) [] | false ↦ nothing ])).entries))
    by true k = replans_it s before l h now plan base k
    by false k = keeps_nothing s before l h
keeps s before l _ h u = keeps_nothing s before l h

nothing_kept : (s : Settings) → DeskKeeps s [] empty_desk_ledger
nothing_kept s =
    record {
      stands = record { says = says_nothing s; viable = refl; told = refl; pending_asked = λ op k. k; ended_asked = λ op k. k; ended_gone = λ op k. refl };
      marks = refl;
      right = refl;
      moments = refl;
      lives = refl;
    }

pub desk_shares : DeskShares
desk_shares s xs = through (fits_desk s) (step_desk_ledger s) (step_desk s) (λ l. l.state) (λ l m. refl) (desk_event s) (DeskKeeps s) (DeskShare s) (λ before l h. record { marks = h.marks; choices = h.right; moments = h.moments; life = h.lives }) (keeps s) xs [] empty_desk_ledger (nothing_kept s)

-- What the desk's list gives.

-- one turn
gives_turn : (s : Settings) (p : DeskState) (x : Event) → desk_gives_from s p (made (desk_event s) p x) ≡ (desk_event s p x).letters
gives_turn s p (Comes (LetterFrom now word sender (Ask op want))) = refl
gives_turn s p (Comes (LetterFrom now word sender (Returned op c))) = refl
gives_turn s p (Comes (LetterFrom now word sender (Ended op c latency))) = refl
gives_turn s p (Comes (LetterFrom now word sender (IsUp c))) = refl
gives_turn s p (Comes (LetterFrom now word sender (IsRetired c))) = refl
gives_turn s p (Comes (LetterFrom now word sender (IsDown c))) = refl
gives_turn s p (Comes (Reload now plan base)) = by (is_taken s p plan base)
  where
    by : (b : Bool) → desk_gives_from s p (marked_by None (effects_of Desk (max p.moment now) (elim b [ true ↦ act (what.Replanned (suc p.plan) base ∷ []) [] | false ↦ nothing ])).entries) ≡ (effects_of Desk (max p.moment now) (elim b [ true ↦ act (what.Replanned (suc p.plan) base ∷ []) [] | false ↦ nothing ])).letters
    by true = refl
    by false = refl
gives_turn s p _ = refl

pub desk_gives : DeskGives
desk_gives s xs = turns_give (step_desk s) (λ q m. desk_letters m.entry.what) (λ p. Unit {0}) (λ p m h. tt) (desk_event s) (λ p x h. gives_turn s p x) xs empty_desk tt

-- What the state says of the list.

pub desk_says_so : DeskSaysSo
desk_says_so s list =
    let same = facts_said s (entries list) (desk_of s list) (says_all s list [] empty_desk (says_nothing s)) [] in
    record {
      tiers = ap (λ f. f.tiers) same;
      pending = ap (λ f. f.pending) same;
      last_backend = λ t. ap (λ f. f.last_backend t) same;
      last_place = λ b kind. ap (λ f. f.last_place b kind) same;
      mean = λ b. ap (λ f. f.mean b) same;
    }

-- the ledger behind a list is that of the list
record DeskTells (s : Settings) (before : List Marked) (l : DeskLedger) : Type 0 where
  keeps : DeskKeeps s before l
  state : desk_of s before ≡ l.state

see_behind : (s : Settings) (l : DeskLedger) (ms : List Marked) → (behind (step_desk_ledger s) l ms).state ≡ step_desks s l.state ms
see_behind s l [] = refl
see_behind s l (m ∷ ms) = see_behind s (step_desk_ledger s l m) ms

desks_fold : (s : Settings) (p : DeskState) (L M : List Marked) → step_desks s p (L ++ M) ≡ step_desks s (step_desks s p L) M
desks_fold s p [] M = refl
desks_fold s p (m ∷ L) M = desks_fold s (step_desk s p m) L M

tells : (s : Settings) (before : List Marked) (l : DeskLedger) (x : Event) → DeskTells s before l → is_unfit (fits_desk s) l (letter_with x) ≡ false → DeskTells s (before ++ made (desk_event s) l.state x) (behind (step_desk_ledger s) l (made (desk_event s) l.state x))
tells s before l x h u =
    record {
      keeps = keeps s before l x h.keeps u;
      state = desks_fold s empty_desk before (made (desk_event s) l.state x) ∙ ap (λ p. step_desks s p (made (desk_event s) l.state x)) h.state ∙ sym (see_behind s l (made (desk_event s) l.state x));
    }

said : (s : Settings) (before : List Marked) (l : DeskLedger) → DeskTells s before l → DeskSaysViable s before
said s before l h = record { viable = ap (λ p. (facts_of s p).viable) h.state ∙ ap (λ f. f.viable) (same_facts s (entries before) l.state h.keeps.stands.says h.keeps.stands.viable) }

pub desk_says_viable : DeskSaysWhoIsViable
desk_says_viable s xs = through (fits_desk s) (step_desk_ledger s) (step_desk s) (λ l. l.state) (λ l m. refl) (desk_event s) (DeskTells s) (DeskSaysViable s) (said s) (tells s) xs [] empty_desk_ledger (record { keeps = nothing_kept s; state = refl })
