-- Each turn of the desk.
use Rattle.std.proofs.Common.{◌≡◌, ℕ, suc, Bool, true, false, ◌==◌, ◌&&◌, if◌then◌else◌, List, [], ◌∷◌, ◌++◌, Option, Some, None, refl, ap, ◌∙◌, sym, subst, arith, append-nil}
use Rattle.std.specs.Prelude.{max}
use Rattle.std.proofs.lemmas.Bool.{eqb-true}
use Rattle.lload_names.specs.declared.inputs.Input.{Input}
use Rattle.lload_names.specs.declared.inputs.Input.TheVariants as input
use Rattle.lload_names.specs.declared.names.Answer.{Answer}
use Rattle.lload_names.specs.declared.names.Answer.TheVariants.{Go, Busy, Unavailable}
use Rattle.lload_names.specs.declared.names.Letter.{Letter}
use Rattle.lload_names.specs.declared.names.Letter.TheVariants as real
use Rattle.lload_names.specs.declared.names.PartName.TheVariants.{Desk as DeskPart, Client, Up as Connection}
use Rattle.lload_names.specs.declared.names.What.TheVariants as what
use Rattle.lload_names.specs.declared.plans.TierPlan.{TierPlan}
use Rattle.lload_spec.specs.Binding.{kind_wanted}
use Rattle.lload_spec.specs.Settings.{Settings}
use Rattle.part_spec.specs.Inputs.{Act, act, letter_of, moment_for, nothing}
use Rattle.part_spec.specs.Marked.{Taken, letters_to}
use Rattle.part_spec.specs.DeskState.{facts_of}
use Rattle.part_spec.specs.DeskTurn.{answer_to, chooses, desk_act, is_taken, reloads}
use Rattle.part_spec.specs.DeskTurn as desk_turns
use Rattle.part_spec.specs.Fit.{DeskLedger, going_to, is_choice_for, step_desk_ledger}
use Rattle.move_laws.specs.World.{World, Kinds, Desk, ToDesk, Ask, Returned, ToChooser, Choice, Report, Ended, IsUp, IsRetired, IsDown}
use Rattle.move_laws.specs.AgreeBinds.{Holds}
use Rattle.move_laws.specs.Counts.{num}
use Rattle.move_laws.specs.Desks.{choice_letter, choose, chosen_for, decide, hear}
use Rattle.move_laws.specs.Fit.{FitReport}
use Rattle.move_laws.proofs.Fits.{num_false}
use Rattle.move_laws.proofs.Laws.{all_fit}
use Rattle.stands_laws.specs.Lists.{FirstIs, Pairs}
use Rattle.stands_laws.specs.Books.{Book, is_bind_op, name}
use Rattle.stands_laws.specs.Letters.{AskIs, ChoiceIs, IsAsk, ReportIs}
use Rattle.stands_laws.specs.ClientStands.{kinds_of}
use Rattle.stands_laws.specs.DeskSides.{DeskSide, Deciding, Hearing, desk_side, desk_moves}
use Rattle.stands_laws.specs.DeskStands.{DeskStands}
use Rattle.stands_laws.specs.Follows.{DeskFollows, DeskFollowsLaw, behind_client, behind_connection, desk_ledger_behind}
use Rattle.stands_laws.proofs.Pairs.{pairs_append}
use Rattle.desk_moves_laws.proofs.DeskPicks.{Sound, answer_sound}
use Rattle.desk_moves_laws.proofs.DeskTakes.{desk_forgets, desk_goes, desk_none, heard_mark}
use Rattle.desk_moves_laws.proofs.DeskChooses.{desk_down, desk_retired, desk_up, may_choose}

-- The desk at one moment, by what moves make of it.
pub record Turned (s : Settings) (b : Book) (at : ℕ) (mark : Option Taken) (l : DeskLedger) (a : Act) (y z : DeskSide) : Type 0 where
  pub stands : DeskStands b (desk_ledger_behind s at mark l a) z.row
  pub choices : (c : ℕ) (q : List Letter) → Pairs (ChoiceIs s b c) q (y.choices c) → Pairs (ChoiceIs s b c) (q ++ letters_to (Client c) a.letters) (z.choices c)

-- An Ask.
asked_before : (kinds : Kinds) (w : World) (c k u : ℕ) → Holds kinds w → w.desk.took c k ≡ false → w.desk.pending c k u ≡ false
asked_before kinds w c k u h e =
    let asked = (h.pended c k u).asked in
    let none : num (w.desk.took c k) ≡ 0 = ap num e in
    num_false (w.desk.pending c k u) (omega arith)

-- what is chosen is a choice for the operation
right_choice : (s : Settings) (b : Book) (c k : ℕ) (l : DeskLedger) (answer : Answer) → Sound s (facts_of s l.state) (kind_wanted (b.request c k)) answer → is_choice_for s (kind_wanted (b.request c k)) answer ≡ true
right_choice s b c k l (Go n m) h = (λ i. h.kind i && h.backend i)
right_choice s b c k l Busy h = refl
right_choice s b c k l Unavailable h = refl

chosen_here : (s : Settings) (b : Book) (c k : ℕ) (l : DeskLedger) (d : Desk) (answer : Answer) → DeskStands b l d → Sound s (facts_of s l.state) (kind_wanted (b.request c k)) answer → chosen_for (kinds_of s b) d c k (going_to answer) ≡ going_to answer
chosen_here s b c k l d (Go n m) st h = may_choose s b c k n m l d st h
chosen_here s b c k l d Busy st h = refl
chosen_here s b c k l d Unavailable st h = refl

decides : (s : Settings) (b : Book) (w : World) (c k now word : ℕ) (l : DeskLedger) (letter : Letter) (answer : Answer) → Holds (kinds_of s b) w → DeskStands b l w.desk → w.desk.took c k ≡ false → (i : IsAsk b c k letter) → answer ≡ answer_to s l.state word i.want
    → DeskStands b (desk_ledger_behind s now (Some (record { sender = Client c; letter = real.Ask (name c k) i.want })) l (chooses (name c k) i.want answer word)) (choose (is_bind_op b c k) c k (going_to answer) w.desk)
decides s b w c k now word l letter (Go n m) holds st e i same = desk_goes s b c k n m now word i.want (Client c) l w.desk st (λ u. asked_before (kinds_of s b) w c k u holds e)
decides s b w c k now word l letter Busy holds st e i same = desk_none s b c k now word i.want Busy (Client c) l w.desk refl st
decides s b w c k now word l letter Unavailable holds st e i same = desk_none s b c k now word i.want Unavailable (Client c) l w.desk refl st

module _ (s : Settings) (b : Book) (w : World) (l : DeskLedger) (holds : Holds (kinds_of s b) w) (st : DeskStands b l w.desk) where
  abbrev y : DeskSide
  y = desk_side w

  abbrev kinds : Kinds
  kinds = kinds_of s b

  ask_taken : (c now word k : ℕ) (ls : List ToDesk) (letter : Letter) → w.to_desk c ≡ Ask k ∷ ls → (i : IsAsk b c k letter)
      → Turned s b now (Some (record { sender = Client c; letter = letter })) l (desk_turns.letter s l.state word letter) y (desk_moves kinds y (Deciding c (going_to (answer_to s l.state word i.want)) ∷ []))
  ask_taken c now word k ls letter e i =
      let answer = answer_to s l.state word i.want in
      let sound : Sound s (facts_of s l.state) (kind_wanted (b.request c k)) answer = subst (λ z. Sound s (facts_of s l.state) z answer) i.kind (answer_sound s (facts_of s l.state) i.want.kind word i.want.bound) in
      let fit : w.desk.took c k ≡ false = rw e at ((all_fit kinds w holds).asking c) in
      let chosen : chosen_for kinds w.desk c k (going_to answer) ≡ going_to answer = chosen_here s b c k l w.desk answer st sound in
      subst (λ (z : Letter). Turned s b now (Some (record { sender = Client c; letter = z })) l (desk_turns.letter s l.state word z) y (desk_moves kinds y (Deciding c (going_to answer) ∷ []))) (sym i.is) (record {
        stands = subst (λ (z : Desk). DeskStands b (desk_ledger_behind s now (Some (record { sender = Client c; letter = real.Ask (name c k) i.want })) l (chooses (name c k) i.want answer word)) z)
            (sym (ap (λ (q : List ToDesk). decide kinds c q (going_to answer) w.desk) e ∙ ap (λ (o : Option ℕ). choose (is_bind_op b c k) c k o w.desk) chosen))
            (decides s b w c k now word l letter answer holds st fit i refl);
        choices = λ a q p. given a q p (a == c) refl;
      })
    where
      Given : ℕ → List Letter → Bool → Type 0
      Given a q t = Pairs (ChoiceIs s b a) (q ++ ((elim t [ true ↦ real.Choice (name c k) (answer_to s l.state word i.want) ∷ [] | false ↦ [] ]) ++ [])) (if t then w.choices a ++ choice_letter (kinds_of s b) a (w.to_desk a) (going_to (answer_to s l.state word i.want)) w.desk else w.choices a)

      by : (a : ℕ) (q : List Letter) (t : Bool) → (a == c) ≡ t → Pairs (ChoiceIs s b a) q (w.choices a) → Given a q t
      by a q false f p = subst (λ (r : List Letter). Pairs (ChoiceIs s b a) r (w.choices a)) (sym (append-nil q)) p
      by a q true f p =
          let same : a ≡ c = eqb-true a c f in
          let sound : Sound s (facts_of s l.state) (kind_wanted (b.request c k)) (answer_to s l.state word i.want) = subst (λ z. Sound s (facts_of s l.state) z (answer_to s l.state word i.want)) i.kind (answer_sound s (facts_of s l.state) i.want.kind word i.want.bound) in
          let letter_is : choice_letter (kinds_of s b) a (w.to_desk a) (going_to (answer_to s l.state word i.want)) w.desk ≡ Choice k (going_to (answer_to s l.state word i.want)) ∷ [] =
          ap (λ (j : ℕ). choice_letter (kinds_of s b) j (w.to_desk j) (going_to (answer_to s l.state word i.want)) w.desk) same
          ∙ (ap (λ (r : List ToDesk). choice_letter (kinds_of s b) c r (going_to (answer_to s l.state word i.want)) w.desk) e
          ∙ ap (λ (o : Option ℕ). Choice k o ∷ []) (chosen_here s b c k l w.desk (answer_to s l.state word i.want) st sound)) in
          subst (λ (r : List ToChooser). Pairs (ChoiceIs s b a) (q ++ real.Choice (name c k) (answer_to s l.state word i.want) ∷ []) (w.choices a ++ r)) (sym letter_is)
          (pairs_append (ChoiceIs s b a) q (w.choices a) _ _ p (
            record {
              answer = answer_to s l.state word i.want;
              is = ap (λ (j : ℕ). real.Choice (name j k) (answer_to s l.state word i.want)) (sym same);
              going = refl;
              right = ap (λ (j : ℕ). is_choice_for s (kind_wanted (b.request j k)) (answer_to s l.state word i.want)) same ∙ right_choice s b c k l (answer_to s l.state word i.want) sound;
            },
            tt,
          ))

      given : (a : ℕ) (q : List Letter) → Pairs (ChoiceIs s b a) q (w.choices a) → (t : Bool) → (a == c) ≡ t → Given a q (a == c)
      given a q p t f = subst (Given a q) (sym f) (by a q t f p)

  -- what tells that an operation is pending no longer
  returned_taken : (c now word k u : ℕ) (ls : List ToDesk) (letter : Letter) → w.to_desk c ≡ Returned k u ∷ ls → letter ≡ real.Returned (name c k) u
      → Turned s b now (Some (record { sender = Client c; letter = letter })) l (desk_turns.letter s l.state word letter) y (desk_moves kinds y (Deciding c None ∷ []))
  returned_taken c now word k u ls letter e i =
      let fit : w.desk.pending c k u ≡ true = rw e at ((all_fit kinds w holds).asking c) in
      subst (λ (z : Letter). Turned s b now (Some (record { sender = Client c; letter = z })) l (desk_turns.letter s l.state word z) y (desk_moves kinds y (Deciding c None ∷ []))) (sym i) (record {
        stands = subst (λ (q : List ToDesk). DeskStands b (step_desk_ledger s l (heard_mark now (real.Returned (name c k) u) (Client c))) (decide kinds c q None w.desk)) (sym e)
            (desk_forgets b c k u now l.state.rings (record { sender = Client c; letter = real.Returned (name c k) u }) l w.desk st fit (λ o. refl) (λ v. refl) (λ v. refl) (λ v. refl));
        choices = λ a q p. subst (λ (r : List Letter). Pairs (ChoiceIs s b a) r (after a)) (sym (append-nil q)) (silent a q p (a == c) refl);
      })
    where
      after : ℕ → List ToChooser
      after a = if a == c then w.choices a ++ choice_letter (kinds_of s b) a (w.to_desk a) None w.desk else w.choices a

      silent : (a : ℕ) (q : List Letter) → Pairs (ChoiceIs s b a) q (w.choices a) → (t : Bool) → (a == c) ≡ t → Pairs (ChoiceIs s b a) q (if a == c then w.choices a ++ choice_letter (kinds_of s b) a (w.to_desk a) None w.desk else w.choices a)
      silent a q p false f = subst (λ (t : Bool). Pairs (ChoiceIs s b a) q (if t then w.choices a ++ choice_letter (kinds_of s b) a (w.to_desk a) None w.desk else w.choices a)) (sym f) p
      silent a q p true f =
          let none : choice_letter (kinds_of s b) a (w.to_desk a) None w.desk ≡ [] = ap (λ (j : ℕ). choice_letter (kinds_of s b) j (w.to_desk j) None w.desk) (eqb-true a c f) ∙ ap (λ (r : List ToDesk). choice_letter (kinds_of s b) c r None w.desk) e in
          subst (λ (t : Bool). Pairs (ChoiceIs s b a) q (if t then w.choices a ++ choice_letter (kinds_of s b) a (w.to_desk a) None w.desk else w.choices a)) (sym f)
          (subst (λ (r : List ToChooser). Pairs (ChoiceIs s b a) q r) (sym (ap (λ (r : List ToChooser). w.choices a ++ r) none ∙ append-nil (w.choices a))) p)

  -- what a connection reports
  quiet : (a : ℕ) (q : List Letter) → Pairs (ChoiceIs s b a) q (w.choices a) → Pairs (ChoiceIs s b a) (q ++ []) (w.choices a)
  quiet a q p = subst (λ (r : List Letter). Pairs (ChoiceIs s b a) r (w.choices a)) (sym (append-nil q)) p

  abbrev Heard : ℕ → ℕ → ℕ → Letter → Type 0
  Heard u now word letter = Turned s b now (Some (record { sender = Connection u; letter = letter })) l (desk_turns.letter s l.state word letter) y (desk_moves kinds y (Hearing u ∷ []))

  hears_as : (u now word : ℕ) (letter : Letter) (q : List Report) → w.reports u ≡ q → desk_turns.letter s l.state word letter ≡ act (what.Heard letter ∷ []) [] → DeskStands b (step_desk_ledger s l (heard_mark now letter (Connection u))) (hear kinds u q w.desk) → Heard u now word letter
  hears_as u now word letter q e f h =
      subst (λ (a : Act). Turned s b now (Some (record { sender = Connection u; letter = letter })) l a y (desk_moves kinds y (Hearing u ∷ []))) (sym f) (record {
        stands = subst (λ (r : List Report). DeskStands b (step_desk_ledger s l (heard_mark now letter (Connection u))) (hear kinds u r w.desk)) (sym e) h;
        choices = λ a r p. quiet a r p;
      })

  report_taken : (u now word : ℕ) (letter : Letter) (q : List Report) → w.reports u ≡ q → FirstIs (ReportIs u) letter q → Heard u now word letter
  report_taken u now word letter [] e i = absurd i
  report_taken u now word letter (Ended c k ∷ ls) e i =
      let fit : w.desk.pending c k u ≡ true = rw e at ((all_fit kinds w holds).report u) in
      subst (Heard u now word) (sym i.is) (hears_as u now word (real.Ended (name c k) u i.latency) (Ended c k ∷ ls) e refl
      (desk_forgets b c k u now _ (record { sender = Connection u; letter = real.Ended (name c k) u i.latency }) l w.desk st fit (λ o. refl) (λ v. refl) (λ v. refl) (λ v. refl)))
  report_taken u now word letter (IsUp ∷ ls) e i =
      let fit : FitReport u w.desk (IsUp ∷ ls) = subst (FitReport u w.desk) e ((all_fit kinds w holds).report u) in
      subst (Heard u now word) (sym i) (hears_as u now word (real.IsUp u) (IsUp ∷ ls) e refl (desk_up s b u now (Connection u) l w.desk st fit.1 fit.2))
  report_taken u now word letter (IsRetired ∷ ls) e i = subst (Heard u now word) (sym i) (hears_as u now word (real.IsRetired u) (IsRetired ∷ ls) e refl (desk_retired s b u now (Connection u) l w.desk st))
  report_taken u now word letter (IsDown ∷ ls) e i = subst (Heard u now word) (sym i) (hears_as u now word (real.IsDown u) (IsDown ∷ ls) e refl (desk_down s b u now (Connection u) l w.desk st))

  -- without a letter
  still : (i : Input) → desk_act s l.state i ≡ nothing → letter_of i ≡ None → ((c : ℕ) → behind_client c i (w.to_desk c) ≡ w.to_desk c) → ((u : ℕ) → behind_connection u i (w.reports u) ≡ w.reports u) → DeskFollows s b i l y
  still i e f c u = record {
    made = [];
    stands = subst (λ (a : Act). DeskStands b (desk_ledger_behind s (moment_for l.state.moment i) (letter_of i) l a) w.desk) (sym e) st;
    choices = λ a q p. subst (λ (z : Act). Pairs (ChoiceIs s b a) (q ++ letters_to (Client a) z.letters) (w.choices a)) (sym e) (quiet a q p);
    asks = λ a. sym (c a);
    reports = λ v. sym (u v);
  }

  replanned : (now : ℕ) (plan : List TierPlan) (base : ℕ) (t : Bool) → is_taken s l.state plan base ≡ t → DeskFollows s b (input.Reload now plan base) l y
  replanned now plan base false e = still (input.Reload now plan base) (ap (λ (q : Bool). elim q [ true ↦ act (what.Replanned (suc l.state.plan) base ∷ []) [] | false ↦ nothing ]) e) refl (λ c. refl) (λ u. refl)
  replanned now plan base true e =
      let same : reloads s l.state plan base ≡ act (what.Replanned (suc l.state.plan) base ∷ []) [] = ap (λ (q : Bool). elim q [ true ↦ act (what.Replanned (suc l.state.plan) base ∷ []) [] | false ↦ nothing ]) e in
      record {
        made = [];
        stands = subst (λ (a : Act). DeskStands b (desk_ledger_behind s (max l.state.moment now) None l a) w.desk) (sym same) (record {
          took = st.took;
          pending = st.pending;
          single = st.single;
          used = st.used;
          viable = st.viable;
          ups = st.ups;
          retireds = st.retireds;
          downs = st.downs;
        });
        choices = λ a q p. subst (λ (z : Act). Pairs (ChoiceIs s b a) (q ++ letters_to (Client a) z.letters) (w.choices a)) (sym same) (quiet a q p);
        asks = λ a. refl;
        reports = λ v. refl;
      }

  asked : (c now word : ℕ) (letter : Letter) (q : List ToDesk) → w.to_desk c ≡ q → FirstIs (AskIs b c) letter q → DeskFollows s b (input.LetterFrom now word (Client c) letter) l y
  asked c now word letter [] e i = absurd i
  asked c now word letter (Ask k ∷ ls) e i =
      let h = ask_taken c (max l.state.moment now) word k ls letter e i in
      record { made = Deciding c (going_to (answer_to s l.state word i.want)) ∷ []; stands = h.stands; choices = h.choices; asks = λ a. refl; reports = λ v. refl }
  asked c now word letter (Returned k u ∷ ls) e i =
      let h = returned_taken c (max l.state.moment now) word k u ls letter e i in
      record { made = Deciding c None ∷ []; stands = h.stands; choices = h.choices; asks = λ a. refl; reports = λ v. refl }

  reported : (u now word : ℕ) (letter : Letter) → FirstIs (ReportIs u) letter (w.reports u) → DeskFollows s b (input.LetterFrom now word (Connection u) letter) l y
  reported u now word letter i =
      let h = report_taken u (max l.state.moment now) word letter (w.reports u) refl i in
      record { made = Hearing u ∷ []; stands = h.stands; choices = h.choices; asks = λ a. refl; reports = λ v. refl }

pub desk_follows : DeskFollowsLaw
desk_follows s b w l (input.Arrive now) holds st i = still s b w l holds st (input.Arrive now) refl refl (λ c. refl) (λ u. refl)
desk_follows s b w l (input.LinkUp now) holds st i = still s b w l holds st (input.LinkUp now) refl refl (λ c. refl) (λ u. refl)
desk_follows s b w l (input.Message now id rest) holds st i = still s b w l holds st (input.Message now id rest) refl refl (λ c. refl) (λ u. refl)
desk_follows s b w l (input.LetterFrom now word DeskPart letter) holds st i = absurd i
desk_follows s b w l (input.LetterFrom now word (Client c) letter) holds st i = asked s b w l holds st c now word letter (w.to_desk c) refl i
desk_follows s b w l (input.LetterFrom now word (Connection u) letter) holds st i = reported s b w l holds st u now word letter i
desk_follows s b w l (input.Tick now) holds st i = still s b w l holds st (input.Tick now) refl refl (λ c. refl) (λ u. refl)
desk_follows s b w l (input.LinkGone now why) holds st i = still s b w l holds st (input.LinkGone now why) refl refl (λ c. refl) (λ u. refl)
desk_follows s b w l (input.Stall now) holds st i = still s b w l holds st (input.Stall now) refl refl (λ c. refl) (λ u. refl)
desk_follows s b w l (input.Flow now) holds st i = still s b w l holds st (input.Flow now) refl refl (λ c. refl) (λ u. refl)
desk_follows s b w l (input.Reload now plan base) holds st i = replanned s b w l holds st now plan base (is_taken s l.state plan base) refl
