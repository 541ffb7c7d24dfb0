-- Each letter that waits first is fit.
use Rattle.std.proofs.Common.{◌≡◌, ℕ, ◌+◌, ◌≤◌, Bool, true, false, ◌==◌, List, [], ◌∷◌, refl, ap, ◌∙◌, sym, subst, arith}
use Rattle.std.specs.Prelude.{is_some}
use Rattle.std.proofs.lemmas.Bool.{and_from}
use Rattle.lload_names.specs.declared.names.Letter.{Letter}
use Rattle.lload_names.specs.declared.names.PartName.{PartName}
use Rattle.lload_names.specs.declared.names.PartName.TheVariants.{Desk, Client, Up as Connection}
use Rattle.lload_spec.specs.Settings.{Settings, place_at}
use Rattle.part_spec.specs.ConnectionState.{ConnectionState}
use Rattle.part_spec.specs.Fit.{ConnectionLedger, is_fit}
use Rattle.part_spec.specs.World.{World, list_in}
use Rattle.link_laws.specs.Moves.{waiting_between}
use Rattle.move_laws.specs.World as machine
use Rattle.move_laws.specs.AgreeBinds.{Holds}
use Rattle.move_laws.specs.Counts.{num, downs, leaves, retireds, ups}
use Rattle.move_laws.specs.Fit.{Begins, FitOrder, FitReport}
use Rattle.move_laws.proofs.Appends.{num_le, num_true}
use Rattle.move_laws.proofs.Laws.{all_fit}
use Rattle.stands_laws.specs.Lists.{FirstIs, Pairs}
use Rattle.stands_laws.specs.Books.{Book}
use Rattle.stands_laws.specs.Letters.{AnswerIs, AskIs, ChoiceIs, OrderIs, ReportIs}
use Rattle.stands_laws.specs.ClientStands.{kinds_of, serves}
use Rattle.stands_laws.specs.RegularStands.{LinkStands}
use Rattle.stands_laws.specs.WorldStands.{WorldStands, client_ledger_in, connection_ledger_in, desk_ledger_in, stands_by}
use Rattle.stands_laws.proofs.Tests.{same_self}
use Rattle.fitness_laws.specs.Fitness.{FirstFitLaw}
use Rattle.fitness_laws.proofs.ClientLetters.{answer_fits, choice_fits}
use Rattle.fitness_laws.proofs.ConnectionLetters.{bind_fits, regular_fits}
use Rattle.fitness_laws.proofs.DeskLetters.{ask_fits, report_fits}

-- the first letter of the machine is that of the first letter
pub first_pair : {A B : Type 0} (R : A → B → Type 0) (q : List A) (x : A) (xs : List A) (z : List B) → q ≡ x ∷ xs → Pairs R q z → FirstIs R x z
first_pair {A = A} {B = B} R q x xs z e h = go z (subst (λ (r : List A). Pairs R r z) e h)
  where
    go : (z : List B) → Pairs R (x ∷ xs) z → FirstIs R x z
    go [] h = absurd h
    go (y ∷ ys) h = h.0

-- what both kinds of connection say
pub link_of : (s : Settings) (b : Book) (u : ℕ) (l : ConnectionLedger) (v : machine.Conn) (t : Bool) → stands_by t s b u l v → LinkStands s u l.state v
link_of s b u l v true h = h.link
link_of s b u l v false h = h.stands.link

-- a connection that came up, or retired, or went down, has a place
linked_by : (s : Settings) (u : ℕ) (p : ConnectionState) (v : machine.Conn) → LinkStands s u p v → 1 ≤ num v.up + num v.retired + num v.down → p.linked ≡ true
linked_by s u p v h e = go p.linked refl
  where
    go : (t : Bool) → p.linked ≡ t → t ≡ true
    go true i = refl
    go false i =
        let f = h.fresh i in
        let up : num v.up ≡ 0 = ap num (sym h.up ∙ f.0) in
        let tired : num v.retired ≡ 0 = ap num (sym h.retired ∙ f.1.0) in
        let gone : num v.down ≡ 0 = ap num (sym h.down ∙ f.1.1) in
        absurd (omega arith)

pub placed_by : (s : Settings) (u : ℕ) (p : ConnectionState) (v : machine.Conn) → LinkStands s u p v → 1 ≤ num v.up + num v.retired + num v.down → is_some (place_at s u) ≡ true
placed_by s u p v h e = h.placed (linked_by s u p v h e)

pub up_linked : (s : Settings) (u : ℕ) (p : ConnectionState) (v : machine.Conn) → LinkStands s u p v → v.up ≡ true → p.linked ≡ true
up_linked s u p v h e = let one : num v.up ≡ 1 = ap num e in linked_by s u p v h (omega arith)

pub up_placed : (s : Settings) (u : ℕ) (p : ConnectionState) (v : machine.Conn) → LinkStands s u p v → v.up ≡ true → is_some (place_at s u) ≡ true
up_placed s u p v h e = h.placed (up_linked s u p v h e)

module _ (s : Settings) (b : Book) (w : World) (v : machine.World) (h : WorldStands s b w v) (holds : Holds (kinds_of s b) v) where
  -- a connection that reports its state
  reports_placed : (u : ℕ) (ls : List machine.Report) → v.reports u ≡ ls → 1 ≤ ups ls + retireds ls + downs ls → is_some (place_at s u) ≡ true
  reports_placed u ls e l =
      let f = (holds.flagged u).flagged in
      let come = f.come in
      let tired = f.tired in
      let broken = f.broken in
      let a : ups (v.reports u) ≡ ups ls = ap ups e in
      let r : retireds (v.reports u) ≡ retireds ls = ap retireds e in
      let d : downs (v.reports u) ≡ downs ls = ap downs e in
      placed_by s u (connection_ledger_in s w u).state (v.conns u) (link_of s b u (connection_ledger_in s w u) (v.conns u) (serves s u) (h.conns u)) (omega arith)

  report_fit : (u : ℕ) (letter : Letter) (q : List machine.Report) → v.reports u ≡ q → FirstIs (ReportIs u) letter q → is_fit s Desk (list_in w Desk) (Connection u) letter ≡ true
  report_fit u letter [] e i = absurd i
  report_fit u letter (machine.Ended c k ∷ ls) e i = ap (is_fit s Desk (list_in w Desk) (Connection u)) i.is ∙ and_from (u == u) _ (same_self u) (h.desk.pending c k u ∙ (let f : v.desk.pending c k u ≡ true = rw e at ((all_fit (kinds_of s b) v holds).report u) in f))
  report_fit u letter (machine.IsUp ∷ ls) e i = report_fits s b u (desk_ledger_in s w) v.desk letter (machine.IsUp ∷ ls) h.desk (reports_placed u (machine.IsUp ∷ ls) e (omega arith)) i (subst (FitReport u v.desk) e ((all_fit (kinds_of s b) v holds).report u))
  report_fit u letter (machine.IsRetired ∷ ls) e i = report_fits s b u (desk_ledger_in s w) v.desk letter (machine.IsRetired ∷ ls) h.desk (reports_placed u (machine.IsRetired ∷ ls) e (omega arith)) i (subst (FitReport u v.desk) e ((all_fit (kinds_of s b) v holds).report u))
  report_fit u letter (machine.IsDown ∷ ls) e i = report_fits s b u (desk_ledger_in s w) v.desk letter (machine.IsDown ∷ ls) h.desk (reports_placed u (machine.IsDown ∷ ls) e (omega arith)) i (subst (FitReport u v.desk) e ((all_fit (kinds_of s b) v holds).report u))

  -- a Leave that waits first is of an operation that was chosen for its exchange
  left_heads : (c u k : ℕ) (ls : List machine.ToConn) → serves s u ≡ true → v.to_conn c u ≡ machine.Leave k ∷ ls → b.pinned c k ≡ false
  left_heads c u k ls serve e =
      let g = (holds.holding c k u serve).holding in
      let wanted = g.wanted in
      let one : leaves k (v.to_conn c u) ≡ num (k == k) + leaves k ls = ap (leaves k) e in
      let same : num (k == k) ≡ 1 = ap num (same_self k) in
      (h.clients c).heads k (num_true ((v.clients c).asked k) (omega (arith, num_le ((v.clients c).asked k))))

  order_fit : (c u : ℕ) (letter : Letter) (q : List machine.ToConn) → v.to_conn c u ≡ q → FirstIs (OrderIs s b c) letter q → (t : Bool) → serves s u ≡ t → stands_by t s b u (connection_ledger_in s w u) (v.conns u) → is_fit s (Connection u) (list_in w (Connection u)) (Client c) letter ≡ true
  order_fit c u letter q e i true serve st =
      bind_fits s b u c (connection_ledger_in s w u) (v.conns u) letter q serve st (λ k ls f. left_heads c u k ls serve (e ∙ f)) i (subst (FitOrder (kinds_of s b) c u (v.conns u)) e ((all_fit (kinds_of s b) v holds).order c u)) (subst (Begins (v.conns u)) e ((all_fit (kinds_of s b) v holds).begins c u))
  order_fit c u letter q e i false plain st =
      regular_fits s b u c (connection_ledger_in s w u) (v.conns u) letter q plain st.stands i (subst (FitOrder (kinds_of s b) c u (v.conns u)) e ((all_fit (kinds_of s b) v holds).order c u)) (subst (Begins (v.conns u)) e ((all_fit (kinds_of s b) v holds).begins c u))

  no_letter : {P : Type 0} (q : List Letter) (letter : Letter) (letters : List Letter) → q ≡ [] → q ≡ letter ∷ letters → P
  no_letter q letter letters e f = absurd (let bad : [] ≡ letter ∷ letters = sym e ∙ f in cc)

  pub first_fit : (sender receiver : PartName) (letter : Letter) (letters : List Letter) → waiting_between w sender receiver ≡ letter ∷ letters → is_fit s receiver (list_in w receiver) sender letter ≡ true
  first_fit Desk Desk letter letters e = no_letter (waiting_between w Desk Desk) letter letters h.strangers.desk e
  first_fit (Client c) Desk letter letters e = ask_fits s b c (desk_ledger_in s w) v.desk letter (v.to_desk c) h.desk (first_pair (AskIs b c) (waiting_between w (Client c) Desk) letter letters (v.to_desk c) e (h.asks c)) ((all_fit (kinds_of s b) v holds).asking c)
  first_fit (Connection u) Desk letter letters e = report_fit u letter (v.reports u) refl (first_pair (ReportIs u) (waiting_between w (Connection u) Desk) letter letters (v.reports u) e (h.reports u))
  first_fit Desk (Client c) letter letters e = choice_fits s b c (client_ledger_in s w c) (v.clients c) letter (v.choices c) (h.clients c).stands (first_pair (ChoiceIs s b c) (waiting_between w Desk (Client c)) letter letters (v.choices c) e (h.choices c)) ((all_fit (kinds_of s b) v holds).choice c)
  first_fit (Client a) (Client c) letter letters e = no_letter (waiting_between w (Client a) (Client c)) letter letters (h.strangers.clients a c) e
  first_fit (Connection u) (Client c) letter letters e = answer_fits s b c u (client_ledger_in s w c) (v.clients c) letter (v.to_client c u) (h.clients c).stands (first_pair (AnswerIs s b c) (waiting_between w (Connection u) (Client c)) letter letters (v.to_client c u) e (h.answers c u)) ((all_fit (kinds_of s b) v holds).answer c u)
  first_fit Desk (Connection u) letter letters e = no_letter (waiting_between w Desk (Connection u)) letter letters (h.strangers.orders u) e
  first_fit (Client c) (Connection u) letter letters e = order_fit c u letter (v.to_conn c u) refl (first_pair (OrderIs s b c) (waiting_between w (Client c) (Connection u)) letter letters (v.to_conn c u) e (h.orders c u)) (serves s u) refl (h.conns u)
  first_fit (Connection n) (Connection u) letter letters e = no_letter (waiting_between w (Connection n) (Connection u)) letter letters (h.strangers.connections n u) e

pub first_letters : FirstFitLaw
first_letters s b w v h holds sender receiver letter letters e = first_fit s b w v h holds sender receiver letter letters e
