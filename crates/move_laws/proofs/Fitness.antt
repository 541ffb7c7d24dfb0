-- All that is said holds after every list of moves, and gives the law.
use Rattle.std.proofs.Common.{◌≡◌, ℕ, ◌≤◌, Bool, true, false, List, [], ◌∷◌, arith, refl, ap, ◌∙◌, sym}
use Rattle.move_laws.specs.World.{Kinds, World, ToConn, Forward, Drop, Leave, Signal, Move, at, is}
use Rattle.move_laws.specs.Moves.{move, moves}
use Rattle.move_laws.specs.Counts.{num, returns, forwards, firsts, sends, endeds}
use Rattle.move_laws.specs.Agree.{PendedAt}
use Rattle.move_laws.specs.AgreeBinds.{Holds}
use Rattle.move_laws.specs.Fit.{FitAsk, FitReport}
use Rattle.move_laws.proofs.Appends.{num_le}
use Rattle.move_laws.proofs.AskingKept.{asking_move}
use Rattle.move_laws.proofs.RoutedMoves.{routed_move}
use Rattle.move_laws.proofs.FittingKept.{fitting_move}
use Rattle.move_laws.proofs.PlainKept.{PlainAt, plain_move}
use Rattle.move_laws.proofs.FlagsKept.{flags_move}
use Rattle.move_laws.proofs.Fits.{kinds_agree, fit_report, fit_ask}
use Rattle.move_laws.proofs.LastKept.{last_move}
use Rattle.move_laws.proofs.OneSentKept.{one_sent_move}
use Rattle.move_laws.proofs.FreeBinds.{Front, front_last, free, accounted, accounted_there}
use Rattle.move_laws.proofs.StandsKept.{FreeFirst, stands_move}
use Rattle.move_laws.proofs.BoundKept.{BoundAt, ReadyFirst, bound_move}
use Rattle.move_laws.proofs.UserKept.{user_move}
use Rattle.move_laws.proofs.HoldingTaken.{OrderFirst}
use Rattle.move_laws.proofs.HoldingMoves.{Known, holding_move}
use Rattle.move_laws.proofs.SuitedKept.{suited_move}
use Rattle.move_laws.proofs.LostKept.{lost_move}
use Rattle.move_laws.proofs.BegunKept.{begun_move}
use Rattle.move_laws.proofs.PausesKept.{pausing_move}

plain_of : (kinds : Kinds) (w : World) (c k u : ℕ) → kinds.bind_conn u ≡ false → PendedAt kinds w c k u → PlainAt w c k u
plain_of kinds w c k u t p = rw t at p

of_plain : (kinds : Kinds) (w : World) (c k u : ℕ) → kinds.bind_conn u ≡ false → PlainAt w c k u → PendedAt kinds w c k u
of_plain kinds w c k u t p = rw t p

bound_of : (kinds : Kinds) (w : World) (c k u : ℕ) → kinds.bind_conn u ≡ true → PendedAt kinds w c k u → BoundAt w c k u
bound_of kinds w c k u t p = rw t at p

of_bound : (kinds : Kinds) (w : World) (c k u : ℕ) → kinds.bind_conn u ≡ true → BoundAt w c k u → PendedAt kinds w c k u
of_bound kinds w c k u t p = rw t p

user_known : (p b : Bool) (n : ℕ) → num p ≤ num b → num p ≡ n → 1 ≤ n → b ≡ true
user_known p true n l e o = refl
user_known p false n l e o = absurd (omega arith)

-- a Forward that waits first for a bind connection
pub front : (kinds : Kinds) (w : World) (c u j h : ℕ) (q : List ToConn) → Holds kinds w → kinds.bind_conn u ≡ true → w.to_conn c u ≡ Forward j h ∷ q → Front kinds c u j h (w.clients c) (w.conns u) w.desk q (w.to_client c u)
front kinds w c u j h q p t e =
    let sent : sends (Forward j h ∷ q) ≡ forwards (w.clients c).current (Forward j h ∷ q) = rw e at (p.one_sent c u t) in
    let last = front_last (w.clients c).current j h q sent in
    let routed = λ (k : ℕ). rw e at (p.routed c k u).routed in
    record {
      routed = routed;
      last = λ k g. p.last c k u (let one = ap num g in sym (kinds_agree kinds c k u (w.clients c) (w.choices c) (p.fitting c k u) (omega arith)) ∙ t);
      sent = last;
      lone = let r = (p.routed c j u).routed in let s : sends (Forward j h ∷ q) ≡ forwards j (Forward j h ∷ q) = sent ∙ ap (λ (i : ℕ). forwards i (Forward j h ∷ q)) last in let one : forwards j (w.to_conn c u) ≡ forwards j (Forward j h ∷ q) = ap (forwards j) e in omega (arith, num_le (at ((w.clients c).given j) u));
      stands = λ a i. p.stands a i u t;
      holding = rw e at (p.holding c h u t).holding;
      first = λ o. let b = bound_of kinds w c h u t (p.pended c h u) in let same : firsts h (w.to_conn c u) ≡ firsts h (Forward j h ∷ q) = ap (firsts h) e in user_known (w.desk.pending c h u) (is (w.desk.user u) c h) _ (p.user c h u t) b.sum (omega arith);
      lost = p.lost u;
      held = λ a i o. let b = bound_of kinds w a i u t (p.pended a i u) in let one = ap num o in user_known (w.desk.pending a i u) (is (w.desk.user u) a i) _ (p.user a i u t) b.sum (omega arith);
    }

ready_first : (kinds : Kinds) (w : World) (c u : ℕ) (ls : List ToConn) → Holds kinds w → kinds.bind_conn u ≡ true → w.to_conn c u ≡ ls → ReadyFirst c (w.conns u) ls
ready_first kinds w c u [] p t e = tt
ready_first kinds w c u (Forward j h ∷ q) p t e =
    let f = front kinds w c u j h q p t e in
    record { free = free kinds c u j h _ _ _ _ _ f; somewhere = accounted kinds c u j h _ _ _ _ _ f; there = λ s. accounted_there kinds c u j h _ _ _ _ _ s f }
ready_first kinds w c u (Drop j ∷ q) p t e = tt
ready_first kinds w c u (Leave j ∷ q) p t e = tt
ready_first kinds w c u (Signal b ∷ q) p t e = tt

free_first : (kinds : Kinds) (w : World) (c u : ℕ) (ls : List ToConn) → Holds kinds w → kinds.bind_conn u ≡ true → w.to_conn c u ≡ ls → FreeFirst c (w.conns u) ls
free_first kinds w c u [] p t e = tt
free_first kinds w c u (Forward j h ∷ q) p t e = free kinds c u j h _ _ _ _ _ (front kinds w c u j h q p t e)
free_first kinds w c u (Drop j ∷ q) p t e = tt
free_first kinds w c u (Leave j ∷ q) p t e = tt
free_first kinds w c u (Signal b ∷ q) p t e = tt

order_first : (kinds : Kinds) (w : World) (c u : ℕ) (ls : List ToConn) → Holds kinds w → kinds.bind_conn u ≡ true → w.to_conn c u ≡ ls → OrderFirst c u (w.clients c) (w.conns u) ls
order_first kinds w c u [] p t e = tt
order_first kinds w c u (Forward j h ∷ q) p t e =
    let f = front kinds w c u j h q p t e in
    record { lost = p.lost u; ready = ready_first kinds w c u (Forward j h ∷ q) p t e; current = f.sent; lone = f.lone; routed = λ i. (f.routed i).sent }
order_first kinds w c u (Drop j ∷ q) p t e = tt
order_first kinds w c u (Leave j ∷ q) p t e = tt
order_first kinds w c u (Signal b ∷ q) p t e = tt

-- from what is said to fitness
no_returns : (kinds : Kinds) (w : World) (c k u : ℕ) → PendedAt kinds w c k u → num (w.desk.pending c k u) ≡ 0 → returns k u (w.to_desk c) ≡ 0
no_returns kinds w c k u p z = let s = p.sum in omega arith

no_endeds : (kinds : Kinds) (w : World) (c k u : ℕ) → PendedAt kinds w c k u → num (w.desk.pending c k u) ≡ 0 → endeds c k (w.reports u) ≡ 0
no_endeds kinds w c k u p z = let s = p.sum in omega arith

pub asks_fit : (kinds : Kinds) (w : World) (c : ℕ) → Holds kinds w → FitAsk c w.desk (w.to_desk c)
asks_fit kinds w c p = fit_ask c w.desk (w.clients c).asked (w.to_desk c) (λ k. (p.asking c k).one) (λ k u. no_returns kinds w c k u (p.pended c k u))

pub reports_fit : (kinds : Kinds) (w : World) (u : ℕ) → Holds kinds w → FitReport u w.desk (w.reports u)
reports_fit kinds w u p = fit_report u (w.conns u) w.desk (w.reports u) (λ c k. no_endeds kinds w c k u (p.pended c k u)) (p.flagged u).flagged (p.flagged u).flags_ordered

known : (kinds : Kinds) (w : World) (c u : ℕ) → Holds kinds w → kinds.bind_conn u ≡ true → Known kinds w c u
known kinds w c u p t = record {
  bind = t;
  asking = p.asking c;
  routed = λ k. p.routed c k u;
  fitting = λ k. p.fitting c k u;
  last = λ k. p.last c k u;
  one_sent = p.one_sent c u t;
  orders = λ a. order_first kinds w a u (w.to_conn a u) p t refl;
  stands = λ a i. p.stands a i u t;
  holding = λ h. p.holding c h u t;
  lost = p.lost u;
}

pended_case : (b : Bool) (kinds : Kinds) (w : World) (m : Move) (c k u : ℕ) → kinds.bind_conn u ≡ b → Holds kinds w → PendedAt kinds (move kinds w m) c k u
pended_case false kinds w m c k u t p = of_plain kinds (move kinds w m) c k u t (plain_move kinds w m c k u t (p.asking c k) (p.routed c k u) (λ h. p.fitting c h u) (plain_of kinds w c k u t (p.pended c k u)))
pended_case true kinds w m c k u t p = of_bound kinds (move kinds w m) c k u t (bound_move kinds w m c k u t (p.asking c) (λ i. p.fitting c i u) (λ a. ready_first kinds w a u (w.to_conn a u) p t refl) (bound_of kinds w c k u t (p.pended c k u)))

pub holds_move : (kinds : Kinds) (w : World) (m : Move) → Holds kinds w → Holds kinds (move kinds w m)
holds_move kinds w m p = record {
  asking = λ c k. asking_move kinds w m c k (p.asking c k);
  routed = λ c k u. routed_move kinds w m c k u (p.asking c k) (p.routed c k u);
  fitting = λ c k u. fitting_move kinds w m c k u (p.asking c k) (λ h. p.fitting c h u);
  pended = λ c k u. pended_case (kinds.bind_conn u) kinds w m c k u refl p;
  flagged = λ u. flags_move kinds w m u (p.flagged u);
  suited = λ c k u. suited_move kinds w m c k u (p.fitting c k u) (p.suited c k u);
  last = λ c k u t. last_move kinds w m c k u t (p.asking c k) (λ j v. p.routed c j v) (λ j v e. p.last c j v e);
  one_sent = λ c u t. one_sent_move kinds w m c u t (λ k. p.routed c k u) (λ k. p.fitting c k u) (λ k. p.last c k u) (p.one_sent c u t);
  stands = λ c k u t. stands_move kinds w m c k u t (λ a. free_first kinds w a u (w.to_conn a u) p t refl) (λ a i. p.stands a i u t);
  holding = λ c h u t. holding_move kinds w m c h u (known kinds w c u p t);
  lost = λ u. lost_move kinds w m u (p.lost u);
  begun = λ c k u. begun_move kinds w m c k u (λ h. p.fitting c h u) (λ i. p.begun c i u);
  pausing = λ c u. pausing_move kinds w m c u (λ k. p.begun c k u) (p.pausing c u);
  user = λ c k u t. user_move kinds w m c k u t (λ a. asks_fit kinds w a p) (λ v. reports_fit kinds w v p) (λ c k. p.user c k u t);
}

pub holds_moves : (kinds : Kinds) (w : World) (ms : List Move) → Holds kinds w → Holds kinds (moves kinds w ms)
holds_moves kinds w [] p = p
holds_moves kinds w (m ∷ ms) p = holds_moves kinds (move kinds w m) ms (holds_move kinds w m p)
