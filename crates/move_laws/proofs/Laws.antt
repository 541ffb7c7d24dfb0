-- The law: every first letter is fit, and where nothing waits both sides agree.
use Rattle.std.proofs.Common.{◌≡◌, ℕ, ◌+◌, ◌≤◌, Bool, true, false, if◌then◌else◌, List, [], ◌∷◌, arith, refl, ap, ◌∙◌, subst}
use Rattle.move_laws.specs.World.{Kinds, World, Client, Conn, ToConn, ToClient, Forward, Drop, Leave, Signal, at, some_at, is}
use Rattle.move_laws.specs.Moves.{moves, empty}
use Rattle.move_laws.specs.Counts.{num, asks, returns, choices, gos, forwards, firsts, unders, drops, leaves, lasts, endeds, signals, LeavesLast, Alternates}
use Rattle.move_laws.specs.Agree.{RoutedOf, PendedAt}
use Rattle.move_laws.specs.AgreeBinds.{Holds, HoldingOf, Holding, SuitedOf}
use Rattle.move_laws.specs.AgreePauses.{Pausing}
use Rattle.move_laws.specs.Fit.{Begins, FitOrder, AllFit, Still, Settled, Law}
use Rattle.move_laws.proofs.Appends.{num_le, num_true, same_self}
use Rattle.move_laws.proofs.AskingKept.{asking_empty}
use Rattle.move_laws.proofs.RoutedMoves.{routed_empty}
use Rattle.move_laws.proofs.FittingKept.{fitting_empty}
use Rattle.move_laws.proofs.FlagsKept.{flags_empty}
use Rattle.move_laws.proofs.LastKept.{last_empty}
use Rattle.move_laws.proofs.LostKept.{lost_empty}
use Rattle.move_laws.proofs.BegunKept.{begun_empty}
use Rattle.move_laws.proofs.PausesKept.{pausing_empty}
use Rattle.move_laws.proofs.Fits.{num_false, kinds_agree, fit_choice, fit_answer, fit_drop, fit_forward}
use Rattle.move_laws.proofs.BindCounts.{firsts_le}
use Rattle.move_laws.proofs.FreeBinds.{free, held}
use Rattle.move_laws.proofs.Fitness.{front, asks_fit, reports_fit, holds_moves}

drop_kind : (b : Bool) (n : ℕ) → 1 ≤ n → (num b ≡ 1 → n ≡ 0) → b ≡ false
drop_kind true n l z = let bad = z refl in absurd (omega arith)
drop_kind false n l z = refl

leave_kind : (b : Bool) (n : ℕ) → 1 ≤ n → (num b ≡ 0 → n ≡ 0) → b ≡ true
leave_kind true n l z = refl
leave_kind false n l z = let bad = z refl in absurd (omega arith)

signal_kind : (b : Bool) (n : ℕ) → (b ≡ true → 1 + n ≡ 0) → b ≡ false
signal_kind true n z = let bad = z refl in absurd (omega arith)
signal_kind false n z = refl

-- a Leave that waits first: the holder's Forward was taken, and no Leave of it
left_fit : (asked given : Bool) (f : ℕ) (t : Bool) (ff un hl fr ho lv : ℕ) (le : Bool) (nb fi : ℕ) → given ≡ given → ff ≤ un → un ≡ 0 → 1 ≤ lv → num given ≡ f + num t → Holding (num asked) (num given) f (num t) ff un hl fr ho lv (num le) nb fi → (t ≡ true) × (le ≡ false)
left_fit true true f t ff un hl fr ho lv le nb fi _ l z o s p = let e = p.first refl in (num_true t (omega arith), num_false le (omega (arith, p.once)))
left_fit false g f t ff un hl fr ho lv le nb fi _ l z o s p = absurd (omega (arith, p.wanted))
left_fit true false f t ff un hl fr ho lv le nb fi _ l z o s p = absurd (omega (arith, p.once))

leave_fit : (c h u : ℕ) (x : Client) (v : Conn) (q : List ToConn) (r : List ToClient) → RoutedOf c h u x v (Leave h ∷ q) r → HoldingOf c h u x v (Leave h ∷ q) r → LeavesLast h (Leave h ∷ q) → (v.taken c h ≡ true) × (v.left c h ≡ false)
leave_fit c h u x v q r w p o =
    let one = ap num (same_self h) in
    left_fit (x.asked h) (at (x.given h) u) _ (v.taken c h) _ (unders h q) _ _ _ _ (v.left c h) _ _ refl (firsts_le h q) (o.0 one) (omega arith) w.sent p

forward_kind : (kinds : Kinds) (w : World) (c u j h : ℕ) (q : List ToConn) → Holds kinds w → at ((w.clients c).given j) u ≡ true → kinds.bind_conn u ≡ kinds.bind_op c j
forward_kind kinds w c u j h q p g = let one = ap num g in kinds_agree kinds c j u (w.clients c) (w.choices c) (p.fitting c j u) (omega arith)

order_fit : (kinds : Kinds) (w : World) (c u : ℕ) (ls : List ToConn) → Holds kinds w → w.to_conn c u ≡ ls → FitOrder kinds c u (w.conns u) ls
order_fit kinds w c u [] p e = tt
order_fit kinds w c u (Forward j h ∷ q) p e =
    let f = fit_forward c j h u (w.clients c) (w.conns u) q (w.to_client c u) (rw e at (p.routed c j u).routed) in
    (f.0, forward_kind kinds w c u j h q p f.1, λ t. let g = front kinds w c u j h q p t e in (free kinds c u j h _ _ _ _ _ g, held kinds c u j h _ _ _ _ _ g))
order_fit kinds w c u (Drop j ∷ q) p e =
    let one = ap num (same_self j) in
    let r : RoutedOf c j u (w.clients c) (w.conns u) (Drop j ∷ q) (w.to_client c u) = rw e at (p.routed c j u).routed in
    let f = fit_drop c j u (w.clients c) (w.conns u) q (w.to_client c u) r (rw e at (p.routed c j u).drops_last) in
    let s : SuitedOf kinds c j u (Drop j ∷ q) = rw e at (p.suited c j u) in
    let g : at ((w.clients c).given j) u ≡ true = num_true (at ((w.clients c).given j) u) (omega (arith, r.once, num_le (at ((w.clients c).given j) u))) in
    (f.0, f.1, forward_kind kinds w c u j j q p g ∙ drop_kind (kinds.bind_op c j) (drops j (Drop j ∷ q)) (omega arith) s.no_drop)
order_fit kinds w c u (Leave h ∷ q) p e =
    let one = ap num (same_self h) in
    let s : SuitedOf kinds c h u (Leave h ∷ q) = rw e at (p.suited c h u) in
    let t = leave_kind (kinds.bind_conn u) (leaves h (Leave h ∷ q)) (omega arith) s.no_leave in
    let f = leave_fit c h u (w.clients c) (w.conns u) q (w.to_client c u) (rw e at (p.routed c h u).routed) (rw e at (p.holding c h u t).holding) (rw e at (p.holding c h u t).leaves_last) in
    (f.0, f.1, t)
order_fit kinds w c u (Signal b ∷ q) p e =
    let s : Pausing (kinds.bind_conn u) (w.desk.up u) ((w.conns u).paused c) (Signal b ∷ q) ((w.clients c).paused u) = rw e at (p.pausing c u) in
    (s.order.0, signal_kind (kinds.bind_conn u) (signals q) s.plain)

-- an order goes to a connection that has come up
heard_up : (kinds : Kinds) (w : World) (u : ℕ) → Holds kinds w → w.desk.up u ≡ true → (w.conns u).up ≡ true
heard_up kinds w u p e = let f = (p.flagged u).flagged in let one = ap num e in num_true (w.conns u).up (omega (arith, f.come, num_le (w.conns u).up))

given_up : (kinds : Kinds) (w : World) (c k u : ℕ) → Holds kinds w → num (at ((w.clients c).given k) u) ≡ 1 → (w.conns u).up ≡ true
given_up kinds w c k u p e = heard_up kinds w u p (p.begun c k u (omega arith))

order_begins : (kinds : Kinds) (w : World) (c u : ℕ) (ls : List ToConn) → Holds kinds w → w.to_conn c u ≡ ls → Begins (w.conns u) ls
order_begins kinds w c u [] p e = tt
order_begins kinds w c u (Forward j h ∷ q) p e =
    let f = fit_forward c j h u (w.clients c) (w.conns u) q (w.to_client c u) (rw e at (p.routed c j u).routed) in
    given_up kinds w c j u p (ap num f.1)
order_begins kinds w c u (Drop j ∷ q) p e =
    let one = ap num (same_self j) in
    let r : RoutedOf c j u (w.clients c) (w.conns u) (Drop j ∷ q) (w.to_client c u) = rw e at (p.routed c j u).routed in
    given_up kinds w c j u p (omega (arith, r.once, num_le (at ((w.clients c).given j) u)))
order_begins kinds w c u (Leave h ∷ q) p e =
    let one = ap num (same_self h) in
    let s : SuitedOf kinds c h u (Leave h ∷ q) = rw e at (p.suited c h u) in
    let t = leave_kind (kinds.bind_conn u) (leaves h (Leave h ∷ q)) (omega arith) s.no_leave in
    let o : HoldingOf c h u (w.clients c) (w.conns u) (Leave h ∷ q) (w.to_client c u) = rw e at (p.holding c h u t).holding in
    given_up kinds w c h u p (omega (arith, o.once, num_le (at ((w.clients c).given h) u)))
order_begins kinds w c u (Signal b ∷ q) p e =
    let s : Pausing (kinds.bind_conn u) (w.desk.up u) ((w.conns u).paused c) (Signal b ∷ q) ((w.clients c).paused u) = rw e at (p.pausing c u) in
    heard_up kinds w u p (s.begun (omega arith))

pub all_fit : (kinds : Kinds) (w : World) → Holds kinds w → AllFit kinds w
all_fit kinds w p = record {
  choice = λ c. fit_choice kinds c (w.clients c) (λ k. num (w.desk.took c k)) (λ k. asks k (w.to_desk c)) (w.choices c) (λ k. p.asking c k) (λ k u. p.fitting c k u);
  answer = λ c u. fit_answer c u (w.clients c) (w.conns u) (w.to_conn c u) (w.to_client c u) (λ k. (p.routed c k u).routed);
  order = λ c u. order_fit kinds w c u (w.to_conn c u) p refl;
  begins = λ c u. order_begins kinds w c u (w.to_conn c u) p refl;
  asking = λ c. asks_fit kinds w c p;
  report = λ u. reports_fit kinds w u p;
}

pended_empty : (kinds : Kinds) (b : Bool) (c k u : ℕ) → kinds.bind_conn u ≡ b → PendedAt kinds empty c k u
pended_empty kinds true c k u e = rw e (record { sum = refl; asked = omega arith })
pended_empty kinds false c k u e = rw e (record { sum = refl; asked = omega arith })

pub holds_empty : (kinds : Kinds) → Holds kinds empty
holds_empty kinds = record {
  asking = asking_empty;
  routed = routed_empty;
  fitting = fitting_empty kinds;
  pended = λ c k u. pended_empty kinds (kinds.bind_conn u) c k u refl;
  flagged = flags_empty;
  suited = λ c k u. record { no_drop = λ _. refl; no_leave = λ _. refl };
  last = λ c k u _. last_empty c k u;
  one_sent = λ c u _. refl;
  stands = λ c k u _. record { one = refl; under = omega arith };
  holding = λ c h u _. record { holding = record { first = λ _. refl; stood = λ _. refl; pinned = λ _. refl; sound = λ _. refl; kept = λ e. absurd (omega arith); once = omega arith; wanted = omega arith }; leaves_last = tt };
  user = λ c k u _. omega arith;
  lost = lost_empty;
  begun = begun_empty;
  pausing = pausing_empty kinds;
}

-- where nothing waits
live_somewhere : (kinds : Kinds) (w : World) (c k : ℕ) → Holds kinds w → Still w → (w.clients c).live k ≡ true → some_at ((w.clients c).given k) ≡ true
live_somewhere kinds w c k p s e =
    let a = p.asking c k in
    let one = ap num e in
    let no_ask : asks k (w.to_desk c) ≡ 0 = ap (asks k) (s.to_desk c) in
    let no_choice : choices k (w.choices c) ≡ 0 = ap (choices k) (s.choices c) in
    num_true (some_at ((w.clients c).given k)) (omega (arith, num_le (some_at ((w.clients c).given k)), num_le ((w.clients c).asked k), num_le ((w.clients c).chosen k)))

live_there : (kinds : Kinds) (w : World) (c k u : ℕ) → Holds kinds w → Still w → (w.clients c).live k ≡ true → at ((w.clients c).given k) u ≡ true → (w.conns u).rows c k ≡ true
live_there kinds w c k u p s e g =
    let r = (p.routed c k u).routed in
    let one = ap num e in
    let given = ap num g in
    let no_forward : forwards k (w.to_conn c u) ≡ 0 = ap (forwards k) (s.to_conn c u) in
    let no_last : lasts k (w.to_client c u) ≡ 0 = ap (lasts k) (s.to_client c u) in
    num_true ((w.conns u).rows c k) (omega (arith, num_le ((w.conns u).rows c k), num_le ((w.conns u).taken c k)))

live_nowhere : (kinds : Kinds) (w : World) (c k u : ℕ) → Holds kinds w → at ((w.clients c).given k) u ≡ false → (w.conns u).rows c k ≡ false
live_nowhere kinds w c k u p g = let r = (p.routed c k u).routed in let none = ap num g in num_false ((w.conns u).rows c k) (omega arith)

same_num : (a b : Bool) → num a ≡ num b → a ≡ b
same_num true true e = refl
same_num true false e = absurd (omega arith)
same_num false true e = absurd (omega arith)
same_num false false e = refl

pausing_there : (kinds : Kinds) (w : World) (c u : ℕ) → Holds kinds w → Still w → (w.conns u).paused c ≡ (w.clients c).paused u
pausing_there kinds w c u p s =
    let none : w.to_conn c u ≡ [] = s.to_conn c u in
    subst (λ (q : List ToConn). Alternates ((w.conns u).paused c) q ((w.clients c).paused u)) none (p.pausing c u).order

pending_there : (kinds : Kinds) (b : Bool) (w : World) (c k u : ℕ) → kinds.bind_conn u ≡ b → PendedAt kinds w c k u → Still w → w.desk.pending c k u ≡ (if b then is (w.conns u).holder c k else (w.conns u).rows c k)
pending_there kinds true w c k u e p s =
    let q = rw e at p.sum in
    let no_go : gos k u (w.choices c) ≡ 0 = ap (gos k u) (s.choices c) in
    let no_return : returns k u (w.to_desk c) ≡ 0 = ap (returns k u) (s.to_desk c) in
    let no_first : firsts k (w.to_conn c u) ≡ 0 = ap (firsts k) (s.to_conn c u) in
    let no_end : endeds c k (w.reports u) ≡ 0 = ap (endeds c k) (s.reports u) in
    same_num _ _ (omega arith)
pending_there kinds false w c k u e p s =
    let q = rw e at p.sum in
    let no_go : gos k u (w.choices c) ≡ 0 = ap (gos k u) (s.choices c) in
    let no_return : returns k u (w.to_desk c) ≡ 0 = ap (returns k u) (s.to_desk c) in
    let no_forward : forwards k (w.to_conn c u) ≡ 0 = ap (forwards k) (s.to_conn c u) in
    let no_end : endeds c k (w.reports u) ≡ 0 = ap (endeds c k) (s.reports u) in
    same_num _ _ (omega arith)

settled : (kinds : Kinds) (w : World) → Holds kinds w → Still w → Settled kinds w
settled kinds w p s = record {
  somewhere = λ c k. live_somewhere kinds w c k p s;
  there = λ c k u. live_there kinds w c k u p s;
  nowhere = λ c k u. live_nowhere kinds w c k u p;
  pending = λ c k u. pending_there kinds (kinds.bind_conn u) w c k u refl (p.pended c k u) s;
  pausing = λ c u. pausing_there kinds w c u p s;
}

pub law : Law
law kinds ms = let p = holds_moves kinds empty ms (holds_empty kinds) in (all_fit kinds (moves kinds empty ms) p, settled kinds (moves kinds empty ms) p)
