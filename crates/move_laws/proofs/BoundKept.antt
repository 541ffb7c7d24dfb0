-- Each move keeps the desk's pairs of a bind connection equal to the holder there or on its way.
use Rattle.std.proofs.Common.{◌≡◌, ℕ, ◌+◌, Bool, true, false, ◌==◌, ◌&&◌, not, if◌then◌else◌, List, [], ◌∷◌, ◌++◌, Option, Some, None, arith, refl, ap, sym, subst, add-zero}
use Rattle.move_laws.specs.World.{Op, Hold, Kinds, World, Client, Conn, Desk, ToDesk, ToChooser, Choice, ToConn, Forward, Drop, Leave, Signal, Report, Ended, IsUp, IsRetired, IsDown, Move, Asks, Refuses, Binds, Ends, Goes, Leaves, Signals, TakesChoice, TakesAnswer, TakesOrder, Answers, Finishes, ComesUp, Retires, Breaks, Decides, Hears, at, is, holds, conn_of, holder_of, tail}
use Rattle.move_laws.specs.Clients.{may_ask, may_bind, bind_letter, may_end, drop_letter, may_leave, leave_letter, forward_letter, return_letter, may_signal}
use Rattle.move_laws.specs.Conns.{take_order, order_report, forward_row, missed_report, finish_row, finish_report, holder_report, up_row, retire_row, break_row, one_report, break_report, stopped, may_come_up, may_break}
use Rattle.move_laws.specs.Moves.{move}
use Rattle.move_laws.specs.Counts.{num, firsts, endeds}
use Rattle.move_laws.specs.Agree.{AskingAt, FittingAt, Pended, PendedOf}
use Rattle.move_laws.specs.Fit.{Free}
use Rattle.move_laws.proofs.Appends.{same_number, same_self, endeds_append}
use Rattle.move_laws.proofs.BindCounts.{firsts_append}
use Rattle.move_laws.proofs.RoutedMoves.{fresh_at}
use Rattle.move_laws.proofs.FreeBinds.{both_same}
use Rattle.move_laws.proofs.PendedKept.{forwarding, pended_asks, pended_choice, pended_decides, pended_hears}
use Rattle.move_laws.proofs.Signaled.{firsts_signal}

abbrev pub BoundOf : ℕ → ℕ → ℕ → Desk → List ToDesk → List ToChooser → List Report → Conn → List ToConn → Type 0
BoundOf c k u d qd qc rs v q = PendedOf c k u d qd qc rs (firsts k q + num (is v.holder c k))

abbrev pub BoundAt : World → ℕ → ℕ → ℕ → Type 0
BoundAt w c k u = BoundOf c k u w.desk (w.to_desk c) (w.choices c) (w.reports u) (w.conns u) (w.to_conn c u)

-- where the first order is a Forward: it is free for it, and its holder is on its way, there, or freed
pub record Ready (c j h : ℕ) (v : Conn) : Type 0 where
  pub free : Free v c h
  pub somewhere : num (h == j) + num (is v.holder c h) + num (v.freed c h) ≡ 1
  pub there : stopped v ≡ false → num (h == j) + num (is v.holder c h) ≡ 1

abbrev pub ReadyFirst : ℕ → Conn → List ToConn → Type 0
ReadyFirst c v [] = Unit {0}
ReadyFirst c v (Forward j h ∷ ls) = Ready c j h v
ReadyFirst c v (Drop j ∷ ls) = Unit {0}
ReadyFirst c v (Leave h ∷ ls) = Unit {0}
ReadyFirst c v (Signal b ∷ ls) = Unit {0}

firsts_drop : (b : Bool) (k j : ℕ) → firsts k (if b then Drop j ∷ [] else []) ≡ 0
firsts_drop true k j = refl
firsts_drop false k j = refl

firsts_leave : (b : Bool) (k j : ℕ) → firsts k (if b then Leave j ∷ [] else []) ≡ 0
firsts_leave true k j = refl
firsts_leave false k j = refl

and_false : (b : Bool) → num (b && false) ≡ 0
and_false true = refl
and_false false = refl

firsts_pinned : (b : Bool) (k j h : ℕ) → (b ≡ true → (j == h) ≡ false) → firsts k (if b then Forward j h ∷ [] else []) ≡ 0
firsts_pinned true k j h e = rw (e refl) (simp (and_false, add-zero) refl)
firsts_pinned false k j h e = refl

pub firsts_binds : (b g : Bool) (k u : ℕ) (x : Client) (q : List ToConn) → (at (conn_of x.hold) u ≡ true → (x.next == holder_of x.hold) ≡ false) → firsts k (if b then q ++ bind_letter g x u else q) ≡ firsts k q
firsts_binds false g k u x q e = refl
firsts_binds true false k u x q e = simp (firsts_append, add-zero) refl
firsts_binds true true k u x q e = rw (firsts_append, firsts_pinned (at (conn_of x.hold) u) k x.next (holder_of x.hold) e) (simp add-zero refl)

pub firsts_ends : (b g : Bool) (j k u : ℕ) (x : Client) (q : List ToConn) → firsts k (if b then q ++ drop_letter g j x u else q) ≡ firsts k q
firsts_ends false g j k u x q = refl
firsts_ends true false j k u x q = simp (firsts_append, add-zero) refl
firsts_ends true true j k u x q = simp (firsts_append, firsts_drop, add-zero) refl

pub firsts_leaves : (b g : Bool) (k u : ℕ) (x : Client) (q : List ToConn) → firsts k (if b then q ++ leave_letter g x u else q) ≡ firsts k q
firsts_leaves false g k u x q = refl
firsts_leaves true false k u x q = simp (firsts_append, add-zero) refl
firsts_leaves true true k u x q = simp (firsts_append, firsts_leave, add-zero) refl

one_choice : (l s a e : Bool) → e ≡ true → num (s && e) + 0 ≡ num s
one_choice l true a e t = rw t refl
one_choice l false a e t = refl

first_choice : (l a : Bool) (k j : ℕ) → firsts k (if l && a then Forward j j ∷ [] else []) ≡ (if l then num ((k == j) && a) else 0)
first_choice true true k j = rw (same_self j) (simp add-zero refl)
first_choice true false k j = sym (and_false (k == j))
first_choice false a k j = refl

firsts_choice : (k u : ℕ) (x : Client) (ls : List ToChooser) (q : List ToConn) → firsts k (q ++ forward_letter ls x u) ≡ firsts k q + forwarding k u x ls
firsts_choice k u x [] q = simp (firsts_append, add-zero) refl
firsts_choice k u x (Choice j a ∷ ls) q = simp (firsts_append, first_choice) refl

swap : (p g r s e t f n : ℕ) → Pended p g r (n + (f + s)) e t → Pended p g r ((f + n) + s) e t
swap p g r s e t f n h = grind (arith, h)

bound_choice : (b : Bool) (c k u : ℕ) (x : Client) (ls : List ToChooser) (d : Desk) (qd : List ToDesk) (rs : List Report) (v : Conn) (q : List ToConn) → BoundOf c k u d qd ls rs v q
    → BoundOf c k u d (if b then qd ++ return_letter ls x else qd) (if b then tail ls else ls) rs v (if b then q ++ forward_letter ls x u else q)
bound_choice false c k u x ls d qd rs v q h = h
bound_choice true c k u x ls d qd rs v q h = rw (firsts_choice k u x ls q) (swap _ _ _ _ _ _ (firsts k q) _ (pended_choice c k u _ d x qd ls rs h))

-- what stands for a pair changes its place
moves_on : (p g r s n e m t : ℕ) → s ≡ n + m → Pended p g r s e t → Pended p g r n (e + m) t
moves_on p g r s n e m t z h = grind (arith, h)

never : (a b : Bool) (k j h : ℕ) → (k == j) ≡ a → (j == h) ≡ b → (k == h) ≡ false → num (a && b) ≡ 0
never true true k j h p q e = absurd (let t = rw (same_number k j p, same_number j h q, same_self h) at e in cc)
never true false k j h p q e = refl
never false b k j h p q e = refl

-- a Forward is taken: what it does to the holder
first_is : (k j h : ℕ) (kh : Bool) → (k == h) ≡ kh → num ((k == j) && (j == h)) ≡ (if kh then num (h == j) else 0)
first_is k j h true e = rw (same_number k h e) (both_same (h == j) h j refl)
first_is k j h false e = never (k == j) (j == h) k j h refl refl e

sends_holder : (n m f : ℕ) (hk hh kh : Bool) → n ≡ (if kh then m else 0) → (kh ≡ false → hk ≡ false) → (kh ≡ true → hk ≡ hh) → m + num hh ≡ 1 → (n + f) + num hk ≡ (f + num kh) + 0
sends_holder n m f hk hh true p a b z = let s = ap num (b refl) in omega arith
sends_holder n m f hk hh false p a b z = let s = ap num (a refl) in omega arith

misses_holder : (n m f : ℕ) (hk hh fh kh : Bool) → n ≡ (if kh then m else 0) → (kh ≡ false → hk ≡ false) → (kh ≡ true → hk ≡ hh) → m + num hh + num fh ≡ 1
    → (n + f) + num hk ≡ (f + (if hh then 0 else num hk)) + (if fh then 0 else num kh)
misses_holder n m f hk true true kh p a b z = absurd (omega arith)
misses_holder n m f hk true false true p a b z = let s = ap num (b refl) in omega arith
misses_holder n m f hk true false false p a b z = let s = ap num (a refl) in omega arith
misses_holder n m f hk false true true p a b z = let s = ap num (b refl) in omega arith
misses_holder n m f hk false true false p a b z = let s = ap num (a refl) in omega arith
misses_holder n m f hk false false true p a b z = let s = ap num (b refl) in omega arith
misses_holder n m f hk false false false p a b z = let s = ap num (a refl) in omega arith

pub holder_after : (b : Bool) (o : Option Op) (c k : ℕ) → num (is (if b then None else o) c k) ≡ (if b then 0 else num (is o c k))
holder_after true o c k = refl
holder_after false o c k = refl

freed_report : (b : Bool) (c k h : ℕ) → endeds c k (if b then [] else Ended c h ∷ []) ≡ (if b then 0 else num (k == h))
freed_report true c k h = refl
freed_report false c k h = rw (same_self c) (simp add-zero refl)

not_mine : (c k h : ℕ) (v : Conn) (b : Bool) → Free v c h → is v.holder c k ≡ b → (k == h) ≡ false → b ≡ false
not_mine c k h v false f p e = refl
not_mine c k h v true f p e = absurd (let t = rw (((f.mine c k p).1), same_self h) at e in cc)

bound_forward : (st : Bool) (c k j h u : ℕ) (d : Desk) (qd : List ToDesk) (qc : List ToChooser) (rs : List Report) (v : Conn) (q : List ToConn) → stopped v ≡ st → Ready c j h v → BoundOf c k u d qd qc rs v (Forward j h ∷ q)
    → BoundOf c k u d qd qc (rs ++ (if st then missed_report true c j h v else [])) (forward_row st true c j h v) q
bound_forward true c k j h u d qd qc rs v q s r p =
    rw (endeds_append c k rs (if v.freed c h then [] else Ended c h ∷ []), freed_report (v.freed c h) c k h, holder_after (is v.holder c h) v.holder c k)
    (moves_on _ _ _ _ _ _ _ _ (misses_holder _ _ (firsts k q) (is v.holder c k) (is v.holder c h) (v.freed c h) (k == h) (first_is k j h (k == h) refl) (λ e. not_mine c k h v (is v.holder c k) r.free refl e) (λ e. ap (is v.holder c) (same_number k h e)) r.somewhere) p)
bound_forward false c k j h u d qd qc rs v q s r p =
    rw (endeds_append c k rs [], same_self c)
    (moves_on _ _ _ _ _ _ _ _ (sends_holder _ _ (firsts k q) (is v.holder c k) (is v.holder c h) (k == h) (first_is k j h (k == h) refl) (λ e. not_mine c k h v (is v.holder c k) r.free refl e) (λ e. ap (is v.holder c) (same_number k h e)) (r.there s)) p)

bound_order_own : (c k u : ℕ) (d : Desk) (qd : List ToDesk) (qc : List ToChooser) (rs : List Report) (v : Conn) (q : List ToConn) → ReadyFirst c v q → BoundOf c k u d qd qc rs v q
    → BoundOf c k u d qd qc (rs ++ order_report true c q v) (take_order true c q v) (tail q)
bound_order_own c k u d qd qc rs v [] r p = simp (endeds_append, add-zero) p
bound_order_own c k u d qd qc rs v (Forward j h ∷ q) r p = bound_forward (stopped v) c k j h u d qd qc rs v q refl r p
bound_order_own c k u d qd qc rs v (Drop j ∷ q) r p = simp (endeds_append, add-zero) p
bound_order_own c k u d qd qc rs v (Leave j ∷ q) r p = simp (endeds_append, add-zero) p
bound_order_own c k u d qd qc rs v (Signal b ∷ q) r p = simp (endeds_append, add-zero) p

-- of another client
other_holder : (a c k h : ℕ) (v : Conn) (b e : Bool) → (c == a) ≡ e → e ≡ false → Free v a h → is v.holder c k ≡ b → b ≡ false
other_holder a c k h v false e t n f p = refl
other_holder a c k h v true e t n f p = absurd (let z = rw ((f.mine c k p).0, same_self a) at t in cc)

other_report : (b : Bool) (a c k h : ℕ) → (c == a) ≡ false → endeds c k (if b then [] else Ended a h ∷ []) ≡ 0
other_report true a c k h e = refl
other_report false a c k h e = rw e refl

none_after : (b n : Bool) → n ≡ false → (if b then 0 else num n) ≡ num n
none_after true n e = sym (ap num e)
none_after false n e = refl

bound_forward_other : (st : Bool) (a c k j h u : ℕ) (d : Desk) (qd : List ToDesk) (qc : List ToChooser) (rs : List Report) (v : Conn) (q : List ToConn) → (c == a) ≡ false → Free v a h → BoundOf c k u d qd qc rs v q
    → BoundOf c k u d qd qc (rs ++ (if st then missed_report true a j h v else [])) (forward_row st true a j h v) q
bound_forward_other true a c k j h u d qd qc rs v q e f p =
    rw (endeds_append c k rs (if v.freed a h then [] else Ended a h ∷ []), other_report (v.freed a h) a c k h e, holder_after (is v.holder a h) v.holder c k, none_after (is v.holder a h) (is v.holder c k) (other_holder a c k h v (is v.holder c k) (c == a) refl e f refl), add-zero) p
bound_forward_other false a c k j h u d qd qc rs v q e f p =
    rw (endeds_append c k rs [], e) (let z = ap num (other_holder a c k h v (is v.holder c k) (c == a) refl e f refl) in moves_on _ _ _ _ (firsts k q + 0) _ 0 _ (omega arith) p)

bound_order_other : (a c k u : ℕ) (d : Desk) (qd : List ToDesk) (qc : List ToChooser) (rs : List Report) (v : Conn) (ls q : List ToConn) → (c == a) ≡ false → ReadyFirst a v ls → BoundOf c k u d qd qc rs v q
    → BoundOf c k u d qd qc (rs ++ order_report true a ls v) (take_order true a ls v) q
bound_order_other a c k u d qd qc rs v [] q e r p = simp (endeds_append, add-zero) p
bound_order_other a c k u d qd qc rs v (Forward j h ∷ ls) q e r p = bound_forward_other (stopped v) a c k j h u d qd qc rs v q e r.free p
bound_order_other a c k u d qd qc rs v (Drop j ∷ ls) q e r p = simp (endeds_append, add-zero) p
bound_order_other a c k u d qd qc rs v (Leave j ∷ ls) q e r p = simp (endeds_append, add-zero) p
bound_order_other a c k u d qd qc rs v (Signal b ∷ ls) q e r p = simp (endeds_append, add-zero) p

bound_order : (b bu : Bool) (a c k u : ℕ) (d : Desk) (qd : List ToDesk) (qc : List ToChooser) (rs : List Report) (v : Conn) (q : ℕ → List ToConn) → (c == a) ≡ b → ((i : ℕ) → ReadyFirst i v (q i)) → BoundOf c k u d qd qc rs v (q c)
    → BoundOf c k u d qd qc (if bu then rs ++ order_report true a (q a) v else rs) (if bu then take_order true a (q a) v else v) (if b && bu then tail (q c) else q c)
bound_order true true a c k u d qd qc rs v q e r p =
    subst (λ (i : ℕ). BoundOf c k u d qd qc (rs ++ order_report true i (q i) v) (take_order true i (q i) v) (tail (q c))) (same_number c a e) (bound_order_own c k u d qd qc rs v (q c) (r c) p)
bound_order false true a c k u d qd qc rs v q e r p = bound_order_other a c k u d qd qc rs v (q a) (q c) e (r a) p
bound_order true false a c k u d qd qc rs v q e r p = p
bound_order false false a c k u d qd qc rs v q e r p = p

-- it is done with its Bind, or goes down
freed_end : (o : Option Op) (c k : ℕ) → endeds c k (holder_report o) ≡ num (is o c k)
freed_end None c k = refl
freed_end (Some o) c k = simp add-zero refl

let_go : (p g r f n e t : ℕ) → Pended p g r (f + n) e t → Pended p g r (f + 0) (e + n) t
let_go p g r f n e t h = grind (arith, h)

bound_done : (bu y stay : Bool) (a c k u j : ℕ) (d : Desk) (qd : List ToDesk) (qc : List ToChooser) (rs : List Report) (v : Conn) (q : List ToConn) → BoundOf c k u d qd qc rs v q
    → BoundOf c k u d qd qc (if bu then rs ++ finish_report y true stay a j v else rs) (if bu then finish_row y true stay a j v else v) q
bound_done false y stay a c k u j d qd qc rs v q p = p
bound_done true false stay a c k u j d qd qc rs v q p = simp (endeds_append, add-zero) p
bound_done true true true a c k u j d qd qc rs v q p = simp (endeds_append, add-zero) p
bound_done true true false a c k u j d qd qc rs v q p = rw (endeds_append c k rs (holder_report v.holder), freed_end v.holder c k) (let_go _ _ _ (firsts k q) _ _ _ p)

broken_end : (o : Option Op) (c k : ℕ) → endeds c k (holder_report o ++ IsDown ∷ []) ≡ num (is o c k)
broken_end None c k = refl
broken_end (Some o) c k = simp add-zero refl

bound_breaks : (bu y : Bool) (c k u : ℕ) (d : Desk) (qd : List ToDesk) (qc : List ToChooser) (rs : List Report) (v : Conn) (q : List ToConn) → BoundOf c k u d qd qc rs v q
    → BoundOf c k u d qd qc (if bu then rs ++ break_report y true v else rs) (if bu then break_row y true v else v) q
bound_breaks false y c k u d qd qc rs v q p = p
bound_breaks true false c k u d qd qc rs v q p = simp (endeds_append, add-zero) p
bound_breaks true true c k u d qd qc rs v q p = rw (endeds_append c k rs (holder_report v.holder ++ IsDown ∷ []), broken_end v.holder c k) (let_go _ _ _ (firsts k q) _ _ _ p)

bound_up : (b g : Bool) (c k u : ℕ) (d : Desk) (qd : List ToDesk) (qc : List ToChooser) (rs : List Report) (v : Conn) (q : List ToConn) → BoundOf c k u d qd qc rs v q
    → BoundOf c k u d qd qc (if b then rs ++ one_report g IsUp else rs) (if b then up_row g v else v) q
bound_up false g c k u d qd qc rs v q p = p
bound_up true false c k u d qd qc rs v q p = simp (endeds_append, add-zero) p
bound_up true true c k u d qd qc rs v q p = simp (endeds_append, add-zero) p

bound_retires : (b g : Bool) (c k u : ℕ) (d : Desk) (qd : List ToDesk) (qc : List ToChooser) (rs : List Report) (v : Conn) (q : List ToConn) → BoundOf c k u d qd qc rs v q
    → BoundOf c k u d qd qc (if b then rs ++ one_report g IsRetired else rs) (if b then retire_row g v else v) q
bound_retires false g c k u d qd qc rs v q p = p
bound_retires true false c k u d qd qc rs v q p = simp (endeds_append, add-zero) p
bound_retires true true c k u d qd qc rs v q p = simp (endeds_append, add-zero) p

-- a pinned Bind isn't its own holder
held_own : (o : Option Hold) (u n : ℕ) (b : Bool) → at (conn_of o) u ≡ true → (n == holder_of o) ≡ b → num (holds o u n) ≡ 0 → b ≡ false
held_own None u n b p q z = absurd (cc)
held_own (Some y) u n true p q z = absurd (let t = rw (p, q) at z in omega arith)
held_own (Some y) u n false p q z = refl

pub pinned_other : (kinds : Kinds) (w : World) (c u : ℕ) → ((k : ℕ) → AskingAt w c k) → ((k : ℕ) → FittingAt kinds w c k u) → at (conn_of (w.clients c).hold) u ≡ true → ((w.clients c).next == holder_of (w.clients c).hold) ≡ false
pinned_other kinds w c u p f e =
    let n = (w.clients c).next in
    let z = fresh_at w c n u (p n) (omega arith) in
    held_own (w.clients c).hold u n _ e refl (omega (arith, f n))

-- each move, on a bind connection
pub bound_move : (kinds : Kinds) (w : World) (m : Move) (c k u : ℕ) → kinds.bind_conn u ≡ true → ((i : ℕ) → AskingAt w c i) → ((i : ℕ) → FittingAt kinds w c i u) → ((a : ℕ) → ReadyFirst a (w.conns u) (w.to_conn a u)) → BoundAt w c k u → BoundAt (move kinds w m) c k u
bound_move kinds w (Asks a) c k u t ask f r p = pended_asks (c == a) (may_ask (kinds.bind_op c (w.clients c).next) (w.clients c)) c k u _ w.desk (w.clients c) (w.to_desk c) (w.choices c) (w.reports u) p
bound_move kinds w (Refuses a) c k u t ask f r p = p
bound_move kinds w (Binds a) c k u t ask f r p = rw (firsts_binds (c == a) (may_bind (kinds.bind_op c (w.clients c).next) (w.clients c)) k u (w.clients c) (w.to_conn c u) (pinned_other kinds w c u ask f)) p
bound_move kinds w (Ends a j) c k u t ask f r p = rw (firsts_ends (c == a) (may_end (kinds.bind_op c j) j (w.clients c)) j k u (w.clients c) (w.to_conn c u)) p
bound_move kinds w (Goes a) c k u t ask f r p = p
bound_move kinds w (Leaves a) c k u t ask f r p = rw (firsts_leaves (c == a) (may_leave (w.clients c)) k u (w.clients c) (w.to_conn c u)) p
bound_move kinds w (Signals a j v) c k u t ask f r p = rw (firsts_signal k (c == a) (may_signal (kinds.bind_conn v) j v (w.clients c)) v u (w.clients c) (w.to_conn c u)) p
bound_move kinds w (TakesChoice a) c k u t ask f r p = bound_choice (c == a) c k u (w.clients c) (w.choices c) w.desk (w.to_desk c) (w.reports u) (w.conns u) (w.to_conn c u) p
bound_move kinds w (TakesAnswer a v) c k u t ask f r p = p
bound_move kinds w (TakesOrder v a) c k u t ask f r p = rw t (bound_order (c == a) (u == v) a c k u w.desk (w.to_desk c) (w.choices c) (w.reports u) (w.conns u) (λ i. w.to_conn i u) refl r p)
bound_move kinds w (Answers v a j) c k u t ask f r p = p
bound_move kinds w (Finishes v a j failed stay) c k u t ask f r p = rw t (bound_done (u == v) ((w.conns u).rows a j) stay a c k u j w.desk (w.to_desk c) (w.choices c) (w.reports u) (w.conns u) (w.to_conn c u) p)
bound_move kinds w (ComesUp v) c k u t ask f r p = bound_up (u == v) (may_come_up (w.conns u)) c k u w.desk (w.to_desk c) (w.choices c) (w.reports u) (w.conns u) (w.to_conn c u) p
bound_move kinds w (Retires v) c k u t ask f r p = bound_retires (u == v) (not (stopped (w.conns u))) c k u w.desk (w.to_desk c) (w.choices c) (w.reports u) (w.conns u) (w.to_conn c u) p
bound_move kinds w (Breaks v) c k u t ask f r p = rw t (bound_breaks (u == v) (may_break (w.conns u)) c k u w.desk (w.to_desk c) (w.choices c) (w.reports u) (w.conns u) (w.to_conn c u) p)
bound_move kinds w (Decides a ans) c k u t ask f r p = pended_decides (c == a) kinds a c k u _ ans ((w.clients c).asked k) w.to_desk (w.choices c) (w.reports u) w.desk refl (ask k).one p
bound_move kinds w (Hears v) c k u t ask f r p = pended_hears (u == v) kinds v c k u _ w.reports (w.to_desk c) (w.choices c) w.desk refl p
