-- Each move keeps the desk's pairs of a regular connection equal to what stands there or is on its way.
use Rattle.std.proofs.Common.{◌≡◌, ℕ, ◌+◌, ◌≤◌, Bool, true, false, ◌==◌, ◌&&◌, not, if◌then◌else◌, List, [], ◌∷◌, ◌++◌, arith, refl, ap, subst, add-zero}
use Rattle.move_laws.specs.World.{Kinds, World, Client, Conn, Desk, ToDesk, ToChooser, Choice, ToConn, Forward, Drop, Leave, Signal, Report, Ended, IsUp, IsRetired, Move, Asks, Refuses, Binds, Ends, Goes, Leaves, Signals, TakesChoice, TakesAnswer, TakesOrder, Answers, Finishes, ComesUp, Retires, Breaks, Decides, Hears, at, conn_of, tail}
use Rattle.move_laws.specs.Clients.{may_ask, may_bind, bind_letter, may_end, drop_letter, may_leave, leave_letter, forward_letter, return_letter, may_signal}
use Rattle.move_laws.specs.Conns.{take_order, order_report, forward_row, missed_report, finish_row, finish_report, up_row, retire_row, break_row, one_report, break_report, stopped, may_come_up, may_break}
use Rattle.move_laws.specs.Moves.{move, empty}
use Rattle.move_laws.specs.Counts.{num, forwards, endeds}
use Rattle.move_laws.specs.Agree.{AskingAt, RoutedAt, FittingAt, Pended, PendedOf}
use Rattle.move_laws.proofs.Appends.{num_le, same_number, same_self, forwards_append, endeds_append}
use Rattle.move_laws.proofs.RoutedKept.{forwards_one, forwards_drop, forwards_leave}
use Rattle.move_laws.proofs.FittingKept.{held_kind}
use Rattle.move_laws.proofs.PendedKept.{forwarding, pended_asks, pended_choice, pended_decides, pended_hears}
use Rattle.move_laws.proofs.Signaled.{forwards_signal}

abbrev pub PlainOf : ℕ → ℕ → ℕ → Desk → List ToDesk → List ToChooser → List Report → Conn → List ToConn → Type 0
PlainOf c k u d qd qc rs v q = PendedOf c k u d qd qc rs (forwards k q + num (v.rows c k))

abbrev pub PlainAt : World → ℕ → ℕ → ℕ → Type 0
PlainAt w c k u = PlainOf c k u w.desk (w.to_desk c) (w.choices c) (w.reports u) (w.conns u) (w.to_conn c u)

zero_if : (s : Bool) → (if s then 0 else 0) ≡ num false
zero_if true = refl
zero_if false = refl

-- what a client sends
forwards_binds : (b g : Bool) (k u : ℕ) (x : Client) (q : List ToConn) → at (conn_of x.hold) u ≡ false → forwards k (if b then q ++ bind_letter g x u else q) ≡ forwards k q
forwards_binds false g k u x q e = refl
forwards_binds true false k u x q e = simp (forwards_append, add-zero) refl
forwards_binds true true k u x q e = rw e (simp (forwards_append, add-zero) refl)

forwards_ends : (b g : Bool) (j k u : ℕ) (x : Client) (q : List ToConn) → forwards k (if b then q ++ drop_letter g j x u else q) ≡ forwards k q
forwards_ends false g j k u x q = refl
forwards_ends true false j k u x q = simp (forwards_append, add-zero) refl
forwards_ends true true j k u x q = simp (forwards_append, forwards_drop, add-zero) refl

forwards_leaves : (b g : Bool) (k u : ℕ) (x : Client) (q : List ToConn) → forwards k (if b then q ++ leave_letter g x u else q) ≡ forwards k q
forwards_leaves false g k u x q = refl
forwards_leaves true false k u x q = simp (forwards_append, add-zero) refl
forwards_leaves true true k u x q = simp (forwards_append, forwards_leave, add-zero) refl

one_choice : (l s a : Bool) → (if s then num (l && a) else 0) ≡ (if l then num (s && a) else 0)
one_choice true true a = refl
one_choice true false a = refl
one_choice false true a = refl
one_choice false false a = refl

forwards_choice : (k u : ℕ) (x : Client) (ls : List ToChooser) (q : List ToConn) → forwards k (q ++ forward_letter ls x u) ≡ forwards k q + forwarding k u x ls
forwards_choice k u x [] q = simp (forwards_append, add-zero) refl
forwards_choice k u x (Choice j a ∷ ls) q = simp (forwards_append, forwards_one) (ap (λ (n : ℕ). forwards k q + n) (one_choice (x.live j) (k == j) (at a u)))

swap : (p g r s e t f n : ℕ) → Pended p g r (n + (f + s)) e t → Pended p g r ((f + n) + s) e t
swap p g r s e t f n h = grind (arith, h)

plain_choice : (b : Bool) (c k u : ℕ) (x : Client) (ls : List ToChooser) (d : Desk) (qd : List ToDesk) (rs : List Report) (v : Conn) (q : List ToConn) → PlainOf c k u d qd ls rs v q
    → PlainOf c k u d (if b then qd ++ return_letter ls x else qd) (if b then tail ls else ls) rs v (if b then q ++ forward_letter ls x u else q)
plain_choice false c k u x ls d qd rs v q h = h
plain_choice true c k u x ls d qd rs v q h = rw (forwards_choice k u x ls q) (swap _ _ _ _ _ _ (forwards k q) _ (pended_choice c k u _ d x qd ls rs h))

-- a Forward is taken, or missed
sends : (p g r e t f : ℕ) (n b : Bool) → (b ≡ true → n ≡ false) → Pended p g r ((num b + f) + num n) e t → Pended p g r (f + num (if b then true else n)) e t
sends p g r e t f n true z h = let none = ap num (z refl) in grind (arith, h)
sends p g r e t f n false z h = grind (arith, h)

misses : (p g r e t f n : ℕ) (b : Bool) → Pended p g r ((num b + f) + n) e t → Pended p g r (f + n) (e + num b) t
misses p g r e t f n b h = grind (arith, h)

-- a Drop is taken: where there is a row, it ends
drops_row : (p g r e t f : ℕ) (n y b : Bool) → (b ≡ true → n ≡ y) → Pended p g r (f + num n) e t → Pended p g r (f + num (if b then false else n)) (e + (if y then num b else 0)) t
drops_row p g r e t f n true true z h = let same = ap num (z refl) in grind (arith, h)
drops_row p g r e t f n false true z h = let same = ap num (z refl) in grind (arith, h)
drops_row p g r e t f n true false z h = grind (arith, h)
drops_row p g r e t f n false false z h = grind (arith, h)

endeds_row : (y : Bool) (c k j : ℕ) → endeds c k (if y then Ended c j ∷ [] else []) ≡ (if y then num (k == j) else 0)
endeds_row true c k j = rw (same_self c) (omega arith)
endeds_row false c k j = refl

plain_forward : (st : Bool) (c k j h u : ℕ) (d : Desk) (qd : List ToDesk) (qc : List ToChooser) (rs : List Report) (v : Conn) (q : List ToConn) → ((k == j) ≡ true → v.rows c k ≡ false) → PlainOf c k u d qd qc rs v (Forward j h ∷ q)
    → PlainOf c k u d qd qc (rs ++ (if st then missed_report false c j h v else [])) (forward_row st false c j h v) q
plain_forward true c k j h u d qd qc rs v q z p = simp (endeds_append, same_self, add-zero) (misses _ _ _ _ _ (forwards k q) _ (k == j) p)
plain_forward false c k j h u d qd qc rs v q z p = rw (same_self c) (simp (endeds_append, add-zero) (sends _ _ _ _ _ (forwards k q) (v.rows c k) (k == j) z p))

rowless : (n b : Bool) (f : ℕ) → (num n ≡ 1 → num b + f ≡ 0) → b ≡ true → n ≡ false
rowless true b f z e = let none = z refl in let one = ap num e in absurd (omega arith)
rowless false b f z e = refl

plain_order_own : (c k u : ℕ) (d : Desk) (qd : List ToDesk) (qc : List ToChooser) (rs : List Report) (v : Conn) (q : List ToConn) → (num (v.rows c k) ≡ 1 → forwards k q ≡ 0) → PlainOf c k u d qd qc rs v q
    → PlainOf c k u d qd qc (rs ++ order_report false c q v) (take_order false c q v) (tail q)
plain_order_own c k u d qd qc rs v [] z p = simp (endeds_append, add-zero) p
plain_order_own c k u d qd qc rs v (Forward j h ∷ q) z p = plain_forward (stopped v) c k j h u d qd qc rs v q (rowless (v.rows c k) (k == j) (forwards k q) z) p
plain_order_own c k u d qd qc rs v (Drop j ∷ q) z p =
    rw (same_self c) (simp (endeds_append, endeds_row) (drops_row _ _ _ _ _ (forwards k q) (v.rows c k) (v.rows c j) (k == j) (λ e. ap (v.rows c) (same_number k j e)) p))
plain_order_own c k u d qd qc rs v (Leave j ∷ q) z p = simp (endeds_append, add-zero) p
plain_order_own c k u d qd qc rs v (Signal b ∷ q) z p = simp (endeds_append, add-zero) p

plain_forward_other : (st : Bool) (a c k j h u : ℕ) (d : Desk) (qd : List ToDesk) (qc : List ToChooser) (rs : List Report) (v : Conn) (q : List ToConn) → (c == a) ≡ false → PlainOf c k u d qd qc rs v q
    → PlainOf c k u d qd qc (rs ++ (if st then missed_report false a j h v else [])) (forward_row st false a j h v) q
plain_forward_other true a c k j h u d qd qc rs v q e p = simp (endeds_append, e, add-zero) p
plain_forward_other false a c k j h u d qd qc rs v q e p = rw e (simp (endeds_append, add-zero) p)

endeds_other : (y : Bool) (a c k j : ℕ) → (c == a) ≡ false → endeds c k (if y then Ended a j ∷ [] else []) ≡ 0
endeds_other true a c k j e = rw e refl
endeds_other false a c k j e = refl

plain_order_other : (a c k u : ℕ) (d : Desk) (qd : List ToDesk) (qc : List ToChooser) (rs : List Report) (v : Conn) (ls q : List ToConn) → (c == a) ≡ false → PlainOf c k u d qd qc rs v q
    → PlainOf c k u d qd qc (rs ++ order_report false a ls v) (take_order false a ls v) q
plain_order_other a c k u d qd qc rs v [] q e p = simp (endeds_append, add-zero) p
plain_order_other a c k u d qd qc rs v (Forward j h ∷ ls) q e p = plain_forward_other (stopped v) a c k j h u d qd qc rs v q e p
plain_order_other a c k u d qd qc rs v (Drop j ∷ ls) q e p = rw (endeds_append, endeds_other (v.rows a j) a c k j e, e, add-zero) p
plain_order_other a c k u d qd qc rs v (Leave j ∷ ls) q e p = simp (endeds_append, add-zero) p
plain_order_other a c k u d qd qc rs v (Signal b ∷ ls) q e p = simp (endeds_append, add-zero) p

plain_order : (b bu : Bool) (a c k u : ℕ) (d : Desk) (qd : List ToDesk) (qc : List ToChooser) (rs : List Report) (v : Conn) (q : ℕ → List ToConn) → (c == a) ≡ b → (num (v.rows c k) ≡ 1 → forwards k (q c) ≡ 0) → PlainOf c k u d qd qc rs v (q c)
    → PlainOf c k u d qd qc (if bu then rs ++ order_report false a (q a) v else rs) (if bu then take_order false a (q a) v else v) (if b && bu then tail (q c) else q c)
plain_order true true a c k u d qd qc rs v q e z p =
    subst (λ (i : ℕ). PlainOf c k u d qd qc (rs ++ order_report false i (q i) v) (take_order false i (q i) v) (tail (q c))) (same_number c a e) (plain_order_own c k u d qd qc rs v (q c) z p)
plain_order false true a c k u d qd qc rs v q e z p = plain_order_other a c k u d qd qc rs v (q a) (q c) e p
plain_order true false a c k u d qd qc rs v q e z p = p
plain_order false false a c k u d qd qc rs v q e z p = p

-- it is done with an operation
finished : (p g r e t f : ℕ) (n b : Bool) → (b ≡ true → n ≡ true) → Pended p g r (f + num n) e t → Pended p g r (f + num (if b then false else n)) (e + num b) t
finished p g r e t f true true z h = grind (arith, h)
finished p g r e t f false true z h = absurd (let bad : false ≡ true = z refl in cc)
finished p g r e t f n false z h = grind (arith, h)

plain_done : (bu y stay b : Bool) (a c k u j : ℕ) (d : Desk) (qd : List ToDesk) (qc : List ToChooser) (rs : List Report) (v : Conn) (q : List ToConn) → (c == a) ≡ b → v.rows a j ≡ y → PlainOf c k u d qd qc rs v q
    → PlainOf c k u d qd qc (if bu then rs ++ finish_report y false stay a j v else rs) (if bu then finish_row y false stay a j v else v) q
plain_done false y stay b a c k u j d qd qc rs v q e n p = p
plain_done true false stay b a c k u j d qd qc rs v q e n p = simp (endeds_append, add-zero) p
plain_done true true stay true a c k u j d qd qc rs v q e n p =
    rw e (simp (endeds_append, e, add-zero) (finished _ _ _ _ _ (forwards k q) (v.rows c k) (k == j) (λ s. rw (same_number k j s, same_number c a e) n) p))
plain_done true true stay false a c k u j d qd qc rs v q e n p = rw e (simp (endeds_append, e, add-zero) p)

plain_up : (b g : Bool) (c k u : ℕ) (d : Desk) (qd : List ToDesk) (qc : List ToChooser) (rs : List Report) (v : Conn) (q : List ToConn) → PlainOf c k u d qd qc rs v q
    → PlainOf c k u d qd qc (if b then rs ++ one_report g IsUp else rs) (if b then up_row g v else v) q
plain_up false g c k u d qd qc rs v q p = p
plain_up true false c k u d qd qc rs v q p = simp (endeds_append, add-zero) p
plain_up true true c k u d qd qc rs v q p = simp (endeds_append, add-zero) p

plain_retires : (b g : Bool) (c k u : ℕ) (d : Desk) (qd : List ToDesk) (qc : List ToChooser) (rs : List Report) (v : Conn) (q : List ToConn) → PlainOf c k u d qd qc rs v q
    → PlainOf c k u d qd qc (if b then rs ++ one_report g IsRetired else rs) (if b then retire_row g v else v) q
plain_retires false g c k u d qd qc rs v q p = p
plain_retires true false c k u d qd qc rs v q p = simp (endeds_append, add-zero) p
plain_retires true true c k u d qd qc rs v q p = simp (endeds_append, add-zero) p

plain_breaks : (b g : Bool) (c k u : ℕ) (d : Desk) (qd : List ToDesk) (qc : List ToChooser) (rs : List Report) (v : Conn) (q : List ToConn) → PlainOf c k u d qd qc rs v q
    → PlainOf c k u d qd qc (if b then rs ++ break_report g false v else rs) (if b then break_row g false v else v) q
plain_breaks false g c k u d qd qc rs v q p = p
plain_breaks true false c k u d qd qc rs v q p = simp (endeds_append, add-zero) p
plain_breaks true true c k u d qd qc rs v q p = simp (endeds_append, add-zero) p

unheld : (a : Bool) (n : ℕ) → num a ≤ n → n ≡ 0 → a ≡ false
unheld true n l e = absurd (omega arith)
unheld false n l e = refl

no_forward : (w : World) (c k u : ℕ) → RoutedAt w c k u → num ((w.conns u).rows c k) ≡ 1 → forwards k (w.to_conn c u) ≡ 0
no_forward w c k u h e = omega (arith, h.routed, num_le (at ((w.clients c).given k) u))

-- each move, on a regular connection
pub plain_move : (kinds : Kinds) (w : World) (m : Move) (c k u : ℕ) → kinds.bind_conn u ≡ false → AskingAt w c k → RoutedAt w c k u → ((h : ℕ) → FittingAt kinds w c h u) → PlainAt w c k u → PlainAt (move kinds w m) c k u
plain_move kinds w (Asks a) c k u t ask r f p = pended_asks (c == a) (may_ask (kinds.bind_op c (w.clients c).next) (w.clients c)) c k u _ w.desk (w.clients c) (w.to_desk c) (w.choices c) (w.reports u) p
plain_move kinds w (Refuses a) c k u t ask r f p = p
plain_move kinds w (Binds a) c k u t ask r f p =
    rw (forwards_binds (c == a) (may_bind (kinds.bind_op c (w.clients c).next) (w.clients c)) k u (w.clients c) (w.to_conn c u) (unheld (at (conn_of (w.clients c).hold) u) _ (held_kind kinds c u (w.clients c) (w.clients c).hold (w.choices c) refl f) (ap num t))) p
plain_move kinds w (Ends a j) c k u t ask r f p = rw (forwards_ends (c == a) (may_end (kinds.bind_op c j) j (w.clients c)) j k u (w.clients c) (w.to_conn c u)) p
plain_move kinds w (Goes a) c k u t ask r f p = p
plain_move kinds w (Leaves a) c k u t ask r f p = rw (forwards_leaves (c == a) (may_leave (w.clients c)) k u (w.clients c) (w.to_conn c u)) p
plain_move kinds w (Signals a j v) c k u t ask r f p = rw (forwards_signal k (c == a) (may_signal (kinds.bind_conn v) j v (w.clients c)) v u (w.clients c) (w.to_conn c u)) p
plain_move kinds w (TakesChoice a) c k u t ask r f p = plain_choice (c == a) c k u (w.clients c) (w.choices c) w.desk (w.to_desk c) (w.reports u) (w.conns u) (w.to_conn c u) p
plain_move kinds w (TakesAnswer a v) c k u t ask r f p = p
plain_move kinds w (TakesOrder v a) c k u t ask r f p = rw t (plain_order (c == a) (u == v) a c k u w.desk (w.to_desk c) (w.choices c) (w.reports u) (w.conns u) (λ i. w.to_conn i u) refl (no_forward w c k u r) p)
plain_move kinds w (Answers v a j) c k u t ask r f p = p
plain_move kinds w (Finishes v a j failed stay) c k u t ask r f p = rw t (plain_done (u == v) ((w.conns u).rows a j) stay (c == a) a c k u j w.desk (w.to_desk c) (w.choices c) (w.reports u) (w.conns u) (w.to_conn c u) refl refl p)
plain_move kinds w (ComesUp v) c k u t ask r f p = plain_up (u == v) (may_come_up (w.conns u)) c k u w.desk (w.to_desk c) (w.choices c) (w.reports u) (w.conns u) (w.to_conn c u) p
plain_move kinds w (Retires v) c k u t ask r f p = plain_retires (u == v) (not (stopped (w.conns u))) c k u w.desk (w.to_desk c) (w.choices c) (w.reports u) (w.conns u) (w.to_conn c u) p
plain_move kinds w (Breaks v) c k u t ask r f p = rw t (plain_breaks (u == v) (may_break (w.conns u)) c k u w.desk (w.to_desk c) (w.choices c) (w.reports u) (w.conns u) (w.to_conn c u) p)
plain_move kinds w (Decides a ans) c k u t ask r f p = pended_decides (c == a) kinds a c k u _ ans ((w.clients c).asked k) w.to_desk (w.choices c) (w.reports u) w.desk refl ask.one p
plain_move kinds w (Hears v) c k u t ask r f p = pended_hears (u == v) kinds v c k u _ w.reports (w.to_desk c) (w.choices c) w.desk refl p

pub plain_empty : (c k u : ℕ) → PlainAt empty c k u
plain_empty c k u = record { sum = refl; asked = omega arith }
