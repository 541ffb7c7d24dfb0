-- Each move keeps what is said of one operation at one connection.
use Rattle.std.proofs.Common.{◌≡◌, ℕ, ◌≤◌, Bool, true, false, ◌==◌, ◌&&◌, not, if◌then◌else◌, List, [], ◌∷◌, ◌++◌, Option, Some, None, inl, inr, arith, refl, ap, ◌∙◌, sym}
use Rattle.std.proofs.lemmas.Bool.Decides.{nat_tests}
use Rattle.move_laws.specs.World.{Kinds, World, Client, Conn, ToChooser, Choice, ToConn, Forward, Drop, Leave, Signal, ToClient, Reply, Failed, Move, Asks, Refuses, Binds, Ends, Goes, Leaves, Signals, TakesChoice, TakesAnswer, TakesOrder, Answers, Finishes, ComesUp, Retires, Breaks, Decides, Hears, at, some_at, conn_of, holder_of, tail}
use Rattle.move_laws.specs.Clients.{may_ask, may_bind, bind_letter, may_end, drop_letter, may_leave, leave_letter, forward_letter, may_signal, signal_letter}
use Rattle.move_laws.specs.Conns.{may_come_up, may_break, order_answer, finish_letter, stopped}
use Rattle.move_laws.specs.Moves.{move, empty}
use Rattle.move_laws.specs.Counts.{num, choices, forwards, drops, lasts, mores, DropsLast, LastsLast}
use Rattle.move_laws.specs.Agree.{AskingOf, AskingAt, RoutedAt, RoutedOf}
use Rattle.move_laws.proofs.Appends.{num_le, same_number, drops_last_append, lasts_last_append, drops_last_tail, lasts_last_tail}
use Rattle.move_laws.proofs.RoutedKept.{Unsent, routed_asks, routed_refuses, routed_binds, routed_ends, routed_goes, routed_leaves, routed_choice}
use Rattle.move_laws.proofs.RoutedTaken.{routed_answer, routed_order, routed_more, routed_finishes, routed_up, routed_retires, routed_breaks}
use Rattle.move_laws.proofs.Signaled.{stays_signaled, drops_last_signal, forwards_signal, drops_signal}

pub at_le : (o : Option ℕ) (u : ℕ) → num (at o u) ≤ num (some_at o)
at_le None u = omega arith
at_le (Some v) u = num_le (u == v)

other_forward : (k j h : ℕ) → (k == j) ≡ false → forwards k (Forward j h ∷ []) ≡ 0
other_forward k j h e = rw e refl

drops_last_case : (b : Bool) (k j h : ℕ) (q : List ToConn) → (k == j) ≡ b → (b ≡ true → drops k q ≡ 0) → DropsLast k q → DropsLast k (q ++ Forward j h ∷ [])
drops_last_case true k j h q e z o = drops_last_append k q (Forward j h ∷ []) (inr (z refl)) tt o
drops_last_case false k j h q e z o = drops_last_append k q (Forward j h ∷ []) (inl (other_forward k j h e)) tt o

pub drops_last_forward : (b : Bool) (k j h : ℕ) (q : List ToConn) → ((k == j) ≡ true → drops k q ≡ 0) → DropsLast k q → DropsLast k (q ++ (if b then Forward j h ∷ [] else []))
drops_last_forward true k j h q z o = drops_last_case (k == j) k j h q refl z o
drops_last_forward false k j h q z o = drops_last_append k q [] (inl refl) tt o

pub drops_last_drop : (b : Bool) (k j : ℕ) (q : List ToConn) → DropsLast k q → DropsLast k (q ++ (if b then Drop j ∷ [] else []))
drops_last_drop true k j q o = drops_last_append k q (Drop j ∷ []) (inl refl) (λ _. refl, tt) o
drops_last_drop false k j q o = drops_last_append k q [] (inl refl) tt o

pub drops_last_leave : (b : Bool) (k j : ℕ) (q : List ToConn) → DropsLast k q → DropsLast k (q ++ (if b then Leave j ∷ [] else []))
drops_last_leave true k j q o = drops_last_append k q (Leave j ∷ []) (inl refl) tt o
drops_last_leave false k j q o = drops_last_append k q [] (inl refl) tt o

order_binds : (b g : Bool) (k u : ℕ) (x : Client) (q : List ToConn) → ((k == x.next) ≡ true → drops k q ≡ 0) → DropsLast k q → DropsLast k (if b then q ++ bind_letter g x u else q)
order_binds false g k u x q z o = o
order_binds true false k u x q z o = drops_last_append k q [] (inl refl) tt o
order_binds true true k u x q z o = drops_last_forward (at (conn_of x.hold) u) k x.next (holder_of x.hold) q z o

order_ends : (b g : Bool) (j k u : ℕ) (x : Client) (q : List ToConn) → DropsLast k q → DropsLast k (if b then q ++ drop_letter g j x u else q)
order_ends false g j k u x q o = o
order_ends true false j k u x q o = drops_last_append k q [] (inl refl) tt o
order_ends true true j k u x q o = drops_last_drop (at (x.given j) u) k j q o

order_leaves : (b g : Bool) (k u : ℕ) (x : Client) (q : List ToConn) → DropsLast k q → DropsLast k (if b then q ++ leave_letter g x u else q)
order_leaves false g k u x q o = o
order_leaves true false k u x q o = drops_last_append k q [] (inl refl) tt o
order_leaves true true k u x q o = drops_last_leave (at (conn_of x.hold) u) k (holder_of x.hold) q o

order_choice : (b : Bool) (k u : ℕ) (ls : List ToChooser) (x : Client) (q : List ToConn) → (num (at (x.given k) u) ≡ 0 → drops k q ≡ 0) → Unsent k u x ls → DropsLast k q → DropsLast k (if b then q ++ forward_letter ls x u else q)
order_choice false k u ls x q z s o = o
order_choice true k u [] x q z s o = drops_last_append k q [] (inl refl) tt o
order_choice true k u (Choice j a ∷ ls) x q z s o = drops_last_forward (x.live j && at a u) k j j q (λ e. z (s e)) o

order_tail : (b : Bool) (k : ℕ) (q : List ToConn) → DropsLast k q → DropsLast k (if b then tail q else q)
order_tail true k q o = drops_last_tail k q o
order_tail false k q o = o

answers_tail : (b : Bool) (k : ℕ) (r : List ToClient) → LastsLast k r → LastsLast k (if b then tail r else r)
answers_tail true k r o = lasts_last_tail k r o
answers_tail false k r o = o

answers_failed : (b : Bool) (k j : ℕ) (r : List ToClient) → LastsLast k r → LastsLast k (r ++ (if b then Failed j ∷ [] else []))
answers_failed true k j r o = lasts_last_append k r (Failed j ∷ []) (inl refl) (λ _. refl, tt) o
answers_failed false k j r o = lasts_last_append k r [] (inl refl) tt o

answers_order : (b : Bool) (k : ℕ) (q : List ToConn) (v : Conn) (r : List ToClient) → LastsLast k r → LastsLast k (if b then r ++ order_answer q v else r)
answers_order false k q v r o = o
answers_order true k [] v r o = lasts_last_append k r [] (inl refl) tt o
answers_order true k (Forward j h ∷ q) v r o = answers_failed (stopped v) k j r o
answers_order true k (Drop j ∷ q) v r o = lasts_last_append k r [] (inl refl) tt o
answers_order true k (Leave j ∷ q) v r o = lasts_last_append k r [] (inl refl) tt o
answers_order true k (Signal b ∷ q) v r o = lasts_last_append k r [] (inl refl) tt o

other_more : (k j : ℕ) → (k == j) ≡ false → mores k (Reply j false false ∷ []) ≡ 0
other_more k j e = rw e refl

answers_case : (b : Bool) (k j : ℕ) (r : List ToClient) → (k == j) ≡ b → (b ≡ true → lasts k r ≡ 0) → LastsLast k r → LastsLast k (r ++ Reply j false false ∷ [])
answers_case true k j r e z o = lasts_last_append k r (Reply j false false ∷ []) (inr (z refl)) tt o
answers_case false k j r e z o = lasts_last_append k r (Reply j false false ∷ []) (inl (other_more k j e)) tt o

answers_more : (b y : Bool) (c k j : ℕ) (v : Conn) (r : List ToClient) → v.rows c j ≡ y → (v.rows c k ≡ true → lasts k r ≡ 0) → LastsLast k r → LastsLast k (if b then r ++ (if y then Reply j false false ∷ [] else []) else r)
answers_more false y c k j v r p z o = o
answers_more true false c k j v r p z o = lasts_last_append k r [] (inl refl) tt o
answers_more true true c k j v r p z o = answers_case (k == j) k j r refl (λ e. z (ap (v.rows c) (same_number k j e) ∙ p)) o

answers_last : (b y failed so : Bool) (k j : ℕ) (r : List ToClient) → LastsLast k r → LastsLast k (if b then r ++ finish_letter y failed j so else r)
answers_last false y failed so k j r o = o
answers_last true false failed so k j r o = lasts_last_append k r [] (inl refl) tt o
answers_last true true true so k j r o = lasts_last_append k r (Failed j ∷ []) (inl refl) (λ _. refl, tt) o
answers_last true true false so k j r o = lasts_last_append k r (Reply j true so ∷ []) (inl refl) (λ _. refl, tt) o

-- the operation of a Choice that waits has no connection yet
pub unsent_of : (c k u q t : ℕ) (x : Client) (ls : List ToChooser) → AskingOf k x q t (choices k ls) → Unsent k u x ls
unsent_of c k u q t x [] h = tt
unsent_of c k u q t x (Choice j a ∷ ls) h = λ e. let one = ap num e in omega (arith, at_le (x.given k) u, num_le (x.asked k), num_le (x.chosen k))

pub fresh_at : (w : World) (c k u : ℕ) → AskingAt w c k → (w.clients c).next ≤ k → num (at ((w.clients c).given k) u) ≡ 0
fresh_at w c k u h e = let z = h.fresh e in omega (arith, at_le ((w.clients c).given k) u)

pub undropped : (w : World) (c k u : ℕ) → RoutedAt w c k u → num (at ((w.clients c).given k) u) ≡ 0 → drops k (w.to_conn c u) ≡ 0
undropped w c k u h e = let o = h.routed.once in omega arith

pub unanswered : (w : World) (c k u : ℕ) → RoutedAt w c k u → (w.conns u).rows c k ≡ true → lasts k (w.to_client c u) ≡ 0
unanswered w c k u h e = let one = ap num e in omega (arith, h.routed, num_le ((w.conns u).taken c k))

pub next_is : (k n : ℕ) → (k == n) ≡ true → n ≤ k
next_is k n e = grind (arith, nat_tests)

may_end_live : (a b : Bool) → (a && b) ≡ true → a ≡ true
may_end_live true b e = refl
may_end_live false b e = e

-- a signal is no order about an operation
routed_signal : (b g : Bool) (v c k u : ℕ) (x : Client) (n : Conn) (q : List ToConn) (r : List ToClient) → RoutedOf c k u x n q r → RoutedOf c k u x n (if b then q ++ signal_letter g v x u else q) r
routed_signal b g v c k u x n q r h = rw (forwards_signal k b g v u x q, drops_signal k b g v u x q) h

-- each move
pub routed_move : (kinds : Kinds) (w : World) (m : Move) (c k u : ℕ) → AskingAt w c k → RoutedAt w c k u → RoutedAt (move kinds w m) c k u
routed_move kinds w (Asks a) c k u p h = record { routed = routed_asks (c == a) (may_ask (kinds.bind_op c (w.clients c).next) (w.clients c)) (kinds.bind_op c (w.clients c).next) c k u (w.clients c) (w.conns u) (w.to_conn c u) (w.to_client c u) (fresh_at w c k u p) h.routed; drops_last = h.drops_last; lasts_last = h.lasts_last }
routed_move kinds w (Refuses a) c k u p h = record { routed = routed_refuses (c == a) c k u (w.clients c) (w.conns u) (w.to_conn c u) (w.to_client c u) h.routed; drops_last = h.drops_last; lasts_last = h.lasts_last }
routed_move kinds w (Binds a) c k u p h = record {
  routed = routed_binds (c == a) (may_bind (kinds.bind_op c (w.clients c).next) (w.clients c)) c k u (w.clients c) (w.conns u) (w.to_conn c u) (w.to_client c u) (fresh_at w c k u p) h.routed;
  drops_last = order_binds (c == a) (may_bind (kinds.bind_op c (w.clients c).next) (w.clients c)) k u (w.clients c) (w.to_conn c u) (λ e. undropped w c k u h (fresh_at w c k u p (next_is k (w.clients c).next e))) h.drops_last;
  lasts_last = h.lasts_last;
}
routed_move kinds w (Ends a j) c k u p h = record {
  routed = routed_ends (c == a) (may_end (kinds.bind_op c j) j (w.clients c)) j c k u (w.clients c) (w.conns u) (w.to_conn c u) (w.to_client c u) (may_end_live ((w.clients c).live j) (not (kinds.bind_op c j))) h.routed;
  drops_last = order_ends (c == a) (may_end (kinds.bind_op c j) j (w.clients c)) j k u (w.clients c) (w.to_conn c u) h.drops_last;
  lasts_last = h.lasts_last;
}
routed_move kinds w (Goes a) c k u p h = record { routed = routed_goes (c == a) c k u (w.clients c) (w.conns u) (w.to_conn c u) (w.to_client c u) h.routed; drops_last = h.drops_last; lasts_last = h.lasts_last }
routed_move kinds w (Leaves a) c k u p h = record {
  routed = routed_leaves (c == a) (may_leave (w.clients c)) c k u (w.clients c) (w.conns u) (w.to_conn c u) (w.to_client c u) h.routed;
  drops_last = order_leaves (c == a) (may_leave (w.clients c)) k u (w.clients c) (w.to_conn c u) h.drops_last;
  lasts_last = h.lasts_last;
}
routed_move kinds w (Signals a j v) c k u p h = record {
  routed = stays_signaled (λ y. RoutedOf c k u y (w.conns u) (if c == a then w.to_conn c u ++ signal_letter (may_signal (kinds.bind_conn v) j v (w.clients c)) v (w.clients c) u else w.to_conn c u) (w.to_client c u)) (c == a) (may_signal (kinds.bind_conn v) j v (w.clients c)) v (w.clients c)
      (routed_signal (c == a) (may_signal (kinds.bind_conn v) j v (w.clients c)) v c k u (w.clients c) (w.conns u) (w.to_conn c u) (w.to_client c u) h.routed);
  drops_last = drops_last_signal k (c == a) (may_signal (kinds.bind_conn v) j v (w.clients c)) v u (w.clients c) (w.to_conn c u) h.drops_last;
  lasts_last = h.lasts_last;
}
routed_move kinds w (TakesChoice a) c k u p h = record {
  routed = routed_choice (c == a) (kinds.bind_op c) c k u (w.choices c) (w.clients c) (w.conns u) (w.to_conn c u) (w.to_client c u) (unsent_of c k u _ _ (w.clients c) (w.choices c) p) h.routed;
  drops_last = order_choice (c == a) k u (w.choices c) (w.clients c) (w.to_conn c u) (undropped w c k u h) (unsent_of c k u _ _ (w.clients c) (w.choices c) p) h.drops_last;
  lasts_last = h.lasts_last;
}
routed_move kinds w (TakesAnswer a v) c k u p h = record {
  routed = routed_answer (c == a) (u == v) (kinds.bind_op c) c k u v (w.to_client c v) (w.to_client c u) (w.clients c) (w.conns u) (w.to_conn c u) refl (λ e. ap (w.to_client c) (sym (same_number u v e))) h.lasts_last h.routed;
  drops_last = h.drops_last;
  lasts_last = answers_tail ((c == a) && (u == v)) k (w.to_client c u) h.lasts_last;
}
routed_move kinds w (TakesOrder v a) c k u p h = record {
  routed = routed_order (c == a) (u == v) (kinds.bind_conn u) c a k u (w.to_conn a u) (w.to_conn c u) (w.clients c) (w.conns u) (w.to_client c u) refl (λ e. ap (λ (i : ℕ). w.to_conn i u) (sym (same_number c a e))) h.routed;
  drops_last = order_tail ((c == a) && (u == v)) k (w.to_conn c u) h.drops_last;
  lasts_last = answers_order ((c == a) && (u == v)) k (w.to_conn c u) (w.conns u) (w.to_client c u) h.lasts_last;
}
routed_move kinds w (Answers v a j) c k u p h = record {
  routed = routed_more ((c == a) && (u == v)) c k u j (w.clients c) (w.conns u) (w.to_conn c u) (w.to_client c u) h.routed;
  drops_last = h.drops_last;
  lasts_last = answers_more ((c == a) && (u == v)) ((w.conns u).rows c j) c k j (w.conns u) (w.to_client c u) refl (unanswered w c k u h) h.lasts_last;
}
routed_move kinds w (Finishes v a j failed stay) c k u p h = record {
  routed = routed_finishes (c == a) (u == v) ((w.conns u).rows a j) (kinds.bind_conn u) stay failed (kinds.bind_conn u && stay) c a k j u (w.clients c) (w.conns u) (w.to_conn c u) (w.to_client c u) refl refl (λ e. ap (λ (i : ℕ). (w.conns u).rows i j) (sym (same_number c a e))) h.routed;
  drops_last = h.drops_last;
  lasts_last = answers_last ((c == a) && (u == v)) ((w.conns u).rows c j) failed (kinds.bind_conn u && stay) k j (w.to_client c u) h.lasts_last;
}
routed_move kinds w (ComesUp v) c k u p h = record { routed = routed_up (u == v) (may_come_up (w.conns u)) c k u (w.clients c) (w.conns u) (w.to_conn c u) (w.to_client c u) h.routed; drops_last = h.drops_last; lasts_last = h.lasts_last }
routed_move kinds w (Retires v) c k u p h = record { routed = routed_retires (u == v) (not (stopped (w.conns u))) c k u (w.clients c) (w.conns u) (w.to_conn c u) (w.to_client c u) h.routed; drops_last = h.drops_last; lasts_last = h.lasts_last }
routed_move kinds w (Breaks v) c k u p h = record { routed = routed_breaks (u == v) (may_break (w.conns u)) (kinds.bind_conn u) c k u (w.clients c) (w.conns u) (w.to_conn c u) (w.to_client c u) h.routed; drops_last = h.drops_last; lasts_last = h.lasts_last }
routed_move kinds w (Decides a ans) c k u p h = record { routed = h.routed; drops_last = h.drops_last; lasts_last = h.lasts_last }
routed_move kinds w (Hears v) c k u p h = record { routed = h.routed; drops_last = h.drops_last; lasts_last = h.lasts_last }

pub routed_empty : (c k u : ℕ) → RoutedAt empty c k u
routed_empty c k u = record {
  routed = record { sent = refl; one = omega arith; told = refl; over = λ _. refl; after = λ _. refl; ended = omega arith; once = omega arith; left = omega arith; has = omega arith };
  drops_last = tt;
  lasts_last = tt;
}
