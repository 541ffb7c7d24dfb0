-- Each move keeps that no Bind is dropped and no regular connection is left.
use Rattle.std.proofs.Common.{◌≡◌, ℕ, Bool, true, false, ◌==◌, ◌&&◌, not, if◌then◌else◌, List, [], ◌∷◌, ◌++◌, arith, refl, ap, ◌∙◌}
use Rattle.move_laws.specs.World.{Kinds, World, Client, ToChooser, Choice, ToConn, Forward, Drop, Leave, Signal, Move, Asks, Refuses, Binds, Ends, Goes, Leaves, Signals, TakesChoice, TakesAnswer, TakesOrder, Answers, Finishes, ComesUp, Retires, Breaks, Decides, Hears, at, holds, conn_of, holder_of, tail}
use Rattle.move_laws.specs.Clients.{may_bind, bind_letter, may_end, drop_letter, may_leave, leave_letter, forward_letter, may_signal}
use Rattle.move_laws.specs.Moves.{move}
use Rattle.move_laws.specs.Counts.{num, drops, leaves}
use Rattle.move_laws.specs.Agree.{FittingAt}
use Rattle.move_laws.specs.AgreeBinds.{SuitedOf}
use Rattle.move_laws.proofs.Appends.{same_number, drops_append}
use Rattle.move_laws.proofs.RoutedKept.{drops_forward, drops_one, drops_leave}
use Rattle.move_laws.proofs.BindCounts.{leaves_append}
use Rattle.move_laws.proofs.HoldingKept.{held_at, leaves_drop, leaves_one, no_leave}
use Rattle.move_laws.proofs.Signaled.{stays_with_signal}

suited_append : (kinds : Kinds) (c k u : ℕ) (q ys : List ToConn) → (num (kinds.bind_op c k) ≡ 1 → drops k ys ≡ 0) → (num (kinds.bind_conn u) ≡ 0 → leaves k ys ≡ 0) → SuitedOf kinds c k u q → SuitedOf kinds c k u (q ++ ys)
suited_append kinds c k u q ys z y s = record { no_drop = λ e. omega (arith, drops_append k q ys, z e, s.no_drop e); no_leave = λ e. omega (arith, leaves_append k q ys, y e, s.no_leave e) }

suited_binds : (b g : Bool) (kinds : Kinds) (c k u : ℕ) (x : Client) (q : List ToConn) → SuitedOf kinds c k u q → SuitedOf kinds c k u (if b then q ++ bind_letter g x u else q)
suited_binds false g kinds c k u x q s = s
suited_binds true false kinds c k u x q s = suited_append kinds c k u q [] (λ _. refl) (λ _. refl) s
suited_binds true true kinds c k u x q s = suited_append kinds c k u q _ (λ _. drops_forward (at (conn_of x.hold) u) k x.next (holder_of x.hold)) (λ _. no_leave (at (conn_of x.hold) u) k x.next (holder_of x.hold)) s

not_dropped : (bj bk s g : Bool) → (s ≡ true → bk ≡ bj) → bj ≡ false → num bk ≡ 1 → (if s then num g else 0) ≡ 0
not_dropped bj true true g e f o = absurd (let t = e refl in cc)
not_dropped bj true false g e f o = refl
not_dropped bj false s g e f o = absurd (omega arith)

ended_plain : (a b : Bool) → (a && not b) ≡ true → b ≡ false
ended_plain a false e = refl
ended_plain true true e = absurd (cc)
ended_plain false true e = absurd (cc)

suited_ends : (b g : Bool) (kinds : Kinds) (j c k u : ℕ) (x : Client) (q : List ToConn) → may_end (kinds.bind_op c j) j x ≡ g → SuitedOf kinds c k u q → SuitedOf kinds c k u (if b then q ++ drop_letter g j x u else q)
suited_ends false g kinds j c k u x q e s = s
suited_ends true false kinds j c k u x q e s = suited_append kinds c k u q [] (λ _. refl) (λ _. refl) s
suited_ends true true kinds j c k u x q e s =
    suited_append kinds c k u q _ (λ o. drops_one (at (x.given j) u) k j ∙ not_dropped (kinds.bind_op c j) (kinds.bind_op c k) (k == j) (at (x.given j) u) (λ t. ap (kinds.bind_op c) (same_number k j t)) (ended_plain (x.live j) (kinds.bind_op c j) e) o) (λ _. leaves_drop (at (x.given j) u) k j) s

suited_leaves : (b g : Bool) (kinds : Kinds) (c k u : ℕ) (x : Client) (q : List ToConn) → (num (kinds.bind_conn u) ≡ 0 → num (holds x.hold u k) ≡ 0) → SuitedOf kinds c k u q → SuitedOf kinds c k u (if b then q ++ leave_letter g x u else q)
suited_leaves false g kinds c k u x q z s = s
suited_leaves true false kinds c k u x q z s = suited_append kinds c k u q [] (λ _. refl) (λ _. refl) s
suited_leaves true true kinds c k u x q z s = suited_append kinds c k u q _ (λ _. drops_leave (at (conn_of x.hold) u) k (holder_of x.hold)) (λ o. leaves_one (at (conn_of x.hold) u) k (holder_of x.hold) ∙ (held_at x.hold u k ∙ z o)) s

suited_choice : (b : Bool) (kinds : Kinds) (c k u : ℕ) (ls : List ToChooser) (x : Client) (q : List ToConn) → SuitedOf kinds c k u q → SuitedOf kinds c k u (if b then q ++ forward_letter ls x u else q)
suited_choice false kinds c k u ls x q s = s
suited_choice true kinds c k u [] x q s = suited_append kinds c k u q [] (λ _. refl) (λ _. refl) s
suited_choice true kinds c k u (Choice j a ∷ ls) x q s = suited_append kinds c k u q _ (λ _. drops_forward (x.live j && at a u) k j j) (λ _. no_leave (x.live j && at a u) k j j) s

suited_tail : (b : Bool) (kinds : Kinds) (c k u : ℕ) (q : List ToConn) → SuitedOf kinds c k u q → SuitedOf kinds c k u (if b then tail q else q)
suited_tail false kinds c k u q s = s
suited_tail true kinds c k u [] s = s
suited_tail true kinds c k u (Forward j h ∷ q) s = s
suited_tail true kinds c k u (Drop j ∷ q) s = record { no_drop = λ e. omega (arith, s.no_drop e); no_leave = s.no_leave }
suited_tail true kinds c k u (Leave j ∷ q) s = record { no_drop = s.no_drop; no_leave = λ e. omega (arith, s.no_leave e) }
suited_tail true kinds c k u (Signal b ∷ q) s = s

pub suited_move : (kinds : Kinds) (w : World) (m : Move) (c k u : ℕ) → FittingAt kinds w c k u → SuitedOf kinds c k u (w.to_conn c u) → SuitedOf kinds c k u ((move kinds w m).to_conn c u)
suited_move kinds w (Asks a) c k u f s = s
suited_move kinds w (Refuses a) c k u f s = s
suited_move kinds w (Binds a) c k u f s = suited_binds (c == a) (may_bind (kinds.bind_op c (w.clients c).next) (w.clients c)) kinds c k u (w.clients c) (w.to_conn c u) s
suited_move kinds w (Ends a j) c k u f s = suited_ends (c == a) (may_end (kinds.bind_op c j) j (w.clients c)) kinds j c k u (w.clients c) (w.to_conn c u) refl s
suited_move kinds w (Goes a) c k u f s = s
suited_move kinds w (Leaves a) c k u f s = suited_leaves (c == a) (may_leave (w.clients c)) kinds c k u (w.clients c) (w.to_conn c u) f.bound s
suited_move kinds w (Signals a j v) c k u f s = stays_with_signal (SuitedOf kinds c k u) (λ t q h. suited_append kinds c k u q (Signal t ∷ []) (λ _. refl) (λ _. refl) h) (c == a) (may_signal (kinds.bind_conn v) j v (w.clients c)) v u (w.clients c) (w.to_conn c u) s
suited_move kinds w (TakesChoice a) c k u f s = suited_choice (c == a) kinds c k u (w.choices c) (w.clients c) (w.to_conn c u) s
suited_move kinds w (TakesAnswer a v) c k u f s = s
suited_move kinds w (TakesOrder v a) c k u f s = suited_tail ((c == a) && (u == v)) kinds c k u (w.to_conn c u) s
suited_move kinds w (Answers v a j) c k u f s = s
suited_move kinds w (Finishes v a j failed stay) c k u f s = s
suited_move kinds w (ComesUp v) c k u f s = s
suited_move kinds w (Retires v) c k u f s = s
suited_move kinds w (Breaks v) c k u f s = s
suited_move kinds w (Decides a ans) c k u f s = s
suited_move kinds w (Hears v) c k u f s = s
