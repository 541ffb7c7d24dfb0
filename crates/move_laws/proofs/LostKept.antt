-- Each move keeps what is said of the holder that a connection lost.
use Rattle.std.proofs.Common.{◌≡◌, ℕ, ◌≤◌, Bool, true, false, ◌==◌, ◌&&◌, ◌||◌, not, if◌then◌else◌, List, [], ◌∷◌, Option, Some, None, arith, refl}
use Rattle.move_laws.specs.World.{Op, Kinds, World, Conn, ToConn, Forward, Drop, Leave, Signal, Move, Asks, Refuses, Binds, Ends, Goes, Leaves, Signals, TakesChoice, TakesAnswer, TakesOrder, Answers, Finishes, ComesUp, Retires, Breaks, Decides, Hears, is, vacant}
use Rattle.move_laws.specs.Conns.{take_order, forward_row, finish_row, up_row, retire_row, break_row, may_come_up, may_break, stopped, free}
use Rattle.move_laws.specs.Moves.{move, empty}
use Rattle.move_laws.specs.Counts.{num}
use Rattle.move_laws.specs.AgreeBinds.{Lost}
use Rattle.move_laws.proofs.Appends.{num_le}

-- where one is lost, none holds; where the connection isn't down, none is lost
is_vacant : (o : Option Op) (c h : ℕ) → num (not (vacant o)) ≡ 0 → num (is o c h) ≡ 0
is_vacant None c h e = refl
is_vacant (Some o) c h e = absurd (omega arith)

is_some : (o : Option Op) (c h : ℕ) → is o c h ≡ true → num (not (vacant o)) ≡ 1
is_some None c h e = absurd (cc)
is_some (Some o) c h e = refl

stop_down : (r d : Bool) → (r || d) ≡ false → num d ≡ 0
stop_down true d e = absurd (cc)
stop_down false true e = absurd (cc)
stop_down false false e = refl

pub lost_not_held : (v : Conn) (a i c h : ℕ) → Lost v → is v.holder a i ≡ true → num (is v.lost c h) ≡ 0
lost_not_held v a i c h p e = let one = is_some v.holder a i e in is_vacant v.lost c h (omega (arith, p.alone))

pub lost_not_going : (v : Conn) (c h : ℕ) → Lost v → stopped v ≡ false → num (is v.lost c h) ≡ 0
lost_not_going v c h p e = let z = stop_down v.retired v.down e in is_vacant v.lost c h (omega (arith, p.down))

up_down : (d n : Bool) → (not d && n) ≡ true → num d ≡ 0
up_down true n e = absurd (cc)
up_down false n e = refl

pub lost_not_down : (v : Conn) (c h : ℕ) → Lost v → may_break v ≡ true → num (is v.lost c h) ≡ 0
lost_not_down v c h p e = let z = up_down v.down (vacant v.now) e in is_vacant v.lost c h (omega (arith, p.down))

put_grows : (t o : Bool) (n : ℕ) → n ≤ num o → n ≤ 1 → n ≤ num (if t then true else o)
put_grows true o n l m = m
put_grows false o n l m = l

none_less : (b : Bool) (o : Option Op) → num (not (vacant (if b then None else o))) ≤ num (not (vacant o))
none_less true o = omega arith
none_less false o = omega arith

lost_forward : (st bind : Bool) (c j g : ℕ) (v : Conn) → stopped v ≡ st → Lost v → Lost (forward_row st bind c j g v)
lost_forward true true c j g v s p = record {
  down = p.down;
  alone = let l = none_less (is v.holder c g) v.holder in omega (arith, p.alone);
  freed = λ a h. put_grows ((a == c) && (h == g)) (v.freed a h) (num (is v.lost a h)) (p.freed a h) (num_le (is v.lost a h));
}
lost_forward true false c j g v s p = record { down = p.down; alone = let l = none_less (is v.holder c g) v.holder in omega (arith, p.alone); freed = p.freed }
lost_forward false bind c j g v s p = record { down = p.down; alone = let z = stop_down v.retired v.down s in omega (arith, p.down, num_le (not (vacant (if bind then Some (record { client = c; k = g }) else v.holder)))); freed = p.freed }

lost_order : (bind : Bool) (c : ℕ) (q : List ToConn) (v : Conn) → Lost v → Lost (take_order bind c q v)
lost_order bind c [] v p = p
lost_order bind c (Forward j g ∷ q) v p = lost_forward (stopped v) bind c j g v refl p
lost_order true c (Drop j ∷ q) v p = record { down = p.down; alone = p.alone; freed = p.freed }
lost_order false c (Drop j ∷ q) v p = record { down = p.down; alone = p.alone; freed = p.freed }
lost_order bind c (Leave j ∷ q) v p = record { down = p.down; alone = p.alone; freed = p.freed }
lost_order bind c (Signal b ∷ q) v p = record { down = p.down; alone = p.alone; freed = p.freed }

free_grows : (o : Option Op) (f : ℕ → ℕ → Bool) (c h n : ℕ) → n ≤ num (f c h) → n ≤ 1 → n ≤ num (free o f c h)
free_grows None f c h n l m = l
free_grows (Some o) f c h n l m = put_grows ((c == o.client) && (h == o.k)) (f c h) n l m

lost_finish : (y bind stay : Bool) (a j : ℕ) (v : Conn) → Lost v → Lost (finish_row y bind stay a j v)
lost_finish false bind stay a j v p = p
lost_finish true false stay a j v p = record { down = p.down; alone = p.alone; freed = p.freed }
lost_finish true true true a j v p = record { down = p.down; alone = p.alone; freed = p.freed }
lost_finish true true false a j v p = record { down = p.down; alone = omega (arith, p.alone); freed = λ c h. free_grows v.holder v.freed c h (num (is v.lost c h)) (p.freed c h) (num_le (is v.lost c h)) }

free_self : (o : Option Op) (f : ℕ → ℕ → Bool) (c h : ℕ) → num (is o c h) ≤ num (free o f c h)
free_self None f c h = omega arith
free_self (Some o) f c h = here ((c == o.client) && (h == o.k))
  where
    here : (t : Bool) → num t ≤ num (if t then true else f c h)
    here true = omega arith
    here false = omega arith

lost_break : (y bind : Bool) (v : Conn) → Lost v → Lost (break_row y bind v)
lost_break false bind v p = p
lost_break true false v p = record { down = num_le (not (vacant v.lost)); alone = p.alone; freed = p.freed }
lost_break true true v p = record { down = num_le (not (vacant v.holder)); alone = omega (arith, num_le (not (vacant v.holder))); freed = λ c h. free_self v.holder v.freed c h }

lost_up : (y : Bool) (v : Conn) → Lost v → Lost (up_row y v)
lost_up true v p = record { down = p.down; alone = p.alone; freed = p.freed }
lost_up false v p = p

lost_retire : (y : Bool) (v : Conn) → Lost v → Lost (retire_row y v)
lost_retire true v p = record { down = p.down; alone = p.alone; freed = p.freed }
lost_retire false v p = p

if_lost : (b : Bool) (v w : Conn) → Lost v → Lost w → Lost (if b then v else w)
if_lost true v w p q = p
if_lost false v w p q = q

pub lost_move : (kinds : Kinds) (w : World) (m : Move) (u : ℕ) → Lost (w.conns u) → Lost ((move kinds w m).conns u)
lost_move kinds w (Asks a) u p = p
lost_move kinds w (Refuses a) u p = p
lost_move kinds w (Binds a) u p = p
lost_move kinds w (Ends a j) u p = p
lost_move kinds w (Goes a) u p = p
lost_move kinds w (Leaves a) u p = p
lost_move kinds w (Signals a j v) u p = p
lost_move kinds w (TakesChoice a) u p = p
lost_move kinds w (TakesAnswer a v) u p = p
lost_move kinds w (TakesOrder v a) u p = if_lost (u == v) _ (w.conns u) (lost_order (kinds.bind_conn u) a (w.to_conn a u) (w.conns u) p) p
lost_move kinds w (Answers v a j) u p = p
lost_move kinds w (Finishes v a j failed stay) u p = if_lost (u == v) _ (w.conns u) (lost_finish ((w.conns u).rows a j) (kinds.bind_conn u) stay a j (w.conns u) p) p
lost_move kinds w (ComesUp v) u p = if_lost (u == v) _ (w.conns u) (lost_up (may_come_up (w.conns u)) (w.conns u) p) p
lost_move kinds w (Retires v) u p = if_lost (u == v) _ (w.conns u) (lost_retire (not (stopped (w.conns u))) (w.conns u) p) p
lost_move kinds w (Breaks v) u p = if_lost (u == v) _ (w.conns u) (lost_break (may_break (w.conns u)) (kinds.bind_conn u) (w.conns u) p) p
lost_move kinds w (Decides a ans) u p = p
lost_move kinds w (Hears v) u p = p

pub lost_empty : (u : ℕ) → Lost (empty.conns u)
lost_empty u = record { down = omega arith; alone = omega arith; freed = λ c h. omega arith }
