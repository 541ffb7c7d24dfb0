-- Each move keeps that the live Bind of a bind connection stands there as the one, under its holder.
use Rattle.std.proofs.Common.{◌≡◌, ℕ, Bool, true, false, ◌==◌, ◌&&◌, not, if◌then◌else◌, List, [], ◌∷◌, Option, Some, None, arith, refl, ap, sym}
use Rattle.move_laws.specs.World.{Op, Kinds, World, Conn, ToConn, Forward, Drop, Leave, Signal, Move, Asks, Refuses, Binds, Ends, Goes, Leaves, Signals, TakesChoice, TakesAnswer, TakesOrder, Answers, Finishes, ComesUp, Retires, Breaks, Decides, Hears, is, vacant}
use Rattle.move_laws.specs.Conns.{take_order, forward_row, finish_row, up_row, retire_row, break_row, stopped, may_come_up, may_break}
use Rattle.move_laws.specs.Moves.{move}
use Rattle.move_laws.specs.Counts.{num}
use Rattle.move_laws.specs.AgreeBinds.{Stands, StandsOf}
use Rattle.move_laws.specs.Fit.{Free}
use Rattle.move_laws.proofs.Appends.{same_self}
use Rattle.move_laws.proofs.BindCounts.{is_one}

-- where the first order is a Forward, the connection is free for it
abbrev pub FreeFirst : ℕ → Conn → List ToConn → Type 0
FreeFirst c v [] = Unit {0}
FreeFirst c v (Forward j h ∷ ls) = Free v c h
FreeFirst c v (Drop j ∷ ls) = Unit {0}
FreeFirst c v (Leave h ∷ ls) = Unit {0}
FreeFirst c v (Signal b ∷ ls) = Unit {0}

none_there : (n h g : ℕ) (r : Bool) → r ≡ false → Stands (num r) n h → Stands (num r) n g
none_there n h g r e s = let none = ap num e in grind (arith, s)

now_there : (a b r : Bool) → r ≡ false → Stands (num (if a && b then true else r)) (num (a && b)) (num a)
now_there true true r e = record { one = refl; under = omega arith }
now_there true false r e = let none = ap num e in record { one = none; under = omega arith }
now_there false b r e = let none = ap num e in record { one = none; under = omega arith }

stands_forward : (st : Bool) (a c k j h : ℕ) (v : Conn) → Free v a h → StandsOf c k v → StandsOf c k (forward_row st true a j h v)
stands_forward true a c k j h v f s = none_there _ _ _ (v.rows c k) (f.idle c k) s
stands_forward false a c k j h v f s = now_there (c == a) (k == j) (v.rows c k) (f.idle c k)

stands_order : (a c k : ℕ) (ls : List ToConn) (v : Conn) → FreeFirst a v ls → StandsOf c k v → StandsOf c k (take_order true a ls v)
stands_order a c k [] v f s = s
stands_order a c k (Forward j h ∷ ls) v f s = stands_forward (stopped v) a c k j h v f s
stands_order a c k (Drop j ∷ ls) v f s = s
stands_order a c k (Leave h ∷ ls) v f s = s
stands_order a c k (Signal b ∷ ls) v f s = s

-- the one that is done was the only one
only : (r b : Bool) (m : ℕ) → (r ≡ true → b ≡ true) → m ≡ 0 → num (if b then false else r) ≡ m
only r true m e z = sym z
only true false m e z = absurd (let bad : false ≡ true = e refl in cc)
only false false m e z = sym z

was_now : (r n : Bool) → num r ≡ num n → r ≡ true → n ≡ true
was_now true true s e = refl
was_now true false s e = absurd (omega arith)
was_now false n s e = absurd (cc)

the_one : (a c k j : ℕ) (v : Conn) → v.rows a j ≡ true → StandsOf a j v → StandsOf c k v → v.rows c k ≡ true → ((c == a) && (k == j)) ≡ true
the_one a c k j v y f s e =
    let p = is_one v.now a c j k (was_now (v.rows a j) (is v.now a j) f.one y) (was_now (v.rows c k) (is v.now c k) s.one e) in
    rw (p.0, p.1, same_self c, same_self k) refl

stands_done : (y stay : Bool) (a c k j : ℕ) (v : Conn) → v.rows a j ≡ y → StandsOf a j v → StandsOf c k v → StandsOf c k (finish_row y true stay a j v)
stands_done false stay a c k j v y f s = s
stands_done true true a c k j v y f s = record { one = only (v.rows c k) ((c == a) && (k == j)) 0 (the_one a c k j v y f s) refl; under = omega arith }
stands_done true false a c k j v y f s = record { one = only (v.rows c k) ((c == a) && (k == j)) 0 (the_one a c k j v y f s) refl; under = omega arith }

vacant_not : (o : Option Op) (c k : ℕ) → vacant o ≡ true → num (is o c k) ≡ 0
vacant_not None c k e = refl
vacant_not (Some o) c k e = absurd (cc)

and_second : (a b : Bool) → (a && b) ≡ true → b ≡ true
and_second true b e = e
and_second false b e = absurd (cc)

stands_breaks : (y : Bool) (c k : ℕ) (v : Conn) → may_break v ≡ y → StandsOf c k v → StandsOf c k (break_row y true v)
stands_breaks false c k v e s = s
stands_breaks true c k v e s = record { one = s.one; under = let z = vacant_not v.now c k (and_second (not v.down) (vacant v.now) e) in omega arith }

stands_up : (y : Bool) (c k : ℕ) (v : Conn) → StandsOf c k v → StandsOf c k (up_row y v)
stands_up false c k v s = s
stands_up true c k v s = s

stands_retires : (y : Bool) (c k : ℕ) (v : Conn) → StandsOf c k v → StandsOf c k (retire_row y v)
stands_retires false c k v s = s
stands_retires true c k v s = s

if_conn : (b : Bool) (c k : ℕ) (v y : Conn) → StandsOf c k v → StandsOf c k y → StandsOf c k (if b then y else v)
if_conn true c k v y p q = q
if_conn false c k v y p q = p

-- each move, for a bind connection
pub stands_move : (kinds : Kinds) (w : World) (m : Move) (c k u : ℕ) → kinds.bind_conn u ≡ true → ((a : ℕ) → FreeFirst a (w.conns u) (w.to_conn a u)) → ((a i : ℕ) → StandsOf a i (w.conns u)) → StandsOf c k ((move kinds w m).conns u)
stands_move kinds w (Asks a) c k u t f s = s c k
stands_move kinds w (Refuses a) c k u t f s = s c k
stands_move kinds w (Binds a) c k u t f s = s c k
stands_move kinds w (Ends a j) c k u t f s = s c k
stands_move kinds w (Goes a) c k u t f s = s c k
stands_move kinds w (Leaves a) c k u t f s = s c k
stands_move kinds w (Signals a j v) c k u t f s = s c k
stands_move kinds w (TakesChoice a) c k u t f s = s c k
stands_move kinds w (TakesAnswer a v) c k u t f s = s c k
stands_move kinds w (TakesOrder v a) c k u t f s = rw t (if_conn (u == v) c k (w.conns u) _ (s c k) (stands_order a c k (w.to_conn a u) (w.conns u) (f a) (s c k)))
stands_move kinds w (Answers v a j) c k u t f s = s c k
stands_move kinds w (Finishes v a j failed stay) c k u t f s = rw t (if_conn (u == v) c k (w.conns u) _ (s c k) (stands_done ((w.conns u).rows a j) stay a c k j (w.conns u) refl (s a j) (s c k)))
stands_move kinds w (ComesUp v) c k u t f s = if_conn (u == v) c k (w.conns u) _ (s c k) (stands_up (may_come_up (w.conns u)) c k (w.conns u) (s c k))
stands_move kinds w (Retires v) c k u t f s = if_conn (u == v) c k (w.conns u) _ (s c k) (stands_retires (not (stopped (w.conns u))) c k (w.conns u) (s c k))
stands_move kinds w (Breaks v) c k u t f s = rw t (if_conn (u == v) c k (w.conns u) _ (s c k) (stands_breaks (may_break (w.conns u)) c k (w.conns u) refl (s c k)))
stands_move kinds w (Decides a ans) c k u t f s = s c k
stands_move kinds w (Hears v) c k u t f s = s c k
