-- The same for the moves that take an answer or an order, and for those of a connection.
use Rattle.std.proofs.Common.{◌≡◌, ℕ, ◌+◌, ◌≤◌, Bool, true, false, ◌==◌, ◌&&◌, if◌then◌else◌, List, [], ◌∷◌, ◌++◌, arith, refl, ap, ◌∙◌, sym, add-zero}
use Rattle.move_laws.specs.World.{Client, Conn, ToConn, Forward, Drop, Leave, Signal, ToClient, Reply, Failed, at, tail}
use Rattle.move_laws.specs.Clients.{take_answer}
use Rattle.move_laws.specs.Conns.{take_order, order_answer, forward_row, finish_row, finish_letter, up_row, retire_row, break_row, stopped}
use Rattle.move_laws.specs.Counts.{num, forwards, drops, lasts, mores, LastsLast}
use Rattle.move_laws.specs.Agree.{Routed, RoutedOf}
use Rattle.move_laws.proofs.Appends.{num_le, same_number, lasts_append, mores_append}

-- an answer is taken from this connection, or from another
closed_here : (g f t n a l m d dr : ℕ) (ce lv b : Bool) → a ≤ 1 → (num b ≡ 1 → m ≡ 0) → Routed g f t n a (num b + l) (num ce) m (num lv) d dr
    → Routed g f t n a l (num (if b && true then true else ce)) m (num (if b then false else lv)) d dr
closed_here g f t n a l m d dr true lv true le z h = absurd (omega arith)
closed_here g f t n a l m d dr false lv true le z h = let none = z refl in omega (arith, num_le lv)
closed_here g f t n a l m d dr ce lv false le z h = grind (arith, h)

closed_elsewhere : (g f t n a l m d dr : ℕ) (ce lv b : Bool) → Routed g f t n a l (num ce) m (num lv) d dr
    → Routed g f t n a l (num (if b && false then true else ce)) m (num (if b then false else lv)) d dr
closed_elsewhere g f t n a l m d dr ce lv true h = grind (arith, h, num_le lv)
closed_elsewhere g f t n a l m d dr ce lv false h = h

routed_answer_here : (bind : ℕ → Bool) (c k u w : ℕ) (ls : List ToClient) (x : Client) (v : Conn) (q : List ToConn) → (u == w) ≡ true → LastsLast k ls → RoutedOf c k u x v q ls
    → RoutedOf c k u (take_answer bind w ls x) v q (tail ls)
routed_answer_here bind c k u w [] x v q e o h = h
routed_answer_here bind c k u w (Reply j true stay ∷ ls) x v q e o h = rw e (closed_here _ _ _ _ _ (lasts k ls) _ _ _ (x.closed k u) (x.live k) (k == j) (num_le (v.answered c k)) o.0 h)
routed_answer_here bind c k u w (Reply j false stay ∷ ls) x v q e o h = grind (arith, h)
routed_answer_here bind c k u w (Failed j ∷ ls) x v q e o h = rw e (closed_here _ _ _ _ _ (lasts k ls) _ _ _ (x.closed k u) (x.live k) (k == j) (num_le (v.answered c k)) o.0 h)

routed_answer_elsewhere : (bind : ℕ → Bool) (c k u w : ℕ) (ls r : List ToClient) (x : Client) (v : Conn) (q : List ToConn) → (u == w) ≡ false → RoutedOf c k u x v q r
    → RoutedOf c k u (take_answer bind w ls x) v q r
routed_answer_elsewhere bind c k u w [] r x v q e h = h
routed_answer_elsewhere bind c k u w (Reply j true stay ∷ ls) r x v q e h = rw e (closed_elsewhere _ _ _ _ _ (lasts k r) _ _ _ (x.closed k u) (x.live k) (k == j) h)
routed_answer_elsewhere bind c k u w (Reply j false stay ∷ ls) r x v q e h = h
routed_answer_elsewhere bind c k u w (Failed j ∷ ls) r x v q e h = rw e (closed_elsewhere _ _ _ _ _ (lasts k r) _ _ _ (x.closed k u) (x.live k) (k == j) h)

pub routed_answer : (b bu : Bool) (bind : ℕ → Bool) (c k u w : ℕ) (ls r : List ToClient) (x : Client) (v : Conn) (q : List ToConn) → (u == w) ≡ bu → (bu ≡ true → ls ≡ r) → LastsLast k r → RoutedOf c k u x v q r
    → RoutedOf c k u (if b then take_answer bind w ls x else x) v q (if b && bu then tail r else r)
routed_answer false bu bind c k u w ls r x v q e s o h = h
routed_answer true true bind c k u w ls r x v q e s o h = rw (s refl) (routed_answer_here bind c k u w r x v q e o h)
routed_answer true false bind c k u w ls r x v q e s o h = routed_answer_elsewhere bind c k u w ls r x v q e h

-- a Forward is taken
sent_now : (g f l ce m lv d dr : ℕ) (t n a b : Bool) → g ≤ 1 → Routed g (num b + f) (num t) (num n) (num a) l ce m lv d dr → Routed g f (num (if b then true else t)) (num (if b then true else n)) (num a) l ce m lv d dr
sent_now g f l ce m lv d dr true n a true le h = absurd (omega arith)
sent_now g f l ce m lv d dr false true a true le h = absurd (omega arith)
sent_now g f l ce m lv d dr false false a true le h = grind (arith, h)
sent_now g f l ce m lv d dr t n a false le h = grind (arith, h)

missed_now : (g f l ce m lv d dr n : ℕ) (t a b : Bool) → g ≤ 1 → Routed g (num b + f) (num t) n (num a) l ce m lv d dr → Routed g f (num (if b then true else t)) n (num (if b then true else a)) (l + num b) ce m lv d dr
missed_now g f l ce m lv d dr n true a true le h = absurd (omega arith)
missed_now g f l ce m lv d dr n false true true le h = absurd (omega arith)
missed_now g f l ce m lv d dr n false false true le h = omega arith
missed_now g f l ce m lv d dr n t a false le h = grind (arith, h)

-- a Drop is taken
dropped_now : (g f t l ce m lv d a : ℕ) (n dr b : Bool) → g ≤ 1 → Routed g f t (num n) a l ce m lv (num b + d) (num dr) → Routed g f t (num (if b then false else n)) a l ce m lv d (num (if b then true else dr))
dropped_now g f t l ce m lv d a n true true le h = absurd (omega arith)
dropped_now g f t l ce m lv d a n false true le h = omega (arith, num_le n)
dropped_now g f t l ce m lv d a n dr false le h = grind (arith, h)

dropped_there : (g f t l ce m lv d a n : ℕ) (dr b : Bool) → g ≤ 1 → Routed g f t n a l ce m lv (num b + d) (num dr) → Routed g f t n a l ce m lv d (num (if b then true else dr))
dropped_there g f t l ce m lv d a n true true le h = absurd (omega arith)
dropped_there g f t l ce m lv d a n false true le h = omega arith
dropped_there g f t l ce m lv d a n dr false le h = grind (arith, h)

routed_forward : (st bind : Bool) (c a k j g u : ℕ) (x : Client) (v : Conn) (q : List ToConn) (r : List ToClient) → (c == a) ≡ true → RoutedOf c k u x v (Forward j g ∷ q) r
    → RoutedOf c k u x (forward_row st bind a j g v) q (r ++ (if st then Failed j ∷ [] else []))
routed_forward true bind c a k j g u x v q r e h = rw e (simp (lasts_append, mores_append, add-zero) (missed_now _ (forwards k q) (lasts k r) _ _ _ _ _ _ (v.taken c k) (v.answered c k) (k == j) (num_le (at (x.given k) u)) h))
routed_forward false bind c a k j g u x v q r e h = rw e (simp (lasts_append, mores_append, add-zero) (sent_now _ (forwards k q) (lasts k r) _ _ _ _ _ (v.taken c k) (v.rows c k) (v.answered c k) (k == j) (num_le (at (x.given k) u)) h))

routed_order_here : (bind : Bool) (c a k u : ℕ) (q : List ToConn) (x : Client) (v : Conn) (r : List ToClient) → (c == a) ≡ true → RoutedOf c k u x v q r
    → RoutedOf c k u x (take_order bind a q v) (tail q) (r ++ order_answer q v)
routed_order_here bind c a k u [] x v r e h = simp (lasts_append, mores_append, add-zero) h
routed_order_here bind c a k u (Forward j g ∷ q) x v r e h = routed_forward (stopped v) bind c a k j g u x v q r e h
routed_order_here true c a k u (Drop j ∷ q) x v r e h = rw e (simp (lasts_append, mores_append, add-zero) (dropped_there _ (forwards k q) _ _ _ _ _ (drops k q) _ _ (v.dropped c k) (k == j) (num_le (at (x.given k) u)) h))
routed_order_here false c a k u (Drop j ∷ q) x v r e h = rw e (simp (lasts_append, mores_append, add-zero) (dropped_now _ (forwards k q) _ _ _ _ _ (drops k q) _ (v.rows c k) (v.dropped c k) (k == j) (num_le (at (x.given k) u)) h))
routed_order_here bind c a k u (Leave j ∷ q) x v r e h = simp (lasts_append, mores_append, add-zero) h
routed_order_here bind c a k u (Signal b ∷ q) x v r e h = simp (lasts_append, mores_append, add-zero) h

other_forward : (st bind : Bool) (c a k j g u : ℕ) (x : Client) (v : Conn) (q : List ToConn) (r : List ToClient) → (c == a) ≡ false → RoutedOf c k u x v q r → RoutedOf c k u x (forward_row st bind a j g v) q r
other_forward true bind c a k j g u x v q r e h = rw e h
other_forward false bind c a k j g u x v q r e h = rw e h

routed_order_other : (bind : Bool) (c a k u : ℕ) (ls q : List ToConn) (x : Client) (v : Conn) (r : List ToClient) → (c == a) ≡ false → RoutedOf c k u x v q r → RoutedOf c k u x (take_order bind a ls v) q r
routed_order_other bind c a k u [] q x v r e h = h
routed_order_other bind c a k u (Forward j g ∷ ls) q x v r e h = other_forward (stopped v) bind c a k j g u x v q r e h
routed_order_other true c a k u (Drop j ∷ ls) q x v r e h = rw e h
routed_order_other false c a k u (Drop j ∷ ls) q x v r e h = rw e h
routed_order_other bind c a k u (Leave j ∷ ls) q x v r e h = h
routed_order_other bind c a k u (Signal b ∷ ls) q x v r e h = h

pub routed_order : (b bu bind : Bool) (c a k u : ℕ) (ls q : List ToConn) (x : Client) (v : Conn) (r : List ToClient) → (c == a) ≡ b → (b ≡ true → ls ≡ q) → RoutedOf c k u x v q r
    → RoutedOf c k u x (if bu then take_order bind a ls v else v) (if b && bu then tail q else q) (if b && bu then r ++ order_answer q v else r)
routed_order false false bind c a k u ls q x v r e s h = h
routed_order true false bind c a k u ls q x v r e s h = h
routed_order false true bind c a k u ls q x v r e s h = routed_order_other bind c a k u ls q x v r e h
routed_order true true bind c a k u ls q x v r e s h = rw (s refl) (routed_order_here bind c a k u q x v r e h)

-- an answer that isn't the last
answered_more : (g f t l ce m lv d dr a : ℕ) (n y b : Bool) → (b ≡ true → n ≡ y) → Routed g f t (num n) a l ce m lv d dr → t ≤ 1 → g ≤ 1 → Routed g f t (num n) a l ce (m + (if y then num b else 0)) lv d dr
answered_more g f t l ce m lv d dr a n true true e h le lg = let same = ap num (e refl) in omega arith
answered_more g f t l ce m lv d dr a n false b e h le lg = grind (arith, h)
answered_more g f t l ce m lv d dr a n true false e h le lg = grind (arith, h)

mores_one : (y : Bool) (k j : ℕ) → mores k (if y then Reply j false false ∷ [] else []) ≡ (if y then num (k == j) else 0)
mores_one true k j = omega arith
mores_one false k j = refl

lasts_one : (y : Bool) (k j : ℕ) → lasts k (if y then Reply j false false ∷ [] else []) ≡ 0
lasts_one true k j = refl
lasts_one false k j = refl

pub routed_more : (b : Bool) (c k u j : ℕ) (x : Client) (v : Conn) (q : List ToConn) (r : List ToClient) → RoutedOf c k u x v q r
    → RoutedOf c k u x v q (if b then r ++ (if v.rows c j then Reply j false false ∷ [] else []) else r)
routed_more false c k u j x v q r h = h
routed_more true c k u j x v q r h =
    simp (lasts_append, mores_append, mores_one, lasts_one, add-zero) (answered_more _ _ _ (lasts k r) _ (mores k r) _ _ _ _ (v.rows c k) (v.rows c j) (k == j) (λ e. ap (v.rows c) (same_number k j e)) h (num_le (v.taken c k)) (num_le (at (x.given k) u)))

-- it is done with an operation
finished_now : (g f t l ce m lv d dr : ℕ) (n a b : Bool) → t ≤ 1 → (b ≡ true → n ≡ true) → Routed g f t (num n) (num a) l ce m lv d dr → Routed g f t (num (if b then false else n)) (num (if b then true else a)) (l + num b) ce m lv d dr
finished_now g f t l ce m lv d dr true true true le e h = absurd (omega arith)
finished_now g f t l ce m lv d dr true false true le e h = omega arith
finished_now g f t l ce m lv d dr false a true le e h = absurd (let bad : false ≡ true = e refl in cc)
finished_now g f t l ce m lv d dr n a false le e h = grind (arith, h)

finished_letter : (failed stay : Bool) (k j : ℕ) (r : List ToClient) → lasts k (r ++ finish_letter true failed j stay) ≡ lasts k r + num (k == j)
finished_letter true stay k j r = simp (lasts_append, add-zero) refl
finished_letter false stay k j r = simp (lasts_append, add-zero) refl

no_more_letter : (failed stay : Bool) (k j : ℕ) (r : List ToClient) → mores k (r ++ finish_letter true failed j stay) ≡ mores k r
no_more_letter true stay k j r = simp (mores_append, add-zero) refl
no_more_letter false stay k j r = simp (mores_append, add-zero) refl

routed_done : (bind stay failed so : Bool) (c a k j u : ℕ) (x : Client) (v : Conn) (q : List ToConn) (r : List ToClient) → (c == a) ≡ true → v.rows c j ≡ true → RoutedOf c k u x v q r
    → RoutedOf c k u x (finish_row true bind stay a j v) q (r ++ finish_letter true failed j so)
routed_done false stay failed so c a k j u x v q r e y h = rw (e, finished_letter failed so k j r, no_more_letter failed so k j r) (finished_now _ _ _ (lasts k r) _ _ _ _ _ (v.rows c k) (v.answered c k) (k == j) (num_le (v.taken c k)) (λ s. ap (v.rows c) (same_number k j s) ∙ y) h)
routed_done true true failed so c a k j u x v q r e y h = rw (e, finished_letter failed so k j r, no_more_letter failed so k j r) (finished_now _ _ _ (lasts k r) _ _ _ _ _ (v.rows c k) (v.answered c k) (k == j) (num_le (v.taken c k)) (λ s. ap (v.rows c) (same_number k j s) ∙ y) h)
routed_done true false failed so c a k j u x v q r e y h = rw (e, finished_letter failed so k j r, no_more_letter failed so k j r) (finished_now _ _ _ (lasts k r) _ _ _ _ _ (v.rows c k) (v.answered c k) (k == j) (num_le (v.taken c k)) (λ s. ap (v.rows c) (same_number k j s) ∙ y) h)

other_done : (live bind stay : Bool) (c a k j u : ℕ) (x : Client) (v : Conn) (q : List ToConn) (r : List ToClient) → (c == a) ≡ false → RoutedOf c k u x v q r → RoutedOf c k u x (finish_row live bind stay a j v) q r
other_done false bind stay c a k j u x v q r e h = h
other_done true false stay c a k j u x v q r e h = rw e h
other_done true true true c a k j u x v q r e h = rw e h
other_done true true false c a k j u x v q r e h = rw e h

pub routed_finishes : (b bu y bind stay failed so : Bool) (c a k j u : ℕ) (x : Client) (v : Conn) (q : List ToConn) (r : List ToClient) → (c == a) ≡ b → v.rows a j ≡ y → (b ≡ true → v.rows a j ≡ v.rows c j) → RoutedOf c k u x v q r
    → RoutedOf c k u x (if bu then finish_row y bind stay a j v else v) q (if b && bu then r ++ finish_letter (v.rows c j) failed j so else r)
routed_finishes false false y bind stay failed so c a k j u x v q r e p s h = h
routed_finishes true false y bind stay failed so c a k j u x v q r e p s h = h
routed_finishes false true y bind stay failed so c a k j u x v q r e p s h = other_done y bind stay c a k j u x v q r e h
routed_finishes true true true bind stay failed so c a k j u x v q r e p s h = let live : v.rows c j ≡ true = sym (s refl) ∙ p in rw live (routed_done bind stay failed so c a k j u x v q r e live h)
routed_finishes true true false bind stay failed so c a k j u x v q r e p s h = let idle : v.rows c j ≡ false = sym (s refl) ∙ p in rw idle (simp (lasts_append, mores_append, add-zero) h)

pub routed_up : (bu g : Bool) (c k u : ℕ) (x : Client) (v : Conn) (q : List ToConn) (r : List ToClient) → RoutedOf c k u x v q r → RoutedOf c k u x (if bu then up_row g v else v) q r
routed_up false g c k u x v q r h = h
routed_up true false c k u x v q r h = h
routed_up true true c k u x v q r h = h

pub routed_retires : (bu g : Bool) (c k u : ℕ) (x : Client) (v : Conn) (q : List ToConn) (r : List ToClient) → RoutedOf c k u x v q r → RoutedOf c k u x (if bu then retire_row g v else v) q r
routed_retires false g c k u x v q r h = h
routed_retires true false c k u x v q r h = h
routed_retires true true c k u x v q r h = h

pub routed_breaks : (bu g bind : Bool) (c k u : ℕ) (x : Client) (v : Conn) (q : List ToConn) (r : List ToClient) → RoutedOf c k u x v q r → RoutedOf c k u x (if bu then break_row g bind v else v) q r
routed_breaks false g bind c k u x v q r h = h
routed_breaks true false bind c k u x v q r h = h
routed_breaks true true false c k u x v q r h = h
routed_breaks true true true c k u x v q r h = h
