-- Each move keeps what is said of one operation at one connection: how it changes the numbers.
use Rattle.std.proofs.Common.{◌≡◌, ℕ, ◌+◌, ◌≤◌, Bool, true, false, ◌==◌, ◌&&◌, if◌then◌else◌, List, [], ◌∷◌, ◌++◌, Option, Some, None, arith, refl, ap, ◌∙◌, sym, add-zero}
use Rattle.std.proofs.lemmas.Bool.Decides.{nat_tests}
use Rattle.move_laws.specs.World.{Client, Conn, ToChooser, Choice, ToConn, Forward, Drop, Leave, ToClient, at, conn_of}
use Rattle.move_laws.specs.Clients.{refuse_row, ask_row, bind_row, bind_letter, end_row, drop_letter, go_row, leave_row, leave_letter, choice_row, take_choice, forward_letter}
use Rattle.move_laws.specs.Counts.{num, forwards, drops, lasts, mores}
use Rattle.move_laws.specs.Agree.{Routed, RoutedOf}
use Rattle.move_laws.proofs.Appends.{num_le, same_number, forwards_append, drops_append}

-- a new operation has nothing yet
new_live : (g f t n a l ce m d dr : ℕ) (lv b : Bool) → (b ≡ true → g ≡ 0) → Routed g f t n a l ce m (num lv) d dr → Routed g f t n a l ce m (num (if b then true else lv)) d dr
new_live g f t n a l ce m d dr lv true e h = let z = e refl in omega arith
new_live g f t n a l ce m d dr lv false e h = h

pub routed_asks : (b g bind : Bool) (c k u : ℕ) (x : Client) (v : Conn) (q : List ToConn) (r : List ToClient) → (x.next ≤ k → num (at (x.given k) u) ≡ 0) → RoutedOf c k u x v q r → RoutedOf c k u (if b then ask_row g bind x else x) v q r
routed_asks false g bind c k u x v q r z h = h
routed_asks true false bind c k u x v q r z h = h
routed_asks true true bind c k u x v q r z h = new_live _ _ _ _ _ _ _ _ _ _ (x.live k) (k == x.next) (λ e. z (grind (arith, nat_tests))) h

given_now : (o v : Option ℕ) (u f t n a l ce m d dr : ℕ) (lv b : Bool) → (b ≡ true → num (at o u) ≡ 0) → Routed (num (at o u)) f t n a l ce m (num lv) d dr
    → Routed (num (at (if b then v else o) u)) (f + (if b then num (at v u) else 0)) t n a l ce m (num (if b then true else lv)) d dr
given_now o v u f t n a l ce m d dr lv true e h = let z = e refl in omega arith
given_now o v u f t n a l ce m d dr lv false e h = grind (arith, h)

one_if : (s : Bool) → num s + 0 ≡ (if s then 1 else 0)
one_if true = omega arith
one_if false = omega arith

zero_if : (s : Bool) → num false ≡ (if s then 0 else 0)
zero_if true = refl
zero_if false = refl

pub forwards_one : (b : Bool) (k j h : ℕ) → forwards k (if b then Forward j h ∷ [] else []) ≡ (if k == j then num b else 0)
forwards_one true k j h = one_if (k == j)
forwards_one false k j h = zero_if (k == j)

pub drops_forward : (b : Bool) (k j h : ℕ) → drops k (if b then Forward j h ∷ [] else []) ≡ 0
drops_forward true k j h = refl
drops_forward false k j h = refl

pub drops_one : (b : Bool) (k j : ℕ) → drops k (if b then Drop j ∷ [] else []) ≡ (if k == j then num b else 0)
drops_one true k j = one_if (k == j)
drops_one false k j = zero_if (k == j)

pub forwards_drop : (b : Bool) (k j : ℕ) → forwards k (if b then Drop j ∷ [] else []) ≡ 0
forwards_drop true k j = refl
forwards_drop false k j = refl

pub forwards_leave : (b : Bool) (k j : ℕ) → forwards k (if b then Leave j ∷ [] else []) ≡ 0
forwards_leave true k j = refl
forwards_leave false k j = refl

pub drops_leave : (b : Bool) (k j : ℕ) → drops k (if b then Leave j ∷ [] else []) ≡ 0
drops_leave true k j = refl
drops_leave false k j = refl

pub routed_binds : (b g : Bool) (c k u : ℕ) (x : Client) (v : Conn) (q : List ToConn) (r : List ToClient) → (x.next ≤ k → num (at (x.given k) u) ≡ 0) → RoutedOf c k u x v q r
    → RoutedOf c k u (if b then bind_row g x else x) v (if b then q ++ bind_letter g x u else q) r
routed_binds false g c k u x v q r z h = h
routed_binds true false c k u x v q r z h = simp (forwards_append, drops_append, add-zero) h
routed_binds true true c k u x v q r z h =
    simp (forwards_append, drops_append, forwards_one, drops_forward, add-zero) (given_now (x.given k) (conn_of x.hold) u (forwards k q) _ _ _ _ _ _ (drops k q) _ (x.live k) (k == x.next) (λ e. z (grind (arith, nat_tests))) h)

ended_now : (f t n a l ce m d dr : ℕ) (gk gj lv b : Bool) → (b ≡ true → gj ≡ gk) → (b ≡ true → lv ≡ true) → Routed (num gk) f t n a l ce m (num lv) d dr
    → Routed (num gk) f t n a l ce m (num (if b then false else lv)) (d + (if b then num gj else 0)) dr
ended_now f t n a l ce m d dr gk gj true true p e h = let same = ap num (p refl) in omega (arith, num_le gk)
ended_now f t n a l ce m d dr gk gj false true p e h = absurd (let bad : false ≡ true = e refl in cc)
ended_now f t n a l ce m d dr gk gj lv false p e h = grind (arith, h)

pub routed_ends : (b g : Bool) (j c k u : ℕ) (x : Client) (v : Conn) (q : List ToConn) (r : List ToClient) → (g ≡ true → x.live j ≡ true) → RoutedOf c k u x v q r
    → RoutedOf c k u (if b then end_row g j x else x) v (if b then q ++ drop_letter g j x u else q) r
routed_ends false g j c k u x v q r z h = h
routed_ends true false j c k u x v q r z h = simp (forwards_append, drops_append, add-zero) h
routed_ends true true j c k u x v q r z h =
    simp (forwards_append, drops_append, forwards_drop, drops_one, add-zero) (ended_now (forwards k q) _ _ _ _ _ _ (drops k q) _ (at (x.given k) u) (at (x.given j) u) (x.live k) (k == j)
    (λ e. ap (λ (i : ℕ). at (x.given i) u) (sym (same_number k j e))) (λ e. ap x.live (same_number k j e) ∙ z refl) h)

less : (g f t n a l ce m d dr : ℕ) (lv b : Bool) → Routed g f t n a l ce m (num lv) d dr → Routed g f t n a l ce m (num (if b then false else lv)) d dr
less g f t n a l ce m d dr true true h = grind (arith, h)
less g f t n a l ce m d dr false true h = h
less g f t n a l ce m d dr lv false h = h

less_if : (c k u : ℕ) (x : Client) (v : Conn) (q : List ToConn) (r : List ToClient) (y : Bool) → RoutedOf c k u x v q r
    → Routed (num (at (x.given k) u)) (forwards k q) (num (v.taken c k)) (num (v.rows c k)) (num (v.answered c k)) (lasts k r) (num (x.closed k u)) (mores k r) (num ((if y then (λ (i : ℕ). if i == x.current then false else x.live i) else x.live) k)) (drops k q) (num (v.dropped c k))
less_if c k u x v q r true h = less _ _ _ _ _ _ _ _ _ _ (x.live k) (k == x.current) h
less_if c k u x v q r false h = h

pub routed_goes : (b : Bool) (c k u : ℕ) (x : Client) (v : Conn) (q : List ToConn) (r : List ToClient) → RoutedOf c k u x v q r → RoutedOf c k u (if b then go_row x else x) v q r
routed_goes false c k u x v q r h = h
routed_goes true c k u x v q r h = less_if c k u x v q r x.busy h

pub routed_leaves : (b g : Bool) (c k u : ℕ) (x : Client) (v : Conn) (q : List ToConn) (r : List ToClient) → RoutedOf c k u x v q r
    → RoutedOf c k u (if b then leave_row g x else x) v (if b then q ++ leave_letter g x u else q) r
routed_leaves false g c k u x v q r h = h
routed_leaves true false c k u x v q r h = simp (forwards_append, drops_append, add-zero) h
routed_leaves true true c k u x v q r h = simp (forwards_append, drops_append, forwards_leave, drops_leave, add-zero) h

given_choice : (o v : Option ℕ) (u f t n a l ce m d dr lv : ℕ) (b : Bool) → lv ≤ 1 → (b ≡ true → num (at o u) ≡ 0) → Routed (num (at o u)) f t n a l ce m lv d dr
    → Routed (num (at (if b then v else o) u)) (f + (if b then num (at v u) else 0)) t n a l ce m lv d dr
given_choice o v u f t n a l ce m d dr lv true le e h = let z = e refl in omega arith
given_choice o v u f t n a l ce m d dr lv false le e h = grind (arith, h)

routed_choice_row : (l bind : Bool) (j : ℕ) (a : Option ℕ) (c k u : ℕ) (x : Client) (v : Conn) (q : List ToConn) (r : List ToClient) → ((k == j) ≡ true → num (at (x.given k) u) ≡ 0) → RoutedOf c k u x v q r
    → RoutedOf c k u (choice_row l bind j a x) v (q ++ (if l && at a u then Forward j j ∷ [] else [])) r
routed_choice_row false bind j a c k u x v q r z h = simp (forwards_append, drops_append, add-zero) h
routed_choice_row true bind j None c k u x v q r z h = simp (forwards_append, drops_append, add-zero) (less _ _ _ _ _ _ _ _ _ _ (x.live k) (k == j) h)
routed_choice_row true bind j (Some w) c k u x v q r z h =
    simp (forwards_append, drops_append, forwards_one, drops_forward, add-zero) (given_choice (x.given k) (Some w) u (forwards k q) _ _ _ _ _ _ (drops k q) _ _ (k == j) (num_le (x.live k)) z h)

-- the operation of the first letter has no connection yet
abbrev pub Unsent : ℕ → ℕ → Client → List ToChooser → Type 0
Unsent k u x [] = Unit {0}
Unsent k u x (Choice j a ∷ ls) = (k == j) ≡ true → num (at (x.given k) u) ≡ 0

pub routed_choice : (b : Bool) (bind : ℕ → Bool) (c k u : ℕ) (ls : List ToChooser) (x : Client) (v : Conn) (q : List ToConn) (r : List ToClient) → Unsent k u x ls → RoutedOf c k u x v q r
    → RoutedOf c k u (if b then take_choice bind ls x else x) v (if b then q ++ forward_letter ls x u else q) r
routed_choice false bind c k u ls x v q r z h = h
routed_choice true bind c k u [] x v q r z h = simp (forwards_append, drops_append, add-zero) h
routed_choice true bind c k u (Choice j a ∷ ls) x v q r z h = routed_choice_row (x.live j) (bind j) j a c k u x v q r z h

pub routed_refuses : (b : Bool) (c k u : ℕ) (x : Client) (v : Conn) (q : List ToConn) (r : List ToClient) → RoutedOf c k u x v q r → RoutedOf c k u (if b then refuse_row x else x) v q r
routed_refuses false c k u x v q r h = h
routed_refuses true c k u x v q r h = h
