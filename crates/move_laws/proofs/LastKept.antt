-- Each move keeps that only the last Bind of a client is under way.
use Rattle.std.proofs.Common.{◌≡◌, ℕ, ◌≤◌, Bool, true, false, ◌==◌, ◌&&◌, ◌||◌, not, if◌then◌else◌, List, [], ◌∷◌, Option, Some, None, arith, refl, ap, ◌∙◌, sym}
use Rattle.std.proofs.lemmas.Bool.Decides.{nat_tests}
use Rattle.move_laws.specs.World.{Kinds, World, Client, ToChooser, Choice, ToClient, Reply, Failed, Move, Asks, Refuses, Binds, Ends, Goes, Leaves, Signals, TakesChoice, TakesAnswer, TakesOrder, Answers, Finishes, ComesUp, Retires, Breaks, Decides, Hears, at, conn_of, held}
use Rattle.move_laws.specs.Clients.{refuse_row, may_ask, ask_row, may_bind, bind_row, may_end, end_row, go_row, may_leave, leave_row, choice_row, take_choice, close_row, take_answer, may_signal}
use Rattle.move_laws.specs.Moves.{move, empty}
use Rattle.move_laws.specs.Counts.{num}
use Rattle.move_laws.specs.Agree.{AskingAt, RoutedAt}
use Rattle.move_laws.specs.AgreeBinds.{Last, LastOf, LastAt}
use Rattle.move_laws.specs.Fit.{FitAnswer}
use Rattle.move_laws.proofs.Appends.{num_le, num_true, same_number, same_self}
use Rattle.move_laws.proofs.RoutedKept.{Unsent}
use Rattle.move_laws.proofs.RoutedMoves.{unsent_of}
use Rattle.move_laws.proofs.Fits.{fit_answer}
use Rattle.move_laws.proofs.Signaled.{stays_signaled}

asked_bind : (g cl : ℕ) (lv y gone s : Bool) → Last g cl (num lv) (num (y && (false || false))) (num (y && false)) → Last g cl (num (if s then true else lv)) (num (s && (true || gone))) (num (s && true))
asked_bind g cl lv true gone true h = grind (arith, h)
asked_bind g cl lv false gone true h = grind (arith, h)
asked_bind g cl lv true gone false h = grind (arith, h)
asked_bind g cl lv false gone false h = grind (arith, h)

idle_last : (k u : ℕ) (x : Client) → x.busy ≡ false → x.gone ≡ false → LastOf k u x → Last (num (at (x.given k) u)) (num (x.closed k u)) (num (x.live k)) (num ((k == x.current) && (false || false))) (num ((k == x.current) && false))
idle_last k u x p q h = rw (p, q) at h

last_asks_on : (bind : Bool) (k u : ℕ) (x : Client) → x.busy ≡ false → x.gone ≡ false → (bind ≡ false → (k == x.next) ≡ false) → LastOf k u x → LastOf k u (ask_row true bind x)
last_asks_on true k u x p q z h = asked_bind _ _ (x.live k) (k == x.current) x.gone (k == x.next) (idle_last k u x p q h)
last_asks_on false k u x p q z h = rw (z refl) (rw q (idle_last k u x p q h))

pub may_ask_idle : (a b c : Bool) → (not a && not b && c) ≡ true → (b ≡ false) × (a ≡ false)
may_ask_idle true b c e = absurd (cc)
may_ask_idle false true c e = absurd (cc)
may_ask_idle false false c e = (refl, refl)

last_asks : (b g bind : Bool) (k u : ℕ) (x : Client) → may_ask bind x ≡ g → (bind ≡ false → (k == x.next) ≡ false) → LastOf k u x → LastOf k u (if b then ask_row g bind x else x)
last_asks false g bind k u x e z h = h
last_asks true false bind k u x e z h = h
last_asks true true bind k u x e z h = let i = may_ask_idle x.gone x.busy (not (bind && held x.hold)) e in last_asks_on bind k u x i.0 i.1 z h

bound_now : (o v : Option ℕ) (u cl : ℕ) (lv y gone s : Bool) → Last (num (at o u)) cl (num lv) (num (y && (false || false))) (num (y && false)) → Last (num (at (if s then v else o) u)) cl (num (if s then true else lv)) (num (s && (true || gone))) (num (s && true))
bound_now o v u cl lv true gone true h = grind (arith, h, num_le (at v u))
bound_now o v u cl lv false gone true h = grind (arith, h, num_le (at v u))
bound_now o v u cl lv true gone false h = grind (arith, h)
bound_now o v u cl lv false gone false h = grind (arith, h)

last_binds : (b g bind : Bool) (k u : ℕ) (x : Client) → may_bind bind x ≡ g → LastOf k u x → LastOf k u (if b then bind_row g x else x)
last_binds false g bind k u x e h = h
last_binds true false bind k u x e h = h
last_binds true true bind k u x e h = let i = may_ask_idle x.gone x.busy (bind && held x.hold) e in bound_now (x.given k) (conn_of x.hold) u _ (x.live k) (k == x.current) x.gone (k == x.next) (idle_last k u x i.0 i.1 h)

less : (g cl n m : ℕ) (lv b : Bool) → Last g cl (num lv) n m → Last g cl (num (if b then false else lv)) n m
less g cl n m lv true h = grind (arith, h)
less g cl n m lv false h = h

last_ends : (b g : Bool) (j k u : ℕ) (x : Client) → LastOf k u x → LastOf k u (if b then end_row g j x else x)
last_ends false g j k u x h = h
last_ends true false j k u x h = h
last_ends true true j k u x h = less _ _ _ _ (x.live k) (k == j) h

went : (g cl : ℕ) (lv y busy gone : Bool) → Last g cl (num lv) (num (y && (busy || gone))) (num (y && busy)) → Last g cl (num (if busy then (if y then false else lv) else lv)) (num (y && (false || true))) (num (y && false))
went g cl lv true true gone h = grind (arith, h)
went g cl lv true false true h = grind (arith, h)
went g cl lv true false false h = grind (arith, h)
went g cl lv false true gone h = grind (arith, h)
went g cl lv false false gone h = grind (arith, h)

last_goes : (b : Bool) (y : Bool) (k u : ℕ) (x : Client) → x.busy ≡ y → LastOf k u x → LastOf k u (if b then go_row x else x)
last_goes false y k u x e h = h
last_goes true true k u x e h = rw e (let w = rw e at h in went _ _ (x.live k) (k == x.current) true x.gone w)
last_goes true false k u x e h = rw e (let w = rw e at h in went _ _ (x.live k) (k == x.current) false x.gone w)

last_leaves : (b g : Bool) (k u : ℕ) (x : Client) → LastOf k u x → LastOf k u (if b then leave_row g x else x)
last_leaves false g k u x h = h
last_leaves true false k u x h = h
last_leaves true true k u x h = h

pub both_true : (a b : Bool) → (a && b) ≡ true → (a ≡ true) × (b ≡ true)
both_true true b e = (refl, e)
both_true false b e = absurd (cc)

at_most_true : (a b : Bool) → num a ≤ num b → a ≡ true → b ≡ true
at_most_true a true l e = refl
at_most_true a false l e = let one = ap num e in absurd (omega arith)

-- a live Bind is the last
pub live_last : (k u : ℕ) (x : Client) → LastOf k u x → x.live k ≡ true → (x.current ≡ k) × (x.busy ≡ true)
live_last k u x h e = let t = both_true (k == x.current) x.busy (at_most_true (x.live k) ((k == x.current) && x.busy) h.alive e) in (sym (same_number k x.current t.0), t.1)

-- a Bind that was given and isn't closed is the last
pub open_last : (k u : ℕ) (x : Client) → LastOf k u x → at (x.given k) u ≡ true → x.closed k u ≡ false → x.current ≡ k
open_last k u x h e f =
    let one = ap num e in
    let none = ap num f in
    let t = both_true (k == x.current) (x.busy || x.gone) (num_true ((k == x.current) && (x.busy || x.gone)) (omega (arith, h.going, num_le ((k == x.current) && (x.busy || x.gone))))) in
    sym (same_number k x.current t.0)

refused : (g cl : ℕ) (lv s busy gone : Bool) → (s ≡ true → g ≡ 0) → Last g cl (num lv) (num (s && (busy || gone))) (num (s && busy)) → Last g cl (num (if s then false else lv)) (num (s && (false || gone))) (num (s && false))
refused g cl lv true busy gone z h = let none = z refl in grind (arith, num_le gone)
refused g cl lv false busy gone z h = grind (arith, h)

chosen_now : (o : Option ℕ) (w u cl n : ℕ) (lv s : Bool) (m : ℕ) → m ≤ n → (s ≡ true → lv ≡ true) → Last (num (at o u)) cl (num lv) n m → Last (num (at (if s then Some w else o) u)) cl (num lv) n m
chosen_now o w u cl n lv true m l z h = let one = ap num (z refl) in grind (arith, h, num_le (u == w))
chosen_now o w u cl n lv false m l z h = h

now_ongoing : (y b g : Bool) → num (y && b) ≤ num (y && (b || g))
now_ongoing true true g = omega arith
now_ongoing true false g = omega arith
now_ongoing false b g = omega arith

last_choice_row : (l bind : Bool) (j : ℕ) (a : Option ℕ) (k u : ℕ) (x : Client) → x.live j ≡ l → ((k == j) ≡ true → num (at (x.given k) u) ≡ 0) → (bind ≡ false → (k == j) ≡ false) → (bind ≡ true → LastOf j u x) → LastOf k u x → LastOf k u (choice_row l bind j a x)
last_choice_row false bind j a k u x e z y f h = h
last_choice_row true false j None k u x e z y f h = rw (y refl) h
last_choice_row true true j None k u x e z y f h = let t = live_last j u x (f refl) e in rw t.0 (let w = rw t.0 at h in refused _ _ (x.live k) (k == j) x.busy x.gone z w)
last_choice_row true bind j (Some w) k u x e z y f h = chosen_now (x.given k) w u _ _ (x.live k) (k == j) _ (now_ongoing (k == x.current) x.busy x.gone) (λ s. ap x.live (same_number k j s) ∙ e) h

at_one : (o : Option ℕ) (u w : ℕ) → at o u ≡ true → at o w ≡ true → u ≡ w
at_one None u w p q = absurd (cc)
at_one (Some v) u w p q = grind (arith, nat_tests, p, q)

closed_now : (g : ℕ) (cl lv s e busy gone : Bool) → (s ≡ true → e ≡ false → g ≡ 0) → g ≤ 1 → Last g (num cl) (num lv) (num (s && (busy || gone))) (num (s && busy))
    → Last g (num (if s && e then true else cl)) (num (if s then false else lv)) (num (s && (false || gone))) (num (s && false))
closed_now g cl lv true true busy gone z l h = grind (arith, l)
closed_now g cl lv true false busy gone z l h = let none = z refl refl in grind (arith, none)
closed_now g cl lv false e busy gone z l h = grind (arith, h)

not_at : (o : Option ℕ) (u w : ℕ) (b : Bool) → at o u ≡ b → at o w ≡ true → (u == w) ≡ false → num b ≡ 0
not_at o u w false p q e = refl
not_at o u w true p q e = let same = at_one o u w p q in let t = rw same at e in absurd (let bad = sym (same_self w) ∙ t in cc)

last_closes : (bind stay : Bool) (j w k u : ℕ) (x : Client) → at (x.given j) w ≡ true → x.closed j w ≡ false → (bind ≡ false → (k == j) ≡ false) → (bind ≡ true → LastOf j w x) → LastOf k u x → LastOf k u (close_row bind stay j w x)
last_closes false stay j w k u x g cl y f h = rw (y refl) h
last_closes true stay j w k u x g cl y f h =
    let t = open_last j w x (f refl) g cl in
    rw t (let q = rw t at h in closed_now _ (x.closed k u) (x.live k) (k == j) (u == w) x.busy x.gone (λ s e. not_at (x.given k) u w (at (x.given k) u) refl (rw (same_number k j s) g) e) (num_le (at (x.given k) u)) q)

differs_by : (bind : ℕ → Bool) (k j : ℕ) (b : Bool) → (k == j) ≡ b → bind k ≡ true → bind j ≡ false → b ≡ false
differs_by bind k j false e p q = refl
differs_by bind k j true e p q = absurd (let s = ap bind (same_number k j e) in cc)

-- a Bind is no other kind of operation
pub differs : (bind : ℕ → Bool) (k j : ℕ) → bind k ≡ true → bind j ≡ false → (k == j) ≡ false
differs bind k j p q = differs_by bind k j (k == j) refl p q

last_answer : (bind : ℕ → Bool) (w k u : ℕ) (ls : List ToClient) (x : Client) → bind k ≡ true → FitAnswer w x ls → ((j : ℕ) → bind j ≡ true → LastOf j w x) → LastOf k u x → LastOf k u (take_answer bind w ls x)
last_answer bind w k u [] x t g f h = h
last_answer bind w k u (Reply j true stay ∷ ls) x t g f h = last_closes (bind j) stay j w k u x g.0 g.1 (differs bind k j t) (f j) h
last_answer bind w k u (Reply j false stay ∷ ls) x t g f h = h
last_answer bind w k u (Failed j ∷ ls) x t g f h = last_closes (bind j) false j w k u x g.0 g.1 (differs bind k j t) (f j) h

last_choice : (bind : ℕ → Bool) (k u : ℕ) (ls : List ToChooser) (x : Client) → bind k ≡ true → Unsent k u x ls → ((j : ℕ) → bind j ≡ true → LastOf j u x) → LastOf k u x → LastOf k u (take_choice bind ls x)
last_choice bind k u [] x t z f h = h
last_choice bind k u (Choice j a ∷ ls) x t z f h = last_choice_row (x.live j) (bind j) j a k u x refl z (differs bind k j t) (f j) h

if_moves : (b : Bool) (k u : ℕ) (x y : Client) → LastOf k u x → LastOf k u y → LastOf k u (if b then y else x)
if_moves true k u x y p q = q
if_moves false k u x y p q = p

last_refuses : (b : Bool) (k u : ℕ) (x : Client) → LastOf k u x → LastOf k u (if b then refuse_row x else x)
last_refuses false k u x h = h
last_refuses true k u x h = h

-- each move
pub last_move : (kinds : Kinds) (w : World) (m : Move) (c k u : ℕ) → kinds.bind_op c k ≡ true → AskingAt w c k → ((j v : ℕ) → RoutedAt w c j v) → ((j v : ℕ) → kinds.bind_op c j ≡ true → LastAt w c j v) → LastAt (move kinds w m) c k u
last_move kinds w (Asks a) c k u t p r f = last_asks (c == a) (may_ask (kinds.bind_op c (w.clients c).next) (w.clients c)) (kinds.bind_op c (w.clients c).next) k u (w.clients c) refl (differs (kinds.bind_op c) k (w.clients c).next t) (f k u t)
last_move kinds w (Refuses a) c k u t p r f = last_refuses (c == a) k u (w.clients c) (f k u t)
last_move kinds w (Binds a) c k u t p r f = last_binds (c == a) (may_bind (kinds.bind_op c (w.clients c).next) (w.clients c)) (kinds.bind_op c (w.clients c).next) k u (w.clients c) refl (f k u t)
last_move kinds w (Ends a j) c k u t p r f = last_ends (c == a) (may_end (kinds.bind_op c j) j (w.clients c)) j k u (w.clients c) (f k u t)
last_move kinds w (Goes a) c k u t p r f = last_goes (c == a) (w.clients c).busy k u (w.clients c) refl (f k u t)
last_move kinds w (Leaves a) c k u t p r f = last_leaves (c == a) (may_leave (w.clients c)) k u (w.clients c) (f k u t)
last_move kinds w (Signals a j v) c k u t p r f = stays_signaled (LastOf k u) (c == a) (may_signal (kinds.bind_conn v) j v (w.clients c)) v (w.clients c) (f k u t)
last_move kinds w (TakesChoice a) c k u t p r f =
    if_moves (c == a) k u (w.clients c) (take_choice (kinds.bind_op c) (w.choices c) (w.clients c)) (f k u t) (last_choice (kinds.bind_op c) k u (w.choices c) (w.clients c) t (unsent_of c k u _ _ (w.clients c) (w.choices c) p) (λ j e. f j u e) (f k u t))
last_move kinds w (TakesAnswer a v) c k u t p r f =
    if_moves (c == a) k u (w.clients c) (take_answer (kinds.bind_op c) v (w.to_client c v) (w.clients c)) (f k u t)
    (last_answer (kinds.bind_op c) v k u (w.to_client c v) (w.clients c) t (fit_answer c v (w.clients c) (w.conns v) (w.to_conn c v) (w.to_client c v) (λ j. (r j v).routed)) (λ j e. f j v e) (f k u t))
last_move kinds w (TakesOrder v a) c k u t p r f = f k u t
last_move kinds w (Answers v a j) c k u t p r f = f k u t
last_move kinds w (Finishes v a j failed stay) c k u t p r f = f k u t
last_move kinds w (ComesUp v) c k u t p r f = f k u t
last_move kinds w (Retires v) c k u t p r f = f k u t
last_move kinds w (Breaks v) c k u t p r f = f k u t
last_move kinds w (Decides a ans) c k u t p r f = f k u t
last_move kinds w (Hears v) c k u t p r f = f k u t

and_none : (b : Bool) → num (b && false) ≡ 0
and_none true = refl
and_none false = refl

pub last_empty : (c k u : ℕ) → LastAt empty c k u
last_empty c k u = record { going = omega arith; alive = omega arith }
