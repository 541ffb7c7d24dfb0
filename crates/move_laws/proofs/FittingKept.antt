-- Each move keeps that the kinds of an operation and of its connection fit.
use Rattle.std.proofs.Common.{◌≡◌, ℕ, ◌+◌, ◌≤◌, Bool, true, false, ◌==◌, ◌&&◌, not, if◌then◌else◌, List, [], ◌∷◌, ◌++◌, Option, Some, None, arith, refl, ap, ◌∙◌, add-zero}
use Rattle.move_laws.specs.World.{Hold, Kinds, World, Client, Desk, ToDesk, Ask, Returned, ToChooser, Choice, ToClient, Reply, Failed, Move, Asks, Refuses, Binds, Ends, Goes, Leaves, Signals, TakesChoice, TakesAnswer, TakesOrder, Answers, Finishes, ComesUp, Retires, Breaks, Decides, Hears, at, conn_of, holds, held, vacant, tail}
use Rattle.move_laws.specs.Clients.{refuse_row, may_ask, ask_row, may_bind, bind_row, may_end, end_row, go_row, may_leave, leave_row, choice_row, take_choice, take_answer, may_signal}
use Rattle.move_laws.specs.Desks.{may_choose, chosen_for, choice_letter}
use Rattle.move_laws.specs.Moves.{move, empty}
use Rattle.move_laws.specs.Counts.{num, choices, gos}
use Rattle.move_laws.specs.Agree.{AskingOf, AskingAt, same, Fitting, FittingOf, FittingAt}
use Rattle.move_laws.proofs.Appends.{num_le, num_true, same_number, same_self, and_true, gos_append}
use Rattle.move_laws.proofs.RoutedKept.{Unsent}
use Rattle.move_laws.proofs.RoutedMoves.{unsent_of, fresh_at, next_is}
use Rattle.move_laws.proofs.Signaled.{stays_signaled}

more_asked : (s d g v h : ℕ) (a b : Bool) → Fitting s d g v h (num a) → Fitting s d g v h (num (if b then true else a))
more_asked s d g v h a true f = grind (arith, f, num_le a)
more_asked s d g v h a false f = f

fitting_asks : (b g bind : Bool) (kinds : Kinds) (c k u : ℕ) (x : Client) (qc : List ToChooser) → FittingOf kinds c k u x qc → FittingOf kinds c k u (if b then ask_row g bind x else x) qc
fitting_asks false g bind kinds c k u x qc f = f
fitting_asks true false bind kinds c k u x qc f = f
fitting_asks true true bind kinds c k u x qc f = more_asked _ _ _ _ _ (x.asked k) (k == x.next) f

-- a pinned Bind is given the connection that is held
given_held : (s d g h a u : ℕ) (o v : Option ℕ) (b : Bool) → (b ≡ true → num (at o u) ≡ 0) → (b ≡ true → num (at v u) ≤ s) → Fitting s d g (num (at o u)) h a → Fitting s d g (num (at (if b then v else o) u)) h a
given_held s d g h a u o v true z y f = let t = z refl in let l = y refl in grind (arith, f)
given_held s d g h a u o v false z y f = f

fitting_binds : (b g : Bool) (kinds : Kinds) (c k u : ℕ) (x : Client) (qc : List ToChooser) → ((k == x.next) ≡ true → num (at (x.given k) u) ≡ 0)
    → (g ≡ true → (k == x.next) ≡ true → num (at (conn_of x.hold) u) ≤ num (same (kinds.bind_conn u) (kinds.bind_op c k)))
    → FittingOf kinds c k u x qc → FittingOf kinds c k u (if b then bind_row g x else x) qc
fitting_binds false g kinds c k u x qc z y f = f
fitting_binds true false kinds c k u x qc z y f = f
fitting_binds true true kinds c k u x qc z y f = given_held _ _ _ _ _ u (x.given k) (conn_of x.hold) (k == x.next) z (y refl) f

fitting_ends : (b g : Bool) (kinds : Kinds) (j c k u : ℕ) (x : Client) (qc : List ToChooser) → FittingOf kinds c k u x qc → FittingOf kinds c k u (if b then end_row g j x else x) qc
fitting_ends false g kinds j c k u x qc f = f
fitting_ends true false kinds j c k u x qc f = f
fitting_ends true true kinds j c k u x qc f = f

fitting_goes : (b : Bool) (kinds : Kinds) (c k u : ℕ) (x : Client) (qc : List ToChooser) → FittingOf kinds c k u x qc → FittingOf kinds c k u (if b then go_row x else x) qc
fitting_goes false kinds c k u x qc f = f
fitting_goes true kinds c k u x qc f = f

let_go : (s d g v h a : ℕ) → Fitting s d g v h a → Fitting s d g v 0 a
let_go s d g v h a f = grind (arith, f)

fitting_leaves : (b g : Bool) (kinds : Kinds) (c k u : ℕ) (x : Client) (qc : List ToChooser) → FittingOf kinds c k u x qc → FittingOf kinds c k u (if b then leave_row g x else x) qc
fitting_leaves false g kinds c k u x qc f = f
fitting_leaves true false kinds c k u x qc f = f
fitting_leaves true true kinds c k u x qc f = let_go _ _ _ _ _ _ f

let_go_if : (s d g v a u k : ℕ) (o : Option Hold) (b : Bool) → Fitting s d g v (num (holds o u k)) a → Fitting s d g v (num (holds (if b then None else o) u k)) a
let_go_if s d g v a u k o true f = let_go _ _ _ _ _ _ f
let_go_if s d g v a u k o false f = f

fitting_answer : (b : Bool) (kinds : Kinds) (bind : ℕ → Bool) (w c k u : ℕ) (ls : List ToClient) (x : Client) (qc : List ToChooser) → FittingOf kinds c k u x qc → FittingOf kinds c k u (if b then take_answer bind w ls x else x) qc
fitting_answer false kinds bind w c k u ls x qc f = f
fitting_answer true kinds bind w c k u [] x qc f = f
fitting_answer true kinds bind w c k u (Reply j true stay ∷ ls) x qc f = let_go_if _ _ _ _ _ u k x.hold (bind j && not stay) f
fitting_answer true kinds bind w c k u (Reply j false stay ∷ ls) x qc f = f
fitting_answer true kinds bind w c k u (Failed j ∷ ls) x qc f = let_go_if _ _ _ _ _ u k x.hold (bind j && not false) f

-- a connection was chosen: for a Bind it is held now
chosen_bind : (s d g u w : ℕ) (o : Option ℕ) (h a b e : Bool) → (u == w) ≡ e → (b ≡ true → num (at o u) ≡ 0) → (b ≡ true → a ≡ true) → (b ≡ true → s ≡ d)
    → Fitting s d (num (b && e) + g) (num (at o u)) (num h) (num a) → Fitting s d g (num (at (if b then Some w else o) u)) (num (e && b)) (num a)
chosen_bind s d g u w o h a true true t z y r f = let n = z refl in let m = ap num (y refl) in let same_kind = r refl in rw t (grind (arith, f))
chosen_bind s d g u w o h a true false t z y r f = let n = z refl in rw t (grind (arith, f))
chosen_bind s d g u w o h a false true t z y r f = grind (arith, f)
chosen_bind s d g u w o h a false false t z y r f = grind (arith, f)

chosen_other : (s d g u w : ℕ) (o : Option ℕ) (h a : ℕ) (b e : Bool) → (u == w) ≡ e → (b ≡ true → num (at o u) ≡ 0)
    → Fitting s d (num (b && e) + g) (num (at o u)) h a → Fitting s d g (num (at (if b then Some w else o) u)) h a
chosen_other s d g u w o h a true true t z f = let n = z refl in rw t (grind (arith, f))
chosen_other s d g u w o h a true false t z f = let n = z refl in rw t (grind (arith, f))
chosen_other s d g u w o h a false e t z f = grind (arith, f)

fewer : (s d n g v h a : ℕ) → Fitting s d (n + g) v h a → Fitting s d g v h a
fewer s d n g v h a f = grind (arith, f)

same_true : (b : Bool) → same b true ≡ b
same_true true = refl
same_true false = refl

fitting_choice_row : (l bind : Bool) (kinds : Kinds) (j : ℕ) (a : Option ℕ) (c k u : ℕ) (x : Client) (qc : List ToChooser) → kinds.bind_op c j ≡ bind → ((k == j) ≡ true → num (at (x.given k) u) ≡ 0)
    → ((k == j) ≡ true → x.asked k ≡ true) → FittingOf kinds c k u x (Choice j a ∷ qc) → FittingOf kinds c k u (choice_row l bind j a x) qc
fitting_choice_row false bind kinds j a c k u x qc p z y f = fewer _ _ _ _ _ _ _ f
fitting_choice_row true bind kinds j None c k u x qc p z y f = fewer _ _ _ _ _ _ _ f
fitting_choice_row true true kinds j (Some w) c k u x qc p z y f =
    chosen_bind _ _ (gos k u qc) u w (x.given k) (holds x.hold u k) (x.asked k) (k == j) (u == w) refl z y
    (λ e. let b : kinds.bind_op c k ≡ true = ap (kinds.bind_op c) (same_number k j e) ∙ p in rw b (ap num (same_true (kinds.bind_conn u)))) f
fitting_choice_row true false kinds j (Some w) c k u x qc p z y f = chosen_other _ _ (gos k u qc) u w (x.given k) _ _ (k == j) (u == w) refl z f

asked_of : (c k q t : ℕ) (x : Client) (j : ℕ) (a : Option ℕ) (ls : List ToChooser) → AskingOf k x q t (choices k (Choice j a ∷ ls)) → (k == j) ≡ true → x.asked k ≡ true
asked_of c k q t x j a ls h e = let one = ap num e in num_true (x.asked k) (omega (arith, num_le (x.asked k)))

fitting_choice : (b : Bool) (kinds : Kinds) (c k u q t : ℕ) (ls : List ToChooser) (x : Client) → AskingOf k x q t (choices k ls) → Unsent k u x ls → FittingOf kinds c k u x ls
    → FittingOf kinds c k u (if b then take_choice (kinds.bind_op c) ls x else x) (if b then tail ls else ls)
fitting_choice false kinds c k u q t ls x h z f = f
fitting_choice true kinds c k u q t [] x h z f = f
fitting_choice true kinds c k u q t (Choice j a ∷ ls) x h z f = fitting_choice_row (x.live j) (kinds.bind_op c j) kinds j a c k u x ls refl z (asked_of c k q t x j a ls h) f

may_alike : (p q r bc bo y : Bool) → (p && q && r && (if bc then bo && y else not bo)) ≡ true → same bc bo ≡ true
may_alike true true true true true y e = refl
may_alike true true true false false y e = refl
may_alike true true true false true y e = absurd (cc)
may_alike true true true true false y e = absurd (cc)
may_alike true true false bc bo y e = absurd (cc)
may_alike true false r bc bo y e = absurd (cc)
may_alike false q r bc bo y e = absurd (cc)

go_alike : (m s e : Bool) (u w alike : ℕ) → (u == w) ≡ e → (m ≡ true → s ≡ true → e ≡ true → alike ≡ 1) → num (s && at (if m then Some w else None) u) ≤ alike
go_alike true true true u w alike t h = let one = h refl refl refl in rw t (omega arith)
go_alike true true false u w alike t h = rw t (omega arith)
go_alike true false e u w alike t h = omega arith
go_alike false true e u w alike t h = omega arith
go_alike false false e u w alike t h = omega arith

chosen_alike : (kinds : Kinds) (d : Desk) (c j k u : ℕ) (a : Option ℕ) → num ((k == j) && at (chosen_for kinds d c j a) u) ≤ num (same (kinds.bind_conn u) (kinds.bind_op c k))
chosen_alike kinds d c j k u None = elim (k == j) as (λ s. num (s && false) ≤ num (same (kinds.bind_conn u) (kinds.bind_op c k))) [ true ↦ omega arith | false ↦ omega arith ]
chosen_alike kinds d c j k u (Some w) = go_alike (may_choose kinds d c j w) (k == j) (u == w) u w _ refl
    (λ m s e. rw (same_number k j s, same_number u w e) (ap num (may_alike (d.up w) (not (d.retired w)) (not (d.down w)) (kinds.bind_conn w) (kinds.bind_op c j) (vacant (d.user w)) m)))

more_gos : (s d n g v h a : ℕ) → n ≤ s → Fitting s d g v h a → Fitting s d (g + n) v h a
more_gos s d n g v h a l f = grind (arith, f)

fitting_decides : (b : Bool) (kinds : Kinds) (c k u : ℕ) (ans : Option ℕ) (qd : List ToDesk) (qc : List ToChooser) (x : Client) (d : Desk) → FittingOf kinds c k u x qc
    → FittingOf kinds c k u x (if b then qc ++ choice_letter kinds c qd ans d else qc)
fitting_decides false kinds c k u ans qd qc x d f = f
fitting_decides true kinds c k u ans [] qc x d f = simp (gos_append, add-zero) f
fitting_decides true kinds c k u ans (Ask j ∷ ls) qc x d f = simp (gos_append, add-zero) (more_gos _ _ _ _ _ _ _ (chosen_alike kinds d c j k u ans) f)
fitting_decides true kinds c k u ans (Returned j w ∷ ls) qc x d f = simp (gos_append, add-zero) f

-- the connection that is held is a bind connection
at_most : (a : ℕ) (b : Bool) → a ≤ 1 → (num b ≡ 0 → a ≡ 0) → a ≤ num b
at_most a true l f = l
at_most a false l f = let z = f refl in omega arith

pub held_kind : (kinds : Kinds) (c u : ℕ) (x : Client) (o : Option Hold) (qc : List ToChooser) → x.hold ≡ o → ((h : ℕ) → FittingOf kinds c h u x qc) → num (at (conn_of o) u) ≤ num (kinds.bind_conn u)
held_kind kinds c u x None qc e f = omega arith
held_kind kinds c u x (Some y) qc e f = let t = rw (e, same_self y.holder, and_true (u == y.conn)) at (f y.holder).bound in at_most (num (u == y.conn)) (kinds.bind_conn u) (num_le (u == y.conn)) t

bind_first : (a b c d : Bool) → (a && b && (c && d)) ≡ true → c ≡ true
bind_first true true true d e = refl
bind_first true true false d e = e
bind_first true false c d e = absurd (cc)
bind_first false b c d e = absurd (cc)

bind_kind : (kinds : Kinds) (c k u : ℕ) (x : Client) (qc : List ToChooser) → ((h : ℕ) → FittingOf kinds c h u x qc) → may_bind (kinds.bind_op c x.next) x ≡ true → (k == x.next) ≡ true
    → num (at (conn_of x.hold) u) ≤ num (same (kinds.bind_conn u) (kinds.bind_op c k))
bind_kind kinds c k u x qc f g e =
    let b : kinds.bind_op c k ≡ true = ap (kinds.bind_op c) (same_number k x.next e) ∙ bind_first (not x.gone) (not x.busy) (kinds.bind_op c x.next) (held x.hold) g in
    rw (b, same_true (kinds.bind_conn u)) (held_kind kinds c u x x.hold qc refl f)

fitting_refuses : (b : Bool) (kinds : Kinds) (c k u : ℕ) (x : Client) (qc : List ToChooser) → FittingOf kinds c k u x qc → FittingOf kinds c k u (if b then refuse_row x else x) qc
fitting_refuses false kinds c k u x qc f = f
fitting_refuses true kinds c k u x qc f = f

-- each move
pub fitting_move : (kinds : Kinds) (w : World) (m : Move) (c k u : ℕ) → AskingAt w c k → ((h : ℕ) → FittingAt kinds w c h u) → FittingAt kinds (move kinds w m) c k u
fitting_move kinds w (Asks a) c k u p f = fitting_asks (c == a) (may_ask (kinds.bind_op c (w.clients c).next) (w.clients c)) (kinds.bind_op c (w.clients c).next) kinds c k u (w.clients c) (w.choices c) (f k)
fitting_move kinds w (Refuses a) c k u p f = fitting_refuses (c == a) kinds c k u (w.clients c) (w.choices c) (f k)
fitting_move kinds w (Binds a) c k u p f =
    fitting_binds (c == a) (may_bind (kinds.bind_op c (w.clients c).next) (w.clients c)) kinds c k u (w.clients c) (w.choices c) (λ e. fresh_at w c k u p (next_is k (w.clients c).next e)) (bind_kind kinds c k u (w.clients c) (w.choices c) f) (f k)
fitting_move kinds w (Ends a j) c k u p f = fitting_ends (c == a) (may_end (kinds.bind_op c j) j (w.clients c)) kinds j c k u (w.clients c) (w.choices c) (f k)
fitting_move kinds w (Goes a) c k u p f = fitting_goes (c == a) kinds c k u (w.clients c) (w.choices c) (f k)
fitting_move kinds w (Leaves a) c k u p f = fitting_leaves (c == a) (may_leave (w.clients c)) kinds c k u (w.clients c) (w.choices c) (f k)
fitting_move kinds w (Signals a j v) c k u p f = stays_signaled (λ y. FittingOf kinds c k u y (w.choices c)) (c == a) (may_signal (kinds.bind_conn v) j v (w.clients c)) v (w.clients c) (f k)
fitting_move kinds w (TakesChoice a) c k u p f = fitting_choice (c == a) kinds c k u _ _ (w.choices c) (w.clients c) p (unsent_of c k u _ _ (w.clients c) (w.choices c) p) (f k)
fitting_move kinds w (TakesAnswer a v) c k u p f = fitting_answer (c == a) kinds (kinds.bind_op c) v c k u (w.to_client c v) (w.clients c) (w.choices c) (f k)
fitting_move kinds w (TakesOrder v a) c k u p f = f k
fitting_move kinds w (Answers v a j) c k u p f = f k
fitting_move kinds w (Finishes v a j failed stay) c k u p f = f k
fitting_move kinds w (ComesUp v) c k u p f = f k
fitting_move kinds w (Retires v) c k u p f = f k
fitting_move kinds w (Breaks v) c k u p f = f k
fitting_move kinds w (Decides a ans) c k u p f = fitting_decides (c == a) kinds c k u ans (w.to_desk c) (w.choices c) (w.clients c) w.desk (f k)
fitting_move kinds w (Hears v) c k u p f = f k

pub fitting_empty : (kinds : Kinds) (c k u : ℕ) → FittingAt kinds empty c k u
fitting_empty kinds c k u = record { kind = λ _. refl; bound = λ _. refl; own = omega arith; wanted = omega arith }
