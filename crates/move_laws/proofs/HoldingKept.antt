-- Each move keeps what is said of a holder and of its bind connection: what a client does.
use Rattle.std.proofs.Common.{◌≡◌, ℕ, ◌+◌, ◌≤◌, Bool, true, false, ◌==◌, ◌&&◌, not, if◌then◌else◌, List, [], ◌∷◌, ◌++◌, Option, Some, None, arith, refl, add-zero}
use Rattle.move_laws.specs.World.{Hold, Client, Conn, ToChooser, Choice, ToConn, Forward, Drop, Leave, ToClient, Reply, Failed, at, holds, conn_of, holder_of, tail}
use Rattle.move_laws.specs.Clients.{refuse_row, ask_row, bind_row, bind_letter, end_row, drop_letter, go_row, leave_row, leave_letter, choice_row, take_choice, forward_letter, take_answer}
use Rattle.move_laws.specs.Counts.{num, forwards, firsts, unders, leaves, finals}
use Rattle.move_laws.specs.AgreeBinds.{Holding, HoldingOf}
use Rattle.move_laws.proofs.Appends.{num_le, same_self, forwards_append}
use Rattle.move_laws.proofs.RoutedKept.{forwards_one, forwards_drop, forwards_leave}
use Rattle.move_laws.proofs.BindCounts.{firsts_append, unders_append, leaves_append}

-- Asks: a Bind of a client that holds nothing, while nothing of it waits; the new operation had nothing
ask_new : (g f t ff un hl fr ho lv le nb fi fn : ℕ) (a b : Bool) → (b ≡ true → g + f + t ≡ 0) → ho + un ≡ 0 → Holding (num a) g f t ff un hl fr ho lv le nb fi → Holding (num (if b then true else a)) g f t ff un hl fr ho lv le nb fn
ask_new g f t ff un hl fr ho lv le nb fi fn true true z n h = grind (arith, h)
ask_new g f t ff un hl fr ho lv le nb fi fn false true z n h = let none = z refl in let p = h.pinned refl in grind (arith, h, p, none)
ask_new g f t ff un hl fr ho lv le nb fi fn a false z n h = grind (arith, h)

ask_other : (g f t ff un hl fr ho lv le nb fi : ℕ) (a b : Bool) → (b ≡ true → g + f + t ≡ 0) → Holding (num a) g f t ff un hl fr ho lv le nb fi → Holding (num (if b then true else a)) g f t ff un hl fr ho lv le nb fi
ask_other g f t ff un hl fr ho lv le nb fi true true z h = h
ask_other g f t ff un hl fr ho lv le nb fi false true z h = let none = z refl in let p = h.pinned refl in grind (arith, h, p, none)
ask_other g f t ff un hl fr ho lv le nb fi a false z h = h

pub holding_asks : (b g bind : Bool) (c h u : ℕ) (x : Client) (v : Conn) (q : List ToConn) (r : List ToClient) → ((h == x.next) ≡ true → num (at (x.given h) u) + forwards h q + num (v.taken c h) ≡ 0) → (g ≡ true → bind ≡ true → num (holds x.hold u h) + unders h q ≡ 0)
    → HoldingOf c h u x v q r → HoldingOf c h u (if b then ask_row g bind x else x) v q r
holding_asks false g bind c h u x v q r z n p = p
holding_asks true false bind c h u x v q r z n p = p
holding_asks true true true c h u x v q r z n p = ask_new _ _ _ _ _ _ _ _ _ _ _ (finals x.current r) _ (x.asked h) (h == x.next) z (n refl refl) p
holding_asks true true false c h u x v q r z n p = ask_other _ _ _ _ _ _ _ _ _ _ _ _ (x.asked h) (h == x.next) z p

-- Binds: the pinned Bind goes under the holder; the last Bind before has nothing that waits
bind_new : (a f t ff un hl fr ho lv le nb fi fn u n m : ℕ) (o v : Option ℕ) (b : Bool) → (b ≡ true → num (at o u) + f + t + a ≡ 0) → fi ≡ 0 → un ≡ 0 → m ≡ ho → n ≤ num b → ho ≤ a → Holding a (num (at o u)) f t ff un hl fr ho lv le nb fi
    → Holding a (num (at (if b then v else o) u)) (f + n) t ff (un + m) hl fr ho lv le nb fn
bind_new a f t ff un hl fr ho lv le nb fi fn u n m o v true z e k s l la h = let none = z refl in let p = h.pinned (omega arith) in grind (arith, h, p, none)
bind_new a f t ff un hl fr ho lv le nb fi fn u n m o v false z e k s l la h = grind (arith, h)

under_one : (b e : Bool) (h j g : ℕ) → (h == g) ≡ e → unders h (if b then Forward j g ∷ [] else []) ≡ num (b && e)
under_one true e h j g s = rw s (simp add-zero refl)
under_one false e h j g s = refl

pub held_at : (o : Option Hold) (u h : ℕ) → num (at (conn_of o) u && (h == holder_of o)) ≡ num (holds o u h)
held_at None u h = refl
held_at (Some y) u h = refl

forward_le : (b : Bool) (k j h : ℕ) → forwards k (if b then Forward j h ∷ [] else []) ≤ num (k == j)
forward_le true k j h = omega arith
forward_le false k j h = omega arith

pub no_leave : (b : Bool) (h j g : ℕ) → leaves h (if b then Forward j g ∷ [] else []) ≡ 0
no_leave true h j g = refl
no_leave false h j g = refl

pub holding_binds : (b g : Bool) (c h u : ℕ) (x : Client) (v : Conn) (q : List ToConn) (r : List ToClient) → ((h == x.next) ≡ true → num (at (x.given h) u) + forwards h q + num (v.taken c h) + num (x.asked h) ≡ 0)
    → (g ≡ true → unders h q + finals x.current r ≡ 0) → num (holds x.hold u h) ≤ num (x.asked h) → firsts h (if b then q ++ bind_letter g x u else q) ≡ firsts h q
    → HoldingOf c h u x v q r → HoldingOf c h u (if b then bind_row g x else x) v (if b then q ++ bind_letter g x u else q) r
holding_binds false g c h u x v q r z n o s p = p
holding_binds true false c h u x v q r z n o s p = simp (forwards_append, firsts_append, unders_append, leaves_append, add-zero) p
holding_binds true true c h u x v q r z n o s p =
    let none = n refl in
    rw (s, forwards_append, unders_append, leaves_append, under_one (at (conn_of x.hold) u) (h == holder_of x.hold) h x.next (holder_of x.hold) refl, no_leave (at (conn_of x.hold) u) h x.next (holder_of x.hold))
    (simp add-zero (bind_new _ (forwards h q) _ _ (unders h q) _ _ _ _ _ _ (finals x.current r) _ u _ _ (x.given h) (conn_of x.hold) (h == x.next) z (omega arith) (omega arith) (held_at x.hold u h) (forward_le (at (conn_of x.hold) u) h x.next (holder_of x.hold)) o p))

-- Ends and Leaves
firsts_drop : (b : Bool) (k j : ℕ) → firsts k (if b then Drop j ∷ [] else []) ≡ 0
firsts_drop true k j = refl
firsts_drop false k j = refl

unders_drop : (b : Bool) (k j : ℕ) → unders k (if b then Drop j ∷ [] else []) ≡ 0
unders_drop true k j = refl
unders_drop false k j = refl

pub leaves_drop : (b : Bool) (k j : ℕ) → leaves k (if b then Drop j ∷ [] else []) ≡ 0
leaves_drop true k j = refl
leaves_drop false k j = refl

pub holding_ends : (b g : Bool) (j c h u : ℕ) (x : Client) (v : Conn) (q : List ToConn) (r : List ToClient) → HoldingOf c h u x v q r → HoldingOf c h u (if b then end_row g j x else x) v (if b then q ++ drop_letter g j x u else q) r
holding_ends false g j c h u x v q r p = p
holding_ends true false j c h u x v q r p = simp (forwards_append, firsts_append, unders_append, leaves_append, add-zero) p
holding_ends true true j c h u x v q r p = simp (forwards_append, firsts_append, unders_append, leaves_append, forwards_drop, firsts_drop, unders_drop, leaves_drop, add-zero) p

pub holding_goes : (b : Bool) (c h u : ℕ) (x : Client) (v : Conn) (q : List ToConn) (r : List ToClient) → HoldingOf c h u x v q r → HoldingOf c h u (if b then go_row x else x) v q r
holding_goes false c h u x v q r p = p
holding_goes true c h u x v q r p = p

firsts_leave : (b : Bool) (k j : ℕ) → firsts k (if b then Leave j ∷ [] else []) ≡ 0
firsts_leave true k j = refl
firsts_leave false k j = refl

unders_leave : (b : Bool) (k j : ℕ) → unders k (if b then Leave j ∷ [] else []) ≡ 0
unders_leave true k j = refl
unders_leave false k j = refl

pub leaves_one : (b : Bool) (h j : ℕ) → leaves h (if b then Leave j ∷ [] else []) ≡ num (b && (h == j))
leaves_one true h j = simp add-zero refl
leaves_one false h j = refl

let_go : (a g f t ff un hl fr ho lv le nb fi n : ℕ) → n ≡ ho → ho ≤ a → g ≤ 1 → Holding a g f t ff un hl fr ho lv le nb fi → Holding a g f t ff un hl fr 0 (lv + n) le nb fi
let_go a g f t ff un hl fr ho lv le nb fi n e o l p = grind (arith, p)

pub holding_leaves : (b g : Bool) (c h u : ℕ) (x : Client) (v : Conn) (q : List ToConn) (r : List ToClient) → num (holds x.hold u h) ≤ num (x.asked h) → HoldingOf c h u x v q r
    → HoldingOf c h u (if b then leave_row g x else x) v (if b then q ++ leave_letter g x u else q) r
holding_leaves false g c h u x v q r o p = p
holding_leaves true false c h u x v q r o p = simp (forwards_append, firsts_append, unders_append, leaves_append, add-zero) p
holding_leaves true true c h u x v q r o p =
    rw (forwards_append, firsts_append, unders_append, leaves_append, forwards_leave (at (conn_of x.hold) u) h (holder_of x.hold), firsts_leave (at (conn_of x.hold) u) h (holder_of x.hold), unders_leave (at (conn_of x.hold) u) h (holder_of x.hold), leaves_one (at (conn_of x.hold) u) h (holder_of x.hold))
    (simp add-zero (let_go _ _ _ _ _ _ _ _ _ (leaves h q) _ _ _ _ (held_at x.hold u h) o (num_le (at (x.given h) u)) p))

-- a choice is taken: a Bind is held from now on
chosen_bind : (a f t ff un hl fr ho lv le nb fi u w : ℕ) (o : Option ℕ) (b e : Bool) → (u == w) ≡ e → (b ≡ true → num (at o u) ≡ 0) → (b ≡ true → a ≡ 1) → Holding a (num (at o u)) f t ff un hl fr ho lv le nb fi
    → Holding a (num (at (if b then Some w else o) u)) (f + (if b then num e else 0)) t (ff + (if b then num e else 0)) (un + (if b then num e else 0)) hl fr (num (e && b)) lv le nb fi
chosen_bind a f t ff un hl fr ho lv le nb fi u w o true true s z y p = let none = z refl in let one = y refl in rw s (grind (arith, p))
chosen_bind a f t ff un hl fr ho lv le nb fi u w o true false s z y p = let none = z refl in let one = y refl in rw s (grind (arith, p))
chosen_bind a f t ff un hl fr ho lv le nb fi u w o false true s z y p = grind (arith, p)
chosen_bind a f t ff un hl fr ho lv le nb fi u w o false false s z y p = grind (arith, p)

chosen_other : (a f t ff un hl fr ho lv le nb fi u w : ℕ) (o : Option ℕ) (b : Bool) → (u == w) ≡ false → (b ≡ true → num (at o u) ≡ 0) → Holding a (num (at o u)) f t ff un hl fr ho lv le nb fi
    → Holding a (num (at (if b then Some w else o) u)) f t ff un hl fr ho lv le nb fi
chosen_other a f t ff un hl fr ho lv le nb fi u w o true s z p = let none = z refl in rw s (grind (arith, p))
chosen_other a f t ff un hl fr ho lv le nb fi u w o false s z p = p

first_one : (e : Bool) (h j : ℕ) → firsts h (if e then Forward j j ∷ [] else []) ≡ (if h == j then num e else 0)
first_one true h j = rw (same_self j) (elim (h == j) as (λ (b : Bool). num (b && true) + 0 ≡ (if b then 1 else 0)) [ true ↦ omega arith | false ↦ omega arith ])
first_one false h j = elim (h == j) as (λ (b : Bool). num false ≡ (if b then 0 else 0)) [ true ↦ refl | false ↦ refl ]

under_own : (e : Bool) (h j : ℕ) → unders h (if e then Forward j j ∷ [] else []) ≡ (if h == j then num e else 0)
under_own true h j = elim (h == j) as (λ (b : Bool). num b + 0 ≡ (if b then 1 else 0)) [ true ↦ omega arith | false ↦ omega arith ]
under_own false h j = elim (h == j) as (λ (b : Bool). num false ≡ (if b then 0 else 0)) [ true ↦ refl | false ↦ refl ]

elsewhere : (e : Bool) → (e ≡ true → false ≡ true) → e ≡ false
elsewhere true k = absurd (let bad = k refl in cc)
elsewhere false k = refl

holding_choice_row : (l bind : Bool) (j : ℕ) (a : Option ℕ) (c h u : ℕ) (x : Client) (v : Conn) (q : List ToConn) (r : List ToClient) → ((h == j) ≡ true → num (at (x.given h) u) ≡ 0) → ((h == j) ≡ true → num (x.asked h) ≡ 1) → (at a u ≡ true → bind ≡ true)
    → HoldingOf c h u x v q r → HoldingOf c h u (choice_row l bind j a x) v (q ++ (if l && at a u then Forward j j ∷ [] else [])) r
holding_choice_row false bind j a c h u x v q r z y k p = simp (forwards_append, firsts_append, unders_append, leaves_append, add-zero) p
holding_choice_row true bind j None c h u x v q r z y k p = simp (forwards_append, firsts_append, unders_append, leaves_append, add-zero) p
holding_choice_row true true j (Some w) c h u x v q r z y k p =
    rw (forwards_append, firsts_append, unders_append, leaves_append, forwards_one (u == w) h j j, first_one (u == w) h j, under_own (u == w) h j, no_leave (u == w) h j j)
    (simp add-zero (chosen_bind _ (forwards h q) _ (firsts h q) (unders h q) _ _ _ (leaves h q) _ _ _ u w (x.given h) (h == j) (u == w) refl z y p))
holding_choice_row true false j (Some w) c h u x v q r z y k p =
    let e = elsewhere (u == w) k in rw e (simp (forwards_append, firsts_append, unders_append, leaves_append, add-zero) (chosen_other _ _ _ _ _ _ _ _ _ _ _ _ u w (x.given h) (h == j) e z p))

-- what is known of the first choice
abbrev pub ChoiceFirst : (ℕ → Bool) → ℕ → ℕ → Client → List ToChooser → Type 0
ChoiceFirst bind h u x [] = Unit {0}
ChoiceFirst bind h u x (Choice j a ∷ ls) = ((h == j) ≡ true → num (at (x.given h) u) ≡ 0) × ((h == j) ≡ true → num (x.asked h) ≡ 1) × (at a u ≡ true → bind j ≡ true)

pub holding_choice : (b : Bool) (bind : ℕ → Bool) (c h u : ℕ) (ls : List ToChooser) (x : Client) (v : Conn) (q : List ToConn) (r : List ToClient) → ChoiceFirst bind h u x ls → HoldingOf c h u x v q r
    → HoldingOf c h u (if b then take_choice bind ls x else x) v (if b then q ++ forward_letter ls x u else q) r
holding_choice false bind c h u ls x v q r k p = p
holding_choice true bind c h u [] x v q r k p = simp (forwards_append, firsts_append, unders_append, leaves_append, add-zero) p
holding_choice true bind c h u (Choice j a ∷ ls) x v q r k p = holding_choice_row (x.live j) (bind j) j a c h u x v q r k.0 k.1 k.2 p

-- a last answer is taken: the connection isn't held any longer, unless its holder stays
released : (a g f t ff un hl fr ho lv le nb fi n : ℕ) → un ≡ 0 → Holding a g f t ff un hl fr ho lv le nb (n + fi) → Holding a g f t ff un hl fr 0 lv le nb fi
released a g f t ff un hl fr ho lv le nb fi n z p = grind (arith, p)

released_far : (a g f t ff un hl fr ho lv le nb fi : ℕ) → Holding a g f t ff un hl fr ho lv le nb fi → Holding a g f t ff un hl fr 0 lv le nb fi
released_far a g f t ff un hl fr ho lv le nb fi p = grind (arith, p)

-- what is known of the first answer on this connection
abbrev pub AnswerFirst : (ℕ → Bool) → ℕ → List ToConn → List ToClient → Type 0
AnswerFirst bind h q [] = Unit {0}
AnswerFirst bind h q (Reply j true stay ∷ ls) = (bind j ≡ true) × (unders h q ≡ 0)
AnswerFirst bind h q (Reply j false stay ∷ ls) = Unit {0}
AnswerFirst bind h q (Failed j ∷ ls) = (bind j ≡ true) × (unders h q ≡ 0)

and_not : (b : Bool) → (b && not true) ≡ false
and_not true = refl
and_not false = refl

pub holding_answer_here : (bind : ℕ → Bool) (c h u w : ℕ) (ls : List ToClient) (x : Client) (v : Conn) (q : List ToConn) → AnswerFirst bind h q ls → HoldingOf c h u x v q ls → HoldingOf c h u (take_answer bind w ls x) v q (tail ls)
holding_answer_here bind c h u w [] x v q k p = p
holding_answer_here bind c h u w (Reply j true true ∷ ls) x v q k p = rw (and_not (bind j)) p
holding_answer_here bind c h u w (Reply j true false ∷ ls) x v q k p = rw k.0 (released _ _ _ _ _ _ _ _ _ _ _ _ (finals x.current ls) _ k.1 p)
holding_answer_here bind c h u w (Reply j false stay ∷ ls) x v q k p = p
holding_answer_here bind c h u w (Failed j ∷ ls) x v q k p = rw k.0 (released _ _ _ _ _ _ _ _ _ _ _ _ (finals x.current ls) _ k.1 p)

far_if : (b : Bool) (o : Option Hold) (a g f t ff un hl fr u h lv le nb fi : ℕ) → Holding a g f t ff un hl fr (num (holds o u h)) lv le nb fi → Holding a g f t ff un hl fr (num (holds (if b then None else o) u h)) lv le nb fi
far_if true o a g f t ff un hl fr u h lv le nb fi p = released_far _ _ _ _ _ _ _ _ _ _ _ _ _ p
far_if false o a g f t ff un hl fr u h lv le nb fi p = p

pub holding_answer_far : (bind : ℕ → Bool) (c h u w : ℕ) (ls : List ToClient) (x : Client) (v : Conn) (q : List ToConn) (r : List ToClient) → HoldingOf c h u x v q r → HoldingOf c h u (take_answer bind w ls x) v q r
holding_answer_far bind c h u w [] x v q r p = p
holding_answer_far bind c h u w (Reply j true stay ∷ ls) x v q r p = far_if (bind j && not stay) x.hold _ _ _ _ _ _ _ _ u h _ _ _ _ p
holding_answer_far bind c h u w (Reply j false stay ∷ ls) x v q r p = p
holding_answer_far bind c h u w (Failed j ∷ ls) x v q r p = far_if (bind j && not false) x.hold _ _ _ _ _ _ _ _ u h _ _ _ _ p

pub holding_answer : (b bu : Bool) (bind : ℕ → Bool) (c h u w : ℕ) (ls r : List ToClient) (x : Client) (v : Conn) (q : List ToConn) → (bu ≡ true → ls ≡ r) → AnswerFirst bind h q r → HoldingOf c h u x v q r
    → HoldingOf c h u (if b then take_answer bind w ls x else x) v q (if b && bu then tail r else r)
holding_answer false bu bind c h u w ls r x v q s k p = p
holding_answer true true bind c h u w ls r x v q s k p = rw (s refl) (holding_answer_here bind c h u w r x v q k p)
holding_answer true false bind c h u w ls r x v q s k p = holding_answer_far bind c h u w ls x v q r p

pub holding_refuses : (b : Bool) (c h u : ℕ) (x : Client) (v : Conn) (q : List ToConn) (r : List ToClient) → HoldingOf c h u x v q r → HoldingOf c h u (if b then refuse_row x else x) v q r
holding_refuses false c h u x v q r p = p
holding_refuses true c h u x v q r p = p
