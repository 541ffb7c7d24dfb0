-- The same for what a bind connection does.
use Rattle.std.proofs.Common.{◌≡◌, ℕ, ◌+◌, ◌≤◌, Bool, true, false, ◌==◌, ◌&&◌, ◌||◌, if◌then◌else◌, List, [], ◌∷◌, ◌++◌, Option, Some, None, arith, refl, ap, sym, subst, add-zero}
use Rattle.std.proofs.lemmas.Bool.Decides.{nat_tests}
use Rattle.move_laws.specs.World.{Op, Client, Conn, ToConn, Forward, Drop, Leave, Signal, ToClient, Reply, Failed, at, is, vacant, tail}
use Rattle.move_laws.specs.Conns.{take_order, order_answer, forward_row, finish_row, finish_letter, free, up_row, retire_row, break_row, stopped}
use Rattle.move_laws.specs.Counts.{num, forwards, firsts, unders, sends, leaves, finals}
use Rattle.move_laws.specs.AgreeBinds.{Lost, Holding, HoldingOf, client_is, StandsOf}
use Rattle.move_laws.specs.Fit.{Free}
use Rattle.move_laws.proofs.Appends.{num_le, same_number, same_self}
use Rattle.move_laws.proofs.BindCounts.{finals_append, forwards_le, firsts_le, unders_le}
use Rattle.move_laws.proofs.FreeBinds.{both_same}
use Rattle.move_laws.proofs.LostKept.{lost_not_going}
use Rattle.move_laws.proofs.BoundKept.{Ready, holder_after}

-- Of the Forward of j under g, seen from h: `b` where h is j, `e` where h is g. Nothing else waits.
sent_one : (a gv f t ff un fr ho lv le fi nb nc : ℕ) (hl b e : Bool) (n m : ℕ) → n ≡ (if e then num b else 0) → f + ff + un ≡ 0 → (e ≡ true → num b + num hl ≡ 1) → (e ≡ false → hl ≡ false) → t ≤ 1 → gv ≤ 1 → gv ≡ (num b + f) + t → nb ≡ 0
    → Holding a gv (num b + f) t (n + ff) (num e + un) (num hl) fr ho lv le nb fi → Holding a gv f (if b then 1 else t) ff un (num e) fr ho lv le nc fi
sent_one a gv f t ff un fr ho lv le fi nb nc hl true true n m s z k y lt lg w nn p = let one = k refl in grind (arith, p)
sent_one a gv f t ff un fr ho lv le fi nb nc hl false true n m s z k y lt lg w nn p = let one = k refl in grind (arith, p)
sent_one a gv f t ff un fr ho lv le fi nb nc hl true false n m s z k y lt lg w nn p = let none = ap num (y refl) in grind (arith, p)
sent_one a gv f t ff un fr ho lv le fi nb nc hl false false n m s z k y lt lg w nn p = let none = ap num (y refl) in grind (arith, p)

missed_one : (a gv f t ff un ho lv le fi nb nc : ℕ) (hl hg fg fr b e : Bool) (n : ℕ) → n ≡ (if e then num b else 0) → f + ff + un ≡ 0 → (e ≡ true → num b + num hg + num fg ≡ 1) → (e ≡ true → hl ≡ hg) → (e ≡ true → fr ≡ fg) → (e ≡ false → hl ≡ false) → t ≤ 1 → gv ≤ 1 → gv ≡ (num b + f) + t
    → Holding a gv (num b + f) t (n + ff) (num e + un) (num hl) (num fr) ho lv le nb fi → Holding a gv f (if b then 1 else t) ff un (if hg then 0 else num hl) (num (if e then true else fr)) ho lv le nc (fi + 1)
missed_one a gv f t ff un ho lv le fi nb nc hl true fg fr b true n s z k y x q lt lg w p = let one = k refl in let same = ap num (y refl) in let same_freed = ap num (x refl) in elim b as (λ (b : Bool). n ≡ num b → num b + num true + num fg ≡ 1 → gv ≡ (num b + f) + t → Holding a gv (num b + f) t (n + ff) (num true + un) (num hl) (num fr) ho lv le nb fi → Holding a gv f (if b then 1 else t) ff un 0 1 ho lv le nc (fi + 1)) [ true ↦ λ s k w p. grind (arith, p) | false ↦ λ s k w p. grind (arith, p) ] s one w p
missed_one a gv f t ff un ho lv le fi nb nc hl false fg fr true true n s z k y x q lt lg w p = let one = k refl in let same = ap num (y refl) in let same_freed = ap num (x refl) in grind (arith, p)
missed_one a gv f t ff un ho lv le fi nb nc hl false fg fr false true n s z k y x q lt lg w p = let one = k refl in let same = ap num (y refl) in let same_freed = ap num (x refl) in grind (arith, p)
missed_one a gv f t ff un ho lv le fi nb nc hl true fg fr true false n s z k y x q lt lg w p = let none = ap num (q refl) in grind (arith, p)
missed_one a gv f t ff un ho lv le fi nb nc hl false fg fr true false n s z k y x q lt lg w p = let none = ap num (q refl) in grind (arith, p)
missed_one a gv f t ff un ho lv le fi nb nc hl true fg fr false false n s z k y x q lt lg w p = let none = ap num (q refl) in grind (arith, p)
missed_one a gv f t ff un ho lv le fi nb nc hl false fg fr false false n s z k y x q lt lg w p = let none = ap num (q refl) in grind (arith, p)

num_if : (b y : Bool) → num (if b then true else y) ≡ (if b then 1 else num y)
num_if true y = refl
num_if false y = refl

finals_one : (k j : ℕ) (r : List ToClient) → k ≡ j → finals k (r ++ Failed j ∷ []) ≡ finals k r + 1
finals_one k j r e = rw (finals_append k r (Failed j ∷ []), e, same_self j) refl

-- whose Forward of j under g waits first, alone
pub record Sole (c j g u : ℕ) (x : Client) (v : Conn) (q : List ToConn) : Type 0 where
  pub ready : Ready c j g v
  pub current : x.current ≡ j
  pub lone : sends q ≡ 0
  pub lost : Lost v
  pub routed : (h : ℕ) → num (at (x.given h) u) ≡ forwards h (Forward j g ∷ q) + num (v.taken c h)

held_other : (c h g : ℕ) (v : Conn) (b : Bool) → Free v c g → is v.holder c h ≡ b → (h == g) ≡ false → b ≡ false
held_other c h g v false f p e = refl
held_other c h g v true f p e = absurd (let t = rw (((f.mine c h p).1), same_self g) at e in cc)

never_both : (a b : Bool) (k j h : ℕ) → (k == j) ≡ a → (j == h) ≡ b → (k == h) ≡ false → num (a && b) ≡ 0
never_both true true k j h p q e = absurd (let t = rw (same_number k j p, same_number j h q, same_self h) at e in cc)
never_both true false k j h p q e = refl
never_both false b k j h p q e = refl

there_for : (h g j : ℕ) (v : Conn) (c : ℕ) → (h == g) ≡ true → num (g == j) + num (is v.holder c g) ≡ 1 → num (h == j) + num (is v.holder c h) ≡ 1
there_for h g j v c e t = subst (λ (i : ℕ). num (i == j) + num (is v.holder c i) ≡ 1) (sym (same_number h g e)) t

first_if : (h j g : ℕ) (e : Bool) → (h == g) ≡ e → num ((h == j) && (j == g)) ≡ (if e then num (h == j) else 0)
first_if h j g true e = rw (sym (same_number h g e)) (both_same (h == j) h j refl)
first_if h j g false e = never_both (h == j) (j == g) h j g refl refl e

holding_forward : (st : Bool) (c h j g u : ℕ) (x : Client) (v : Conn) (q : List ToConn) (r : List ToClient) → stopped v ≡ st → Sole c j g u x v q → HoldingOf c h u x v (Forward j g ∷ q) r
    → HoldingOf c h u x (forward_row st true c j g v) q (r ++ (if st then Failed j ∷ [] else []))
holding_forward true c h j g u x v q r s k p =
    let w = k.routed h in
    let z = k.lone in
    let few : forwards h q + firsts h q + unders h q ≡ 0 = omega (arith, forwards_le h q, firsts_le h q, unders_le h q) in
    let mine = k.ready.somewhere in
    rw (same_self c, num_if (h == j) (v.taken c h), holder_after (is v.holder c g) v.holder c h, finals_one x.current j r k.current)
    (missed_one _ _ (forwards h q) _ (firsts h q) (unders h q) _ _ _ (finals x.current r) _ _ (is v.holder c h) (is v.holder c g) (v.freed c g) (v.freed c h) (h == j) (h == g) _ (first_if h j g (h == g) refl) few
    (λ e. rw (same_number h g e) mine) (λ e. ap (is v.holder c) (same_number h g e)) (λ e. ap (v.freed c) (same_number h g e)) (held_other c h g v (is v.holder c h) k.ready.free refl) (num_le (v.taken c h)) (num_le (at (x.given h) u)) w p)
holding_forward false c h j g u x v q r s k p =
    let w = k.routed h in
    let z = k.lone in
    let few : forwards h q + firsts h q + unders h q ≡ 0 = omega (arith, forwards_le h q, firsts_le h q, unders_le h q) in
    let there = k.ready.there s in
    rw (same_self c, num_if (h == j) (v.taken c h), finals_append x.current r [])
    (simp add-zero (sent_one _ _ (forwards h q) _ (firsts h q) (unders h q) _ _ _ _ (finals x.current r) _ _ (is v.holder c h) (h == j) (h == g) _ 0 (first_if h j g (h == g) refl) few
    (λ e. there_for h g j v c e there) (held_other c h g v (is v.holder c h) k.ready.free refl) (num_le (v.taken c h)) (num_le (at (x.given h) u)) w (lost_not_going v c h k.lost s) p))

left_now : (a gv f t ff un hl fr ho lv nb fi : ℕ) (le b : Bool) → gv ≤ 1 → Holding a gv f t ff un hl fr ho (num b + lv) (num le) nb fi → Holding a gv f t ff un hl fr ho lv (num (if b then true else le)) nb fi
left_now a gv f t ff un hl fr ho lv nb fi true true l p = absurd (omega arith)
left_now a gv f t ff un hl fr ho lv nb fi false true l p = grind (arith, p)
left_now a gv f t ff un hl fr ho lv nb fi le false l p = grind (arith, p)

-- what is known of the first order
abbrev pub OrderFirst : ℕ → ℕ → Client → Conn → List ToConn → Type 0
OrderFirst c u x v [] = Unit {0}
OrderFirst c u x v (Forward j g ∷ ls) = Sole c j g u x v ls
OrderFirst c u x v (Drop j ∷ ls) = Unit {0}
OrderFirst c u x v (Leave j ∷ ls) = Unit {0}
OrderFirst c u x v (Signal b ∷ ls) = Unit {0}

holding_order_own : (c h u : ℕ) (x : Client) (v : Conn) (q : List ToConn) (r : List ToClient) → OrderFirst c u x v q → HoldingOf c h u x v q r → HoldingOf c h u x (take_order true c q v) (tail q) (r ++ order_answer q v)
holding_order_own c h u x v [] r k p = simp (finals_append, add-zero) p
holding_order_own c h u x v (Forward j g ∷ q) r k p = holding_forward (stopped v) c h j g u x v q r refl k p
holding_order_own c h u x v (Drop j ∷ q) r k p = simp (finals_append, add-zero) p
holding_order_own c h u x v (Leave j ∷ q) r k p = rw (same_self c) (simp (finals_append, add-zero) (left_now _ _ _ _ _ _ _ _ _ (leaves h q) _ _ (v.left c h) (h == j) (num_le (at (x.given h) u)) p))
holding_order_own c h u x v (Signal b ∷ q) r k p = simp (finals_append, add-zero) p

nobody_less : (a gv f t ff un hl fr ho lv le nb nc fi : ℕ) → nb ≤ nc → Holding a gv f t ff un hl fr ho lv le nb fi → Holding a gv f t ff un hl fr ho lv le nc fi
nobody_less a gv f t ff un hl fr ho lv le nb nc fi l p = grind (arith, p)

other_holder : (a c h g : ℕ) (v : Conn) (b e : Bool) → (c == a) ≡ e → e ≡ false → Free v a g → is v.holder c h ≡ b → b ≡ false
other_holder a c h g v false e t n f p = refl
other_holder a c h g v true e t n f p = absurd (let z = rw ((f.mine c h p).0, same_self a) at t in cc)

none_after : (b n : Bool) → n ≡ false → (if b then 0 else num n) ≡ num n
none_after true n e = sym (ap num e)
none_after false n e = refl

vacant_after : (s b : Bool) (o : Option Op) → num (s && vacant o) ≤ num (s && vacant (if b then None else o))
vacant_after true true o = num_le (vacant o)
vacant_after true false o = omega arith
vacant_after false b o = omega arith

no_one : (s t : Bool) → s ≡ false → num (s && t) ≤ num (s && false)
no_one true t e = absurd (cc)
no_one false t e = omega arith

holding_forward_other : (st : Bool) (a c h j g u : ℕ) (x : Client) (v : Conn) (q : List ToConn) (r : List ToClient) → stopped v ≡ st → (c == a) ≡ false → Free v a g → HoldingOf c h u x v q r → HoldingOf c h u x (forward_row st true a j g v) q r
holding_forward_other true a c h j g u x v q r s e f p =
    rw (e, holder_after (is v.holder a g) v.holder c h, none_after (is v.holder a g) (is v.holder c h) (other_holder a c h g v (is v.holder c h) (c == a) refl e f refl)) p
holding_forward_other false a c h j g u x v q r s e f p =
    let z = other_holder a c h g v (is v.holder c h) (c == a) refl e f refl in
    rw e (rw z at p)

holding_order_other : (a c h u : ℕ) (y x : Client) (v : Conn) (ls q : List ToConn) (r : List ToClient) → (c == a) ≡ false → OrderFirst a u y v ls → HoldingOf c h u x v q r → HoldingOf c h u x (take_order true a ls v) q r
holding_order_other a c h u y x v [] q r e k p = p
holding_order_other a c h u y x v (Forward j g ∷ ls) q r e k p = holding_forward_other (stopped v) a c h j g u x v q r refl e k.ready.free p
holding_order_other a c h u y x v (Drop j ∷ ls) q r e k p = p
holding_order_other a c h u y x v (Leave j ∷ ls) q r e k p = rw e p
holding_order_other a c h u y x v (Signal b ∷ ls) q r e k p = p

pub holding_order : (b bu : Bool) (a c h u : ℕ) (x : ℕ → Client) (v : Conn) (q : ℕ → List ToConn) (r : List ToClient) → (c == a) ≡ b → ((i : ℕ) → OrderFirst i u (x i) v (q i)) → HoldingOf c h u (x c) v (q c) r
    → HoldingOf c h u (x c) (if bu then take_order true a (q a) v else v) (if b && bu then tail (q c) else q c) (if b && bu then r ++ order_answer (q c) v else r)
holding_order true true a c h u x v q r e k p =
    subst (λ (i : ℕ). HoldingOf c h u (x c) (take_order true i (q i) v) (tail (q c)) (r ++ order_answer (q c) v)) (same_number c a e) (holding_order_own c h u (x c) v (q c) r (k c) p)
holding_order false true a c h u x v q r e k p = holding_order_other a c h u (x a) (x c) v (q a) (q c) r e (k a) p
holding_order true false a c h u x v q r e k p = p
holding_order false false a c h u x v q r e k p = p

-- an answer that isn't the last
pub finals_more : (b y : Bool) (k j : ℕ) (r : List ToClient) → finals k (if b then r ++ (if y then Reply j false false ∷ [] else []) else r) ≡ finals k r
finals_more false y k j r = refl
finals_more true true k j r = simp (finals_append, add-zero) refl
finals_more true false k j r = simp (finals_append, add-zero) refl

-- it is done with its Bind: where no holder stays, a final answer of the last Bind is on its way
more_finals : (a gv f t ff un hl fr ho lv le nb fi fn : ℕ) → fi ≤ fn → Holding a gv f t ff un hl fr ho lv le nb fi → Holding a gv f t ff un hl fr ho lv le nb fn
more_finals a gv f t ff un hl fr ho lv le nb fi fn l p = grind (arith, p)

freed_now : (a gv f t ff un ho lv le nb nc fi fn : ℕ) (hl fr : Bool) → t ≤ 1 → nb ≤ nc → fi ≤ fn → (hl ≡ true → 1 ≤ nc + fn) → Holding a gv f t ff un (num hl) (num fr) ho lv le nb fi → Holding a gv f t ff un 0 (num (if hl then true else fr)) ho lv le nc fn
freed_now a gv f t ff un ho lv le nb nc fi fn true fr l m n k p = let one = k refl in grind (arith, p)
freed_now a gv f t ff un ho lv le nb nc fi fn false fr l m n k p = grind (arith, p)

free_is : (o : Option Op) (freed : ℕ → ℕ → Bool) (c h : ℕ) → free o freed c h ≡ (if is o c h then true else freed c h)
free_is None freed c h = refl
free_is (Some o) freed c h = refl

finals_grow : (b : Bool) (k : ℕ) (r ys : List ToClient) → finals k r ≤ finals k (if b then r ++ ys else r)
finals_grow true k r ys = omega (arith, finals_append k r ys)
finals_grow false k r ys = omega arith

vacant_more : (s : Bool) (o : Option Op) → num (s && vacant o) ≤ num (s && true)
vacant_more true o = num_le (vacant o)
vacant_more false o = omega arith

finish_final : (k j : ℕ) (failed : Bool) (r : List ToClient) → k ≡ j → 1 ≤ finals k (r ++ finish_letter true failed j false)
finish_final k j true r e = rw (finals_append k r (Failed j ∷ []), e, same_self j) (omega arith)
finish_final k j false r e = rw (finals_append k r (Reply j true false ∷ []), e, same_self j) (omega arith)

final_if : (b : Bool) (k j : ℕ) (failed : Bool) (r : List ToClient) → b ≡ true → k ≡ j → 1 ≤ finals k (if b then r ++ finish_letter true failed j false else r)
final_if true k j failed r e s = finish_final k j failed r s
final_if false k j failed r e s = absurd (cc)

-- the client of the live Bind has the holder
mine_client : (o : Option Op) (a c h : ℕ) → client_is o a ≡ true → is o c h ≡ true → c ≡ a
mine_client None a c h p q = absurd (cc)
mine_client (Some o) a c h p q = grind (arith, nat_tests, p, q)

under_true : (r n h : Bool) → num r ≡ num n → num n ≤ num h → r ≡ true → h ≡ true
under_true true true true p q e = refl
under_true true true false p q e = absurd (omega arith)
under_true true false h p q e = absurd (omega arith)
under_true false n h p q e = absurd (cc)

pub holding_done : (bu y stay failed : Bool) (a c h j u : ℕ) (x : Client) (v : Conn) (q : List ToConn) (r : List ToClient) → v.rows a j ≡ y → StandsOf a j v → (y ≡ true → (c == a) ≡ true → x.current ≡ j) → HoldingOf c h u x v q r
    → HoldingOf c h u x (if bu then finish_row y true stay a j v else v) q (if (c == a) && bu then r ++ finish_letter y failed j stay else r)
holding_done false y stay failed a c h j u x v q r e s k p = more_finals _ _ _ _ _ _ _ _ _ _ _ _ _ _ (finals_grow ((c == a) && false) x.current r (finish_letter y failed j stay)) p
holding_done true false stay failed a c h j u x v q r e s k p = more_finals _ _ _ _ _ _ _ _ _ _ _ _ _ _ (finals_grow ((c == a) && true) x.current r []) p
holding_done true true true failed a c h j u x v q r e s k p = more_finals _ _ _ _ _ _ _ _ _ _ _ _ _ _ (finals_grow ((c == a) && true) x.current r (finish_letter true failed j true)) p
holding_done true true false failed a c h j u x v q r e s k p =
    rw (free_is v.holder v.freed c h)
    (freed_now _ _ _ _ _ _ _ _ _ _ _ (finals x.current r) _ (is v.holder c h) (v.freed c h) (num_le (v.taken c h)) (omega arith) (finals_grow ((c == a) && true) x.current r (finish_letter true failed j false))
    (λ m. let same = mine_client v.holder a c h (under_true (v.rows a j) (is v.now a j) (client_is v.holder a) s.one s.under e) m in
    let t : (c == a) ≡ true = rw (same, same_self a) refl in
    let w = final_if ((c == a) && true) x.current j failed r (rw t refl) (k refl t) in
    omega arith) p)

-- it goes down, comes up, retires
or_true : (a : Bool) → (a || true) ≡ true
or_true true = refl
or_true false = refl

pub holding_breaks : (bu y : Bool) (c h u : ℕ) (x : Client) (v : Conn) (q : List ToConn) (r : List ToClient) → Lost v → (y ≡ true → num (is v.lost c h) ≡ 0) → HoldingOf c h u x v q r → HoldingOf c h u x (if bu then break_row y true v else v) q r
holding_breaks false y c h u x v q r s z p = p
holding_breaks true false c h u x v q r s z p = p
holding_breaks true true c h u x v q r s z p = let none = z refl in rw (free_is v.holder v.freed c h) (freed_now _ _ _ _ _ _ _ _ _ _ (num (is v.holder c h)) (finals x.current r) _ (is v.holder c h) (v.freed c h) (num_le (v.taken c h)) (omega arith) (omega arith) (λ m. let one = ap num m in omega arith) p)

pub holding_up : (bu y : Bool) (c h u : ℕ) (x : Client) (v : Conn) (q : List ToConn) (r : List ToClient) → HoldingOf c h u x v q r → HoldingOf c h u x (if bu then up_row y v else v) q r
holding_up false y c h u x v q r p = p
holding_up true false c h u x v q r p = p
holding_up true true c h u x v q r p = p

retired_more : (s t : Bool) → num (s && t) ≤ num t
retired_more true t = omega arith
retired_more false t = omega arith

pub holding_retires : (bu y : Bool) (c h u : ℕ) (x : Client) (v : Conn) (q : List ToConn) (r : List ToClient) → HoldingOf c h u x v q r → HoldingOf c h u x (if bu then retire_row y v else v) q r
holding_retires false y c h u x v q r p = p
holding_retires true false c h u x v q r p = p
holding_retires true true c h u x v q r p = p
