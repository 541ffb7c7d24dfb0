-- The sides of a fork: what is done to one identifier is done on its own side.
use Rattle.std.proofs.Common.{◌≡◌, ℕ, ◌+◌, ◌*◌, ◌≤◌, ◌<◌, ◌==◌, not, ◌&&◌, nat_le, Bool, true, false, cond, min, List, [], ◌∷◌, ◌++◌, length, Option, Some, None, refl, ap, ◌∙◌, arith, if◌then◌else◌}
use Rattle.std.proofs.lemmas.Bool.Decides.{nat_tests}
use Rattle.std.specs.Ordering.{nat_cmp, match_ordering}
use Rattle.std.specs.declared.cmp.Ordering.{Ordering}
use Rattle.std.specs.declared.cmp.Ordering.TheVariants.{Less, Equal, Greater}
use Rattle.std.specs.BTreeMap.{insert_entry, is_at}
use Rattle.std.specs.Map.{lookup, remove_entry, set_value}
use Rattle.op_deadlines.specs.Due.{is_due, lower, lowest_due, all_due}
use Rattle.op_deadlines.specs.Tree.{earliest, Within}

-- an identifier is told from one above it and from one below it
at-above : (id k : ℕ) → id < k → is_at (nat_cmp id) k ≡ false
at-above id k h = grind (arith, nat_tests, h)

at-below : (id k : ℕ) → k < id → is_at (nat_cmp id) k ≡ false
at-below id k h = grind (arith, nat_tests, h)

less : (id k : ℕ) → id < k → nat_cmp id k ≡ Less
less id k h = grind (arith, nat_tests, h)

greater : (id k : ℕ) → k < id → nat_cmp id k ≡ Greater
greater id k h = grind (arith, nat_tests, h)

-- Bounds.

pub within-wider : (a b c d : ℕ) (es : List (ℕ × ℕ)) → c ≤ a → b ≤ d → Within a b es → Within c d es
within-wider a b c d [] l r h = tt
within-wider a b c d (e ∷ es) l r h = (omega (arith, l, h.0), omega (arith, r, h.1), within-wider a b c d es l r h.2)

pub within-append : (a b c : ℕ) (xs ys : List (ℕ × ℕ)) → a ≤ b → b ≤ c → Within a b xs → Within b c ys → Within a c (xs ++ ys)
within-append a b c [] ys l r h k = within-wider b c a c ys l (omega arith) k
within-append a b c (x ∷ xs) ys l r h k = (h.0, omega (arith, r, h.1), within-append a b c xs ys l r h.2 k)

within-set-step : (a b : ℕ) (e : ℕ × ℕ) (es fs : List (ℕ × ℕ)) (w : ℕ) (t : Bool) → Within a b (e ∷ es) → Within a b fs → Within a b (cond t ((e.0, w) ∷ es) (e ∷ fs))
within-set-step a b e es fs w true h k = h
within-set-step a b e es fs w false h k = (h.0, h.1, k)

pub within-set : (a b : ℕ) (test : ℕ → Bool) (es : List (ℕ × ℕ)) (w : ℕ) → Within a b es → Within a b (set_value test es w)
within-set a b test [] w h = tt
within-set a b test (e ∷ es) w h = within-set-step a b e es _ w (test e.0) h (within-set a b test es w h.2)

within-remove-step : (a b : ℕ) (e : ℕ × ℕ) (es fs : List (ℕ × ℕ)) (t : Bool) → Within a b (e ∷ es) → Within a b fs → Within a b (cond t es (e ∷ fs))
within-remove-step a b e es fs true h k = h.2
within-remove-step a b e es fs false h k = (h.0, h.1, k)

pub within-remove : (a b : ℕ) (test : ℕ → Bool) (es : List (ℕ × ℕ)) → Within a b es → Within a b (remove_entry test es)
within-remove a b test [] h = tt
within-remove a b test (e ∷ es) h = within-remove-step a b e es _ (test e.0) h (within-remove a b test es h.2)

within-insert-step : (a b id w : ℕ) (e : ℕ × ℕ) (es fs : List (ℕ × ℕ)) (o : Ordering) → a ≤ id → id < b → Within a b (e ∷ es) → Within a b fs → Within a b (match_ordering o ((id, w) ∷ e ∷ es) ((e.0, w) ∷ es) (e ∷ fs))
within-insert-step a b id w e es fs Less l r h k = (l, r, h)
within-insert-step a b id w e es fs Equal l r h k = h
within-insert-step a b id w e es fs Greater l r h k = (h.0, h.1, k)

pub within-insert : (a b id w : ℕ) (es : List (ℕ × ℕ)) → a ≤ id → id < b → Within a b es → Within a b (insert_entry nat_cmp es id w)
within-insert a b id w [] l r h = (l, r, tt)
within-insert a b id w (e ∷ es) l r h = within-insert-step a b id w e es _ (nat_cmp id e.0) l r h (within-insert a b id w es l r h.2)

-- How many there are.

insert-some-step : (e x y : ℕ × ℕ) (xs ys zs : List (ℕ × ℕ)) (o : Ordering) → 1 ≤ length (match_ordering o (x ∷ xs) (y ∷ ys) (e ∷ zs))
insert-some-step e x y xs ys zs Less = omega arith
insert-some-step e x y xs ys zs Equal = omega arith
insert-some-step e x y xs ys zs Greater = omega arith

pub insert-some : (id w : ℕ) (es : List (ℕ × ℕ)) → 1 ≤ length (insert_entry nat_cmp es id w)
insert-some id w [] = omega arith
insert-some id w (e ∷ es) = insert-some-step e _ _ _ _ _ (nat_cmp id e.0)

pub none-left : (es : List (ℕ × ℕ)) → length es ≡ 0 → es ≡ []
none-left [] h = refl
none-left (e ∷ es) h = absurd (omega (arith, h))

-- The earliest moment.

earliest-last : (es : List (ℕ × ℕ)) → earliest es ≤ 18446744073709551615
earliest-last [] = omega arith
earliest-last (e ∷ es) = omega (arith, earliest-last es)

pub earliest-append : (xs ys : List (ℕ × ℕ)) → earliest (xs ++ ys) ≡ min (earliest xs) (earliest ys)
earliest-append [] ys = omega (arith, earliest-last ys)
earliest-append (x ∷ xs) ys = let h = earliest-append xs ys in omega (arith, h)

later : (t now a b : ℕ) (c : Bool) → a ≤ b → not c && nat_le (a + 1000 * t) now ≡ false → not c && nat_le (b + 1000 * t) now ≡ false
later t now a b true l h = refl
later t now a b false l h = grind (arith, nat_tests, l, h)

not-due : (t now m : ℕ) (e : ℕ × ℕ) (o : Option ℕ) → m ≤ e.1 → is_due t now m ≡ false → o ≡ None → (if is_due t now e.1 then Some (lower e.0 o) else o) ≡ None
not-due t now m e o l h n = rw (later t now m e.1 (t == 0) l h) n

none-due-below : (t now m : ℕ) (es : List (ℕ × ℕ)) → m ≤ earliest es → is_due t now m ≡ false → lowest_due t now es ≡ None
none-due-below t now m [] l h = refl
none-due-below t now m (e ∷ es) l h = not-due t now m e (lowest_due t now es) (omega (arith, l)) h (none-due-below t now m es (omega (arith, l)) h)

-- where the earliest isn't due, none is
pub none-due : (t now : ℕ) (es : List (ℕ × ℕ)) → is_due t now (earliest es) ≡ false → lowest_due t now es ≡ None
none-due t now es h = none-due-below t now (earliest es) es (omega arith) h

not-among : (t now m : ℕ) (e : ℕ × ℕ) (ids : List ℕ) → m ≤ e.1 → is_due t now m ≡ false → ids ≡ [] → (if is_due t now e.1 then e.0 ∷ ids else ids) ≡ []
not-among t now m e ids l h n = rw (later t now m e.1 (t == 0) l h) n

none-among-below : (t now m : ℕ) (es : List (ℕ × ℕ)) → m ≤ earliest es → is_due t now m ≡ false → all_due t now es ≡ []
none-among-below t now m [] l h = refl
none-among-below t now m (e ∷ es) l h = not-among t now m e (all_due t now es) (omega (arith, l)) h (none-among-below t now m es (omega (arith, l)) h)

pub none-among : (t now : ℕ) (es : List (ℕ × ℕ)) → is_due t now (earliest es) ≡ false → all_due t now es ≡ []
none-among t now es h = none-among-below t now (earliest es) es (omega arith) h

among-step : (b : Bool) (id : ℕ) (xs ys zs : List ℕ) → zs ≡ xs ++ ys → (if b then id ∷ zs else zs) ≡ (if b then id ∷ xs else xs) ++ ys
among-step true id xs ys zs h = ap (λ l. id ∷ l) h
among-step false id xs ys zs h = h

-- those that are due on both sides
pub among-append : (t now : ℕ) (xs ys : List (ℕ × ℕ)) → all_due t now (xs ++ ys) ≡ all_due t now xs ++ all_due t now ys
among-append t now [] ys = refl
among-append t now (x ∷ xs) ys = among-step (is_due t now x.1) x.0 _ _ _ (among-append t now xs ys)

-- The lowest that is due.

abbrev pub or_else : Option ℕ → Option ℕ → Option ℕ
or_else None o = o
or_else (Some id) o = Some id

lower-step : (x y : ℕ) (o : Option ℕ) (b : Bool) → x < y → lower x o ≡ x → lower x (if b then Some (lower y o) else o) ≡ x
lower-step x y None true h e = omega arith
lower-step x y (Some k) true h e = omega (arith, h, e)
lower-step x y o false h e = e

-- an identifier below all others is lower than the lowest of them
lower-within : (t now x a b : ℕ) (es : List (ℕ × ℕ)) → x < a → Within a b es → lower x (lowest_due t now es) ≡ x
lower-within t now x a b [] l h = refl
lower-within t now x a b (e ∷ es) l h = lower-step x e.0 (lowest_due t now es) (is_due t now e.1) (omega (arith, l, h.0)) (lower-within t now x a b es l h.2)

lower-first : (x : ℕ) (o p : Option ℕ) → lower x p ≡ x → lower x (or_else o p) ≡ lower x o
lower-first x None p h = h
lower-first x (Some k) p h = refl

due-step : (x : ℕ) (b : Bool) (all o p : Option ℕ) → all ≡ or_else o p → lower x p ≡ x → (if b then Some (lower x all) else all) ≡ or_else (if b then Some (lower x o) else o) p
due-step x true all o p e h = ap Some (ap (lower x) e ∙ lower-first x o p h)
due-step x false all o p e h = e

-- it is on the low side, where one is due there
pub due-append : (t now a b c : ℕ) (xs ys : List (ℕ × ℕ)) → Within a b xs → Within b c ys → lowest_due t now (xs ++ ys) ≡ or_else (lowest_due t now xs) (lowest_due t now ys)
due-append t now a b c [] ys h k = refl
due-append t now a b c (x ∷ xs) ys h k = due-step x.0 (is_due t now x.1) _ _ _ (due-append t now a b c xs ys h.2 k) (lower-within t now x.0 b c ys h.1 k)

-- A look-up.

lookup-step : (e : ℕ × ℕ) (b : Bool) (x y : Option ℕ) → b ≡ false → y ≡ x → cond b (Some e.1) y ≡ x
lookup-step e true x y h k = absurd (let bad : true ≡ false = h in cc)
lookup-step e false x y h k = k

pub lookup-below : (id a b : ℕ) (es : List (ℕ × ℕ)) → id < a → Within a b es → lookup (is_at (nat_cmp id)) es ≡ None
lookup-below id a b [] l h = refl
lookup-below id a b (e ∷ es) l h = lookup-step e (is_at (nat_cmp id) e.0) None _ (at-above id e.0 (omega (arith, l, h.0))) (lookup-below id a b es l h.2)

pub lookup-above : (id a b : ℕ) (es : List (ℕ × ℕ)) → b ≤ id → Within a b es → lookup (is_at (nat_cmp id)) es ≡ None
lookup-above id a b [] l h = refl
lookup-above id a b (e ∷ es) l h = lookup-step e (is_at (nat_cmp id) e.0) None _ (at-below id e.0 (omega (arith, l, h.1))) (lookup-above id a b es l h.2)

lookup-cons : (e : ℕ × ℕ) (b : Bool) (x y : Option ℕ) → x ≡ y → cond b (Some e.1) x ≡ cond b (Some e.1) y
lookup-cons e b x y h = ap (cond b (Some e.1)) h

pub lookup-low : (id b c : ℕ) (xs ys : List (ℕ × ℕ)) → id < b → Within b c ys → lookup (is_at (nat_cmp id)) (xs ++ ys) ≡ lookup (is_at (nat_cmp id)) xs
lookup-low id b c [] ys l k = lookup-below id b c ys l k
lookup-low id b c (x ∷ xs) ys l k = lookup-cons x (is_at (nat_cmp id) x.0) _ _ (lookup-low id b c xs ys l k)

pub lookup-high : (id a b : ℕ) (xs ys : List (ℕ × ℕ)) → b ≤ id → Within a b xs → lookup (is_at (nat_cmp id)) (xs ++ ys) ≡ lookup (is_at (nat_cmp id)) ys
lookup-high id a b [] ys l h = refl
lookup-high id a b (x ∷ xs) ys l h = lookup-step x (is_at (nat_cmp id) x.0) _ _ (at-below id x.0 (omega (arith, l, h.1))) (lookup-high id a b xs ys l h.2)

-- A write.

write-step : (e : ℕ × ℕ) (b : Bool) (w : ℕ) (es fs gs : List (ℕ × ℕ)) → b ≡ false → fs ≡ gs → cond b ((e.0, w) ∷ es) (e ∷ fs) ≡ e ∷ gs
write-step e true w es fs gs h k = absurd (let bad : true ≡ false = h in cc)
write-step e false w es fs gs h k = ap (λ l. e ∷ l) k

set-below : (id a b w : ℕ) (es : List (ℕ × ℕ)) → id < a → Within a b es → set_value (is_at (nat_cmp id)) es w ≡ es
set-below id a b w [] l h = refl
set-below id a b w (e ∷ es) l h = write-step e (is_at (nat_cmp id) e.0) w es _ _ (at-above id e.0 (omega (arith, l, h.0))) (set-below id a b w es l h.2)

set-cons : (e : ℕ × ℕ) (b : Bool) (w : ℕ) (xs ys fs gs : List (ℕ × ℕ)) → fs ≡ gs ++ ys → cond b ((e.0, w) ∷ xs ++ ys) (e ∷ fs) ≡ cond b ((e.0, w) ∷ xs) (e ∷ gs) ++ ys
set-cons e true w xs ys fs gs h = refl
set-cons e false w xs ys fs gs h = ap (λ l. e ∷ l) h

pub set-low : (id b c w : ℕ) (xs ys : List (ℕ × ℕ)) → id < b → Within b c ys → set_value (is_at (nat_cmp id)) (xs ++ ys) w ≡ set_value (is_at (nat_cmp id)) xs w ++ ys
set-low id b c w [] ys l k = set-below id b c w ys l k
set-low id b c w (x ∷ xs) ys l k = set-cons x (is_at (nat_cmp id) x.0) w xs ys _ _ (set-low id b c w xs ys l k)

pub set-high : (id a b w : ℕ) (xs ys : List (ℕ × ℕ)) → b ≤ id → Within a b xs → set_value (is_at (nat_cmp id)) (xs ++ ys) w ≡ xs ++ set_value (is_at (nat_cmp id)) ys w
set-high id a b w [] ys l h = refl
set-high id a b w (x ∷ xs) ys l h = write-step x (is_at (nat_cmp id) x.0) w (xs ++ ys) _ _ (at-below id x.0 (omega (arith, l, h.1))) (set-high id a b w xs ys l h.2)

-- One that goes.

go-step : (e : ℕ × ℕ) (b : Bool) (es fs gs : List (ℕ × ℕ)) → b ≡ false → fs ≡ gs → cond b es (e ∷ fs) ≡ e ∷ gs
go-step e true es fs gs h k = absurd (let bad : true ≡ false = h in cc)
go-step e false es fs gs h k = ap (λ l. e ∷ l) k

remove-below : (id a b : ℕ) (es : List (ℕ × ℕ)) → id < a → Within a b es → remove_entry (is_at (nat_cmp id)) es ≡ es
remove-below id a b [] l h = refl
remove-below id a b (e ∷ es) l h = go-step e (is_at (nat_cmp id) e.0) es _ _ (at-above id e.0 (omega (arith, l, h.0))) (remove-below id a b es l h.2)

remove-cons : (e : ℕ × ℕ) (b : Bool) (xs ys fs gs : List (ℕ × ℕ)) → fs ≡ gs ++ ys → cond b (xs ++ ys) (e ∷ fs) ≡ cond b xs (e ∷ gs) ++ ys
remove-cons e true xs ys fs gs h = refl
remove-cons e false xs ys fs gs h = ap (λ l. e ∷ l) h

pub remove-low : (id b c : ℕ) (xs ys : List (ℕ × ℕ)) → id < b → Within b c ys → remove_entry (is_at (nat_cmp id)) (xs ++ ys) ≡ remove_entry (is_at (nat_cmp id)) xs ++ ys
remove-low id b c [] ys l k = remove-below id b c ys l k
remove-low id b c (x ∷ xs) ys l k = remove-cons x (is_at (nat_cmp id) x.0) xs ys _ _ (remove-low id b c xs ys l k)

pub remove-high : (id a b : ℕ) (xs ys : List (ℕ × ℕ)) → b ≤ id → Within a b xs → remove_entry (is_at (nat_cmp id)) (xs ++ ys) ≡ xs ++ remove_entry (is_at (nat_cmp id)) ys
remove-high id a b [] ys l h = refl
remove-high id a b (x ∷ xs) ys l h = go-step x (is_at (nat_cmp id) x.0) (xs ++ ys) _ _ (at-below id x.0 (omega (arith, l, h.1))) (remove-high id a b xs ys l h.2)

-- One that comes.

pub insert-below : (id a b w : ℕ) (es : List (ℕ × ℕ)) → id < a → Within a b es → insert_entry nat_cmp es id w ≡ (id, w) ∷ es
insert-below id a b w [] l h = refl
insert-below id a b w (e ∷ es) l h = rw (less id e.0 (omega (arith, l, h.0))) refl

come-step : (e x y : ℕ × ℕ) (o : Ordering) (xs ys fs gs : List (ℕ × ℕ)) → o ≡ Greater → fs ≡ gs → match_ordering o (x ∷ xs) (y ∷ ys) (e ∷ fs) ≡ e ∷ gs
come-step e x y o xs ys fs gs h k = rw h (ap (λ l. e ∷ l) k)

insert-cons : (id w : ℕ) (e : ℕ × ℕ) (o : Ordering) (xs ys fs gs : List (ℕ × ℕ)) → fs ≡ gs ++ ys → match_ordering o ((id, w) ∷ e ∷ xs ++ ys) ((e.0, w) ∷ xs ++ ys) (e ∷ fs) ≡ match_ordering o ((id, w) ∷ e ∷ xs) ((e.0, w) ∷ xs) (e ∷ gs) ++ ys
insert-cons id w e Less xs ys fs gs h = refl
insert-cons id w e Equal xs ys fs gs h = refl
insert-cons id w e Greater xs ys fs gs h = ap (λ l. e ∷ l) h

pub insert-low : (id b c w : ℕ) (xs ys : List (ℕ × ℕ)) → id < b → Within b c ys → insert_entry nat_cmp (xs ++ ys) id w ≡ insert_entry nat_cmp xs id w ++ ys
insert-low id b c w [] ys l k = insert-below id b c w ys l k
insert-low id b c w (x ∷ xs) ys l k = insert-cons id w x (nat_cmp id x.0) xs ys _ _ (insert-low id b c w xs ys l k)

pub insert-high : (id a b w : ℕ) (xs ys : List (ℕ × ℕ)) → b ≤ id → Within a b xs → insert_entry nat_cmp (xs ++ ys) id w ≡ xs ++ insert_entry nat_cmp ys id w
insert-high id a b w [] ys l h = refl
insert-high id a b w (x ∷ xs) ys l h = come-step x _ _ (nat_cmp id x.0) _ _ _ _ (greater id x.0 (omega (arith, l, h.1))) (insert-high id a b w xs ys l h.2)

come-last : (id w : ℕ) (e : ℕ × ℕ) (o : Ordering) (es fs : List (ℕ × ℕ)) → o ≡ Greater → fs ≡ es ++ (id, w) ∷ [] → match_ordering o ((id, w) ∷ e ∷ es) ((e.0, w) ∷ es) (e ∷ fs) ≡ e ∷ es ++ (id, w) ∷ []
come-last id w e o es fs h k = rw h (ap (λ l. e ∷ l) k)

pub insert-above : (id a b w : ℕ) (es : List (ℕ × ℕ)) → b ≤ id → Within a b es → insert_entry nat_cmp es id w ≡ es ++ (id, w) ∷ []
insert-above id a b w [] l h = refl
insert-above id a b w (e ∷ es) l h = come-last id w e (nat_cmp id e.0) es _ (greater id e.0 (omega (arith, l, h.1))) (insert-above id a b w es l h.2)
