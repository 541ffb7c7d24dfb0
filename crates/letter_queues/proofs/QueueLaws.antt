-- The queues of lists of letters in flight.
use Rattle.std.proofs.Common.{◌≡◌, Bool, true, false, cond, ◌&&◌, List, [], ◌∷◌, ◌++◌, filter, map, Some, refl, ap, sym, ◌∙◌, subst, append_assoc}
use Rattle.std.proofs.lemmas.List.{map-append}
use Rattle.std.proofs.lemmas.List.Elements.{filter-append}
use Rattle.std.specs.Prelude.{find}
use Rattle.std.specs.Option.{option_map}
use Rattle.lload_names.specs.declared.names.Letter.{Letter}
use Rattle.lload_names.specs.declared.names.PartName.{PartName}
use Rattle.lload_names.specs.declared.names.Posted.{Posted}
use Rattle.lload_names.specs.Same.{same_part}
use Rattle.part_spec.specs.World.{Flight, flights, is_between, without_first}
use Rattle.letter_queues.specs.Queues.{queue, first_letter, later_letters, AreSame, between}
use Rattle.letter_queues.specs.Laws.{FirstIsFound, TakenLetterIsGone}
use Rattle.letter_queues.proofs.PartOrder.{part-is}

abbrev letter_of : Flight → Letter
letter_of f = f.posted.letter

filter-yes : {A : Type 0} (test : A → Bool) (x : A) (xs : List A) → test x ≡ true → filter test (x ∷ xs) ≡ x ∷ filter test xs
filter-yes test x xs e = ap (λ b. cond b (x ∷ filter test xs) (filter test xs)) e

filter-no : {A : Type 0} (test : A → Bool) (x : A) (xs : List A) → test x ≡ false → filter test (x ∷ xs) ≡ filter test xs
filter-no test x xs e = ap (λ b. cond b (x ∷ filter test xs) (filter test xs)) e

pub queue-append : (s r : PartName) (xs ys : List Flight) → queue s r (xs ++ ys) ≡ queue s r xs ++ queue s r ys
queue-append s r xs ys = ap (map letter_of) (filter-append (is_between s r) xs ys) ∙ map-append letter_of (filter (is_between s r) xs) (filter (is_between s r) ys)

pub queue-cons : (s r : PartName) (f : Flight) (xs : List Flight) → queue s r (f ∷ xs) ≡ queue s r (f ∷ []) ++ queue s r xs
queue-cons s r f xs = queue-append s r (f ∷ []) xs

pub queue-yes : (s r : PartName) (f : Flight) (xs : List Flight) → is_between s r f ≡ true → queue s r (f ∷ xs) ≡ f.posted.letter ∷ queue s r xs
queue-yes s r f xs e = ap (map letter_of) (filter-yes (is_between s r) f xs e)

pub queue-no : (s r : PartName) (f : Flight) (xs : List Flight) → is_between s r f ≡ false → queue s r (f ∷ xs) ≡ queue s r xs
queue-no s r f xs e = ap (map letter_of) (filter-no (is_between s r) f xs e)

both : (a b : Bool) → (a && b) ≡ true → (a ≡ true) × (b ≡ true)
both true true h = (refl, refl)
both true false h = absurd (let bad : false ≡ true = h in cc)
both false b h = absurd (let bad : false ≡ true = h in cc)

-- a letter is in one queue
pub one-queue : (s r p q : PartName) (f : Flight) → (same_part p s && same_part q r) ≡ false → is_between s r f ≡ true → is_between p q f ≡ false
one-queue s r p q f apart e =
    let h = both (same_part s f.from) (same_part r f.posted.to) e in
    let from = part-is s f.from h.0 in
    let to = part-is r f.posted.to h.1 in
    ap (λ x. same_part p x && same_part q f.posted.to) (sym from) ∙ ap (λ x. same_part p s && same_part q x) (sym to) ∙ apart

-- the first of a queue leaves
pub queue-without : (s r : PartName) (fs : List Flight) → queue s r (without_first (is_between s r) fs) ≡ later_letters (queue s r fs)
queue-without s r [] = refl
queue-without s r (f ∷ fs) = by (is_between s r f) refl (queue-without s r fs)
  where
    by : (b : Bool) → is_between s r f ≡ b → (queue s r (without_first (is_between s r) fs) ≡ later_letters (queue s r fs)) → queue s r (elim b [ true ↦ fs | false ↦ f ∷ without_first (is_between s r) fs ]) ≡ later_letters (queue s r (f ∷ fs))
    by true e next = sym (ap later_letters (queue-yes s r f fs e))
    by false e next = queue-no s r f (without_first (is_between s r) fs) e ∙ next ∙ sym (ap later_letters (queue-no s r f fs e))

pub queue-without-other : (s r p q : PartName) (fs : List Flight) → (same_part p s && same_part q r) ≡ false → queue p q (without_first (is_between s r) fs) ≡ queue p q fs
queue-without-other s r p q [] apart = refl
queue-without-other s r p q (f ∷ fs) apart = by (is_between s r f) refl (queue-without-other s r p q fs apart)
  where
    by : (b : Bool) → is_between s r f ≡ b → (queue p q (without_first (is_between s r) fs) ≡ queue p q fs) → queue p q (elim b [ true ↦ fs | false ↦ f ∷ without_first (is_between s r) fs ]) ≡ queue p q (f ∷ fs)
    by true e next = sym (queue-no p q f fs (one-queue s r p q f apart e))
    by false e next = queue-cons p q f (without_first (is_between s r) fs) ∙ ap (λ l. queue p q (f ∷ []) ++ l) next ∙ sym (queue-cons p q f fs)

find-yes : (test : Flight → Bool) (f : Flight) (fs : List Flight) → test f ≡ true → find test (f ∷ fs) ≡ Some f
find-yes test f fs e = rw e refl

find-no : (test : Flight → Bool) (f : Flight) (fs : List Flight) → test f ≡ false → find test (f ∷ fs) ≡ find test fs
find-no test f fs e = rw e refl

-- the first of a queue is the first such letter
pub queue-first : (s r : PartName) (fs : List Flight) → first_letter (queue s r fs) ≡ option_map letter_of (find (is_between s r) fs)
queue-first s r [] = refl
queue-first s r (f ∷ fs) = by (is_between s r f) refl (queue-first s r fs)
  where
    by : (b : Bool) → is_between s r f ≡ b → (first_letter (queue s r fs) ≡ option_map letter_of (find (is_between s r) fs)) → first_letter (queue s r (f ∷ fs)) ≡ option_map letter_of (find (is_between s r) (f ∷ fs))
    by true e next = ap first_letter (queue-yes s r f fs e) ∙ sym (ap (option_map letter_of) (find-yes (is_between s r) f fs e))
    by false e next = ap first_letter (queue-no s r f fs e) ∙ next ∙ sym (ap (option_map letter_of) (find-no (is_between s r) f fs e))

-- lists with the same queues
pub same-refl : (xs : List Flight) → AreSame xs xs
same-refl xs s r = refl

pub same-sym : (xs ys : List Flight) → AreSame xs ys → AreSame ys xs
same-sym xs ys h s r = sym (h s r)

pub same-trans : (xs ys zs : List Flight) → AreSame xs ys → AreSame ys zs → AreSame xs zs
same-trans xs ys zs h k s r = h s r ∙ k s r

pub same-before : (xs ys zs : List Flight) → AreSame xs ys → AreSame (xs ++ zs) (ys ++ zs)
same-before xs ys zs h s r = queue-append s r xs zs ∙ ap (λ l. l ++ queue s r zs) (h s r) ∙ sym (queue-append s r ys zs)

pub same-behind : (xs ys zs : List Flight) → AreSame xs ys → AreSame (zs ++ xs) (zs ++ ys)
same-behind xs ys zs h s r = queue-append s r zs xs ∙ ap (λ l. queue s r zs ++ l) (h s r) ∙ sym (queue-append s r zs ys)

pub same-equal : (xs ys : List Flight) → xs ≡ ys → AreSame xs ys
same-equal xs ys e s r = ap (queue s r) e

-- the first of a batch goes behind what is sorted
pub batch-step : (p : PartName) (x : Posted) (xs : List Posted) (sorted after : List Flight) → AreSame (sorted ++ flights p (x ∷ [])) after → AreSame (sorted ++ flights p (x ∷ xs)) (after ++ flights p xs)
batch-step p x xs sorted after h =
    same-trans (sorted ++ flights p (x ∷ xs)) ((sorted ++ flights p (x ∷ [])) ++ flights p xs) (after ++ flights p xs)
    (same-equal (sorted ++ flights p (x ∷ xs)) ((sorted ++ flights p (x ∷ [])) ++ flights p xs) (sym (append_assoc sorted (flights p (x ∷ [])) (flights p xs))))
    (same-before (sorted ++ flights p (x ∷ [])) after (flights p xs) h)

-- the first batch goes behind what is sorted, but for what is left of it
pub batches-step : (b bs left sorted after : List Flight) → AreSame (sorted ++ b) (after ++ left) → AreSame (sorted ++ (b ++ bs)) (after ++ (left ++ bs))
batches-step b bs left sorted after h =
    same-trans (sorted ++ (b ++ bs)) ((sorted ++ b) ++ bs) (after ++ (left ++ bs))
    (same-equal (sorted ++ (b ++ bs)) ((sorted ++ b) ++ bs) (sym (append_assoc sorted b bs)))
    (same-trans ((sorted ++ b) ++ bs) ((after ++ left) ++ bs) (after ++ (left ++ bs))
    (same-before (sorted ++ b) (after ++ left) bs h)
    (same-equal ((after ++ left) ++ bs) (after ++ (left ++ bs)) (append_assoc after left bs)))

pub batches-done : (b bs sorted after : List Flight) → AreSame (sorted ++ b) after → AreSame (sorted ++ (b ++ bs)) (after ++ bs)
batches-done b bs sorted after h =
    same-trans (sorted ++ (b ++ bs)) ((sorted ++ b) ++ bs) (after ++ bs)
    (same-equal (sorted ++ (b ++ bs)) ((sorted ++ b) ++ bs) (sym (append_assoc sorted b bs)))
    (same-before (sorted ++ b) after bs h)

-- the letter put back is sorted, and then the batches
pub front-sorted : (back sorted left after given : List Flight) → AreSame (back ++ sorted) (left ++ after) → AreSame (left ++ (after ++ given)) (back ++ (sorted ++ given))
front-sorted back sorted left after given h =
    same-trans (left ++ (after ++ given)) ((left ++ after) ++ given) (back ++ (sorted ++ given))
    (same-equal (left ++ (after ++ given)) ((left ++ after) ++ given) (sym (append_assoc left after given)))
    (same-trans ((left ++ after) ++ given) ((back ++ sorted) ++ given) (back ++ (sorted ++ given))
    (same-before (left ++ after) (back ++ sorted) given (same-sym (back ++ sorted) (left ++ after) h))
    (same-equal ((back ++ sorted) ++ given) (back ++ (sorted ++ given)) (append_assoc back sorted given)))

pub rest-sorted : (back sorted after given left : List Flight) → AreSame (sorted ++ given) (after ++ left) → AreSame (back ++ (after ++ left)) (back ++ (sorted ++ given))
rest-sorted back sorted after given left h = same-behind (after ++ left) (sorted ++ given) back (same-sym (sorted ++ given) (after ++ left) h)

-- laws
pub found : FirstIsFound
found letters q sender receiver carried = sym (ap first_letter (carried sender receiver)) ∙ queue-first sender receiver letters

pub taken : TakenLetterIsGone
taken letters sender receiver before after carried rest others s r = by (same_part s sender && same_part r receiver) refl
  where
    by : (b : Bool) → (same_part s sender && same_part r receiver) ≡ b → queue s r (without_first (is_between sender receiver) letters) ≡ between s r after
    by true e =
        let h = both (same_part s sender) (same_part r receiver) e in
        let here : queue sender receiver (without_first (is_between sender receiver) letters) ≡ between sender receiver after = queue-without sender receiver letters ∙ ap later_letters (carried sender receiver) ∙ sym rest in
        let row = subst (λ x. queue x receiver (without_first (is_between sender receiver) letters) ≡ between x receiver after) (sym (part-is s sender h.0)) here in
        subst (λ x. queue s x (without_first (is_between sender receiver) letters) ≡ between s x after) (sym (part-is r receiver h.1)) row
    by false e = queue-without-other sender receiver s r letters e ∙ carried s r ∙ sym (others s r e)
