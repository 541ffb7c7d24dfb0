-- What each part gave another is what this one took, and then what waits.
use Rattle.std.proofs.Common.{◌≡◌, Bool, true, false, ◌&&◌, List, [], ◌∷◌, ◌++◌, refl, ap, ◌∙◌, sym, append_assoc}
use Rattle.std.specs.Prelude.{Option, Some, None, cond, filter, find, map}
use Rattle.std.proofs.lemmas.List.{append-nil, map-append}
use Rattle.std.proofs.lemmas.List.Elements.{filter-append}
use Rattle.lload_names.specs.declared.inputs.Effects.{Effects}
use Rattle.lload_names.specs.declared.names.Entry.{Entry}
use Rattle.lload_names.specs.declared.names.Letter.{Letter}
use Rattle.lload_names.specs.declared.names.PartName.{PartName}
use Rattle.lload_names.specs.declared.names.Posted.{Posted}
use Rattle.lload_spec.specs.Settings.{Settings}
use Rattle.lload_spec.specs.Journal.{same_part}
use Rattle.lload_spec.proofs.Growth.{left, right}
use Rattle.part_spec.specs.Inputs.{marked_by}
use Rattle.part_spec.specs.Marked.{Marked, Taken, taken_from, letters_to, letter_from}
use Rattle.part_spec.specs.World.{World, Flight, empty_world, behind, flights, is_between, without_first, list_in, given_in}
use Rattle.link_laws.specs.Moves.{has_entry, waiting_between, Links}
use Rattle.link_laws.specs.Laws.{LinksLaw, LinksStay}
use Rattle.link_laws.proofs.Kept.{letter_out, marked_keeps, marked_keep}
use Rattle.link_laws.proofs.Entries.{AreOf, same_part_is, list_behind, letters_behind, given_behind}

-- More letters.

pub taken_more : (p : PartName) (ms ns : List Marked) → taken_from p (ms ++ ns) ≡ taken_from p ms ++ taken_from p ns
taken_more p [] ns = refl
taken_more p (m ∷ ms) ns = ap (λ l. letter_from p m.mark ++ l) (taken_more p ms ns) ∙ sym (append_assoc (letter_from p m.mark) (taken_from p ms) (taken_from p ns))

pub letters_more : (q : PartName) (xs ys : List Posted) → letters_to q (xs ++ ys) ≡ letters_to q xs ++ letters_to q ys
letters_more q [] ys = refl
letters_more q (x ∷ xs) ys =
    let first : List Letter = elim (same_part q x.to) [ true ↦ x.letter ∷ [] | false ↦ [] ] in
    ap (λ l. first ++ l) (letters_more q xs ys) ∙ sym (append_assoc first (letters_to q xs) (letters_to q ys))

-- those of a part's turn, as they are in flight
flights_given : (a p : PartName) (b : Bool) → same_part a p ≡ b → (xs : List Posted) → map (λ (f : Flight). f.posted) (filter (λ (f : Flight). same_part a f.from) (flights p xs)) ≡ cond b xs []
flights_given a p true e [] = refl
flights_given a p false e [] = refl
flights_given a p true e (x ∷ xs) =
    let first : Flight = record { from = p; posted = x } in
    let rest : List Flight = filter (λ (f : Flight). same_part a f.from) (flights p xs) in
    ap (λ t. map (λ (f : Flight). f.posted) (cond t (first ∷ rest) rest)) e ∙ ap (λ l. x ∷ l) (flights_given a p true e xs)
flights_given a p false e (x ∷ xs) =
    let first : Flight = record { from = p; posted = x } in
    let rest : List Flight = filter (λ (f : Flight). same_part a f.from) (flights p xs) in
    ap (λ t. map (λ (f : Flight). f.posted) (cond t (first ∷ rest) rest)) e ∙ flights_given a p false e xs

flights_wait : (a b p : PartName) (t : Bool) → same_part a p ≡ t → (xs : List Posted) → map (λ (f : Flight). f.posted.letter) (filter (is_between a b) (flights p xs)) ≡ cond t (letters_to b xs) []
flights_wait a b p true e [] = refl
flights_wait a b p false e [] = refl
flights_wait a b p true e (x ∷ xs) =
    let first : Flight = record { from = p; posted = x } in
    let rest : List Flight = filter (is_between a b) (flights p xs) in
    ap (λ t. map (λ (f : Flight). f.posted.letter) (cond (t && same_part b x.to) (first ∷ rest) rest)) e ∙ by (same_part b x.to) (flights_wait a b p true e xs)
  where
    by : (t : Bool) → map (λ (f : Flight). f.posted.letter) (filter (is_between a b) (flights p xs)) ≡ letters_to b xs → map (λ (f : Flight). f.posted.letter) (cond t (record { from = p; posted = x } ∷ filter (is_between a b) (flights p xs)) (filter (is_between a b) (flights p xs))) ≡ (elim t [ true ↦ x.letter ∷ [] | false ↦ [] ]) ++ letters_to b xs
    by true h = ap (λ l. x.letter ∷ l) h
    by false h = h
flights_wait a b p false e (x ∷ xs) =
    let first : Flight = record { from = p; posted = x } in
    let rest : List Flight = filter (is_between a b) (flights p xs) in
    ap (λ t. map (λ (f : Flight). f.posted.letter) (cond (t && same_part b x.to) (first ∷ rest) rest)) e ∙ flights_wait a b p false e xs

-- A turn.

pub given_more : (s : Settings) (p : PartName) (mark : Option Taken) (e : Effects) (w : World) (a : PartName) → given_in (behind s p mark e w) a ≡ given_in w a ++ cond (same_part a p) e.letters []
given_more s p mark e w a =
    ap (λ l. map (λ (f : Flight). f.posted) (filter (λ (f : Flight). same_part a f.from) l)) (given_behind s p mark e w)
    ∙ ap (map (λ (f : Flight). f.posted)) (filter-append (λ (f : Flight). same_part a f.from) w.given (flights p e.letters))
    ∙ map-append (λ (f : Flight). f.posted) (filter (λ (f : Flight). same_part a f.from) w.given) (filter (λ (f : Flight). same_part a f.from) (flights p e.letters))
    ∙ ap (λ l. given_in w a ++ l) (flights_given a p (same_part a p) refl e.letters)

pub waiting_more : (s : Settings) (p : PartName) (mark : Option Taken) (e : Effects) (w : World) (a b : PartName) → waiting_between (behind s p mark e w) a b ≡ waiting_between w a b ++ cond (same_part a p) (letters_to b e.letters) []
waiting_more s p mark e w a b =
    ap (λ l. map (λ (f : Flight). f.posted.letter) (filter (is_between a b) l)) (letters_behind s p mark e w)
    ∙ ap (map (λ (f : Flight). f.posted.letter)) (filter-append (is_between a b) w.letters (flights p e.letters))
    ∙ map-append (λ (f : Flight). f.posted.letter) (filter (is_between a b) w.letters) (filter (is_between a b) (flights p e.letters))
    ∙ ap (λ l. waiting_between w a b ++ l) (flights_wait a b p (same_part a p) refl e.letters)

to_those : (b : PartName) (t : Bool) (xs : List Posted) → letters_to b (cond t xs []) ≡ cond t (letters_to b xs) []
to_those b true xs = refl
to_those b false xs = refl

from_those : (a : PartName) (t : Bool) (ms : List Marked) → taken_from a (cond t ms []) ≡ cond t (taken_from a ms) []
from_those a true ms = refl
from_those a false ms = refl

-- where what a part gave another is what this one took, with the letter of the turn, and then what waits, so it is behind
-- the turn
turn_links : (s : Settings) (p : PartName) (mark : Option Taken) (e : Effects) (w : World) (a b : PartName) → AreOf p e.entries → letters_to b (given_in w a) ≡ (taken_from a (list_in w b) ++ cond (same_part b p) (taken_from a (marked_by mark e.entries)) []) ++ waiting_between w a b → letters_to b (given_in (behind s p mark e w) a) ≡ taken_from a (list_in (behind s p mark e w) b) ++ waiting_between (behind s p mark e w) a b
turn_links s p mark e w a b own h =
    let more : List Letter = cond (same_part a p) (letters_to b e.letters) [] in
    let took : List Letter = cond (same_part b p) (taken_from a (marked_by mark e.entries)) [] in
    let given : letters_to b (given_in (behind s p mark e w) a) ≡ letters_to b (given_in w a) ++ more =
    ap (letters_to b) (given_more s p mark e w a) ∙ letters_more b (given_in w a) (cond (same_part a p) e.letters [])
    ∙ ap (λ l. letters_to b (given_in w a) ++ l) (to_those b (same_part a p) e.letters) in
    let taken : taken_from a (list_in (behind s p mark e w) b) ≡ taken_from a (list_in w b) ++ took =
    ap (taken_from a) (list_behind s p mark e w b own) ∙ taken_more a (list_in w b) (cond (same_part b p) (marked_by mark e.entries) [])
    ∙ ap (λ l. taken_from a (list_in w b) ++ l) (from_those a (same_part b p) (marked_by mark e.entries)) in
    given ∙ ap (λ l. l ++ more) h ∙ append_assoc (taken_from a (list_in w b) ++ took) (waiting_between w a b) more
    ∙ ap (λ l. (taken_from a (list_in w b) ++ took) ++ l) (sym (waiting_more s p mark e w a b))
    ∙ ap (λ l. l ++ waiting_between (behind s p mark e w) a b) (sym taken)

-- The marks of a turn.

no_marks : (a : PartName) (es : List Entry) → taken_from a (map (λ x. record { entry = x; mark = None }) es) ≡ []
no_marks a [] = refl
no_marks a (e ∷ es) = no_marks a es

nothing_taken : (a : PartName) (t : Bool) (es : List Entry) → cond t (taken_from a (marked_by None es)) [] ≡ []
nothing_taken a false es = refl
nothing_taken a true [] = refl
nothing_taken a true (e ∷ es) = no_marks a es

pub one_taken : (a : PartName) (mark : Option Taken) (e : Effects) → has_entry e ≡ true → taken_from a (marked_by mark e.entries) ≡ letter_from a mark
one_taken a mark e k = by e.entries k
  where
    by : (es : List Entry) → (elim es [ [] ↦ false | x ∷ xs ↦ true ]) ≡ true → taken_from a (marked_by mark es) ≡ letter_from a mark
    by [] z = absurd (let bad : false ≡ true = z in cc)
    by (x ∷ xs) z = ap (λ l. letter_from a mark ++ l) (no_marks a xs) ∙ append-nil (letter_from a mark)

-- a turn without a letter
pub plain_links : (s : Settings) (p : PartName) (e : Effects) (w : World) → AreOf p e.entries → Links w → Links (behind s p None e w)
plain_links s p e w own h a b =
    turn_links s p None e w a b own
    (h a b ∙ ap (λ l. l ++ waiting_between w a b) (sym (append-nil (taken_from a (list_in w b))) ∙ ap (λ l. taken_from a (list_in w b) ++ l) (sym (nothing_taken a (same_part b p) e.entries))))

-- The first letter leaves the queue.

module _ (q p : PartName) (f : Flight) (a b : PartName) where
  abbrev pub one_out : List Letter
  one_out = cond (same_part a q && same_part b p) (f.posted.letter ∷ []) []

  -- the letters between two parts are the first one, if it is theirs, and those that stay
  pub first_out : (fs : List Flight) → find (is_between q p) fs ≡ Some f → map (λ (x : Flight). x.posted.letter) (filter (is_between a b) fs) ≡ one_out ++ map (λ (x : Flight). x.posted.letter) (filter (is_between a b) (without_first (is_between q p) fs))
  first_out [] e = absurd (let bad : find (is_between q p) [] ≡ Some f = e in cc)
  first_out (x ∷ xs) e = by (is_between q p x) refl e (first_out xs)
    where
      one : (t : Bool) → map (λ (y : Flight). y.posted.letter) (cond t (f ∷ filter (is_between a b) xs) (filter (is_between a b) xs)) ≡ cond t (f.posted.letter ∷ []) [] ++ map (λ (y : Flight). y.posted.letter) (filter (is_between a b) xs)
      one true = refl
      one false = refl

      same_here : is_between q p x ≡ true → x ≡ f → is_between a b f ≡ (same_part a q && same_part b p)
      same_here k z =
          let from : q ≡ f.from = same_part_is q x.from (left (same_part q x.from) (same_part p x.posted.to) k) ∙ ap (λ y. y.from) z in
          let to : p ≡ f.posted.to = same_part_is p x.posted.to (right (same_part q x.from) (same_part p x.posted.to) k) ∙ ap (λ y. y.posted.to) z in
          ap (λ n. same_part a n && same_part b f.posted.to) (sym from) ∙ ap (λ n. same_part a q && same_part b n) (sym to)

      past : (t c : Bool) → (same_part a q && same_part b p) ≡ c → is_between a b x ≡ t → is_between q p x ≡ false → map (λ (y : Flight). y.posted.letter) (filter (is_between a b) xs) ≡ cond c (f.posted.letter ∷ []) [] ++ map (λ (y : Flight). y.posted.letter) (filter (is_between a b) (without_first (is_between q p) xs)) → map (λ (y : Flight). y.posted.letter) (cond t (x ∷ filter (is_between a b) xs) (filter (is_between a b) xs)) ≡ cond c (f.posted.letter ∷ []) [] ++ map (λ (y : Flight). y.posted.letter) (cond t (x ∷ filter (is_between a b) (without_first (is_between q p) xs)) (filter (is_between a b) (without_first (is_between q p) xs)))
      past true true k j z h =
          let from : a ≡ q = same_part_is a q (left (same_part a q) (same_part b p) k) in
          let to : b ≡ p = same_part_is b p (right (same_part a q) (same_part b p) k) in
          absurd (let bad : true ≡ false = sym j ∙ ap (λ n. is_between n b x) from ∙ ap (λ n. is_between q n x) to ∙ z in cc)
      past true false k j z h = ap (λ l. x.posted.letter ∷ l) h
      past false c k j z h = h

      by : (t : Bool) → is_between q p x ≡ t → cond t (Some x) (find (is_between q p) xs) ≡ Some f → (find (is_between q p) xs ≡ Some f → map (λ (y : Flight). y.posted.letter) (filter (is_between a b) xs) ≡ one_out ++ map (λ (y : Flight). y.posted.letter) (filter (is_between a b) (without_first (is_between q p) xs))) → map (λ (y : Flight). y.posted.letter) (filter (is_between a b) (x ∷ xs)) ≡ one_out ++ map (λ (y : Flight). y.posted.letter) (filter (is_between a b) (elim t [ true ↦ xs | false ↦ x ∷ without_first (is_between q p) xs ]))
      by true k d ih =
          let z : x ≡ f = cc in
          ap (λ y. map (λ (y : Flight). y.posted.letter) (cond (is_between a b y) (y ∷ filter (is_between a b) xs) (filter (is_between a b) xs))) z
          ∙ ap (λ t. map (λ (y : Flight). y.posted.letter) (cond t (f ∷ filter (is_between a b) xs) (filter (is_between a b) xs))) (same_here k z)
          ∙ one (same_part a q && same_part b p)
      by false k d ih = past (is_between a b x) (same_part a q && same_part b p) refl refl k (ih d)

-- a turn with a letter that leaves a mark
pub letter_links : (s : Settings) (p sender : PartName) (f : Flight) (e : Effects) (w : World) → AreOf p e.entries → has_entry e ≡ true → find (is_between sender p) w.letters ≡ Some f → Links w → Links (behind s p (Some (record { sender = sender; letter = f.posted.letter })) e (letter_out sender p w))
letter_links s p sender f e w own k found h a b =
    turn_links s p (Some (record { sender = sender; letter = f.posted.letter })) e (letter_out sender p w) a b own
    (h a b
    ∙ ap (λ l. taken_from a (list_in w b) ++ l) (first_out sender p f a b w.letters found)
    ∙ sym (append_assoc (taken_from a (list_in w b)) (one_out sender p f a b) (waiting_between (letter_out sender p w) a b))
    ∙ ap (λ l. (taken_from a (list_in w b) ++ l) ++ waiting_between (letter_out sender p w) a b) (sym mark_is))
  where
    by : (x y : Bool) → cond y (elim x [ true ↦ f.posted.letter ∷ [] | false ↦ [] ]) [] ≡ cond (x && y) (f.posted.letter ∷ []) []
    by true true = refl
    by true false = refl
    by false true = refl
    by false false = refl

    mark_is : cond (same_part b p) (taken_from a (marked_by (Some (record { sender = sender; letter = f.posted.letter })) e.entries)) [] ≡ one_out sender p f a b
    mark_is = ap (λ l. cond (same_part b p) l []) (one_taken a (Some (record { sender = sender; letter = f.posted.letter })) e k) ∙ by (same_part a sender) (same_part b p)

pub move_links : LinksStay
move_links s w p move k h = marked_keeps s Links (plain_links s) (letter_links s) p move w k h

pub links : LinksLaw
links s ms k = marked_keep s Links (plain_links s) (letter_links s) empty_world ms k (λ p q. refl)
