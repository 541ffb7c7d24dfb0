-- Each mark has a greater stamp than its letter.
use Rattle.std.proofs.Common.{◌≡◌, ◌⊎◌, ℕ, suc, ◌+◌, ◌<◌, ◌≤◌, Bool, true, false, List, [], ◌∷◌, ◌++◌, length, length-append, refl, ap, ◌∙◌, sym, subst, inl, inr, arith, nat_lt, append_assoc}
use Rattle.std.specs.Prelude.{Option, Some, None, cond, find, map}
use Rattle.std.specs.List.{list_all}
use Rattle.std.proofs.lemmas.Bool.{lt-ltb, ltb-true}
use Rattle.std.proofs.lemmas.List.{append-nil}
use Rattle.std.proofs.lemmas.List.Folds.{list_all-append}
use Rattle.lload_names.specs.declared.inputs.Effects.{Effects}
use Rattle.lload_names.specs.declared.names.Entry.{Entry}
use Rattle.lload_names.specs.declared.names.Letter.{Letter}
use Rattle.lload_names.specs.declared.names.PartName.{PartName}
use Rattle.lload_names.specs.declared.names.Posted.{Posted}
use Rattle.lload_spec.specs.Settings.{Settings}
use Rattle.lload_spec.specs.Journal.{same_part}
use Rattle.lload_spec.proofs.Growth.{left, right, both}
use Rattle.part_spec.specs.Inputs.{marked_by}
use Rattle.part_spec.specs.Marked.{Marked, Taken, taken_from, letters_to, letter_from}
use Rattle.part_spec.specs.Stamps.{Turn, list_of_turns, letters_of, stamp_each_to, stamps_given, is_from, stamp_each_from, stamps_taken, are_later}
use Rattle.part_spec.specs.World.{World, Flight, empty_world, behind, is_between, turn_made, turns_in, list_in, given_in}
use Rattle.link_laws.specs.Moves.{has_entry, waiting_between, Links}
use Rattle.link_laws.specs.Laws.{LaterLaw}
use Rattle.link_laws.proofs.Entries.{AreOf, turns_behind, list_behind}
use Rattle.link_laws.proofs.Kept.{letter_out, marked_keep}
use Rattle.link_laws.proofs.Links.{taken_more, letters_more, given_more, plain_links, letter_links, first_out}
use Rattle.link_laws.proofs.Turns.{turns_more, lists_more, letters_of_more, one_longer}

-- Stamps, and what they are of.

stamps_each : (q : PartName) (n : ℕ) (xs : List Posted) → length (stamp_each_to q n xs) ≡ length (letters_to q xs)
stamps_each q n [] = refl
stamps_each q n (x ∷ xs) = by (same_part q x.to) (stamps_each q n xs)
  where
    by : (b : Bool) → length (stamp_each_to q n xs) ≡ length (letters_to q xs) → length ((elim b [ true ↦ n ∷ [] | false ↦ [] ]) ++ stamp_each_to q n xs) ≡ length ((elim b [ true ↦ x.letter ∷ [] | false ↦ [] ]) ++ letters_to q xs)
    by true h = ap suc h
    by false h = h

pub given_count : (q : PartName) (ts : List Turn) → length (stamps_given q ts) ≡ length (letters_to q (letters_of ts))
given_count q [] = refl
given_count q (t ∷ ts) =
    length-append (stamp_each_to q t.stamp t.letters) (stamps_given q ts)
    ∙ ap (λ n. n + length (stamps_given q ts)) (stamps_each q t.stamp t.letters)
    ∙ ap (λ n. length (letters_to q t.letters) + n) (given_count q ts)
    ∙ sym (length-append (letters_to q t.letters) (letters_to q (letters_of ts)))
    ∙ ap length (sym (letters_more q t.letters (letters_of ts)))

marks_each : (p : PartName) (n : ℕ) (ms : List Marked) → length (stamp_each_from p n ms) ≡ length (taken_from p ms)
marks_each p n [] = refl
marks_each p n (m ∷ ms) = by m.mark (marks_each p n ms)
  where
    one : (b : Bool) (l : Letter) → length (stamp_each_from p n ms) ≡ length (taken_from p ms) → length ((elim b [ true ↦ n ∷ [] | false ↦ [] ]) ++ stamp_each_from p n ms) ≡ length ((elim b [ true ↦ l ∷ [] | false ↦ [] ]) ++ taken_from p ms)
    one true l h = ap suc h
    one false l h = h

    by : (mark : Option Taken) → length (stamp_each_from p n ms) ≡ length (taken_from p ms) → length ((elim (is_from p mark) [ true ↦ n ∷ [] | false ↦ [] ]) ++ stamp_each_from p n ms) ≡ length (letter_from p mark ++ taken_from p ms)
    by None h = h
    by (Some t) h = one (same_part p t.sender) t.letter h

pub taken_count : (p : PartName) (ts : List Turn) → length (stamps_taken p ts) ≡ length (taken_from p (list_of_turns ts))
taken_count p [] = refl
taken_count p (t ∷ ts) =
    length-append (stamp_each_from p t.stamp t.entries) (stamps_taken p ts)
    ∙ ap (λ n. n + length (stamps_taken p ts)) (marks_each p t.stamp t.entries)
    ∙ ap (λ n. length (taken_from p t.entries) + n) (taken_count p ts)
    ∙ sym (length-append (taken_from p t.entries) (taken_from p (list_of_turns ts)))
    ∙ ap length (sym (taken_more p t.entries (list_of_turns ts)))

-- More stamps.

pub given_grows : (q : PartName) (ts us : List Turn) → stamps_given q (ts ++ us) ≡ stamps_given q ts ++ stamps_given q us
given_grows q [] us = refl
given_grows q (t ∷ ts) us = ap (λ l. stamp_each_to q t.stamp t.letters ++ l) (given_grows q ts us) ∙ sym (append_assoc (stamp_each_to q t.stamp t.letters) (stamps_given q ts) (stamps_given q us))

pub taken_grows : (p : PartName) (ts us : List Turn) → stamps_taken p (ts ++ us) ≡ stamps_taken p ts ++ stamps_taken p us
taken_grows p [] us = refl
taken_grows p (t ∷ ts) us = ap (λ l. stamp_each_from p t.stamp t.entries ++ l) (taken_grows p ts us) ∙ sym (append_assoc (stamp_each_from p t.stamp t.entries) (stamps_taken p ts) (stamps_taken p us))

later_given : (given more taken : List ℕ) → are_later given taken ≡ true → are_later (given ++ more) taken ≡ true
later_given given more [] h = refl
later_given [] more (t ∷ ts) h = absurd (let bad : false ≡ true = h in cc)
later_given (g ∷ gs) more (t ∷ ts) h = both (nat_lt g t) _ (left (nat_lt g t) _ h) (later_given gs more ts (right (nat_lt g t) _ h))

later_taken : (n : ℕ) (given taken : List ℕ) → are_later given taken ≡ true → list_all (λ g. nat_lt g n) given ≡ true → length taken < length given → are_later given (taken ++ n ∷ []) ≡ true
later_taken n [] taken h low less = absurd (omega arith)
later_taken n (g ∷ gs) [] h low less = both (nat_lt g n) true (left (nat_lt g n) _ low) refl
later_taken n (g ∷ gs) (t ∷ ts) h low less = both (nat_lt g t) _ (left (nat_lt g t) _ h) (later_taken n gs ts (right (nat_lt g t) _ h) (right (nat_lt g n) _ low) (omega (arith, less)))

-- each of these numbers is below the first, so below the second
stay_below : (n m : ℕ) (xs : List ℕ) → n ≤ m → list_all (λ x. nat_lt x n) xs ≡ true → list_all (λ x. nat_lt x m) xs ≡ true
stay_below n m [] le h = refl
stay_below n m (x ∷ xs) le h =
    let low : x < n = ltb-true x n (left (nat_lt x n) _ h) in
    both (nat_lt x m) _ (lt-ltb x m (omega arith)) (stay_below n m xs le (right (nat_lt x n) _ h))

each_below : (q : PartName) (n : ℕ) (xs : List Posted) → list_all (λ x. nat_lt x (suc n)) (stamp_each_to q n xs) ≡ true
each_below q n [] = refl
each_below q n (x ∷ xs) = by (same_part q x.to) (each_below q n xs)
  where
    by : (b : Bool) → list_all (λ x. nat_lt x (suc n)) (stamp_each_to q n xs) ≡ true → list_all (λ x. nat_lt x (suc n)) ((elim b [ true ↦ n ∷ [] | false ↦ [] ]) ++ stamp_each_to q n xs) ≡ true
    by true h = both (nat_lt n (suc n)) _ (lt-ltb n (suc n) (omega arith)) h
    by false h = h

-- The marks of a turn.

plain_stamps : (a : PartName) (n : ℕ) (es : List Entry) → stamp_each_from a n (map (λ x. record { entry = x; mark = None }) es) ≡ []
plain_stamps a n [] = refl
plain_stamps a n (e ∷ es) = plain_stamps a n es

none_stamped : (a : PartName) (n : ℕ) (es : List Entry) → stamp_each_from a n (marked_by None es) ≡ []
none_stamped a n [] = refl
none_stamped a n (e ∷ es) = plain_stamps a n es

pub one_stamped : (a : PartName) (n : ℕ) (mark : Option Taken) (e : Effects) → has_entry e ≡ true → stamp_each_from a n (marked_by mark e.entries) ≡ (elim (is_from a mark) [ true ↦ n ∷ [] | false ↦ [] ])
one_stamped a n mark e k = by e.entries k
  where
    by : (es : List Entry) → (elim es [ [] ↦ false | x ∷ xs ↦ true ]) ≡ true → stamp_each_from a n (marked_by mark es) ≡ (elim (is_from a mark) [ true ↦ n ∷ [] | false ↦ [] ])
    by [] z = absurd (let bad : false ≡ true = z in cc)
    by (x ∷ xs) z = ap (λ l. (elim (is_from a mark) [ true ↦ n ∷ [] | false ↦ [] ]) ++ l) (plain_stamps a n xs) ∙ append-nil (elim (is_from a mark) [ true ↦ n ∷ [] | false ↦ [] ])

-- A world's stamps.

record Stamps (w : World) : Type 0 where
  given : (p : PartName) → letters_of (turns_in w p) ≡ given_in w p
  lists : (p : PartName) → list_of_turns (turns_in w p) ≡ list_in w p
  low : (p q : PartName) → list_all (λ x. nat_lt x (suc (length w.turns))) (stamps_given q (turns_in w p)) ≡ true
  later : (p q : PartName) → are_later (stamps_given q (turns_in w p)) (stamps_taken p (turns_in w q)) ≡ true

record Stamped (w : World) : Type 0 where
  links : Links w
  stamps : Stamps w

given_those : (q : PartName) (b : Bool) (t : Turn) → stamps_given q (cond b (t ∷ []) []) ≡ cond b (stamp_each_to q t.stamp t.letters) []
given_those q true t = append-nil (stamp_each_to q t.stamp t.letters)
given_those q false t = refl

taken_those : (p : PartName) (b : Bool) (t : Turn) → stamps_taken p (cond b (t ∷ []) []) ≡ cond b (stamp_each_from p t.stamp t.entries) []
taken_those p true t = append-nil (stamp_each_from p t.stamp t.entries)
taken_those p false t = refl

list_those : (b : Bool) (t : Turn) → list_of_turns (cond b (t ∷ []) []) ≡ cond b t.entries []
list_those true t = append-nil t.entries
list_those false t = refl

letters_those : (b : Bool) (t : Turn) → letters_of (cond b (t ∷ []) []) ≡ cond b t.letters []
letters_those true t = append-nil t.letters
letters_those false t = refl

-- what a turn takes: nothing, or one letter where more were given than taken
TakesNext : ℕ → List ℕ → List ℕ → List ℕ → Type 0
TakesNext n given taken new = (new ≡ []) ⊎ ((new ≡ n ∷ []) × (length taken < length given))

next_later : (n : ℕ) (given taken new : List ℕ) → are_later given taken ≡ true → list_all (λ x. nat_lt x n) given ≡ true → TakesNext n given taken new → are_later given (taken ++ new) ≡ true
unfolding TakesNext
next_later n given taken new h low (inl k) = ap (λ l. are_later given (taken ++ l)) k ∙ ap (are_later given) (append-nil taken) ∙ h
next_later n given taken new h low (inr k) = ap (λ l. are_later given (taken ++ l)) k.0 ∙ later_taken n given taken h low k.1

module _ (s : Settings) (p : PartName) (mark : Option Taken) (e : Effects) (w : World) (own : AreOf p e.entries) (h : Stamps w) where
  abbrev later_world : World
  later_world = behind s p mark e w

  abbrev made : Turn
  made = (turn_made p mark e w).turn

  given_now : (a b : PartName) → stamps_given b (turns_in later_world a) ≡ stamps_given b (turns_in w a) ++ cond (same_part a p) (stamp_each_to b made.stamp e.letters) []
  given_now a b = ap (stamps_given b) (turns_more s p mark e w a) ∙ given_grows b (turns_in w a) (cond (same_part a p) (made ∷ []) []) ∙ ap (λ l. stamps_given b (turns_in w a) ++ l) (given_those b (same_part a p) made)

  taken_now : (a b : PartName) → stamps_taken a (turns_in later_world b) ≡ stamps_taken a (turns_in w b) ++ cond (same_part b p) (stamp_each_from a made.stamp (marked_by mark e.entries)) []
  taken_now a b = ap (stamps_taken a) (turns_more s p mark e w b) ∙ taken_grows a (turns_in w b) (cond (same_part b p) (made ∷ []) []) ∙ ap (λ l. stamps_taken a (turns_in w b) ++ l) (taken_those a (same_part b p) made)

  below_now : (b : PartName) (c : Bool) → list_all (λ x. nat_lt x (suc (suc (length w.turns)))) (cond c (stamp_each_to b made.stamp e.letters) []) ≡ true
  below_now b true = each_below b (suc (length w.turns)) e.letters
  below_now b false = refl

  turn_stamps : ((a b : PartName) → TakesNext (suc (length w.turns)) (stamps_given b (turns_in w a)) (stamps_taken a (turns_in w b)) (cond (same_part b p) (stamp_each_from a made.stamp (marked_by mark e.entries)) [])) → Stamps later_world
  turn_stamps takes_next =
      record {
        given = λ a. ap letters_of (turns_more s p mark e w a) ∙ letters_of_more (turns_in w a) (cond (same_part a p) (made ∷ []) []) ∙ ap (λ l. l ++ letters_of (cond (same_part a p) (made ∷ []) [])) (h.given a) ∙ ap (λ l. given_in w a ++ l) (letters_those (same_part a p) made) ∙ sym (given_more s p mark e w a);
        lists = λ a. ap list_of_turns (turns_more s p mark e w a) ∙ lists_more (turns_in w a) (cond (same_part a p) (made ∷ []) []) ∙ ap (λ l. l ++ list_of_turns (cond (same_part a p) (made ∷ []) [])) (h.lists a) ∙ ap (λ l. list_in w a ++ l) (list_those (same_part a p) made) ∙ sym (list_behind s p mark e w a own);
        low = λ a b.
            ap (λ n. list_all (λ x. nat_lt x (suc n)) (stamps_given b (turns_in later_world a))) (ap length (turns_behind s p mark e w) ∙ one_longer w.turns (turn_made p mark e w))
            ∙ ap (list_all (λ x. nat_lt x (suc (suc (length w.turns))))) (given_now a b)
            ∙ list_all-append (λ x. nat_lt x (suc (suc (length w.turns)))) (stamps_given b (turns_in w a)) (cond (same_part a p) (stamp_each_to b made.stamp e.letters) [])
            ∙ both (list_all (λ x. nat_lt x (suc (suc (length w.turns)))) (stamps_given b (turns_in w a))) _ (stay_below (suc (length w.turns)) (suc (suc (length w.turns))) (stamps_given b (turns_in w a)) (omega arith) (h.low a b)) (below_now b (same_part a p));
        later = λ a b.
            ap (λ g. are_later g (stamps_taken a (turns_in later_world b))) (given_now a b)
            ∙ ap (are_later (stamps_given b (turns_in w a) ++ cond (same_part a p) (stamp_each_to b made.stamp e.letters) [])) (taken_now a b)
            ∙ later_given (stamps_given b (turns_in w a)) (cond (same_part a p) (stamp_each_to b made.stamp e.letters) []) (stamps_taken a (turns_in w b) ++ cond (same_part b p) (stamp_each_from a made.stamp (marked_by mark e.entries)) [])
            (next_later (suc (length w.turns)) (stamps_given b (turns_in w a)) (stamps_taken a (turns_in w b)) (cond (same_part b p) (stamp_each_from a made.stamp (marked_by mark e.entries)) []) (h.later a b) (h.low a b) (takes_next a b));
      }

plain_stamped : (s : Settings) (p : PartName) (e : Effects) (w : World) → AreOf p e.entries → Stamped w → Stamped (behind s p None e w)
unfolding TakesNext
plain_stamped s p e w own h = record { links = plain_links s p e w own h.links; stamps = turn_stamps s p None e w own h.stamps (λ a b. inl (none (same_part b p) a)) }
  where
    none : (c : Bool) (a : PartName) → cond c (stamp_each_from a (suc (length w.turns)) (marked_by None e.entries)) [] ≡ []
    none true a = none_stamped a (suc (length w.turns)) e.entries
    none false a = refl

-- where a letter waits, more were given than taken
more_given : (w : World) (a b : PartName) → Stamped w → (l : Letter) (ls : List Letter) → waiting_between w a b ≡ l ∷ ls → length (stamps_taken a (turns_in w b)) < length (stamps_given b (turns_in w a))
more_given w a b h l ls k =
    let given : length (stamps_given b (turns_in w a)) ≡ length (taken_from a (list_in w b)) + suc (length ls) =
    given_count b (turns_in w a) ∙ ap (λ x. length (letters_to b x)) (h.stamps.given a) ∙ ap length (h.links a b)
    ∙ ap (λ x. length (taken_from a (list_in w b) ++ x)) k ∙ length-append (taken_from a (list_in w b)) (l ∷ ls) in
    let taken : length (stamps_taken a (turns_in w b)) ≡ length (taken_from a (list_in w b)) = taken_count a (turns_in w b) ∙ ap (λ x. length (taken_from a x)) (h.stamps.lists b) in
    omega arith

without_stamps : (sender p : PartName) (w : World) → Stamps w → Stamps (letter_out sender p w)
without_stamps sender p w h = record { given = h.given; lists = h.lists; low = h.low; later = h.later }

letter_stamped : (s : Settings) (p sender : PartName) (f : Flight) (e : Effects) (w : World) → AreOf p e.entries → has_entry e ≡ true → find (is_between sender p) w.letters ≡ Some f → Stamped w → Stamped (behind s p (Some (record { sender = sender; letter = f.posted.letter })) e (letter_out sender p w))
unfolding TakesNext
letter_stamped s p sender f e w own k found h =
    record {
      links = letter_links s p sender f e w own k found h.links;
      stamps = turn_stamps s p (Some (record { sender = sender; letter = f.posted.letter })) e (letter_out sender p w) own (without_stamps sender p w h.stamps) takes_next;
    }
  where
    by : (a b : PartName) (x y : Bool) → same_part a sender ≡ x → same_part b p ≡ y → TakesNext (suc (length w.turns)) (stamps_given b (turns_in w a)) (stamps_taken a (turns_in w b)) (cond y (elim x [ true ↦ suc (length w.turns) ∷ [] | false ↦ [] ]) [])
    by a b true true i j =
        inr (
          refl,
          more_given w a b h f.posted.letter (waiting_between (letter_out sender p w) a b)
              (first_out sender p f a b w.letters found ∙ ap (λ c. cond c (f.posted.letter ∷ []) [] ++ waiting_between (letter_out sender p w) a b) (both (same_part a sender) (same_part b p) i j)),
        )
    by a b false true i j = inl refl
    by a b x false i j = inl refl

    takes_next : (a b : PartName) → TakesNext (suc (length w.turns)) (stamps_given b (turns_in w a)) (stamps_taken a (turns_in w b)) (cond (same_part b p) (stamp_each_from a (suc (length w.turns)) (marked_by (Some (record { sender = sender; letter = f.posted.letter })) e.entries)) [])
    takes_next a b =
        subst (λ l. TakesNext (suc (length w.turns)) (stamps_given b (turns_in w a)) (stamps_taken a (turns_in w b)) l)
        (ap (λ l. cond (same_part b p) l []) (sym (one_stamped a (suc (length w.turns)) (Some (record { sender = sender; letter = f.posted.letter })) e k)))
        (by a b (same_part a sender) (same_part b p) refl refl)

no_stamps : Stamped empty_world
no_stamps = record { links = λ p q. refl; stamps = record { given = λ p. refl; lists = λ p. refl; low = λ p q. refl; later = λ p q. refl } }

pub later : LaterLaw
later s ms k = (marked_keep s Stamped (plain_stamped s) (letter_stamped s) empty_world ms k no_stamps).stamps.later
