-- Histories with one line more at their end.
use Rattle.std.specs.Prelude.{◌≡◌, ℕ, zero, suc, ◌+◌, Bool, ◌⊎◌, List, [], ◌∷◌, ◌++◌, take, Option, Some, None, refl}
use Rattle.std.proofs.Common.{ap, ◌∙◌, sym, subst, append_assoc, arith, inl, inr}
use Rattle.std.proofs.lemmas.List.{append-nil}
use Rattle.lload_names.specs.declared.names.Entry.{Entry}
use Rattle.lload_names.specs.declared.names.PartName.{PartName}
use Rattle.lload_names.specs.declared.command.Command.{Command}
use Rattle.small_spec.specs.Journal.{of_part}
use Rattle.small_spec.specs.Entries.{in_message, got_message}
use Rattle.small_spec.specs.History.{Line, commands, journal, joined, EachFrom, fed, fed_by, moment, ticked_by, word_behind, word_by, with_first_of, in_messages, got_messages}
use Rattle.small_spec.specs.Standing.{was_fed_from, fed_after}
use Rattle.small_laws.proofs.FamilyGrowth.{parts_append}
use Rattle.small_play.specs.Plays.{Promised, HasKept}

-- each element obeys, and one more
pub each_more : {A : Type 0} (Rule : List A → A → Type 0) (before xs : List A) (x : A) → EachFrom Rule before xs → Rule (before ++ xs) x → EachFrom Rule before (xs ++ x ∷ [])
each_more Rule before [] x h r = (subst (λ l. Rule l x) (append-nil before) r, tt)
each_more Rule before (y ∷ xs) x h r = (h.0, each_more Rule (before ++ y ∷ []) xs x h.1 (subst (λ l. Rule l x) (sym (append_assoc before (y ∷ []) xs)) r))

-- each element obeys a rule that follows
pub each_implies : {A : Type 0} (Rule Other : List A → A → Type 0) (before xs : List A) → ((place : List A) (x : A) → Rule place x → Other place x) → EachFrom Rule before xs → EachFrom Other before xs
each_implies Rule Other before [] f h = tt
each_implies Rule Other before (x ∷ xs) f h = (f before x h.0, each_implies Rule Other (before ++ x ∷ []) xs f h.1)

pub commands_more : (history : List Line) (line : Line) → commands (history ++ line ∷ []) ≡ commands history ++ line.command ∷ []
commands_more [] line = refl
commands_more (l ∷ ls) line = ap (λ cs. l.command ∷ cs) (commands_more ls line)

pub journal_more : (history : List Line) (line : Line) → journal (history ++ line ∷ []) ≡ journal history ++ line.piece
journal_more [] line = append-nil line.piece
journal_more (l ∷ ls) line = ap (λ es. l.piece ++ es) (journal_more ls line) ∙ sym (append_assoc l.piece (journal ls) line.piece)

pub joined_more : (rounds : List (List Entry)) (round : List Entry) → joined (rounds ++ round ∷ []) ≡ joined rounds ++ round
joined_more [] round = append-nil round
joined_more (r ∷ rs) round = ap (λ es. r ++ es) (joined_more rs round) ∙ sym (append_assoc r (joined rs) round)

pub fed_more : (p : PartName) (cs : List Command) (c : Command) → fed p (cs ++ c ∷ []) ≡ fed p cs ++ fed_by p c
fed_more p [] c = append-nil (fed_by p c)
fed_more p (k ∷ cs) c = ap (λ bytes. fed_by p k ++ bytes) (fed_more p cs c) ∙ sym (append_assoc (fed_by p k) (fed p cs) (fed_by p c))

pub moment_more : (cs : List Command) (c : Command) → moment (cs ++ c ∷ []) ≡ moment cs + ticked_by c
moment_more [] c = omega arith
moment_more (k ∷ cs) c = omega (arith, moment_more cs c)

pub word_more : (w : ℕ) (cs : List Command) (c : Command) → word_behind w (cs ++ c ∷ []) ≡ word_by c (word_behind w cs)
word_more w [] c = refl
word_more w (k ∷ cs) c = word_more (word_by k w) cs c

pub was_fed_more : (b : Bool) (n id : ℕ) (cs : List Command) (c : Command) → was_fed_from b n id (cs ++ c ∷ []) ≡ fed_after (was_fed_from b n id cs) n id c
was_fed_more b n id [] c = refl
was_fed_more b n id (k ∷ cs) c = was_fed_more (fed_after b n id k) n id cs c

-- the messages of more entries
first_before : {A : Type 0} (o : Option A) (xs ys : List A) → with_first_of o (xs ++ ys) ≡ with_first_of o xs ++ ys
first_before None xs ys = refl
first_before (Some x) xs ys = refl

in_append : (xs ys : List Entry) → in_messages (xs ++ ys) ≡ in_messages xs ++ in_messages ys
in_append [] ys = refl
in_append (x ∷ xs) ys = ap (with_first_of (in_message x.what)) (in_append xs ys) ∙ first_before (in_message x.what) (in_messages xs) (in_messages ys)

got_append : (xs ys : List Entry) → got_messages (xs ++ ys) ≡ got_messages xs ++ got_messages ys
got_append [] ys = refl
got_append (x ∷ xs) ys = ap (with_first_of (got_message x.what)) (got_append xs ys) ∙ first_before (got_message x.what) (got_messages xs) (got_messages ys)

-- the messages that a part took in a longer journal
pub in_more : (p : PartName) (J K : List Entry) → in_messages (of_part p (J ++ K)) ≡ in_messages (of_part p J) ++ in_messages (of_part p K)
in_more p J K = ap in_messages (parts_append p J K) ∙ in_append (of_part p J) (of_part p K)

pub got_more : (p : PartName) (J K : List Entry) → got_messages (of_part p (J ++ K)) ≡ got_messages (of_part p J) ++ got_messages (of_part p K)
got_more p J K = ap got_messages (parts_append p J K) ∙ got_append (of_part p J) (of_part p K)

-- the first lines of a longer history
take_nil : {A : Type 0} (n : ℕ) (xs : List A) → xs ≡ [] → take n xs ≡ xs
take_nil zero xs h = sym h
take_nil (suc n) [] h = refl
take_nil (suc n) (x ∷ xs) h = absurd (let bad : x ∷ xs ≡ [] = h in cc)

take_one_more : {A : Type 0} (n : ℕ) (xs : List A) (x : A) → (take n (xs ++ x ∷ []) ≡ take n xs) ⊎ (take n (xs ++ x ∷ []) ≡ xs ++ x ∷ [])
take_one_more zero xs x = inl refl
take_one_more (suc n) [] x = inr (ap (λ t. x ∷ t) (take_nil n [] refl))
take_one_more (suc n) (y ∷ xs) x = elim (take_one_more n xs x) [ inl e ↦ inl (ap (λ t. y ∷ t) e) | inr e ↦ inr (ap (λ t. y ∷ t) e) ]

pub kept_more : (history : List Line) (line : Line) → HasKept history → Promised (journal history ++ line.piece) → HasKept (history ++ line ∷ [])
kept_more history line kept promised n = elim (take_one_more n history line) [ inl e ↦ subst (λ ls. Promised (journal ls)) (sym e) (kept n) | inr e ↦ subst (λ ls. Promised (journal ls)) (sym e) (subst Promised (sym (journal_more history line)) promised) ]
