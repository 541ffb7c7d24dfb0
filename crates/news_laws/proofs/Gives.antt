-- What a connection tells the desk of its states, entry by entry; and where a letter that it gave was given.
use Rattle.std.proofs.Common.{◌≡◌, ℕ, Bool, true, false, ◌||◌, List, [], ◌∷◌, ◌++◌, refl, ap, ◌∙◌, sym, append_assoc, inl, inr, ◌⊎◌}
use Rattle.std.specs.Prelude.{Option, flat_map}
use Rattle.std.specs.List.{list_any}
use Rattle.std.proofs.lemmas.List.Folds.{list_any-append}
use Rattle.std.proofs.Math.Bool.{or-false}
use Rattle.lload_names.specs.declared.names.Letter.{Letter}
use Rattle.lload_names.specs.declared.names.Letter.TheVariants.{Ended, IsUp, IsRetired, IsDown}
use Rattle.lload_names.specs.declared.names.OpName.{OpName}
use Rattle.lload_names.specs.declared.names.PartName.TheVariants.{Desk}
use Rattle.lload_names.specs.declared.names.What.{What}
use Rattle.lload_names.specs.declared.names.What.TheVariants as what
use Rattle.lload_spec.specs.Settings.{Settings}
use Rattle.part_laws.proofs.ListLaws.{any_behind, or_left}
use Rattle.part_spec.specs.ConnectionState.{ConnectionState, step_connection}
use Rattle.part_spec.specs.ConnectionTurn.{holder_ended, loss}
use Rattle.part_spec.specs.Gives.{connection_gives, connection_letters}
use Rattle.part_spec.specs.Inputs.{to}
use Rattle.part_spec.specs.Marked.{Marked, Taken, letters_to}
use Rattle.connection_laws.proofs.ConnectionSays.{number_step}
use Rattle.joined_laws.proofs.States.{down_quiet, expired_quiet, got_quiet, missed_quiet, owns_quiet}
use Rattle.joined_laws.proofs.Taken.{letters_to_both}

-- whether what happened to this connection tells the desk a state that passes the test
abbrev pub tells_so : (Letter → Bool) → ℕ → What → Bool
tells_so test n what.Up = test (IsUp n)
tells_so test n what.Retired = test (IsRetired n)
tells_so test n (what.Down why) = test (IsDown n)
tells_so test n _ = false

-- A test that no end of an operation passes.
module _ (s : Settings) (test : Letter → Bool) (quiet : (op : OpName) (u : ℕ) (latency : Option ℕ) → test (Ended op u latency) ≡ false) where
  pub letters_tell : (p : ConnectionState) (at : ℕ) (mark : Option Taken) (w : What) → list_any test (letters_to Desk (connection_letters s p at mark w)) ≡ tells_so test p.number w
  letters_tell p at mark (what.Got id rest) = got_quiet test quiet s p at (record { id = id; rest = rest })
  letters_tell p at mark (what.Own id rest) = owns_quiet test quiet p rest p.rows
  letters_tell p at mark (what.Expired op) = expired_quiet test quiet p op
  letters_tell p at mark (what.Missed op) = missed_quiet test quiet p op mark
  letters_tell p at mark what.Up = or-false (test (IsUp p.number))
  letters_tell p at mark what.Retired = or-false (test (IsRetired p.number))
  letters_tell p at mark (what.Down why) = by (test (IsDown p.number)) refl
    where
      by : (b : Bool) → test (IsDown p.number) ≡ b → list_any test (letters_to Desk (connection_letters s p at mark (what.Down why))) ≡ test (IsDown p.number)
      by false e = down_quiet test quiet p e ∙ sym e
      by true e =
          ap (list_any test) (letters_to_both Desk (flat_map (loss p) p.rows) (holder_ended p ++ to Desk (IsDown p.number)))
          ∙ any_behind test (letters_to Desk (flat_map (loss p) p.rows)) (letters_to Desk (holder_ended p ++ to Desk (IsDown p.number)))
          (ap (list_any test) (letters_to_both Desk (holder_ended p) (to Desk (IsDown p.number))) ∙ any_behind test (letters_to Desk (holder_ended p)) (IsDown p.number ∷ []) (or_left (test (IsDown p.number)) false e))
          ∙ sym e
  letters_tell p at mark _ = refl

  -- and over a list
  pub gives_tell : (u : ℕ) (p : ConnectionState) (ms : List Marked) → p.number ≡ u → list_any test (letters_to Desk (connection_gives s p ms)) ≡ list_any (λ m. tells_so test u m.entry.what) ms
  gives_tell u p [] own = refl
  gives_tell u p (m ∷ ms) own =
      ap (list_any test) (letters_to_both Desk (connection_letters s p m.entry.at m.mark m.entry.what) (connection_gives s (step_connection s p m) ms))
      ∙ list_any-append test (letters_to Desk (connection_letters s p m.entry.at m.mark m.entry.what)) (letters_to Desk (connection_gives s (step_connection s p m) ms))
      ∙ ap (λ b. b || list_any test (letters_to Desk (connection_gives s (step_connection s p m) ms))) (letters_tell p m.entry.at m.mark m.entry.what ∙ ap (λ n. tells_so test n m.entry.what) own)
      ∙ ap (λ b. tells_so test u m.entry.what || b) (gives_tell u (step_connection s p m) ms (number_step s m.entry m.mark p m.entry.what ∙ own))

-- a list that is cut before an element is cut within its first part or within its second
cut : (A : Type 0) (xs ys before behind : List A) (x : A) → xs ++ ys ≡ before ++ x ∷ behind → ((rest : List A) × (xs ≡ before ++ x ∷ rest)) ⊎ ((more : List A) × (before ≡ xs ++ more) × (ys ≡ more ++ x ∷ behind))
cut A [] ys before behind x e = inr (before, refl, e)
cut A (z ∷ xs) ys [] behind x e = inl (xs, (let same : z ≡ x = cc in ap (λ y. y ∷ xs) same))
cut A (z ∷ xs) ys (b ∷ before) behind x e = by (let head : z ≡ b = cc in head) (cut A xs ys before behind x (let tail : xs ++ ys ≡ before ++ x ∷ behind = cc in tail))
  where
    by : z ≡ b → ((rest : List A) × (xs ≡ before ++ x ∷ rest)) ⊎ ((more : List A) × (before ≡ xs ++ more) × (ys ≡ more ++ x ∷ behind)) → ((rest : List A) × (z ∷ xs ≡ (b ∷ before) ++ x ∷ rest)) ⊎ ((more : List A) × (b ∷ before ≡ (z ∷ xs) ++ more) × (ys ≡ more ++ x ∷ behind))
    by same (inl r) = inl (r.0, λ i. same i ∷ r.1 i)
    by same (inr r) = inr (r.0, ap (λ y. y ∷ before) (sym same) ∙ ap (λ l. z ∷ l) r.1, r.2)

-- The entry that gave a letter, with what was given before it.
pub record GivenAt (s : Settings) (u : ℕ) (p : ConnectionState) (ms : List Marked) (given : List Letter) (x : Letter) : Type 0 where
  pub before : List Marked
  pub entry : Marked
  pub behind : List Marked
  pub same : ms ≡ before ++ entry ∷ behind
  pub head : List Letter
  pub given_is : given ≡ letters_to Desk (connection_gives s p before) ++ head
  pub state : ConnectionState
  pub number : state.number ≡ u
  pub tail : List Letter
  pub letters : letters_to Desk (connection_letters s state entry.entry.at entry.mark entry.entry.what) ≡ head ++ x ∷ tail

pub given_at_entry : (s : Settings) (u : ℕ) (p : ConnectionState) (ms : List Marked) (given rest : List Letter) (x : Letter) → p.number ≡ u → letters_to Desk (connection_gives s p ms) ≡ given ++ x ∷ rest → GivenAt s u p ms given x
given_at_entry s u p [] [] rest x own e = absurd (let bad : [] ≡ x ∷ rest = e in cc)
given_at_entry s u p [] (y ∷ given) rest x own e = absurd (let bad : [] ≡ y ∷ (given ++ x ∷ rest) = e in cc)
given_at_entry s u p (m ∷ ms) given rest x own e = by (cut Letter here later given rest x (sym (letters_to_both Desk (connection_letters s p m.entry.at m.mark m.entry.what) (connection_gives s (step_connection s p m) ms)) ∙ e)) (λ more k. given_at_entry s u (step_connection s p m) ms more rest x (number_step s m.entry m.mark p m.entry.what ∙ own) k)
  where
    here : List Letter
    here = letters_to Desk (connection_letters s p m.entry.at m.mark m.entry.what)

    later : List Letter
    later = letters_to Desk (connection_gives s (step_connection s p m) ms)

    by : ((tail : List Letter) × (here ≡ given ++ x ∷ tail)) ⊎ ((more : List Letter) × (given ≡ here ++ more) × (later ≡ more ++ x ∷ rest)) → ((more : List Letter) → later ≡ more ++ x ∷ rest → GivenAt s u (step_connection s p m) ms more x) → GivenAt s u p (m ∷ ms) given x
    by (inl k) ih = record { before = []; entry = m; behind = ms; same = refl; head = given; given_is = refl; state = p; number = own; tail = k.0; letters = k.1 }
    by (inr k) ih =
        let g : GivenAt s u (step_connection s p m) ms k.0 x = ih k.0 k.2 in
        record {
          before = m ∷ g.before;
          entry = g.entry;
          behind = g.behind;
          same = ap (λ l. m ∷ l) g.same;
          head = g.head;
          given_is = k.1 ∙ ap (λ l. here ++ l) g.given_is ∙ sym (ap (λ l. l ++ g.head) (letters_to_both Desk (connection_letters s p m.entry.at m.mark m.entry.what) (connection_gives s (step_connection s p m) g.before)) ∙ append_assoc here (letters_to Desk (connection_gives s (step_connection s p m) g.before)) g.head);
          state = g.state;
          number = g.number;
          tail = g.tail;
          letters = g.letters;
        }
