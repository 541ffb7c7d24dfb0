-- A client asks the desk for an operation, or forwards it for another holder; never both.
use Rattle.std.proofs.Common.{◌≡◌, ℕ, suc, ◌≤◌, Bool, true, false, ◌==◌, ◌&&◌, ◌||◌, not, List, [], ◌∷◌, ◌++◌, refl, ap, arith, ◌∙◌, sym}
use Rattle.std.specs.Prelude.{Option, Some, None, flat_map}
use Rattle.std.specs.List.{list_all, list_any}
use Rattle.std.proofs.lemmas.List.Folds.{list_all-append}
use Rattle.ldap_spec.specs.Kinds.{kind_of}
use Rattle.ldap_spec.specs.Messages.{Message}
use Rattle.lload_names.specs.declared.names.Answer.{Answer}
use Rattle.lload_names.specs.declared.names.Answer.TheVariants.{Go}
use Rattle.lload_names.specs.declared.names.Letter.{Letter}
use Rattle.lload_names.specs.declared.names.Letter.TheVariants.{Forward, Drop}
use Rattle.lload_names.specs.declared.names.OpKind.{OpKind}
use Rattle.lload_names.specs.declared.names.OpKind.TheVariants.{Bind}
use Rattle.lload_names.specs.declared.names.OpName.{OpName}
use Rattle.lload_names.specs.declared.names.PartName.{PartName}
use Rattle.lload_names.specs.declared.names.PartName.TheVariants.{Up as Connection}
use Rattle.lload_names.specs.declared.names.Posted.{Posted}
use Rattle.lload_names.specs.declared.names.What.{What}
use Rattle.lload_names.specs.declared.names.What.TheVariants as what
use Rattle.lload_spec.specs.Answers.{wants_identity}
use Rattle.lload_spec.specs.Entries.{makes_operation}
use Rattle.lload_spec.specs.FirstCheck.{Check, GoesOn, asks_desk, lets_go_on}
use Rattle.lload_spec.specs.Journal.{same_op, same_part}
use Rattle.lload_spec.specs.Operations.{is_request_of}
use Rattle.lload_spec.specs.Pauses.{pause_letters, pauses_behind}
use Rattle.lload_spec.specs.Settings.{Settings}
use Rattle.lload_spec.proofs.Growth.{both, left, right}
use Rattle.lload_laws.proofs.ListLaws.{found_passes}
use Rattle.part_laws.proofs.ListLaws.{any_split, not_true, or_elim, same_number, same_op_eq}
use Rattle.part_spec.specs.ClientState.{ClientRow, ClientState, abandons, check_at, client_behind, facts_of, is_bind_row, is_pinned, name_of, next_name, row_named, row_under, step_client, with_bind, with_choice, with_connection, with_request, without}
use Rattle.part_spec.specs.ClientTurn.{asks, drop_of, drops, forward, goes_on, letters_for, pause_at}
use Rattle.part_spec.specs.Fit.{is_ask_of}
use Rattle.part_spec.specs.Gives.{client_gives, client_letters, message_letters}
use Rattle.part_spec.specs.Marked.{Marked, letters_to}
use Rattle.client_laws.proofs.ClientLives.{out_count}
use Rattle.client_answer_laws.proofs.Asks.{going_makes}
use Rattle.carried_laws.proofs.Letters.{PassesOthers, letters_pass}

-- whether a letter is the Forward of this operation for another holder
abbrev pub is_other_forward : OpName → Letter → Bool
is_other_forward op (Forward o sort rest ask holder) = same_op op o && not (same_op op holder)
is_other_forward op _ = false

abbrev pub any_of : (Letter → Bool) → List Posted → Bool
any_of t xs = list_any (λ x. t x.letter) xs

abbrev none_of : (Letter → Bool) → List Posted → Bool
none_of t xs = list_all (λ x. not (t x.letter)) xs

none_any : (t : Letter → Bool) (xs : List Posted) → none_of t xs ≡ true → any_of t xs ≡ true → false ≡ true
none_any t [] h k = k
none_any t (x ∷ xs) h k = or_elim (t x.letter) (any_of t xs) (λ j. sym (not_true (t x.letter) (left (not (t x.letter)) _ h)) ∙ j) (none_any t xs (right (not (t x.letter)) _ h)) k

none_both : (t : Letter → Bool) (xs ys : List Posted) → none_of t xs ≡ true → none_of t ys ≡ true → none_of t (xs ++ ys) ≡ true
none_both t xs ys h k = list_all-append (λ (x : Posted). not (t x.letter)) xs ys ∙ both (none_of t xs) (none_of t ys) h k

-- what goes to a part is among all
pub any_to : (q : PartName) (t : Letter → Bool) (xs : List Posted) → list_any t (letters_to q xs) ≡ true → any_of t xs ≡ true
any_to q t [] h = h
any_to q t (x ∷ xs) h = by (same_part q x.to) (any_to q t xs) h
  where
    any_late : (b : Bool) → any_of t xs ≡ true → (b || any_of t xs) ≡ true
    any_late true j = refl
    any_late false j = j

    by : (b : Bool) → (list_any t (letters_to q xs) ≡ true → any_of t xs ≡ true) → list_any t ((elim b [ true ↦ x.letter ∷ [] | false ↦ [] ]) ++ letters_to q xs) ≡ true → (t x.letter || any_of t xs) ≡ true
    by true more k = or_elim (t x.letter) (list_any t (letters_to q xs)) (λ j. ap (λ b. b || any_of t xs) j) (λ j. any_late (t x.letter) (more j)) k
    by false more k = any_late (t x.letter) (more k)

and_off : (a b : Bool) → (a && b) ≡ false → b ≡ true → a ≡ false
and_off true true h k = h
and_off true false h k = absurd (let bad : false ≡ true = k in cc)
and_off false b h k = refl

same_off : (b : Bool) → (b && not b) ≡ false
same_off true = refl
same_off false = refl

module _ (s : Settings) (op : OpName) where
  asks_pass : PassesOthers (λ x. not (is_ask_of op x))
  asks_pass = record { returned = λ o u. refl; drop = λ o. refl; leave = λ o. refl; pause = λ n. refl; resume = λ n. refl }

  others_pass : PassesOthers (λ x. not (is_other_forward op x))
  others_pass = record { returned = λ o u. refl; drop = λ o. refl; leave = λ o. refl; pause = λ n. refl; resume = λ n. refl }

  abbrev NoOther : List Posted → Type 0
  NoOther xs = none_of (is_other_forward op) xs ≡ true

  pauses_none : (c : ℕ) (us : List ℕ) → NoOther (pause_letters c us)
  pauses_none c [] = refl
  pauses_none c (u ∷ us) = pauses_none c us

  pause_none : (p : ClientState) (r : ClientRow) (u : ℕ) → NoOther (pause_at p r u)
  pause_none p r u = by (is_bind_row r) (pauses_behind p.pausing u)
    where
      by : (a b : Bool) → NoOther (elim a [ true ↦ [] | false ↦ elim b [ true ↦ pause_letters p.number (u ∷ []) | false ↦ [] ] ])
      by true b = refl
      by false true = refl
      by false false = refl

  drop_none : (p : ClientState) (r : ClientRow) → NoOther (drop_of p r)
  drop_none p r = by (is_bind_row r) r.connection
    where
      by : (b : Bool) (o : Option ℕ) → NoOther (elim b [ true ↦ [] | false ↦ elim o [ None ↦ [] | Some u ↦ record { to = Connection u; letter = Drop (name_of p r) } ∷ [] ] ])
      by true o = refl
      by false None = refl
      by false (Some u) = refl

  drops_none : (p : ClientState) (rows : List ClientRow) → NoOther (flat_map (drop_of p) rows)
  drops_none p [] = refl
  drops_none p (r ∷ rows) = none_both (is_other_forward op) (drop_of p r) (flat_map (drop_of p) rows) (drop_none p r) (drops_none p rows)

  module _ (p : ClientState) (at : ℕ) where
    -- a row's own Forward
    own_none : (o : OpName) (r : ClientRow) (u : ℕ) → name_of p r ≡ o → NoOther (forward s p r o u)
    own_none o r u named = by (kind_of r.request.rest)
      where
        by : (k : Option OpKind) → NoOther (elim k [ None ↦ [] | Some kind ↦ record { to = Connection u; letter = Forward (name_of p r) kind r.request.rest (wants_identity s r.request) o } ∷ [] ])
        by None = refl
        by (Some sort) = ap (λ n. not (same_op op n && not (same_op op o)) && true) named ∙ ap (λ b. not b && true) (same_off (same_op op o))

    chosen_none : (o : OpName) (a : Answer) → NoOther (letters_for s p o (row_named p o) a)
    chosen_none o a = by (row_named p o) refl a
      where
        named : (r : ClientRow) → row_named p o ≡ Some r → name_of p r ≡ o
        named r e = same_op_eq (name_of p r) o (found_passes (λ x. p.number == o.client && x.k == o.k) p.rows r e)

        by : (q : Option ClientRow) → row_named p o ≡ q → (b : Answer) → NoOther (letters_for s p o q b)
        by (Some r) e (Go u b) = none_both (is_other_forward op) (forward s p r o u) (pause_at p r u) (own_none o r u (named r e)) (pause_none p r u)
        by None e (Go u b) = refl
        by (Some r) e _ = refl
        by None e _ = refl

    -- whether a request comes that goes on
    abbrev goes : What → Bool
    goes (what.In id rest) = lets_go_on (check_at s p (record { id = id; rest = rest }))
    goes _ = false

    abbrev Gives : (Letter → Bool) → What → Type 0
    Gives t w = any_of t (client_letters s p at w) ≡ true

    abbrev begins : What → Bool
    begins w = same_op op (next_name p) && goes w

    no_ask : (w : What) → ((m : Message) → w ≡ what.In m.id m.rest → asks_desk s (facts_of p) m ≡ true → same_op op (next_name p) ≡ false) → none_of (is_ask_of op) (client_letters s p at w) ≡ true
    no_ask w unless = letters_pass s (λ x. not (is_ask_of op x)) asks_pass p (λ r. true ≡ true) (λ r sort holder h e. refl) at w (λ o a r e k. refl) (λ m e k. refl) (λ m e k. ap not (unless m e k))

    ask_begins : (w : What) → Gives (is_ask_of op) w → begins w ≡ true
    ask_begins w h = by (begins w) refl
      where
        by : (b : Bool) → begins w ≡ b → b ≡ true
        by true e = refl
        by false e = absurd (let bad : false ≡ true = none_any (is_ask_of op) (client_letters s p at w) (no_ask w (λ m i k. and_off (same_op op (next_name p)) (goes w) e (ap goes i ∙ left (lets_go_on (check_at s p m)) _ k))) h in cc)

    no_other : (w : What) → begins w ≡ false → ((o : OpName) (a : Answer) (r : ClientRow) → w ≡ what.Chosen o a → row_named p o ≡ Some r → same_op op (name_of p r) ≡ false) → NoOther (client_letters s p at w)
    no_other w e chosen = letters_pass s (λ x. not (is_other_forward op x)) others_pass p (λ r. same_op op (name_of p r) ≡ false) (λ r sort holder h k. ap (λ b. not (b && not (same_op op holder))) h) at w chosen (λ m i k. and_off (same_op op (next_name p)) (goes w) e (ap goes i ∙ k)) (λ m i k. refl)

    other_begins : (w : What) → Gives (is_other_forward op) w → begins w ≡ true
    other_begins w h = by (begins w) refl
      where
        none : (v : What) → begins v ≡ false → NoOther (client_letters s p at v)
        none (what.Chosen o a) e = chosen_none o a
        none (what.In id rest) e = no_other (what.In id rest) e (λ o a r i k. absurd (let bad : what.In id rest ≡ what.Chosen o a = i in cc))
        none (what.Gone why) e = no_other (what.Gone why) e (λ o a r i k. absurd (let bad : what.Gone why ≡ what.Chosen o a = i in cc))
        none what.Stalled e = no_other what.Stalled e (λ o a r i k. absurd (let bad : what.Stalled ≡ what.Chosen o a = i in cc))
        none what.Flowing e = no_other what.Flowing e (λ o a r i k. absurd (let bad : what.Flowing ≡ what.Chosen o a = i in cc))
        none _ e = refl

        by : (b : Bool) → begins w ≡ b → b ≡ true
        by true e = refl
        by false e = absurd (let bad : false ≡ true = none_any (is_other_forward op) (client_letters s p at w) (none w e) h in cc)

    -- what the desk is asked for is forwarded later
    asked_none : (m : Message) → asks_desk s (facts_of p) m ≡ true → NoOther (client_letters s p at (what.In m.id m.rest))
    asked_none m h = ap (λ k. none_of (is_other_forward op) (message_letters s p at m k)) (going (check_at s p m) (left (lets_go_on (check_at s p m)) _ h)) ∙ by (is_request_of Bind m) (is_pinned s p m) (not_true (is_pinned s p m) (right (lets_go_on (check_at s p m)) _ h))
      where
        going : (k : Check) → lets_go_on k ≡ true → k ≡ GoesOn
        going GoesOn j = refl
        going _ j = absurd (let bad : false ≡ true = j in cc)

        by : (b i : Bool) → i ≡ false → NoOther (elim b [ true ↦ drops p ++ elim i [ true ↦ goes_on s p m | false ↦ asks s p at m ] | false ↦ asks s p at m ])
        by false i e = refl
        by true true e = absurd (let bad : true ≡ false = e in cc)
        by true false e = none_both (is_other_forward op) (drops p) (asks s p at m) (drops_none p p.rows) refl

    abbrev asks_at : What → Bool
    asks_at (what.In id rest) = asks_desk s (facts_of p) (record { id = id; rest = rest })
    asks_at _ = false

    one_only : (w : What) → Gives (is_ask_of op) w → Gives (is_other_forward op) w → false ≡ true
    one_only (what.In id rest) h k = by (asks_desk s (facts_of p) (record { id = id; rest = rest })) refl
      where
        by : (b : Bool) → asks_desk s (facts_of p) (record { id = id; rest = rest }) ≡ b → false ≡ true
        by true e = none_any (is_other_forward op) (client_letters s p at (what.In id rest)) (asked_none (record { id = id; rest = rest }) e) k
        by false e = none_any (is_ask_of op) (client_letters s p at (what.In id rest)) (no_ask (what.In id rest) (λ m i j. absurd (let same : asks_desk s (facts_of p) m ≡ false = ap asks_at (sym i) ∙ e in let bad : true ≡ false = sym j ∙ same in cc))) h
    one_only w h k = right (same_op op (next_name p)) _ (ask_begins w h)

  abbrev came : ClientState → ℕ → Message → Bool → Bool → ClientState
  came p at x b d = elim b [ false ↦ without (abandons x) at p | true ↦ elim d [ true ↦ with_bind s x p | false ↦ with_request s x p ] ]

  abbrev placed : ClientState → ℕ → ℕ → Option ClientRow → ClientState
  placed p u b o = elim o [ None ↦ p | Some r ↦ with_connection u b p r ]

  -- the count goes up
  rises : (p : ClientState) (m : Marked) → goes p m.entry.at m.entry.what ≡ true → (step_client s p m).count ≡ suc p.count
  rises p m h = by m.entry.what h
    where
      made : (x : Message) (b d : Bool) → b ≡ true → (came p m.entry.at x b d).count ≡ suc p.count
      made x false d e = absurd (let bad : false ≡ true = e in cc)
      made x true true e = refl
      made x true false e = refl

      by : (w : What) → goes p m.entry.at w ≡ true → (client_behind s m.entry.at m.mark p w).count ≡ suc p.count
      by (what.In id rest) k = made (record { id = id; rest = rest }) (makes_operation (record { id = id; rest = rest })) (is_request_of Bind (record { id = id; rest = rest })) (going_makes s p (record { id = id; rest = rest }) k)
      by _ k = absurd (let bad : false ≡ true = k in cc)

  never_falls : (p : ClientState) (m : Marked) → p.count ≤ (step_client s p m).count
  never_falls p m = by m.entry.what
    where
      same : (n : ℕ) → n ≡ p.count → p.count ≤ n
      same n e = omega (arith, e)

      made : (x : Message) (b d : Bool) → p.count ≤ (came p m.entry.at x b d).count
      made x false d = omega arith
      made x true true = omega arith
      made x true false = omega arith

      chosen : (op : OpName) (answer : Answer) → (with_choice op answer p).count ≡ p.count
      chosen op (Go u b) = one (row_named p op)
        where
          one : (o : Option ClientRow) → (placed p u b o).count ≡ p.count
          one None = refl
          one (Some r) = refl
      chosen op _ = refl

      by : (w : What) → p.count ≤ (client_behind s m.entry.at m.mark p w).count
      by (what.In id rest) = made (record { id = id; rest = rest }) (makes_operation (record { id = id; rest = rest })) (is_request_of Bind (record { id = id; rest = rest }))
      by (what.Out id rest) = same (client_behind s m.entry.at m.mark p (what.Out id rest)).count (out_count s m.entry.at m.mark p rest (row_under p id))
      by (what.Chosen o a) = same (client_behind s m.entry.at m.mark p (what.Chosen o a)).count (chosen o a)
      by _ = omega arith

  -- such a letter begins an operation
  abbrev Begins : (Letter → Bool) → Type 0
  Begins t = (p : ClientState) (at : ℕ) (w : What) → any_of t (client_letters s p at w) ≡ true → begins p at w ≡ true

  number_is : (p : ClientState) (at : ℕ) (w : What) → begins p at w ≡ true → op.k ≡ suc p.count
  number_is p at w h = same_number op.k (suc p.count) (right (op.client == p.number) _ (left (same_op op (next_name p)) _ h))

  -- so behind it none is given
  none_later : (t : Letter → Bool) → Begins t → (p : ClientState) (ms : List Marked) → op.k ≤ p.count → any_of t (client_gives s p ms) ≡ true → false ≡ true
  none_later t says p [] low h = h
  none_later t says p (m ∷ ms) low h = any_split (λ (x : Posted). t x.letter) (client_letters s p m.entry.at m.entry.what) (client_gives s (step_client s p m) ms) here (none_later t says (step_client s p m) ms (le_trans op.k p.count (step_client s p m).count low (never_falls p m))) h
    where
      le_trans : (a b c : ℕ) → a ≤ b → b ≤ c → a ≤ c
      le_trans a b c i j = omega (arith, i, j)

      over : (a b : ℕ) → a ≤ b → a ≡ suc b → false ≡ true
      over a b i j = absurd (omega (arith, i, j))

      here : any_of t (client_letters s p m.entry.at m.entry.what) ≡ true → false ≡ true
      here k = over op.k p.count low (number_is p m.entry.at m.entry.what (says p m.entry.at m.entry.what k))

  begun_low : (t : Letter → Bool) → Begins t → (p : ClientState) (m : Marked) → any_of t (client_letters s p m.entry.at m.entry.what) ≡ true → op.k ≤ (step_client s p m).count
  begun_low t says p m h = low op.k (step_client s p m).count p.count (number_is p m.entry.at m.entry.what b) (rises p m (right (same_op op (next_name p)) _ b))
    where
      b : begins p m.entry.at m.entry.what ≡ true
      b = says p m.entry.at m.entry.what h

      low : (a n k : ℕ) → a ≡ suc k → n ≡ suc k → a ≤ n
      low a n k i j = omega (arith, i, j)

  pub asked_or_pinned : (p : ClientState) (ms : List Marked) → any_of (is_ask_of op) (client_gives s p ms) ≡ true → any_of (is_other_forward op) (client_gives s p ms) ≡ true → false ≡ true
  asked_or_pinned p [] h k = h
  asked_or_pinned p (m ∷ ms) h k =
      any_split (λ (x : Posted). is_ask_of op x.letter) (client_letters s p m.entry.at m.entry.what) (client_gives s (step_client s p m) ms)
      (λ i. any_split (λ (x : Posted). is_other_forward op x.letter) (client_letters s p m.entry.at m.entry.what) (client_gives s (step_client s p m) ms) (one_only p m.entry.at m.entry.what i) (none_later (is_other_forward op) other_begins (step_client s p m) ms (begun_low (is_ask_of op) ask_begins p m i)) k)
      (λ i. any_split (λ (x : Posted). is_other_forward op x.letter) (client_letters s p m.entry.at m.entry.what) (client_gives s (step_client s p m) ms) (λ j. none_later (is_ask_of op) ask_begins (step_client s p m) ms (begun_low (is_other_forward op) other_begins p m j) i) (asked_or_pinned (step_client s p m) ms i) k)
      h
