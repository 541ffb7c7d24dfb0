-- Where the success of an operation is kept back, and its identity was asked for: its connection gives one letter for it, and
-- that only where the Who Am I is answered, or where the operation is lost.
use Rattle.std.proofs.Common.{◌≡◌, ◌⊎◌, inl, inr, ℕ, ◌+◌, ◌≤◌, Bool, true, false, ◌==◌, ◌&&◌, not, if◌then◌else◌, List, [], ◌∷◌, ◌++◌, arith, refl, ap, ◌∙◌, sym}
use Rattle.std.specs.Prelude.{Option, Some, None, find, flat_map, is_none, is_some}
use Rattle.std.specs.List.{list_all}
use Rattle.ldap_spec.specs.Kinds.{is_intermediate, tag_of}
use Rattle.ldap_spec.specs.Messages.{Message}
use Rattle.ldap_spec.specs.Responses.{tells_who, who_value}
use Rattle.lload_names.specs.declared.names.ConnKind.{ConnKind}
use Rattle.lload_names.specs.declared.names.ConnKind.TheVariants.{Bind as BindKind, Regular}
use Rattle.lload_names.specs.declared.names.EndWhy.TheVariants.{Bad as BadEnd}
use Rattle.lload_names.specs.declared.names.Letter.TheVariants.{Failed, Reply}
use Rattle.lload_names.specs.declared.names.OpName.{OpName}
use Rattle.lload_names.specs.declared.names.PartName.TheVariants.{Client}
use Rattle.lload_names.specs.declared.names.Refusal.TheVariants.{C9}
use Rattle.lload_names.specs.declared.names.What.{What}
use Rattle.lload_names.specs.declared.names.What.TheVariants as what
use Rattle.lload_spec.specs.Answers.{extended_rest}
use Rattle.lload_spec.specs.BadMessages.{is_bad}
use Rattle.lload_spec.specs.Journal.{same_op}
use Rattle.lload_spec.specs.Lists.{passes}
use Rattle.lload_spec.specs.Settings.{Settings, is_kind}
use Rattle.lload_spec.proofs.Growth.{left, right, both}
use Rattle.lload_laws.proofs.ListLaws.{found, found_passes, implied, implies_by}
use Rattle.part_laws.proofs.ListLaws.{eq_eqb, false_by, same_number}
use Rattle.part_spec.specs.BindTurn.{answered as bind_answered, identity_letters, kept_rest, row_answer as bind_row_answer, who_answer}
use Rattle.part_spec.specs.ConnectionState.{ConnectionState, Kept, UpRow, behind_answer, behind_message, behind_who, is_bind, is_under, is_under_own, is_under_who, message_facts, with_got}
use Rattle.part_spec.specs.ConnectionTurn.{goes_down, holder_ended}
use Rattle.part_spec.specs.Gives.{got_letters}
use Rattle.part_spec.specs.Inputs.{act, failed, letters_alone, nothing, reply}
use Rattle.part_spec.specs.RegularTurn.{answered}
use Rattle.connection_laws.proofs.Apart.{are_apart, shrinks_message}
use Rattle.answer_laws.proofs.Keeps.{answers_who}
use Rattle.answer_laws.proofs.Rests.{lone_found, mine_flat, of_mine}
use Rattle.told_laws.proofs.Given.{letters_pass}
use Rattle.given_laws.proofs.Counts.{are_silent, count, count_both, count_few, holder_silent, is_silent, silent_none}

-- a row whose answer is kept back is under no message's identifier
pub kept_apart : (i w : ℕ) (r : UpRow) → is_under_who w r ≡ true → is_under i r ≡ false
kept_apart i w r h = by (r.id == i) r.kept h
  where
    by : (b : Bool) (o : Option Kept) → passes (λ who. who == w) (elim o [ None ↦ None | Some k ↦ k.who ]) ≡ true → (b && not (is_some o)) ≡ false
    by b None k = absurd (let bad' : false ≡ true = k in cc)
    by true (Some x) k = refl
    by false (Some x) k = refl

-- two identifiers of one Who Am I are one
one_who : (i w : ℕ) (r : UpRow) → is_under_who i r ≡ true → is_under_who w r ≡ true → (i == w) ≡ true
one_who i w r h k = by r.kept h k
  where
    at : (o : Option ℕ) → passes (λ who. who == i) o ≡ true → passes (λ who. who == w) o ≡ true → (i == w) ≡ true
    at None x y = absurd (let bad' : false ≡ true = x in cc)
    at (Some n) x y = eq_eqb i w (sym (same_number n i x) ∙ same_number n w y)

    by : (o : Option Kept) → passes (λ who. who == i) (elim o [ None ↦ None | Some k ↦ k.who ]) ≡ true → passes (λ who. who == w) (elim o [ None ↦ None | Some k ↦ k.who ]) ≡ true → (i == w) ≡ true
    by None x y = absurd (let bad' : false ≡ true = x in cc)
    by (Some n) x y = at n.who x y

module _ (s : Settings) (op : OpName) (w : ℕ) (p : ConnectionState) (apart : are_apart p.rows ≡ true) (at : ℕ) (m : Message) (asked : list_all (of_mine op (is_under_who w)) p.rows ≡ true) (fine : is_bad (message_facts p) m ≡ false) (own : is_under_own p m.id ≡ false) where
  abbrev rows_behind : List UpRow
  rows_behind = flat_map (behind_message at m) p.rows

  behind_is : (r : UpRow) → is_under_who w r ≡ true → behind_message at m r ≡ elim (is_under_who m.id r) [ true ↦ behind_who at m.rest r | false ↦ r ∷ [] ]
  behind_is r h = ap (λ b. elim b [ true ↦ behind_answer at m.rest r | false ↦ elim (is_under_who m.id r) [ true ↦ behind_who at m.rest r | false ↦ r ∷ [] ] ]) (kept_apart m.id w r h)

  -- its row stays, or goes
  rows_stay : list_all (of_mine op (is_under_who w)) rows_behind ≡ true
  rows_stay = mine_flat op (is_under_who w) (is_under_who w) (behind_message at m) p.rows (shrinks_message at m) (λ r k. ap (list_all (of_mine op (is_under_who w))) (behind_is r k) ∙ by r k (is_under_who m.id r) (tag_of m.rest == 0x78)) asked
    where
      by : (r : UpRow) → is_under_who w r ≡ true → (a t : Bool) → list_all (of_mine op (is_under_who w)) (elim a [ true ↦ elim t [ true ↦ [] | false ↦ record r { answered = at } ∷ [] ] | false ↦ r ∷ [] ]) ≡ true
      by r k true true = refl
      by r k true false = both (of_mine op (is_under_who w) r) true (implies_by (same_op op r.op) _ (λ j. k)) refl
      by r k false t = both (of_mine op (is_under_who w) r) true (implies_by (same_op op r.op) _ (λ j. k)) refl

  -- whether it answers the Who Am I of the operation
  abbrev is_hit : Bool
  is_hit = is_none (find (is_under m.id) p.rows) && passes (λ r. same_op op r.op) (find (is_under_who m.id) p.rows) && not (is_intermediate m.rest)

  silent : is_hit ≡ false → are_silent op (got_letters s p at m) ≡ true
  silent miss =
      letters_pass (is_silent op) s p at None (what.Got m.id m.rest) (record {
        ended = λ o v late. refl;
        up = λ v. refl;
        retired = λ v. refl;
        down = λ v. refl;
        replied = λ id rest e f r k back is_last. ap not (false_by (same_op op r.op) (λ j. sym (kept_apart id w r (implied (same_op op r.op) _ (found (of_mine op (is_under_who w)) (is_under id) p.rows r k asked) j)) ∙ found_passes (is_under id) p.rows r k));
        told = λ id rest e f sort r k g i t. ap not (other id rest e r k g i);
        unknown = λ id rest e f sort r k g i t. ap not (other id rest e r k g i);
        expired = λ o e. absurd (cc);
        missed = λ o e. absurd (cc);
        lost = λ why e. absurd (cc);
      })
    where
      other : (id : ℕ) (rest : List ℕ) → ◌≡◌ {A = What} (what.Got m.id m.rest) (what.Got id rest) → (r : UpRow) → find (is_under id) p.rows ≡ None → find (is_under_who id) p.rows ≡ Some r → is_intermediate rest ≡ false → same_op op r.op ≡ false
      other id rest e r k g i =
          let same : m.id ≡ id = cc in
          let text : m.rest ≡ rest = cc in
          false_by (same_op op r.op) (λ j. sym miss ∙ both (is_none (find (is_under m.id) p.rows) && passes (λ x. same_op op x.op) (find (is_under_who m.id) p.rows)) _ (both (is_none (find (is_under m.id) p.rows)) _ (ap is_none (ap (λ n. find (is_under n) p.rows) same ∙ k)) (ap (passes (λ x. same_op op x.op)) (ap (λ n. find (is_under_who n) p.rows) same ∙ g) ∙ j)) (ap not (ap is_intermediate text ∙ i)))

  -- what it gives then
  record Settles : Type 0 where
    few : count op (got_letters s p at m) ≤ 1
    gone : list_all (of_mine op (λ r. false)) rows_behind ≡ true
    extended : is_some (extended_rest w m) ≡ true

  settles : is_bind p ≡ true → is_hit ≡ true → Settles
  settles bp hit = by (find (is_under m.id) p.rows) (find (is_under_who m.id) p.rows) (is_intermediate m.rest) refl refl refl hit
    where
      by : (a b : Option UpRow) (i : Bool) → find (is_under m.id) p.rows ≡ a → find (is_under_who m.id) p.rows ≡ b → is_intermediate m.rest ≡ i → (is_none a && passes (λ r. same_op op r.op) b && not i) ≡ true → Settles
      by (Some x) b i e k z h = absurd (let bad' : false ≡ true = h in cc)
      by None None i e k z h = absurd (let bad' : false ≡ true = h in cc)
      by None (Some q) true e k z h = absurd (let bad' : false ≡ true = right (same_op op q.op) false h in cc)
      by None (Some q) false e k z h =
          let mine : same_op op q.op ≡ true = left (same_op op q.op) true h in
          let under : is_under_who w q ≡ true = implied (same_op op q.op) _ (found (of_mine op (is_under_who w)) (is_under_who m.id) p.rows q k asked) mine in
          let tag : (tag_of m.rest == 0x78) ≡ true = answers_who p m q fine own e k z in
          record {
            few = few_of (ap (λ d. count op (letters_alone (elim d [ true ↦ goes_down p BadEnd | false ↦ elim p.kind [ Regular ↦ answered p at m | BindKind ↦ bind_answered s p m ] ]))) fine ∙ on_bind p.kind bp ∙ ap (λ a. count op (letters_alone (elim a [ Some r ↦ bind_row_answer s p m.rest r | None ↦ elim (find (is_under_who m.id) p.rows) [ Some r ↦ who_answer p m.rest r | None ↦ nothing ] ]))) e ∙ ap (λ b. count op (letters_alone (elim b [ Some r ↦ who_answer p m.rest r | None ↦ nothing ]))) k ∙ ap (λ b. count op (letters_alone (elim b [ true ↦ nothing | false ↦ act [] (identity_letters q m.rest ++ holder_ended p) ]))) z);
            gone = mine_flat op (λ r. false) (λ x. list_all (of_mine op (λ r. false)) (behind_message at m x)) (behind_message at m) p.rows (shrinks_message at m) (λ r j. j) (lone_found op (λ x. list_all (of_mine op (λ r. false)) (behind_message at m x)) (is_under_who m.id) p.rows q apart k mine (ap (list_all (of_mine op (λ r. false))) (behind_is q under ∙ ap (λ b. elim b [ true ↦ behind_who at m.rest q | false ↦ q ∷ [] ]) (found_passes (is_under_who m.id) p.rows q k) ∙ ap (λ b. elim b [ true ↦ [] | false ↦ record q { answered = at } ∷ [] ]) tag)));
            extended = ap (λ b. is_some (if b then Some m.rest else None)) (both (m.id == w) _ (one_who m.id w q (found_passes (is_under_who m.id) p.rows q k) under) tag);
          }
        where
          on_bind : (kind : ConnKind) → is_kind BindKind kind ≡ true → count op (letters_alone (elim kind [ Regular ↦ answered p at m | BindKind ↦ bind_answered s p m ])) ≡ count op (letters_alone (bind_answered s p m))
          on_bind BindKind j = refl
          on_bind Regular j = absurd (let bad' : false ≡ true = j in cc)

          told_few : (t : Bool) → count op (elim t [ true ↦ reply q.op (kept_rest q) true (who_value m.rest) | false ↦ failed q.op C9 ]) ≤ 1
          told_few true = count_few op (record { to = Client q.op.client; letter = Reply q.op (kept_rest q) true (who_value m.rest) })
          told_few false = count_few op (record { to = Client q.op.client; letter = Failed q.op C9 })

          few_of : count op (got_letters s p at m) ≡ count op (identity_letters q m.rest ++ holder_ended p) → count op (got_letters s p at m) ≤ 1
          few_of same =
              let all : count op (identity_letters q m.rest ++ holder_ended p) ≡ count op (identity_letters q m.rest) + count op (holder_ended p) = count_both op (identity_letters q m.rest) (holder_ended p) in
              let none : count op (holder_ended p) ≡ 0 = silent_none op (holder_ended p) (holder_silent op p) in
              let few : count op (identity_letters q m.rest) ≤ 1 = told_few (tells_who m.rest) in
              omega (arith, same, all, none, few)

  -- it gives nothing for the operation; or its one letter
  pub got_asked : is_bind p ≡ true → ((count op (got_letters s p at m) ≡ 0) × (list_all (of_mine op (is_under_who w)) (with_got at m p).rows ≡ true)) ⊎ ((count op (got_letters s p at m) ≤ 1) × (list_all (of_mine op (λ r. false)) (with_got at m p).rows ≡ true) × (is_some (extended_rest w m) ≡ true))
  got_asked bp = by is_hit refl
    where
      rows_are : (t : UpRow → Bool) → list_all (of_mine op t) rows_behind ≡ true → list_all (of_mine op t) (with_got at m p).rows ≡ true
      rows_are t k = ap (λ b. list_all (of_mine op t) (if b then p.rows else rows_behind)) own ∙ k

      by : (b : Bool) → is_hit ≡ b → ((count op (got_letters s p at m) ≡ 0) × (list_all (of_mine op (is_under_who w)) (with_got at m p).rows ≡ true)) ⊎ ((count op (got_letters s p at m) ≤ 1) × (list_all (of_mine op (λ r. false)) (with_got at m p).rows ≡ true) × (is_some (extended_rest w m) ≡ true))
      by false e = inl (silent_none op (got_letters s p at m) (silent e), rows_are (is_under_who w) rows_stay)
      by true e = let x : Settles = settles bp e in inr (x.few, rows_are (λ r. false) x.gone, x.extended)
