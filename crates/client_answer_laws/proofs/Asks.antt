-- What a client asked the desk for and didn't learn a choice of: operations of its own, for which none stands in its list.
use Rattle.std.proofs.Common.{◌≡◌, ℕ, suc, Bool, true, false, ◌==◌, ◌&&◌, ◌||◌, not, List, [], ◌∷◌, ◌++◌, length, refl, ap, ◌∙◌, arith}
use Rattle.std.specs.Prelude.{Option, Some, None, is_some, nat_le, nat_lt, if◌then◌else◌}
use Rattle.std.specs.List.{list_any, list_all}
use Rattle.std.proofs.lemmas.List.Folds.{list_all-append}
use Rattle.std.proofs.lemmas.Bool.{lt-ltb}
use Rattle.std.proofs.lemmas.Bool.Decides.{nat_tests}
use Rattle.ldap_spec.specs.Messages.{Message}
use Rattle.ldap_spec.specs.Kinds.{kind_of}
use Rattle.lload_names.specs.declared.names.Entry.{Entry}
use Rattle.lload_names.specs.declared.names.OpName.{OpName}
use Rattle.lload_names.specs.declared.names.OpKind.{OpKind}
use Rattle.lload_names.specs.declared.names.PartName.{PartName}
use Rattle.lload_names.specs.declared.names.Answer.{Answer}
use Rattle.lload_names.specs.declared.names.What.{What}
use Rattle.lload_names.specs.declared.names.What.TheVariants as what
use Rattle.lload_spec.specs.Lists.{where_there, passes}
use Rattle.lload_spec.specs.Settings.{Settings}
use Rattle.lload_spec.specs.Journal.{same_op}
use Rattle.lload_spec.specs.Entries.{Named, makes_operation, chosen}
use Rattle.lload_spec.specs.Operations.{operations}
use Rattle.lload_spec.specs.FirstCheck.{Check, GoesOn, lets_go_on, is_pinned_by}
use Rattle.lload_spec.specs.Binding.{kind_wanted}
use Rattle.lload_spec.specs.Strict.{is_choice_for}
use Rattle.part_spec.specs.ClientState.{ClientState, AskedFor, facts_of, check_at, next_name, asked_behind}
use Rattle.lload_spec.proofs.Growth.{left, right, both}
use Rattle.lload_laws.proofs.ClientGrowth.{count_rises}
use Rattle.lload_laws.proofs.ListLaws.{all_imply}
use Rattle.part_laws.proofs.ListLaws.{not_true, none_of_both, same_op_eq, same_op_sym, eq_eqb, le_same, false_by}
use Rattle.client_laws.proofs.ClientKinds.{has_its_kind, answered_kind}
use Rattle.client_laws.proofs.ClientEnds.{kind_makes, checked_id}
use Rattle.client_laws.proofs.ClientTurns.{is_end}
use Rattle.client_laws.proofs.ClientLives.{entry_of}
use Rattle.client_answer_laws.proofs.Each.{Each, each_imply, each_append, each_filter}
use Rattle.client_answer_laws.proofs.Waits.{is_within, within_more, more_operations}

-- a request that its check lets go on makes an operation
pub going_makes : (s : Settings) (p : ClientState) (m : Message) → lets_go_on (check_at s p m) ≡ true → makes_operation m ≡ true
going_makes s p m h = by (kind_of m.rest) refl (answered_kind s p m (by_check (check_at s p m) h))
  where
    by_check : (k : Check) → lets_go_on k ≡ true → has_its_kind k ≡ true
    by_check GoesOn j = refl
    by_check _ j = absurd (let bad : false ≡ true = j in cc)

    no_end : (k : Check) → lets_go_on k ≡ true → is_end k ≡ false
    no_end GoesOn j = refl
    no_end _ j = absurd (let bad : false ≡ true = j in cc)

    by : (o : Option OpKind) → kind_of m.rest ≡ o → is_some o ≡ true → makes_operation m ≡ true
    by None e k = absurd (let bad : false ≡ true = k in cc)
    by (Some kind) e k = kind_makes m kind e (checked_id s p m (no_end (check_at s p m) h))

-- whether a choice that stands somewhere is of an operation of this client, with a number up to n
abbrev pub is_choice_within : ℕ → ℕ → Entry → Bool
is_choice_within c n e = where_there (λ x. is_within c n x.op) (chosen e.what)

pub record AskKnown (c : ℕ) (place : List Entry) (a : AskedFor) : Type 0 where
  pub within : is_within c (length (operations c place)) a.op ≡ true
  pub unchosen : list_any (is_choice_for a.op) place ≡ false

-- what is known of all that was asked and chosen
pub record AsksKnown (c : ℕ) (place : List Entry) (asked : List AskedFor) : Type 0 where
  pub each : Each (AskKnown c place) asked
  pub choices : list_all (is_choice_within c (length (operations c place))) place ≡ true

-- the one that is asked for is known
pub asked_known : (c : ℕ) (place : List Entry) (asked : List AskedFor) (op : OpName) → Each (AskKnown c place) asked → list_any (λ a. same_op op a.op) asked ≡ true → AskKnown c place (record { op = op; kind = kind_wanted (record { id = 0; rest = [] }) })
asked_known c place [] op h k = absurd (let bad : false ≡ true = k in cc)
asked_known c place (a ∷ asked) op h k = by (same_op op a.op) refl k (asked_known c place asked op h.1)
  where
    by : (b : Bool) → same_op op a.op ≡ b → (b || list_any (λ x. same_op op x.op) asked) ≡ true → (list_any (λ x. same_op op x.op) asked ≡ true → AskKnown c place (record { op = op; kind = kind_wanted (record { id = 0; rest = [] }) })) → AskKnown c place (record { op = op; kind = kind_wanted (record { id = 0; rest = [] }) })
    by true e j ih = let same : op ≡ a.op = same_op_eq op a.op e in record { within = ap (is_within c (length (operations c place))) same ∙ h.0.within; unchosen = ap (λ o. list_any (is_choice_for o) place) same ∙ h.0.unchosen }
    by false e j ih = ih j

-- no choice of a number above those of the operations stands there
none_above : (c n : ℕ) (place : List Entry) → list_all (is_choice_within c n) place ≡ true → list_any (is_choice_for (record { client = c; k = suc n })) place ≡ false
none_above c n [] h = refl
none_above c n (e ∷ place) h = none_of_both (is_choice_for (record { client = c; k = suc n })) (e ∷ []) place (or_false_of (is_choice_for (record { client = c; k = suc n }) e) (by (chosen e.what) (left (is_choice_within c n e) _ h))) (none_above c n place (right (is_choice_within c n e) _ h))
  where
    or_false_of : (b : Bool) → b ≡ false → (b || false) ≡ false
    or_false_of true k = k
    or_false_of false k = refl

    by : (o : Option (Named Answer)) → where_there (λ x. is_within c n x.op) o ≡ true → passes (λ x. same_op (record { client = c; k = suc n }) x.op) o ≡ false
    by None k = refl
    by (Some x) k = false_by (same_op (record { client = c; k = suc n }) x.op) (λ j. let top : nat_le x.op.k n ≡ true = right (x.op.client == c && nat_lt 0 x.op.k) _ k in let same : (suc n == x.op.k) ≡ true = right (c == x.op.client) _ j in absurd (grind (arith, nat_tests, top, same)))

module _ (s : Settings) (c at : ℕ) (part : PartName) (place : List Entry) (p : ClientState) (number : p.number ≡ c) (count : p.count ≡ length (operations c place)) (h : AsksKnown c place p.asked) where
  abbrev behind : What → List Entry
  behind w = place ++ entry_of part at w ∷ []

  -- an entry that isn't a choice of it
  older : (w : What) (a : AskedFor) → is_choice_for a.op (entry_of part at w) ≡ false → AskKnown c place a → AskKnown c (place ++ entry_of part at w ∷ []) a
  older w a none k = record { within = within_more c (length (operations c place)) (length (operations c (place ++ entry_of part at w ∷ []))) a.op (more_operations c place (entry_of part at w)) k.within; unchosen = none_of_both (is_choice_for a.op) place (entry_of part at w ∷ []) k.unchosen (ap (λ b. b || false) none) }

  olders : (w : What) → chosen w ≡ None → Each (AskKnown c (place ++ entry_of part at w ∷ [])) p.asked
  olders w none = each_imply (AskKnown c place) (AskKnown c (place ++ entry_of part at w ∷ [])) p.asked (λ a k. older w a (ap (passes (λ x. same_op a.op x.op)) none) k) h.each

  choices_more : (w : What) → is_choice_within c (length (operations c place)) (entry_of part at w) ≡ true → list_all (is_choice_within c (length (operations c (place ++ entry_of part at w ∷ [])))) (place ++ entry_of part at w ∷ []) ≡ true
  choices_more w k = list_all-append (is_choice_within c (length (operations c (place ++ entry_of part at w ∷ [])))) place (entry_of part at w ∷ []) ∙ both (list_all (is_choice_within c (length (operations c (place ++ entry_of part at w ∷ [])))) place) _ (all_imply (is_choice_within c (length (operations c place))) (is_choice_within c (length (operations c (place ++ entry_of part at w ∷ [])))) place more h.choices) (both (is_choice_within c (length (operations c (place ++ entry_of part at w ∷ []))) (entry_of part at w)) true (more (entry_of part at w) k) refl)
    where
      more : (e : Entry) → is_choice_within c (length (operations c place)) e ≡ true → is_choice_within c (length (operations c (place ++ entry_of part at w ∷ []))) e ≡ true
      more e j = by (chosen e.what) j
        where
          by : (o : Option (Named Answer)) → where_there (λ x. is_within c (length (operations c place)) x.op) o ≡ true → where_there (λ x. is_within c (length (operations c (place ++ entry_of part at w ∷ []))) x.op) o ≡ true
          by None i = refl
          by (Some x) i = within_more c (length (operations c place)) (length (operations c (place ++ entry_of part at w ∷ []))) x.op (more_operations c place (entry_of part at w)) i

  asks_in : (m : Message) → AsksKnown c (place ++ entry_of part at (what.In m.id m.rest) ∷ []) (asked_behind s p (what.In m.id m.rest))
  asks_in m = record { each = by (lets_go_on (check_at s p m)) (not (is_pinned_by s (facts_of p) m)) (going_makes s p m); choices = choices_more (what.In m.id m.rest) refl }
    where
      w : What
      w = what.In m.id m.rest

      put : Bool → Option Message
      put b = elim b [ true ↦ Some (record { id = m.id; rest = m.rest }) | false ↦ None ]

      new : makes_operation m ≡ true → AskKnown c (place ++ entry_of part at (what.In m.id m.rest) ∷ []) (record { op = next_name p; kind = kind_wanted m })
      new makes =
          let grown : length (operations c (place ++ entry_of part at (what.In m.id m.rest) ∷ [])) ≡ suc (length (operations c place)) = count_rises c place (entry_of part at (what.In m.id m.rest)) m (ap put makes) in
          record {
            within = both (p.number == c && nat_lt 0 (suc p.count)) _ (both (p.number == c) (nat_lt 0 (suc p.count)) (eq_eqb p.number c number) (lt-ltb 0 (suc p.count) (omega arith))) (ap (λ n. nat_le (suc n) (length (operations c (place ++ entry_of part at (what.In m.id m.rest) ∷ [])))) count ∙ ap (nat_le (suc (length (operations c place)))) grown ∙ le_same (suc (length (operations c place))));
            unchosen = none_of_both (is_choice_for (next_name p)) place (entry_of part at (what.In m.id m.rest) ∷ []) (ap (λ n. list_any (is_choice_for (record { client = n; k = suc p.count })) place) number ∙ ap (λ n. list_any (is_choice_for (record { client = c; k = suc n })) place) count ∙ none_above c (length (operations c place)) place h.choices) refl;
          }

      by : (a b : Bool) → (a ≡ true → makes_operation m ≡ true) → Each (AskKnown c (place ++ entry_of part at (what.In m.id m.rest) ∷ [])) (if a && b then p.asked ++ record { op = next_name p; kind = kind_wanted m } ∷ [] else p.asked)
      by true true f = each_append (AskKnown c (place ++ entry_of part at (what.In m.id m.rest) ∷ [])) p.asked (record { op = next_name p; kind = kind_wanted m } ∷ []) (olders (what.In m.id m.rest) refl) (new (f refl), tt)
      by true false f = olders (what.In m.id m.rest) refl
      by false b f = olders (what.In m.id m.rest) refl

  asks_chosen : (op : OpName) (a : Answer) → list_any (λ x. same_op op x.op) p.asked ≡ true → AsksKnown c (place ++ entry_of part at (what.Chosen op a) ∷ []) (asked_behind s p (what.Chosen op a))
  asks_chosen op a k = record { each = each_filter (AskKnown c place) (AskKnown c (place ++ entry_of part at (what.Chosen op a) ∷ [])) (λ x. not (same_op op x.op)) p.asked (λ x j q. older (what.Chosen op a) x (same_op_sym x.op op ∙ not_true (same_op op x.op) j) q) h.each; choices = choices_more (what.Chosen op a) (asked_known c place p.asked op h.each k).within }

  plain : (w : What) → chosen w ≡ None → AsksKnown c (place ++ entry_of part at w ∷ []) p.asked
  plain w none = record { each = olders w none; choices = choices_more w (ap (where_there (λ x. is_within c (length (operations c place)) x.op)) none) }

  pub asks_behind : (w : What) → ((op : OpName) (a : Answer) → w ≡ what.Chosen op a → list_any (λ x. same_op op x.op) p.asked ≡ true) → AsksKnown c (place ++ entry_of part at w ∷ []) (asked_behind s p w)
  asks_behind (what.In id rest) f = asks_in (record { id = id; rest = rest })
  asks_behind (what.Chosen op a) f = asks_chosen op a (f op a refl)
  asks_behind _ f = plain _ refl
