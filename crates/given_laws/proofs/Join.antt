-- No connection gives more letters for an operation than the lists say that its client was given.
use Rattle.std.proofs.Common.{◌≡◌, inl, inr, ℕ, ◌≤◌, Bool, true, false, ◌==◌, not, List, [], ◌∷◌, arith, refl, ap, ◌∙◌, sym, subst}
use Rattle.std.specs.Prelude.{Option, Some, None, cond, filter, nat_le}
use Rattle.std.specs.List.{list_any, list_all}
use Rattle.std.proofs.lemmas.Bool.{le-leb}
use Rattle.lload_names.specs.declared.names.OpName.{OpName}
use Rattle.lload_names.specs.declared.names.PartName.{PartName}
use Rattle.lload_names.specs.declared.names.PartName.TheVariants.{Up as Connection}
use Rattle.lload_spec.specs.Answers.{Sending, all_sendings, sendings, sendings_of}
use Rattle.lload_spec.specs.CausedUp.{is_missed_caused}
use Rattle.lload_spec.specs.Fifo.{is_sent_once}
use Rattle.lload_spec.specs.Entries.{is_missed, is_sent}
use Rattle.lload_spec.specs.Journal.{Family, IsWhole, same_op}
use Rattle.lload_spec.specs.Lists.{each_entry, first, passes}
use Rattle.lload_spec.specs.Operations.{Operation, operation}
use Rattle.lload_spec.specs.Owed.{count_of, is_missed_by, told_by, told_to}
use Rattle.lload_spec.specs.Settings.{Settings}
use Rattle.lload_spec.specs.Strict.{each_missed_once, is_missed_once}
use Rattle.lload_spec.proofs.Growth.{left, right}
use Rattle.lload_laws.proofs.ListLaws.{any-filter}
use Rattle.part_laws.proofs.ListLaws.{not_true, same_number, splits_both}
use Rattle.part_spec.specs.ConnectionState.{empty_connection}
use Rattle.part_spec.specs.Marked.{Marked, entries}
use Rattle.part_spec.specs.Share.{ConnectionShare}
use Rattle.joined_laws.specs.Joined.{Joined, JoinedLaw}
use Rattle.carried_laws.specs.Laws.{ForwardsAreRight, are_forwards_right}
use Rattle.fifo_laws.specs.Laws.{FifoSentOnce}
use Rattle.fifo_laws.proofs.SentOnce.{others_here}
use Rattle.forward_laws.proofs.Chosen.{sent_forward}
use Rattle.forward_laws.proofs.Sendings.{all_sent}
use Rattle.answer_laws.proofs.Places.{nothing_at, rights_of}
use Rattle.told_laws.proofs.Came.{all_named, any_named, named_so}
use Rattle.told_laws.proofs.Sources.{at_home, home, missed_forward}
use Rattle.late_laws.proofs.Successes.{first_of_one, sent_among}
use Rattle.given_laws.specs.Laws.{GivenAsTold, count_given}
use Rattle.given_laws.proofs.Given.{Bounded, is_bounded, walk_given}

none_own : (op : OpName) (xs : List Sending) → list_all (λ x. not (same_op op x.op)) xs ≡ true → filter (λ x. same_op op x.op) xs ≡ []
none_own op [] h = refl
none_own op (x ∷ xs) h = ap (λ c. cond c (x ∷ filter (λ y. same_op op y.op) xs) (filter (λ y. same_op op y.op) xs)) (not_true (same_op op x.op) (left (not (same_op op x.op)) _ h)) ∙ none_own op xs (right (not (same_op op x.op)) _ h)

module _ (s : Settings) (F : Family) (marked : PartName → List Marked) (h : Joined s F marked) (whole : IsWhole F) (o : Operation) (there : operation F o.name ≡ Some o) (forwards : (p : PartName) → are_forwards_right s F (marked p) ≡ true) (once : is_sent_once F o ≡ true) (missed_once : (v : ℕ) → each_entry is_missed_once (F.connection v) ≡ true) (u : ℕ) where
  abbrev op : OpName
  op = o.name

  abbrev n : ℕ
  n = count_given s marked op u

  connection : ConnectionShare s u (marked (Connection u))
  connection = h.shared.shares (Connection u)

  same : entries (marked (Connection u)) ≡ F.connection u
  same = h.shared.same_entries (Connection u)

  bounded : Bounded s u F o there [] (F.connection u) n
  bounded = subst (λ l. Bounded s u F o there [] l n) same (walk_given s u F o there [] (empty_connection s u) (marked (Connection u)) (nothing_at s u) (record {
    rights = rights_of s u (marked (Connection u)) connection (h.fit (Connection u));
    due = connection.expired;
    owed = left _ _ connection.own_reasoned;
    once = splits_both (λ place e d. is_missed_once place e) (λ place e d. is_missed_caused place e) [] (entries (marked (Connection u))) (subst (λ l. each_entry is_missed_once l ≡ true) (sym same) (missed_once u)) connection.missed;
    told = forwards (Connection u);
  }) (λ k. absurd (let bad : false ≡ true = k in cc)) refl)

  -- where it was sent there, that Sent is the first
  sent_there : list_any (is_bounded s u F o there n) (sendings u (F.connection u)) ≡ true → nat_le n (told_to s F o) ≡ true
  sent_there k = by (first (sendings_of F op)) (first_of_one (λ x. nat_le n (told_by s o x x.behind)) (sendings_of F op) once (any-filter (λ x. nat_le n (told_by s o x x.behind)) (λ x. same_op op x.op) (all_sendings F) ∙ sent_among F whole (is_bounded s u F o there n) u k))
    where
      by : (q : Option Sending) → passes (λ x. nat_le n (told_by s o x x.behind)) q ≡ true → nat_le n (elim q [ None ↦ count_of (is_missed_by F op) | Some x ↦ told_by s o x x.behind ]) ≡ true
      by None j = absurd (let bad : false ≡ true = j in cc)
      by (Some x) j = j

  -- where it wasn't, it was missed there, and sent nowhere
  none_there : list_any (is_sent op) (F.connection u) ≡ false → n ≤ count_of (list_any (is_missed op) (F.connection u)) → nat_le n (told_to s F o) ≡ true
  none_there k few = by (list_any (is_missed op) (F.connection u)) refl few
    where
      nowhere : list_any (is_missed op) (F.connection u) ≡ true → (v : ℕ) → list_all (λ x. not (same_op op x.op)) (sendings v (F.connection v)) ≡ true
      nowhere m v = on (list_any (is_sent op) (F.connection v)) refl
        where
          on : (c : Bool) → list_any (is_sent op) (F.connection v) ≡ c → list_all (λ x. not (same_op op x.op)) (sendings v (F.connection v)) ≡ true
          on false e = others_here op v [] (F.connection v) e
          on true e =
              let here : home s F marked h op ≡ u = same_number (home s F marked h op) u (at_home s F marked h op u (missed_forward s F marked h op u m)) in
              let that : home s F marked h op ≡ v = same_number (home s F marked h op) v (at_home s F marked h op v (sent_forward s F marked h op v e)) in
              absurd (let bad : false ≡ true = sym k ∙ ap (λ w. list_any (is_sent op) (F.connection w)) (sym here ∙ that) ∙ e in cc)

      none_of_all : list_any (is_missed op) (F.connection u) ≡ true → sendings_of F op ≡ []
      none_of_all m = none_own op (all_sendings F) (all_sent F (λ x. not (same_op op x.op)) F.connections (nowhere m))

      among : list_any (is_missed op) (F.connection u) ≡ true → is_missed_by F op ≡ true
      among m = on (list_any (λ v. v == u) F.connections) refl
        where
          on : (c : Bool) → list_any (λ v. v == u) F.connections ≡ c → is_missed_by F op ≡ true
          on true e = any_named (λ v. list_any (is_missed op) (F.connection v)) u F.connections e m
          on false e = absurd (let bad : false ≡ true = ap (list_any (is_missed op)) (sym (whole.connections_named u e)) ∙ m in cc)

      by : (c : Bool) → list_any (is_missed op) (F.connection u) ≡ c → n ≤ count_of c → nat_le n (told_to s F o) ≡ true
      by false e x = le-leb n (told_to s F o) (omega (arith, x))
      by true e x =
          let told : told_to s F o ≡ 1 = ap (λ xs. elim (first xs) [ None ↦ count_of (is_missed_by F op) | Some y ↦ told_by s o y y.behind ]) (none_of_all e) ∙ ap count_of (among e) in
          le-leb n (told_to s F o) (omega (arith, x, told))

  given : nat_le n (told_to s F o) ≡ true
  given = by bounded
    where
      by : Bounded s u F o there [] (F.connection u) n → nat_le n (told_to s F o) ≡ true
      by (inl k) = sent_there k
      by (inr k) = none_there k.0 k.1

missed_at : (F : Family) → IsWhole F → each_missed_once F ≡ true → (v : ℕ) → each_entry is_missed_once (F.connection v) ≡ true
missed_at F whole h v = by (list_any (λ n. n == v) F.connections) refl
  where
    by : (b : Bool) → list_any (λ n. n == v) F.connections ≡ b → each_entry is_missed_once (F.connection v) ≡ true
    by true e = all_named (λ n. each_entry is_missed_once (F.connection n)) v F.connections e h
    by false e = ap (each_entry is_missed_once) (whole.connections_named v e)

pub given_as_told : FifoSentOnce → JoinedLaw → ForwardsAreRight → GivenAsTold
given_as_told once joined rightly s F marked h whole o there u =
    given s F marked h whole o there (rightly s F marked h) (named_so F whole (is_sent_once F) o.name o (once s F marked whole h) there) (missed_at F whole (joined s F marked h).missed_once) u
