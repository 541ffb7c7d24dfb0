-- What an operation was refused for came of it at its connection.
use Rattle.std.proofs.Common.{◌≡◌, arith, ℕ, Bool, true, false, ◌==◌, ◌&&◌, ◌||◌, List, [], ◌∷◌, length, refl, ap, ◌∙◌, sym, subst}
use Rattle.std.specs.Prelude.{None, Some, nat_le}
use Rattle.std.specs.List.{list_all, list_any}
use Rattle.std.proofs.lemmas.Bool.Decides.{nat_tests}
use Rattle.std.proofs.lemmas.List.Folds.{list_all-append}
use Rattle.lload_names.specs.declared.names.ConnKind.TheVariants.{Bind as BindKind, Regular}
use Rattle.lload_names.specs.declared.names.Entry.{Entry}
use Rattle.lload_names.specs.declared.names.OpKind.{OpKind}
use Rattle.lload_names.specs.declared.names.OpName.{OpName}
use Rattle.lload_names.specs.declared.names.PartName.{PartName}
use Rattle.lload_names.specs.declared.names.PartName.TheVariants.{Client, Up as Connection}
use Rattle.lload_names.specs.declared.names.Refusal.{Refusal}
use Rattle.lload_names.specs.declared.names.CancelAnswer.TheVariants.{C13}
use Rattle.lload_names.specs.declared.names.Refusal.TheVariants.{C1, C10, C11, C2, C3, C4, C5, C6, C7, C8, C9}
use Rattle.lload_spec.specs.Answers.{Sending, all_sendings, closing, closing_at, sendings, sendings_at, sendings_of}
use Rattle.lload_spec.specs.Caused.{has_cancel_cause, has_cause, has_causes, is_canceled_with, is_expired_at, is_forwarded_to, is_lost_at, is_lost_by, tells_no_identity}
use Rattle.lload_spec.specs.Entries.{is_expired, is_missed}
use Rattle.lload_spec.specs.Fifo.{cancel_answers, is_chosen_for, is_pinned_to, is_refused_with, is_sent_once, refusals}
use Rattle.lload_spec.specs.Journal.{Family, IsWhole, same_op}
use Rattle.lload_spec.specs.Lists.{first, implies, passes, some_split_from}
use Rattle.lload_spec.specs.Operations.{Operation, operation, operation_in, operations, operations_of}
use Rattle.lload_spec.specs.Settings.{Settings, is_of_kind}
use Rattle.lload_spec.specs.Strict.{is_empty}
use Rattle.lload_spec.proofs.Growth.{left, right, both}
use Rattle.lload_laws.proofs.ListLaws.{all_always, any-filter, any_imply, found, implies_by}
use Rattle.part_laws.proofs.ListLaws.{any_before, any_behind, or_elim, or_left, or_right, same_number}
use Rattle.part_spec.specs.ConnectionState.{empty_connection}
use Rattle.part_spec.specs.Fit.{empty_connection_ledger}
use Rattle.part_spec.specs.Gives.{connection_gives, gives}
use Rattle.part_spec.specs.Laws.{FitIsWhole}
use Rattle.part_spec.specs.Marked.{Marked, entries, letters_to}
use Rattle.part_spec.specs.Share.{ConnectionShare, has_cause as has_cause_by_list, has_letter, is_failure}
use Rattle.joined_laws.proofs.Taken.{is_mark_from, was_given}
use Rattle.fifo_laws.specs.Laws.{FifoSentOnce}
use Rattle.forward_laws.proofs.Causes.{is_forward_as}
use Rattle.forward_laws.proofs.Chosen.{chosen_so, of_some_kind, taken_cause}
use Rattle.carried_laws.specs.Laws.{ForwardsAreRight, Played}
use Rattle.caused_laws.specs.Laws.{BindConnectionsSay}
use Rattle.identity_laws.specs.Laws.{ChecksAreKnown, ClientsAreKnown}
use Rattle.rows_laws.proofs.Regular.{known_at_each}
use Rattle.upstream_laws.proofs.Ends.{nothing_here}
use Rattle.upstream_laws.proofs.Heads.{bind_heads}
use Rattle.upstream_laws.proofs.Places.{each_connection}
use Rattle.told_laws.specs.Laws.{RefusalsAreCaused}
use Rattle.told_laws.proofs.Given.{all_pass}
use Rattle.told_laws.proofs.Lost.{AtBind, bind_else, bind_there}
use Rattle.told_laws.proofs.Refusals.{answer_by_family, each_operation, refusal_by_family, refusal_by_list}
use Rattle.told_laws.proofs.Sources.{forwarded_there, from_home, given_there, home, is_forwarded}
use Rattle.told_laws.proofs.Unknown.{bind_unknown, regular_unknown, tells_none}
use Rattle.told_laws.proofs.Troubles.{failed_from, failed_mark, is_else, none_expired, none_of_letters, regular_else}

pub any_named : (t : ℕ → Bool) (u : ℕ) (us : List ℕ) → list_any (λ n. n == u) us ≡ true → t u ≡ true → list_any t us ≡ true
any_named t u [] h k = absurd (let bad : false ≡ true = h in cc)
any_named t u (n ∷ us) h k = or_elim (n == u) (list_any (λ m. m == u) us) (λ j. or_left (t n) _ (subst (λ v. t v ≡ true) (sym (same_number n u j)) k)) (λ j. or_right (t n) _ (any_named t u us j k)) h

pub all_named : (t : ℕ → Bool) (u : ℕ) (us : List ℕ) → list_any (λ n. n == u) us ≡ true → list_all t us ≡ true → t u ≡ true
all_named t u [] h k = absurd (let bad : false ≡ true = h in cc)
all_named t u (n ∷ us) h k = or_elim (n == u) (list_any (λ m. m == u) us) (λ j. subst (λ v. t v ≡ true) (same_number n u j) (left (t n) _ k)) (λ j. all_named t u us j (right (t n) _ k)) h

-- the operations of a client are among all
among_all : (F : Family) (t : Operation → Bool) (c : ℕ) (cs : List ℕ) → list_any (λ n. n == c) cs ≡ true → list_all t (operations_of F cs) ≡ true → list_all t (operations c (F.client c)) ≡ true
among_all F t c [] h k = absurd (let bad : false ≡ true = h in cc)
among_all F t c (n ∷ cs) h k =
    let parts : (list_all t (operations n (F.client n)) && list_all t (operations_of F cs)) ≡ true = sym (list_all-append t (operations n (F.client n)) (operations_of F cs)) ∙ k in
    or_elim (n == c) (list_any (λ m. m == c) cs) (λ j. subst (λ v. list_all t (operations v (F.client v)) ≡ true) (same_number n c j) (left (list_all t (operations n (F.client n))) _ parts)) (λ j. among_all F t c cs j (right (list_all t (operations n (F.client n))) _ parts)) h

-- what is so of all operations is so of the one of a name
pub named_so : (F : Family) → IsWhole F → (t : Operation → Bool) (op : OpName) (o : Operation) → list_all t (operations_of F F.clients) ≡ true → operation F op ≡ Some o → t o ≡ true
named_so F whole t op o h e = by (list_any (λ n. n == op.client) F.clients) refl
  where
    by : (b : Bool) → list_any (λ n. n == op.client) F.clients ≡ b → t o ≡ true
    by true k = found t (λ x. same_op op x.name) (operations op.client (F.client op.client)) o e (among_all F t op.client F.clients k h)
    by false k = absurd (let bad : None ≡ Some o = sym (ap (λ l. operation_in op.client l op) (whole.clients_named op.client k)) ∙ e in cc)

module _ (rightly : ForwardsAreRight) (fit_whole : FitIsWhole) (says : BindConnectionsSay) (s : Settings) (F : Family) (marked : PartName → List Marked) (h : Played s F marked) (o : Operation) (there : operation F o.name ≡ Some o) where
  abbrev u : ℕ
  u = home s F marked h.joined o.name

  abbrev list : List Marked
  list = marked (Client o.name.client)

  abbrev its : List Marked
  its = marked (Connection u)

  share : ConnectionShare s u its
  share = h.joined.shared.shares (Connection u)

  -- the connection is named in the family
  named : (F.connection u ≡ [] → false ≡ true) → list_any (λ n. n == u) F.connections ≡ true
  named some = by (list_any (λ n. n == u) F.connections) refl
    where
      by : (d : Bool) → list_any (λ n. n == u) F.connections ≡ d → d ≡ true
      by true e = refl
      by false e = some (h.whole.connections_named u e)

  module _ (which : Refusal) (k : list_any (has_letter (is_failure o.name which)) list ≡ true) where
    failed_home : list_any (λ m. is_mark_from (Connection u) (is_failure o.name which) m.mark) list ≡ true
    failed_home = failed_from u o.name which list (from_home s F marked h.joined o.name o.name.client) k

    -- its home gave the refusal
    given_so : list_any (is_failure o.name which) (letters_to (Client o.name.client) (gives s (Connection u) its)) ≡ true
    given_so = was_given s F marked h.joined.linked (Connection u) (Client o.name.client) (is_failure o.name which) failed_home

    came_there : list_any (is_forwarded o.name) (F.connection u) ≡ true
    came_there = given_there s F marked h.joined o.name u o.name.client (failed_mark u o.name which list failed_home)

    -- to which it was forwarded
    forwarded_so : is_forwarded_to F o u ≡ true
    forwarded_so = by (of_some_kind (Client o.name.client) o.name its (forwarded_there s F marked h.joined o.name u came_there))
      where
        by : (kind : OpKind) × (list_any (λ m. is_mark_from (Client o.name.client) (is_forward_as o.name kind) m.mark) its ≡ true) → is_forwarded_to F o u ≡ true
        by x = sym (ap (passes (λ p. is_chosen_for F p u || is_pinned_to F p u)) there) ∙ chosen_so s F marked h.joined h.whole o.name u x.0 (taken_cause s F marked h.joined o.name u x.0 x.1)

    named_so_there : list_any (λ n. n == u) F.connections ≡ true
    named_so_there = named (λ e. sym (ap (list_any (is_forwarded o.name)) e) ∙ came_there)

    -- so there is a letter that says so
    not_else : all_pass (is_else o.name s which) s (empty_connection s u) (connection_gives s (empty_connection s u) its) ≡ true → false ≡ true
    not_else j = sym (none_of_letters (is_failure o.name which) (Client o.name.client) (gives s (Connection u) its) j) ∙ given_so

  expired_there : list_any (has_letter (is_failure o.name C5)) list ≡ true → list_any (is_expired_at F o) F.connections ≡ true
  expired_there k = any_named (is_expired_at F o) u F.connections (named_so_there C5 k) (both (is_forwarded_to F o u) _ (forwarded_so C5 k) (by (list_any (is_expired o.name) (F.connection u)) refl))
    where
      by : (d : Bool) → list_any (is_expired o.name) (F.connection u) ≡ d → d ≡ true
      by true e = refl
      by false e = not_else C5 k (none_expired o.name s (empty_connection s u) its (ap (list_any (is_expired o.name)) (h.joined.shared.same_entries (Connection u)) ∙ e))

  abbrev is_lost : List Entry → Entry → List Entry → Bool
  is_lost place e behind = is_missed o.name e || is_lost_by s o u place e

  -- its connection is of one of the two kinds
  of_some : list_any (is_forwarded o.name) (F.connection u) ≡ true → list_any (λ n. n == u) F.connections ≡ true → (is_of_kind s Regular u || is_of_kind s BindKind u) ≡ true
  of_some k j = filled (F.connection u) k (all_named (λ v. is_empty (F.connection v) || (is_of_kind s Regular v || is_of_kind s BindKind v)) u F.connections j (each_connection s F marked h (λ v l. is_empty l || (is_of_kind s Regular v || is_of_kind s BindKind v)) (λ v i. or_right (is_empty (entries (marked (Connection v)))) _ (or_left (is_of_kind s Regular v) _ i)) (λ v i. or_right (is_empty (entries (marked (Connection v)))) _ (or_right (is_of_kind s Regular v) _ i)) (λ v. refl)))
    where
      filled : (l : List Entry) → list_any (is_forwarded o.name) l ≡ true → (is_empty l || (is_of_kind s Regular u || is_of_kind s BindKind u)) ≡ true → (is_of_kind s Regular u || is_of_kind s BindKind u) ≡ true
      filled [] a b = absurd (let bad : false ≡ true = a in cc)
      filled (e ∷ es) a b = b

  at_bind : (kind : is_of_kind s BindKind u ≡ true) → AtBind s F u kind [] (empty_connection_ledger s u) its
  at_bind kind = bind_there s F u kind its [] (empty_connection_ledger s u) (bind_heads says s F marked h u kind) (nothing_here s F u kind) tt (h.joined.fit (Connection u)) share.marks share.sent_once share.life (says s F marked h u kind).told share.expired

  lost_there : list_any (has_letter (is_failure o.name C4)) list ≡ true → list_any (is_lost_at s F o) F.connections ≡ true
  lost_there k = any_named (is_lost_at s F o) u F.connections (named_so_there C4 k) (both (is_forwarded_to F o u) _ (forwarded_so C4 k) (by (some_split_from is_lost [] (F.connection u)) refl))
    where
      by : (d : Bool) → some_split_from is_lost [] (F.connection u) ≡ d → d ≡ true
      by true e = refl
      by false e = not_else C4 k (or_elim (is_of_kind s Regular u) (is_of_kind s BindKind u) (λ kind. regular_else s F u o there its [] (empty_connection_ledger s u) (known_at_each rightly fit_whole s F marked h u kind) quiet) (λ kind. bind_else s F u kind o there its [] (empty_connection_ledger s u) (at_bind kind) quiet) (of_some (came_there C4 k) (named_so_there C4 k)))
        where
          quiet : some_split_from is_lost [] (entries its) ≡ false
          quiet = ap (some_split_from is_lost []) (h.joined.shared.same_entries (Connection u)) ∙ e

  -- what settles it by a Sent of a connection settles it by the family
  closing_so : (once : FifoSentOnce) → list_any (tells_none s F o there) (sendings u (F.connection u)) ≡ true → list_any (λ n. n == u) F.connections ≡ true → passes tells_no_identity (closing s F o) ≡ true
  closing_so once k j =
      let few : nat_le (length (sendings_of F o.name)) 1 ≡ true = named_so F h.whole (is_sent_once F) o.name o (once s F marked h.whole h.joined) there in
      let any : list_any (λ x. same_op o.name x.op && tells_none s F o there x) (all_sendings F) ≡ true = sents_among (λ x. same_op o.name x.op && tells_none s F o there x) u F.connections j (any_imply (tells_none s F o there) (λ x. same_op o.name x.op && tells_none s F o there x) (sendings u (F.connection u)) (λ x i. both (same_op o.name x.op) _ (left (same_op o.name x.op) _ i) i) k) in
      first_closes (sendings_of F o.name) few (any-filter (tells_none s F o there) (λ x. same_op o.name x.op) (all_sendings F) ∙ any)
    where
      sents_among : (t : Sending → Bool) (v : ℕ) (us : List ℕ) → list_any (λ n. n == v) us ≡ true → list_any t (sendings v (F.connection v)) ≡ true → list_any t (sendings_at F us) ≡ true
      sents_among t v [] a b = absurd (let bad : false ≡ true = a in cc)
      sents_among t v (n ∷ us) a b = or_elim (n == v) (list_any (λ m. m == v) us) (λ i. any_before t (sendings n (F.connection n)) (sendings_at F us) (subst (λ w. list_any t (sendings w (F.connection w)) ≡ true) (sym (same_number n v i)) b)) (λ i. any_behind t (sendings n (F.connection n)) (sendings_at F us) (sents_among t v us i b)) a

      first_closes : (xs : List Sending) → nat_le (length xs) 1 ≡ true → list_any (tells_none s F o there) xs ≡ true → passes tells_no_identity (elim (first xs) [ None ↦ None | Some sent ↦ closing_at s o sent ]) ≡ true
      first_closes [] a b = absurd (let bad : false ≡ true = b in cc)
      first_closes (x ∷ []) a b = right (same_op o.name x.op) _ (or_elim (tells_none s F o there x) false (λ i. i) (λ i. absurd (let bad : false ≡ true = i in cc)) b)
      first_closes (x ∷ y ∷ xs) a b = absurd (grind (arith, nat_tests, a))

  asked_in_vain : FifoSentOnce → list_any (has_letter (is_failure o.name C9)) list ≡ true → passes tells_no_identity (closing s F o) ≡ true
  asked_in_vain once k = by (list_any (tells_none s F o there) (sendings u (F.connection u))) refl
    where
      by : (d : Bool) → list_any (tells_none s F o there) (sendings u (F.connection u)) ≡ d → passes tells_no_identity (closing s F o) ≡ true
      by true e = closing_so once e (named_so_there C9 k)
      by false e = absurd (let bad : false ≡ true = not_else C9 k (or_elim (is_of_kind s Regular u) (is_of_kind s BindKind u) (λ kind. regular_unknown s F o there u its [] (empty_connection_ledger s u) (known_at_each rightly fit_whole s F marked h u kind)) (λ kind. bind_unknown s F o there u kind its [] (empty_connection_ledger s u) (at_bind kind) (ap (λ l. list_any (tells_none s F o there) (sendings u l)) (h.joined.shared.same_entries (Connection u)) ∙ e)) (of_some (came_there C9 k) (named_so_there C9 k))) in cc)

pub refusals_caused : ClientsAreKnown → ChecksAreKnown → ForwardsAreRight → FitIsWhole → BindConnectionsSay → FifoSentOnce → RefusalsAreCaused
refusals_caused are_known checks rightly fit_whole says once s F marked h =
    each_operation F (has_causes s F)
    (λ o there. both (list_all (λ which. implies (is_refused_with F which o) (has_cause s F o which)) refusals) _ (all_always (λ which. implies (is_refused_with F which o) (has_cause s F o which)) refusals (λ which. implies_by (is_refused_with F which o) _ (λ k. caused o there which (refusal_by_list are_known checks s F marked h o there which k)))) (all_always (λ which. implies (is_canceled_with F which o) (has_cancel_cause s F o which)) (C13 ∷ cancel_answers) (λ which. implies_by (is_canceled_with F which o) _ (λ k. answer_by_family are_known checks s F marked h o there which k)))) F.clients
  where
    caused : (o : Operation) (there : operation F o.name ≡ Some o) (which : Refusal) → has_cause_by_list s (marked (Client o.name.client)) o which ≡ true → has_cause s F o which ≡ true
    caused o there C4 k = lost_there rightly fit_whole says s F marked h o there k
    caused o there C5 k = expired_there rightly fit_whole says s F marked h o there k
    caused o there C9 k = asked_in_vain rightly fit_whole says s F marked h o there once (left (list_any (has_letter (is_failure o.name C9)) (marked (Client o.name.client))) _ k)
    caused o there C1 k = refusal_by_family are_known checks s F marked h o there C1 refl k
    caused o there C2 k = refusal_by_family are_known checks s F marked h o there C2 refl k
    caused o there C3 k = refusal_by_family are_known checks s F marked h o there C3 refl k
    caused o there C6 k = refusal_by_family are_known checks s F marked h o there C6 refl k
    caused o there C7 k = refusal_by_family are_known checks s F marked h o there C7 refl k
    caused o there C8 k = refusal_by_family are_known checks s F marked h o there C8 refl k
    caused o there C10 k = refusal_by_family are_known checks s F marked h o there C10 refl k
    caused o there C11 k = refusal_by_family are_known checks s F marked h o there C11 refl k
