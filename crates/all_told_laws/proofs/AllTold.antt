-- Where nothing waits, each client was told all of what it didn't end.
use Rattle.std.proofs.Common.{◌≡◌, inl, inr, ℕ, arith, Bool, true, false, ◌&&◌, ◌||◌, not, if◌then◌else◌, List, [], ◌∷◌, ◌++◌, length, refl, ap, ◌∙◌, sym, subst}
use Rattle.std.specs.Prelude.{Option, Some, None, cond, filter, is_none, is_some, nat_le}
use Rattle.std.specs.List.{list_all, list_any}
use Rattle.std.proofs.lemmas.Bool.Decides.{nat_tests}
use Rattle.std.proofs.lemmas.List.Folds.{list_all-append}
use Rattle.ldap_spec.specs.Kinds.{kind_of}
use Rattle.lload_names.specs.declared.names.ConnKind.TheVariants.{Bind as BindKind, Regular}
use Rattle.lload_names.specs.declared.names.OpKind.TheVariants.{Bind}
use Rattle.lload_names.specs.declared.names.OpName.{OpName}
use Rattle.lload_names.specs.declared.names.PartName.{PartName}
use Rattle.lload_names.specs.declared.names.PartName.TheVariants.{Client, Up as Connection}
use Rattle.lload_spec.specs.Answers.{Sending, all_sendings, answers, answers_to, final_answer, is_open, of_operation, sendings, sendings_at, sendings_of}
use Rattle.lload_spec.specs.Entries.{is_sent}
use Rattle.lload_spec.specs.Fifo.{allowed, is_answered_by, is_sent_once}
use Rattle.lload_spec.specs.Journal.{Family, same_op}
use Rattle.lload_spec.specs.Lists.{first, is_prefix, passes}
use Rattle.lload_spec.specs.Operations.{Abandoned, Answered, Cancelled, ClientGone, Ending, Manner, Operation, Rebound, ending, is_by_client, is_ended_by_client, is_final_for, is_live, is_of, operation, operations, outs}
use Rattle.lload_spec.specs.Settings.{Settings, is_kind, is_of_kind, place_at}
use Rattle.lload_spec.specs.Settled.{is_kept_back, is_told_all, is_told_answers}
use Rattle.lload_spec.specs.Strict.{is_sent_rightly}
use Rattle.lload_spec.proofs.Growth.{both, left, right}
use Rattle.lload_laws.proofs.ListLaws.{found_passes, prefix_same}
use Rattle.part_laws.proofs.ListLaws.{any_behind, not_both, or_left, or_right, same_op_eq, same_op_refl}
use Rattle.part_spec.specs.ConnectionState.{ConnectionState, empty_connection, kind_at}
use Rattle.part_spec.specs.Laws.{FitIsWhole}
use Rattle.part_spec.specs.Marked.{Marked, entries}
use Rattle.part_spec.specs.Share.{replies}
use Rattle.client_answer_laws.proofs.Each.{Each}
use Rattle.client_answer_laws.proofs.Told.{Going}
use Rattle.forward_laws.proofs.Causes.{Cause}
use Rattle.forward_laws.proofs.Chosen.{taken_cause}
use Rattle.forward_laws.proofs.Outs.{each_of}
use Rattle.answer_laws.proofs.Places.{nothing_at, rights_of}
use Rattle.answer_laws.proofs.Told.{gave}
use Rattle.joined_laws.specs.Joined.{JoinedLaw}
use Rattle.carried_laws.specs.Laws.{Played}
use Rattle.caused_laws.specs.Laws.{BindConnectionsSay}
use Rattle.identity_laws.specs.Laws.{ChecksAreKnown, ClientsAreKnown}
use Rattle.rows_laws.specs.Laws.{RegularRowsAreOpen}
use Rattle.rows_laws.proofs.Somewhere.{one_before, one_behind}
use Rattle.settled_laws.specs.Laws.{Rested}
use Rattle.window_laws.specs.Laws.{AsksRightly}
use Rattle.sent_laws.specs.Laws.{GoesRightly}
use Rattle.fifo_laws.specs.Laws.{FifoSentOnce}
use Rattle.answer_laws.specs.Laws.{FifoAnswered}
use Rattle.upstream_laws.proofs.Places.{by_kind, placeless}
use Rattle.open_laws.proofs.Alone.{one_of, own_stands}
use Rattle.open_laws.proofs.Among.{Among, Such, all_among, among_passing, of_each}
use Rattle.ended_laws.proofs.Latencies.{once, share}
use Rattle.connection_laws.proofs.Through.{steps_are}
use Rattle.told_laws.proofs.Came.{named_so}
use Rattle.all_told_laws.specs.Laws.{ClientsAreToldAll}
use Rattle.all_told_laws.proofs.Answered.{told_so}
use Rattle.all_told_laws.proofs.Lasts.{but_last, final_there}
use Rattle.all_told_laws.proofs.Lives.{live_going, replies_told}
use Rattle.all_told_laws.proofs.Opens.{bind_kind, bind_open, is_bind_of, is_open_of, regular_open}
use Rattle.all_told_laws.proofs.Stays.{KeptBack, Whole, stands}
use Rattle.all_told_laws.proofs.Wholes.{SentWhole, SentsWhole, walk_whole}

-- Of Sents that pass, where one at most does, each is the first.
first_alone : (t : Sending → Bool) (xs : List Sending) → nat_le (length (filter t xs)) 1 ≡ true → Each (λ y. t y ≡ true → first (filter t xs) ≡ Some y) xs
first_alone t [] h = tt
first_alone t (x ∷ xs) h = by (t x) refl h (first_alone t xs)
  where
    none : (ys : List Sending) → nat_le (length (x ∷ filter t ys)) 1 ≡ true → Each (λ y. t y ≡ true → Some x ≡ Some y) ys
    none [] k = tt
    none (y ∷ ys) k = one (t y) refl k (none ys)
      where
        one : (b : Bool) → t y ≡ b → nat_le (length (x ∷ cond b (y ∷ filter t ys) (filter t ys))) 1 ≡ true → (nat_le (length (x ∷ filter t ys)) 1 ≡ true → Each (λ z. t z ≡ true → Some x ≡ Some z) ys) → (t y ≡ true → Some x ≡ Some y) × Each (λ z. t z ≡ true → Some x ≡ Some z) ys
        one true e m ih = absurd (grind (arith, nat_tests, m))
        one false e m ih = (λ j. not_both (t y) j e, ih m)

    by : (b : Bool) → t x ≡ b → nat_le (length (cond b (x ∷ filter t xs) (filter t xs))) 1 ≡ true → (nat_le (length (filter t xs)) 1 ≡ true → Each (λ y. t y ≡ true → first (filter t xs) ≡ Some y) xs) → (t x ≡ true → first (cond b (x ∷ filter t xs) (filter t xs)) ≡ Some x) × Each (λ y. t y ≡ true → first (cond b (x ∷ filter t xs) (filter t xs)) ≡ Some y) xs
    by true e k ih = (λ j. refl, none xs k)
    by false e k ih = (λ j. not_both (t x) j e, ih k)

-- a connection's kind by the plan
kind_bind : (b : Bool) → is_kind BindKind (if b then BindKind else Regular) ≡ true → b ≡ true
kind_bind true h = refl
kind_bind false h = h

-- what other laws give
pub record Laws : Type 0 where
  pub fit_whole : FitIsWhole
  pub rows_open : RegularRowsAreOpen
  pub says : BindConnectionsSay
  pub are_known : ClientsAreKnown
  pub checks : ChecksAreKnown
  pub several : JoinedLaw
  pub asks : AsksRightly
  pub goes : GoesRightly
  pub once : FifoSentOnce
  pub answered : FifoAnswered

module _ (laws : Laws) (s : Settings) (F : Family) (marked : PartName → List Marked) (h : Played s F marked) where
  wholes : (u : ℕ) (op : OpName) → SentsWhole s u op (sendings u (F.connection u)) (empty_connection s u) (marked (Connection u))
  wholes u op = subst (λ l. SentsWhole s u op (sendings u l) (empty_connection s u) (marked (Connection u))) (h.joined.shared.same_entries (Connection u)) (walk_whole s u op [] (empty_connection s u) (marked (Connection u)) (nothing_at s u) (rights_of s u (marked (Connection u)) (share s F marked h u) (h.joined.fit (Connection u))) refl)

  -- The Sent of an operation whose row stands still.
  module _ (u : ℕ) (z : Sending) (among : Among z (sendings u (F.connection u))) (still : stands s u z.op (empty_connection s u) (marked (Connection u)) ≡ true) where
    only : (t : Sending → Bool) → ((x : Sending) → t x ≡ true → same_op z.op x.op ≡ true) → list_any t (sendings u (F.connection u)) ≡ true → t z ≡ true
    only t f k =
        let one : Such (λ x. t x ≡ true) (sendings u (F.connection u)) = among_passing t (sendings u (F.connection u)) k in
        let same : one.it ≡ z = of_each (λ x. same_op z.op x.op ≡ true → x ≡ z) (sendings u (F.connection u)) one.it (one_of u (F.connection u) z.op z (once s F marked h u) among (same_op_refl z.op)) one.among (f one.it one.so) in
        subst (λ x. t x ≡ true) same one.so

    in_family : (t : Sending → Bool) → list_any t (sendings u (entries (marked (Connection u)))) ≡ true → list_any t (sendings u (F.connection u)) ≡ true
    in_family t k = subst (λ es. list_any t (sendings u es) ≡ true) (h.joined.shared.same_entries (Connection u)) k

    nowhere : place_at s u ≡ None → list_any (λ r. same_op z.op r.op) (empty_connection s u).rows ≡ true
    nowhere e = subst (λ l. stands s u z.op (empty_connection s u) l ≡ true) (sym (h.connections u).same ∙ placeless s u e (h.connections u).events) still

    -- it is open there
    opened : of_operation F (is_open s) z ≡ true
    opened =
        right (same_op z.op z.op) _
        (only (is_open_of s F z.op) (λ x k. left (same_op z.op x.op) _ k)
        (in_family (is_open_of s F z.op)
        (by_kind s u (λ kind. regular_open s F z.op u (marked (Connection u)) (laws.rows_open s F marked h u kind) still) (λ kind. bind_open s F z.op laws.says marked h u kind still) (λ none. absurd (let bad : false ≡ true = nowhere none in cc)))))

    a_bind : is_kind BindKind (kind_at s u) ≡ true → of_operation F (λ o y. is_of Bind o) z ≡ true
    a_bind k = right (same_op z.op z.op) _ (only (is_bind_of F z.op) (λ x j. left (same_op z.op x.op) _ j) (in_family (is_bind_of F z.op) (bind_kind s F z.op laws.says marked h u (kind_bind (is_of_kind s BindKind u) k) still)))

    whole : SentWhole s u z.op z (empty_connection s u) (marked (Connection u))
    whole = of_each (λ x. same_op z.op x.op ≡ true → SentWhole s u z.op x (empty_connection s u) (marked (Connection u))) (sendings u (F.connection u)) z (wholes u z.op) among (same_op_refl z.op)

  sent_here : (u : ℕ) (z : Sending) → Among z (sendings u (F.connection u)) → list_any (is_sent z.op) (F.connection u) ≡ true
  sent_here u z a = of_each (λ x. same_op z.op x.op ≡ true → list_any (is_sent z.op) (F.connection u) ≡ true) (sendings u (F.connection u)) z (own_stands (λ y. same_op z.op y.op) u [] (F.connection u)) a (same_op_refl z.op)

  module _ (rested : Rested s F marked) (u : ℕ) (o : Operation) (there : operation F o.name ≡ Some o) (live : is_live o ≡ true) (z : Sending) (named : z.op ≡ o.name) (among : Among z (sendings u (F.connection u))) (still : stands s u z.op (empty_connection s u) (marked (Connection u)) ≡ true) where
    its : operation F z.op ≡ Some o
    its = ap (operation F) named ∙ there

    going : Going (replies (marked (Client o.name.client)) o.name) o
    going = live_going laws.fit_whole s F marked h o there live

    outs_gave : outs o ≡ gave s u z.op (empty_connection s u) (marked (Connection u))
    outs_gave = going.same ∙ ap (λ n. replies (marked (Client n.client)) n) (sym named) ∙ replies_told laws.fit_whole s F marked h rested z.op u (sent_here u z among)

    kind : kind_of o.request.rest ≡ Some (whole u z among still).kind
    kind =
        let w = whole u z among still in
        let cause : Cause z.op.client z.op u w.kind (F.client z.op.client) (marked (Client z.op.client)) = taken_cause s F marked h.joined z.op u w.kind w.forward in
        let same : cause.operation ≡ o = (let x : Some cause.operation ≡ Some o = sym cause.found ∙ its in cc) in
        ap (λ (q : Operation). kind_of q.request.rest) (sym same) ∙ cause.kind_is

    told : Whole s u o.request (answers o z) (gave s u z.op (empty_connection s u) (marked (Connection u)))
    told = (whole u z among still).whole still o.request kind

    is_opened : is_open s o z ≡ true
    is_opened = sym (ap (passes (λ q. is_open s q z)) its) ∙ opened u z among still

    all_answers : answers o z ≡ gave s u z.op (empty_connection s u) (marked (Connection u)) → is_told_answers s o z ≡ true
    all_answers e =
        let same : answers o z ≡ outs o = e ∙ sym outs_gave in
        both (is_prefix (outs o) (answers o z) && is_prefix (answers o z) (outs o)) _
        (both (is_prefix (outs o) (answers o z)) _ (ap (is_prefix (outs o)) same ∙ prefix_same (outs o)) (ap (λ l. is_prefix l (outs o)) same ∙ prefix_same (outs o)))
        (or_right (is_some (final_answer o z)) _ is_opened)

    but_final : KeptBack s u o.request (answers o z) (gave s u z.op (empty_connection s u) (marked (Connection u))) → is_kept_back s o z ≡ true
    but_final k =
        let all : answers o z ≡ outs o ++ k.rest ∷ [] = k.all ∙ ap (λ l. l ++ k.rest ∷ []) (sym outs_gave) in
        let kept : filter (λ r. not (is_final_for o.request r)) (answers o z) ≡ outs o = ap (filter (λ r. not (is_final_for o.request r))) all ∙ but_last o.request (outs o) k.rest (ap (list_all (λ r. not (is_final_for o.request r))) going.same ∙ going.none_final) k.final in
        let some : list_any (is_final_for o.request) (answers o z) ≡ true = ap (list_any (is_final_for o.request)) all ∙ any_behind (is_final_for o.request) (outs o) (k.rest ∷ []) (or_left (is_final_for o.request k.rest) false k.final) in
        let a_bind_op : is_of Bind o ≡ true = sym (ap (passes (is_of Bind)) its) ∙ a_bind u z among still k.bind in
        let same_outs : (is_prefix (outs o) (filter (λ r. not (is_final_for o.request r)) (answers o z)) && is_prefix (filter (λ r. not (is_final_for o.request r)) (answers o z)) (outs o)) ≡ true = both (is_prefix (outs o) (filter (λ r. not (is_final_for o.request r)) (answers o z))) _ (ap (is_prefix (outs o)) kept ∙ prefix_same (outs o)) (ap (λ l. is_prefix l (outs o)) kept ∙ prefix_same (outs o)) in
        both (is_of Bind o && is_open s o z && _) _ (both (is_of Bind o && is_open s o z) _ (both (is_of Bind o) _ a_bind_op is_opened) same_outs) (final_there o.request z.id z.behind some)

    pub live_told : is_told_all s F o z ≡ true
    live_told = by told
      where
        by : Whole s u o.request (answers o z) (gave s u z.op (empty_connection s u) (marked (Connection u))) → is_told_all s F o z ≡ true
        by (inl e) = or_left (is_ended_by_client o || is_told_answers s o z || _) _ (or_left (is_ended_by_client o || is_told_answers s o z) _ (or_right (is_ended_by_client o) _ (all_answers e)))
        by (inr k) = or_right (is_ended_by_client o || is_told_answers s o z || _) _ (but_final k)

  -- A Sent.
  record Facts (z : Sending) : Type 0 where
    rightly : of_operation F (is_sent_rightly s F) z ≡ true
    answered : is_answered_by F z ≡ true
    alone : (o : Operation) → operation F o.name ≡ Some o → z.op ≡ o.name → first (sendings_of F o.name) ≡ Some z

  module _ (rested : Rested s F marked) (rows : (o : Operation) → operation F o.name ≡ Some o → is_live o ≡ true → (u : ℕ) → list_any (is_sent o.name) (F.connection u) ≡ true → stands s u o.name (empty_connection s u) (marked (Connection u)) ≡ true) where
    told_of : (u : ℕ) (z : Sending) (o : Operation) → operation F z.op ≡ Some o → Among z (sendings u (F.connection u)) → Facts z → is_told_all s F o z ≡ true
    told_of u z o e a f = by (ending o) refl
      where
        named : z.op ≡ o.name
        named = same_op_eq z.op o.name (found_passes (λ q. same_op z.op q.name) (operations z.op.client (F.client z.op.client)) o e)

        there : operation F o.name ≡ Some o
        there = ap (operation F) (sym named) ∙ e

        rightly : is_sent_rightly s F o z ≡ true
        rightly = sym (ap (passes (λ q. is_sent_rightly s F q z)) e) ∙ f.rightly

        may : allowed o.request.rest (answers o z) (outs o) ≡ true
        may = sym (ap (passes (λ q. allowed q.request.rest (answers q z) (outs q))) e) ∙ f.answered

        same : answers_to F o ≡ answers o z
        same = ap (λ q. elim q [ None ↦ [] | Some y ↦ answers o y ]) (f.alone o there named)

        by_client : (x : Ending) → ending o ≡ Some x → is_by_client x ≡ true → is_told_all s F o z ≡ true
        by_client x k j = or_left (is_ended_by_client o || is_told_answers s o z || _) _ (or_left (is_ended_by_client o || is_told_answers s o z) _ (or_left (is_ended_by_client o) _ (ap (passes is_by_client) k ∙ j)))

        ended : (x : Ending) → ending o ≡ Some x → (n : Manner) → x.manner ≡ n → is_told_all s F o z ≡ true
        ended x k Answered m = told_so laws.are_known laws.checks s F marked h (laws.several s F marked h.joined) (laws.asks s F marked h) o there z rightly x k m same may
        ended x k Cancelled m = by_client x k (ap (λ n. elim n [ Answered ↦ false | Cancelled ↦ true | Abandoned ↦ true | Rebound ↦ true | ClientGone ↦ true ]) m)
        ended x k Abandoned m = by_client x k (ap (λ n. elim n [ Answered ↦ false | Cancelled ↦ true | Abandoned ↦ true | Rebound ↦ true | ClientGone ↦ true ]) m)
        ended x k Rebound m = by_client x k (ap (λ n. elim n [ Answered ↦ false | Cancelled ↦ true | Abandoned ↦ true | Rebound ↦ true | ClientGone ↦ true ]) m)
        ended x k ClientGone m = by_client x k (ap (λ n. elim n [ Answered ↦ false | Cancelled ↦ true | Abandoned ↦ true | Rebound ↦ true | ClientGone ↦ true ]) m)

        by : (x : Option Ending) → ending o ≡ x → is_told_all s F o z ≡ true
        by None k =
            let live : is_live o ≡ true = ap is_none k in
            live_told rested u o there live z named a (subst (λ n. stands s u n (empty_connection s u) (marked (Connection u)) ≡ true) (sym named) (rows o there live u (subst (λ n. list_any (is_sent n) (F.connection u) ≡ true) named (sent_here u z a))))
        by (Some x) k = ended x k x.manner refl

    told_one : (u : ℕ) (z : Sending) → Among z (sendings u (F.connection u)) → Facts z → of_operation F (is_told_all s F) z ≡ true
    told_one u z a f = by (operation F z.op) refl f.rightly
      where
        by : (q : Option Operation) → operation F z.op ≡ q → passes (λ o. is_sent_rightly s F o z) q ≡ true → passes (λ o. is_told_all s F o z) q ≡ true
        by None e k = absurd (let bad : false ≡ true = k in cc)
        by (Some o) e k = told_of u z o e a f

    told_at : (us : List ℕ) → ((z : Sending) → Among z (sendings_at F us) → Facts z) → list_all (of_operation F (is_told_all s F)) (sendings_at F us) ≡ true
    told_at [] f = refl
    told_at (u ∷ us) f =
        list_all-append (of_operation F (is_told_all s F)) (sendings u (F.connection u)) (sendings_at F us)
        ∙ both (list_all (of_operation F (is_told_all s F)) (sendings u (F.connection u))) _
        (all_among (of_operation F (is_told_all s F)) (sendings u (F.connection u)) (λ z a. told_one u z a (f z (one_before (λ x. x ≡ z) (sendings u (F.connection u)) (sendings_at F us) a))))
        (told_at us (λ z a. f z (one_behind (λ x. x ≡ z) (sendings u (F.connection u)) (sendings_at F us) a)))

    all_told_so : list_all (of_operation F (is_told_all s F)) (all_sendings F) ≡ true
    all_told_so =
        told_at F.connections
        (λ z a. record {
          rightly = of_each (λ x. of_operation F (is_sent_rightly s F) x ≡ true) (all_sendings F) z (each_of (of_operation F (is_sent_rightly s F)) (all_sendings F) (laws.goes s F marked h).sent) a;
          answered = of_each (λ x. is_answered_by F x ≡ true) (all_sendings F) z (each_of (is_answered_by F) (all_sendings F) (laws.answered s F marked h.joined)) a;
          alone = λ o there named. of_each (λ x. same_op o.name x.op ≡ true → first (sendings_of F o.name) ≡ Some x) (all_sendings F) z (first_alone (λ x. same_op o.name x.op) (all_sendings F) (named_so F h.whole (is_sent_once F) o.name o (laws.once s F marked h.whole h.joined) there)) a (ap (same_op o.name) named ∙ same_op_refl o.name);
        })

pub told_all : Laws → ClientsAreToldAll
told_all laws s F marked h rested rows = all_told_so laws s F marked h rested (λ o there live u k. ap (λ (p : ConnectionState). list_any (λ r. same_op o.name r.op) p.rows) (sym (steps_are s (empty_connection s u) (marked (Connection u)))) ∙ rows o there live u k)
