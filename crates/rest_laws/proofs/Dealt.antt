-- Where nothing waits, each operation was sent, is answered by the proxy itself, or was ended by its client.
use Rattle.std.proofs.Common.{◌≡◌, ℕ, suc, arith, Bool, true, false, ◌==◌, ◌&&◌, ◌||◌, not, List, [], ◌∷◌, length, refl, ap, ◌∙◌, sym, subst}
use Rattle.std.specs.Prelude.{Option, Some, None, is_none, map}
use Rattle.std.specs.List.{list_any, list_all}
use Rattle.std.proofs.lemmas.Bool.Decides.{nat_tests}
use Rattle.std.proofs.lemmas.List.Folds.{list_all-append}
use Rattle.lload_names.specs.declared.names.OpName.{OpName}
use Rattle.lload_names.specs.declared.names.PartName.{PartName}
use Rattle.lload_names.specs.declared.names.PartName.TheVariants.{Client, Up as Connection}
use Rattle.lload_spec.specs.Answers.{Sending, sendings_of}
use Rattle.lload_spec.specs.Entries.{is_sent}
use Rattle.lload_spec.specs.Fifo.{allowed, is_told_own, is_unanswered}
use Rattle.lload_spec.specs.Journal.{Family, same_op}
use Rattle.lload_spec.specs.Lists.{passes}
use Rattle.lload_spec.specs.Operations.{Abandoned, Answered, Cancelled, ClientGone, Ending, Manner, Operation, Rebound, ending, is_by_client, is_live, live_operations, operations, operations_of, outs}
use Rattle.lload_spec.specs.Settings.{Settings}
use Rattle.lload_spec.specs.Settled.{is_dealt_with}
use Rattle.lload_spec.proofs.Growth.{both, left, right}
use Rattle.lload_laws.specs.ClientGrowth.{is_named_within}
use Rattle.lload_laws.proofs.ListLaws.{implied}
use Rattle.part_laws.proofs.ListLaws.{or_left, or_right}
use Rattle.part_spec.specs.ClientState.{ClientRow, client_of}
use Rattle.part_spec.specs.Fit.{connection_ledger, empty_connection_ledger}
use Rattle.part_spec.specs.Linked.{list_of}
use Rattle.part_spec.specs.Marked.{entries}
use Rattle.part_spec.specs.Merge.{PartMove, world_of}
use Rattle.part_spec.specs.Share.{ConnectionShare}
use Rattle.part_spec.specs.World.{World, list_in}
use Rattle.client_laws.proofs.ClientTurns.{client_rows}
use Rattle.client_answer_laws.proofs.Each.{Each, each_both, each_imply, each_unfilter}
use Rattle.client_answer_laws.proofs.Waits.{named_each}
use Rattle.joined_laws.proofs.Begun.{own_client}
use Rattle.forward_laws.proofs.Sendings.{sent_at}
use Rattle.carried_laws.specs.Laws.{Played}
use Rattle.move_laws.specs.World as machine
use Rattle.stands_laws.specs.Books.{Book, name}
use Rattle.stands_laws.specs.Lists as stands
use Rattle.stands_laws.specs.WorldStands.{client_ledger_in}
use Rattle.client_moves_laws.proofs.ClientRows.{IsRow, each_row}
use Rattle.fitness_laws.proofs.Ledgers.{client_here}
use Rattle.fitness_laws.proofs.WorldTurns.{Standing}
use Rattle.run_laws.specs.Runs.{family_of_run}
use Rattle.rest_laws.proofs.Got.{answered_got, own_alone}
use Rattle.rest_laws.proofs.Machine.{row_there}
use Rattle.rest_laws.proofs.Rows.{row_was_sent, rows_sent_there}
use Rattle.rest_laws.proofs.Standing.{book, stood}

-- the numbers of rows and of operations
numbers_live : (b : Book) (c : ℕ) (x : machine.Client) (rows : List ClientRow) (os : List Operation) → stands.Each (IsRow b c x) rows → map (λ r. r.k) rows ≡ map (λ o. o.name.k) os → Each (λ o. x.live o.name.k ≡ true) os
numbers_live b c x rows [] h e = tt
numbers_live b c x [] (o ∷ os) h e = absurd (let bad : [] ≡ o.name.k ∷ map (λ (q : Operation). q.name.k) os = e in cc)
numbers_live b c x (r ∷ rows) (o ∷ os) h e =
    let first : r.k ≡ o.name.k = cc in
    let others : map (λ (q : ClientRow). q.k) rows ≡ map (λ (q : Operation). q.name.k) os = cc in
    (subst (λ n. x.live n ≡ true) (sym (ap (λ (q : ClientRow). q.k) h.0.is) ∙ first) h.0.live, numbers_live b c x rows os h.1 others)

not_none : (n : ℕ) → (suc n == 0) ≡ false
not_none n = grind (arith, nat_tests)

some_there : {A : Type 0} (t : A → Bool) (xs : List A) → list_any t xs ≡ true → not (length xs == 0) ≡ true
some_there t [] h = absurd (let bad : false ≡ true = h in cc)
some_there t (x ∷ xs) h = ap not (not_none (length xs))

none_there : {A : Type 0} (xs : List A) → (length xs == 0) ≡ true → xs ≡ []
none_there [] h = refl
none_there (x ∷ xs) h = absurd (let bad : false ≡ true = sym (not_none (length xs)) ∙ h in cc)

-- one operation, which was sent where it is live
dealt_one : (F : Family) (o : Operation) → (is_live o ≡ true → not (length (sendings_of F o.name) == 0) ≡ true) → is_unanswered F o ≡ true → is_dealt_with F o ≡ true
dealt_one F o sent may = by (ending o) refl
  where
    by_answer : (b : Bool) → (length (sendings_of F o.name) == 0) ≡ b → (x : Ending) → ending o ≡ Some x → x.manner ≡ Answered → is_dealt_with F o ≡ true
    by_answer false e x f a = or_left (not (length (sendings_of F o.name) == 0) || is_told_own F o) _ (or_left (not (length (sendings_of F o.name) == 0)) _ (ap not e))
    by_answer true e x f a =
        or_left (not (length (sendings_of F o.name) == 0) || is_told_own F o) _
        (or_right (not (length (sendings_of F o.name) == 0)) _
        (own_alone F o (none_there (sendings_of F o.name) e) (answered_got o x f a) (implied (length (sendings_of F o.name) == 0) (allowed o.request.rest [] (outs o)) may e)))

    by_client : (x : Ending) → ending o ≡ Some x → is_by_client x ≡ true → is_dealt_with F o ≡ true
    by_client x e k = or_right (not (length (sendings_of F o.name) == 0) || is_told_own F o) _ (ap (passes is_by_client) e ∙ k)

    ended : (x : Ending) → ending o ≡ Some x → (n : Manner) → x.manner ≡ n → is_dealt_with F o ≡ true
    ended x e Answered a = by_answer (length (sendings_of F o.name) == 0) refl x e a
    ended x e Cancelled a = by_client x e (ap (λ n. elim n [ Answered ↦ false | Cancelled ↦ true | Abandoned ↦ true | Rebound ↦ true | ClientGone ↦ true ]) a)
    ended x e Abandoned a = by_client x e (ap (λ n. elim n [ Answered ↦ false | Cancelled ↦ true | Abandoned ↦ true | Rebound ↦ true | ClientGone ↦ true ]) a)
    ended x e Rebound a = by_client x e (ap (λ n. elim n [ Answered ↦ false | Cancelled ↦ true | Abandoned ↦ true | Rebound ↦ true | ClientGone ↦ true ]) a)
    ended x e ClientGone a = by_client x e (ap (λ n. elim n [ Answered ↦ false | Cancelled ↦ true | Abandoned ↦ true | Rebound ↦ true | ClientGone ↦ true ]) a)

    by : (x : Option Ending) → ending o ≡ x → is_dealt_with F o ≡ true
    by None e = or_left (not (length (sendings_of F o.name) == 0) || is_told_own F o) _ (or_left (not (length (sendings_of F o.name) == 0)) _ (sent (ap is_none e)))
    by (Some x) e = ended x e x.manner refl

module _ (s : Settings) (ms : List PartMove) (played : Played s (family_of_run s ms) (list_in (world_of s ms))) (rest : (world_of s ms).letters ≡ []) where
  abbrev F : Family
  F = family_of_run s ms

  abbrev w : World
  w = world_of s ms

  pub standing : Standing s (book s ms) (world_of s ms)
  standing = (stood s ms).standing

  list_is : (p : PartName) → entries (list_in (world_of s ms) p) ≡ list_of (family_of_run s ms) p
  list_is p = played.joined.shared.same_entries p

  -- an operation that has a row at a connection was sent there
  pub sent_there : (op : OpName) (u : ℕ) → list_any (λ r. same_op op r.op) (connection_ledger s u (list_in (world_of s ms) (Connection u))).state.rows ≡ true → list_any (is_sent op) ((family_of_run s ms).connection u) ≡ true
  sent_there op u k = subst (λ es. list_any (is_sent op) es ≡ true) (list_is (Connection u)) (row_was_sent op (entries (list_in w (Connection u))) (connection_ledger s u (list_in w (Connection u))).state.rows (rows_sent_there s [] (empty_connection_ledger s u) (list_in w (Connection u)) tt share.marks) k)
    where
      share : ConnectionShare s u (list_in (world_of s ms) (Connection u))
      share = played.joined.shared.shares (Connection u)

  module _ (c : ℕ) where
    abbrev x : machine.Client
    x = standing.model.clients c

    -- the rows of its state are those of the live operations
    pub numbers_are : map (λ r. r.k) (client_ledger_in s (world_of s ms) c).state.rows ≡ map (λ o. o.name.k) (live_operations c (entries (list_in (world_of s ms) (Client c))))
    numbers_are = ap (λ p. map (λ r. r.k) p.rows) (sym (client_here s w c (stood s ms).states) ∙ (stood s ms).states.clients c) ∙ subst (λ l. map (λ r. r.k) (client_of s c l).rows ≡ map (λ o. o.name.k) (live_operations c (entries l))) (played.clients c).same (client_rows s c (played.clients c).events)

    -- the live operations are those that are live in the machine
    pub lives : Each (λ o. (standing.model.clients c).live o.name.k ≡ true) (live_operations c ((family_of_run s ms).client c))
    lives = subst (λ es. Each (λ o. x.live o.name.k ≡ true) (live_operations c es)) (list_is (Client c)) (numbers_live (book s ms) c x (client_ledger_in s w c).state.rows (live_operations c (entries (list_in w (Client c)))) (each_row s (book s ms) c (client_ledger_in s w c) x (standing.stands.clients c).stands) numbers_are)

    -- so each was sent
    live_sent : (o : Operation) → o.name.client ≡ c → (standing.model.clients c).live o.name.k ≡ true → not (length (sendings_of (family_of_run s ms) o.name) == 0) ≡ true
    live_sent o own live =
        let one = row_there s (book s ms) w standing rest c o.name.k live in
        let named : name c o.name.k ≡ o.name = (λ i. name (sym own i) o.name.k) in
        some_there (λ (q : Sending). q.connection == one.0) (sendings_of F o.name)
        (sent_at F one.0 o played.whole (subst (λ op. list_any (is_sent op) (F.connection one.0) ≡ true) named (sent_there (name c o.name.k) one.0 one.1)))

    each_sent : Each (λ o. is_live o ≡ true → not (length (sendings_of (family_of_run s ms) o.name) == 0) ≡ true) (operations c ((family_of_run s ms).client c))
    each_sent =
        each_imply (λ o. (is_live o ≡ true → x.live o.name.k ≡ true) × (is_named_within c (length (operations c (F.client c))) o ≡ true)) (λ o. is_live o ≡ true → not (length (sendings_of F o.name) == 0) ≡ true) (operations c (F.client c))
        (λ o k live. live_sent o (own_client c (length (operations c (F.client c))) o k.1) (k.0 live))
        (each_both (λ o. is_live o ≡ true → x.live o.name.k ≡ true) (λ o. is_named_within c (length (operations c (F.client c))) o ≡ true) (operations c (F.client c)) (each_unfilter (λ o. x.live o.name.k ≡ true) is_live (operations c (F.client c)) lives) (named_each c (F.client c)))

  dealt_each : (os : List Operation) → Each (λ o. is_live o ≡ true → not (length (sendings_of (family_of_run s ms) o.name) == 0) ≡ true) os → list_all (is_unanswered (family_of_run s ms)) os ≡ true → list_all (is_dealt_with (family_of_run s ms)) os ≡ true
  dealt_each [] h k = refl
  dealt_each (o ∷ os) h k = both (is_dealt_with F o) _ (dealt_one F o h.0 (left (is_unanswered F o) _ k)) (dealt_each os h.1 (right (is_unanswered F o) _ k))

  pub dealt_all : (cs : List ℕ) → list_all (is_unanswered (family_of_run s ms)) (operations_of (family_of_run s ms) cs) ≡ true → list_all (is_dealt_with (family_of_run s ms)) (operations_of (family_of_run s ms) cs) ≡ true
  dealt_all [] k = refl
  dealt_all (c ∷ cs) k =
      let parts : (list_all (is_unanswered F) (operations c (F.client c)) && list_all (is_unanswered F) (operations_of F cs)) ≡ true = sym (list_all-append (is_unanswered F) (operations c (F.client c)) (operations_of F cs)) ∙ k in
      list_all-append (is_dealt_with F) (operations c (F.client c)) (operations_of F cs)
      ∙ both (list_all (is_dealt_with F) (operations c (F.client c))) _ (dealt_each (operations c (F.client c)) (each_sent c) (left (list_all (is_unanswered F) (operations c (F.client c))) _ parts)) (dealt_all cs (right (list_all (is_unanswered F) (operations c (F.client c))) _ parts))
