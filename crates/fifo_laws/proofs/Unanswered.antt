-- Where an operation was sent to no upstream, its client took no answer of one: each answer that it took is fit, so that a
-- connection sent it, and this one gave it, which answers only what was sent to it.
use Rattle.std.proofs.Common.{◌≡◌, ℕ, Bool, true, false, ◌==◌, ◌&&◌, ◌||◌, not, if◌then◌else◌, List, [], ◌∷◌, ◌++◌, length, refl, ap, ◌∙◌, sym, subst}
use Rattle.std.specs.Prelude.{Option, Some, None, find}
use Rattle.std.specs.List.{list_any, list_all}
use Rattle.std.proofs.lemmas.List.Folds.{list_all-append, list_all-map}
use Rattle.lload_names.specs.declared.names.Entry.{Entry}
use Rattle.lload_names.specs.declared.names.Letter.{Letter}
use Rattle.lload_names.specs.declared.names.Letter.TheVariants.{Reply}
use Rattle.lload_names.specs.declared.names.OpName.{OpName}
use Rattle.lload_names.specs.declared.names.PartName.{PartName}
use Rattle.lload_names.specs.declared.names.PartName.TheVariants.{Desk, Client, Up as Connection}
use Rattle.lload_spec.specs.Answers.{sendings_of}
use Rattle.lload_spec.specs.Entries.{is_sent}
use Rattle.lload_spec.specs.Fifo.{allowed, is_unanswered}
use Rattle.lload_spec.specs.Journal.{Family, IsWhole, same_op, same_part}
use Rattle.lload_spec.specs.Lists.{passes}
use Rattle.lload_spec.specs.Operations.{operations, operations_of, outs}
use Rattle.lload_spec.specs.Settings.{Settings}
use Rattle.lload_spec.proofs.Growth.{left, right, both}
use Rattle.lload_laws.proofs.ListLaws.{all_always, all_imply, implies_by, none_found}
use Rattle.part_laws.proofs.ListLaws.{eqb_same, false_by}
use Rattle.part_spec.specs.ConnectionState.{empty_connection}
use Rattle.part_spec.specs.Fit.{ClientLedger, Expected, empty_client_ledger, step_client_ledger, fits_client, are_fit_from, is_unfit, answers, is_known}
use Rattle.part_spec.specs.Gives.{gives}
use Rattle.part_spec.specs.Marked.{Marked, Taken, entries}
use Rattle.part_spec.specs.Share.{ClientShare, ConnectionShare, answer_told, reply_rest, replies, is_answered_by}
use Rattle.joined_laws.specs.Joined.{Joined}
use Rattle.joined_laws.proofs.Taken.{is_mark_from, was_given, is_fit_there}
use Rattle.fifo_laws.specs.Laws.{FifoUnanswered}
use Rattle.fifo_laws.proofs.Quiet.{is_reply_of, gives_quiet, quiet_to}
use Rattle.fifo_laws.proofs.Sents.{none_sent}

none_all : {A : Type 0} (t : A → Bool) (xs : List A) → list_any t xs ≡ false → list_all (λ x. not (t x)) xs ≡ true
none_all t [] h = refl
none_all t (x ∷ xs) h = by (t x) refl h (none_all t xs)
  where
    by : (b : Bool) → t x ≡ b → (b || list_any t xs) ≡ false → (list_any t xs ≡ false → list_all (λ y. not (t y)) xs ≡ true) → (not (t x) && list_all (λ y. not (t y)) xs) ≡ true
    by true e k ih = absurd (let bad : true ≡ false = k in cc)
    by false e k ih = both (not (t x)) _ (ap not e) (ih k)

-- whether the letter of a mark is an answer to this operation
abbrev pub is_reply_mark : OpName → Option Taken → Bool
is_reply_mark op mark = passes (λ t. is_reply_of op t.letter) mark

module _ (op : OpName) where
  pub none_told : (mark : Option Taken) → not (is_reply_mark op mark) ≡ true → reply_rest op mark ≡ []
  none_told None h = refl
  none_told (Some t) h = by t.letter h
    where
      one : (b : Bool) (rest : List ℕ) → not b ≡ true → (if b then rest ∷ [] else []) ≡ []
      one true rest k = absurd (let bad : false ≡ true = k in cc)
      one false rest k = refl

      by : (x : Letter) → not (is_reply_of op x) ≡ true → answer_told op x ≡ []
      by (Reply o rest is_last who) k = one (same_op op o) rest k
      by _ k = refl

  no_replies : (ms : List Marked) → list_all (λ m. not (is_reply_mark op m.mark)) ms ≡ true → replies ms op ≡ []
  no_replies [] h = refl
  no_replies (m ∷ ms) h = ap (λ l. l ++ replies ms op) (none_told m.mark (left (not (is_reply_mark op m.mark)) _ h)) ∙ no_replies ms (right (not (is_reply_mark op m.mark)) _ h)

  -- an answer that is fit comes from a connection
  module _ (s : Settings) where
    never : (b : Bool) → (b && false) ≡ false
    never true = refl
    never false = refl

    nowhere : (o : OpName) (xs : List Expected) → find (λ x. same_op o x.op && false) xs ≡ None
    nowhere o xs = none_found (λ _. true) (λ x. same_op o x.op && false) xs (λ x k. never (same_op o x.op)) (all_always (λ _. true) xs (λ x. refl))

    pub from_none : (l : ClientLedger) (o : OpName) (rest : List ℕ) (is_last : Bool) (who : Option (List ℕ)) → passes (λ x. answers x.request rest is_last && is_known s x.request rest who) (find (λ x. same_op o x.op && false) l.expected) ≡ true → false ≡ true
    from_none l o rest is_last who j = sym (ap (passes (λ x. answers x.request rest is_last && is_known s x.request rest who)) (nowhere o l.expected)) ∙ j

    one_unmarked : (l : ClientLedger) (mark : Option Taken) (rest : Bool) → ((u : ℕ) → not (is_mark_from (Connection u) (is_reply_of op) mark) ≡ true) → (not (is_unfit (fits_client s) l mark) && rest) ≡ true → not (is_reply_mark op mark) ≡ true
    one_unmarked l None rest n f = refl
    one_unmarked l (Some t) rest n f = by t.sender t.letter n (is_fit_there (fits_client s) l t rest f)
      where
        by : (sender : PartName) (x : Letter) → ((u : ℕ) → not (same_part (Connection u) sender && is_reply_of op x) ≡ true) → fits_client s l sender x ≡ true → not (is_reply_of op x) ≡ true
        by (Connection u) x k j = sym (ap (λ b. not (b && is_reply_of op x)) (eqb_same u)) ∙ k u
        by Desk (Reply o r is_last who) k j = absurd (let bad : false ≡ true = from_none l o r is_last who j in cc)
        by (Client c) (Reply o r is_last who) k j = absurd (let bad : false ≡ true = from_none l o r is_last who j in cc)
        by Desk _ k j = refl
        by (Client c) _ k j = refl

    unmarked : (l : ClientLedger) (ms : List Marked) → ((u : ℕ) → list_all (λ m. not (is_mark_from (Connection u) (is_reply_of op) m.mark)) ms ≡ true) → are_fit_from (fits_client s) (step_client_ledger s) l ms ≡ true → list_all (λ m. not (is_reply_mark op m.mark)) ms ≡ true
    unmarked l [] n f = refl
    unmarked l (m ∷ ms) n f =
        both (not (is_reply_mark op m.mark)) _ (one_unmarked l m.mark _ (λ u. left (not (is_mark_from (Connection u) (is_reply_of op) m.mark)) _ (n u)) f)
        (unmarked (step_client_ledger s l m) ms (λ u. right (not (is_mark_from (Connection u) (is_reply_of op) m.mark)) _ (n u)) (right (not (is_unfit (fits_client s) l m.mark)) _ f))

module _ (s : Settings) (F : Family) (marked : PartName → List Marked) (whole : IsWhole F) (h : Joined s F marked) where
  client : (c : ℕ) → ClientShare s c (marked (Client c))
  client c = h.shared.shares (Client c)

  connection : (u : ℕ) → ConnectionShare s u (marked (Connection u))
  connection u = h.shared.shares (Connection u)

  none_marked : (op : OpName) (c : ℕ) → (length (sendings_of F op) == 0) ≡ true → (u : ℕ) → list_all (λ m. not (is_mark_from (Connection u) (is_reply_of op) m.mark)) (marked (Client c)) ≡ true
  none_marked op c z u =
      let here : list_all (λ (e : Entry). not (is_sent op e)) (entries (marked (Connection u))) ≡ true = subst (λ l. list_all (λ (e : Entry). not (is_sent op e)) l ≡ true) (sym (h.shared.same_entries (Connection u))) (none_sent op F u whole z) in
      let none : list_all (λ (m : Marked). not (is_sent op m.entry)) (marked (Connection u)) ≡ true = sym (list_all-map (λ (e : Entry). not (is_sent op e)) (λ (m : Marked). m.entry) (marked (Connection u))) ∙ here in
      none_all (λ m. is_mark_from (Connection u) (is_reply_of op) m.mark) (marked (Client c))
      (false_by (list_any (λ m. is_mark_from (Connection u) (is_reply_of op) m.mark) (marked (Client c)))
      (λ k. sym (quiet_to op (Client c) (gives s (Connection u) (marked (Connection u))) (gives_quiet op s (empty_connection s u) (marked (Connection u)) none (connection u).marks refl))
      ∙ was_given s F marked h.linked (Connection u) (Client c) (is_reply_of op) k))

  none_taken : (op : OpName) (c : ℕ) → (length (sendings_of F op) == 0) ≡ true → replies (marked (Client c)) op ≡ []
  none_taken op c z = no_replies op (marked (Client c)) (unmarked op s (empty_client_ledger c) (marked (Client c)) (none_marked op c z) (h.fit (Client c)))

  of_client : (c : ℕ) → list_all (is_unanswered F) (operations c (F.client c)) ≡ true
  of_client c =
      all_imply (is_answered_by (marked (Client c))) (is_unanswered F) (operations c (F.client c))
      (λ o k. implies_by (length (sendings_of F o.name) == 0) (allowed o.request.rest [] (outs o)) (λ z. subst (λ rs. allowed o.request.rest rs (outs o) ≡ true) (none_taken o.name c z) k))
      (subst (λ l. list_all (is_answered_by (marked (Client c))) (operations c l) ≡ true) (h.shared.same_entries (Client c)) (client c).answered)

  of_clients : (cs : List ℕ) → list_all (is_unanswered F) (operations_of F cs) ≡ true
  of_clients [] = refl
  of_clients (c ∷ cs) = list_all-append (is_unanswered F) (operations c (F.client c)) (operations_of F cs) ∙ both (list_all (is_unanswered F) (operations c (F.client c))) _ (of_client c) (of_clients cs)

pub unanswered : FifoUnanswered
unanswered s F marked whole h = of_clients s F marked whole h F.clients
