-- Each Sent carries its own client's identity: it is the mark of a Forward that its client gave.
use Rattle.std.proofs.Common.{◌≡◌, ℕ, Bool, true, false, ◌&&◌, ◌||◌, not, List, [], ◌∷◌, ◌++◌, refl, ap, ◌∙◌, sym, subst}
use Rattle.std.specs.Prelude.{Option, Some, None}
use Rattle.std.specs.List.{list_any, list_all}
use Rattle.std.specs.Str.{bytes_eq}
use Rattle.std.proofs.lemmas.List.Folds.{list_all-append}
use Rattle.std.proofs.lemmas.Slice.Eq.{bytes_eq-Decides}
use Rattle.ldap_spec.specs.Messages.{Message}
use Rattle.lload_names.specs.declared.names.Entry.{Entry}
use Rattle.lload_names.specs.declared.names.Letter.{Letter}
use Rattle.lload_names.specs.declared.names.Letter.TheVariants.{Forward}
use Rattle.lload_names.specs.declared.names.OpName.{OpName}
use Rattle.lload_names.specs.declared.names.PartName.{PartName}
use Rattle.lload_names.specs.declared.names.PartName.TheVariants.{Client, Up as Connection}
use Rattle.lload_names.specs.declared.names.Posted.{Posted}
use Rattle.lload_names.specs.declared.names.What.{What}
use Rattle.lload_names.specs.declared.names.What.TheVariants as what
use Rattle.lload_spec.specs.Answers.{sendings, sendings_at, sendings_from, sending_made}
use Rattle.lload_spec.specs.Entries.{Named, sent_message}
use Rattle.lload_spec.specs.Identity.{carried, carried_for, has_own_identity, identity}
use Rattle.lload_spec.specs.Journal.{Family, same_op, same_part}
use Rattle.lload_spec.specs.Lists.{passes, where_there}
use Rattle.lload_spec.specs.Operations.{Operation, operation, operation_in, operations}
use Rattle.lload_spec.specs.Settings.{Settings}
use Rattle.lload_spec.proofs.Growth.{left, right, both}
use Rattle.lload_laws.proofs.ListLaws.{found_passes}
use Rattle.part_laws.proofs.ListLaws.{eqb_sym, or_elim, same_op_eq}
use Rattle.part_spec.specs.ConnectionState.{is_bind, is_stopped, step_connection}
use Rattle.part_spec.specs.Fit.{ConnectionLedger, empty_connection_ledger, step_connection_ledger, fits_connection, are_fit_from, is_unfit, is_forward_of, is_of_its_kind, is_free_for, is_held_for}
use Rattle.part_spec.specs.Gives.{gives}
use Rattle.part_spec.specs.Marked.{Marked, Taken, letters_to}
use Rattle.part_spec.specs.Marks.{each_from, has_connection_mark, marks_connection, must_mark_connection}
use Rattle.part_spec.specs.Share.{ConnectionShare}
use Rattle.joined_laws.proofs.Choices.{all_in, all_entries}
use Rattle.joined_laws.proofs.Taken.{is_mark_from, was_given, is_fit_there}
use Rattle.carried_laws.specs.Laws.{Played}
use Rattle.identity_laws.specs.Laws.{ClientsAreKnown}
use Rattle.caused_laws.proofs.Carried.{is_carried_at, are_carried_at, gives_carried}

-- a Forward of this operation with this rest
abbrev is_forward_as : OpName → List ℕ → Letter → Bool
is_forward_as op body (Forward o _ rest ask_who holder) = same_op op o && bytes_eq body rest
is_forward_as op body _ = false

of_client : (sender : PartName) (n : ℕ) → same_part sender (Client n) ≡ true → same_part (Client n) sender ≡ true
of_client (Client m) n h = eqb_sym n m ∙ h
of_client _ n h = absurd (let bad : false ≡ true = h in cc)

first_of : (a b c d e f : Bool) → (a && b && c && d && e && f) ≡ true → a ≡ true
first_of a b c d e f h = left a b (left (a && b) c (left (a && b && c) d (left (a && b && c && d) e (left (a && b && c && d && e) f h))))

-- whether a Sent is the mark of its Forward, which its client sent
abbrev is_marked : Marked → Bool
is_marked m = where_there (λ n. is_mark_from (Client n.op.client) (is_forward_as n.op n.value.rest) m.mark) (sent_message m.entry.what)

module _ (s : Settings) where
  one_marked : (l : ConnectionLedger) (w : What) (mark : Option Taken) → (elim mark [ None ↦ not (must_mark_connection l.state w) | Some t ↦ marks_connection l.state w t.letter ]) ≡ true → ((t : Taken) → mark ≡ Some t → fits_connection s l t.sender t.letter ≡ true) → where_there (λ n. is_mark_from (Client n.op.client) (is_forward_as n.op n.value.rest) mark) (sent_message w) ≡ true
  one_marked l (what.Sent id op body) None k f = absurd (let bad : false ≡ true = k in cc)
  one_marked l (what.Sent id op body) (Some t) k f = by t.sender t.letter k (f t refl)
    where
      by : (sender : PartName) (x : Letter) → marks_connection l.state (what.Sent id op body) x ≡ true → fits_connection s l sender x ≡ true → (same_part (Client op.client) sender && is_forward_as op body x) ≡ true
      by sender (Forward q sort r ask holder) i j =
          let same : (same_op op q && bytes_eq body r) ≡ true = left (same_op op q && bytes_eq body r) (not (is_stopped l.state)) i in
          both (same_part (Client op.client) sender) _
          (of_client sender op.client (ap (λ z. same_part sender (Client z.client)) (same_op_eq op q (left (same_op op q) _ same))
          ∙ first_of (same_part sender (Client q.client)) (same_part sender (Client holder.client)) (not (list_any (λ t. is_forward_of q t.letter) l.taken)) l.state.up (is_of_its_kind s l.state sort r ask) (not (is_bind l.state) || is_free_for l.state holder && is_held_for l.state q holder) j)) same
      by sender _ i j = absurd (let bad : false ≡ true = i in cc)
  one_marked l _ mark k f = refl

  all_marked : (l : ConnectionLedger) (ms : List Marked) → each_from (step_connection s) has_connection_mark l.state ms ≡ true → are_fit_from (fits_connection s) (step_connection_ledger s) l ms ≡ true → list_all is_marked ms ≡ true
  all_marked l [] k f = refl
  all_marked l (m ∷ ms) k f =
      both (is_marked m) _ (one_marked l m.entry.what m.mark (left (has_connection_mark l.state m) _ k) (λ t e. is_fit_there (fits_connection s) l t (are_fit_from (fits_connection s) (step_connection_ledger s) (step_connection_ledger s l m) ms) (ap (λ q. not (is_unfit (fits_connection s) l q) && are_fit_from (fits_connection s) (step_connection_ledger s) (step_connection_ledger s l m) ms) (sym e) ∙ f)))
      (all_marked (step_connection_ledger s l m) ms (right (has_connection_mark l.state m) _ k) (right (not (is_unfit (fits_connection s) l m.mark)) _ f))

module _ (known : ClientsAreKnown) (s : Settings) (F : Family) (marked : PartName → List Marked) (h : Played s F marked) where
  connection : (u : ℕ) → ConnectionShare s u (marked (Connection u))
  connection u = h.joined.shared.shares (Connection u)

  given_carried : (c : ℕ) → are_carried_at s F c (F.client c) (gives s (Client c) (marked (Client c))) ≡ true
  given_carried c = subst (λ l. are_carried_at s F c l (gives s (Client c) (marked (Client c))) ≡ true) (h.joined.shared.same_entries (Client c)) (gives_carried s F c (marked (Client c)) (λ before m ms e k. ap (λ f. f.identity) (known s F marked h c before m ms e k)))

  -- an operation's request, with the identity of its client where it came
  abbrev carries : OpName → List ℕ → Bool
  carries op body = passes (λ o. bytes_eq body (carried s F o)) (operation F op)

  -- a Forward that was given
  one_given : (op : OpName) (body : List ℕ) (x : Letter) → is_forward_as op body x ≡ true → is_carried_at s F op.client (F.client op.client) x ≡ true → carries op body ≡ true
  one_given op body (Forward q sort rest ask holder) a b = by (operation F op) refl (subst (λ z. passes (λ o. bytes_eq rest (carried_for s o.request (identity s F op.client o.before))) (operation_in op.client (F.client op.client) z) ≡ true) (sym (same_op_eq op q (left (same_op op q) _ a))) b)
    where
      by : (o : Option Operation) → operation F op ≡ o → passes (λ z. bytes_eq rest (carried_for s z.request (identity s F op.client z.before))) o ≡ true → passes (λ z. bytes_eq body (carried s F z)) o ≡ true
      by None e k = absurd (let bad : false ≡ true = k in cc)
      by (Some o) e k =
          let name : op ≡ o.name = same_op_eq op o.name (found_passes (λ x. same_op op x.name) (operations op.client (F.client op.client)) o e) in
          ap (λ r. bytes_eq r (carried_for s o.request (identity s F o.name.client o.before))) ((bytes_eq-Decides body rest).0 (right (same_op op q) _ a)) ∙ ap (λ n. bytes_eq rest (carried_for s o.request (identity s F n.client o.before))) (sym name) ∙ k
  one_given op body _ a b = absurd (let bad : false ≡ true = a in cc)

  among_given : (op : OpName) (body : List ℕ) (q : PartName) (xs : List Posted) → list_any (is_forward_as op body) (letters_to q xs) ≡ true → are_carried_at s F op.client (F.client op.client) xs ≡ true → carries op body ≡ true
  among_given op body q [] a b = absurd (let bad : false ≡ true = a in cc)
  among_given op body q (x ∷ xs) a b = by (same_part q x.to) a (λ k. among_given op body q xs k (right (is_carried_at s F op.client (F.client op.client) x.letter) _ b))
    where
      by : (t : Bool) → list_any (is_forward_as op body) ((elim t [ true ↦ x.letter ∷ [] | false ↦ [] ]) ++ letters_to q xs) ≡ true → (list_any (is_forward_as op body) (letters_to q xs) ≡ true → carries op body ≡ true) → carries op body ≡ true
      by true k ih = or_elim (is_forward_as op body x.letter) (list_any (is_forward_as op body) (letters_to q xs)) (λ j. one_given op body x.letter j (left (is_carried_at s F op.client (F.client op.client) x.letter) _ b)) ih k
      by false k ih = ih k

  abbrev is_right : Entry → Bool
  is_right e = where_there (λ n. carries n.op n.value.rest) (sent_message e.what)

  entry_right : (u : ℕ) (m : Marked) → is_marked m ≡ true → ((t : Marked → Bool) → t m ≡ true → list_any t (marked (Connection u)) ≡ true) → is_right m.entry ≡ true
  entry_right u m k among = by (sent_message m.entry.what) k
    where
      by : (o : Option (Named Message)) → where_there (λ n. is_mark_from (Client n.op.client) (is_forward_as n.op n.value.rest) m.mark) o ≡ true → where_there (λ n. carries n.op n.value.rest) o ≡ true
      by None j = refl
      by (Some n) j = among_given n.op n.value.rest (Connection u) (gives s (Client n.op.client) (marked (Client n.op.client))) (was_given s F marked h.joined.linked (Client n.op.client) (Connection u) (is_forward_as n.op n.value.rest) (among (λ x. is_mark_from (Client n.op.client) (is_forward_as n.op n.value.rest) x.mark) j)) (given_carried n.op.client)

  entries_right : (u : ℕ) → list_all is_right (F.connection u) ≡ true
  entries_right u = subst (λ l. list_all is_right l ≡ true) (h.joined.shared.same_entries (Connection u)) (all_entries is_right (marked (Connection u)) (all_in is_marked (λ m. is_right m.entry) (marked (Connection u)) (entry_right u) (all_marked s (empty_connection_ledger s u) (marked (Connection u)) (connection u).marks (h.joined.fit (Connection u)))))

  sents_right : (u : ℕ) (before es : List Entry) → list_all is_right es ≡ true → list_all (has_own_identity s F) (sendings_from u before es) ≡ true
  sents_right u before [] k = refl
  sents_right u before (e ∷ es) k = by (sent_message e.what) (left (is_right e) _ k) (sents_right u (before ++ e ∷ []) es (right (is_right e) _ k))
    where
      by : (o : Option (Named Message)) → where_there (λ n. carries n.op n.value.rest) o ≡ true → list_all (has_own_identity s F) (sendings_from u (before ++ e ∷ []) es) ≡ true → list_all (has_own_identity s F) (sending_made u before e es o ++ sendings_from u (before ++ e ∷ []) es) ≡ true
      by None j ih = ih
      by (Some n) j ih = both (carries n.op n.value.rest) _ j ih

  pub identified : (us : List ℕ) → list_all (has_own_identity s F) (sendings_at F us) ≡ true
  identified [] = refl
  identified (u ∷ us) = list_all-append (has_own_identity s F) (sendings u (F.connection u)) (sendings_at F us) ∙ both (list_all (has_own_identity s F) (sendings u (F.connection u))) _ (sents_right u [] (F.connection u) (entries_right u)) (identified us)
