-- Each Sent is the mark of a Forward, which its client gave for a cause: the connection was chosen for the operation while it
-- was live, or the client was in an exchange there.
use Rattle.std.proofs.Common.{◌≡◌, ◌⊎◌, inl, inr, ℕ, Bool, true, false, ◌&&◌, ◌||◌, List, [], ◌∷◌, refl, ap, ◌∙◌, sym, subst}
use Rattle.std.specs.Prelude.{Option, Some, None}
use Rattle.std.specs.List.{list_any, list_all}
use Rattle.ldap_spec.specs.Kinds.{same_kind}
use Rattle.lload_names.specs.declared.names.Letter.{Letter}
use Rattle.lload_names.specs.declared.names.Letter.TheVariants.{Forward}
use Rattle.lload_names.specs.declared.names.OpKind.{OpKind}
use Rattle.lload_names.specs.declared.names.OpKind.TheVariants.{Bind, Search, Modify, Add, Delete, ModifyDn, Compare, Extended}
use Rattle.lload_names.specs.declared.names.OpName.{OpName}
use Rattle.lload_names.specs.declared.names.PartName.{PartName}
use Rattle.lload_names.specs.declared.names.PartName.TheVariants.{Client, Up as Connection}
use Rattle.lload_spec.specs.Answers.{sendings}
use Rattle.lload_spec.specs.Entries.{is_sent}
use Rattle.lload_spec.specs.Fifo.{has_choice, is_chosen_for, is_in_progress, is_pinned_to, is_sent_at}
use Rattle.lload_spec.specs.Journal.{Family, IsWhole, same_op, same_part}
use Rattle.lload_spec.specs.Lists.{passes, some_entry}
use Rattle.lload_spec.specs.Operations.{Operation, operation, operations, is_of, is_request_of, last_bind}
use Rattle.lload_spec.specs.Settings.{Settings}
use Rattle.lload_spec.proofs.Growth.{left, right, both}
use Rattle.lload_laws.proofs.ListLaws.{any-map, found_passes}
use Rattle.part_laws.proofs.ListLaws.{or_elim, or_left, or_right, same_op_eq}
use Rattle.part_spec.specs.ConnectionState.{empty_connection}
use Rattle.part_spec.specs.Fit.{empty_connection_ledger, is_forward_of}
use Rattle.part_spec.specs.Gives.{gives}
use Rattle.part_spec.specs.Marked.{Marked, Taken}
use Rattle.part_spec.specs.Share.{ClientShare, ConnectionShare}
use Rattle.joined_laws.specs.Joined.{Joined}
use Rattle.joined_laws.proofs.Taken.{is_mark_from, was_given}
use Rattle.joined_laws.proofs.Walks.{begun}
use Rattle.fifo_laws.proofs.Quiet.{is_reply_of, gives_quiet, quiet_to}
use Rattle.fifo_laws.proofs.SentOnce.{sent_taken}
use Rattle.forward_laws.specs.Laws.{FifoSentChosen}
use Rattle.forward_laws.proofs.Causes.{Cause, is_forward_as, is_live_choice, is_step_from}
use Rattle.forward_laws.proofs.Outs.{none_of}
use Rattle.forward_laws.proofs.Sendings.{all_sent, each_sending, given_to, sent_at}
use Rattle.forward_laws.proofs.Walk.{forward_cause}

pub kind_same : (kind : OpKind) → same_kind kind kind ≡ true
kind_same Bind = refl
kind_same Search = refl
kind_same Modify = refl
kind_same Add = refl
kind_same Delete = refl
kind_same ModifyDn = refl
kind_same Compare = refl
kind_same Extended = refl

-- the Forward that was taken is one of some kind
pub of_some_kind : (p : PartName) (op : OpName) (ms : List Marked) → list_any (λ m. is_mark_from p (is_forward_of op) m.mark) ms ≡ true → (kind : OpKind) × (list_any (λ m. is_mark_from p (is_forward_as op kind) m.mark) ms ≡ true)
of_some_kind p op [] h = absurd (let bad : false ≡ true = h in cc)
of_some_kind p op (m ∷ ms) h = or_elim (is_mark_from p (is_forward_of op) m.mark) (list_any (λ x. is_mark_from p (is_forward_of op) x.mark) ms) (here m.mark) (λ k. behind (of_some_kind p op ms k)) h
  where
    here : (mark : Option Taken) → is_mark_from p (is_forward_of op) mark ≡ true → (kind : OpKind) × ((is_mark_from p (is_forward_as op kind) mark || list_any (λ x. is_mark_from p (is_forward_as op kind) x.mark) ms) ≡ true)
    here None k = absurd (let bad : false ≡ true = k in cc)
    here (Some t) k = by t.letter k
      where
        by : (x : Letter) → (same_part p t.sender && is_forward_of op x) ≡ true → (kind : OpKind) × ((same_part p t.sender && is_forward_as op kind x || list_any (λ y. is_mark_from p (is_forward_as op kind) y.mark) ms) ≡ true)
        by (Forward o sort rest ask holder) j = (sort, or_left (same_part p t.sender && (same_op op o && same_kind sort sort)) _ (both (same_part p t.sender) _ (left (same_part p t.sender) _ j) (both (same_op op o) _ (right (same_part p t.sender) _ j) (kind_same sort))))
        by _ j = absurd (let bad : false ≡ true = right (same_part p t.sender) _ j in cc)

    behind : (kind : OpKind) × (list_any (λ x. is_mark_from p (is_forward_as op kind) x.mark) ms ≡ true) → (kind : OpKind) × ((is_mark_from p (is_forward_as op kind) m.mark || list_any (λ x. is_mark_from p (is_forward_as op kind) x.mark) ms) ≡ true)
    behind r = (r.0, or_right (is_mark_from p (is_forward_as op r.0) m.mark) _ r.1)

module _ (s : Settings) (F : Family) (marked : PartName → List Marked) (h : Joined s F marked) where
  client : (c : ℕ) → ClientShare s c (marked (Client c))
  client c = h.shared.shares (Client c)

  connection : (u : ℕ) → ConnectionShare s u (marked (Connection u))
  connection u = h.shared.shares (Connection u)

  -- the cause of a Forward that a connection took
  pub taken_cause : (op : OpName) (u : ℕ) (kind : OpKind) → list_any (λ m. is_mark_from (Client op.client) (is_forward_as op kind) m.mark) (marked (Connection u)) ≡ true → Cause op.client op u kind (F.client op.client) (marked (Client op.client))
  taken_cause op u kind k =
      subst (λ l. Cause op.client op u kind l (marked (Client op.client))) (h.shared.same_entries (Client op.client))
      (forward_cause s op.client op kind u (marked (Client op.client)) (begun s op.client (marked (Client op.client)) (client op.client)) (h.fit (Client op.client))
      (given_to (Connection u) (is_forward_as op kind) (gives s (Client op.client) (marked (Client op.client))) (was_given s F marked h.linked (Client op.client) (Connection u) (is_forward_as op kind) k)))

  -- the Forward of a Sent
  pub sent_forward : (op : OpName) (u : ℕ) → list_any (is_sent op) (F.connection u) ≡ true → list_any (λ m. is_mark_from (Client op.client) (is_forward_of op) m.mark) (marked (Connection u)) ≡ true
  sent_forward op u k = sent_taken op s (empty_connection_ledger s u) (marked (Connection u)) (connection u).marks (h.fit (Connection u)) (sym (any-map (is_sent op) (λ (m : Marked). m.entry) (marked (Connection u))) ∙ subst (λ l. list_any (is_sent op) l ≡ true) (sym (h.shared.same_entries (Connection u))) k)

  -- a connection that answers an operation was sent it
  pub answered_there : (op : OpName) (u c : ℕ) → list_any (λ m. is_mark_from (Connection u) (is_reply_of op) m.mark) (marked (Client c)) ≡ true → list_any (is_sent op) (F.connection u) ≡ true
  answered_there op u c k = subst (λ l. list_any (is_sent op) l ≡ true) (h.shared.same_entries (Connection u)) (any-map (is_sent op) (λ (m : Marked). m.entry) (marked (Connection u)) ∙ by (list_any (λ m. is_sent op m.entry) (marked (Connection u))) refl)
    where
      by : (d : Bool) → list_any (λ m. is_sent op m.entry) (marked (Connection u)) ≡ d → d ≡ true
      by true e = refl
      by false e = sym (quiet_to op (Client c) (gives s (Connection u) (marked (Connection u))) (gives_quiet op s (empty_connection s u) (marked (Connection u)) (none_of (λ m. is_sent op m.entry) (marked (Connection u)) e) (connection u).marks refl)) ∙ was_given s F marked h.linked (Connection u) (Client c) (is_reply_of op) k

  -- a Sent has its choice
  module _ (whole : IsWhole F) where
    pub chosen_so : (op : OpName) (u : ℕ) (kind : OpKind) → Cause op.client op u kind (F.client op.client) (marked (Client op.client)) → passes (λ o. is_chosen_for F o u || is_pinned_to F o u) (operation F op) ≡ true
    chosen_so op u kind x = ap (passes (λ o. is_chosen_for F o u || is_pinned_to F o u)) x.found ∙ by x.way
      where
        named : op ≡ x.operation.name
        named = same_op_eq op x.operation.name (found_passes (λ q. same_op op q.name) (operations op.client (F.client op.client)) x.operation x.found)

        step : (o : Option Operation) → passes (is_step_from u (marked (Client op.client))) o ≡ true → passes (λ b. is_in_progress b && is_sent_at F u b) o ≡ true
        step None k = k
        step (Some b) k = both (is_in_progress b) _ (left (is_in_progress b) _ k) (sent_at F u b whole (answered_there b.name u op.client (right (is_in_progress b) _ k)))

        by : (some_entry (is_live_choice op.client op u) (F.client op.client) ≡ true) ⊎ ((is_request_of Bind x.operation.request ≡ true) × (passes (is_step_from u (marked (Client op.client))) (last_bind op.client x.operation.before) ≡ true)) → (is_chosen_for F x.operation u || is_pinned_to F x.operation u) ≡ true
        by (inl k) = or_left (is_chosen_for F x.operation u) _ (subst (λ n. some_entry (is_live_choice n.client n u) (F.client n.client) ≡ true) named k)
        by (inr k) = or_right (is_chosen_for F x.operation u) _ (both (is_of Bind x.operation) _ k.0 (subst (λ n. passes (λ b. is_in_progress b && is_sent_at F u b) (last_bind n.client x.operation.before) ≡ true) named (step (last_bind op.client x.operation.before) k.1)))

    chosen_at : (u : ℕ) → list_all (has_choice F) (sendings u (F.connection u)) ≡ true
    chosen_at u = each_sending u (has_choice F) [] (F.connection u) (λ sent e k. subst (λ v. passes (λ o. is_chosen_for F o v || is_pinned_to F o v) (operation F sent.op) ≡ true) (sym e) (by sent.op (of_some_kind (Client sent.op.client) sent.op (marked (Connection u)) (sent_forward sent.op u k))))
      where
        by : (op : OpName) → (kind : OpKind) × (list_any (λ m. is_mark_from (Client op.client) (is_forward_as op kind) m.mark) (marked (Connection u)) ≡ true) → passes (λ o. is_chosen_for F o u || is_pinned_to F o u) (operation F op) ≡ true
        by op x = chosen_so op u x.0 (taken_cause op u x.0 x.1)

pub sent_chosen : FifoSentChosen
sent_chosen s F marked whole h = all_sent F (has_choice F) F.connections (chosen_at s F marked h whole)
