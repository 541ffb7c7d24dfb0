-- What a client took of answers is what the one connection gave that its operation was sent to: so what it got is allowed by
-- the answers there.
use Rattle.std.proofs.Common.{◌≡◌, ℕ, Bool, true, false, ◌==◌, ◌&&◌, not, List, [], ◌∷◌, ◌++◌, append_assoc, refl, ap, ◌∙◌, sym, subst}
use Rattle.std.specs.Prelude.{Option, Some, None, find}
use Rattle.std.specs.List.{list_any, list_all}
use Rattle.lload_names.specs.declared.names.Letter.{Letter}
use Rattle.lload_names.specs.declared.names.Letter.TheVariants.{Reply}
use Rattle.lload_names.specs.declared.names.OpName.{OpName}
use Rattle.lload_names.specs.declared.names.PartName.{PartName}
use Rattle.lload_names.specs.declared.names.PartName.TheVariants.{Desk, Client, Up as Connection}
use Rattle.lload_spec.specs.Answers.{Sending, answers, sendings}
use Rattle.lload_spec.specs.Entries.{is_sent}
use Rattle.lload_spec.specs.Fifo.{allowed, is_answered_by}
use Rattle.lload_spec.specs.Journal.{Family, same_op, same_part}
use Rattle.lload_spec.specs.Lists.{implies, passes}
use Rattle.lload_spec.specs.Operations.{Operation, operations, outs}
use Rattle.lload_spec.specs.Settings.{Settings}
use Rattle.lload_spec.proofs.Growth.{left, right, both, allowed_grows}
use Rattle.lload_laws.proofs.ListLaws.{found, found_passes, implied, implies_by}
use Rattle.part_laws.proofs.ListLaws.{eq_eqb, same_number, same_op_eq, same_op_refl}
use Rattle.part_spec.specs.ConnectionState.{empty_connection}
use Rattle.part_spec.specs.Fit.{ClientLedger, empty_client_ledger, step_client_ledger, fits_client, are_fit_from, is_unfit}
use Rattle.part_spec.specs.Gives.{gives}
use Rattle.part_spec.specs.Marked.{Marked, Taken, letter_from, taken_from}
use Rattle.part_spec.specs.Share.{ClientShare, ConnectionShare, answer_told, is_answered_by as is_told_by, replies, reply_rest}
use Rattle.joined_laws.specs.Joined.{Joined}
use Rattle.joined_laws.proofs.Choices.{all_in}
use Rattle.joined_laws.proofs.Taken.{is_mark_from, is_fit_there}
use Rattle.client_answer_laws.proofs.Each.{Each}
use Rattle.fifo_laws.proofs.Quiet.{is_reply_of}
use Rattle.fifo_laws.proofs.SentOnce.{sent_there, there}
use Rattle.fifo_laws.proofs.Unanswered.{from_none, is_reply_mark, none_told}
use Rattle.forward_laws.proofs.Causes.{Cause}
use Rattle.forward_laws.proofs.Chosen.{answered_there, taken_cause}
use Rattle.forward_laws.proofs.Outs.{each_of}
use Rattle.forward_laws.proofs.Sendings.{all_sent, each_sending}
use Rattle.answer_laws.specs.Laws.{FifoAnswered}
use Rattle.answer_laws.proofs.Places.{nothing_at, rights_of}
use Rattle.answer_laws.proofs.Rests.{rests, rests_both, told}
use Rattle.answer_laws.proofs.Sents.{SentTold, SentsTold, walk_sent}
use Rattle.answer_laws.proofs.Told.{Begins}

-- whether a part is a connection
abbrev is_connection : PartName → Bool
is_connection (Connection v) = true
is_connection _ = false

-- whether a mark, where it is an answer to the operation, is one of some connection, and of this one
abbrev is_sent_by_some : OpName → Option Taken → Bool
is_sent_by_some op mark = implies (is_reply_mark op mark) (passes (λ t. is_connection t.sender) mark)

abbrev is_reply_from : ℕ → OpName → Option Taken → Bool
is_reply_from u op mark = implies (is_reply_mark op mark) (is_mark_from (Connection u) (is_reply_of op) mark)

module _ (s : Settings) (op : OpName) where
  one_sender : (l : ClientLedger) (mark : Option Taken) (rest : Bool) → (not (is_unfit (fits_client s) l mark) && rest) ≡ true → is_sent_by_some op mark ≡ true
  one_sender l None rest f = refl
  one_sender l (Some t) rest f = by t.sender t.letter (is_fit_there (fits_client s) l t rest f)
    where
      of_any : (b : Bool) → implies b true ≡ true
      of_any true = refl
      of_any false = refl

      by : (sender : PartName) (x : Letter) → fits_client s l sender x ≡ true → implies (is_reply_of op x) (is_connection sender) ≡ true
      by (Connection u) x j = of_any (is_reply_of op x)
      by Desk (Reply o r is_last who) j = absurd (let bad : false ≡ true = from_none op s l o r is_last who j in cc)
      by (Client c) (Reply o r is_last who) j = absurd (let bad : false ≡ true = from_none op s l o r is_last who j in cc)
      by Desk _ j = refl
      by (Client c) _ j = refl

  senders : (l : ClientLedger) (ms : List Marked) → are_fit_from (fits_client s) (step_client_ledger s) l ms ≡ true → list_all (λ m. is_sent_by_some op m.mark) ms ≡ true
  senders l [] f = refl
  senders l (m ∷ ms) f = both (is_sent_by_some op m.mark) _ (one_sender l m.mark _ f) (senders (step_client_ledger s l m) ms (right (not (is_unfit (fits_client s) l m.mark)) _ f))

-- what is so of each Sent, where it is known to be one of them
all_members : (q : Sending → Bool) (xs : List Sending) → ((x : Sending) → ((P : Sending → Type 0) → Each P xs → P x) → q x ≡ true) → list_all q xs ≡ true
all_members q [] f = refl
all_members q (x ∷ xs) f = both (q x) _ (f x (λ P e. e.0)) (all_members q xs (λ y at. f y (λ P e. at P e.1)))

-- the answers that were taken are those that were taken of the connection
replies_of : (u : ℕ) (op : OpName) (ms : List Marked) → list_all (λ m. is_reply_from u op m.mark) ms ≡ true → replies ms op ≡ rests op (taken_from (Connection u) ms)
replies_of u op [] h = refl
replies_of u op (m ∷ ms) h = ap (λ l. reply_rest op m.mark ++ l) (replies_of u op ms (right (is_reply_from u op m.mark) _ h)) ∙ ap (λ l. l ++ rests op (taken_from (Connection u) ms)) (one m.mark (left (is_reply_from u op m.mark) _ h)) ∙ sym (rests_both op (letter_from (Connection u) m.mark) (taken_from (Connection u) ms))
  where
    append_none : (xs : List (List ℕ)) → xs ≡ xs ++ []
    append_none [] = refl
    append_none (x ∷ xs) = ap (λ l. x ∷ l) (append_none xs)

    one : (mark : Option Taken) → is_reply_from u op mark ≡ true → reply_rest op mark ≡ rests op (letter_from (Connection u) mark)
    one None k = refl
    one (Some t) k = by (same_part (Connection u) t.sender) (is_reply_of op t.letter) refl k
      where
        by : (b d : Bool) → is_reply_of op t.letter ≡ d → implies d (b && d) ≡ true → answer_told op t.letter ≡ rests op (elim b [ true ↦ t.letter ∷ [] | false ↦ [] ])
        by true d e j = append_none (answer_told op t.letter)
        by false true e j = absurd (let bad : false ≡ true = j in cc)
        by false false e j = none_told op (Some t) (ap not e)

module _ (s : Settings) (F : Family) (marked : PartName → List Marked) (h : Joined s F marked) where
  client : (c : ℕ) → ClientShare s c (marked (Client c))
  client c = h.shared.shares (Client c)

  connection : (u : ℕ) → ConnectionShare s u (marked (Connection u))
  connection u = h.shared.shares (Connection u)

  -- only the connection that it was sent to answers an operation
  one_number : (op : OpName) (u v : ℕ) → list_any (is_sent op) (F.connection u) ≡ true → list_any (is_sent op) (F.connection v) ≡ true → (u == v) ≡ true
  one_number op u v x y = eq_eqb u v (sym (same_number (there s F marked h op).0 u (sent_there s F marked h op u x)) ∙ same_number (there s F marked h op).0 v (sent_there s F marked h op v y))

  from_there : (op : OpName) (u c : ℕ) → list_any (is_sent op) (F.connection u) ≡ true → list_all (λ m. is_reply_from u op m.mark) (marked (Client c)) ≡ true
  from_there op u c k = all_in (λ m. is_sent_by_some op m.mark) (λ m. is_reply_from u op m.mark) (marked (Client c)) (λ m j at. by m.mark j (λ v i. at (λ x. is_mark_from (Connection v) (is_reply_of op) x.mark) i)) (senders s op (empty_client_ledger c) (marked (Client c)) (h.fit (Client c)))
    where
      by : (mark : Option Taken) → is_sent_by_some op mark ≡ true → ((v : ℕ) → is_mark_from (Connection v) (is_reply_of op) mark ≡ true → list_any (λ x. is_mark_from (Connection v) (is_reply_of op) x.mark) (marked (Client c)) ≡ true) → is_reply_from u op mark ≡ true
      by None j at = refl
      by (Some t) j at = implies_by (is_reply_of op t.letter) _ (λ i. on t.sender i (implied (is_reply_of op t.letter) _ j i) at)
        where
          on : (sender : PartName) → is_reply_of op t.letter ≡ true → is_connection sender ≡ true → ((v : ℕ) → (same_part (Connection v) sender && is_reply_of op t.letter) ≡ true → list_any (λ x. is_mark_from (Connection v) (is_reply_of op) x.mark) (marked (Client c)) ≡ true) → (same_part (Connection u) sender && is_reply_of op t.letter) ≡ true
          on (Connection v) i e f = both (u == v) _ (one_number op u v k (answered_there s F marked h op v c (f v (both (v == v) _ (eq_eqb v v refl) i)))) i
          on Desk i e f = absurd (let bad : false ≡ true = e in cc)
          on (Client d) i e f = absurd (let bad : false ≡ true = e in cc)

  -- what was taken is a beginning of what is told
  taken_begins : (op : OpName) (u : ℕ) → list_any (is_sent op) (F.connection u) ≡ true → Begins (told op (gives s (Connection u) (marked (Connection u)))) (replies (marked (Client op.client)) op)
  taken_begins op u k =
      let begun = h.linked.in_order (Connection u) (Client op.client) in
      (rests op begun.0, ap (rests op) begun.1 ∙ rests_both op (taken_from (Connection u) (marked (Client op.client))) begun.0 ∙ ap (λ l. l ++ rests op begun.0) (sym (replies_of u op (marked (Client op.client)) (from_there op u op.client k))))

  sent_so : (u : ℕ) (sent : Sending) → list_any (is_sent sent.op) (F.connection u) ≡ true → SentTold s u sent.op sent (empty_connection s u) (marked (Connection u)) → is_answered_by F sent ≡ true
  sent_so u sent k f =
      let cause : Cause sent.op.client sent.op u f.kind (F.client sent.op.client) (marked (Client sent.op.client)) = taken_cause s F marked h sent.op u f.kind f.forward in
      ap (passes (λ o. allowed o.request.rest (answers o sent) (outs o))) cause.found ∙ by cause.operation cause.found (f.begins cause.operation.request cause.kind_is) (taken_begins sent.op u k)
    where
      client_told : (o : Operation) → find (λ q. same_op sent.op q.name) (operations sent.op.client (F.client sent.op.client)) ≡ Some o → allowed o.request.rest (replies (marked (Client sent.op.client)) o.name) (outs o) ≡ true
      client_told o e = found (is_told_by (marked (Client sent.op.client))) (λ q. same_op sent.op q.name) (operations sent.op.client (F.client sent.op.client)) o e (subst (λ l. list_all (is_told_by (marked (Client sent.op.client))) (operations sent.op.client l) ≡ true) (h.shared.same_entries (Client sent.op.client)) (client sent.op.client).answered)

      by : (o : Operation) → find (λ q. same_op sent.op q.name) (operations sent.op.client (F.client sent.op.client)) ≡ Some o → Begins (answers o sent) (told sent.op (gives s (Connection u) (marked (Connection u)))) → Begins (told sent.op (gives s (Connection u) (marked (Connection u)))) (replies (marked (Client sent.op.client)) sent.op) → allowed o.request.rest (answers o sent) (outs o) ≡ true
      by o e x y =
          let name : o.name ≡ sent.op = sym (same_op_eq sent.op o.name (found_passes (λ q. same_op sent.op q.name) (operations sent.op.client (F.client sent.op.client)) o e)) in
          let told_so : allowed o.request.rest (replies (marked (Client sent.op.client)) sent.op) (outs o) ≡ true = subst (λ n. allowed o.request.rest (replies (marked (Client sent.op.client)) n) (outs o) ≡ true) name (client_told o e) in
          let grown : answers o sent ≡ replies (marked (Client sent.op.client)) sent.op ++ (y.0 ++ x.0) = x.1 ∙ ap (λ l. l ++ x.0) y.1 ∙ append_assoc (replies (marked (Client sent.op.client)) sent.op) y.0 x.0 in
          subst (λ l. allowed o.request.rest l (outs o) ≡ true) (sym grown) (allowed_grows o.request.rest (replies (marked (Client sent.op.client)) sent.op) (outs o) (y.0 ++ x.0) told_so)

  -- the Sents of a connection
  told_at : (u : ℕ) (op : OpName) → SentsTold s u op (sendings u (F.connection u)) (empty_connection s u) (marked (Connection u))
  told_at u op = subst (λ l. SentsTold s u op (sendings u l) (empty_connection s u) (marked (Connection u))) (h.shared.same_entries (Connection u)) (walk_sent s u op [] (empty_connection s u) (marked (Connection u)) (nothing_at s u) (rights_of s u (marked (Connection u)) (connection u) (h.fit (Connection u))) refl)

  answered_at : (u : ℕ) → list_all (is_answered_by F) (sendings u (F.connection u)) ≡ true
  answered_at u = all_members (is_answered_by F) (sendings u (F.connection u)) (λ sent at. sent_so u sent (at (λ x. list_any (is_sent x.op) (F.connection u) ≡ true) (each_of (λ x. list_any (is_sent x.op) (F.connection u)) (sendings u (F.connection u)) (each_sending u (λ x. list_any (is_sent x.op) (F.connection u)) [] (F.connection u) (λ x e k. k)))) (at (λ x. same_op sent.op x.op ≡ true → SentTold s u sent.op x (empty_connection s u) (marked (Connection u))) (told_at u sent.op) (same_op_refl sent.op)))

pub answered : FifoAnswered
answered s F marked h = all_sent F (is_answered_by F) F.connections (answered_at s F marked h)
