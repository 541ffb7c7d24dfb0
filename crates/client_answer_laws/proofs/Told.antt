-- What a client got for each of its operations, by the answers that were taken, behind each entry.
use Rattle.std.proofs.Common.{◌≡◌, ℕ, ◌+◌, ◌≤◌, ◌⊎◌, inl, inr, Bool, true, false, ◌&&◌, ◌||◌, not, List, [], ◌∷◌, ◌++◌, length, refl, ap, arith, ◌∙◌, sym, append_assoc}
use Rattle.std.specs.List.{list_any, list_all}
use Rattle.std.proofs.lemmas.List.{append-nil, length-append}
use Rattle.std.proofs.lemmas.List.Folds.{list_any-append, list_all-append}
use Rattle.std.specs.Str.{bytes_eq}
use Rattle.ldap_spec.specs.Tags.{success}
use Rattle.ldap_spec.specs.Responses.{has_code}
use Rattle.lload_names.specs.declared.names.OpName.{OpName}
use Rattle.lload_spec.specs.Lists.{implies, is_prefix}
use Rattle.lload_spec.specs.Settings.{Settings}
use Rattle.lload_spec.specs.Operations.{Operation, outs, is_live, is_final_to, is_final_for}
use Rattle.lload_spec.specs.Answers.{asks_who}
use Rattle.lload_spec.specs.Fifo.{allowed, is_prefix_and_own, is_own_answer}
use Rattle.lload_spec.specs.Strict.{got_kept_success}
use Rattle.part_spec.specs.Marked.{Marked}
use Rattle.part_spec.specs.Share.{replies, reply_rest, has_letter, tells_identity, is_answered_by, is_success_known}
use Rattle.lload_spec.proofs.Growth.{left, right, both, either, prefix_grows, allowed_grows}
use Rattle.lload_laws.specs.ClientGrowth.{later_operation}
use Rattle.lload_laws.proofs.ClientGrowth.{ending_grows}
use Rattle.lload_laws.proofs.ListLaws.{prefix_same, bytes_same, implied, implies_by}
use Rattle.part_laws.proofs.ListLaws.{any_before, any_behind, or_left, or_right, or_elim, not_both}
use Rattle.client_laws.proofs.Matches.{ends_not}
use Rattle.client_answer_laws.proofs.Causes.{Caused, EndsSo, caused_more}

-- the answers that a longer list took
pub replies_push : (ms : List Marked) (m : Marked) (op : OpName) → replies (ms ++ m ∷ []) op ≡ replies ms op ++ reply_rest op m.mark
replies_push [] m op = append-nil (reply_rest op m.mark)
replies_push (x ∷ ms) m op = ap (λ l. reply_rest op x.mark ++ l) (replies_push ms m op) ∙ sym (append_assoc (reply_rest op x.mark) (replies ms op) (reply_rest op m.mark))

-- while an operation is live its client got all answers that were taken, of which none is final
pub record Going (answers : List (List ℕ)) (o : Operation) : Type 0 where
  pub same : outs o ≡ answers
  pub none_final : list_all (λ r. not (is_final_to o.request.rest r)) answers ≡ true

pub record OpSays (s : Settings) (ms : List Marked) (o : Operation) : Type 0 where
  pub answered : is_answered_by ms o ≡ true
  pub known : is_success_known s ms o ≡ true
  pub live : is_live o ≡ true → Going (replies ms o.name) o
  pub within : length o.before ≤ length ms
  pub ends : EndsSo s ms o

-- What an entry is for an operation: nothing is told, and no answer to it comes, or one that comes too late; or an answer
-- that comes is told; or an answer of the proxy's own, which ends it, with its cause.
pub record Quiet (m : Marked) (o : Operation) : Type 0 where
  pub outs_same : outs (later_operation m.entry o) ≡ outs o
  pub no_reply : reply_rest o.name m.mark ≡ []

pub record TooLate (m : Marked) (o : Operation) : Type 0 where
  pub outs_same : outs (later_operation m.entry o) ≡ outs o
  pub over : is_live o ≡ false

pub record Answered (s : Settings) (m : Marked) (o : Operation) : Type 0 where
  pub rest : List ℕ
  pub told : outs (later_operation m.entry o) ≡ outs o ++ rest ∷ []
  pub reply : reply_rest o.name m.mark ≡ rest ∷ []
  pub live : is_live o ≡ true
  pub goes_on : is_live (later_operation m.entry o) ≡ true → is_final_to o.request.rest rest ≡ false
  pub known : implies (asks_who s o && (is_final_for o.request rest && has_code success rest)) (has_letter (tells_identity o.name) m) ≡ true

pub record Own (s : Settings) (ms : List Marked) (m : Marked) (o : Operation) : Type 0 where
  pub rest : List ℕ
  pub told : outs (later_operation m.entry o) ≡ outs o ++ rest ∷ []
  pub no_reply : reply_rest o.name m.mark ≡ []
  pub live : is_live o ≡ true
  pub over : is_live (later_operation m.entry o) ≡ false
  pub own : is_own_answer o.request.rest rest ≡ true
  pub unknown : (asks_who s o && (is_final_for o.request rest && has_code success rest)) ≡ false
  pub caused : Caused s (ms ++ m ∷ []) (later_operation m.entry o) rest

abbrev pub Effect : Settings → List Marked → Marked → Operation → Type 0
Effect s ms m o = Quiet m o ⊎ (TooLate m o ⊎ (Answered s m o ⊎ Own s ms m o))

-- a beginning of the answers without a final one, and then an answer of the proxy's own
own_behind : (request : List ℕ) (xs : List (List ℕ)) (r : List ℕ) → list_all (λ a. not (is_final_to request a)) xs ≡ true → is_own_answer request r ≡ true → is_prefix_and_own request xs (xs ++ r ∷ []) ≡ true
own_behind request [] r h k = k
own_behind request (x ∷ []) r h k = both (bytes_eq x x && not (is_final_to request x)) _ (both (bytes_eq x x) _ (bytes_same x) (left (not (is_final_to request x)) _ h)) k
own_behind request (x ∷ y ∷ xs) r h k = both (bytes_eq x x && not (is_final_to request x)) _ (both (bytes_eq x x) _ (bytes_same x) (left (not (is_final_to request x)) _ h)) (own_behind request (y ∷ xs) r (right (not (is_final_to request x)) _ h) k)

module _ (s : Settings) (ms : List Marked) (m : Marked) (o : Operation) (h : OpSays s ms o) where
  abbrev later : Operation
  later = later_operation m.entry o

  live_before : is_live (later_operation m.entry o) ≡ true → is_live o ≡ true
  live_before k = left (is_live o) _ (sym (ending_grows o.request o.behind m.entry) ∙ k)

  longer : length o.before ≤ length (ms ++ m ∷ [])
  longer = let one : length (ms ++ m ∷ []) ≡ length ms + 1 = length-append ms (m ∷ []) in let before : length o.before ≤ length ms = h.within in omega (arith, one, before)

  -- what it ends with stays
  ends_same : outs (later_operation m.entry o) ≡ outs o → EndsSo s ms o → EndsSo s (ms ++ m ∷ []) (later_operation m.entry o)
  ends_same e (inl p) = inl (ap (λ l. is_prefix l (replies (ms ++ m ∷ []) o.name)) e ∙ ap (is_prefix (outs o)) (replies_push ms m o.name) ∙ prefix_grows (outs o) (replies ms o.name) (reply_rest o.name m.mark) p)
  ends_same e (inr q) = inr (record { before = q.before; rest = q.rest; outs_are = e ∙ q.outs_are; over = ending_grows o.request o.behind m.entry ∙ ap (λ b. b && ends_not m.entry o) q.over; caused = caused_more s ms m o h.within q.rest e q.caused })

  -- the answers stay allowed, and what was kept back is known
  answered_same : outs (later_operation m.entry o) ≡ outs o → is_answered_by (ms ++ m ∷ []) (later_operation m.entry o) ≡ true
  answered_same e = ap (allowed o.request.rest (replies (ms ++ m ∷ []) o.name)) e ∙ ap (λ l. allowed o.request.rest l (outs o)) (replies_push ms m o.name) ∙ allowed_grows o.request.rest (replies ms o.name) (outs o) (reply_rest o.name m.mark) h.answered

  told_more : list_any (has_letter (tells_identity o.name)) ms ≡ true → list_any (has_letter (tells_identity o.name)) (ms ++ m ∷ []) ≡ true
  told_more k = any_before (has_letter (tells_identity o.name)) ms (m ∷ []) k

  known_same : outs (later_operation m.entry o) ≡ outs o → is_success_known s (ms ++ m ∷ []) (later_operation m.entry o) ≡ true
  known_same e = ap (λ l. implies (asks_who s o && list_any (λ r. is_final_for o.request r && has_code success r) l) (list_any (has_letter (tells_identity o.name)) (ms ++ m ∷ []))) e ∙ implies_by (got_kept_success s o) _ (λ k. told_more (implied (got_kept_success s o) _ h.known k))

  -- one more Out
  known_told : (rest : List ℕ) → outs (later_operation m.entry o) ≡ outs o ++ rest ∷ [] → implies (asks_who s o && (is_final_for o.request rest && has_code success rest)) (has_letter (tells_identity o.name) m) ≡ true → is_success_known s (ms ++ m ∷ []) (later_operation m.entry o) ≡ true
  known_told rest e k = ap (λ l. implies (asks_who s o && list_any (λ r. is_final_for o.request r && has_code success r) l) (list_any (has_letter (tells_identity o.name)) (ms ++ m ∷ []))) e ∙ implies_by (asks_who s o && list_any (λ r. is_final_for o.request r && has_code success r) (outs o ++ rest ∷ [])) _ (λ j.
      let asks : asks_who s o ≡ true = left (asks_who s o) _ j in
      or_elim (list_any (λ r. is_final_for o.request r && has_code success r) (outs o)) ((is_final_for o.request rest && has_code success rest) || false) (λ i. told_more (implied (got_kept_success s o) _ h.known (both (asks_who s o) _ asks i))) (λ i. any_behind (has_letter (tells_identity o.name)) ms (m ∷ []) (or_left (has_letter (tells_identity o.name) m) false (implied (asks_who s o && (is_final_for o.request rest && has_code success rest)) _ k (both (asks_who s o) _ asks (one_of (is_final_for o.request rest && has_code success rest) i))))) (sym (list_any-append (λ r. is_final_for o.request r && has_code success r) (outs o) (rest ∷ [])) ∙ right (asks_who s o) _ j))
    where
      one_of : (b : Bool) → (b || false) ≡ true → b ≡ true
      one_of true i = refl
      one_of false i = i

  quiet : Quiet m o → OpSays s (ms ++ m ∷ []) (later_operation m.entry o)
  quiet q =
      record {
        answered = answered_same q.outs_same;
        known = known_same q.outs_same;
        live = λ k.
            let g : Going (replies ms o.name) o = h.live (live_before k) in
            let answers : replies (ms ++ m ∷ []) o.name ≡ replies ms o.name = replies_push ms m o.name ∙ ap (λ l. replies ms o.name ++ l) q.no_reply ∙ append-nil (replies ms o.name) in
            record { same = q.outs_same ∙ g.same ∙ sym answers; none_final = ap (list_all (λ r. not (is_final_to o.request.rest r))) answers ∙ g.none_final };
        within = longer;
        ends = ends_same q.outs_same h.ends;
      }

  too_late : TooLate m o → OpSays s (ms ++ m ∷ []) (later_operation m.entry o)
  too_late q = record { answered = answered_same q.outs_same; known = known_same q.outs_same; live = λ k. not_both (is_live o) (live_before k) q.over; within = longer; ends = ends_same q.outs_same h.ends }

  told : Answered s m o → OpSays s (ms ++ m ∷ []) (later_operation m.entry o)
  told q =
      let g : Going (replies ms o.name) o = h.live q.live in
      let answers : replies (ms ++ m ∷ []) o.name ≡ outs o ++ q.rest ∷ [] = replies_push ms m o.name ∙ ap (λ l. replies ms o.name ++ l) q.reply ∙ ap (λ l. l ++ q.rest ∷ []) (sym g.same) in
      record {
        answered = ap (allowed o.request.rest (replies (ms ++ m ∷ []) o.name)) (q.told ∙ sym answers) ∙ or_left (is_prefix (replies (ms ++ m ∷ []) o.name) (replies (ms ++ m ∷ []) o.name)) _ (prefix_same (replies (ms ++ m ∷ []) o.name));
        known = known_told q.rest q.told q.known;
        live = λ k. record { same = q.told ∙ sym answers; none_final = ap (list_all (λ r. not (is_final_to o.request.rest r))) (replies_push ms m o.name ∙ ap (λ l. replies ms o.name ++ l) q.reply) ∙ list_all-append (λ r. not (is_final_to o.request.rest r)) (replies ms o.name) (q.rest ∷ []) ∙ both (list_all (λ r. not (is_final_to o.request.rest r)) (replies ms o.name)) _ g.none_final (both (not (is_final_to o.request.rest q.rest)) true (ap not (q.goes_on k)) refl) };
        within = longer;
        ends = inl (ap (λ l. is_prefix l (replies (ms ++ m ∷ []) o.name)) (q.told ∙ sym answers) ∙ prefix_same (replies (ms ++ m ∷ []) o.name));
      }

  own : Own s ms m o → OpSays s (ms ++ m ∷ []) (later_operation m.entry o)
  own q =
      let g : Going (replies ms o.name) o = h.live q.live in
      let answers : replies (ms ++ m ∷ []) o.name ≡ outs o = replies_push ms m o.name ∙ ap (λ l. replies ms o.name ++ l) q.no_reply ∙ append-nil (replies ms o.name) ∙ sym g.same in
      record {
        answered = ap (allowed o.request.rest (replies (ms ++ m ∷ []) o.name)) q.told ∙ ap (λ l. allowed o.request.rest l (outs o ++ q.rest ∷ [])) answers ∙ or_right (is_prefix (outs o ++ q.rest ∷ []) (outs o)) _ (own_behind o.request.rest (outs o) q.rest (ap (list_all (λ r. not (is_final_to o.request.rest r))) g.same ∙ g.none_final) q.own);
        known = known_told q.rest q.told (ap (λ b. implies b (has_letter (tells_identity o.name) m)) q.unknown);
        live = λ k. not_both (is_live (later_operation m.entry o)) k q.over;
        within = longer;
        ends = inr (record { before = outs o; rest = q.rest; outs_are = q.told; over = q.over; caused = q.caused });
      }

  pub op_more : Effect s ms m o → OpSays s (ms ++ m ∷ []) (later_operation m.entry o)
  op_more (inl q) = quiet q
  op_more (inr (inl q)) = too_late q
  op_more (inr (inr (inl q))) = told q
  op_more (inr (inr (inr q))) = own q
