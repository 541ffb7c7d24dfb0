-- The Sents of an exchange on a bind connection, from the first one on.
use Rattle.std.proofs.Common.{◌≡◌, ℕ, Bool, true, false, ◌==◌, ◌&&◌, ◌||◌, List, [], ◌∷◌, ◌++◌, refl, ap, ◌∙◌}
use Rattle.std.specs.Prelude.{Option, Some, None, map, option_map}
use Rattle.std.specs.List.{list_any}
use Rattle.std.proofs.lemmas.List.{append-nil}
use Rattle.ldap_spec.specs.Responses.{has_code}
use Rattle.lload_names.specs.declared.names.Entry.{Entry}
use Rattle.lload_names.specs.declared.names.OpName.{OpName}
use Rattle.lload_spec.specs.Answers.{Final, Sending, final_answer, is_left_in_progress, of_operation, sending_made, sendings}
use Rattle.lload_spec.specs.CausedUp.{is_holding}
use Rattle.lload_spec.specs.Entries.{sent_message}
use Rattle.lload_spec.specs.Journal.{Family, same_op}
use Rattle.lload_spec.specs.Lists.{last, passes}
use Rattle.lload_spec.specs.Operations.{Operation, operation}
use Rattle.lload_spec.specs.Over.{from_sent, is_held_since}
use Rattle.lload_spec.specs.Settings.{Settings}
use Rattle.lload_spec.proofs.Growth.{left, right, both}
use Rattle.lload_laws.specs.ConnectionGrowth.{later_sending}
use Rattle.lload_laws.proofs.ConnectionGrowth.{sendings_grow}
use Rattle.lload_laws.proofs.ListLaws.{any-map}
use Rattle.part_laws.proofs.ListLaws.{eq_eqb}
use Rattle.connection_laws.proofs.Closings.{final_more}
use Rattle.identity_laws.proofs.Finals.{last-map}
use Rattle.ended_laws.proofs.BindOver.{from_append, from_map, is_its, last_from}

-- whether each of these but the last was left in progress, and the next one is of the same client
abbrev pub is_chained : Family → List Sending → Bool
is_chained F [] = false
is_chained F (q ∷ []) = true
is_chained F (q ∷ r ∷ qs) = of_operation F is_left_in_progress q && q.op.client == r.op.client && is_chained F (r ∷ qs)

module _ (F : Family) where
  left_later : (e : Entry) (x : Sending) → of_operation F is_left_in_progress x ≡ true → of_operation F is_left_in_progress (later_sending e x) ≡ true
  left_later e x h = by (operation F x.op) h
    where
      final : (o : Operation) (q : Option Final) → final_answer o x ≡ q → passes (λ f. has_code 14 f.rest) q ≡ true → passes (λ f. has_code 14 f.rest) (final_answer o (later_sending e x)) ≡ true
      final o None i k = absurd (let bad : false ≡ true = k in cc)
      final o (Some f) i k = ap (passes (λ g. has_code 14 g.rest)) (final_more o.request x.id x.behind e f i) ∙ k

      by : (o : Option Operation) → passes (λ q. is_left_in_progress q x) o ≡ true → passes (λ q. is_left_in_progress q (later_sending e x)) o ≡ true
      by None k = k
      by (Some o) k = final o (final_answer o x) refl k

  chained_later : (e : Entry) (xs : List Sending) → is_chained F xs ≡ true → is_chained F (map (later_sending e) xs) ≡ true
  chained_later e [] h = h
  chained_later e (q ∷ []) h = refl
  chained_later e (q ∷ r ∷ qs) h = both (of_operation F is_left_in_progress (later_sending e q) && q.op.client == r.op.client) _ (both (of_operation F is_left_in_progress (later_sending e q)) _ (left_later e q (left (of_operation F is_left_in_progress q) _ (left (of_operation F is_left_in_progress q && q.op.client == r.op.client) _ h))) (right (of_operation F is_left_in_progress q) _ (left (of_operation F is_left_in_progress q && q.op.client == r.op.client) _ h))) (chained_later e (r ∷ qs) (right (of_operation F is_left_in_progress q && q.op.client == r.op.client) _ h))

  -- one more, where the last was left in progress
  chained_push : (xs : List Sending) (z new : Sending) → last xs ≡ Some z → of_operation F is_left_in_progress z ≡ true → z.op.client ≡ new.op.client → is_chained F xs ≡ true → is_chained F (xs ++ new ∷ []) ≡ true
  chained_push [] z new e k c h = absurd (let bad : None ≡ Some z = e in cc)
  chained_push (q ∷ []) z new e k c h =
      let same : q ≡ z = cc in
      both (of_operation F is_left_in_progress q && q.op.client == new.op.client) true (both (of_operation F is_left_in_progress q) _ (ap (of_operation F is_left_in_progress) same ∙ k) (eq_eqb q.op.client new.op.client (ap (λ v. v.op.client) same ∙ c))) refl
  chained_push (q ∷ r ∷ qs) z new e k c h = both (of_operation F is_left_in_progress q && q.op.client == r.op.client) _ (left (of_operation F is_left_in_progress q && q.op.client == r.op.client) _ h) (chained_push (r ∷ qs) z new e k c (right (of_operation F is_left_in_progress q && q.op.client == r.op.client) _ h))

  -- where the last one holds, the exchange holds the connection
  pub chained_holds : (s : Settings) (xs : List Sending) (z : Sending) → last xs ≡ Some z → of_operation F (is_holding s) z ≡ true → is_chained F xs ≡ true → is_held_since s F xs ≡ true
  chained_holds s [] z e k h = absurd (let bad : None ≡ Some z = e in cc)
  chained_holds s (q ∷ []) z e k h = let same : q ≡ z = cc in ap (of_operation F (is_holding s)) same ∙ k
  chained_holds s (q ∷ r ∷ qs) z e k h = both (of_operation F is_left_in_progress q && q.op.client == r.op.client) _ (left (of_operation F is_left_in_progress q && q.op.client == r.op.client) _ h) (chained_holds s (r ∷ qs) z e k (right (of_operation F is_left_in_progress q && q.op.client == r.op.client) _ h))

  module _ (u : ℕ) (op : OpName) (place : List Entry) (there : list_any (is_its op) (sendings u place) ≡ true) (chain : is_chained F (from_sent op (sendings u place)) ≡ true) where
    abbrev xs : List Sending
    xs = sendings u place

    there_later : (e : Entry) → list_any (is_its op) (map (later_sending e) xs) ≡ true
    there_later e = any-map (is_its op) (later_sending e) xs ∙ there

    abbrev Next : Entry → Type 0
    Next e = is_chained F (from_sent op (sendings u (place ++ e ∷ []))) ≡ true

    from_next : (e : Entry) → from_sent op (sendings u (place ++ e ∷ [])) ≡ map (later_sending e) (from_sent op xs) ++ sending_made u place e [] (sent_message e.what)
    from_next e = ap (from_sent op) (sendings_grow u place e) ∙ from_append op (map (later_sending e) xs) (sending_made u place e [] (sent_message e.what)) (there_later e) ∙ ap (λ ys. ys ++ sending_made u place e [] (sent_message e.what)) (from_map op e xs)

    -- with an entry that is no Sent
    pub chain_quiet : (e : Entry) → sent_message e.what ≡ None → Next e
    chain_quiet e none = ap (is_chained F) (from_next e ∙ ap (λ o. map (later_sending e) (from_sent op xs) ++ sending_made u place e [] o) none ∙ append-nil (map (later_sending e) (from_sent op xs))) ∙ chained_later e (from_sent op xs) chain

    -- with a Sent of the same client
    pub chain_sent : (e : Entry) (new z : Sending) → sending_made u place e [] (sent_message e.what) ≡ new ∷ [] → last xs ≡ Some z → of_operation F is_left_in_progress z ≡ true → z.op.client ≡ new.op.client → Next e
    chain_sent e new z made end k c = ap (is_chained F) (from_next e ∙ ap (λ ys. map (later_sending e) (from_sent op xs) ++ ys) made) ∙ chained_push (map (later_sending e) (from_sent op xs)) (later_sending e z) new (last-map (later_sending e) (from_sent op xs) ∙ ap (option_map (later_sending e)) (last_from op xs there ∙ end)) (left_later e z k) c (chained_later e (from_sent op xs) chain)

-- the first of an operation
from_new : (op : OpName) (xs ys : List Sending) → list_any (is_its op) xs ≡ false → from_sent op (xs ++ ys) ≡ from_sent op ys
from_new op [] ys h = refl
from_new op (x ∷ xs) ys h = by (same_op op x.op) h (from_new op xs ys)
  where
    by : (b : Bool) → (b || list_any (is_its op) xs) ≡ false → (list_any (is_its op) xs ≡ false → from_sent op (xs ++ ys) ≡ from_sent op ys) → (elim b [ true ↦ x ∷ (xs ++ ys) | false ↦ from_sent op (xs ++ ys) ]) ≡ from_sent op ys
    by true k more = absurd (let bad : true ≡ false = k in cc)
    by false k more = more k

pub chain_begins : (F : Family) (u : ℕ) (op : OpName) (place : List Entry) (e : Entry) (new : Sending) → list_any (is_its op) (sendings u place) ≡ false → sending_made u place e [] (sent_message e.what) ≡ new ∷ [] → same_op op new.op ≡ true → is_chained F (from_sent op (sendings u (place ++ e ∷ []))) ≡ true
chain_begins F u op place e new none made its = ap (λ ys. is_chained F (from_sent op ys)) (sendings_grow u place e ∙ ap (λ ys. map (later_sending e) (sendings u place) ++ ys) made) ∙ ap (is_chained F) (from_new op (map (later_sending e) (sendings u place)) (new ∷ []) (any-map (is_its op) (later_sending e) (sendings u place) ∙ none)) ∙ ap (λ b. is_chained F (elim b [ true ↦ new ∷ [] | false ↦ [] ])) its
