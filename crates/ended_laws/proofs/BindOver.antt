-- An operation that held a bind connection and is over there stays so.
use Rattle.std.proofs.Common.{◌≡◌, ◌⊎◌, inl, inr, ℕ, Bool, true, false, ◌==◌, ◌&&◌, ◌||◌, not, List, [], ◌∷◌, ◌++◌, refl, ap, ◌∙◌, sym, subst}
use Rattle.std.specs.Prelude.{Option, Some, None, is_some, map, if◌then◌else◌}
use Rattle.std.specs.List.{list_any}
use Rattle.ldap_spec.specs.Responses.{has_code}
use Rattle.lload_names.specs.declared.names.ConnKind.TheVariants.{Bind as BindKind}
use Rattle.lload_names.specs.declared.names.Entry.{Entry}
use Rattle.lload_names.specs.declared.names.OpName.{OpName}
use Rattle.lload_spec.specs.Answers.{Final, Sending, closing_at, final_answer, is_left_in_progress, is_open, of_operation, sending_made, sendings}
use Rattle.lload_spec.specs.CausedUp.{is_missed_caused, is_stopped as is_stopped_at}
use Rattle.lload_spec.specs.Entries.{is_down, is_retired, sent_message}
use Rattle.lload_spec.specs.Journal.{Family, same_op}
use Rattle.lload_spec.specs.Lists.{last, passes}
use Rattle.lload_spec.specs.Operations.{Operation, operation}
use Rattle.lload_spec.specs.Over.{from_sent, is_held_since, is_over_at}
use Rattle.lload_spec.specs.Settings.{Settings, is_of_kind}
use Rattle.lload_laws.specs.ConnectionGrowth.{later_sending}
use Rattle.lload_laws.proofs.ConnectionGrowth.{sendings_grow}
use Rattle.lload_laws.proofs.ListLaws.{any-map}
use Rattle.part_laws.proofs.ListLaws.{any_before}
use Rattle.connection_laws.proofs.Closings.{closing_stays, final_more}
use Rattle.rows_laws.proofs.Somewhere.{OneIn, one_before, one_imply, one_map}
use Rattle.upstream_laws.proofs.Answered.{last_stays}
use Rattle.upstream_laws.proofs.BindDowns.{Unheld, unheld_more}
use Rattle.upstream_laws.proofs.Held.{settled_unheld}
use Rattle.open_laws.proofs.Among.{Among}
use Rattle.ended_laws.proofs.RegularEnds.{MissedAt, missed_more, stopped_unsent}
use Rattle.ended_laws.proofs.RegularTold.{unsent_from}

-- a Bind that is settled, and by no saslBindInProgress
pub record OverSent (s : Settings) (F : Family) (x : Sending) : Type 0 where
  pub o : Operation
  pub found : operation F x.op ≡ Some o
  pub closed : is_some (closing_at s o x) ≡ true
  pub final : Final
  pub came : final_answer o x ≡ Some final
  pub code : has_code 14 final.rest ≡ false

-- whether a Sent is of an operation
abbrev pub is_its : OpName → Sending → Bool
is_its op x = same_op op x.op

-- it was sent, the connection is stopped, and the last Sent doesn't hold it
pub record Stuck (s : Settings) (F : Family) (u : ℕ) (place : List Entry) (op : OpName) : Type 0 where
  pub stopped : is_stopped_at place ≡ true
  pub sent : list_any (is_its op) (sendings u place) ≡ true
  pub unheld : Unheld s F (last (sendings u place))

-- so the operation is over: a Bind of its exchange was the last, or the connection is stopped, or it was missed
abbrev pub Over : Settings → Family → ℕ → List Entry → OpName → Type 0
Over s F u place op = OneIn (λ x. OverSent s F x) (from_sent op (sendings u place)) ⊎ (Stuck s F u place op ⊎ MissedAt place op None)

pub record BindTold (s : Settings) (F : Family) (u : ℕ) (place : List Entry) (op : OpName) (told : Option ℕ) : Type 0 where
  pub none : told ≡ None
  pub over : Over s F u place op

-- The Sents from the first of an operation on.

pub from_append : (op : OpName) (xs ys : List Sending) → list_any (is_its op) xs ≡ true → from_sent op (xs ++ ys) ≡ from_sent op xs ++ ys
from_append op [] ys h = absurd (let bad : false ≡ true = h in cc)
from_append op (x ∷ xs) ys h = by (same_op op x.op) h (from_append op xs ys)
  where
    by : (b : Bool) → (b || list_any (is_its op) xs) ≡ true → (list_any (is_its op) xs ≡ true → from_sent op (xs ++ ys) ≡ from_sent op xs ++ ys) → (elim b [ true ↦ x ∷ xs ++ ys | false ↦ from_sent op (xs ++ ys) ]) ≡ (elim b [ true ↦ x ∷ xs | false ↦ from_sent op xs ]) ++ ys
    by true k more = refl
    by false k more = more k

pub from_map : (op : OpName) (e : Entry) (xs : List Sending) → from_sent op (map (later_sending e) xs) ≡ map (later_sending e) (from_sent op xs)
from_map op e [] = refl
from_map op e (x ∷ xs) = by (same_op op x.op) (from_map op e xs)
  where
    by : (b : Bool) → from_sent op (map (later_sending e) xs) ≡ map (later_sending e) (from_sent op xs) → (elim b [ true ↦ map (later_sending e) (x ∷ xs) | false ↦ from_sent op (map (later_sending e) xs) ]) ≡ map (later_sending e) (elim b [ true ↦ x ∷ xs | false ↦ from_sent op xs ])
    by true more = refl
    by false more = more

from_there : (P : Sending → Type 0) (op : OpName) (xs : List Sending) → OneIn P (from_sent op xs) → list_any (is_its op) xs ≡ true
from_there P op [] h = absurd h
from_there P op (x ∷ xs) h = by (same_op op x.op) h (from_there P op xs)
  where
    by : (b : Bool) → OneIn P (elim b [ true ↦ x ∷ xs | false ↦ from_sent op xs ]) → (OneIn P (from_sent op xs) → list_any (is_its op) xs ≡ true) → (b || list_any (is_its op) xs) ≡ true
    by true k more = refl
    by false k more = more k

pub from_some : (op : OpName) (xs : List Sending) → list_any (is_its op) xs ≡ true → (q : Sending) × (rest : List Sending) × (from_sent op xs ≡ q ∷ rest)
from_some op [] h = absurd (let bad : false ≡ true = h in cc)
from_some op (x ∷ xs) h = by (same_op op x.op) h (from_some op xs)
  where
    by : (b : Bool) → (b || list_any (is_its op) xs) ≡ true → (list_any (is_its op) xs ≡ true → (q : Sending) × (rest : List Sending) × (from_sent op xs ≡ q ∷ rest)) → (q : Sending) × (rest : List Sending) × ((elim b [ true ↦ x ∷ xs | false ↦ from_sent op xs ]) ≡ q ∷ rest)
    by true k more = (x, xs, refl)
    by false k more = more k

pub last_from : (op : OpName) (xs : List Sending) → list_any (is_its op) xs ≡ true → last (from_sent op xs) ≡ last xs
last_from op [] h = absurd (let bad : false ≡ true = h in cc)
last_from op (x ∷ xs) h = by (same_op op x.op) h (last_from op xs)
  where
    further : (ys : List Sending) → list_any (is_its op) ys ≡ true → last ys ≡ last (x ∷ ys)
    further [] k = absurd (let bad : false ≡ true = k in cc)
    further (y ∷ ys) k = refl

    by : (b : Bool) → (b || list_any (is_its op) xs) ≡ true → (list_any (is_its op) xs ≡ true → last (from_sent op xs) ≡ last xs) → last (elim b [ true ↦ x ∷ xs | false ↦ from_sent op xs ]) ≡ last (x ∷ xs)
    by true k more = refl
    by false k more = more k ∙ further xs k

last_among : (xs : List Sending) (z : Sending) → last xs ≡ Some z → Among z xs
last_among [] z h = absurd (let bad : None ≡ Some z = h in cc)
last_among (x ∷ []) z h = inl (let same : x ≡ z = cc in same)
last_among (x ∷ y ∷ xs) z h = inr (last_among (y ∷ xs) z h)

-- the last of them, where it is so
pub last_one : (P : Sending → Type 0) (op : OpName) (xs : List Sending) (z : Sending) → list_any (is_its op) xs ≡ true → last xs ≡ Some z → P z → OneIn P (from_sent op xs)
last_one P op xs z h k p = one_imply (λ x. x ≡ z) P (from_sent op xs) (λ x e. subst P (sym e) p) (last_among (from_sent op xs) z (last_from op xs h ∙ k))

module _ (s : Settings) (F : Family) where
  -- With an entry more.
  over_later : (e : Entry) (x : Sending) → OverSent s F x → OverSent s F (later_sending e x)
  over_later e x h = record { o = h.o; found = h.found; closed = closing_stays s h.o x e h.closed; final = record { rest = h.final.rest; behind = h.final.behind ++ e ∷ [] }; came = final_more h.o.request x.id x.behind e h.final h.came; code = h.code }

  module _ (u : ℕ) where
    -- an operation that was sent stays so
    pub sent_more : (op : OpName) (place : List Entry) (e : Entry) → list_any (is_its op) (sendings u place) ≡ true → list_any (is_its op) (sendings u (place ++ e ∷ [])) ≡ true
    sent_more op place e h = ap (list_any (is_its op)) (sendings_grow u place e) ∙ any_before (is_its op) (map (later_sending e) (sendings u place)) (sending_made u place e [] (sent_message e.what)) (any-map (is_its op) (later_sending e) (sendings u place) ∙ h)

    over_more : (op : OpName) (place : List Entry) (e : Entry) → is_missed_caused place e ≡ true → Over s F u place op → Over s F u (place ++ e ∷ []) op
    over_more op place e k (inl h) =
        let xs : List Sending = sendings u place in
        let made : List Sending = sending_made u place e [] (sent_message e.what) in
        let there : list_any (is_its op) (map (later_sending e) xs) ≡ true = any-map (is_its op) (later_sending e) xs ∙ from_there (λ x. OverSent s F x) op xs h in
        inl (subst (λ ys. OneIn (λ x. OverSent s F x) (from_sent op ys)) (sym (sendings_grow u place e)) (subst (OneIn (λ x. OverSent s F x)) (sym (from_append op (map (later_sending e) xs) made there ∙ ap (λ ys. ys ++ made) (from_map op e xs))) (one_before (λ x. OverSent s F x) (map (later_sending e) (from_sent op xs)) made (one_map (λ x. OverSent s F x) (λ x. OverSent s F x) (later_sending e) (from_sent op xs) (over_later e) h))))
    over_more op place e k (inr (inl h)) = inr (inl (record { stopped = any_before (λ y. is_retired y.what || is_down y) place (e ∷ []) h.stopped; sent = sent_more op place e h.sent; unheld = subst (Unheld s F) (sym (last_stays u place e (stopped_unsent place e k h.stopped))) (unheld_more s F e (last (sendings u place)) h.unheld) }))
    over_more op place e k (inr (inr h)) = inr (inr (missed_more place e op None k h))

    pub bind_more : (op : OpName) (told : Option ℕ) (place : List Entry) (e : Entry) → is_missed_caused place e ≡ true → BindTold s F u place op told → BindTold s F u (place ++ e ∷ []) op told
    bind_more op told place e k h = record { none = h.none; over = over_more op place e k h.over }

  -- By the whole list.
  held_over : (xs : List Sending) → OneIn (λ x. OverSent s F x) xs → is_held_since s F xs ≡ false
  held_over [] h = absurd h
  held_over (q ∷ []) (inl h) = settled_unheld s F q h.o h.found h.closed (ap (passes (λ f. has_code 14 f.rest)) h.came ∙ h.code)
  held_over (q ∷ []) (inr h) = absurd h
  held_over (q ∷ r ∷ qs) (inl h) = ap (λ b. b && q.op.client == r.op.client && is_held_since s F (r ∷ qs)) (ap (passes (λ o. is_left_in_progress o q)) h.found ∙ ap (passes (λ f. has_code 14 f.rest)) h.came ∙ h.code)
  held_over (q ∷ r ∷ qs) (inr h) = ap (λ b. of_operation F is_left_in_progress q && q.op.client == r.op.client && b) (held_over (r ∷ qs) h) ∙ none (of_operation F is_left_in_progress q && q.op.client == r.op.client)
    where
      none : (b : Bool) → (b && false) ≡ false
      none true = refl
      none false = refl

  held_last : (xs : List Sending) → Unheld s F (last xs) → is_held_since s F xs ≡ false
  held_last [] h = refl
  held_last (q ∷ []) h = h
  held_last (q ∷ r ∷ qs) h = ap (λ b. of_operation F is_left_in_progress q && q.op.client == r.op.client && b) (held_last (r ∷ qs) h) ∙ none (of_operation F is_left_in_progress q && q.op.client == r.op.client)
    where
      none : (b : Bool) → (b && false) ≡ false
      none true = refl
      none false = refl

  module _ (u : ℕ) (kind : is_of_kind s BindKind u ≡ true) (op : OpName) where
    unheld_over : list_any (is_its op) (sendings u (F.connection u)) ≡ true → is_held_since s F (from_sent op (sendings u (F.connection u))) ≡ false → is_over_at s F op u (from_sent op (sendings u (F.connection u))) ≡ true
    unheld_over there k =
        let it = from_some op (sendings u (F.connection u)) there in
        ap (is_over_at s F op u) it.2 ∙ ap (λ b. not (if b then is_held_since s F (it.0 ∷ it.1) else of_operation F (is_open s) it.0)) kind ∙ ap not (sym (ap (is_held_since s F) it.2) ∙ k)

    pub bind_over : Over s F u (F.connection u) op → is_over_at s F op u (from_sent op (sendings u (F.connection u))) ≡ true
    bind_over (inl h) = unheld_over (from_there (λ x. OverSent s F x) op (sendings u (F.connection u)) h) (held_over (from_sent op (sendings u (F.connection u))) h)
    bind_over (inr (inl h)) = unheld_over h.sent (held_last (from_sent op (sendings u (F.connection u))) (subst (Unheld s F) (sym (last_from op (sendings u (F.connection u)) h.sent)) h.unheld))
    bind_over (inr (inr h)) = ap (is_over_at s F op u) (unsent_from u (F.connection u) op h.unsent) ∙ h.missed
