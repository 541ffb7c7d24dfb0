-- The Sent of a row that is live, and what it becomes with an entry more behind it.
use Rattle.std.proofs.Common.{◌≡◌, ℕ, Bool, true, false, ◌&&◌, ◌||◌, not, List, [], ◌∷◌, ◌++◌, refl, ap, ◌∙◌, sym}
use Rattle.std.specs.Prelude.{Option, Some, None, is_none, is_some, if◌then◌else◌, option_map}
use Rattle.std.specs.List.{list_any}
use Rattle.ldap_spec.specs.Bodies.{abandon}
use Rattle.ldap_spec.specs.Kinds.{kind_of}
use Rattle.lload_names.specs.declared.names.Entry.{Entry}
use Rattle.lload_names.specs.declared.names.OpKind.TheVariants.{Bind}
use Rattle.lload_spec.specs.Answers.{Final, Sending, answer_of, asks_who, closing_at, closing_by, final_answer, final_under, gives_id, is_abandoned_at, is_open, is_sent_under, of_operation, until_sent, who_id}
use Rattle.lload_spec.specs.CausedUp.{last_answer, last_of_who}
use Rattle.lload_spec.specs.Entries.{is_down, is_expired, is_own}
use Rattle.lload_spec.specs.Journal.{Family}
use Rattle.lload_spec.specs.Lists.{passes}
use Rattle.lload_spec.specs.Operations.{Operation, operation, is_final_for, is_of}
use Rattle.lload_spec.specs.Settings.{Settings}
use Rattle.lload_spec.proofs.Growth.{left, right, both}
use Rattle.lload_laws.specs.ConnectionGrowth.{later_sending}
use Rattle.lload_laws.proofs.ListLaws.{any_imply}
use Rattle.part_laws.proofs.ListLaws.{any_before, false_by, none_of_both, or_left, or_right}
use Rattle.part_spec.specs.ConnectionState.{UpRow}
use Rattle.connection_laws.proofs.Closings.{closing_stays, final_push}

-- whether an entry ends an operation at its connection, beside an answer
abbrev pub is_end : Operation → Sending → Entry → Bool
is_end o x e = is_expired o.name e || is_own (abandon x.id) e || is_down e

-- a row says what this Sent says, which is live: it wasn't answered for good, nor ended otherwise, and its identifier
-- wasn't given again
pub record Live (s : Settings) (F : Family) (r : UpRow) (x : Sending) : Type 0 where
  pub o : Operation
  pub found : operation F x.op ≡ Some o
  pub kind : kind_of o.request.rest ≡ Some r.kind
  pub asks : asks_who s o ≡ r.ask_who
  pub id : x.id ≡ r.id
  pub op : x.op ≡ r.op
  pub sent : x.at ≡ r.sent
  pub answered : last_answer o x.id x.at x.behind ≡ r.answered
  pub unanswered : final_answer o x ≡ None
  pub reigns : list_any (gives_id x.id) x.behind ≡ false
  pub going : list_any (is_end o x) x.behind ≡ false

-- the moment of the last answer, with an entry more
pub answer_push : (o : Operation) (id at : ℕ) (es : List Entry) (e : Entry) → final_under o.request id es ≡ None → list_any (gives_id id) es ≡ false → gives_id id e ≡ false → last_answer o id at (es ++ e ∷ []) ≡ (if is_none (answer_of o.request id e) then last_answer o id at es else e.at)
answer_push o id at [] e h k g = ap (λ b. if b then at else if is_none (answer_of o.request id e) then at else if passes (is_final_for o.request) (answer_of o.request id e) then e.at else e.at) g ∙ by (answer_of o.request id e)
  where
    same : (b : Bool) → (if b then e.at else e.at) ≡ e.at
    same true = refl
    same false = refl

    by : (a : Option (List ℕ)) → (if is_none a then at else if passes (is_final_for o.request) a then e.at else e.at) ≡ (if is_none a then at else e.at)
    by None = refl
    by (Some r) = same (is_final_for o.request r)
answer_push o id at (x ∷ es) e h k g = by (gives_id id x) (answer_of o.request id x) h k (λ n i j. answer_push o id n es e i j g)
  where
    final : Bool → Option (List ℕ) → List Entry → Option Final → Option Final
    final c a behind later = if c then None else if passes (is_final_for o.request) a then option_map (λ r. record { rest = r; behind = behind }) a else later

    after : Bool → Option (List ℕ) → List Entry → ℕ → ℕ → ℕ
    after c a behind here later = if c then at else if is_none a then here else if passes (is_final_for o.request) a then last_of_who x.at (who_id behind) behind else later

    by : (c : Bool) (a : Option (List ℕ)) → final c a es (final_under o.request id es) ≡ None → (c || list_any (gives_id id) es) ≡ false → ((n : ℕ) → final_under o.request id es ≡ None → list_any (gives_id id) es ≡ false → last_answer o id n (es ++ e ∷ []) ≡ (if is_none (answer_of o.request id e) then last_answer o id n es else e.at)) → after c a (es ++ e ∷ []) (last_answer o id at (es ++ e ∷ [])) (last_answer o id x.at (es ++ e ∷ [])) ≡ (if is_none (answer_of o.request id e) then after c a es (last_answer o id at es) (last_answer o id x.at es) else e.at)
    by true a i j more = absurd (let bad : true ≡ false = j in cc)
    by false None i j more = more at i j
    by false (Some r) i j more = one (is_final_for o.request r) i
      where
        one : (b : Bool) → (if b then Some (record { rest = r; behind = es }) else final_under o.request id es) ≡ None → (if b then last_of_who x.at (who_id (es ++ e ∷ [])) (es ++ e ∷ []) else last_answer o id x.at (es ++ e ∷ [])) ≡ (if is_none (answer_of o.request id e) then (if b then last_of_who x.at (who_id es) es else last_answer o id x.at es) else e.at)
        one true q = absurd (let bad : Some (record { rest = r; behind = es }) ≡ None = q in cc)
        one false q = more x.at q j

none_push : (t : Entry → Bool) (es : List Entry) (e : Entry) → list_any t es ≡ false → t e ≡ false → list_any t (es ++ e ∷ []) ≡ false
none_push t es e h k = none_of_both t es (e ∷ []) h (ap (λ b. b || false) k)

-- none of a test that is narrower
pub none_imply : (t q : Entry → Bool) (es : List Entry) → ((y : Entry) → t y ≡ true → q y ≡ true) → list_any q es ≡ false → list_any t es ≡ false
none_imply t q es f h = false_by (list_any t es) (λ k. sym h ∙ any_imply t q es f k)

-- what stands before the next Sent with an identifier stands behind
pub until_any : (t : Entry → Bool) (id : ℕ) (es : List Entry) → list_any t (until_sent id es) ≡ true → list_any t es ≡ true
until_any t id [] k = k
until_any t id (y ∷ es) k = by (is_sent_under id y) k (until_any t id es)
  where
    by : (c : Bool) → list_any t (elim c [ true ↦ [] | false ↦ y ∷ until_sent id es ]) ≡ true → (list_any t (until_sent id es) ≡ true → list_any t es ≡ true) → (t y || list_any t es) ≡ true
    by true j more = absurd (let bad : false ≡ true = j in cc)
    by false j more = split (t y) j
      where
        split : (c : Bool) → (c || list_any t (until_sent id es)) ≡ true → (c || list_any t es) ≡ true
        split true i = refl
        split false i = more i

module _ (s : Settings) (F : Family) (r : UpRow) (x : Sending) (h : Live s F r x) where
  -- with an entry that ends nothing
  pub live_more : (e : Entry) (n : ℕ) → gives_id x.id e ≡ false → is_end h.o x e ≡ false → passes (is_final_for h.o.request) (answer_of h.o.request x.id e) ≡ false → (if is_none (answer_of h.o.request x.id e) then r.answered else e.at) ≡ n → Live s F (record r { answered = n }) (later_sending e x)
  live_more e n other quiet pending same =
      record {
        o = h.o;
        found = h.found;
        kind = h.kind;
        asks = h.asks;
        id = h.id;
        op = h.op;
        sent = h.sent;
        answered = answer_push h.o x.id x.at x.behind e h.unanswered h.reigns other ∙ ap (λ m. if is_none (answer_of h.o.request x.id e) then m else e.at) h.answered ∙ same;
        unanswered = final_push h.o.request x.id x.behind e h.unanswered h.reigns ∙ ap (λ b. if b then None else final_here (answer_of h.o.request x.id e) (passes (is_final_for h.o.request) (answer_of h.o.request x.id e))) other ∙ ap (final_here (answer_of h.o.request x.id e)) pending;
        reigns = none_push (gives_id x.id) x.behind e h.reigns other;
        going = none_push (is_end h.o x) x.behind e h.going quiet;
      }
    where
      final_here : Option (List ℕ) → Bool → Option Final
      final_here a b = if b then option_map (λ q. record { rest = q; behind = [] }) a else None

  -- with one that isn't an answer to it either
  pub live_idle : (e : Entry) → gives_id x.id e ≡ false → is_end h.o x e ≡ false → answer_of h.o.request x.id e ≡ None → Live s F r (later_sending e x)
  live_idle e other quiet none = live_more e r.answered other quiet (ap (passes (is_final_for h.o.request)) none) (ap (λ a. if is_none a then r.answered else e.at) none)

  pub unclosed : closing_at s h.o x ≡ None
  unclosed = ap (λ q. elim q [ None ↦ None | Some f ↦ closing_by s h.o f ]) h.unanswered

  pub live_open : is_open s h.o x ≡ true
  live_open = both (is_none (closing_at s h.o x) && not (list_any (λ e. is_expired h.o.name e || is_down e) x.behind)) _ (both (is_none (closing_at s h.o x)) _ (ap is_none unclosed) (ap not (none_imply (λ e. is_expired h.o.name e || is_down e) (is_end h.o x) x.behind wide h.going))) (ap not (unnamed (not (is_of Bind h.o)) (false_by (list_any (is_own (abandon x.id)) (until_sent x.id x.behind)) (λ k. sym (none_imply (is_own (abandon x.id)) (is_end h.o x) x.behind own h.going) ∙ until_any (is_own (abandon x.id)) x.id x.behind k))))
    where
      wide : (y : Entry) → (is_expired h.o.name y || is_down y) ≡ true → is_end h.o x y ≡ true
      wide y k = by (is_expired h.o.name y) (is_own (abandon x.id) y) (is_down y) k
        where
          by : (a b c : Bool) → (a || c) ≡ true → (a || b || c) ≡ true
          by true b c j = refl
          by false b c j = or_right b c j

      own : (y : Entry) → is_own (abandon x.id) y ≡ true → is_end h.o x y ≡ true
      own y k = or_left (is_expired h.o.name y || is_own (abandon x.id) y) _ (or_right (is_expired h.o.name y) _ k)

      unnamed : (a : Bool) {b : Bool} → b ≡ false → (a && b) ≡ false
      unnamed true k = k
      unnamed false k = refl

  pub open_here : of_operation F (is_open s) x ≡ true
  open_here = ap (passes (λ o. is_open s o x)) h.found ∙ live_open

-- A Sent that is open with an entry more was open before it.
until_more : (t : Entry → Bool) (id : ℕ) (es : List Entry) (e : Entry) → list_any t (until_sent id es) ≡ true → list_any t (until_sent id (es ++ e ∷ [])) ≡ true
until_more t id [] e h = absurd (let bad : false ≡ true = h in cc)
until_more t id (y ∷ es) e h = by (is_sent_under id y) h (until_more t id es e)
  where
    by : (c : Bool) → list_any t (elim c [ true ↦ [] | false ↦ y ∷ until_sent id es ]) ≡ true → (list_any t (until_sent id es) ≡ true → list_any t (until_sent id (es ++ e ∷ [])) ≡ true) → list_any t (elim c [ true ↦ [] | false ↦ y ∷ until_sent id (es ++ e ∷ []) ]) ≡ true
    by true k more = absurd (let bad : false ≡ true = k in cc)
    by false k more = split (t y) k
      where
        split : (b : Bool) → (b || list_any t (until_sent id es)) ≡ true → (b || list_any t (until_sent id (es ++ e ∷ []))) ≡ true
        split true i = refl
        split false i = more i

pub opened_before : (s : Settings) (F : Family) (e : Entry) (x : Sending) → of_operation F (is_open s) (later_sending e x) ≡ true → of_operation F (is_open s) x ≡ true
opened_before s F e x h = by (operation F x.op) h
  where
    none_before : (a b : Option (List ℕ)) → (is_some a ≡ true → is_some b ≡ true) → is_none b ≡ true → is_none a ≡ true
    none_before None b f k = refl
    none_before (Some r) None f k = absurd (let bad : false ≡ true = f refl in cc)
    none_before (Some r) (Some q) f k = k

    fewer : (a b : Bool) → (a ≡ true → b ≡ true) → not b ≡ true → not a ≡ true
    fewer false b f k = refl
    fewer true b f k = absurd (let bad : false ≡ true = sym (ap not (f refl)) ∙ k in cc)

    opened : (o : Operation) → is_open s o (later_sending e x) ≡ true → is_open s o x ≡ true
    opened o k =
        let first : (is_none (closing_at s o (later_sending e x)) && not (list_any (λ y. is_expired o.name y || is_down y) (x.behind ++ e ∷ []))) ≡ true = left (is_none (closing_at s o (later_sending e x)) && not (list_any (λ y. is_expired o.name y || is_down y) (x.behind ++ e ∷ []))) _ k in
        both (is_none (closing_at s o x) && not (list_any (λ y. is_expired o.name y || is_down y) x.behind)) _
        (both (is_none (closing_at s o x)) _ (none_before (closing_at s o x) (closing_at s o (later_sending e x)) (closing_stays s o x e) (left (is_none (closing_at s o (later_sending e x))) _ first))
        (fewer (list_any (λ y. is_expired o.name y || is_down y) x.behind) (list_any (λ y. is_expired o.name y || is_down y) (x.behind ++ e ∷ [])) (any_before (λ y. is_expired o.name y || is_down y) x.behind (e ∷ [])) (right (is_none (closing_at s o (later_sending e x))) _ first)))
        (fewer (is_abandoned_at o x) (is_abandoned_at o (later_sending e x)) (named o) (right (is_none (closing_at s o (later_sending e x)) && not (list_any (λ y. is_expired o.name y || is_down y) (x.behind ++ e ∷ []))) _ k))
      where
        named : (o : Operation) → is_abandoned_at o x ≡ true → is_abandoned_at o (later_sending e x) ≡ true
        named o j = both (not (is_of Bind o)) _ (left (not (is_of Bind o)) _ j) (until_more (is_own (abandon x.id)) x.id x.behind e (right (not (is_of Bind o)) _ j))

    by : (q : Option Operation) → passes (λ o. is_open s o (later_sending e x)) q ≡ true → passes (λ o. is_open s o x) q ≡ true
    by None k = k
    by (Some o) k = opened o k
