-- The rows and Sents of a regular connection behind an entry of each kind.
use Rattle.std.proofs.Common.{◌≡◌, ◌⊎◌, inl, inr, ℕ, Bool, true, false, ◌==◌, ◌&&◌, ◌||◌, not, List, [], ◌∷◌, ◌++◌, refl, ap, ◌∙◌, sym}
use Rattle.std.specs.Prelude.{Option, Some, None, cond, is_none, is_some, if◌then◌else◌, option_map}
use Rattle.std.specs.List.{list_any}
use Rattle.std.specs.Str.{bytes_eq}
use Rattle.ldap_spec.specs.Bodies.{abandon, who_am_i}
use Rattle.ldap_spec.specs.Kinds.{fits, is_final, kind_of, same_kind}
use Rattle.ldap_spec.specs.Requests.{request}
use Rattle.ldap_spec.specs.Responses.{result_code}
use Rattle.lload_names.specs.declared.names.Entry.{Entry}
use Rattle.lload_names.specs.declared.names.OpKind.TheVariants.{Bind}
use Rattle.lload_names.specs.declared.names.OpName.{OpName}
use Rattle.lload_names.specs.declared.names.PartName.{PartName}
use Rattle.lload_names.specs.declared.names.What.{What}
use Rattle.lload_names.specs.declared.names.What.TheVariants as what
use Rattle.lload_spec.specs.Answers.{Sending, answer_of, closing_at, closing_by, gives_id, is_kept_back, asks_who, who_answer, is_open, is_abandoned_at, is_sent_under, until_sent}
use Rattle.lload_spec.specs.Entries.{given_id, sent_message, is_down, is_expired, is_own}
use Rattle.lload_spec.specs.Journal.{Family, same_op}
use Rattle.lload_spec.specs.Lists.{passes}
use Rattle.lload_spec.specs.Operations.{Operation, operation, operations, is_final_for, is_of, is_simple_bind}
use Rattle.lload_spec.specs.Settings.{Settings}
use Rattle.lload_spec.proofs.Growth.{both}
use Rattle.lload_laws.specs.ConnectionGrowth.{later_sending}
use Rattle.lload_laws.proofs.ListLaws.{found_passes}
use Rattle.part_laws.proofs.ListLaws.{any_behind, eqb_sym, not_true, or_left, same_op_eq, same_op_sym, none_of_both}
use Rattle.part_spec.specs.ConnectionState.{UpRow, Kept, behind_message, behind_own, behind_who, is_abandoned_by, is_bind_row, is_under_who, keeps_back}
use Rattle.connection_laws.proofs.Closings.{final_push}
use Rattle.rows_laws.proofs.Live.{Live, live_idle, live_more}
use Rattle.rows_laws.proofs.Lives.{Moves, Stays, is_open_in}

-- a Sent that is settled isn't open
pub settled_shut : (s : Settings) (F : Family) (x : Sending) (o : Operation) → operation F x.op ≡ Some o → is_some (closing_at s o x) ≡ true → is_open_in s F x ≡ false
settled_shut s F x o e k = ap (passes (λ q. is_open s q x)) e ∙ by (closing_at s o x) (not (list_any (λ y. is_expired o.name y || is_down y) x.behind)) (not (is_abandoned_at o x)) k
  where
    by : (c : Option (List ℕ)) (a b : Bool) → is_some c ≡ true → (is_none c && a && b) ≡ false
    by None a b j = absurd (let bad : false ≡ true = j in cc)
    by (Some r) a b j = refl

-- one behind which it expired, or was abandoned
pub expired_shut : (s : Settings) (F : Family) (x : Sending) (o : Operation) → operation F x.op ≡ Some o → list_any (λ y. is_expired o.name y || is_down y) x.behind ≡ true → is_open_in s F x ≡ false
expired_shut s F x o e k = ap (passes (λ q. is_open s q x)) e ∙ ap (λ b. is_none (closing_at s o x) && not b && not (is_abandoned_at o x)) k ∙ by (is_none (closing_at s o x))
  where
    by : (a : Bool) → (a && false && not (is_abandoned_at o x)) ≡ false
    by true = refl
    by false = refl

abandoned_shut : (s : Settings) (F : Family) (x : Sending) (o : Operation) → operation F x.op ≡ Some o → is_abandoned_at o x ≡ true → is_open_in s F x ≡ false
abandoned_shut s F x o e k = ap (passes (λ q. is_open s q x)) e ∙ ap (λ b. is_none (closing_at s o x) && not (list_any (λ y. is_expired o.name y || is_down y) x.behind) && not b) k ∙ by (is_none (closing_at s o x) && not (list_any (λ y. is_expired o.name y || is_down y) x.behind))
  where
    by : (a : Bool) → (a && false) ≡ false
    by true = refl
    by false = refl

pub op_named : (F : Family) (op : OpName) (o : Operation) → operation F op ≡ Some o → op ≡ o.name
op_named F op o e = same_op_eq op o.name (found_passes (λ q. same_op op q.name) (operations op.client (F.client op.client)) o e)

-- no Sent with its identifier came since, so all that stands behind it counts
until_all : (id : ℕ) (es : List Entry) → list_any (gives_id id) es ≡ false → until_sent id es ≡ es
until_all id [] h = refl
until_all id (y ∷ es) h = by (is_sent_under id y) (sent_gives y.what) h (until_all id es)
  where
    sent_gives : (w : What) → passes (λ q. q.value.id == id) (sent_message w) ≡ true → passes (λ n. n == id) (given_id w) ≡ true
    sent_gives (what.Sent i op rest) k = k
    sent_gives _ k = absurd (let bad : false ≡ true = k in cc)

    by : (c : Bool) → (c ≡ true → gives_id id y ≡ true) → (gives_id id y || list_any (gives_id id) es) ≡ false → (list_any (gives_id id) es ≡ false → until_sent id es ≡ es) → (elim c [ true ↦ [] | false ↦ y ∷ until_sent id es ]) ≡ y ∷ es
    by true f k more = absurd (let bad : true ≡ false = sym (or_left (gives_id id y) (list_any (gives_id id) es) (f refl)) ∙ k in cc)
    by false f k more = ap (λ l. y ∷ l) (more (rest (gives_id id y) k))
      where
        rest : (b : Bool) {c : Bool} → (b || c) ≡ false → c ≡ false
        rest true i = absurd (let bad : true ≡ false = i in cc)
        rest false i = i

module _ (s : Settings) (F : Family) (r : UpRow) (x : Sending) (h : Live s F r x) (plain : not (is_bind_row r) ≡ true) (bare : is_none r.kept ≡ true) (part : PartName) (at : ℕ) where
  abbrev entry : What → Entry
  entry w = record { part = part; at = at; what = w }

  of_none : (o : Option Kept) → is_none o ≡ true → o ≡ None
  of_none None k = refl
  of_none (Some k) j = absurd (let bad : false ≡ true = j in cc)

  no_bind : is_of Bind h.o ≡ false
  no_bind = ap (passes (same_kind Bind)) h.kind ∙ not_true (is_bind_row r) plain

  asks_none : asks_who s h.o ≡ false
  asks_none = ap (λ b. s.proxies_authorization && b && not (passes is_simple_bind (request h.o.request.rest))) no_bind ∙ by s.proxies_authorization (not (passes is_simple_bind (request h.o.request.rest)))
    where
      by : (a b : Bool) → (a && false && b) ≡ false
      by true b = refl
      by false b = refl

  -- A message.
  module _ (id : ℕ) (rest : List ℕ) where
    abbrev got : Entry
    got = entry (what.Got id rest)

    abbrev answer_by : Bool → Bool → Option (List ℕ)
    answer_by a b = if a && b then Some rest else None

    answer_is : answer_of h.o.request x.id got ≡ answer_by (r.id == id) (fits r.kind rest)
    answer_is = ap (λ c. answer_by c (passes (λ k. fits k rest) (kind_of h.o.request.rest))) (eqb_sym id x.id ∙ ap (λ i. i == id) h.id) ∙ ap (λ q. answer_by (r.id == id) (passes (λ k. fits k rest) q)) h.kind

    final_is : is_final_for h.o.request rest ≡ is_final r.kind rest
    final_is = ap (passes (λ k. is_final k rest)) h.kind

    -- the rows by the tests
    abbrev text : Bool → Bool → Bool → Bool → Bool → List UpRow
    text under f g bind who =
        elim under [
          | true ↦ elim f [ false ↦ r ∷ [] | true ↦ elim g [ true ↦ elim bind [ false ↦ [] | true ↦ elim (keeps_back r rest) [ true ↦ record r { answered = at; kept = Some (record { rest = rest; who = None }) } ∷ [] | false ↦ elim (is_none (result_code rest)) [ true ↦ record r { answered = at } ∷ [] | false ↦ [] ] ] ] | false ↦ record r { answered = at } ∷ [] ] ]
          | false ↦ elim who [ true ↦ behind_who at rest r | false ↦ r ∷ [] ]
        ]

    rows_are : behind_message at (record { id = id; rest = rest }) r ≡ text (r.id == id) (fits r.kind rest) (is_final r.kind rest) false false
    rows_are = ap (λ b. text b (fits r.kind rest) (is_final r.kind rest) (is_bind_row r) (is_under_who id r)) (under r.kept bare) ∙ ap (λ b. text (r.id == id) (fits r.kind rest) (is_final r.kind rest) b (is_under_who id r)) (not_true (is_bind_row r) plain) ∙ ap (λ o. text (r.id == id) (fits r.kind rest) (is_final r.kind rest) false (passes (λ w. w == id) (elim o [ None ↦ None | Some k ↦ k.who ]))) (of_none r.kept bare)
      where
        and_true : (b : Bool) → (b && true) ≡ b
        and_true true = refl
        and_true false = refl

        under : (o : Option Kept) → is_none o ≡ true → ((r.id == id) && not (is_some o)) ≡ (r.id == id)
        under None k = and_true (r.id == id)
        under (Some k) j = absurd (let bad : false ≡ true = j in cc)

    same : fits r.kind rest ≡ false → answer_by (r.id == id) (fits r.kind rest) ≡ None
    same f = ap (answer_by (r.id == id)) f ∙ by (r.id == id)
      where
        by : (c : Bool) → answer_by c false ≡ None
        by true = refl
        by false = refl

    stays : answer_by (r.id == id) (fits r.kind rest) ≡ None → behind_message at (record { id = id; rest = rest }) r ≡ r ∷ [] → Stays s F (behind_message at (record { id = id; rest = rest }) r) (later_sending got x)
    stays none is = record { row = r; is = is; live = live_idle s F r x h got refl refl (answer_is ∙ none) }

    -- it settles the operation
    closes : answer_of h.o.request x.id got ≡ Some rest → is_final_for h.o.request rest ≡ true → is_some (closing_at s h.o (later_sending got x)) ≡ true
    closes some final = ap (λ q. is_some (elim q [ None ↦ None | Some f ↦ closing_by s h.o f ])) (final_push h.o.request x.id x.behind got h.unanswered h.reigns ∙ ap (λ a. if passes (is_final_for h.o.request) a then option_map (λ q. record { rest = q; behind = [] }) a else None) some ∙ ap (λ b. if b then Some (record { rest = rest; behind = [] }) else None) final) ∙ ap (λ b. is_some (if b && is_none (result_code rest) then None else if is_kept_back (asks_who s h.o) rest then who_answer [] else Some rest)) no_bind ∙ ap (λ b. is_some (if is_kept_back b rest then who_answer [] else Some rest)) asks_none

    -- it settles the operation, or the row stays
    pub got_answers : ((behind_message at (record { id = id; rest = rest }) r ≡ []) × (is_some (closing_at s h.o (later_sending got x)) ≡ true)) ⊎ Stays s F (behind_message at (record { id = id; rest = rest }) r) (later_sending got x)
    got_answers = by (r.id == id) (fits r.kind rest) (is_final r.kind rest) refl refl refl
      where
        by : (a b c : Bool) → (r.id == id) ≡ a → fits r.kind rest ≡ b → is_final r.kind rest ≡ c → ((behind_message at (record { id = id; rest = rest }) r ≡ []) × (is_some (closing_at s h.o (later_sending got x)) ≡ true)) ⊎ Stays s F (behind_message at (record { id = id; rest = rest }) r) (later_sending got x)
        by false b c i j k = inr (stays (ap (λ q. answer_by q (fits r.kind rest)) i) (rows_are ∙ ap (λ q. text q (fits r.kind rest) (is_final r.kind rest) false false) i))
        by true false c i j k = inr (stays (same j) (rows_are ∙ ap (λ q. text q (fits r.kind rest) (is_final r.kind rest) false false) i ∙ ap (λ q. text true q (is_final r.kind rest) false false) j))
        by true true false i j k =
            let some : answer_of h.o.request x.id got ≡ Some rest = answer_is ∙ ap (λ q. answer_by q (fits r.kind rest)) i ∙ ap (answer_by true) j in
            inr (record { row = record r { answered = at }; is = rows_are ∙ ap (λ q. text q (fits r.kind rest) (is_final r.kind rest) false false) i ∙ ap (λ q. text true q (is_final r.kind rest) false false) j ∙ ap (λ q. text true true q false false) k; live = live_more s F r x h got at refl refl (ap (passes (is_final_for h.o.request)) some ∙ final_is ∙ k) (ap (λ a. if is_none a then r.answered else at) some) })
        by true true true i j k =
            let some : answer_of h.o.request x.id got ≡ Some rest = answer_is ∙ ap (λ q. answer_by q (fits r.kind rest)) i ∙ ap (answer_by true) j in
            inl (rows_are ∙ ap (λ q. text q (fits r.kind rest) (is_final r.kind rest) false false) i ∙ ap (λ q. text true q (is_final r.kind rest) false false) j ∙ ap (λ q. text true true q false false) k, closes some (final_is ∙ k))

    -- where it is under another identifier, the row stays
    pub got_other : (r.id == id) ≡ false → behind_message at (record { id = id; rest = rest }) r ≡ r ∷ []
    got_other i = rows_are ∙ ap (λ q. text q (fits r.kind rest) (is_final r.kind rest) false false) i

    pub got_moves : Moves s F (behind_message at (record { id = id; rest = rest }) r) (later_sending got x)
    got_moves = by got_answers
      where
        by : ((behind_message at (record { id = id; rest = rest }) r ≡ []) × (is_some (closing_at s h.o (later_sending got x)) ≡ true)) ⊎ Stays s F (behind_message at (record { id = id; rest = rest }) r) (later_sending got x) → Moves s F (behind_message at (record { id = id; rest = rest }) r) (later_sending got x)
        by (inl k) = inl (k.0, settled_shut s F (later_sending got x) h.o h.found k.1)
        by (inr k) = inr k

  -- An own message.
  module _ (id : ℕ) (rest : List ℕ) (other : (id == r.id) ≡ false) where
    abbrev own : Entry
    own = entry (what.Own id rest)

    gives_other : gives_id x.id own ≡ false
    gives_other = ap (λ i. id == i) h.id ∙ other

    abbrev unless : Bool → List UpRow
    unless c = elim c [ true ↦ [] | false ↦ r ∷ [] ]

    abbrev asking : Bool → List UpRow
    asking a = elim a [ true ↦ record r { kept = elim r.kept [ None ↦ None | Some k ↦ Some (record k { who = Some id }) ] } ∷ [] | false ↦ unless (is_abandoned_by rest r) ]

    own_rows : (c : Bool) → bytes_eq rest (abandon r.id) ≡ c → behind_own (record { id = id; rest = rest }) r ≡ unless c
    own_rows c e = who (bytes_eq rest who_am_i) r.kept bare ∙ ap (λ b. unless (b && bytes_eq rest (abandon r.id))) plain ∙ ap unless e
      where
        who : (b : Bool) (o : Option Kept) → is_none o ≡ true → asking (b && passes (λ k. is_none k.who) o) ≡ unless (is_abandoned_by rest r)
        who true None k = refl
        who false None k = refl
        who b (Some q) k = absurd (let bad : false ≡ true = k in cc)

    named : bytes_eq rest (abandon r.id) ≡ true → is_abandoned_at h.o (later_sending own x) ≡ true
    named k = both (not (is_of Bind h.o)) _ (ap not no_bind) (ap (list_any (is_own (abandon x.id))) (until_all x.id (x.behind ++ own ∷ []) (none_of_both (gives_id x.id) x.behind (own ∷ []) h.reigns (ap (λ b. b || false) gives_other))) ∙ any_behind (is_own (abandon x.id)) x.behind (own ∷ []) (or_left (bytes_eq rest (abandon x.id)) false (ap (λ i. bytes_eq rest (abandon i)) h.id ∙ k)))

    pub own_moves : Moves s F (behind_own (record { id = id; rest = rest }) r) (later_sending own x)
    own_moves = by (bytes_eq rest (abandon r.id)) refl
      where
        by : (c : Bool) → bytes_eq rest (abandon r.id) ≡ c → Moves s F (behind_own (record { id = id; rest = rest }) r) (later_sending own x)
        by true e = inl (own_rows true e, abandoned_shut s F (later_sending own x) h.o h.found (named e))
        by false e = inr (record { row = r; is = own_rows false e; live = live_idle s F r x h own gives_other (ap (λ b. b || false) (ap (λ i. bytes_eq rest (abandon i)) h.id ∙ e)) refl })

  -- Expired.
  pub expired_moves : (op : OpName) → Moves s F (cond (not (same_op op r.op)) (r ∷ []) []) (later_sending (entry (what.Expired op)) x)
  expired_moves op = by (same_op op r.op) refl
    where
      its : h.o.name ≡ r.op
      its = sym (op_named F x.op h.o h.found) ∙ h.op

      by : (c : Bool) → same_op op r.op ≡ c → Moves s F (cond (not c) (r ∷ []) []) (later_sending (entry (what.Expired op)) x)
      by true e = inl (refl, expired_shut s F (later_sending (entry (what.Expired op)) x) h.o h.found (any_behind (λ y. is_expired h.o.name y || is_down y) x.behind (entry (what.Expired op) ∷ []) (or_left (same_op h.o.name op || false) false (or_left (same_op h.o.name op) false (ap (λ n. same_op n op) its ∙ same_op_sym r.op op ∙ e)))))
      by false e = inr (record { row = r; is = refl; live = live_idle s F r x h (entry (what.Expired op)) refl (ap (λ b. b || false || false) (ap (λ n. same_op n op) its ∙ same_op_sym r.op op ∙ e)) refl })
