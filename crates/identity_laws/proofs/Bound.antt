-- What a client's state says of its last Bind: who the client is, whether its exchange goes on, and the Bind's row.
use Rattle.std.proofs.Common.{◌≡◌, ℕ, suc, Bool, true, false, ◌==◌, ◌&&◌, ◌||◌, not, List, [], ◌∷◌, ◌++◌, length, refl, ap, ◌∙◌, sym, subst}
use Rattle.std.specs.Prelude.{Option, Some, None, map, filter, option_map, unwrap_or, if◌then◌else◌}
use Rattle.std.specs.List.{list_any}
use Rattle.std.proofs.lemmas.List.Folds.{list_any-append}
use Rattle.ldap_spec.specs.Kinds.{same_kind}
use Rattle.ldap_spec.specs.Messages.{Message}
use Rattle.ldap_spec.specs.Requests.{request}
use Rattle.ldap_spec.specs.Responses.{has_code}
use Rattle.ldap_spec.specs.Tags.{success}
use Rattle.lload_names.specs.declared.names.Answer.{Answer}
use Rattle.lload_names.specs.declared.names.Answer.TheVariants.{Go, Busy, Unavailable}
use Rattle.lload_names.specs.declared.names.EndWhy.{EndWhy}
use Rattle.lload_names.specs.declared.names.Entry.{Entry}
use Rattle.lload_names.specs.declared.names.OpKind.TheVariants.{Bind}
use Rattle.lload_names.specs.declared.names.OpName.{OpName}
use Rattle.lload_names.specs.declared.names.PartName.{PartName}
use Rattle.lload_names.specs.declared.names.What.{What}
use Rattle.lload_names.specs.declared.names.What.TheVariants as what
use Rattle.lload_spec.specs.Answers.{closing}
use Rattle.lload_spec.specs.Entries.{makes_operation, operation_message, out_message}
use Rattle.lload_spec.specs.Fifo.{is_in_progress}
use Rattle.lload_spec.specs.Identity.{identity_by, identity_of, proxied, who_by}
use Rattle.lload_spec.specs.Journal.{Family}
use Rattle.lload_spec.specs.Lists.{passes}
use Rattle.lload_spec.specs.Operations.{Operation, operations, is_request_of, last_bind, got_final, is_final_for}
use Rattle.lload_spec.specs.Settings.{Settings}
use Rattle.lload_spec.proofs.Growth.{both}
use Rattle.lload_laws.specs.ClientGrowth.{later_operation, new_operation}
use Rattle.part_laws.proofs.ListLaws.{or_elim, or_left, or_right, eqb_same, false_by, same_number, not_both}
use Rattle.part_spec.specs.ClientState.{ClientState, ClientRow, client_behind, step_client, new_row, abandons, is_bind_row, row_named, with_choice, with_connection, forwarded}
use Rattle.part_spec.specs.Marked.{Marked, Taken}
use Rattle.client_laws.proofs.KindsKept.{carried_kind}
use Rattle.client_laws.proofs.Matches.{is_untaken}
use Rattle.client_laws.proofs.ClientGives.{in_state}
use Rattle.client_laws.proofs.ClientLives.{is_free_id}
use Rattle.client_laws.proofs.ClientOuts.{untaken_later}
use Rattle.client_answer_laws.proofs.Each.{Each, each_append, each_filter, each_imply, each_map}
use Rattle.client_answer_laws.proofs.Only.{none_added}
use Rattle.identity_laws.proofs.Finals.{bind_stays, bind_plain, bind_new}

-- a row that is a Bind's is of this one
abbrev pub IsBindOf : Operation → ClientRow → Type 0
IsBindOf b r = is_bind_row r ≡ true → (r.k ≡ b.name.k) × (r.request ≡ b.request)

pub record BindKnown (s : Settings) (F : Family) (p : ClientState) (b : Operation) : Type 0 where
  pub identity : p.identity ≡ identity_by s F b
  pub exchange : p.in_exchange ≡ is_in_progress b
  pub rows : Each (IsBindOf b) p.rows

abbrev pub BindSays : Settings → Family → ClientState → Option Operation → Type 0
BindSays s F p None = (p.identity ≡ []) × (p.in_exchange ≡ false) × (list_any is_bind_row p.rows ≡ false)
BindSays s F p (Some b) = BindKnown s F p b

-- while its row is there, no later operation took its identifier
abbrev pub IsUntaken : ClientState → Option Operation → Type 0
IsUntaken p None = Unit {0}
IsUntaken p (Some b) = list_any is_bind_row p.rows ≡ true → is_untaken b ≡ true

pub record Bound (s : Settings) (F : Family) (c : ℕ) (place : List Entry) (p : ClientState) : Type 0 where
  pub says : BindSays s F p (last_bind c place)
  pub untaken : IsUntaken p (last_bind c place)

-- The rows of one state are of another, as far as they are Binds'.
pub record RowsFrom (p q : ClientState) : Type 0 where
  pub each : (b : Operation) → Each (IsBindOf b) p.rows → Each (IsBindOf b) q.rows
  pub any : list_any is_bind_row q.rows ≡ true → list_any is_bind_row p.rows ≡ true

any_filtered : (t q : ClientRow → Bool) (rows : List ClientRow) → list_any t (filter q rows) ≡ true → list_any t rows ≡ true
any_filtered t q [] h = h
any_filtered t q (r ∷ rows) h = by (q r) h (any_filtered t q rows)
  where
    by : (b : Bool) → list_any t (if b then r ∷ filter q rows else filter q rows) ≡ true → (list_any t (filter q rows) ≡ true → list_any t rows ≡ true) → (t r || list_any t rows) ≡ true
    by true k ih = or_elim (t r) (list_any t (filter q rows)) (λ j. or_left (t r) _ j) (λ j. or_right (t r) _ (ih j)) k
    by false k ih = or_right (t r) _ (ih k)

pub rows_same : (p q : ClientState) → q.rows ≡ p.rows → RowsFrom p q
rows_same p q e = record { each = λ b h. subst (Each (IsBindOf b)) (sym e) h; any = λ h. sym (ap (list_any is_bind_row) e) ∙ h }

pub rows_filtered : (p q : ClientState) (t : ClientRow → Bool) → q.rows ≡ filter t p.rows → RowsFrom p q
rows_filtered p q t e = record { each = λ b h. subst (Each (IsBindOf b)) (sym e) (each_filter (IsBindOf b) (IsBindOf b) t p.rows (λ r k j. j) h); any = λ h. any_filtered is_bind_row t p.rows (sym (ap (list_any is_bind_row) e) ∙ h) }

-- a bound state with other moments
pub other_moment : (s : Settings) (F : Family) (p : ClientState) (o : Option Operation) (q : ClientState) → q.identity ≡ p.identity → q.in_exchange ≡ p.in_exchange → q.rows ≡ p.rows → BindSays s F p o → BindSays s F q o
other_moment s F p None q a b c h = (a ∙ h.0, b ∙ h.1, ap (list_any is_bind_row) c ∙ h.2)
other_moment s F p (Some x) q a b c h = record { identity = a ∙ h.identity; exchange = b ∙ h.exchange; rows = subst (Each (IsBindOf x)) (sym c) h.rows }

-- An entry that tells the last Bind no final answer, and leaves who the client is.
pub says_later : (s : Settings) (F : Family) (e : Entry) (p q : ClientState) (o : Option Operation) → q.identity ≡ p.identity → q.in_exchange ≡ p.in_exchange → RowsFrom p q → ((b : Operation) → o ≡ Some b → (t : List ℕ → Bool) → got_final t (later_operation e b) ≡ got_final t b) → BindSays s F p o → BindSays s F q (option_map (later_operation e) o)
says_later s F e p q None a x rows same h = (a ∙ h.0, x ∙ h.1, false_by (list_any is_bind_row q.rows) (λ k. sym h.2 ∙ rows.any k))
says_later s F e p q (Some b) a x rows same h =
    record {
      identity = a ∙ h.identity ∙ ap (λ g. if g then identity_of s (who_by (closing s F b)) (request b.request.rest) else []) (sym (same b refl (has_code success)));
      exchange = x ∙ h.exchange ∙ sym (same b refl (has_code 14));
      rows = each_imply (IsBindOf b) (IsBindOf (later_operation e b)) q.rows (λ r k j. k j) (rows.each b h.rows);
    }

pub untaken_stays : (e : Entry) (p q : ClientState) (o : Option Operation) → RowsFrom p q → operation_message e.what ≡ None → IsUntaken p o → IsUntaken q (option_map (later_operation e) o)
untaken_stays e p q None rows none h = tt
untaken_stays e p q (Some b) rows none h = λ k. untaken_later e b ∙ both (is_untaken b) _ (h (rows.any k)) (ap (λ m. not (passes (λ x. x.id == b.request.id) m)) none)

-- what an entry without an Out leaves of the final answers
pub got_same : (e : Entry) (b : Operation) → out_message e.what ≡ None → (t : List ℕ → Bool) → got_final t (later_operation e b) ≡ got_final t b
got_same e b none t = ap (list_any (λ r. got_by t b r)) (none_added e b none)
  where
    got_by : (List ℕ → Bool) → Operation → List ℕ → Bool
    got_by u o r = is_final_for o.request r && u r

-- The entries that aren't Outs.
module _ (s : Settings) (F : Family) (c : ℕ) (place : List Entry) (p : ClientState) (h : Bound s F c place p) (count : p.count ≡ length (operations c place)) (part : PartName) (at : ℕ) (mark : Option Taken) where
  abbrev entry : What → Entry
  entry w = record { part = part; at = at; what = w }

  abbrev marked : What → Marked
  marked w = record { entry = record { part = part; at = at; what = w }; mark = mark }

  -- one that leaves who the client is
  pub plain : (w : What) → operation_message w ≡ None → out_message w ≡ None → (client_behind s at mark p w).identity ≡ p.identity → (client_behind s at mark p w).in_exchange ≡ p.in_exchange → RowsFrom p (client_behind s at mark p w) → Bound s F c (place ++ record { part = part; at = at; what = w } ∷ []) (step_client s p (marked w))
  plain w none quiet a b rows =
      let grown : last_bind c (place ++ record { part = part; at = at; what = w } ∷ []) ≡ option_map (later_operation (record { part = part; at = at; what = w })) (last_bind c place) = bind_stays c place (record { part = part; at = at; what = w }) none in
      record {
        says = subst (BindSays s F (step_client s p (marked w))) (sym grown) (says_later s F (record { part = part; at = at; what = w }) p (step_client s p (marked w)) (last_bind c place) a b (record { each = rows.each; any = rows.any }) (λ o e. got_same (record { part = part; at = at; what = w }) o quiet) h.says);
        untaken = subst (IsUntaken (step_client s p (marked w))) (sym grown) (untaken_stays (record { part = part; at = at; what = w }) p (step_client s p (marked w)) (last_bind c place) (record { each = rows.each; any = rows.any }) none h.untaken);
      }

  -- a choice
  pub chosen_bound : (op : OpName) (a : Answer) → Bound s F c (place ++ record { part = part; at = at; what = what.Chosen op a } ∷ []) (step_client s p (marked (what.Chosen op a)))
  chosen_bound op a = plain (what.Chosen op a) refl refl (identity_kept a) (exchange_kept a) (rows_kept a)
    where
      identity_kept : (x : Answer) → (with_choice op x p).identity ≡ p.identity
      identity_kept (Go u b) = by (row_named p op)
        where
          state : Option ClientRow → ClientState
          state o = elim o [ None ↦ p | Some r ↦ with_connection u b p r ]

          by : (o : Option ClientRow) → (state o).identity ≡ p.identity
          by None = refl
          by (Some r) = refl
      identity_kept Busy = refl
      identity_kept Unavailable = refl

      exchange_kept : (x : Answer) → (with_choice op x p).in_exchange ≡ p.in_exchange
      exchange_kept (Go u b) = by (row_named p op)
        where
          state : Option ClientRow → ClientState
          state o = elim o [ None ↦ p | Some r ↦ with_connection u b p r ]

          by : (o : Option ClientRow) → (state o).in_exchange ≡ p.in_exchange
          by None = refl
          by (Some r) = refl
      exchange_kept Busy = refl
      exchange_kept Unavailable = refl

      one : (k u : ℕ) (b : Operation) (r : ClientRow) → IsBindOf b r → IsBindOf b (forwarded k u r)
      one k u b r f = by (r.k == k)
        where
          by : (d : Bool) → IsBindOf b (if d then record r { connection = Some (unwrap_or r.connection u) } else r)
          by true = f
          by false = f

      any_one : (k u : ℕ) (rows : List ClientRow) → list_any is_bind_row (map (forwarded k u) rows) ≡ list_any is_bind_row rows
      any_one k u [] = refl
      any_one k u (r ∷ rows) = ap (λ x. x || list_any is_bind_row (map (forwarded k u) rows)) (by (r.k == k)) ∙ ap (λ x. is_bind_row r || x) (any_one k u rows)
        where
          by : (d : Bool) → is_bind_row (if d then record r { connection = Some (unwrap_or r.connection u) } else r) ≡ is_bind_row r
          by true = refl
          by false = refl

      rows_kept : (x : Answer) → RowsFrom p (with_choice op x p)
      rows_kept (Go u b) = by (row_named p op)
        where
          by : (o : Option ClientRow) → RowsFrom p (elim o [ None ↦ p | Some r ↦ with_connection u b p r ])
          by None = rows_same p p refl
          by (Some r) = record { each = λ o k. each_map (IsBindOf o) (forwarded r.k u) p.rows (each_imply (IsBindOf o) (λ x. IsBindOf o (forwarded r.k u x)) p.rows (λ x j. one r.k u o x j) k); any = λ k. sym (any_one r.k u p.rows) ∙ k }
      rows_kept Busy = rows_same p p refl
      rows_kept Unavailable = rows_same p p refl

  -- the end
  pub gone_bound : (why : EndWhy) → Bound s F c (place ++ record { part = part; at = at; what = what.Gone why } ∷ []) (step_client s p (marked (what.Gone why)))
  gone_bound why = plain (what.Gone why) refl refl refl refl (record { each = λ b k. tt; any = λ k. absurd (let bad : false ≡ true = k in cc) })

  -- A message.
  module _ (m : Message) where
    abbrev came : Entry
    came = record { part = part; at = at; what = what.In m.id m.rest }

    abbrev put : Bool → Option Message
    put b = elim b [ true ↦ Some (record { id = m.id; rest = m.rest }) | false ↦ None ]

    not_bind : is_request_of Bind m ≡ false → is_bind_row (new_row s p m) ≡ false
    not_bind e = ap (passes (same_kind Bind)) (carried_kind s m p.identity) ∙ e

    -- one more row, of another request
    rows_pushed : is_request_of Bind m ≡ false → (q : ClientState) → q.rows ≡ p.rows ++ new_row s p m ∷ [] → RowsFrom p q
    rows_pushed e q z =
        record {
          each = λ b k. subst (Each (IsBindOf b)) (sym z) (each_append (IsBindOf b) p.rows (new_row s p m ∷ []) k ((λ j. not_both (is_bind_row (new_row s p m)) j (not_bind e)), tt));
          any = λ k. or_elim (list_any is_bind_row p.rows) (is_bind_row (new_row s p m) || false) (λ j. j) (λ j. absurd (let bad : false ≡ true = sym (ap (λ b. b || false) (not_bind e)) ∙ j in cc)) (sym (list_any-append is_bind_row p.rows (new_row s p m ∷ [])) ∙ sym (ap (list_any is_bind_row) z) ∙ k);
        }

    new_known : is_request_of Bind m ≡ true → (q : ClientState) → q.identity ≡ [] → q.in_exchange ≡ false → q.rows ≡ new_row s p m ∷ [] → BindKnown s F q (new_operation c place came (record { id = m.id; rest = m.rest }))
    new_known e q a b z =
        record {
          identity = a;
          exchange = b;
          rows = subst (Each (IsBindOf (new_operation c place came (record { id = m.id; rest = m.rest })))) (sym z) ((λ j. (ap suc count, ap (λ r. record { id = m.id; rest = r }) (ap (λ d. if d then m.rest else proxied s m.rest p.identity) e))), tt);
        }

    -- the identifier of the Bind whose row is there is another
    fresh : is_free_id p (what.In m.id m.rest) ≡ true → makes_operation m ≡ true → (b : Operation) → Each (IsBindOf b) p.rows → list_any is_bind_row p.rows ≡ true → (m.id == b.request.id) ≡ false
    fresh free makes b known there = false_by (m.id == b.request.id) (λ k. sym (ap not (among p.rows known there)) ∙ taken (same_number m.id b.request.id k))
      where
        among : (rows : List ClientRow) → Each (IsBindOf b) rows → list_any is_bind_row rows ≡ true → list_any (λ r. r.request.id == b.request.id) rows ≡ true
        among [] j k = k
        among (r ∷ rows) j k = or_elim (is_bind_row r) (list_any is_bind_row rows) (λ i. or_left (r.request.id == b.request.id) _ (ap (λ x. x.id == b.request.id) (j.0 i).1 ∙ eqb_same b.request.id)) (λ i. or_right (r.request.id == b.request.id) _ (among rows j.1 i)) k

        free_by_put : (elim (put (makes_operation m)) [ None ↦ true | Some x ↦ not (list_any (λ r. r.request.id == x.id) p.rows) ]) ≡ true
        free_by_put = free

        taken : m.id ≡ b.request.id → not (list_any (λ r. r.request.id == b.request.id) p.rows) ≡ true
        taken z = sym (ap (λ n. not (list_any (λ r. r.request.id == n) p.rows)) z) ∙ sym (ap (λ d. elim (put d) [ None ↦ true | Some x ↦ not (list_any (λ r. r.request.id == x.id) p.rows) ]) makes) ∙ free

    abbrev behind_in : Bool → Bool → ClientState
    behind_in b d = in_state s at p m b d

    says_behind : (b d : Bool) → makes_operation m ≡ b → is_request_of Bind m ≡ d → BindSays s F (in_state s at p m b d) (last_bind c (place ++ came ∷ []))
    says_behind false d e f =
        let none : operation_message came.what ≡ None = ap put e in
        subst (BindSays s F (in_state s at p m false d)) (sym (bind_stays c place came none)) (says_later s F came p (in_state s at p m false d) (last_bind c place) refl refl (rows_filtered p (in_state s at p m false d) (λ r. not (abandons m r)) refl) (λ o z. got_same came o refl) h.says)
    says_behind true true e f = subst (BindSays s F (in_state s at p m true true)) (sym (bind_new c place came (record { id = m.id; rest = m.rest }) (ap put e) f)) (new_known f (in_state s at p m true true) refl refl refl)
    says_behind true false e f =
        subst (BindSays s F (in_state s at p m true false)) (sym (bind_plain c place came (record { id = m.id; rest = m.rest }) (ap put e) f)) (says_later s F came p (in_state s at p m true false) (last_bind c place) refl refl (rows_pushed f (in_state s at p m true false) refl) (λ o z. got_same came o refl) h.says)

    untaken_behind : is_free_id p (what.In m.id m.rest) ≡ true → (b d : Bool) → makes_operation m ≡ b → is_request_of Bind m ≡ d → IsUntaken (in_state s at p m b d) (last_bind c (place ++ came ∷ []))
    untaken_behind free false d e f = subst (IsUntaken (in_state s at p m false d)) (sym (bind_stays c place came (ap put e))) (untaken_stays came p (in_state s at p m false d) (last_bind c place) (rows_filtered p (in_state s at p m false d) (λ r. not (abandons m r)) refl) (ap put e) h.untaken)
    untaken_behind free true true e f = subst (IsUntaken (in_state s at p m true true)) (sym (bind_new c place came (record { id = m.id; rest = m.rest }) (ap put e) f)) (λ k. refl)
    untaken_behind free true false e f = subst (IsUntaken (in_state s at p m true false)) (sym (bind_plain c place came (record { id = m.id; rest = m.rest }) (ap put e) f)) (by (last_bind c place) h.says h.untaken)
      where
        by : (o : Option Operation) → BindSays s F p o → IsUntaken p o → IsUntaken (in_state s at p m true false) (option_map (later_operation came) o)
        by None a u = tt
        by (Some b) a u = λ k.
            let there : list_any is_bind_row p.rows ≡ true = (rows_pushed f (in_state s at p m true false) refl).any k in
            untaken_later came b ∙ both (is_untaken b) _ (u there) (ap (λ x. not (passes (λ y. y.id == b.request.id) x)) (ap put e) ∙ ap not (fresh free e b a.rows there))

    -- who the client is behind a message
    pub in_says : BindSays s F (step_client s p (marked (what.In m.id m.rest))) (last_bind c (place ++ came ∷ []))
    in_says = other_moment s F (in_state s at p m (makes_operation m) (is_request_of Bind m)) (last_bind c (place ++ came ∷ [])) (step_client s p (marked (what.In m.id m.rest))) refl refl refl (says_behind (makes_operation m) (is_request_of Bind m) refl refl)

    pub in_bound : is_free_id p (what.In m.id m.rest) ≡ true → Bound s F c (place ++ came ∷ []) (step_client s p (marked (what.In m.id m.rest)))
    in_bound free = record { says = in_says; untaken = by (last_bind c (place ++ came ∷ [])) (untaken_behind free (makes_operation m) (is_request_of Bind m) refl refl) }
      where
        by : (o : Option Operation) → IsUntaken (in_state s at p m (makes_operation m) (is_request_of Bind m)) o → IsUntaken (step_client s p (marked (what.In m.id m.rest))) o
        by None u = tt
        by (Some b) u = u
