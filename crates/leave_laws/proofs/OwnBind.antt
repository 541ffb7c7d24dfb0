-- On a bind connection each own message is a Who Am I where it is due: behind a success that is kept back.
use Rattle.std.proofs.Common.{◌≡◌, ◌⊎◌, inl, inr, ℕ, Bool, true, false, ◌==◌, ◌&&◌, ◌||◌, not, List, [], ◌∷◌, ◌++◌, refl, ap, ◌∙◌, sym, append_assoc}
use Rattle.std.specs.Prelude.{Option, Some, None, flat_map, is_none, is_some}
use Rattle.std.specs.List.{list_any, list_all}
use Rattle.std.proofs.lemmas.List.Folds.{list_any-append}
use Rattle.ldap_spec.specs.Bodies.{abandon}
use Rattle.ldap_spec.specs.Kinds.{fits, is_final, same_kind, tag_of}
use Rattle.ldap_spec.specs.Messages.{Message}
use Rattle.ldap_spec.specs.Responses.{has_code, result_code}
use Rattle.lload_names.specs.declared.names.Entry.{Entry}
use Rattle.lload_names.specs.declared.names.OpKind.TheVariants.{Bind}
use Rattle.lload_spec.specs.Answers.{Sending, asks_who, closing_at, final_answer, is_abandoned_at, is_open, is_reigning, of_operation, sendings, until_sent}
use Rattle.lload_spec.specs.Entries.{is_down, is_expired, is_own}
use Rattle.lload_spec.specs.Journal.{Family}
use Rattle.lload_spec.specs.Lists.{passes}
use Rattle.lload_spec.specs.OneEach.{is_who_due, last_is_who_due, succeeds}
use Rattle.lload_spec.specs.Operations.{Operation, is_final_for, operation}
use Rattle.lload_spec.specs.Settings.{Settings}
use Rattle.lload_spec.proofs.Growth.{left, right, both}
use Rattle.part_laws.proofs.ListLaws.{any_behind, eqb_sym, false_by, not_true, or_elim, or_left, or_right}
use Rattle.part_spec.specs.ConnectionState.{ConnectionState, Kept, UpRow, behind_message, is_bind_row, is_under, is_under_who, keeps_back}
use Rattle.part_spec.specs.Share.{is_who_awaited, succeeds as succeeds_by_state}
use Rattle.connection_laws.proofs.Closings.{is_closed, none_behind}
use Rattle.bind_laws.proofs.Lone.{is_lone}
use Rattle.bind_laws.proofs.Meets.{bind_kind}
use Rattle.bind_laws.proofs.Sents.{IsAnswered, IsLive}
use Rattle.bind_laws.proofs.Tells.{RowsAre, SentsAre, open_now}

-- the last of a list, where one more stands behind
pub last_who_push : (s : Settings) (F : Family) (u : ℕ) (before es : List Entry) (e : Entry) → last_is_who_due s F u before (es ++ e ∷ []) ≡ is_who_due s F u (before ++ es) e
last_who_push s F u before [] e = ap (λ l. is_who_due s F u l e) (sym (append_nil before))
  where
    append_nil : (xs : List Entry) → xs ++ [] ≡ xs
    append_nil [] = refl
    append_nil (x ∷ xs) = ap (λ l. x ∷ l) (append_nil xs)
last_who_push s F u before (x ∷ []) e = refl
last_who_push s F u before (x ∷ y ∷ es) e = last_who_push s F u (before ++ x ∷ []) (y ∷ es) e ∙ ap (λ l. is_who_due s F u l e) (append_assoc before (x ∷ []) (y ∷ es))

-- A row behind a message awaits a Who Am I: it did before, or the message is its success that is kept back.
pub awaited_behind : (at : ℕ) (m : Message) (r : UpRow) → list_any is_who_awaited (behind_message at m r) ≡ true → (is_who_awaited r || succeeds_by_state m r) ≡ true
awaited_behind at m r h = by (is_under m.id r) (fits r.kind m.rest) (is_final r.kind m.rest) (is_bind_row r) (keeps_back r m.rest) (is_none (result_code m.rest)) (is_under_who m.id r) (tag_of m.rest == 0x78) h
  where
    rows : Bool → Bool → Bool → Bool → Bool → Bool → Bool → Bool → List UpRow
    rows under f g b back none who ext =
        elim under [
          | true ↦ elim f [ false ↦ r ∷ [] | true ↦ elim g [ true ↦ elim b [ false ↦ [] | true ↦ elim back [ true ↦ record r { answered = at; kept = Some (record { rest = m.rest; who = None }) } ∷ [] | false ↦ elim none [ true ↦ record r { answered = at } ∷ [] | false ↦ [] ] ] ] | false ↦ record r { answered = at } ∷ [] ] ]
          | false ↦ elim who [ true ↦ elim ext [ true ↦ [] | false ↦ record r { answered = at } ∷ [] ] | false ↦ r ∷ [] ]
        ]

    mine : (d : Bool) → (is_who_awaited r || false) ≡ true → (is_who_awaited r || d) ≡ true
    mine d k = or_left (is_who_awaited r) d (or_elim (is_who_awaited r) false (λ j. j) (λ j. absurd (let bad : false ≡ true = j in cc)) k)

    by : (under f g b back none who ext : Bool) → list_any is_who_awaited (rows under f g b back none who ext) ≡ true → (is_who_awaited r || (under && (g && (b && back)))) ≡ true
    by false f g b back none true true k = absurd (let bad : false ≡ true = k in cc)
    by false f g b back none true false k = mine false k
    by false f g b back none false ext k = mine false k
    by true false g b back none who ext k = mine (g && (b && back)) k
    by true true false b back none who ext k = mine false k
    by true true true false back none who ext k = absurd (let bad : false ≡ true = k in cc)
    by true true true true true none who ext k = or_right (is_who_awaited r) true refl
    by true true true true false true who ext k = mine false k
    by true true true true false false who ext k = absurd (let bad : false ≡ true = k in cc)

pub awaited_got : (at : ℕ) (m : Message) (rows : List UpRow) → list_any is_who_awaited (flat_map (behind_message at m) rows) ≡ true → (list_any is_who_awaited rows || list_any (succeeds_by_state m) rows) ≡ true
awaited_got at m [] h = h
awaited_got at m (r ∷ rows) h = or_elim (list_any is_who_awaited (behind_message at m r)) (list_any is_who_awaited (flat_map (behind_message at m) rows)) (λ k. here (or_elim (is_who_awaited r) (succeeds_by_state m r) inl inr (awaited_behind at m r k))) (λ k. more (or_elim (list_any is_who_awaited rows) (list_any (succeeds_by_state m) rows) inl inr (awaited_got at m rows k))) (sym (list_any-append is_who_awaited (behind_message at m r) (flat_map (behind_message at m) rows)) ∙ h)
  where
    here : (is_who_awaited r ≡ true) ⊎ (succeeds_by_state m r ≡ true) → (list_any is_who_awaited (r ∷ rows) || list_any (succeeds_by_state m) (r ∷ rows)) ≡ true
    here (inl k) = or_left (list_any is_who_awaited (r ∷ rows)) _ (or_left (is_who_awaited r) _ k)
    here (inr k) = or_right (list_any is_who_awaited (r ∷ rows)) _ (or_left (succeeds_by_state m r) _ k)

    more : (list_any is_who_awaited rows ≡ true) ⊎ (list_any (succeeds_by_state m) rows ≡ true) → (list_any is_who_awaited (r ∷ rows) || list_any (succeeds_by_state m) (r ∷ rows)) ≡ true
    more (inl k) = or_left (list_any is_who_awaited (r ∷ rows)) _ (or_right (is_who_awaited r) _ k)
    more (inr k) = or_right (list_any is_who_awaited (r ∷ rows)) _ (or_right (succeeds_by_state m r) _ k)

-- A success is kept back by the list exactly where it is by the state.
module _ (s : Settings) (F : Family) (u : ℕ) (place : List Entry) (p : ConnectionState) (lone : is_lone p.rows ≡ true) (alive : list_any is_down place ≡ false) (known : SentsAre s F u place p.ids.next p.rows []) (m : Message) where
  by_list : (r : UpRow) (x : Sending) → IsLive s F p.ids.next r x [] → is_bind_row r ≡ true → list_any is_down x.behind ≡ false → succeeds_by_state m r ≡ true → of_operation F (succeeds s m) x ≡ true
  by_list r x l bind down h = ap (passes (λ o. succeeds s m o x)) l.found ∙ by r.kept l.answer (right (r.id == m.id) _ (left (is_under m.id r) _ h))
    where
      ask : r.ask_who ≡ true
      ask = left r.ask_who _ (right (is_bind_row r) _ (right (is_final r.kind m.rest) _ (right (is_under m.id r) _ h)))

      code : has_code 0 m.rest ≡ true
      code = right r.ask_who _ (right (is_bind_row r) _ (right (is_final r.kind m.rest) _ (right (is_under m.id r) _ h)))

      same : (m.id == x.id) ≡ true
      same = ap (λ i. m.id == i) l.id ∙ eqb_sym m.id r.id ∙ left (r.id == m.id) _ (left (is_under m.id r) _ h)

      final : is_final_for l.o.request m.rest ≡ true
      final = ap (passes (λ k. is_final k m.rest)) l.kind ∙ ap (λ k. is_final k m.rest) (sym (bind_kind r.kind bind)) ∙ left (is_final r.kind m.rest) _ (right (is_under m.id r) _ h)

      opened : is_open s l.o x ≡ true
      opened =
          both (is_none (closing_at s l.o x) && not (list_any (λ e. is_expired l.o.name e || is_down e) x.behind)) _
          (both (is_none (closing_at s l.o x)) _ (ap is_none (open_now s F p.ids.next r x [] l)) (ap not (none_either x.behind l.going down)))
          (ap not (ap (λ b. not b && list_any (is_own (abandon x.id)) (until_sent x.id x.behind)) (ap (passes (same_kind Bind)) l.kind)))
        where
          none_either : (es : List Entry) → list_any (λ e. is_expired l.o.name e || is_own (abandon x.id) e) es ≡ false → list_any is_down es ≡ false → list_any (λ e. is_expired l.o.name e || is_down e) es ≡ false
          none_either [] a b = refl
          none_either (e ∷ es) a b = one (is_expired l.o.name e) (is_own (abandon x.id) e) (is_down e) a b (none_either es)
            where
              one : (i j k : Bool) → ((i || j) || list_any (λ y. is_expired l.o.name y || is_own (abandon x.id) y) es) ≡ false → (k || list_any is_down es) ≡ false → (list_any (λ y. is_expired l.o.name y || is_own (abandon x.id) y) es ≡ false → list_any is_down es ≡ false → list_any (λ y. is_expired l.o.name y || is_down y) es ≡ false) → ((i || k) || list_any (λ y. is_expired l.o.name y || is_down y) es) ≡ false
              one true j k a b f = absurd (let bad : true ≡ false = a in cc)
              one false true k a b f = absurd (let bad : true ≡ false = a in cc)
              one false false true a b f = absurd (let bad : true ≡ false = b in cc)
              one false false false a b f = f a b

      by : (k : Option Kept) → IsAnswered s l.o x k [] → not (is_some k) ≡ true → succeeds s m l.o x ≡ true
      by (Some k) a i = absurd (let bad : false ≡ true = i in cc)
      by None a i =
          both (asks_who s l.o && is_reigning x && is_open s l.o x && is_none (final_answer l.o x)) _
          (both (asks_who s l.o && is_reigning x && is_open s l.o x) _ (both (asks_who s l.o && is_reigning x) _ (both (asks_who s l.o) _ (l.asks ∙ ask) (ap not l.reigns)) opened) (ap is_none a))
          (both (m.id == x.id && is_final_for l.o.request m.rest) _ (both (m.id == x.id) _ same final) code)

  by_state : (r : UpRow) (x : Sending) → IsLive s F p.ids.next r x [] → is_bind_row r ≡ true → of_operation F (succeeds s m) x ≡ true → succeeds_by_state m r ≡ true
  by_state r x l bind h = by r.kept l.answer (sym (ap (passes (λ o. succeeds s m o x)) l.found) ∙ h)
    where
      by : (k : Option Kept) → IsAnswered s l.o x k [] → succeeds s m l.o x ≡ true → succeeds_by_state m (record r { kept = k }) ≡ true
      by (Some k) a i = absurd (let bad : false ≡ true = sym (ap is_none a.final) ∙ right (asks_who s l.o && is_reigning x && is_open s l.o x) _ (left (asks_who s l.o && is_reigning x && is_open s l.o x && is_none (final_answer l.o x)) _ i) in cc)
      by None a i =
          let front : (asks_who s l.o && is_reigning x && is_open s l.o x && is_none (final_answer l.o x)) ≡ true = left (asks_who s l.o && is_reigning x && is_open s l.o x && is_none (final_answer l.o x)) _ i in
          let tests : (m.id == x.id && is_final_for l.o.request m.rest && has_code 0 m.rest) ≡ true = right (asks_who s l.o && is_reigning x && is_open s l.o x && is_none (final_answer l.o x)) _ i in
          let asks : asks_who s l.o ≡ true = left (asks_who s l.o) _ (left (asks_who s l.o && is_reigning x) _ (left (asks_who s l.o && is_reigning x && is_open s l.o x) _ front)) in
          let ids : (m.id == x.id && is_final_for l.o.request m.rest) ≡ true = left (m.id == x.id && is_final_for l.o.request m.rest) _ tests in
          both ((r.id == m.id) && true) _ (both (r.id == m.id) true (eqb_sym r.id m.id ∙ ap (λ n. m.id == n) (sym l.id) ∙ left (m.id == x.id) _ ids) refl)
          (both (is_final r.kind m.rest) _ (ap (λ k. is_final k m.rest) (bind_kind r.kind bind) ∙ sym (ap (passes (λ k. is_final k m.rest)) l.kind) ∙ right (m.id == x.id) _ ids) (both (is_bind_row r) _ bind (both r.ask_who _ (sym l.asks ∙ asks) (right (m.id == x.id && is_final_for l.o.request m.rest) _ tests))))

  -- what is settled doesn't succeed
  none_closed : (xs : List Sending) → list_all (is_closed s F) xs ≡ true → list_any (of_operation F (succeeds s m)) xs ≡ false
  none_closed [] h = refl
  none_closed (x ∷ xs) h = ap (λ b. b || list_any (of_operation F (succeeds s m)) xs) (false_by (of_operation F (succeeds s m) x) (λ k. by (operation F x.op) (left (is_closed s F x) _ h) k)) ∙ none_closed xs (right (is_closed s F x) _ h)
    where
      shut : (c : Option (List ℕ)) (a b d : Bool) → is_some c ≡ true → (a && (is_none c && b && d)) ≡ true → false ≡ true
      shut None a b d i j = i
      shut (Some c) true b d i j = j
      shut (Some c) false b d i j = j

      by : (q : Option Operation) → passes (λ o. is_some (closing_at s o x)) q ≡ true → passes (λ o. succeeds s m o x) q ≡ true → false ≡ true
      by None i j = i
      by (Some o) i j = shut (closing_at s o x) (asks_who s o && is_reigning x) (not (list_any (λ e. is_expired o.name e || is_down e) x.behind)) (not (is_abandoned_at o x)) i (left (asks_who s o && is_reigning x && is_open s o x) _ (left (asks_who s o && is_reigning x && is_open s o x && is_none (final_answer o x)) _ j))

  pub due_by_list : list_any (of_operation F (succeeds s m)) (sendings u place) ≡ true → list_any (succeeds_by_state m) p.rows ≡ true
  due_by_list h = by p.rows known.live lone known.are (or_elim (list_any (of_operation F (succeeds s m)) known.done) (list_any (of_operation F (succeeds s m)) known.live) (λ k. absurd (let bad : false ≡ true = sym (none_closed known.done known.closed) ∙ k in cc)) (λ k. k) (sym (list_any-append (of_operation F (succeeds s m)) known.done known.live) ∙ ap (list_any (of_operation F (succeeds s m))) (sym known.split) ∙ h))
    where
      by : (rows : List UpRow) (live : List Sending) → is_lone rows ≡ true → RowsAre s F p.ids.next rows live [] → list_any (of_operation F (succeeds s m)) live ≡ true → list_any (succeeds_by_state m) rows ≡ true
      by [] [] b a k = k
      by [] (x ∷ live) b a k = absurd a
      by (r ∷ []) [] b a k = absurd a
      by (r ∷ []) (x ∷ []) b a k = or_left (succeeds_by_state m r) false (by_state r x a (left (is_bind_row r) _ b) (or_elim (of_operation F (succeeds s m) x) false (λ j. j) (λ j. absurd (let bad : false ≡ true = j in cc)) k))
      by (r ∷ []) (x ∷ y ∷ live) b a k = absurd a
      by (r ∷ q ∷ rows) live b a k = absurd a

  pub due_by_state : list_any (succeeds_by_state m) p.rows ≡ true → list_any (of_operation F (succeeds s m)) (sendings u place) ≡ true
  due_by_state h = ap (list_any (of_operation F (succeeds s m))) known.split ∙ any_behind (of_operation F (succeeds s m)) known.done known.live (by p.rows known.live lone known.are (sym (ap (list_all (λ x. not (list_any is_down x.behind))) known.split) ∙ none_behind u is_down [] place alive) h)
    where
      by : (rows : List UpRow) (live : List Sending) → is_lone rows ≡ true → RowsAre s F p.ids.next rows live [] → list_all (λ x. not (list_any is_down x.behind)) (known.done ++ live) ≡ true → list_any (succeeds_by_state m) rows ≡ true → list_any (of_operation F (succeeds s m)) live ≡ true
      by [] live b a d k = absurd (let bad : false ≡ true = k in cc)
      by (r ∷ []) [] b a d k = absurd a
      by (r ∷ []) (x ∷ []) b a d k = or_left (of_operation F (succeeds s m) x) false (by_list r x a (left (is_bind_row r) _ b) (not_true (list_any is_down x.behind) (last_so known.done x d)) (or_elim (succeeds_by_state m r) false (λ j. j) (λ j. absurd (let bad : false ≡ true = j in cc)) k))
        where
          last_so : (xs : List Sending) (y : Sending) → list_all (λ z. not (list_any is_down z.behind)) (xs ++ y ∷ []) ≡ true → not (list_any is_down y.behind) ≡ true
          last_so [] y j = left (not (list_any is_down y.behind)) _ j
          last_so (z ∷ xs) y j = last_so xs y (right (not (list_any is_down z.behind)) _ j)
      by (r ∷ []) (x ∷ y ∷ live) b a d k = absurd a
      by (r ∷ q ∷ rows) live b a d k = absurd a
