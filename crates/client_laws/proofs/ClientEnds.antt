-- No Out of an operation stands behind its end, in each list of a client's turns.
use Rattle.std.proofs.Common.{◌≡◌, ℕ, Bool, true, false, ◌==◌, ◌&&◌, ◌||◌, not, List, [], ◌∷◌, ◌++◌, refl, ap, arith, ◌∙◌, sym, subst, append_assoc}
use Rattle.std.specs.Prelude.{Option, Some, None, map, max, filter, find, cond, if◌then◌else◌}
use Rattle.std.specs.List.{list_any, list_all}
use Rattle.std.proofs.lemmas.List.{append-nil, map-append}
use Rattle.std.proofs.lemmas.List.Folds.{list_any-append}
use Rattle.ldap_spec.specs.Messages.{Message}
use Rattle.ldap_spec.specs.Bodies.{refusal, cancel_answer, protocol_error_notice}
use Rattle.ldap_spec.specs.Kinds.{kind_of, kind_of_tag, tag_of, same_kind, is_unbind, is_abandon}
use Rattle.ldap_spec.specs.Requests.{request}
use Rattle.lload_names.specs.declared.names.Entry.{Entry}
use Rattle.lload_names.specs.declared.names.OpName.{OpName}
use Rattle.lload_names.specs.declared.names.OpKind.{OpKind}
use Rattle.lload_names.specs.declared.names.OpKind.TheVariants.{Bind}
use Rattle.lload_names.specs.declared.names.Answer.{Answer}
use Rattle.lload_names.specs.declared.names.Answer.TheVariants.{Go, Busy, Unavailable}
use Rattle.lload_names.specs.declared.names.EndWhy.{EndWhy}
use Rattle.lload_names.specs.declared.names.EndWhy.TheVariants.{Left, Bad, TooBig, ZeroId, IdInUse}
use Rattle.lload_names.specs.declared.names.Refusal.{Refusal}
use Rattle.lload_names.specs.declared.names.Refusal.TheVariants.{C1, C3}
use Rattle.lload_names.specs.declared.names.PartName.TheVariants.{Client}
use Rattle.lload_names.specs.declared.names.Letter.{Letter}
use Rattle.lload_names.specs.declared.names.Letter.TheVariants.{Choice, Reply, Failed}
use Rattle.lload_names.specs.declared.names.What.{What}
use Rattle.lload_names.specs.declared.names.What.TheVariants as what
use Rattle.lload_spec.specs.Settings.{Settings}
use Rattle.lload_spec.specs.Entries.{out_message, makes_operation, is_link_reason}
use Rattle.lload_spec.specs.Operations.{is_request_of, is_final_for}
use Rattle.lload_spec.specs.Identity.{identity_of}
use Rattle.lload_spec.specs.FirstCheck.{Check, Ends, Unbinds, Abandons, Refuses, Answers, Cancels, GoesOn, live_request, is_in_use, check_request}
use Rattle.lload_names.specs.declared.names.CancelAnswer.{CancelAnswer}
use Rattle.lload_names.specs.declared.names.CancelAnswer.TheVariants.{C13, S1}
use Rattle.lload_laws.proofs.ListLaws.{any-map}
use Rattle.lload_spec.specs.Lists.{passes}
use Rattle.ldap_spec.specs.Responses.{has_code}
use Rattle.client_laws.proofs.ClientCancels.{Named, cancel_named, ext_tag}
use Rattle.part_spec.specs.Marked.{Marked, Taken}
use Rattle.lload_names.specs.declared.inputs.Input.{Input}
use Rattle.lload_names.specs.declared.inputs.Input.TheVariants.{Arrive, LinkUp, Message as MessageIn, LetterFrom, Tick, LinkGone, Stall, Flow, Reload}
use Rattle.lload_names.specs.declared.inputs.Effects.{Effects}
use Rattle.part_spec.specs.Inputs.{moment_for, letter_of, nothing, Act, act, entries_of, marked_by}
use Rattle.part_spec.specs.ClientState.{ClientState, ClientRow, step_client, empty_client, facts_of, check_at, is_holding, is_present, is_bind_row, row_named, row_under, who_told, new_row, without, abandons, with_bind, with_request}
use Rattle.part_spec.specs.ClientTurn.{closing, whats_for, client_sever, refused, canceled, stalls, flows, by_check, message, choice, answer, failure, letter, link_gone, where_so, client_act}
use Rattle.part_spec.specs.Marked.{entries}
use Rattle.lload_spec.proofs.Growth.{left, right}
use Rattle.part_laws.specs.Turns.{Event, Comes, Severed, made, list_from}
use Rattle.part_spec.specs.Fit.{ledger_behind as behind}
use Rattle.client_laws.specs.Turns.{client_event, ClientEndsOnce}
use Rattle.part_laws.proofs.ListLaws.{or_left, or_right, same_number, eqb_same, eq_eqb, any_before}
use Rattle.client_laws.proofs.ClientLives.{is_free_id, out_state_of}
use Rattle.client_laws.proofs.Matches.{ClientLives, left_by, out_rows}
use Rattle.client_laws.proofs.ClientTurns.{Frees, client_turn_of, lives_through, free_by, is_end, event_lives}
use Rattle.client_laws.proofs.ClientOuts.{EndsOnce, is_owed, live_known, ends_once_more}

-- an Out under the identifier of a row, or under 0, wherever the turn has one
abbrev pub Owes : Settings → ℕ → ℕ → ClientState → Option Taken → List What → Type 0
Owes s u at p mark [] = Unit {0}
Owes s u at p mark (w ∷ ws) = (is_owed p w ≡ true) × Owes s u at (step_client s p (record { entry = record { part = Client u; at = at; what = w }; mark = mark })) None ws

-- an Out under 0 alone
abbrev pub is_zero : What → Bool
is_zero w = elim (out_message w) [ None ↦ true | Some m ↦ m.id == 0 ]

tail_none : (es : List Entry) → map (λ x. record { entry = x; mark = None }) es ≡ marked_by None es
tail_none [] = refl
tail_none (e ∷ es) = refl

-- a turn of one entry is the live rows' one entry more
one_entry : (s : Settings) (c u at : ℕ) (w : What) (mark : Option Taken) (place : List Entry) (p : ClientState) → ClientLives c place p → is_free_id p w ≡ true → ClientLives c (place ++ record { part = Client u; at = at; what = w } ∷ []) (step_client s p (record { entry = record { part = Client u; at = at; what = w }; mark = mark }))
one_entry s c u at w mark place p h f = lives_through s c u at (w ∷ []) mark place p h (f, tt)

pub once_through : (s : Settings) (c u at : ℕ) (ws : List What) (mark : Option Taken) (place : List Entry) (p : ClientState) → ClientLives c place p → EndsOnce c place → Frees s u at p mark ws → Owes s u at p mark ws → EndsOnce c (place ++ entries (client_turn_of u at mark ws))
once_through s c u at [] mark place p h k f o = subst (EndsOnce c) (sym (append-nil place)) k
once_through s c u at (w ∷ ws) mark place p h k f o =
    let e : Entry = record { part = Client u; at = at; what = w } in
    let next : ClientState = step_client s p (record { entry = e; mark = mark }) in
    let rest : EndsOnce c ((place ++ e ∷ []) ++ entries (client_turn_of u at None ws)) = once_through s c u at ws None (place ++ e ∷ []) next (one_entry s c u at w mark place p h f.0) (ends_once_more c place e p (live_known c place p h k) k o.0) f.1 o.1 in
    subst (λ ms. EndsOnce c (place ++ e ∷ entries ms)) (sym (tail_none (entries_of (Client u) at ws))) (subst (EndsOnce c) (append_assoc place (e ∷ []) (entries (client_turn_of u at None ws))) rest)

pub zero_through : (c u at : ℕ) (ws : List What) (mark : Option Taken) (place : List Entry) → EndsOnce c place → list_all is_zero ws ≡ true → EndsOnce c (place ++ entries (client_turn_of u at mark ws))
zero_through c u at [] mark place k o = subst (EndsOnce c) (sym (append-nil place)) k
zero_through c u at (w ∷ ws) mark place k o =
    let e : Entry = record { part = Client u; at = at; what = w } in
    let rest : EndsOnce c ((place ++ e ∷ []) ++ entries (client_turn_of u at None ws)) = zero_through c u at ws None (place ++ e ∷ []) (ends_once_more c place e (empty_client c) (λ n z. absurd (let bad : false ≡ true = z in cc)) k (owed w (left (is_zero w) _ o))) (right (is_zero w) _ o) in
    subst (λ ms. EndsOnce c (place ++ e ∷ entries ms)) (sym (tail_none (entries_of (Client u) at ws))) (subst (EndsOnce c) (append_assoc place (e ∷ []) (entries (client_turn_of u at None ws))) rest)
  where
    owed : (v : What) → is_zero v ≡ true → is_owed (empty_client c) v ≡ true
    owed v z = by (out_message v) z
      where
        by : (m : Option Message) → (elim m [ None ↦ true | Some x ↦ x.id == 0 ]) ≡ true → (elim m [ None ↦ true | Some x ↦ x.id == 0 || false ]) ≡ true
        by None j = refl
        by (Some x) j = or_left (x.id == 0) false j

-- What is known of a request that is refused: it makes an operation.
no_kind : (t : ℕ) (n : ℕ) → (t == n) ≡ true → kind_of_tag n ≡ None → kind_of_tag t ≡ None
no_kind t n h k = ap kind_of_tag (same_number t n h) ∙ k

pub kind_makes : (m : Message) (kind : OpKind) → kind_of m.rest ≡ Some kind → (m.id == 0) ≡ false → makes_operation m ≡ true
kind_makes m kind k z = by (m.id == 0) (is_unbind m.rest) (is_abandon m.rest) z (λ u. sym k ∙ no_kind (tag_of m.rest) 0x42 u refl) (λ a. sym k ∙ no_kind (tag_of m.rest) 0x50 a refl)
  where
    by : (x u a : Bool) → x ≡ false → (u ≡ true → Some kind ≡ None) → (a ≡ true → Some kind ≡ None) → (not x && not u && not a) ≡ true
    by true u a h f g = absurd (let bad : true ≡ false = h in cc)
    by false true a h f g = absurd (let bad : Some kind ≡ None = f refl in cc)
    by false false true h f g = absurd (let bad : Some kind ≡ None = g refl in cc)
    by false false false h f g = refl

-- the check of a message under 0 ends the client
pub checked_id : (s : Settings) (p : ClientState) (m : Message) → is_end (check_at s p m) ≡ false → (m.id == 0) ≡ false
checked_id s p m h = by (m.id == 0) (makes_operation m && is_in_use (facts_of p) m.id) refl h
  where
    checked : Bool → Bool → Check
    checked z b = if z then Ends ZeroId else if b then Ends IdInUse else check_request s (facts_of p) m (request m.rest)

    by : (z b : Bool) → (m.id == 0) ≡ z → is_end (checked z b) ≡ false → (m.id == 0) ≡ false
    by true b e k = absurd (let bad : true ≡ false = k in cc)
    by false b e k = e

-- the rows behind an Out
pub out_left : (s : Settings) (at : ℕ) (mark : Option Taken) (p : ClientState) (rest : List ℕ) (id : ℕ) (o : Option ClientRow) → (out_state_of s at mark p rest o).rows ≡ left_by id (λ r. is_final_for r.request rest) o p.rows
out_left s at mark p rest id None = refl
out_left s at mark p rest id (Some r) = by (is_final_for r.request rest) (is_bind_row r) (has_code 14 rest)
  where
    ended : ClientState
    ended = without (λ x. x.k == r.k) at p

    answered : Bool → ClientState
    answered b = elim b [ true ↦ record ended { in_exchange = true } | false ↦ record ended { hold = None; identity = if has_code 0 rest then identity_of s (who_told mark) (request r.request.rest) else [] } ]

    state : Bool → Bool → Bool → ClientState
    state f b x = elim f [ false ↦ p | true ↦ elim b [ true ↦ answered x | false ↦ ended ] ]

    by : (f b x : Bool) → (state f b x).rows ≡ (elim f [ false ↦ p.rows | true ↦ filter (λ y. not (y.k == r.k)) p.rows ])
    by false b x = refl
    by true true true = refl
    by true true false = refl
    by true false x = refl

-- a row under another identifier stays
other_stays : (id n : ℕ) (f : ClientRow → Bool) (rows : List ClientRow) → (id == n) ≡ false → list_any (λ r. r.request.id == n) rows ≡ true → list_any (λ r. r.request.id == n) (filter (λ r. not (r.request.id == id && f r)) rows) ≡ true
other_stays id n f [] h k = k
other_stays id n f (r ∷ rows) h k = by (r.request.id == n) (r.request.id == id) (f r) refl refl k (other_stays id n f rows h)
  where
    rest : List ClientRow
    rest = filter (λ x. not (x.request.id == id && f x)) rows

    by : (a b d : Bool) → (r.request.id == n) ≡ a → (r.request.id == id) ≡ b → (a || list_any (λ x. x.request.id == n) rows) ≡ true → (list_any (λ x. x.request.id == n) rows ≡ true → list_any (λ x. x.request.id == n) (filter (λ x. not (x.request.id == id && f x)) rows) ≡ true) → list_any (λ x. x.request.id == n) (cond (not (b && d)) (r ∷ filter (λ x. not (x.request.id == id && f x)) rows) (filter (λ x. not (x.request.id == id && f x)) rows)) ≡ true
    by true true d e g j ih = absurd (let bad : false ≡ true = sym h ∙ eq_eqb id n (sym (same_number r.request.id id g) ∙ same_number r.request.id n e) in cc)
    by true false d e g j ih = or_left (r.request.id == n) _ e
    by false true true e g j ih = ih j
    by false true false e g j ih = or_right (r.request.id == n) _ (ih j)
    by false false d e g j ih = or_right (r.request.id == n) _ (ih j)

-- a row's identifier is a row's
pub row_owed : (p : ClientState) (op : OpName) (r : ClientRow) → row_named p op ≡ Some r → list_any (λ q. q.request.id == r.request.id) p.rows ≡ true
row_owed p op r e = among (λ q. p.number == op.client && q.k == op.k) p.rows r e
  where
    among : (t : ClientRow → Bool) (rows : List ClientRow) (y : ClientRow) → find t rows ≡ Some y → list_any (λ q. q.request.id == y.request.id) rows ≡ true
    among t [] y f = absurd (let bad : None ≡ Some y = f in cc)
    among t (x ∷ rows) y f = more (t x) f (among t rows y)
      where
        more : (b : Bool) → (if b then Some x else find t rows) ≡ Some y → (find t rows ≡ Some y → list_any (λ q. q.request.id == y.request.id) rows ≡ true) → (x.request.id == y.request.id || list_any (λ q. q.request.id == y.request.id) rows) ≡ true
        more true g ih = let same : x ≡ y = cc in or_left (x.request.id == y.request.id) _ (ap (λ z. z.request.id == y.request.id) same ∙ eqb_same y.request.id)
        more false g ih = or_right (x.request.id == y.request.id) _ (ih g)

-- what has the tag of an Extended request makes an operation, and is no Bind
pub ext_makes : (m : Message) → (m.id == 0) ≡ false → (tag_of m.rest == 0x77) ≡ true → makes_operation m ≡ true
ext_makes m z t = let tag : tag_of m.rest ≡ 0x77 = same_number (tag_of m.rest) 0x77 t in ap (λ n. not (m.id == 0) && not (n == 0x42) && not (n == 0x50)) tag ∙ ap (λ b. not b && true && true) z

pub ext_no_bind : (m : Message) → (tag_of m.rest == 0x77) ≡ true → is_request_of Bind m ≡ false
ext_no_bind m t = ap (λ n. passes (same_kind Bind) (kind_of_tag n)) (same_number (tag_of m.rest) 0x77 t)

module _ (s : Settings) (c u at : ℕ) (place : List Entry) (p : ClientState) (h : ClientLives c place p) (k : EndsOnce c place) where
  abbrev Once : Option Taken → List What → Type 0
  Once mark ws = EndsOnce c (place ++ entries (client_turn_of u at mark ws))

  zero : (mark : Option Taken) (ws : List What) → list_all is_zero ws ≡ true → Once mark ws
  zero mark ws z = zero_through c u at ws mark place k z

  so_once : (b : Bool) (a : Act) (mark : Option Taken) → Once mark a.whats → Once mark (where_so b a).whats
  so_once true a mark o = o
  so_once false a mark o = zero mark [] refl

  -- the row behind a request that makes an operation
  row_there : (m : Message) → makes_operation m ≡ true → list_any (λ r. r.request.id == m.id) (step_client s p (record { entry = record { part = Client u; at = at; what = what.In m.id m.rest }; mark = None })).rows ≡ true
  row_there m e = by (makes_operation m) (is_request_of Bind m) refl e
    where
      request_state : Bool → Bool → ClientState
      request_state b d = elim b [ false ↦ without (abandons m) at p | true ↦ elim d [ true ↦ with_bind s m p | false ↦ with_request s m p ] ]

      own : ((new_row s p m).request.id == m.id) ≡ true
      own = eqb_same m.id

      by : (b d : Bool) → is_request_of Bind m ≡ is_request_of Bind m → b ≡ true → list_any (λ r. r.request.id == m.id) (request_state b d).rows ≡ true
      by true true q j = or_left ((new_row s p m).request.id == m.id) false own
      by true false q j = list_any-append (λ r. r.request.id == m.id) p.rows (new_row s p m ∷ []) ∙ or_right (list_any (λ r. r.request.id == m.id) p.rows) _ (or_left ((new_row s p m).request.id == m.id) false own)
      by false d q j = absurd (let bad : false ≡ true = j in cc)

  -- the state behind the In of a message
  abbrev taken_in : Message → ClientState
  taken_in m = step_client s p (record { entry = record { part = Client u; at = at; what = what.In m.id m.rest }; mark = None })

  -- an answer of its own to a request that the check doesn't end
  answers_own : (m : Message) (answer : OpKind → List ℕ) → is_end (check_at s p m) ≡ false → (o : Option OpKind) → kind_of m.rest ≡ o → Once None (what.In m.id m.rest ∷ (elim o [ None ↦ [] | Some kind ↦ what.Out m.id (answer kind) ∷ [] ]))
  answers_own m answer e None q = zero None (what.In m.id m.rest ∷ []) refl
  answers_own m answer e (Some sort) q = once_through s c u at (what.In m.id m.rest ∷ what.Out m.id (answer sort) ∷ []) None place p h k (free_by s p m e, (refl, tt)) (refl, (or_right (m.id == 0) _ (row_there m (kind_makes m sort q (checked_id s p m e))), tt))

  refuses : (m : Message) (which : Refusal) → check_at s p m ≡ Refuses which → Once None (what.In m.id m.rest ∷ refused m which)
  refuses m which e = answers_own m (λ kind. refusal kind which) (ap is_end e) (kind_of m.rest) refl

  cancel_refused : (m : Message) (which : CancelAnswer) → check_at s p m ≡ Answers which → Once None (what.In m.id m.rest ∷ canceled m.id (kind_of m.rest) which)
  cancel_refused m which e = by (kind_of m.rest) refl
    where
      by : (o : Option OpKind) → kind_of m.rest ≡ o → Once None (what.In m.id m.rest ∷ canceled m.id o which)
      by None q = answers_own m (λ kind. cancel_answer kind which) (ap is_end e) None q
      by (Some sort) q = answers_own m (λ kind. cancel_answer kind which) (ap is_end e) (Some sort) q

  -- a Cancel of a live operation
  cancels_one : (m : Message) (id : ℕ) (kind : OpKind) → check_at s p m ≡ Cancels id kind → Once None (what.In m.id m.rest ∷ what.Out id (cancel_answer kind C13) ∷ canceled m.id (kind_of m.rest) S1)
  cancels_one m id kind e = by (kind_of m.rest)
    where
      it : Named (facts_of p) m id kind × ((m.id == 0) ≡ false)
      it = cancel_named s (facts_of p) m id kind e

      tag : (tag_of m.rest == 0x77) ≡ true
      tag = ext_tag m.rest it.0.ext

      makes : makes_operation m ≡ true
      makes = ext_makes m it.1 tag

      request_state : Bool → Bool → ClientState
      request_state b d = elim b [ false ↦ without (abandons m) at p | true ↦ elim d [ true ↦ with_bind s m p | false ↦ with_request s m p ] ]

      rows_in : (taken_in m).rows ≡ p.rows ++ new_row s p m ∷ []
      rows_in = ap (λ b. (request_state b (is_request_of Bind m)).rows) makes ∙ ap (λ d. (request_state true d).rows) (ext_no_bind m tag)

      lives_in : ClientLives c (place ++ record { part = Client u; at = at; what = what.In m.id m.rest } ∷ []) (taken_in m)
      lives_in = one_entry s c u at (what.In m.id m.rest) None place p h (free_by s p m (ap is_end e))

      named_there : list_any (λ r. r.request.id == id) (taken_in m).rows ≡ true
      named_there = ap (list_any (λ r. r.request.id == id)) rows_in ∙ any_before (λ r. r.request.id == id) p.rows (new_row s p m ∷ []) (sym (any-map (λ x. x.id == id) (λ r. live_request r.request) p.rows) ∙ it.0.live)

      own_there : list_any (λ r. r.request.id == m.id) (step_client s (taken_in m) (record { entry = record { part = Client u; at = at; what = what.Out id (cancel_answer kind C13) }; mark = None })).rows ≡ true
      own_there = ap (list_any (λ r. r.request.id == m.id)) (out_left s at None (taken_in m) (cancel_answer kind C13) id (row_under (taken_in m) id) ∙ out_rows id (λ r. is_final_for r.request (cancel_answer kind C13)) (taken_in m).rows lives_in.apart) ∙ other_stays id m.id (λ r. is_final_for r.request (cancel_answer kind C13)) (taken_in m).rows it.0.other (row_there m makes)

      by : (o : Option OpKind) → Once None (what.In m.id m.rest ∷ what.Out id (cancel_answer kind C13) ∷ canceled m.id o S1)
      by None = once_through s c u at (what.In m.id m.rest ∷ what.Out id (cancel_answer kind C13) ∷ []) None place p h k (free_by s p m (ap is_end e), (refl, tt)) (refl, (or_right (id == 0) _ named_there, tt))
      by (Some sort) = once_through s c u at (what.In m.id m.rest ∷ what.Out id (cancel_answer kind C13) ∷ what.Out m.id (cancel_answer sort S1) ∷ []) None place p h k (free_by s p m (ap is_end e), (refl, (refl, tt))) (refl, (or_right (id == 0) _ named_there, (or_right (m.id == 0) _ own_there, tt)))

  check_once : (m : Message) (x : Check) → check_at s p m ≡ x → Once None (by_check s p at m x).whats
  check_once m (Ends why) e = zero None (what.In m.id m.rest ∷ what.Out 0 protocol_error_notice ∷ what.Gone why ∷ []) refl
  check_once m Unbinds e = zero None (what.In m.id m.rest ∷ what.Gone Left ∷ []) refl
  check_once m (Abandons id) e = zero None (what.In m.id m.rest ∷ []) refl
  check_once m (Refuses which) e = refuses m which e
  check_once m (Answers which) e = cancel_refused m which e
  check_once m (Cancels id kind) e = cancels_one m id kind e
  check_once m GoesOn e = zero None (what.In m.id m.rest ∷ []) refl

  message_once : (m : Message) → Once None (message s p at m).whats
  message_once m = by (is_present p && not (is_holding s p))
    where
      state : Bool → Act
      state b = elim b [ false ↦ nothing | true ↦ by_check s p at m (check_at s p m) ]

      by : (b : Bool) → Once None (state b).whats
      by true = check_once m (check_at s p m) refl
      by false = zero None [] refl

  -- a refusal of a live operation, behind what leaves the rows
  refused_once : (mark : Option Taken) (op : OpName) (r : ClientRow) (which : Refusal) → row_named p op ≡ Some r → Once mark (refused r.request which)
  refused_once mark op r which e = by (kind_of r.request.rest)
    where
      outs_of : Option OpKind → List What
      outs_of o = elim o [ None ↦ [] | Some kind ↦ what.Out r.request.id (refusal kind which) ∷ [] ]

      by : (o : Option OpKind) → Once mark (outs_of o)
      by None = zero mark [] refl
      by (Some sort) = once_through s c u at (what.Out r.request.id (refusal sort which) ∷ []) mark place p h k (refl, tt) (or_right (r.request.id == 0) _ (row_owed p op r e), tt)

  chosen_once : (mark : Option Taken) (op : OpName) (r : ClientRow) (a : Answer) (which : Refusal) → row_named p op ≡ Some r → (step_client s p (record { entry = record { part = Client u; at = at; what = what.Chosen op a }; mark = mark })).rows ≡ p.rows → Once mark (what.Chosen op a ∷ refused r.request which)
  chosen_once mark op r a which e rows = by (kind_of r.request.rest)
    where
      outs_of : Option OpKind → List What
      outs_of o = elim o [ None ↦ [] | Some kind ↦ what.Out r.request.id (refusal kind which) ∷ [] ]

      by : (o : Option OpKind) → Once mark (what.Chosen op a ∷ outs_of o)
      by None = zero mark (what.Chosen op a ∷ []) refl
      by (Some sort) = once_through s c u at (what.Chosen op a ∷ what.Out r.request.id (refusal sort which) ∷ []) mark place p h k (refl, (refl, tt)) (refl, (or_right (r.request.id == 0) _ (ap (list_any (λ q. q.request.id == r.request.id)) rows ∙ row_owed p op r e), tt))

  choice_once : (mark : Option Taken) (op : OpName) (a : Answer) → Once mark (choice s p op a).whats
  choice_once mark op a = by (row_named p op) a refl
    where
      state : Option ClientRow → Answer → List What
      state o x = what.Chosen op x ∷ whats_for o x

      by : (o : Option ClientRow) (x : Answer) → row_named p op ≡ o → Once mark (state o x)
      by None (Go n b) e = zero mark (what.Chosen op (Go n b) ∷ []) refl
      by None Busy e = zero mark (what.Chosen op Busy ∷ []) refl
      by None Unavailable e = zero mark (what.Chosen op Unavailable ∷ []) refl
      by (Some r) (Go n b) e = zero mark (what.Chosen op (Go n b) ∷ []) refl
      by (Some r) Busy e = chosen_once mark op r Busy C1 e refl
      by (Some r) Unavailable e = chosen_once mark op r Unavailable C3 e refl

  answer_once : (mark : Option Taken) (op : OpName) (rest : List ℕ) → Once mark (answer p op rest).whats
  answer_once mark op rest = by (row_named p op) refl
    where
      state : Option ClientRow → Act
      state o = elim o [ None ↦ act (what.Late op ∷ []) [] | Some r ↦ act (what.Out r.request.id rest ∷ []) [] ]

      by : (o : Option ClientRow) → row_named p op ≡ o → Once mark (state o).whats
      by None e = zero mark (what.Late op ∷ []) refl
      by (Some r) e = once_through s c u at (what.Out r.request.id rest ∷ []) mark place p h k (refl, tt) (or_right (r.request.id == 0) _ (row_owed p op r e), tt)

  failure_once : (mark : Option Taken) (op : OpName) (which : Refusal) → Once mark (failure p op which).whats
  failure_once mark op which = by (row_named p op) refl
    where
      state : Option ClientRow → Act
      state o = elim o [ None ↦ act (what.Late op ∷ []) [] | Some r ↦ act (refused r.request which) [] ]

      by : (o : Option ClientRow) → row_named p op ≡ o → Once mark (state o).whats
      by None e = zero mark (what.Late op ∷ []) refl
      by (Some r) e = refused_once mark op r which e

  letter_once : (mark : Option Taken) (l : Letter) → Once mark (letter s p l).whats
  letter_once mark (Choice op a) = choice_once mark op a
  letter_once mark (Reply op rest is_last who) = answer_once mark op rest
  letter_once mark (Failed op which) = failure_once mark op which
  letter_once mark _ = zero mark [] refl

  link_once : (why : EndWhy) → Once None (link_gone p why).whats
  link_once Bad = zero None (what.Out 0 protocol_error_notice ∷ what.Gone Bad ∷ []) refl
  link_once TooBig = zero None (what.Out 0 protocol_error_notice ∷ what.Gone TooBig ∷ []) refl
  link_once _ = zero None [] refl

  pub input_once : (input : Input) → Once (letter_of input) (client_act s p at input).whats
  input_once (Arrive now) = so_once (not p.arrived) (act (what.Arrived ∷ []) []) None (zero None (what.Arrived ∷ []) refl)
  input_once (MessageIn now id rest) = message_once (record { id = id; rest = rest })
  input_once (Stall now) = so_once (is_present p && not p.pausing.stalled) (stalls p) None (zero None (what.Stalled ∷ []) refl)
  input_once (Flow now) = so_once (is_present p && p.pausing.stalled) (flows p) None (zero None (what.Flowing ∷ []) refl)
  input_once (Reload now plan base) = zero None [] refl
  input_once (LetterFrom now word sender l) = so_once p.arrived (letter s p l) (Some (record { sender = sender; letter = l })) (letter_once (Some (record { sender = sender; letter = l })) l)
  input_once (LinkGone now why) = so_once (is_present p) (link_gone p why) None (link_once why)
  input_once (LinkUp now) = zero None [] refl
  input_once (Tick now) = zero None [] refl

  pub sever_once : (why : EndWhy) → Once None (where_so (is_present p) (act (what.Gone why ∷ []) (closing p))).whats
  sever_once why = so_once (is_present p) (act (what.Gone why ∷ []) (closing p)) None (zero None (what.Gone why ∷ []) refl)

pub event_once : (s : Settings) (c : ℕ) (place : List Entry) (p : ClientState) (x : Event) → ClientLives c place p → EndsOnce c place → EndsOnce c (place ++ entries (made (client_event s) p x))
event_once s c place p (Comes input) h k = input_once s c p.number (moment_for p.moment input) place p h k input
event_once s c place p (Severed now why) h k = by (is_link_reason why)
  where
    state : Bool → Effects
    state b = elim b [ true ↦ client_sever p now why | false ↦ record { entries = []; letters = [] } ]

    by : (b : Bool) → EndsOnce c (place ++ entries (marked_by None (state b).entries))
    by true = sever_once s c p.number (max p.moment now) place p h k why
    by false = subst (EndsOnce c) (sym (append-nil place)) k

list_once : (s : Settings) (c : ℕ) (xs : List Event) (place : List Entry) (p : ClientState) → ClientLives c place p → EndsOnce c place → EndsOnce c (place ++ entries (list_from (step_client s) (client_event s) p xs))
list_once s c [] place p h k = subst (EndsOnce c) (sym (append-nil place)) k
list_once s c (x ∷ xs) place p h k =
    let turn : List Marked = made (client_event s) p x in
    let next : ClientState = behind (step_client s) p turn in
    let rest : List Marked = list_from (step_client s) (client_event s) next xs in
    let more : EndsOnce c ((place ++ entries turn) ++ entries rest) = list_once s c xs (place ++ entries turn) next (event_lives s c place p x h) (event_once s c place p x h k) in
    subst (EndsOnce c) (append_assoc place (entries turn) (entries rest) ∙ ap (λ l. place ++ l) (sym (map-append (λ m. m.entry) turn rest))) more

pub client_ends_once : ClientEndsOnce
client_ends_once s c xs = (list_once s c xs [] (empty_client c) (record { count = refl; rows = tt; untaken = refl; apart = refl; within = refl }) (record { one_last = λ n. omega arith; no_zero = refl; ended_once = refl })).ended_once
