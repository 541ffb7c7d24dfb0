-- What a message meets on a bind connection, by its state, is what its list says that it meets: no own Bind, the request that is
-- open, and the identifiers that were given.
use Rattle.std.proofs.Common.{◌≡◌, ℕ, Bool, true, false, ◌&&◌, ◌||◌, not, List, [], ◌∷◌, ◌++◌, flat_map, refl, ap, ◌∙◌, sym, append_assoc}
use Rattle.std.specs.Prelude.{Option, Some, None, map, is_some, is_none, if◌then◌else◌}
use Rattle.std.specs.List.{list_any, list_all}
use Rattle.std.proofs.lemmas.Grind.{flat_map-append}
use Rattle.std.proofs.lemmas.List.{append-nil}
use Rattle.std.proofs.lemmas.List.Folds.{list_all-append}
use Rattle.ldap_spec.specs.Kinds.{kind_of, same_kind}
use Rattle.ldap_spec.specs.Bodies.{abandon}
use Rattle.lload_names.specs.declared.names.Entry.{Entry}
use Rattle.lload_names.specs.declared.names.OpKind.{OpKind}
use Rattle.lload_names.specs.declared.names.OpKind.TheVariants.{Bind}
use Rattle.lload_names.specs.declared.names.ConnKind.TheVariants.{Bind as BindKind}
use Rattle.lload_names.specs.declared.names.What.{What}
use Rattle.lload_names.specs.declared.names.What.TheVariants as what
use Rattle.lload_spec.specs.Lists.{passes, implies}
use Rattle.lload_spec.specs.Settings.{Settings, is_of_kind}
use Rattle.lload_spec.specs.Journal.{Family}
use Rattle.lload_spec.specs.BadMessages.{OpenRequest}
use Rattle.lload_spec.specs.CausedUp.{open_requests, open_request as open_request_of, own_bind_id, has_got, message_facts as facts_by_list}
use Rattle.lload_spec.specs.Entries.{is_down, is_expired, is_own, sent_message, down_why, is_linked, given_id}
use Rattle.lload_spec.specs.Answers.{Sending, Final, sendings, sending_made, final_answer, closing_at, who_id, asks_who, is_kept_back, is_open, until_sent}
use Rattle.lload_spec.specs.OneEach.{begins_with_bind, is_own_bind}
use Rattle.lload_spec.specs.Strict.{may_follow_down}
use Rattle.part_spec.specs.Marked.{Marked, Taken, entries}
use Rattle.part_spec.specs.ConnectionState.{ConnectionState, UpRow, Kept, empty_connection, step_connection, connection_behind, connection_of, open_request, is_bind_row, message_facts, OwnWait}
use Rattle.part_spec.specs.Fit.{ConnectionLedger, empty_connection_ledger, step_connection_ledger, fits_connection, ledger_behind as behind}
use Rattle.lload_laws.specs.ConnectionGrowth.{later_sending}
use Rattle.connection_laws.specs.Turns.{connection_event}
use Rattle.bind_laws.specs.Turns.{are_told_rightly, BindMeets}
use Rattle.lload_spec.proofs.Growth.{left, right, both}
use Rattle.lload_laws.proofs.ConnectionGrowth.{sendings_grow}
use Rattle.part_laws.proofs.Induction.{through}
use Rattle.part_laws.proofs.ListLaws.{not_true}
use Rattle.connection_laws.proofs.Permits.{Chain, push_entry}
use Rattle.connection_laws.proofs.Closings.{opens, closed_not_open, lost_not_open, is_lost, lost_stay, all_lost, none_behind, opens_of}
use Rattle.connection_laws.proofs.Makes.{Makes, turn_of}
use Rattle.connection_laws.proofs.Through.{steps_are, gone_through}
use Rattle.connection_laws.proofs.Given.{Given, given_through, none_given}
use Rattle.bind_laws.proofs.Lone.{is_lone, marks_a_bind, no_own}
use Rattle.bind_laws.proofs.Meets.{bind_kind}
use Rattle.bind_laws.proofs.Sents.{IsLive, IsAnswered, IsAsked}
use Rattle.bind_laws.proofs.Tells.{SentsAre, RowsAre, open_now}
use Rattle.bind_laws.proofs.BindShare.{begins_alone, event_keeps_by}
use Rattle.bind_laws.proofs.BindSays.{BindTells, tells_turn, nothing_told}

-- none of two tests
none_or : (a b c : Entry → Bool) (es : List Entry) → list_any (λ x. a x || b x) es ≡ false → list_any c es ≡ false → list_any (λ x. a x || c x) es ≡ false
none_or a b c [] h k = refl
none_or a b c (x ∷ es) h k = by (a x) (b x) (c x) h k (none_or a b c es)
  where
    by : (p q r : Bool) → ((p || q) || list_any (λ y. a y || b y) es) ≡ false → (r || list_any c es) ≡ false → (list_any (λ y. a y || b y) es ≡ false → list_any c es ≡ false → list_any (λ y. a y || c y) es ≡ false) → ((p || r) || list_any (λ y. a y || c y) es) ≡ false
    by true q r i j more = absurd (let no : true ≡ false = i in cc)
    by false true r i j more = absurd (let no : true ≡ false = i in cc)
    by false false true i j more = absurd (let no : true ≡ false = j in cc)
    by false false false i j more = more i j

-- The live Sent is open, as its row says.
module _ (s : Settings) (F : Family) (n : ℕ) (r : UpRow) (sent : Sending) (h : IsLive s F n r sent []) (bind : same_kind Bind r.kind ≡ true) where
  live_open : list_any is_down sent.behind ≡ false → is_open s h.o sent ≡ true
  live_open there = both (is_none (closing_at s h.o sent) && not (list_any (λ x. is_expired h.o.name x || is_down x) sent.behind)) _ (both (is_none (closing_at s h.o sent)) _ (ap is_none (open_now s F n r sent [] h)) (ap not (none_or (is_expired h.o.name) (is_own (abandon sent.id)) is_down sent.behind h.going there))) (ap (λ k. not (not (passes (same_kind Bind) k) && list_any (is_own (abandon sent.id)) (until_sent sent.id sent.behind))) h.kind)

  abbrev request_by : ℕ → Option OpKind → Option Final → OpenRequest
  request_by id kind f = record { id = id; kind = kind; kept = passes (λ q. is_kept_back (asks_who s h.o) q.rest) f; who = elim f [ None ↦ None | Some q ↦ who_id q.behind ] }

  live_request : open_request_of s h.o sent ≡ open_request r
  live_request = ap (λ i. request_by i (kind_of h.o.request.rest) (final_answer h.o sent)) h.id ∙ ap (λ k. request_by r.id k (final_answer h.o sent)) (h.kind ∙ ap Some (sym (bind_kind r.kind bind))) ∙ by r.kept h.answer
    where
      asked : (w : Option ℕ) (es : List Entry) → IsAsked w es [] → who_id es ≡ w
      asked None es a = ap who_id a.0
      asked (Some w) es a = a.0

      by : (k : Option Kept) → IsAnswered s h.o sent k [] → request_by r.id (Some r.kind) (final_answer h.o sent) ≡ record { id = r.id; kind = Some r.kind; kept = is_some k; who = elim k [ None ↦ None | Some x ↦ x.who ] }
      by None a = ap (request_by r.id (Some r.kind)) a
      by (Some k) a = ap (request_by r.id (Some r.kind)) a.final ∙ (λ i. record { id = r.id; kind = Some r.kind; kept = a.back i; who = asked k.who a.es a.asked i })

-- All that is open.
module _ (s : Settings) (F : Family) (u : ℕ) (place : List Entry) (p : ConnectionState) where
  rows_open : (rows : List UpRow) (live : List Sending) → is_lone rows ≡ true → list_all (λ sent. not (list_any is_down sent.behind)) live ≡ true → RowsAre s F p.ids.next rows live [] → flat_map (opens s F) live ≡ map open_request rows
  rows_open [] [] b there a = refl
  rows_open [] (x ∷ xs) b there a = absurd a
  rows_open (r ∷ []) [] b there a = absurd a
  rows_open (r ∷ []) (x ∷ []) b there a = ap (λ q. opens_of s x q ++ []) a.found ∙ ap (λ c. (elim c [ true ↦ open_request_of s a.o x ∷ [] | false ↦ [] ]) ++ []) (live_open s F p.ids.next r x a (left (is_bind_row r) _ b) (not_true (list_any is_down x.behind) (left (not (list_any is_down x.behind)) _ there))) ∙ ap (λ q. q ∷ []) (live_request s F p.ids.next r x a (left (is_bind_row r) _ b))
  rows_open (r ∷ []) (x ∷ y ∷ xs) b there a = absurd a
  rows_open (r ∷ q ∷ rows) xs b there a = absurd a

  sents_open : is_lone p.rows ≡ true → list_any is_down place ≡ false → SentsAre s F u place p.ids.next p.rows [] → open_requests s F u place ≡ map open_request p.rows
  sents_open b there a =
      let all : list_all (λ sent. not (list_any is_down sent.behind)) (a.done ++ a.live) ≡ true = ap (list_all (λ sent. not (list_any is_down sent.behind))) (sym a.split) ∙ none_behind u is_down [] place there in
      ap (flat_map (opens s F)) a.split ∙ flat_map-append (opens s F) a.done a.live ∙ ap (λ xs. xs ++ flat_map (opens s F) a.live) (closed_not_open s F a.done a.closed) ∙ rows_open p.rows a.live b (right (list_all (λ sent. not (list_any is_down sent.behind)) a.done) _ (sym (list_all-append (λ sent. not (list_any is_down sent.behind)) a.done a.live) ∙ all)) a.are

-- Behind the end each Sent is lost.
lost_step : (s : Settings) (u : ℕ) (place : List Entry) (e : Entry) (mark : Option Taken) (p : ConnectionState) (w : What) → e.what ≡ w → implies p.down (may_follow_down w) ≡ true → (p.down ≡ true → list_all is_lost (sendings u place) ≡ true) → (connection_behind s e mark p w).down ≡ true → list_all is_lost (sendings u (place ++ e ∷ [])) ≡ true
lost_step s u place e mark p w same alive h d = ap (list_all is_lost) (sendings_grow u place e ∙ ap (λ v. map (later_sending e) (sendings u place) ++ sending_made u place e [] (sent_message v)) same) ∙ by w same alive d
  where
    none : (v : What) → sent_message v ≡ None → list_all is_lost (map (later_sending e) (sendings u place)) ≡ true → list_all is_lost (map (later_sending e) (sendings u place) ++ sending_made u place e [] (sent_message v)) ≡ true
    none v n k = ap (λ o. list_all is_lost (map (later_sending e) (sendings u place) ++ sending_made u place e [] o)) n ∙ ap (list_all is_lost) (append-nil (map (later_sending e) (sendings u place))) ∙ k

    by : (v : What) → e.what ≡ v → implies p.down (may_follow_down v) ≡ true → (connection_behind s e mark p v).down ≡ true → list_all is_lost (map (later_sending e) (sendings u place) ++ sending_made u place e [] (sent_message v)) ≡ true
    by (what.Down why) q a j = none (what.Down why) refl (all_lost e (sendings u place) (ap (λ v. passes (λ _. true) (down_why v)) q))
    by (what.Sent id op rest) q a j = absurd (let no : true ≡ false = sym a ∙ ap (λ b. implies b false) j in cc)
    by what.Linked q a j = none what.Linked refl (lost_stay e (sendings u place) (h j))
    by v q a j = none v refl (lost_stay e (sendings u place) (h j))

lost_through : (s : Settings) (u : ℕ) (ms : List Marked) (before : List Marked) (l : ConnectionLedger) → Chain s before l ms → (l.state.down ≡ true → list_all is_lost (sendings u (entries before)) ≡ true) → (behind (step_connection_ledger s) l ms).state.down ≡ true → list_all is_lost (sendings u (entries (before ++ ms))) ≡ true
lost_through s u [] before l k h d = ap (λ b. list_all is_lost (sendings u (entries b))) (append-nil before) ∙ h d
lost_through s u (m ∷ ms) before l k h d = ap (λ b. list_all is_lost (sendings u (entries b))) (sym (append_assoc before (m ∷ []) ms)) ∙ lost_through s u ms (before ++ m ∷ []) (step_connection_ledger s l m) k.1 (λ j. ap (λ place. list_all is_lost (sendings u place)) (push_entry before m) ∙ lost_step s u (entries before) m.entry m.mark l.state m.entry.what refl k.0.alive h j) d

-- What is kept behind each turn.
record BindKnows (s : Settings) (F : Family) (u : ℕ) (before : List Marked) (l : ConnectionLedger) : Type 0 where
  pub tells : BindTells s F u before l
  pub gone : l.state.down ≡ true → l.state.rows ≡ []
  pub lost : l.state.down ≡ true → list_all is_lost (sendings u (entries before)) ≡ true
  pub given : Given (entries before) l.state

knows_turn : (s : Settings) (F : Family) (u : ℕ) → begins_with_bind s u ≡ false → (before : List Marked) (l : ConnectionLedger) (at : ℕ) (mark : Option Taken) (ws : List What) → BindKnows s F u before l → marks_a_bind mark ≡ true → Makes s before l at mark ws → BindKnows s F u (before ++ turn_of l.state.number at mark ws) (behind (step_connection_ledger s) l (turn_of l.state.number at mark ws))
knows_turn s F u begins before l at mark ws h n k = record { tells = tells_turn s F u begins before l at mark ws h.tells n k; gone = gone_through s (turn_of l.state.number at mark ws) before l k.0 h.gone; lost = lost_through s u (turn_of l.state.number at mark ws) before l k.0 h.lost; given = given_through s u (turn_of l.state.number at mark ws) before l h.tells.keeps.keeps.stands k.0 h.given }

nothing_known : (s : Settings) (F : Family) (u : ℕ) → is_of_kind s BindKind u ≡ true → BindKnows s F u [] (empty_connection_ledger s u)
nothing_known s F u place = record { tells = nothing_told s F u place; gone = λ d. refl; lost = λ d. refl; given = none_given s u }

-- no own Bind
own_none : (s : Settings) (u : ℕ) (place : List Entry) → begins_with_bind s u ≡ false → own_bind_id s u place ≡ None
own_none s u [] b = refl
own_none s u (e ∷ []) b = refl
own_none s u (e ∷ f ∷ es) b = ap (λ c. if c && is_linked e.what && is_own_bind s f then given_id f.what else None) b

abbrev waiting_own : (ℕ → Bool) → Option ℕ → Option ℕ
waiting_own got q = elim (passes (λ id. not (got id)) q) [ true ↦ q | false ↦ None ]

own_so : (s : Settings) (u : ℕ) (place : List Entry) → begins_with_bind s u ≡ false → waiting_own (λ id. has_got id place) (own_bind_id s u place) ≡ None
own_so s u place b = ap (waiting_own (λ id. has_got id place)) (own_none s u place b)

-- the open requests
opens_so : (s : Settings) (F : Family) (u : ℕ) (before : List Marked) (l : ConnectionLedger) → BindKnows s F u before l → are_told_rightly s F before ≡ true → map open_request l.state.rows ≡ open_requests s F u (entries before)
opens_so s F u before l h told = by l.state.down refl
  where
    by : (b : Bool) → l.state.down ≡ b → map open_request l.state.rows ≡ open_requests s F u (entries before)
    by true d = ap (map open_request) (h.gone d) ∙ sym (lost_not_open s F (sendings u (entries before)) (h.lost d))
    by false d = sym (sents_open s F u (entries before) l.state h.tells.keeps.stands.lone (sym h.tells.keeps.keeps.stands.says.down ∙ d) ((h.tells.tells told).sents d refl))

-- all that a message meets
meets_so : (s : Settings) (F : Family) (u : ℕ) → begins_with_bind s u ≡ false → (before : List Marked) (l : ConnectionLedger) → BindKnows s F u before l → are_told_rightly s F before ≡ true → message_facts (connection_of s u before) ≡ facts_by_list s F u (entries before)
meets_so s F u begins before l h told = ap message_facts (steps_are s (empty_connection s u) before ∙ sym h.tells.keeps.keeps.state) ∙ (λ i. record { own = own i; requests = opens_so s F u before l h told i; given = λ id. (sym (h.given.ids id)) i })
  where
    own_id : Option OwnWait → Option ℕ
    own_id o = elim o [ None ↦ None | Some x ↦ Some x.id ]

    own : own_id l.state.own_bind ≡ waiting_own (λ id. has_got id (entries before)) (own_bind_id s u (entries before))
    own = ap own_id (no_own s u (entries before) l.state begins h.tells.keeps.keeps.stands.own) ∙ sym (own_so s u (entries before) begins)

pub bind_meets : BindMeets
bind_meets s u place F xs = through (fits_connection s) (step_connection_ledger s) (step_connection s) (λ l. l.state) (λ l m. refl) (connection_event s) (BindKnows s F u) (λ before. are_told_rightly s F before ≡ true → message_facts (connection_of s u before) ≡ facts_by_list s F u (entries before)) (λ before l h. meets_so s F u (begins_alone s u place) before l h) (λ before l x h f. event_keeps_by s u place (BindKnows s F u) (λ b i k. k.tells.keeps) (knows_turn s F u (begins_alone s u place)) before l h x f) xs [] (empty_connection_ledger s u) (nothing_known s F u place)
