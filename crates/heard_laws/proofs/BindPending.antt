-- An operation that is its own holder is still to come to a bind connection, or it holds the connection; or the desk is told
-- its end.
use Rattle.std.proofs.Common.{◌≡◌, ◌⊎◌, inl, inr, ℕ, Bool, true, false, ◌==◌, ◌&&◌, ◌||◌, not, List, [], ◌∷◌, ◌++◌, length, refl, ap, ◌∙◌, sym, subst}
use Rattle.std.specs.Prelude.{Option, Some, None, is_none, is_some, map, if◌then◌else◌}
use Rattle.std.specs.List.{list_any}
use Rattle.std.proofs.lemmas.List.{append-nil}
use Rattle.std.specs.Str.{bytes_eq}
use Rattle.lload_names.specs.declared.names.ConnKind.TheVariants.{Bind as BindKind, Regular}
use Rattle.lload_names.specs.declared.names.Entry.{Entry}
use Rattle.lload_names.specs.declared.names.Letter.{Letter}
use Rattle.lload_names.specs.declared.names.Letter.TheVariants.{Forward}
use Rattle.lload_names.specs.declared.names.OpKind.{OpKind}
use Rattle.lload_names.specs.declared.names.OpName.{OpName}
use Rattle.lload_names.specs.declared.names.PartName.{PartName}
use Rattle.lload_names.specs.declared.names.PartName.TheVariants.{Client, Desk}
use Rattle.lload_names.specs.declared.names.Refusal.TheVariants.{C4}
use Rattle.lload_names.specs.declared.names.What.{What}
use Rattle.lload_names.specs.declared.names.What.TheVariants as what
use Rattle.lload_spec.specs.Answers.{Sending, closing_at, is_left_in_progress, of_operation, sending_made, sendings}
use Rattle.lload_spec.specs.Entries.{is_down, is_sent, sent_message}
use Rattle.lload_spec.specs.Journal.{Family, same_op, same_part}
use Rattle.lload_spec.specs.Lists.{implies, last, passes}
use Rattle.lload_spec.specs.News.{tells_ended}
use Rattle.lload_spec.specs.Over.{from_sent}
use Rattle.lload_spec.specs.Settings.{Settings, is_kind, is_of_kind}
use Rattle.lload_spec.specs.Strict.{may_follow_down}
use Rattle.lload_spec.proofs.Growth.{left, right}
use Rattle.lload_laws.specs.ConnectionGrowth.{later_sending}
use Rattle.lload_laws.proofs.ConnectionGrowth.{sendings_grow}
use Rattle.part_laws.proofs.ListLaws.{any_before, any_behind, false_by, or_elim, or_left, same_op_eq, same_op_refl}
use Rattle.part_spec.specs.BindTurn.{missed_letters, was_lost}
use Rattle.part_spec.specs.ConnectionState.{ConnectionState, connection_behind, frees_holder, holder_sent, is_bind}
use Rattle.part_spec.specs.ConnectionTurn.{ended}
use Rattle.part_spec.specs.Fit.{ConnectionLedger, are_fit_from, fits_connection, is_forward_of, is_free_for, is_held_for, is_of_its_kind, is_unfit, step_connection_ledger, with_mark}
use Rattle.part_spec.specs.Gives.{connection_letters, missed_by, missed_of}
use Rattle.part_spec.specs.Inputs.{failed}
use Rattle.part_spec.specs.Marked.{Marked, Taken, entries, letters_to}
use Rattle.part_spec.specs.Marks.{has_connection_mark, marks_connection}
use Rattle.part_spec.specs.RegularTurn.{missed_letters as missed_regular_letters}
use Rattle.connection_laws.proofs.Closings.{is_closed}
use Rattle.connection_laws.proofs.Pausings.{client_is}
use Rattle.connection_laws.proofs.Through.{no_rows}
use Rattle.bind_laws.proofs.BindShare.{begins_alone}
use Rattle.bind_laws.proofs.Lone.{no_own}
use Rattle.bind_laws.proofs.Tells.{RowsAre, SentsAre}
use Rattle.identity_laws.proofs.BoundOut.{each_end}
use Rattle.identity_laws.proofs.Letters.{each_of}
use Rattle.joined_laws.proofs.Taken.{is_fit_there}
use Rattle.upstream_laws.proofs.Heads.{Head, Tail}
use Rattle.upstream_laws.proofs.Held.{is_letting}
use Rattle.leave_laws.proofs.Holders.{Holding, LastHolding}
use Rattle.leave_laws.proofs.Unfinished.{Place}
use Rattle.open_laws.proofs.Alone.{own_stands}
use Rattle.open_laws.proofs.Among.{Such, among_passing, of_each}
use Rattle.ended_laws.proofs.BindOver.{is_its, sent_more}
use Rattle.ended_laws.proofs.BindTold.{Held, some_same}
use Rattle.ended_laws.proofs.RegularEnds.{forward_new}
use Rattle.heard_laws.specs.Laws.{is_first_forward}
use Rattle.heard_laws.proofs.BindFrees.{down_told, frees_told}
use Rattle.heard_laws.proofs.Chained.{chain_begins, chain_quiet, chain_sent, is_chained}

-- whether an entry took the Forward of an operation that is its own holder
abbrev pub took_it : OpName → Marked → Bool
took_it op m = passes (λ t. is_first_forward op t.letter) m.mark

-- it is still to come
pub record Coming (op : OpName) (l : ConnectionLedger) (ms : List Marked) : Type 0 where
  pub new : list_any (λ t. is_forward_of op t.letter) l.taken ≡ false
  pub comes : list_any (took_it op) ms ≡ true

-- it holds the connection
pub record Holds (F : Family) (u : ℕ) (op : OpName) (place : List Entry) (p : ConnectionState) : Type 0 where
  pub holder : p.holder ≡ Some op
  pub sent : list_any (is_its op) (sendings u place) ≡ true
  pub chain : is_chained F (from_sent op (sendings u place)) ≡ true

abbrev pub Status : Family → ℕ → OpName → List Marked → ConnectionLedger → List Marked → Type 0
Status F u op before l ms = Coming op l ms ⊎ Holds F u op (entries before) l.state

-- who held a connection when it went down is lost there alone
abbrev pub Lostless : ConnectionState → Type 0
Lostless p = p.down ≡ false → p.lost ≡ None

pub lostless_step : (s : Settings) (e : Entry) (mark : Option Taken) (p : ConnectionState) (w : What) → Lostless p → Lostless (connection_behind s e mark p w)
lostless_step s e mark p (what.Down why) h d = absurd (let bad : true ≡ false = d in cc)
lostless_step s e mark p what.Linked h d = h d
lostless_step s e mark p _ h d = h d

first_forward : (op : OpName) (x : Letter) → is_first_forward op x ≡ true → is_forward_of op x ≡ true
first_forward op (Forward o sort rest ask holder) h = left (same_op op o) _ h
first_forward op _ h = absurd (let bad : false ≡ true = h in cc)

-- a fit Forward is the first of its operation
fit_new : (s : Settings) (l : ConnectionLedger) (op : OpName) (t : Taken) (x : Letter) → is_forward_of op x ≡ true → fits_connection s l t.sender x ≡ true → list_any (λ y. is_forward_of op y.letter) l.taken ≡ false
fit_new s l op t (Forward o sort rest ask holder) k f = ap (λ n. list_any (λ y. is_forward_of n y.letter) l.taken) (same_op_eq op o k) ∙ forward_new s l t.sender o sort rest ask holder f
fit_new s l op t _ k f = absurd (let bad : false ≡ true = k in cc)

taken_old : (op : OpName) (mark : Option Taken) (taken : List Taken) → list_any (λ t. is_forward_of op t.letter) taken ≡ true → list_any (λ t. is_forward_of op t.letter) (with_mark mark taken) ≡ true
taken_old op None taken h = h
taken_old op (Some t) taken h = any_before (λ x. is_forward_of op x.letter) taken (t ∷ []) h

-- so behind one none comes
pub never_again : (s : Settings) (op : OpName) (ms : List Marked) (l : ConnectionLedger) → list_any (λ t. is_forward_of op t.letter) l.taken ≡ true → are_fit_from (fits_connection s) (step_connection_ledger s) l ms ≡ true → list_any (took_it op) ms ≡ true → false ≡ true
never_again s op [] l h fit k = k
never_again s op (m ∷ ms) l h fit k = or_elim (took_it op m) (list_any (took_it op) ms) (here m.mark fit) (never_again s op ms (step_connection_ledger s l m) (taken_old op m.mark l.taken h) (right (not (is_unfit (fits_connection s) l m.mark)) _ fit)) k
  where
    here : (o : Option Taken) → (not (is_unfit (fits_connection s) l o) && are_fit_from (fits_connection s) (step_connection_ledger s) (step_connection_ledger s l m) ms) ≡ true → passes (λ t. is_first_forward op t.letter) o ≡ true → false ≡ true
    here None f j = j
    here (Some t) f j = sym (fit_new s l op t t.letter (first_forward op t.letter j) (is_fit_there (fits_connection s) l t (are_fit_from (fits_connection s) (step_connection_ledger s) (step_connection_ledger s l m) ms) f)) ∙ h

module _ (s : Settings) (F : Family) (u : ℕ) (place : is_of_kind s BindKind u ≡ true) (op : OpName) (before : List Marked) (l : ConnectionLedger) (pl : Place s F u place before l) (held : Held u (entries before) l.state) (lostless : Lostless l.state) (part : PartName) (at : ℕ) (mark : Option Taken) where
  abbrev entry : What → Entry
  entry w = record { part = part; at = at; what = w }

  abbrev marked : What → Marked
  marked w = record { entry = entry w; mark = mark }

  abbrev next : What → ConnectionState
  next w = connection_behind s (entry w) mark l.state w

  bind : is_bind l.state ≡ true
  bind = ap (is_kind BindKind) pl.is_bind_one

  abbrev Gives : What → Type 0
  Gives w = list_any (tells_ended op) (letters_to Desk (connection_letters s l.state at mark w)) ≡ true

  abbrev Holding_next : What → Type 0
  Holding_next w = Holds F u op (entries before ++ entry w ∷ []) (next w)

  abbrev sents : List Sending
  sents = sendings u (entries before)

  -- a Forward that is fit finds the connection free
  free_for : (a : Bool) (q n : OpName) → (a && (not (is_bind l.state) || is_free_for l.state n && is_held_for l.state q n)) ≡ true → is_free_for l.state n ≡ true
  free_for a q n k = or_elim (not (is_bind l.state)) (is_free_for l.state n && is_held_for l.state q n) (λ j. absurd (let bad : false ≡ true = sym (ap not bind) ∙ j in cc)) (λ j. left (is_free_for l.state n) _ j) (right a _ k)

  -- a mark stands where a turn begins
  begins_at : {m : Marked} → Head s F u before l ⊎ Tail m → (t : Taken) → m.mark ≡ Some t → Head s F u before l
  begins_at (inl a) t e = a
  begins_at (inr a) t e = absurd (let bad : Some t ≡ None = sym e ∙ a.unmarked in cc)

  -- A Missed of a Forward with this holder, where it wasn't lost.
  missed_told : (o : OpName) (t : Taken) → mark ≡ Some t → (q : OpName) (sort : OpKind) (body : List ℕ) (ask : Bool) → t.letter ≡ Forward q sort body ask op → was_lost l.state op ≡ false → Gives (what.Missed o)
  missed_told o t e q sort body ask f lost = ap (λ x. list_any (tells_ended op) (letters_to Desk (missed_by l.state o x))) e ∙ ap (λ x. list_any (tells_ended op) (letters_to Desk (missed_of l.state o x))) f ∙ ap (λ k. list_any (tells_ended op) (letters_to Desk (elim k [ Regular ↦ missed_regular_letters l.state o | BindKind ↦ missed_letters l.state o op ]))) pl.is_bind_one ∙ ap (λ b. list_any (tells_ended op) (letters_to Desk (failed o C4 ++ (elim b [ true ↦ [] | false ↦ ended l.state op None ])))) lost ∙ or_left (same_op op op) false (same_op_refl op)

  -- What holds the connection.
  module _ (h : Holds F u op (entries before) l.state) where
    quiet : (w : What) → sent_message w ≡ None → (next w).holder ≡ l.state.holder → Holding_next w
    quiet w none same = record { holder = same ∙ h.holder; sent = sent_more s F u op (entries before) (entry w) h.sent; chain = chain_quiet F u op (entries before) h.sent h.chain (entry w) none }

    got_step : Head s F u before l → (id : ℕ) (rest : List ℕ) → Gives (what.Got id rest) ⊎ Holding_next (what.Got id rest)
    got_step a id rest = by (frees_holder l.state (record { id = id; rest = rest })) refl
      where
        by : (b : Bool) → frees_holder l.state (record { id = id; rest = rest }) ≡ b → Gives (what.Got id rest) ⊎ Holding_next (what.Got id rest)
        by true e = inl (frees_told s l.state pl.is_bind_one op h.holder at mark (no_own s u (entries before) l.state (begins_alone s u place) a.knows.keeps.keeps.stands.own) a.knows.keeps.stands.lone (record { id = id; rest = rest }) e)
        by false e = inr (quiet (what.Got id rest) refl (ap (λ b. if b then None else l.state.holder) e))

    -- the holder of a Forward that comes now
    same_holder : (n : OpName) → is_free_for l.state n ≡ true → n ≡ op
    same_holder n k = by (ap (λ o. is_none o || passes (same_op n) o) (sym h.holder) ∙ right (length l.state.rows == 0) _ k)
      where
        by : (false || same_op n op) ≡ true → n ≡ op
        by j = same_op_eq n op j

    missed_step : Head s F u before l → (o : OpName) (t : Taken) → mark ≡ Some t → (x : Letter) → t.letter ≡ x → marks_connection l.state (what.Missed o) x ≡ true → fits_connection s l t.sender x ≡ true → Gives (what.Missed o)
    missed_step a o t e (Forward q sort body ask n) g k f =
        let same : n ≡ op = same_holder n (free_for _ q n f) in
        missed_told o t e q sort body ask (g ∙ ap (Forward q sort body ask) same) (ap (passes (same_op op)) (lostless (there l.state.down refl)))
      where
        there : (b : Bool) → l.state.down ≡ b → l.state.down ≡ false
        there true i = absurd (let bad : Some op ≡ None = sym h.holder ∙ a.knows.keeps.stands.gone i in cc)
        there false i = i
    missed_step a o t e _ g k f = absurd (let bad : false ≡ true = k in cc)

    -- the last Sent was left in progress where the connection is free
    last_left : Head s F u before l → l.state.down ≡ false → l.state.rows ≡ [] → (z : Sending) → last sents ≡ Some z → Holding s F op z → of_operation F is_left_in_progress z ≡ true
    last_left a d none z e k =
        let known : SentsAre s F u (entries before) l.state.ids.next l.state.rows [] = (a.knows.tells a.told).sents d refl in
        let settled : sents ≡ known.done = known.split ∙ ap (λ ys. known.done ++ ys) (no_live known.live (subst (λ rows. RowsAre s F l.state.ids.next rows known.live []) none known.are)) ∙ append-nil known.done in
        let closed : is_closed s F z ≡ true = each_end (λ y. is_closed s F y ≡ true) known.done z (sym (ap last settled) ∙ e) (each_of (λ y. is_closed s F y ≡ true) (is_closed s F) known.done (λ y q. q) known.closed) in
        ap (passes (λ o. is_left_in_progress o z)) k.found ∙ left_by (closing_at s k.o z) (sym (ap (passes (λ o. is_some (closing_at s o z))) k.found) ∙ closed) (right (not (list_any is_letting z.behind)) _ k.holds)
      where
        no_live : (ys : List Sending) → RowsAre s F l.state.ids.next [] ys [] → ys ≡ []
        no_live [] i = refl
        no_live (y ∷ ys) i = absurd i

        left_by : (c : Option (List ℕ)) → is_some c ≡ true → (is_none c || is_left_in_progress k.o z) ≡ true → is_left_in_progress k.o z ≡ true
        left_by None i j = absurd (let bad : false ≡ true = i in cc)
        left_by (Some r) i j = j

    sent_step : Head s F u before l → l.state.down ≡ false → (id : ℕ) (o : OpName) (rest : List ℕ) (t : Taken) → mark ≡ Some t → (x : Letter) → t.letter ≡ x → marks_connection l.state (what.Sent id o rest) x ≡ true → fits_connection s l t.sender x ≡ true → Holding_next (what.Sent id o rest)
    sent_step a d id o rest t e (Forward q sort body ask n) g k f =
        let free : is_free_for l.state n ≡ true = free_for _ q n f in
        let same : n ≡ op = same_holder n free in
        let new : Sending = record { connection = u; op = o; id = id; at = at; rest = rest; before = entries before; behind = [] } in
        let clients : (same_part t.sender (Client q.client) && same_part t.sender (Client n.client)) ≡ true = senders t.sender q n sort body ask f in
        let own : o.client ≡ op.client = ap (λ (v : OpName). v.client) (same_op_eq o q (left (same_op o q) _ (left (same_op o q && bytes_eq rest body) _ k))) ∙ one_client t.sender q n clients ∙ ap (λ (v : OpName). v.client) same in
        record {
          holder = ap (λ m. elim m [ None ↦ l.state.holder | Some v ↦ holder_sent l.state v.letter ]) e ∙ ap (holder_sent l.state) g ∙ ap (λ b. if b then Some n else None) bind ∙ ap Some same;
          sent = sent_more s F u op (entries before) (entry (what.Sent id o rest)) h.sent;
          chain = chain_by new own (no_rows l.state.rows (left (length l.state.rows == 0) _ free)) (last sents) refl (subst (λ v. LastHolding s F v (last sents)) h.holder pl.holding);
        }
      where
        senders : (sender : PartName) (q n : OpName) (sort : OpKind) (body : List ℕ) (ask : Bool) → fits_connection s l sender (Forward q sort body ask n) ≡ true → (same_part sender (Client q.client) && same_part sender (Client n.client)) ≡ true
        senders sender q n sort body ask f =
            let from_both : Bool = same_part sender (Client q.client) && same_part sender (Client n.client) in
            let first : Bool = not (list_any (λ v. is_forward_of q v.letter) l.taken) in
            left from_both _ (left (from_both && first) _ (left (from_both && first && l.state.up) _ (left (from_both && first && l.state.up && is_of_its_kind s l.state sort body ask) _ f)))

        one_client : (sender : PartName) (q n : OpName) → (same_part sender (Client q.client) && same_part sender (Client n.client)) ≡ true → q.client ≡ n.client
        one_client sender q n i =
            let both_are : Client q.client ≡ Client n.client = sym (client_is sender q.client (left (same_part sender (Client q.client)) _ i)) ∙ client_is sender n.client (right (same_part sender (Client q.client)) _ i) in cc

        chain_by : (new : Sending) → o.client ≡ op.client → l.state.rows ≡ [] → (z : Option Sending) → last sents ≡ z → LastHolding s F (Some op) z → is_chained F (from_sent op (sendings u (entries before ++ entry (what.Sent id o rest) ∷ []))) ≡ true
        chain_by new own none None i j = absurd j
        chain_by new own none (Some z) i j = chain_sent F u op (entries before) h.sent h.chain (entry (what.Sent id o rest)) (record { connection = u; op = o; id = id; at = at; rest = rest; before = entries before; behind = [] }) z refl i (last_left a d none z i j) (j.client ∙ sym own)
    sent_step a d id o rest t e _ g k f = absurd (let bad : false ≡ true = k in cc)

    pub holds_step : (w : What) → Head s F u before l ⊎ Tail (marked w) → implies (list_any is_down (entries before)) (may_follow_down w) ≡ true → l.state.down ≡ list_any is_down (entries before) → has_connection_mark l.state (marked w) ≡ true → ((t : Taken) → mark ≡ Some t → fits_connection s l t.sender t.letter ≡ true) → Gives w ⊎ Holding_next w
    holds_step (what.Got id rest) (inl a) alive d k f = got_step a id rest
    holds_step (what.Got id rest) (inr a) alive d k f = absurd (let bad : false ≡ true = a.quiet in cc)
    holds_step (what.Down why) begun alive d k f = inl (down_told s l.state pl.is_bind_one op h.holder at mark why)
    holds_step (what.Missed o) begun alive d k f = by mark refl k
      where
        by : (m : Option Taken) → mark ≡ m → has_connection_mark l.state (record { entry = entry (what.Missed o); mark = m }) ≡ true → Gives (what.Missed o) ⊎ Holding_next (what.Missed o)
        by None e j = absurd (let bad : false ≡ true = j in cc)
        by (Some t) e j = inl (missed_step (begins_at begun t e) o t e t.letter refl j (f t e))
    holds_step (what.Sent id o rest) begun alive d k f = by mark refl k
      where
        not_down : (b : Bool) → implies b false ≡ true → b ≡ false
        not_down true j = absurd (let bad : false ≡ true = j in cc)
        not_down false j = refl

        by : (m : Option Taken) → mark ≡ m → has_connection_mark l.state (record { entry = entry (what.Sent id o rest); mark = m }) ≡ true → Gives (what.Sent id o rest) ⊎ Holding_next (what.Sent id o rest)
        by None e j = absurd (let bad : false ≡ true = j in cc)
        by (Some t) e j = inr (sent_step (begins_at begun t e) (d ∙ not_down (list_any is_down (entries before)) alive) id o rest t e t.letter refl j (f t e))
    holds_step what.Linked begun alive d k f = inr (quiet what.Linked refl refl)
    holds_step w begun alive d k f = inr (quiet w refl refl)

  -- What comes now.
  module _ (new : list_any (λ t. is_forward_of op t.letter) l.taken ≡ false) where
    unsent : Head s F u before l → list_any (is_its op) sents ≡ false
    unsent a = false_by (list_any (is_its op) sents) (λ j. let one : Such (λ x. is_its op x ≡ true) sents = among_passing (is_its op) sents j in sym new ∙ a.knows.keeps.keeps.stands.sent op (of_each (λ x. same_op op x.op ≡ true → list_any (is_sent op) (entries before) ≡ true) sents one.it (own_stands (λ y. same_op op y.op) u [] (entries before)) one.among one.so))

    sent_now : Head s F u before l → (id : ℕ) (o : OpName) (rest : List ℕ) (t : Taken) → mark ≡ Some t → (q : OpName) (sort : OpKind) (body : List ℕ) (ask : Bool) (n : OpName) → t.letter ≡ Forward q sort body ask n → same_op op n ≡ true → same_op op o ≡ true → Holding_next (what.Sent id o rest)
    sent_now a id o rest t e q sort body ask n g holds its =
        record {
          holder = ap (λ m. elim m [ None ↦ l.state.holder | Some v ↦ holder_sent l.state v.letter ]) e ∙ ap (holder_sent l.state) g ∙ ap (λ b. if b then Some n else None) bind ∙ ap Some (sym (same_op_eq op n holds));
          sent = ap (list_any (is_its op)) (sendings_grow u (entries before) (entry (what.Sent id o rest))) ∙ any_behind (is_its op) (map (later_sending (entry (what.Sent id o rest))) sents) (sending_made u (entries before) (entry (what.Sent id o rest)) [] (sent_message (what.Sent id o rest))) (or_left (same_op op o) false its);
          chain = chain_begins F u op (entries before) (entry (what.Sent id o rest)) (record { connection = u; op = o; id = id; at = at; rest = rest; before = entries before; behind = [] }) (unsent a) refl its;
        }

    not_lost : Head s F u before l → was_lost l.state op ≡ false
    not_lost a = false_by (was_lost l.state op) (λ j. sym (unsent a) ∙ held op (inr (some_same op l.state.lost j)))

    of_forward : (w : What) → Head s F u before l → (t : Taken) → mark ≡ Some t → (x : Letter) → t.letter ≡ x → marks_connection l.state w x ≡ true → is_first_forward op x ≡ true → Gives w ⊎ Holding_next w
    of_forward (what.Sent id o rest) a t e (Forward q sort body ask n) g k i = inr (sent_now a id o rest t e q sort body ask n g (right (same_op op q) _ i) (ap (same_op op) (same_op_eq o q (left (same_op o q) _ (left (same_op o q && bytes_eq rest body) _ k))) ∙ left (same_op op q) _ i))
    of_forward (what.Missed o) a t e (Forward q sort body ask n) g k i = inl (missed_told o t e q sort body ask (g ∙ ap (Forward q sort body ask) (sym (same_op_eq op n (right (same_op op q) _ i)))) (not_lost a))
    of_forward w a t e (Forward q sort body ask n) g k i = absurd (let bad : false ≡ true = k in cc)
    of_forward w a t e _ g k i = absurd (let bad : false ≡ true = i in cc)

    pub first_step : (w : What) → Head s F u before l ⊎ Tail (marked w) → has_connection_mark l.state (marked w) ≡ true → passes (λ t. is_first_forward op t.letter) mark ≡ true → Gives w ⊎ Holding_next w
    first_step w begun k i = by mark refl k i
      where
        by : (m : Option Taken) → mark ≡ m → has_connection_mark l.state (record { entry = entry w; mark = m }) ≡ true → passes (λ t. is_first_forward op t.letter) m ≡ true → Gives w ⊎ Holding_next w
        by None e j n = absurd (let bad : false ≡ true = n in cc)
        by (Some t) e j n = of_forward w (begins_at begun t e) t e t.letter refl j n
