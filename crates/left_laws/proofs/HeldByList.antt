-- An operation for which a Forward came holds its bind connection, or it is over there by the list; so what holds by the list is
-- the holder. Behind its Leave it is over, and before one that comes to nothing.
use Rattle.std.proofs.Common.{◌≡◌, ◌⊎◌, inl, inr, ℕ, Bool, true, false, ◌==◌, ◌&&◌, ◌||◌, not, List, [], ◌∷◌, ◌++◌, length, refl, ap, ◌∙◌, sym, subst}
use Rattle.std.specs.Prelude.{Option, Some, None, is_none, is_some, option_map, if◌then◌else◌}
use Rattle.std.specs.List.{list_any}
use Rattle.ldap_spec.specs.Responses.{has_code}
use Rattle.lload_names.specs.declared.names.ConnKind.TheVariants.{Bind as BindKind}
use Rattle.lload_names.specs.declared.names.EndWhy.{EndWhy}
use Rattle.lload_names.specs.declared.names.Entry.{Entry}
use Rattle.lload_names.specs.declared.names.Letter.{Letter}
use Rattle.lload_names.specs.declared.names.Letter.TheVariants.{Forward, Leave}
use Rattle.lload_names.specs.declared.names.OpKind.{OpKind}
use Rattle.lload_names.specs.declared.names.OpName.{OpName}
use Rattle.lload_names.specs.declared.names.PartName.{PartName}
use Rattle.lload_names.specs.declared.names.What.{What}
use Rattle.lload_names.specs.declared.names.What.TheVariants as what
use Rattle.lload_spec.specs.Answers.{Final, Sending, closing_at, closing_by, final_answer, is_left_in_progress, of_operation, sendings}
use Rattle.lload_spec.specs.CausedUp.{is_holding, is_missed_caused, is_stopped as is_stopped_at}
use Rattle.lload_spec.specs.Entries.{is_down, is_missed, is_retired, is_sent}
use Rattle.lload_spec.specs.Journal.{Family, same_op}
use Rattle.lload_spec.specs.Lists.{last, passes}
use Rattle.lload_spec.specs.Operations.{Operation, operation}
use Rattle.lload_spec.specs.Over.{from_sent, is_held_since}
use Rattle.lload_spec.specs.Owed.{is_held_by}
use Rattle.lload_spec.specs.Settings.{Settings, is_kind, is_of_kind}
use Rattle.lload_spec.proofs.Growth.{left, right}
use Rattle.lload_laws.specs.ConnectionGrowth.{later_sending}
use Rattle.lload_laws.proofs.ListLaws.{any_imply}
use Rattle.part_laws.proofs.ListLaws.{any_before, any_behind, false_by, none_of_both, not_true, or_elim, or_left, or_right, same_op_eq, same_op_refl}
use Rattle.part_spec.specs.BindTurn.{holds}
use Rattle.part_spec.specs.ConnectionState.{ConnectionState, connection_behind, frees_holder, holder_sent, is_bind, is_stopped}
use Rattle.part_spec.specs.Fit.{ConnectionLedger, fits_connection, is_forward_for, is_forward_of, is_free_for, is_held_for, is_leave_of, step_connection_ledger, with_mark}
use Rattle.part_spec.specs.Marked.{Marked, Taken, entries}
use Rattle.part_spec.specs.Marks.{has_connection_mark, marks_connection}
use Rattle.connection_laws.proofs.Permits.{push_entry}
use Rattle.upstream_laws.proofs.Answered.{last_stays}
use Rattle.upstream_laws.proofs.BindDowns.{Unheld}
use Rattle.upstream_laws.proofs.BindEnds.{Comes, Here}
use Rattle.upstream_laws.proofs.Heads.{Head, Tail}
use Rattle.rows_laws.proofs.Somewhere.{OneIn}
use Rattle.upstream_laws.proofs.Held.{is_letting, settled_unheld}
use Rattle.leave_laws.proofs.Forwarded.{was_taken}
use Rattle.leave_laws.proofs.Holders.{Holding, LastHolding}
use Rattle.leave_laws.proofs.IdleBind.{is_holder, was_held}
use Rattle.leave_laws.proofs.Unfinished.{Place}
use Rattle.ended_laws.proofs.BindOver.{Over, OverSent, bind_more, is_its, last_from, last_one, sent_more}
use Rattle.ended_laws.proofs.BindTold.{Held}
use Rattle.ended_laws.proofs.RegularEnds.{forward_new}
use Rattle.ended_laws.proofs.RegularTold.{unsent_from}

and_none : (b d : Bool) → d ≡ false → (b && d) ≡ false
and_none true d h = h
and_none false d h = refl

-- a Bind that doesn't hold, where nothing let go behind it, is settled, and by no saslBindInProgress
settled_over : (s : Settings) (F : Family) (y : Sending) (o : Operation) → operation F y.op ≡ Some o → list_any is_letting y.behind ≡ false → of_operation F (is_holding s) y ≡ false → OverSent s F y
settled_over s F y o found quiet k = by (final_answer o y) refl
  where
    either : (is_none (closing_at s o y) || is_left_in_progress o y) ≡ false
    either = sym (ap (λ b. not b && (is_none (closing_at s o y) || is_left_in_progress o y)) quiet) ∙ (sym (ap (passes (λ q. is_holding s q y)) found) ∙ k)

    some_of : (c : Option (List ℕ)) → is_none c ≡ false → is_some c ≡ true
    some_of None j = absurd (let bad : true ≡ false = j in cc)
    some_of (Some r) j = refl

    coded : is_none (closing_at s o y) ≡ false
    coded = false_by (is_none (closing_at s o y)) (λ j. sym either ∙ or_left (is_none (closing_at s o y)) _ j)

    going : is_left_in_progress o y ≡ false
    going = false_by (is_left_in_progress o y) (λ j. sym either ∙ or_right (is_none (closing_at s o y)) _ j)

    by : (f : Option Final) → final_answer o y ≡ f → OverSent s F y
    by None e = absurd (let bad : true ≡ false = sym (ap (λ z. is_none (elim z [ None ↦ None | Some g ↦ closing_by s o g ])) e) ∙ coded in cc)
    by (Some f) e = record { o = o; found = found; closed = some_of (closing_at s o y) coded; final = f; came = e; code = sym (ap (passes (λ z. has_code 14 z.rest)) e) ∙ going }

-- what is over holds nothing
held_no_more : (s : Settings) (F : Family) (xs : List Sending) → OneIn (λ x. OverSent s F x) xs ⊎ Unheld s F (last xs) → is_held_since s F xs ≡ false
held_no_more s F [] h = refl
held_no_more s F (q ∷ []) (inl (inl h)) = settled_unheld s F q h.o h.found h.closed (ap (passes (λ f. has_code 14 f.rest)) h.came ∙ h.code)
held_no_more s F (q ∷ []) (inl (inr h)) = absurd h
held_no_more s F (q ∷ []) (inr h) = h
held_no_more s F (q ∷ r ∷ qs) (inl (inl h)) = ap (λ b. b && q.op.client == r.op.client && is_held_since s F (r ∷ qs)) (ap (passes (λ o. is_left_in_progress o q)) h.found ∙ ap (passes (λ f. has_code 14 f.rest)) h.came ∙ h.code)
held_no_more s F (q ∷ r ∷ qs) (inl (inr h)) = and_none (of_operation F is_left_in_progress q && q.op.client == r.op.client) _ (held_no_more s F (r ∷ qs) (inl h))
held_no_more s F (q ∷ r ∷ qs) (inr h) = and_none (of_operation F is_left_in_progress q && q.op.client == r.op.client) _ (held_no_more s F (r ∷ qs) (inr h))

pub over_holds_nothing : (s : Settings) (F : Family) (u : ℕ) (place : List Entry) (op : OpName) → Over s F u place op → is_held_by s F u place op ≡ false
over_holds_nothing s F u place op (inl h) = held_no_more s F (from_sent op (sendings u place)) (inl h)
over_holds_nothing s F u place op (inr (inl h)) = held_no_more s F (from_sent op (sendings u place)) (inr (subst (Unheld s F) (sym (last_from op (sendings u place) h.sent)) h.unheld))
over_holds_nothing s F u place op (inr (inr h)) = ap (is_held_since s F) (unsent_from u place op h.unsent)

module _ (s : Settings) (F : Family) (u : ℕ) (place : is_of_kind s BindKind u ≡ true) (op : OpName) where
  -- no Forward came for it, and it holds nothing and held nothing
  pub record Unasked (l : ConnectionLedger) : Type 0 where
    pub new : was_held op l.taken ≡ false
    pub free : is_holder op l.state ≡ false

  abbrev pub HeldOrOver : List Entry → ConnectionLedger → Type 0
  HeldOrOver b l = Unasked l ⊎ ((l.state.holder ≡ Some op) ⊎ Over s F u b op)

  -- what holds by the list is the holder
  pub held_is_holder : (b : List Entry) (l : ConnectionLedger) → HeldOrOver b l → was_held op l.taken ≡ true → is_held_by s F u b op ≡ true → l.state.holder ≡ Some op
  held_is_holder b l (inl h) k j = absurd (let bad : false ≡ true = sym h.new ∙ k in cc)
  held_is_holder b l (inr (inl e)) k j = e
  held_is_holder b l (inr (inr o)) k j = absurd (let bad : false ≡ true = sym (over_holds_nothing s F u b op o) ∙ j in cc)

  module _ (before : List Marked) (l : ConnectionLedger) (here : Here s F u before l) (pl : Place s F u place before l) (held : Held u (entries before) l.state) (part : PartName) (at : ℕ) (mark : Option Taken) where
    abbrev entry : What → Entry
    entry w = record { part = part; at = at; what = w }

    abbrev marked : What → Marked
    marked w = record { entry = entry w; mark = mark }

    abbrev next : What → ConnectionState
    next w = connection_behind s (entry w) mark l.state w

    abbrev After : What → Type 0
    After w = Over s F u (entries before ++ entry w ∷ []) op

    abbrev NextHere : What → Type 0
    NextHere w = Here s F u (before ++ marked w ∷ []) (step_connection_ledger s l (marked w))

    bind : is_bind l.state ≡ true
    bind = ap (is_kind BindKind) pl.is_bind_one

    stopped : is_stopped l.state ≡ true → is_stopped_at (entries before) ≡ true
    stopped j = or_elim l.state.retired l.state.down
        (λ i. any_imply (λ y. is_retired y.what) (λ y. is_retired y.what || is_down y) (entries before) (λ y n. or_left (is_retired y.what) _ n) (sym here.says.retired ∙ i))
        (λ i. any_imply is_down (λ y. is_retired y.what || is_down y) (entries before) (λ y n. or_right (is_retired y.what) _ n) (sym here.says.down ∙ i)) j

    -- what a Forward that is fit finds
    fit_free : (a : Bool) (q n : OpName) → (a && (not (is_bind l.state) || is_free_for l.state n && is_held_for l.state q n)) ≡ true → (is_free_for l.state n && is_held_for l.state q n) ≡ true
    fit_free a q n k = or_elim (not (is_bind l.state)) (is_free_for l.state n && is_held_for l.state q n) (λ j. absurd (let bad : false ≡ true = sym (ap not bind) ∙ j in cc)) (λ j. j) (right a _ k)

    -- who holds behind a Sent
    sent_holder : (id : ℕ) (o : OpName) (rest : List ℕ) (t : Taken) → mark ≡ Some t → (q : OpName) (sort : OpKind) (body : List ℕ) (ask : Bool) (n : OpName) → t.letter ≡ Forward q sort body ask n → n ≡ op → (next (what.Sent id o rest)).holder ≡ Some op
    sent_holder id o rest t e q sort body ask n g same = ap (λ m. elim m [ None ↦ l.state.holder | Some v ↦ holder_sent l.state v.letter ]) e ∙ ap (holder_sent l.state) g ∙ ap (λ b. if b then Some n else None) bind ∙ ap Some same

    -- a mark stands where a turn begins
    begins_at : (w : What) → Head s F u before l ⊎ Tail (marked w) → (t : Taken) → mark ≡ Some t → Head s F u before l
    begins_at w (inl a) t e = a
    begins_at w (inr a) t e = absurd (let bad : Some t ≡ None = sym e ∙ a.unmarked in cc)

    stays : (w : What) → is_missed_caused (entries before) (entry w) ≡ true → Over s F u (entries before) op → After w
    stays w caused k = (bind_more s F u op None (entries before) (entry w) caused (record { none = refl; over = k })).over

    -- What holds the connection.
    module _ (e : l.state.holder ≡ Some op) where
      sent : list_any (is_its op) (sendings u (entries before)) ≡ true
      sent = held op (inl e)

      unheld : (w : What) → NextHere w → (next w).holder ≡ None → Unheld s F (last (sendings u (entries before ++ entry w ∷ [])))
      unheld w k f = subst (λ b. Unheld s F (last (sendings u b))) (push_entry before (marked w)) (k.unheld f)

      stuck : (w : What) → is_stopped_at (entries before ++ entry w ∷ []) ≡ true → NextHere w → (next w).holder ≡ None → After w
      stuck w stops k f = inr (inl (record { stopped = stops; sent = sent_more s F u op (entries before) (entry w) sent; unheld = unheld w k f }))

      got_over : (id : ℕ) (rest : List ℕ) → Unheld s F (last (sendings u (entries before ++ entry (what.Got id rest) ∷ []))) → After (what.Got id rest)
      got_over id rest k = by (last (sendings u (entries before))) refl (subst (λ o. LastHolding s F o (last (sendings u (entries before)))) e pl.holding) (subst (Unheld s F) (last_stays u (entries before) (entry (what.Got id rest)) refl) k)
        where
          got : Entry
          got = entry (what.Got id rest)

          over_sent : (x : Sending) → Holding s F op x → of_operation F (is_holding s) (later_sending (entry (what.Got id rest)) x) ≡ false → OverSent s F (later_sending (entry (what.Got id rest)) x)
          over_sent x j i = settled_over s F (later_sending got x) j.o j.found (none_of_both is_letting x.behind (got ∷ []) (not_true (list_any is_letting x.behind) (left (not (list_any is_letting x.behind)) _ j.holds)) refl) i

          by : (o : Option Sending) → last (sendings u (entries before)) ≡ o → LastHolding s F (Some op) o → Unheld s F (option_map (later_sending (entry (what.Got id rest))) o) → After (what.Got id rest)
          by None i j g = absurd j
          by (Some x) i j g = inl (last_one (λ y. OverSent s F y) op (sendings u (entries before ++ got ∷ [])) (later_sending got x) (sent_more s F u op (entries before) got sent) (last_stays u (entries before) got refl ∙ ap (option_map (later_sending got)) i) (over_sent x j g))

      down_over : (why : EndWhy) → NextHere (what.Down why) → After (what.Down why)
      down_over why k = stuck (what.Down why) (any_behind (λ y. is_retired y.what || is_down y) (entries before) (entry (what.Down why) ∷ []) refl) k refl

      held_step : (w : What) → Comes s F u place before l (marked w) → NextHere w → ((next w).holder ≡ Some op) ⊎ After w
      held_step (what.Got id rest) c k = by (frees_holder l.state (record { id = id; rest = rest })) refl
        where
          by : (b : Bool) → frees_holder l.state (record { id = id; rest = rest }) ≡ b → ((next (what.Got id rest)).holder ≡ Some op) ⊎ After (what.Got id rest)
          by true f = inr (got_over id rest (unheld (what.Got id rest) k (ap (λ b. if b then None else l.state.holder) f)))
          by false f = inl (ap (λ b. if b then None else l.state.holder) f ∙ e)
      held_step (what.Down why) c k = inr (down_over why k)
      held_step (what.Missed o) c k = by mark c.marked
        where
          stops : (x : Letter) → marks_connection l.state (what.Missed o) x ≡ true → is_stopped l.state ≡ true
          stops (Forward q sort body ask n) j = right (same_op o q) _ j
          stops _ j = absurd (let bad : false ≡ true = j in cc)

          by : (m : Option Taken) → has_connection_mark l.state (record { entry = entry (what.Missed o); mark = m }) ≡ true → ((next (what.Missed o)).holder ≡ Some op) ⊎ After (what.Missed o)
          by None j = absurd (let bad : false ≡ true = j in cc)
          by (Some t) j = inr (stuck (what.Missed o) (any_before (λ y. is_retired y.what || is_down y) (entries before) (entry (what.Missed o) ∷ []) (stopped (stops t.letter j))) k refl)
      held_step (what.Sent id o rest) c k = by mark refl c.marked
        where
          same_holder : (n : OpName) → is_free_for l.state n ≡ true → n ≡ op
          same_holder n i = go (ap (λ h. is_none h || passes (same_op n) h) (sym e) ∙ right (length l.state.rows == 0) _ i)
            where
              go : (false || same_op n op) ≡ true → n ≡ op
              go j = same_op_eq n op j

          letter : (t : Taken) → mark ≡ Some t → (x : Letter) → t.letter ≡ x → marks_connection l.state (what.Sent id o rest) x ≡ true → fits_connection s l t.sender x ≡ true → ((next (what.Sent id o rest)).holder ≡ Some op) ⊎ After (what.Sent id o rest)
          letter t i (Forward q sort body ask n) g j f = inl (sent_holder id o rest t i q sort body ask n g (same_holder n (left (is_free_for l.state n) _ (fit_free _ q n f))))
          letter t i _ g j f = absurd (let bad : false ≡ true = j in cc)

          by : (m : Option Taken) → mark ≡ m → has_connection_mark l.state (record { entry = entry (what.Sent id o rest); mark = m }) ≡ true → ((next (what.Sent id o rest)).holder ≡ Some op) ⊎ After (what.Sent id o rest)
          by None i j = absurd (let bad : false ≡ true = j in cc)
          by (Some t) i j = letter t i t.letter refl j (c.fit t i)
      held_step what.Linked c k = inl e
      held_step w c k = inl e

    -- What no Forward came for.
    module _ (h : Unasked l) where
      lost_free : passes (same_op op) l.state.lost ≡ false
      lost_free = false_by (passes (same_op op) l.state.lost) (λ j. sym h.free ∙ or_right (passes (same_op op) l.state.holder) _ j)

      holder_free : passes (same_op op) l.state.holder ≡ false
      holder_free = false_by (passes (same_op op) l.state.holder) (λ j. sym h.free ∙ or_left (passes (same_op op) l.state.holder) _ j)

      -- another letter leaves it so
      free_next : passes (λ t. is_forward_for op t.letter) mark ≡ false → (w : What) → is_holder op (next w) ≡ false
      free_next none (what.Got id rest) = by (frees_holder l.state (record { id = id; rest = rest }))
        where
          by : (b : Bool) → (passes (same_op op) (if b then None else l.state.holder) || passes (same_op op) l.state.lost) ≡ false
          by true = lost_free
          by false = h.free
      free_next none (what.Sent id o rest) = by mark none
        where
          letter : (x : Letter) → is_forward_for op x ≡ false → (passes (same_op op) (holder_sent l.state x) || passes (same_op op) l.state.lost) ≡ false
          letter (Forward q sort body ask n) j = ap (λ b. passes (same_op op) (if b then Some n else None) || passes (same_op op) l.state.lost) bind ∙ ap (λ b. b || passes (same_op op) l.state.lost) j ∙ lost_free
          letter _ j = h.free

          by : (m : Option Taken) → passes (λ t. is_forward_for op t.letter) m ≡ false → (passes (same_op op) (elim m [ None ↦ l.state.holder | Some v ↦ holder_sent l.state v.letter ]) || passes (same_op op) l.state.lost) ≡ false
          by None j = h.free
          by (Some t) j = letter t.letter j
      free_next none (what.Missed o) = lost_free
      free_next none (what.Down why) = holder_free
      free_next none what.Linked = h.free
      free_next none w = h.free

      none_more : (m : Option Taken) → passes (λ t. is_forward_for op t.letter) m ≡ false → was_held op (with_mark m l.taken) ≡ false
      none_more None j = h.new
      none_more (Some t) j = none_of_both (λ x. is_forward_for op x.letter) l.taken (t ∷ []) h.new (ap (λ b. b || false) j)

      -- a Forward for it is its own
      own : (t : Taken) (q : OpName) (sort : OpKind) (body : List ℕ) (ask : Bool) (n : OpName) → fits_connection s l t.sender (Forward q sort body ask n) ≡ true → n ≡ op → q ≡ op
      own t q sort body ask n f same =
          or_elim (same_op q n || passes (same_op n) l.state.holder) (passes (same_op n) l.state.lost)
          (λ j. or_elim (same_op q n) (passes (same_op n) l.state.holder) (λ i. same_op_eq q n i ∙ same) (λ i. absurd (let bad : false ≡ true = sym holder_free ∙ subst (λ v. passes (same_op v) l.state.holder ≡ true) same i in cc)) j)
          (λ j. absurd (let bad : false ≡ true = sym lost_free ∙ subst (λ v. passes (same_op v) l.state.lost ≡ true) same j in cc))
          (right (is_free_for l.state n) _ (fit_free _ q n f))

      missed_over : (o : OpName) → o ≡ op → Head s F u before l → list_any (λ t. is_forward_of op t.letter) l.taken ≡ false → is_stopped l.state ≡ true → After (what.Missed o)
      missed_over o is_op a new stops =
          let unsent : list_any (is_sent op) (entries before) ≡ false = false_by (list_any (is_sent op) (entries before)) (λ i. sym new ∙ a.knows.keeps.keeps.stands.sent op i) in
          inr (inr (record { none = refl; missed = any_behind (is_missed op) (entries before) (entry (what.Missed o) ∷ []) (or_left (same_op op o) false (ap (same_op op) is_op ∙ same_op_refl op)); unsent = none_of_both (is_sent op) (entries before) (entry (what.Missed o) ∷ []) unsent refl; stopped = any_before (λ y. is_retired y.what || is_down y) (entries before) (entry (what.Missed o) ∷ []) (stopped stops) }))

      forward_step : (w : What) → Head s F u before l → (t : Taken) → mark ≡ Some t → (q : OpName) (sort : OpKind) (body : List ℕ) (ask : Bool) (n : OpName) → t.letter ≡ Forward q sort body ask n → marks_connection l.state w (Forward q sort body ask n) ≡ true → fits_connection s l t.sender (Forward q sort body ask n) ≡ true → n ≡ op → ((next w).holder ≡ Some op) ⊎ After w
      forward_step (what.Sent id o rest) a t e q sort body ask n g k f same = inl (sent_holder id o rest t e q sort body ask n g same)
      forward_step (what.Missed o) a t e q sort body ask n g k f same =
          let is_own : q ≡ op = own t q sort body ask n f same in
          inr (missed_over o (same_op_eq o q (left (same_op o q) _ k) ∙ is_own) a (ap (λ v. list_any (λ x. is_forward_of v x.letter) l.taken) (sym is_own) ∙ forward_new s l t.sender q sort body ask n f) (right (same_op o q) _ k))
      forward_step w a t e q sort body ask n g k f same = absurd (let bad : false ≡ true = k in cc)

      asked_step : (w : What) → Comes s F u place before l (marked w) → HeldOrOver (entries before ++ entry w ∷ []) (step_connection_ledger s l (marked w))
      asked_step w c = by (passes (λ t. is_forward_for op t.letter) mark) refl
        where
          letter : (t : Taken) → mark ≡ Some t → (x : Letter) → t.letter ≡ x → is_forward_for op x ≡ true → marks_connection l.state w x ≡ true → fits_connection s l t.sender x ≡ true → ((next w).holder ≡ Some op) ⊎ After w
          letter t e (Forward q sort body ask n) g i k f = forward_step w (begins_at w c.begun t e) t e q sort body ask n g k f (sym (same_op_eq op n i))
          letter t e _ g i k f = absurd (let bad : false ≡ true = i in cc)

          came : (m : Option Taken) → mark ≡ m → passes (λ t. is_forward_for op t.letter) m ≡ true → has_connection_mark l.state (record { entry = entry w; mark = m }) ≡ true → ((next w).holder ≡ Some op) ⊎ After w
          came None e i k = absurd (let bad : false ≡ true = i in cc)
          came (Some t) e i k = letter t e t.letter refl i k (c.fit t e)

          by : (b : Bool) → passes (λ t. is_forward_for op t.letter) mark ≡ b → HeldOrOver (entries before ++ entry w ∷ []) (step_connection_ledger s l (marked w))
          by true e = inr (came mark refl e c.marked)
          by false e = inl (record { new = none_more mark e; free = free_next e w })

    -- Behind an entry.
    pub status_step : (w : What) → Comes s F u place before l (marked w) → is_missed_caused (entries before) (entry w) ≡ true → NextHere w → HeldOrOver (entries before) l → HeldOrOver (entries before ++ entry w ∷ []) (step_connection_ledger s l (marked w))
    status_step w c caused k (inl h) = asked_step h w c
    status_step w c caused k (inr (inl e)) = inr (held_step e w c k)
    status_step w c caused k (inr (inr o)) = inr (inr (stays w caused o))

    -- where its Leave comes it is over, or the Leave takes the connection down
    leave_comes : (w : What) → Comes s F u place before l (marked w) → HeldOrOver (entries before) l → passes (λ t. is_leave_of op t.letter) mark ≡ true → Over s F u (entries before) op ⊎ ((l.state.holder ≡ Some op) × ((why : EndWhy) × (w ≡ what.Down why)))
    leave_comes w c status leave = by mark refl leave c.marked
      where
        Comes_to : What → Type 0
        Comes_to v = Over s F u (entries before) op ⊎ ((l.state.holder ≡ Some op) × ((why : EndWhy) × (v ≡ what.Down why)))

        took : (t : Taken) → mark ≡ Some t → t.letter ≡ Leave op → was_held op l.taken ≡ true
        took t e g = was_taken (is_forward_for op) (is_leave_of op) t.sender l.taken (right (is_bind l.state) _ (subst (λ x. fits_connection s l t.sender x ≡ true) g (c.fit t e)))

        held_there : l.state.holder ≡ Some op → holds l.state op ≡ true
        held_there e = ap (passes (same_op op)) e ∙ same_op_refl op

        marks : (v : What) → Head s F u before l → l.state.holder ≡ Some op → marks_connection l.state v (Leave op) ≡ true → Comes_to v
        marks (what.Down why) a e j = inr (e, (why, refl))
        marks (what.Idle o) a e j = not_idle l.state.down refl (right (same_op o op && is_bind l.state) _ j)
          where
            not_idle : (d : Bool) → l.state.down ≡ d → not (holds l.state op && not d) ≡ true → Comes_to (what.Idle o)
            not_idle true i g = absurd (let bad : Some op ≡ None = sym e ∙ a.knows.keeps.stands.gone i in cc)
            not_idle false i g = absurd (let bad : false ≡ true = sym (ap (λ b. not (b && true)) (held_there e)) ∙ g in cc)
        marks v a e j = absurd (let bad : false ≡ true = j in cc)

        of : (t : Taken) → mark ≡ Some t → t.letter ≡ Leave op → marks_connection l.state w (Leave op) ≡ true → HeldOrOver (entries before) l → Comes_to w
        of t e g j (inl h) = absurd (let bad : false ≡ true = sym h.new ∙ took t e g in cc)
        of t e g j (inr (inl i)) = marks w (begins_at w c.begun t e) i j
        of t e g j (inr (inr o)) = inl o

        letter : (t : Taken) → mark ≡ Some t → (x : Letter) → t.letter ≡ x → is_leave_of op x ≡ true → marks_connection l.state w x ≡ true → Comes_to w
        letter t e (Leave o) g i j =
            let same : o ≡ op = sym (same_op_eq op o i) in
            of t e (g ∙ ap Leave same) (subst (λ v. marks_connection l.state w (Leave v) ≡ true) same j) status
        letter t e _ g i j = absurd (let bad : false ≡ true = i in cc)

        by : (m : Option Taken) → mark ≡ m → passes (λ t. is_leave_of op t.letter) m ≡ true → has_connection_mark l.state (record { entry = entry w; mark = m }) ≡ true → Comes_to w
        by None e i j = absurd (let bad : false ≡ true = i in cc)
        by (Some t) e i j = letter t e t.letter refl i j

    -- behind its Leave it is over
    pub left_over : (w : What) → Comes s F u place before l (marked w) → is_missed_caused (entries before) (entry w) ≡ true → NextHere w → HeldOrOver (entries before) l → passes (λ t. is_leave_of op t.letter) mark ≡ true → After w
    left_over w c caused k status leave = by (leave_comes w c status leave)
      where
        by : Over s F u (entries before) op ⊎ ((l.state.holder ≡ Some op) × ((why : EndWhy) × (w ≡ what.Down why))) → After w
        by (inl o) = stays w caused o
        by (inr e) = subst After (sym e.1.1) (down_over e.0 e.1.0 (subst NextHere e.1.1 k))

    -- and where the Leave comes to nothing it was over before
    pub idle_over : (o : OpName) → Comes s F u place before l (marked (what.Idle o)) → HeldOrOver (entries before) l → passes (λ t. is_leave_of op t.letter) mark ≡ true → Over s F u (entries before) op
    idle_over o c status leave = by (leave_comes (what.Idle o) c status leave)
      where
        by : Over s F u (entries before) op ⊎ ((l.state.holder ≡ Some op) × ((why : EndWhy) × (what.Idle o ≡ what.Down why))) → Over s F u (entries before) op
        by (inl j) = j
        by (inr e) = absurd (let bad : what.Idle o ≡ what.Down e.1.0 = e.1.1 in cc)
