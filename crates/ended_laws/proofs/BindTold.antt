-- What a bind connection told the desk of its holder's end: the operation that was chosen for the exchange is over there.
use Rattle.std.proofs.Common.{◌≡◌, ◌⊎◌, inl, inr, ℕ, Bool, true, false, ◌&&◌, ◌||◌, not, List, [], ◌∷◌, ◌++◌, refl, ap, ◌∙◌, sym, subst, append_assoc}
use Rattle.std.specs.Prelude.{Option, Some, None, map, option_map, if◌then◌else◌}
use Rattle.std.specs.List.{list_any}
use Rattle.std.specs.Str.{bytes_eq}
use Rattle.lload_names.specs.Same.{same_letter}
use Rattle.lload_names.specs.declared.names.ConnKind.TheVariants.{Bind as BindKind}
use Rattle.lload_names.specs.declared.names.EndWhy.{EndWhy}
use Rattle.lload_names.specs.declared.names.Entry.{Entry}
use Rattle.lload_names.specs.declared.names.Letter.{Letter}
use Rattle.lload_names.specs.declared.names.Letter.TheVariants.{Ended, Forward}
use Rattle.lload_names.specs.declared.names.OpName.{OpName}
use Rattle.lload_names.specs.declared.names.PartName.{PartName}
use Rattle.lload_names.specs.declared.names.PartName.TheVariants.{Desk}
use Rattle.lload_names.specs.declared.names.What.{What}
use Rattle.lload_names.specs.declared.names.What.TheVariants as what
use Rattle.lload_spec.specs.Answers.{sending_made, sendings}
use Rattle.lload_spec.specs.BadMessages.{is_bad}
use Rattle.lload_spec.specs.CausedUp.{is_missed_caused, is_stopped as is_stopped_at}
use Rattle.lload_spec.specs.Entries.{is_down, is_linked, is_missed, is_of_connection, is_retired, is_sent, sent_message}
use Rattle.lload_spec.specs.Journal.{Family, same_op}
use Rattle.lload_spec.specs.Lists.{agrees, each_split_from, implies, last, passes, where_there}
use Rattle.lload_spec.specs.Settings.{Settings, is_kind, is_of_kind}
use Rattle.lload_spec.specs.Strict.{is_empty, lives_as_connection, may_follow_down}
use Rattle.lload_spec.proofs.Growth.{left, right}
use Rattle.lload_laws.specs.ConnectionGrowth.{later_sending}
use Rattle.lload_laws.proofs.ConnectionGrowth.{sendings_grow}
use Rattle.lload_laws.proofs.ListLaws.{any_imply}
use Rattle.part_laws.proofs.ListLaws.{any_before, any_behind, any_split, false_by, none_of_both, or_elim, or_left, or_right, same_op_eq, same_op_refl}
use Rattle.part_spec.specs.ConnectionState.{ConnectionState, connection_behind, frees_holder, holder_sent, is_bind, is_stopped, message_facts, step_connection}
use Rattle.part_spec.specs.Fit.{ConnectionLedger, are_fit_from, fits_connection, is_forward_of, is_free_for, is_held_for, is_unfit, step_connection_ledger}
use Rattle.part_spec.specs.Gives.{connection_gives, connection_letters}
use Rattle.part_spec.specs.Marked.{Marked, Taken, entries, letters_to}
use Rattle.part_spec.specs.Marks.{each_from, has_connection_mark, marks_connection}
use Rattle.part_spec.specs.Share.{each_place, is_expired_due, is_sent_once}
use Rattle.connection_laws.proofs.Permits.{push_entry}
use Rattle.bind_laws.specs.Turns.{are_told_rightly, is_told_rightly}
use Rattle.bind_laws.proofs.BindShare.{begins_alone}
use Rattle.bind_laws.proofs.Lone.{no_own}
use Rattle.joined_laws.proofs.Taken.{is_fit_there, letters_to_both}
use Rattle.upstream_laws.proofs.Answered.{last_stays}
use Rattle.upstream_laws.proofs.BindDowns.{Unheld, unheld_behind}
use Rattle.upstream_laws.proofs.BindEnds.{Here, here_step}
use Rattle.upstream_laws.proofs.Heads.{AtHeads, Head, Tail}
use Rattle.upstream_laws.proofs.Held.{is_letting}
use Rattle.carried_laws.proofs.TurnHeads.{is_no_message}
use Rattle.ended_laws.proofs.BindLetters.{Answers, Identifies, Owes, bind_ends, holds_by}
use Rattle.ended_laws.proofs.BindOver.{BindTold, OverSent, bind_more, is_its, last_one, sent_more}
use Rattle.ended_laws.proofs.BindSettled.{last_over}
use Rattle.ended_laws.proofs.Letters.{told_end}
use Rattle.ended_laws.proofs.RegularEnds.{forward_new, stays_all}

-- who holds the connection, and who held it when it went down, was sent there
abbrev pub Held : ℕ → List Entry → ConnectionState → Type 0
Held u place p = (n : OpName) → (p.holder ≡ Some n) ⊎ (p.lost ≡ Some n) → list_any (is_its n) (sendings u place) ≡ true

pub some_same : (n : OpName) (o : Option OpName) → passes (same_op n) o ≡ true → o ≡ Some n
some_same n None h = absurd (let bad : false ≡ true = h in cc)
some_same n (Some q) h = ap Some (sym (same_op_eq n q h))

module _ (s : Settings) (F : Family) (u : ℕ) (place : is_of_kind s BindKind u ≡ true) where
  module _ (before : List Marked) (l : ConnectionLedger) (h : Here s F u before l) (held : Held u (entries before) l.state) (part : PartName) (at : ℕ) (mark : Option Taken) where
    abbrev entry : What → Entry
    entry w = record { part = part; at = at; what = w }

    abbrev marked : What → Marked
    marked w = record { entry = entry w; mark = mark }

    bind : is_bind l.state ≡ true
    bind = ap (is_kind BindKind) h.kind

    -- Who holds it next.
    old : (w : What) (n : OpName) → (l.state.holder ≡ Some n) ⊎ (l.state.lost ≡ Some n) → list_any (is_its n) (sendings u (entries before ++ entry w ∷ [])) ≡ true
    old w n k = sent_more s F u n (entries before) (entry w) (held n k)

    -- the holder of a Forward was sent, or is sent now
    forward_held : (id : ℕ) (op : OpName) (rest : List ℕ) (q holder : OpName) → same_op op q ≡ true → is_held_for l.state q holder ≡ true → list_any (is_its holder) (sendings u (entries before ++ entry (what.Sent id op rest) ∷ [])) ≡ true
    forward_held id op rest q holder same k =
        or_elim (same_op q holder || passes (same_op holder) l.state.holder) (passes (same_op holder) l.state.lost)
        (λ j. or_elim (same_op q holder) (passes (same_op holder) l.state.holder) new (λ i. old (what.Sent id op rest) holder (inl (some_same holder l.state.holder i))) j)
        (λ j. old (what.Sent id op rest) holder (inr (some_same holder l.state.lost j))) k
      where
        new : same_op q holder ≡ true → list_any (is_its holder) (sendings u (entries before ++ entry (what.Sent id op rest) ∷ [])) ≡ true
        new j = ap (list_any (is_its holder)) (sendings_grow u (entries before) (entry (what.Sent id op rest))) ∙ any_behind (is_its holder) (map (later_sending (entry (what.Sent id op rest))) (sendings u (entries before))) (sending_made u (entries before) (entry (what.Sent id op rest)) [] (sent_message (what.Sent id op rest))) (or_left (same_op holder op) false (ap (λ n. same_op n op) (sym (same_op_eq q holder j) ∙ sym (same_op_eq op q same)) ∙ same_op_refl op))

    -- a Forward that is fit, by what it is to the connection
    free_so : (a : Bool) (q holder : OpName) → (a && (not (is_bind l.state) || is_free_for l.state holder && is_held_for l.state q holder)) ≡ true → is_held_for l.state q holder ≡ true
    free_so a q holder k = or_elim (not (is_bind l.state)) (is_free_for l.state holder && is_held_for l.state q holder) (λ j. absurd (let bad : false ≡ true = sym (ap not bind) ∙ j in cc)) (λ j. right (is_free_for l.state holder) _ j) (right a _ k)

    sent_held : (id : ℕ) (op : OpName) (rest : List ℕ) (t : Taken) (x : Letter) → marks_connection l.state (what.Sent id op rest) x ≡ true → fits_connection s l t.sender x ≡ true → (n : OpName) → holder_sent l.state x ≡ Some n → list_any (is_its n) (sendings u (entries before ++ entry (what.Sent id op rest) ∷ [])) ≡ true
    sent_held id op rest t (Forward q sort body ask holder) k f n e =
        let same : holder ≡ n = (let some : Some holder ≡ Some n = sym (ap (λ b. if b then Some holder else None) bind) ∙ e in cc) in
        subst (λ v. list_any (is_its v) (sendings u (entries before ++ entry (what.Sent id op rest) ∷ [])) ≡ true) same (forward_held id op rest q holder (left (same_op op q) _ (left (same_op op q && bytes_eq rest body) _ k)) (free_so _ q holder f))
    sent_held id op rest t _ k f n e = absurd (let bad : false ≡ true = k in cc)

    pub held_next : (w : What) → has_connection_mark l.state (marked w) ≡ true → ((t : Taken) → mark ≡ Some t → fits_connection s l t.sender t.letter ≡ true) → Held u (entries before ++ entry w ∷ []) (connection_behind s (entry w) mark l.state w)
    held_next (what.Got id rest) k f n (inl e) = by (frees_holder l.state (record { id = id; rest = rest })) e
      where
        by : (b : Bool) → (if b then None else l.state.holder) ≡ Some n → list_any (is_its n) (sendings u (entries before ++ entry (what.Got id rest) ∷ [])) ≡ true
        by true j = absurd (let bad : None ≡ Some n = j in cc)
        by false j = old (what.Got id rest) n (inl j)
    held_next (what.Got id rest) k f n (inr e) = old (what.Got id rest) n (inr e)
    held_next (what.Sent id op rest) k f n (inl e) = by mark refl k e
      where
        by : (o : Option Taken) → mark ≡ o → has_connection_mark l.state (record { entry = entry (what.Sent id op rest); mark = o }) ≡ true → (connection_behind s (entry (what.Sent id op rest)) o l.state (what.Sent id op rest)).holder ≡ Some n → list_any (is_its n) (sendings u (entries before ++ entry (what.Sent id op rest) ∷ [])) ≡ true
        by None i j g = absurd (let bad : false ≡ true = j in cc)
        by (Some t) i j g = sent_held id op rest t t.letter j (f t i) n g
    held_next (what.Sent id op rest) k f n (inr e) = old (what.Sent id op rest) n (inr e)
    held_next (what.Missed op) k f n (inl e) = absurd (let bad : None ≡ Some n = e in cc)
    held_next (what.Missed op) k f n (inr e) = old (what.Missed op) n (inr e)
    held_next (what.Down why) k f n (inl e) = absurd (let bad : None ≡ Some n = e in cc)
    held_next (what.Down why) k f n (inr e) = old (what.Down why) n (inl e)
    held_next what.Linked k f n e = old what.Linked n e
    held_next w k f n e = old w n e

    -- What is given.
    abbrev So : What → OpName → Option ℕ → Type 0
    So w n told = BindTold s F u (entries before ++ entry w ∷ []) n told

    stuck : (w : What) (n : OpName) → sent_message w ≡ None → is_letting (entry w) ≡ true → is_stopped_at (entries before ++ entry w ∷ []) ≡ true → (l.state.holder ≡ Some n) ⊎ (l.state.lost ≡ Some n) → So w n None
    stuck w n none lets stops k = record { none = refl; over = inr (inl (record { stopped = stops; sent = old w n k; unheld = subst (Unheld s F) (sym (last_stays u (entries before) (entry w) none)) (unheld_behind s F (entry w) (last (sendings u (entries before))) lets) })) }

    stopped : is_stopped l.state ≡ true → is_stopped_at (entries before) ≡ true
    stopped j = or_elim l.state.retired l.state.down
        (λ i. any_imply (λ y. is_retired y.what) (λ y. is_retired y.what || is_down y) (entries before) (λ y n. or_left (is_retired y.what) _ n) (sym h.says.retired ∙ i))
        (λ i. any_imply is_down (λ y. is_retired y.what || is_down y) (entries before) (λ y n. or_right (is_retired y.what) _ n) (sym h.says.down ∙ i)) j

    not_down : implies (list_any is_down (entries before)) false ≡ true → l.state.down ≡ false
    not_down a = h.says.down ∙ by (list_any is_down (entries before)) a
      where
        by : (b : Bool) → implies b false ≡ true → b ≡ false
        by true j = absurd (let bad : false ≡ true = j in cc)
        by false j = refl

    -- by a message
    got_told : (id : ℕ) (rest : List ℕ) → Head s F u before l → l.state.down ≡ false → is_bad (message_facts l.state) (record { id = id; rest = rest }) ≡ false → Answers l.state (record { id = id; rest = rest }) ⊎ Identifies l.state (record { id = id; rest = rest }) → (n : OpName) → l.state.holder ≡ Some n → So (what.Got id rest) n None
    got_told id rest a there good told n e =
        let it = last_over s F u (entries before) l.state (no_own s u (entries before) l.state (begins_alone s u place) a.knows.keeps.keeps.stands.own) a.knows.keeps.stands.lone ((a.knows.tells a.told).sents there refl) part at id rest good told in
        record { none = refl; over = inl (last_one (λ x. OverSent s F x) n (sendings u (entries before ++ entry (what.Got id rest) ∷ [])) (later_sending (entry (what.Got id rest)) it.0) (old (what.Got id rest) n (inl e)) (last_stays u (entries before) (entry (what.Got id rest)) refl ∙ ap (option_map (later_sending (entry (what.Got id rest)))) it.1) it.2) }

    -- by a Forward that is missed
    missed_told : (op : OpName) → Head s F u before l → (t : Taken) (x : Letter) (holder : OpName) → marks_connection l.state (what.Missed op) x ≡ true → fits_connection s l t.sender x ≡ true → holds_by x ≡ Some holder → So (what.Missed op) holder None
    missed_told op a t (Forward q sort body ask keeper) holder k f e =
        let same : keeper ≡ holder = (let some : Some keeper ≡ Some holder = e in cc) in
        subst (λ n. So (what.Missed op) n None) same (or_elim (same_op q keeper || passes (same_op keeper) l.state.holder) (passes (same_op keeper) l.state.lost) (λ j. or_elim (same_op q keeper) (passes (same_op keeper) l.state.holder) own (λ i. stays (inl (some_same keeper l.state.holder i))) j) (λ j. stays (inr (some_same keeper l.state.lost j))) (free_so _ q keeper f))
      where
        stops : is_stopped_at (entries before ++ entry (what.Missed op) ∷ []) ≡ true
        stops = any_before (λ y. is_retired y.what || is_down y) (entries before) (entry (what.Missed op) ∷ []) (stopped (right (same_op op q) _ k))

        stays : (l.state.holder ≡ Some keeper) ⊎ (l.state.lost ≡ Some keeper) → So (what.Missed op) keeper None
        stays i = stuck (what.Missed op) keeper refl refl stops i

        fresh : list_any (λ v. is_forward_of q v.letter) l.taken ≡ false
        fresh = forward_new s l t.sender q sort body ask keeper f

        own : same_op q keeper ≡ true → So (what.Missed op) keeper None
        own j =
            let is_q : q ≡ keeper = same_op_eq q keeper j in
            let is_op : op ≡ keeper = same_op_eq op q (left (same_op op q) _ k) ∙ is_q in
            let unsent : list_any (is_sent keeper) (entries before) ≡ false = false_by (list_any (is_sent keeper) (entries before)) (λ i. sym fresh ∙ ap (λ n. list_any (λ v. is_forward_of n v.letter) l.taken) is_q ∙ a.knows.keeps.keeps.stands.sent keeper i) in
            record { none = refl; over = inr (inr (record { none = refl; missed = any_behind (is_missed keeper) (entries before) (entry (what.Missed op) ∷ []) (or_left (same_op keeper op) false (ap (same_op keeper) is_op ∙ same_op_refl keeper)); unsent = none_of_both (is_sent keeper) (entries before) (entry (what.Missed op) ∷ []) unsent refl; stopped = stops })) }
    missed_told op a t _ holder k f e = absurd (let bad : false ≡ true = k in cc)

    -- a mark stands where a turn begins
    begins : (w : What) (t : Taken) → mark ≡ Some t → Head s F u before l ⊎ Tail (marked w) → Head s F u before l
    begins w t e (inl a) = a
    begins w t e (inr a) = absurd (let bad : Some t ≡ None = sym e ∙ a.unmarked in cc)

    owes : (w : What) → Head s F u before l ⊎ Tail (marked w) → implies (list_any is_down (entries before)) (may_follow_down w) ≡ true → has_connection_mark l.state (marked w) ≡ true → ((t : Taken) → mark ≡ Some t → fits_connection s l t.sender t.letter ≡ true) → Owes l.state mark w (So w)
    owes w begun alive k f = record { got = λ id rest e good told n i. got_so id rest e good told n i; missed = λ op e t i x holder g j lost. missed_so op e t i x holder g j; down = λ why e n i. down_so why e n i }
      where
        got_so : (id : ℕ) (rest : List ℕ) → w ≡ what.Got id rest → is_bad (message_facts l.state) (record { id = id; rest = rest }) ≡ false → Answers l.state (record { id = id; rest = rest }) ⊎ Identifies l.state (record { id = id; rest = rest }) → (n : OpName) → l.state.holder ≡ Some n → So w n None
        got_so id rest e good told n i = by begun
          where
            by : Head s F u before l ⊎ Tail (marked w) → So w n None
            by (inl a) = subst (λ v. So v n None) (sym e) (got_told id rest a (not_down (ap (λ v. implies (list_any is_down (entries before)) (may_follow_down v)) (sym e) ∙ alive)) good told n i)
            by (inr a) = absurd (let bad : false ≡ true = ap is_no_message (sym e) ∙ a.quiet in cc)

        missed_so : (op : OpName) → w ≡ what.Missed op → (t : Taken) → mark ≡ Some t → (x : Letter) (holder : OpName) → t.letter ≡ x → holds_by x ≡ Some holder → So w holder None
        missed_so op e t i x holder g j = subst (λ v. So v holder None) (sym e) (missed_told op (begins w t i begun) t x holder (ap (marks_connection l.state (what.Missed op)) (sym g) ∙ ap (λ v. marks_connection l.state v t.letter) (sym e) ∙ ap (λ o. has_connection_mark l.state (record { entry = entry w; mark = o })) (sym i) ∙ k) (ap (fits_connection s l t.sender) (sym g) ∙ f t i) j)

        down_so : (why : EndWhy) → w ≡ what.Down why → (n : OpName) → l.state.holder ≡ Some n → So w n None
        down_so why e n i = subst (λ v. So v n None) (sym e) (stuck (what.Down why) n refl refl (any_behind (λ y. is_retired y.what || is_down y) (entries before) (entry (what.Down why) ∷ []) refl) (inl i))

  abbrev once_so : ConnectionState → List Marked → Marked → List Marked → Bool
  once_so p b m behind = is_sent_once p (entries b) m

  abbrev due_so : ConnectionState → List Marked → Marked → List Marked → Bool
  due_so p b m behind = is_expired_due s p m behind

  abbrev lives_so : List Entry → Entry → List Entry → Bool
  lives_so b e behind = is_of_connection e.what && lives_as_connection b e

  abbrev caused_so : List Entry → Entry → List Entry → Bool
  caused_so b e behind = is_missed_caused b e

  module _ (op : OpName) (told : Option ℕ) where
    abbrev tells : Letter → Bool
    tells x = same_letter (Ended op u told) x

    pub bind_told : (ms before : List Marked) (l : ConnectionLedger) → AtHeads s F u before l ms → Here s F u before l → Held u (entries before) l.state → are_fit_from (fits_connection s) (step_connection_ledger s) l ms ≡ true → each_from (step_connection s) has_connection_mark l.state ms ≡ true → each_place (step_connection s) once_so l.state before ms ≡ true → each_split_from lives_so (entries before) (entries ms) ≡ true → are_told_rightly s F ms ≡ true → each_place (step_connection s) due_so l.state before ms ≡ true → each_split_from caused_so (entries before) (entries ms) ≡ true → list_any tells (letters_to Desk (connection_gives s l.state ms)) ≡ true → BindTold s F u (entries before ++ entries ms) op told
    bind_told [] before l a h held fit marks once life rightly due caused k = absurd (let bad : false ≡ true = k in cc)
    bind_told (m ∷ ms) before l a h held fit marks once life rightly due caused k =
        let alive : implies (list_any is_down (entries before)) (may_follow_down m.entry.what) ≡ true = right (agrees (is_linked m.entry.what) (is_empty (entries before))) _ (left (agrees (is_linked m.entry.what) (is_empty (entries before)) && implies (list_any is_down (entries before)) (may_follow_down m.entry.what)) _ (right (is_of_connection m.entry.what) _ (left (lives_so (entries before) m.entry (entries ms)) _ life))) in
        let mark_here : has_connection_mark l.state m ≡ true = left (has_connection_mark l.state m) _ marks in
        let here : Here s F u (before ++ m ∷ []) (step_connection_ledger s l m) = here_step s F u place before l h m.entry.part m.entry.at m.mark m.entry.what ms (record { begun = a.0; marked = mark_here; once = left (is_sent_once l.state (entries before) m) _ once; alive = alive; told = left (where_there (λ t. is_told_rightly s F t.letter) m.mark) _ rightly; fit = fit_here }) (left (is_expired_due s l.state m ms) _ due) in
        let next : Held u (entries before ++ m.entry ∷ []) (step_connection s l.state m) = held_next before l h held m.entry.part m.entry.at m.mark m.entry.what mark_here fit_here in
        any_split tells (letters_to Desk (connection_letters s l.state m.entry.at m.mark m.entry.what)) (letters_to Desk (connection_gives s (step_connection s l.state m) ms))
        (λ j. subst (λ b. BindTold s F u b op told) (append_assoc (entries before) (m.entry ∷ []) (entries ms)) (stays_all (λ b. BindTold s F u b op told) (bind_more s F u op told) (entries before ++ m.entry ∷ []) (entries ms) (right (is_missed_caused (entries before) m.entry) _ caused) (told_end (λ o t. BindTold s F u (entries before ++ m.entry ∷ []) o t) op u told (connection_letters s l.state m.entry.at m.mark m.entry.what) (bind_ends s l.state h.kind (λ o t. BindTold s F u (entries before ++ m.entry ∷ []) o t) m.entry.at m.mark m.entry.what (owes before l h held m.entry.part m.entry.at m.mark m.entry.what a.0 alive mark_here fit_here)) j)))
        (λ j. subst (λ b. BindTold s F u b op told) (ap (λ b. b ++ entries ms) (push_entry before m) ∙ append_assoc (entries before) (m.entry ∷ []) (entries ms)) (bind_told ms (before ++ m ∷ []) (step_connection_ledger s l m) a.1 here (subst (λ b. Held u b (step_connection s l.state m)) (sym (push_entry before m)) next) (right (not (is_unfit (fits_connection s) l m.mark)) _ fit) (right (has_connection_mark l.state m) _ marks) (right (is_sent_once l.state (entries before) m) _ once) (subst (λ b. each_split_from lives_so b (entries ms) ≡ true) (sym (push_entry before m)) (right (lives_so (entries before) m.entry (entries ms)) _ life)) (right (where_there (λ t. is_told_rightly s F t.letter) m.mark) _ rightly) (right (is_expired_due s l.state m ms) _ due) (subst (λ b. each_split_from caused_so b (entries ms) ≡ true) (sym (push_entry before m)) (right (is_missed_caused (entries before) m.entry) _ caused)) j))
        (sym (ap (list_any tells) (letters_to_both Desk (connection_letters s l.state m.entry.at m.mark m.entry.what) (connection_gives s (step_connection s l.state m) ms))) ∙ k)
      where
        fit_here : (t : Taken) → m.mark ≡ Some t → fits_connection s l t.sender t.letter ≡ true
        fit_here t e = is_fit_there (fits_connection s) l t (are_fit_from (fits_connection s) (step_connection_ledger s) (step_connection_ledger s l m) ms) (ap (λ q. not (is_unfit (fits_connection s) l q) && are_fit_from (fits_connection s) (step_connection_ledger s) (step_connection_ledger s l m) ms) (sym e) ∙ fit)
