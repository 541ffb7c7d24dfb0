-- Where nothing waits the desk heard the end of each operation that it chose and that is over.
use Rattle.std.proofs.Common.{◌≡◌, ◌⊎◌, inl, inr, ℕ, Bool, true, false, ◌==◌, ◌&&◌, not, List, [], ◌∷◌, ◌++◌, refl, ap, ◌∙◌, sym, subst, append_assoc}
use Rattle.std.specs.Prelude.{Option, Some, None}
use Rattle.std.specs.List.{list_all, list_any}
use Rattle.lload_names.specs.declared.names.Answer.{Answer}
use Rattle.lload_names.specs.declared.names.Answer.TheVariants.{Go}
use Rattle.lload_names.specs.declared.names.ConnKind.TheVariants.{Bind as BindKind}
use Rattle.lload_names.specs.declared.names.Entry.{Entry}
use Rattle.lload_names.specs.declared.names.Letter.{Letter}
use Rattle.lload_names.specs.declared.names.Letter.TheVariants.{Ask, Forward}
use Rattle.lload_names.specs.declared.names.OpName.{OpName}
use Rattle.lload_names.specs.declared.names.PartName.{PartName}
use Rattle.lload_names.specs.declared.names.PartName.TheVariants.{Client, Desk, Up as Connection}
use Rattle.lload_names.specs.declared.names.Want.{Want}
use Rattle.lload_names.specs.declared.names.What.{What}
use Rattle.lload_names.specs.declared.names.What.TheVariants as what
use Rattle.lload_spec.specs.Answers.{sendings}
use Rattle.lload_spec.specs.Entries.{Named, asked, chose, is_missed, is_sent, word_of}
use Rattle.lload_spec.specs.Journal.{Family, same_op, same_part}
use Rattle.lload_spec.specs.Lists.{each_split_from, implies, passes, where_there}
use Rattle.lload_spec.specs.Over.{from_sent, is_over_at}
use Rattle.lload_spec.specs.Right.{asked_last, is_answered, is_right_choice, is_right_for, is_right_plan}
use Rattle.lload_spec.specs.Settings.{Settings, is_of_kind, place_at}
use Rattle.lload_spec.specs.Settled.{is_chose_settled, is_end_heard, is_over_by}
use Rattle.lload_spec.proofs.Growth.{both, left, right}
use Rattle.lload_laws.proofs.ListLaws.{implies_by}
use Rattle.part_laws.proofs.ListLaws.{any_before, eqb_same, or_elim, or_left, or_right, same_op_eq, same_op_sym}
use Rattle.part_spec.specs.ClientState.{empty_client}
use Rattle.part_spec.specs.ConnectionState.{ConnectionState, empty_connection, step_connection}
use Rattle.part_spec.specs.Fit.{ConnectionLedger, DeskLedger, are_fit_from, empty_connection_ledger, empty_desk_ledger, fits_connection, fits_desk, is_ask_of, is_forward_of, is_of_its_kind, is_unfit, step_connection_ledger, step_desk_ledger}
use Rattle.part_spec.specs.Gives.{client_gives, gives}
use Rattle.part_spec.specs.Marked.{Marked, Taken, entries}
use Rattle.part_spec.specs.Marks.{each_from, has_connection_mark, has_desk_mark, marks_connection, marks_desk, must_mark_connection, must_mark_desk}
use Rattle.part_spec.specs.Share.{DeskShare}
use Rattle.connection_laws.proofs.Pausings.{client_is}
use Rattle.joined_laws.proofs.Taken.{is_fit_there, is_mark_from, was_given}
use Rattle.settled_laws.specs.Laws.{Rested}
use Rattle.carried_laws.specs.Laws.{Played}
use Rattle.upstream_laws.proofs.Places.{by_kind, placeless}
use Rattle.ended_laws.proofs.Latencies.{share}
use Rattle.ended_laws.proofs.RegularTold.{unsent_from}
use Rattle.heard_laws.specs.Laws.{EachEndIsHeard, HolderEndsAreHeard, RegularEndsAreHeard, is_first_forward, took_first}
use Rattle.heard_laws.proofs.AskedOrPinned.{any_of, any_to, asked_or_pinned, is_other_forward}

-- whether a list took a letter that passes
abbrev took : (Letter → Bool) → List Marked → Bool
took test ms = list_any (λ m. passes (λ t. test t.letter) m.mark) ms

-- from whom it was taken
from_sender : {A : Type 0} (fits : A → PartName → Letter → Bool) (step : A → Marked → A) (test : Letter → Bool) (p : PartName) → ((l : A) (sender : PartName) (x : Letter) → fits l sender x ≡ true → test x ≡ true → same_part p sender ≡ true) → (l : A) (ms : List Marked) → are_fit_from fits step l ms ≡ true → took test ms ≡ true → list_any (λ m. is_mark_from p test m.mark) ms ≡ true
from_sender fits step test p own l [] f h = h
from_sender fits step test p own l (m ∷ ms) f h = or_elim (passes (λ t. test t.letter) m.mark) (took test ms) (λ k. or_left (is_mark_from p test m.mark) (list_any (λ x. is_mark_from p test x.mark) ms) (here m.mark f k)) (λ k. or_right (is_mark_from p test m.mark) (list_any (λ x. is_mark_from p test x.mark) ms) (from_sender fits step test p own (step l m) ms (right (not (is_unfit fits l m.mark)) _ f) k)) h
  where
    here : (o : Option Taken) → (not (is_unfit fits l o) && are_fit_from fits step (step l m) ms) ≡ true → passes (λ t. test t.letter) o ≡ true → is_mark_from p test o ≡ true
    here None g k = k
    here (Some t) g k = both (same_part p t.sender) (test t.letter) (own l t.sender t.letter (is_fit_there fits l t (are_fit_from fits step (step l m) ms) g) k) k

of_client : (op o : OpName) (sender : PartName) → same_op op o ≡ true → same_part sender (Client o.client) ≡ true → same_part (Client op.client) sender ≡ true
of_client op o sender k f = ap (same_part (Client op.client)) (client_is sender o.client f) ∙ ap (λ (v : OpName). op.client == v.client) (sym (same_op_eq op o k)) ∙ eqb_same op.client

asks_own : (s : Settings) (op : OpName) (l : DeskLedger) (sender : PartName) (x : Letter) → fits_desk s l sender x ≡ true → is_ask_of op x ≡ true → same_part (Client op.client) sender ≡ true
asks_own s op l sender (Ask o want) f k = of_client op o sender k (left (same_part sender (Client o.client)) _ f)
asks_own s op l sender _ f k = absurd (let bad : false ≡ true = k in cc)

others_own : (s : Settings) (op : OpName) (l : ConnectionLedger) (sender : PartName) (x : Letter) → fits_connection s l sender x ≡ true → is_other_forward op x ≡ true → same_part (Client op.client) sender ≡ true
others_own s op l sender (Forward o sort rest ask holder) f k =
    let clients : Bool = same_part sender (Client o.client) && same_part sender (Client holder.client) in
    let first : Bool = not (list_any (λ v. is_forward_of o v.letter) l.taken) in
    of_client op o sender (left (same_op op o) _ k) (left (same_part sender (Client o.client)) _ (left clients _ (left (clients && first) _ (left (clients && first && l.state.up) _ (left (clients && first && l.state.up && is_of_its_kind s l.state sort rest ask) _ f)))))
others_own s op l sender _ f k = absurd (let bad : false ≡ true = k in cc)

-- a Forward is for its own operation as holder, or for another
forward_sort : (op : OpName) (ms : List Marked) → took (is_forward_of op) ms ≡ true → (took_first op ms ≡ true) ⊎ (took (is_other_forward op) ms ≡ true)
forward_sort op [] h = absurd (let bad : false ≡ true = h in cc)
forward_sort op (m ∷ ms) h = or_elim (passes (λ t. is_forward_of op t.letter) m.mark) (took (is_forward_of op) ms) (λ k. here (mark_sort m.mark k)) (λ k. later (forward_sort op ms k)) h
  where
    letter_sort : (x : Letter) → is_forward_of op x ≡ true → (is_first_forward op x ≡ true) ⊎ (is_other_forward op x ≡ true)
    letter_sort (Forward o sort rest ask holder) k = by (same_op op holder) refl
      where
        by : (b : Bool) → same_op op holder ≡ b → ((same_op op o && same_op op holder) ≡ true) ⊎ ((same_op op o && not (same_op op holder)) ≡ true)
        by true e = inl (both (same_op op o) (same_op op holder) k e)
        by false e = inr (both (same_op op o) (not (same_op op holder)) k (ap not e))
    letter_sort _ k = absurd (let bad : false ≡ true = k in cc)

    mark_sort : (o : Option Taken) → passes (λ t. is_forward_of op t.letter) o ≡ true → (passes (λ t. is_first_forward op t.letter) o ≡ true) ⊎ (passes (λ t. is_other_forward op t.letter) o ≡ true)
    mark_sort None k = absurd (let bad : false ≡ true = k in cc)
    mark_sort (Some t) k = letter_sort t.letter k

    here : (passes (λ t. is_first_forward op t.letter) m.mark ≡ true) ⊎ (passes (λ t. is_other_forward op t.letter) m.mark ≡ true) → (took_first op (m ∷ ms) ≡ true) ⊎ (took (is_other_forward op) (m ∷ ms) ≡ true)
    here (inl k) = inl (or_left (passes (λ t. is_first_forward op t.letter) m.mark) (took_first op ms) k)
    here (inr k) = inr (or_left (passes (λ t. is_other_forward op t.letter) m.mark) (took (is_other_forward op) ms) k)

    later : (took_first op ms ≡ true) ⊎ (took (is_other_forward op) ms ≡ true) → (took_first op (m ∷ ms) ≡ true) ⊎ (took (is_other_forward op) (m ∷ ms) ≡ true)
    later (inl k) = inl (or_right (passes (λ t. is_first_forward op t.letter) m.mark) (took_first op ms) k)
    later (inr k) = inr (or_right (passes (λ t. is_other_forward op t.letter) m.mark) (took (is_other_forward op) ms) k)

-- what is sent or missed was forwarded
entry_took : (s : Settings) (op : OpName) (test : Entry → Bool) → ((p : ConnectionState) (m : Marked) → has_connection_mark p m ≡ true → test m.entry ≡ true → passes (λ t. is_forward_of op t.letter) m.mark ≡ true) → (p : ConnectionState) (ms : List Marked) → each_from (step_connection s) has_connection_mark p ms ≡ true → list_any test (entries ms) ≡ true → took (is_forward_of op) ms ≡ true
entry_took s op test says p [] h k = k
entry_took s op test says p (m ∷ ms) h k = or_elim (test m.entry) (list_any test (entries ms)) (λ j. or_left (passes (λ t. is_forward_of op t.letter) m.mark) (took (is_forward_of op) ms) (says p m (left (has_connection_mark p m) _ h) j)) (λ j. or_right (passes (λ t. is_forward_of op t.letter) m.mark) (took (is_forward_of op) ms) (entry_took s op test says (step_connection s p m) ms (right (has_connection_mark p m) _ h) j)) k

renamed : (op o q : OpName) → same_op o q ≡ true → same_op op o ≡ true → same_op op q ≡ true
renamed op o q k j = ap (same_op op) (sym (same_op_eq o q k)) ∙ j

sent_took : (op : OpName) (p : ConnectionState) (m : Marked) → has_connection_mark p m ≡ true → is_sent op m.entry ≡ true → passes (λ t. is_forward_of op t.letter) m.mark ≡ true
sent_took op p m h k = by m.entry.what m.mark h k
  where
    letter : (id : ℕ) (o : OpName) (rest : List ℕ) (x : Letter) → marks_connection p (what.Sent id o rest) x ≡ true → same_op op o ≡ true → is_forward_of op x ≡ true
    letter id o rest (Forward q sort body ask holder) i j = renamed op o q (left (same_op o q) _ (left (same_op o q && _) _ i)) j
    letter id o rest _ i j = absurd (let bad : false ≡ true = i in cc)

    by : (w : What) (o : Option Taken) → (elim o [ None ↦ not (must_mark_connection p w) | Some t ↦ marks_connection p w t.letter ]) ≡ true → is_sent op (record { part = m.entry.part; at = m.entry.at; what = w }) ≡ true → passes (λ t. is_forward_of op t.letter) o ≡ true
    by (what.Sent id o rest) None i j = absurd (let bad : false ≡ true = i in cc)
    by (what.Sent id o rest) (Some t) i j = letter id o rest t.letter i j
    by _ o i j = absurd (let bad : false ≡ true = j in cc)

missed_took : (op : OpName) (p : ConnectionState) (m : Marked) → has_connection_mark p m ≡ true → is_missed op m.entry ≡ true → passes (λ t. is_forward_of op t.letter) m.mark ≡ true
missed_took op p m h k = by m.entry.what m.mark h k
  where
    letter : (o : OpName) (x : Letter) → marks_connection p (what.Missed o) x ≡ true → same_op op o ≡ true → is_forward_of op x ≡ true
    letter o (Forward q sort body ask holder) i j = renamed op o q (left (same_op o q) _ i) j
    letter o _ i j = absurd (let bad : false ≡ true = i in cc)

    by : (w : What) (o : Option Taken) → (elim o [ None ↦ not (must_mark_connection p w) | Some t ↦ marks_connection p w t.letter ]) ≡ true → is_missed op (record { part = m.entry.part; at = m.entry.at; what = w }) ≡ true → passes (λ t. is_forward_of op t.letter) o ≡ true
    by (what.Missed o) None i j = absurd (let bad : false ≡ true = i in cc)
    by (what.Missed o) (Some t) i j = letter o t.letter i j
    by _ o i j = absurd (let bad : false ≡ true = j in cc)

-- what the desk was asked it took
abbrev pub is_asked_for : OpName → Entry → Bool
is_asked_for op e = passes (λ a. same_op op a.op) (asked e.what)

asked_took : (op : OpName) (ms : List Marked) → list_all has_desk_mark ms ≡ true → list_any (is_asked_for op) (entries ms) ≡ true → took (is_ask_of op) ms ≡ true
asked_took op [] h k = k
asked_took op (m ∷ ms) h k = or_elim (is_asked_for op m.entry) (list_any (is_asked_for op) (entries ms)) (λ j. or_left (passes (λ t. is_ask_of op t.letter) m.mark) (took (is_ask_of op) ms) (by m.entry.what m.mark (left (has_desk_mark m) _ h) j)) (λ j. or_right (passes (λ t. is_ask_of op t.letter) m.mark) (took (is_ask_of op) ms) (asked_took op ms (right (has_desk_mark m) _ h) j)) k
  where
    letter : (o : OpName) (want : Want) (x : Letter) → marks_desk (what.Asked o want) x ≡ true → same_op op o ≡ true → is_ask_of op x ≡ true
    letter o want (Ask q w) i j = renamed op o q (left (same_op o q) _ i) j
    letter o want _ i j = absurd (let bad : false ≡ true = i in cc)

    by : (w : What) (o : Option Taken) → (elim o [ None ↦ not (must_mark_desk w) | Some t ↦ marks_desk w t.letter ]) ≡ true → passes (λ a. same_op op a.op) (asked w) ≡ true → passes (λ t. is_ask_of op t.letter) o ≡ true
    by (what.Asked o want) None i j = absurd (let bad : false ≡ true = i in cc)
    by (what.Asked o want) (Some t) i j = letter o want t.letter i j
    by _ o i j = absurd (let bad : false ≡ true = j in cc)

pub last_asked : (op : OpName) (place : List Entry) → passes (λ a. same_op op a.op) (asked_last place) ≡ true → list_any (is_asked_for op) place ≡ true
last_asked op [] h = absurd (let bad : false ≡ true = h in cc)
last_asked op (x ∷ []) h = or_left (is_asked_for op x) false h
last_asked op (x ∷ y ∷ ys) h = or_right (is_asked_for op x) (list_any (is_asked_for op) (y ∷ ys)) (last_asked op (y ∷ ys) h)

pub right_asked : (s : Settings) (place : List Entry) (w : ℕ) (c : Named Answer) (o : Option (Named Want)) → is_right_for s place w c o ≡ true → passes (λ a. same_op c.op a.op) o ≡ true
right_asked s place w c None h = absurd (let bad : false ≡ true = h in cc)
right_asked s place w c (Some a) h = same_op_sym c.op a.op ∙ left (same_op a.op c.op) _ h

module _ (regular : RegularEndsAreHeard) (holders : HolderEndsAreHeard) (s : Settings) (F : Family) (marked : PartName → List Marked) (h : Played s F marked) (rest : Rested s F marked) where
  over_took : (op : OpName) (u : ℕ) → is_over_at s F op u (from_sent op (sendings u (F.connection u))) ≡ true → took (is_forward_of op) (marked (Connection u)) ≡ true
  over_took op u over = by (list_any (is_sent op) (F.connection u)) refl
    where
      same : entries (marked (Connection u)) ≡ F.connection u
      same = h.joined.shared.same_entries (Connection u)

      by : (b : Bool) → list_any (is_sent op) (F.connection u) ≡ b → took (is_forward_of op) (marked (Connection u)) ≡ true
      by true e = entry_took s op (is_sent op) (sent_took op) (empty_connection s u) (marked (Connection u)) (share s F marked h u).marks (ap (list_any (is_sent op)) same ∙ e)
      by false e = entry_took s op (is_missed op) (missed_took op) (empty_connection s u) (marked (Connection u)) (share s F marked h u).marks (ap (list_any (is_missed op)) same ∙ sym (ap (is_over_at s F op u) (unsent_from u (F.connection u) op e)) ∙ over)

  asked_given : (op : OpName) → list_any (is_asked_for op) F.desk ≡ true → any_of (is_ask_of op) (client_gives s (empty_client op.client) (marked (Client op.client))) ≡ true
  asked_given op k =
      let taken : took (is_ask_of op) (marked Desk) ≡ true = asked_took op (marked Desk) (h.joined.linked.marks Desk) (ap (list_any (is_asked_for op)) (h.joined.shared.same_entries Desk) ∙ k) in
      any_to Desk (is_ask_of op) (gives s (Client op.client) (marked (Client op.client))) (was_given s F marked h.joined.linked (Client op.client) Desk (is_ask_of op) (from_sender (fits_desk s) (step_desk_ledger s) (is_ask_of op) (Client op.client) (asks_own s op) empty_desk_ledger (marked Desk) (h.joined.fit Desk) taken))

  other_given : (op : OpName) (u : ℕ) → took (is_other_forward op) (marked (Connection u)) ≡ true → any_of (is_other_forward op) (client_gives s (empty_client op.client) (marked (Client op.client))) ≡ true
  other_given op u k = any_to (Connection u) (is_other_forward op) (gives s (Client op.client) (marked (Client op.client))) (was_given s F marked h.joined.linked (Client op.client) (Connection u) (is_other_forward op) (from_sender (fits_connection s) (step_connection_ledger s) (is_other_forward op) (Client op.client) (others_own s op) (empty_connection_ledger s u) (marked (Connection u)) (h.joined.fit (Connection u)) k))

  chosen_heard : (op : OpName) (u : ℕ) → list_any (is_asked_for op) F.desk ≡ true → is_over_at s F op u (from_sent op (sendings u (F.connection u))) ≡ true → is_end_heard F op ≡ true
  chosen_heard op u asks over = by_kind s u (λ kind. regular s F marked h rest u kind op over) (λ kind. by kind (forward_sort op (marked (Connection u)) taken)) (λ none. absurd (let bad : false ≡ true = nowhere none in cc))
    where
      taken : took (is_forward_of op) (marked (Connection u)) ≡ true
      taken = over_took op u over

      nowhere : place_at s u ≡ None → false ≡ true
      nowhere none = sym (ap (took (is_forward_of op)) (sym (h.connections u).same ∙ placeless s u none (h.connections u).events)) ∙ taken

      by : is_of_kind s BindKind u ≡ true → (took_first op (marked (Connection u)) ≡ true) ⊎ (took (is_other_forward op) (marked (Connection u)) ≡ true) → is_end_heard F op ≡ true
      by kind (inl k) = holders s F marked h rest u kind op k over
      by kind (inr k) = absurd (let bad : false ≡ true = asked_or_pinned s op (empty_client op.client) (marked (Client op.client)) (asked_given op asks) (other_given op u k) in cc)

  answer_heard : (op : OpName) (a : Answer) → list_any (is_asked_for op) F.desk ≡ true → is_over_by s F op a ≡ true → is_end_heard F op ≡ true
  answer_heard op (Go u b) asks over = chosen_heard op u asks over
  answer_heard op _ asks over = absurd (let bad : false ≡ true = over in cc)

  abbrev right_so : List Entry → Entry → List Entry → Bool
  right_so place e behind = is_answered e behind && is_right_choice s place e && is_right_plan s place e

  settled_from : (es before : List Entry) → before ++ es ≡ F.desk → each_split_from right_so before es ≡ true → list_all (is_chose_settled s F) es ≡ true
  settled_from [] before same k = refl
  settled_from (e ∷ es) before same k = both (is_chose_settled s F e) (list_all (is_chose_settled s F) es) (here (chose e.what) (right (is_answered e es) _ (left (is_answered e es && is_right_choice s before e) _ (left (right_so before e es) _ k)))) (settled_from es (before ++ e ∷ []) (append_assoc before (e ∷ []) es ∙ same) (right (right_so before e es) _ k))
    where
      asked_so : (op : OpName) → list_any (is_asked_for op) before ≡ true → list_any (is_asked_for op) F.desk ≡ true
      asked_so op j = ap (list_any (is_asked_for op)) (sym same) ∙ any_before (is_asked_for op) before (e ∷ es) j

      here : (o : Option (Named Answer)) → where_there (λ c. is_right_for s before (word_of e.what) c (asked_last before)) o ≡ true → where_there (λ c. implies (is_over_by s F c.op c.value) (is_end_heard F c.op)) o ≡ true
      here None j = refl
      here (Some c) j = implies_by (is_over_by s F c.op c.value) (is_end_heard F c.op) (answer_heard c.op c.value (asked_so c.op (last_asked c.op before (right_asked s before (word_of e.what) c (asked_last before) j))))

  desk_share : DeskShare s (marked Desk)
  desk_share = h.joined.shared.shares Desk

  ends_heard_so : list_all (is_chose_settled s F) F.desk ≡ true
  ends_heard_so = settled_from F.desk [] refl (subst (λ es. each_split_from right_so [] es ≡ true) (h.joined.shared.same_entries Desk) desk_share.choices)

pub each_end_of_all : RegularEndsAreHeard → HolderEndsAreHeard → EachEndIsHeard
each_end_of_all regular holders s F marked h rest = ends_heard_so regular holders s F marked h rest
