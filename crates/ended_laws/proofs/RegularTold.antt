-- What a regular connection told the desk of an operation's end, by its whole list.
use Rattle.std.proofs.Common.{◌≡◌, inl, inr, ℕ, Bool, true, false, ◌&&◌, not, List, [], ◌∷◌, ◌++◌, refl, ap, ◌∙◌, sym, subst, append_assoc}
use Rattle.std.specs.Prelude.{Option, Some, None, if◌then◌else◌}
use Rattle.std.specs.List.{list_any}
use Rattle.std.specs.Option.{option_and_then}
use Rattle.std.proofs.lemmas.List.{append-nil}
use Rattle.lload_names.specs.Same.{same_latency, same_letter}
use Rattle.lload_names.specs.declared.names.ConnKind.TheVariants.{Bind as BindKind, Regular}
use Rattle.lload_names.specs.declared.names.Entry.{Entry}
use Rattle.lload_names.specs.declared.names.Letter.{Letter}
use Rattle.lload_names.specs.declared.names.Letter.TheVariants.{Ended, Forward}
use Rattle.lload_names.specs.declared.names.OpName.{OpName}
use Rattle.lload_names.specs.declared.names.PartName.TheVariants.{Desk}
use Rattle.lload_names.specs.declared.names.What.{What}
use Rattle.lload_names.specs.declared.names.What.TheVariants as what
use Rattle.lload_spec.specs.Answers.{Sending, is_open, of_operation, reign, sendings}
use Rattle.lload_spec.specs.CausedUp.{is_missed_caused}
use Rattle.lload_spec.specs.Entries.{is_sent}
use Rattle.lload_spec.specs.Identifiers.{has_right_id}
use Rattle.lload_spec.specs.Journal.{Family, same_op}
use Rattle.lload_spec.specs.Lists.{each_split_from}
use Rattle.lload_spec.specs.Over.{from_sent, is_held_since, is_over_at}
use Rattle.lload_spec.specs.Owed.{latency_at, latency_by, latency_since}
use Rattle.lload_spec.specs.Settings.{Settings, is_kind, is_of_kind}
use Rattle.lload_spec.proofs.Growth.{left, right}
use Rattle.part_laws.proofs.ListLaws.{any_split, false_by}
use Rattle.part_spec.specs.ConnectionState.{ConnectionState, connection_behind, frees_holder, holder_sent, is_bind, step_connection}
use Rattle.part_spec.specs.Fit.{ConnectionLedger, are_fit_from, fits_connection, is_unfit, step_connection_ledger}
use Rattle.part_spec.specs.Gives.{connection_gives, connection_letters}
use Rattle.part_spec.specs.Marked.{Marked, Taken, entries, letters_to}
use Rattle.part_spec.specs.Marks.{each_from, has_connection_mark}
use Rattle.part_spec.specs.Share.{each_place, is_expired_due, is_sent_once}
use Rattle.connection_laws.proofs.ConnectionSays.{kind_step}
use Rattle.connection_laws.proofs.Permits.{push_entry}
use Rattle.client_answer_laws.proofs.Each.{Each, each_imply}
use Rattle.joined_laws.proofs.Taken.{is_fit_there, letters_to_both}
use Rattle.rows_laws.proofs.Known.{AtEach, Known}
use Rattle.upstream_laws.proofs.Places.{regular_alone}
use Rattle.open_laws.proofs.Alone.{Once, new_by, once_more, one_of, own_stands}
use Rattle.open_laws.proofs.Among.{Among}
use Rattle.ended_laws.proofs.Letters.{told_end, told_same}
use Rattle.ended_laws.proofs.RegularEnds.{Told, gives_ends, stays_all, told_more}

-- a regular connection has no holder
free_step : (s : Settings) (e : Entry) (mark : Option Taken) (p : ConnectionState) (w : What) → is_bind p ≡ false → p.holder ≡ None → (connection_behind s e mark p w).holder ≡ None
free_step s e mark p (what.Got id rest) regular h = by (frees_holder p (record { id = id; rest = rest }))
  where
    by : (b : Bool) → (if b then None else p.holder) ≡ None
    by true = refl
    by false = h
free_step s e None p (what.Sent id op rest) regular h = h
free_step s e (Some t) p (what.Sent id op rest) regular h = by t.letter
  where
    by : (x : Letter) → holder_sent p x ≡ None
    by (Forward o sort body ask holder) = ap (λ b. if b then Some holder else None) regular
    by _ = h
free_step s e mark p (what.Missed op) regular h = refl
free_step s e mark p (what.Down why) regular h = refl
free_step s e mark p what.Linked regular h = h
free_step s e mark p _ regular h = h

module _ (s : Settings) (F : Family) (u : ℕ) (op : OpName) (told : Option ℕ) where
  abbrev expired_so : ConnectionState → List Marked → Marked → List Marked → Bool
  expired_so p b m behind = is_expired_due s p m behind

  abbrev ids_so : ConnectionState → List Marked → Marked → List Marked → Bool
  ids_so p b m behind = has_right_id p.ids m.entry.what

  abbrev tells : Letter → Bool
  tells x = same_letter (Ended op u told) x

  pub regular_told : (ms before : List Marked) (l : ConnectionLedger) → AtEach s (Known s F u) before l ms → is_bind l.state ≡ false → l.state.holder ≡ None → each_from (step_connection s) has_connection_mark l.state ms ≡ true → each_place (step_connection s) ids_so l.state before ms ≡ true → each_place (step_connection s) expired_so l.state before ms ≡ true → are_fit_from (fits_connection s) (step_connection_ledger s) l ms ≡ true → each_split_from (λ b e behind. is_missed_caused b e) (entries before) (entries ms) ≡ true → list_any tells (letters_to Desk (connection_gives s l.state ms)) ≡ true → Told s F u (entries before ++ entries ms) op told
  regular_told [] before l h regular free marks ids due fit caused k = absurd (let bad : false ≡ true = k in cc)
  regular_told (m ∷ ms) before l h regular free marks ids due fit caused k =
      any_split tells (letters_to Desk (connection_letters s l.state m.entry.at m.mark m.entry.what)) (letters_to Desk (connection_gives s (step_connection s l.state m) ms))
      (λ j. subst (λ place. Told s F u place op told) (append_assoc (entries before) (m.entry ∷ []) (entries ms)) (stays_all (λ place. Told s F u place op told) (told_more s F u op told) (entries before ++ m.entry ∷ []) (entries ms) (right (is_missed_caused (entries before) m.entry) _ caused) (told_end (λ o t. Told s F u (entries before ++ m.entry ∷ []) o t) op u told (connection_letters s l.state m.entry.at m.mark m.entry.what) (gives_ends s F u before l h.0 free m.entry.part m.entry.at m.mark m.entry.what ms (left (has_connection_mark l.state m) _ marks) (left (ids_so l.state before m ms) _ ids) (left (is_expired_due s l.state m ms) _ due) fit_here) j)))
      (λ j. subst (λ place. Told s F u place op told) (ap (λ place. place ++ entries ms) (push_entry before m) ∙ append_assoc (entries before) (m.entry ∷ []) (entries ms)) (regular_told ms (before ++ m ∷ []) (step_connection_ledger s l m) h.1 (still regular) (free_step s m.entry m.mark l.state m.entry.what regular free) (right (has_connection_mark l.state m) _ marks) (right (ids_so l.state before m ms) _ ids) (right (is_expired_due s l.state m ms) _ due) (right (not (is_unfit (fits_connection s) l m.mark)) _ fit) (subst (λ place. each_split_from (λ b e behind. is_missed_caused b e) place (entries ms) ≡ true) (sym (push_entry before m)) (right (is_missed_caused (entries before) m.entry) _ caused)) j))
      (sym (ap (list_any tells) (letters_to_both Desk (connection_letters s l.state m.entry.at m.mark m.entry.what) (connection_gives s (step_connection s l.state m) ms))) ∙ k)
    where
      fit_here : (t : Taken) → m.mark ≡ Some t → fits_connection s l t.sender t.letter ≡ true
      fit_here t e = is_fit_there (fits_connection s) l t (are_fit_from (fits_connection s) (step_connection_ledger s) (step_connection_ledger s l m) ms) (ap (λ q. not (is_unfit (fits_connection s) l q) && are_fit_from (fits_connection s) (step_connection_ledger s) (step_connection_ledger s l m) ms) (sym e) ∙ fit)

      still : is_bind l.state ≡ false → is_bind (step_connection s l.state m) ≡ false
      still e = ap (is_kind BindKind) (kind_step s m.entry m.mark l.state m.entry.what) ∙ e

-- Each operation is sent once.
pub once_whole : (s : Settings) (u : ℕ) (ms before : List Marked) (p : ConnectionState) → each_place (step_connection s) (λ q b m behind. is_sent_once q (entries b) m) p before ms ≡ true → Once u (entries before) → Once u (entries before ++ entries ms)
once_whole s u [] before p k h = subst (Once u) (sym (append-nil (entries before))) h
once_whole s u (m ∷ ms) before p k h = subst (Once u) (ap (λ place. place ++ entries ms) (push_entry before m) ∙ append_assoc (entries before) (m.entry ∷ []) (entries ms)) (once_whole s u ms (before ++ m ∷ []) (step_connection s p m) (right (is_sent_once p (entries before) m) _ k) (subst (Once u) (sym (push_entry before m)) (once_more u (entries before) m.entry (new_by p (entries before) m (left (is_sent_once p (entries before) m) _ k)) h)))

-- The Sents from the first of an operation on.

pub none_from : (op : OpName) (xs : List Sending) → Each (λ x. same_op op x.op ≡ false) xs → from_sent op xs ≡ []
none_from op [] h = refl
none_from op (x ∷ xs) h = ap (λ b. elim b [ true ↦ x ∷ xs | false ↦ from_sent op xs ]) h.0 ∙ none_from op xs h.1

pub unsent_from : (u : ℕ) (place : List Entry) (op : OpName) → list_any (is_sent op) place ≡ false → from_sent op (sendings u place) ≡ []
unsent_from u place op h = none_from op (sendings u place) (each_imply (λ x. same_op op x.op ≡ true → list_any (is_sent op) place ≡ true) (λ x. same_op op x.op ≡ false) (sendings u place) (λ x f. false_by (same_op op x.op) (λ k. sym h ∙ f k)) (own_stands (λ y. same_op op y.op) u [] place))

pub first_from : (op : OpName) (z : Sending) (xs : List Sending) → Each (λ x. same_op op x.op ≡ true → x ≡ z) xs → Among z xs → same_op op z.op ≡ true → (rest : List Sending) × (from_sent op xs ≡ z ∷ rest)
first_from op z [] h a k = absurd a
first_from op z (x ∷ xs) h a k = by (same_op op x.op) refl a (λ b. first_from op z xs h.1 b k)
  where
    by : (b : Bool) → same_op op x.op ≡ b → Among z (x ∷ xs) → (Among z xs → (rest : List Sending) × (from_sent op xs ≡ z ∷ rest)) → (rest : List Sending) × ((elim b [ true ↦ x ∷ xs | false ↦ from_sent op xs ]) ≡ z ∷ rest)
    by true e c more = (xs, ap (λ y. y ∷ xs) (h.0 e))
    by false e (inl c) more = absurd (let bad : true ≡ false = sym k ∙ ap (λ y. same_op op y.op) (sym c) ∙ e in cc)
    by false e (inr c) more = more c

-- What was told is so, and its latency is right.
module _ (s : Settings) (F : Family) (u : ℕ) (kind : is_of_kind s Regular u ≡ true) (op : OpName) (told : Option ℕ) where
  abbrev latency_by_kind : Bool → List Sending → Option ℕ
  latency_by_kind b sents = elim b [ true ↦ None | false ↦ latency_since F (from_sent op sents) ]

  pub told_latency : Once u (F.connection u) → Told s F u (F.connection u) op told → same_latency told (latency_at s F u op) ≡ true
  told_latency once h = ap (same_latency told) (ap (λ b. latency_by_kind b (sendings u (F.connection u))) (regular_alone s u kind)) ∙ by h
    where
      by : Told s F u (F.connection u) op told → same_latency told (latency_since F (from_sent op (sendings u (F.connection u)))) ≡ true
      by (inl k) =
          let first = first_from op k.sent (sendings u (F.connection u)) (one_of u (F.connection u) op k.sent once k.among k.name) k.among k.name in
          ap (λ xs. same_latency told (latency_since F xs)) first.1 ∙ ap (λ q. same_latency told (option_and_then (λ o. latency_by o k.sent (reign k.sent)) q)) k.found ∙ ap (same_latency told) k.latency ∙ told_same told
      by (inr k) = ap (λ xs. same_latency told (latency_since F xs)) (unsent_from u (F.connection u) op k.unsent) ∙ ap (λ t. same_latency t None) k.none

  pub told_over : Once u (F.connection u) → Told s F u (F.connection u) op told → is_over_at s F op u (from_sent op (sendings u (F.connection u))) ≡ true
  told_over once h = by h
    where
      by : Told s F u (F.connection u) op told → is_over_at s F op u (from_sent op (sendings u (F.connection u))) ≡ true
      by (inl k) =
          let first = first_from op k.sent (sendings u (F.connection u)) (one_of u (F.connection u) op k.sent once k.among k.name) k.among k.name in
          ap (is_over_at s F op u) first.1 ∙ ap (λ b. not (if b then is_held_since s F (k.sent ∷ first.0) else of_operation F (is_open s) k.sent)) (regular_alone s u kind) ∙ ap not k.shut
      by (inr k) = ap (is_over_at s F op u) (unsent_from u (F.connection u) op k.unsent) ∙ k.missed
