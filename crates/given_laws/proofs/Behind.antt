-- What a connection gives for an operation behind an entry: nothing where no row is the operation's, and at most one letter
-- where the connection goes down.
use Rattle.std.proofs.Common.{◌≡◌, ℕ, ◌+◌, ◌≤◌, true, false, ◌&&◌, not, List, [], ◌∷◌, ◌++◌, arith, refl, ap, ◌∙◌, sym}
use Rattle.std.specs.Prelude.{Option, Some, None, filter}
use Rattle.std.specs.List.{list_any, list_all}
use Rattle.lload_names.specs.declared.names.ConnKind.{ConnKind}
use Rattle.lload_names.specs.declared.names.ConnKind.TheVariants.{Bind as BindKind, Regular}
use Rattle.lload_names.specs.declared.names.EndWhy.{EndWhy}
use Rattle.lload_names.specs.declared.names.EndWhy.TheVariants.{Bad as BadEnd}
use Rattle.lload_names.specs.declared.names.Letter.TheVariants.{Failed}
use Rattle.lload_names.specs.declared.names.OpName.{OpName}
use Rattle.lload_names.specs.declared.names.PartName.{PartName}
use Rattle.lload_names.specs.declared.names.PartName.TheVariants.{Client}
use Rattle.lload_names.specs.declared.names.Posted.{Posted}
use Rattle.lload_names.specs.declared.names.Refusal.TheVariants.{C5}
use Rattle.lload_names.specs.declared.names.What.{What}
use Rattle.lload_names.specs.declared.names.What.TheVariants as what
use Rattle.ldap_spec.specs.Messages.{Message}
use Rattle.lload_spec.specs.BadMessages.{is_bad}
use Rattle.lload_spec.specs.Entries.{down_why, expired_op, got_message, is_down_by, is_expired, is_missed, missed_op, same_why}
use Rattle.lload_spec.specs.Journal.{same_op}
use Rattle.lload_spec.specs.Lists.{first_passes, implies, passes}
use Rattle.lload_spec.specs.Operations.{Operation}
use Rattle.lload_spec.specs.Owed.{loses}
use Rattle.lload_spec.specs.Settings.{Settings}
use Rattle.lload_spec.proofs.Growth.{right}
use Rattle.lload_laws.proofs.ListLaws.{all-filter, all_always, implies_by}
use Rattle.part_laws.proofs.ListLaws.{or_left, or_right, same_op_eq}
use Rattle.part_spec.specs.ConnectionState.{ConnectionState, UpRow, message_facts, step_connection}
use Rattle.part_spec.specs.BindTurn.{answered as bind_answered}
use Rattle.part_spec.specs.ConnectionTurn.{down_letters, ended, goes_down}
use Rattle.part_spec.specs.Gives.{connection_gives, connection_letters, expired_letters}
use Rattle.part_spec.specs.Inputs.{failed, letters_alone}
use Rattle.part_spec.specs.RegularTurn.{answered}
use Rattle.part_spec.specs.Marked.{Marked, Taken, entries}
use Rattle.part_spec.specs.Share.{each_place, has_due_messages, has_reason, is_expired_due}
use Rattle.fifo_laws.proofs.Quiet.{is_other}
use Rattle.answer_laws.proofs.Places.{At, Rights, marks_of}
use Rattle.answer_laws.proofs.Told.{bad_ends, next_at}
use Rattle.told_laws.proofs.Given.{letters_pass}
use Rattle.told_laws.proofs.Sources.{entry_silent, is_forwarded, list_silent}
use Rattle.given_laws.proofs.Counts.{count, count_both, count_few, down_few, is_silent, silent_none}

module _ (s : Settings) (u : ℕ) (op : OpName) where
  -- how many letters for it are given at these entries
  abbrev pub gave : ConnectionState → List Marked → ℕ
  gave p ms = count op (connection_gives s p ms)

  -- at one entry
  abbrev pub given_at : ConnectionState → Marked → ℕ
  given_at p m = count op (connection_letters s p m.entry.at m.mark m.entry.what)

  pub gave_both : (p : ConnectionState) (m : Marked) (ms : List Marked) → gave p (m ∷ ms) ≡ given_at p m + gave (step_connection s p m) ms
  gave_both p m ms = count_both op (connection_letters s p m.entry.at m.mark m.entry.what) (connection_gives s (step_connection s p m) ms)

  -- it isn't forwarded at these entries
  abbrev pub Unforwarded : List Marked → Type 0
  Unforwarded ms = list_all (λ m. not (is_forwarded op m.entry)) ms ≡ true

  -- what expires is a row's, and own messages stand where they are due
  abbrev pub Due : List Marked → ConnectionState → List Marked → Type 0
  Due b p ms = each_place (step_connection s) (λ q c m d. is_expired_due s q m d) p b ms ≡ true

  abbrev pub Owed : List Marked → ConnectionState → List Marked → Type 0
  Owed b p ms = each_place (step_connection s) (λ q c m d. has_due_messages s q m d && has_reason s q (entries c) m) p b ms ≡ true

  -- What is known of entries behind a place.
  pub record Fine (b : List Marked) (p : ConnectionState) (ms : List Marked) : Type 0 where
    pub rights : Rights s u b p ms
    pub due : Due b p ms
    pub owed : Owed b p ms
    pub unforwarded : Unforwarded ms

  pub fine_behind : (b : List Marked) (p : ConnectionState) (m : Marked) (ms : List Marked) → Fine b p (m ∷ ms) → Fine (b ++ m ∷ []) (step_connection s p m) ms
  fine_behind b p m ms h =
      record {
        rights = h.rights.1;
        due = right (is_expired_due s p m ms) _ h.due;
        owed = right (has_due_messages s p m ms && has_reason s p (entries b) m) _ h.owed;
        unforwarded = right (not (is_forwarded op m.entry)) _ h.unforwarded;
      }

  -- where no row is the operation's, nothing is given
  pub others_given : (p : ConnectionState) (m : Marked) (ms : List Marked) → list_all (is_other op) p.rows ≡ true → is_missed op m.entry ≡ false → is_expired_due s p m ms ≡ true → given_at p m ≡ 0
  others_given p m ms h n due = silent_none op (connection_letters s p m.entry.at m.mark m.entry.what) (entry_silent op s p m ms h (ap not n) due)

  pub nothing_given : (b : List Marked) (p : ConnectionState) (ms : List Marked) → Fine b p ms → list_all (is_other op) p.rows ≡ true → gave p ms ≡ 0
  nothing_given b p ms h k = silent_none op (connection_gives s p ms) (list_silent op s u p b ms h.unforwarded (marks_of s u b p ms h.rights) h.due k)

  -- at an entry that is no message, of no end, and of no such operation, nothing is
  pub calm_silent : (p : ConnectionState) (at : ℕ) (mark : Option Taken) (w : What) → got_message w ≡ None → passes (same_op op) (expired_op w) ≡ false → passes (same_op op) (missed_op w) ≡ false → down_why w ≡ None → count op (connection_letters s p at mark w) ≡ 0
  calm_silent p at mark w g x n d =
      silent_none op (connection_letters s p at mark w)
      (letters_pass (is_silent op) s p at mark w (record {
        ended = λ o v late. refl;
        up = λ v. refl;
        retired = λ v. refl;
        down = λ v. refl;
        replied = λ id rest e fine r f back is_last. absurd (no_got id rest e);
        told = λ id rest e fine sort r f i k t. absurd (no_got id rest e);
        unknown = λ id rest e fine sort r f i k t. absurd (no_got id rest e);
        expired = λ o e. ap not (sym (ap (λ v. passes (same_op op) (expired_op v)) e) ∙ x);
        missed = λ o e. ap not (sym (ap (λ v. passes (same_op op) (missed_op v)) e) ∙ n);
        lost = λ why e. absurd (no_down why e);
      }))
    where
      no_got : (id : ℕ) (rest : List ℕ) → w ≡ what.Got id rest → ⊥
      no_got id rest e = let bad : ◌≡◌ {A = Option Message} (Some (record { id = id; rest = rest })) None = sym (ap got_message e) ∙ g in cc

      no_down : (why : EndWhy) → w ≡ what.Down why → ⊥
      no_down why e = let bad : Some why ≡ None = sym (ap down_why e) ∙ d in cc

  abbrev pub marked_as : PartName → ℕ → Option Taken → What → Marked
  marked_as part at mark w = record { entry = record { part = part; at = at; what = w }; mark = mark }

  -- at its end, and behind
  pub down_given : (part : PartName) (at : ℕ) (mark : Option Taken) (b : List Marked) (p : ConnectionState) (ms : List Marked) (why : EndWhy) → At s u (entries b) p → Fine b p (marked_as part at mark (what.Down why) ∷ ms) → gave p (marked_as part at mark (what.Down why) ∷ ms) ≤ 1
  down_given part at mark b p ms why a h =
      let m : Marked = marked_as part at mark (what.Down why) in
      let all : gave p (m ∷ ms) ≡ count op (down_letters p) + gave (step_connection s p m) ms = gave_both p m ms in
      let none : gave (step_connection s p m) ms ≡ 0 = nothing_given (b ++ m ∷ []) (step_connection s p m) ms (fine_behind b p m ms h) refl in
      let few : count op (down_letters p) ≤ 1 = down_few op p a.ids.apart in
      omega (arith, all, none, few)

  module _ (part : PartName) (at : ℕ) (mark : Option Taken) where
    abbrev marked : What → Marked
    marked w = marked_as part at mark w

    -- a bad message has its end directly behind it, which is all that it gives then
    pub bad_given : (b : List Marked) (p : ConnectionState) (ms : List Marked) (id : ℕ) (rest : List ℕ) → At s u (entries b) p → Fine b p (marked (what.Got id rest) ∷ ms) → is_bad (message_facts p) (record { id = id; rest = rest }) ≡ true → gave p (marked (what.Got id rest) ∷ ms) ≤ 1
    bad_given b p ms id rest a h bad =
        let all : gave p (marked (what.Got id rest) ∷ ms) ≡ given_at p (marked (what.Got id rest)) + gave behind ms = gave_both p (marked (what.Got id rest)) ms in
        let none : given_at p (marked (what.Got id rest)) ≡ 0 = ap (λ d. count op (letters_alone (elim d [ true ↦ goes_down p BadEnd | false ↦ elim p.kind [ Regular ↦ answered p at (record { id = id; rest = rest }) | BindKind ↦ bind_answered s p (record { id = id; rest = rest }) ] ]))) bad in
        let few : gave behind ms ≤ 1 = at_end ms (bad_ends s u op b p (marked (what.Got id rest)) ms id rest a h.rights.0 refl bad) (fine_behind b p (marked (what.Got id rest)) ms h) in
        omega (arith, all, none, few)
      where
        behind : ConnectionState
        behind = step_connection s p (marked (what.Got id rest))

        at_end : (ds : List Marked) → first_passes (is_down_by BadEnd) (entries ds) ≡ true → Fine (b ++ marked (what.Got id rest) ∷ []) behind ds → gave behind ds ≤ 1
        at_end [] i k = absurd (let bad' : false ≡ true = i in cc)
        at_end (d ∷ ds) i k = by d.entry.what refl i k
          where
            as_said : What → Marked
            as_said w = marked_as d.entry.part d.entry.at d.mark w

            by : (w : What) → d.entry.what ≡ w → passes (same_why BadEnd) (down_why w) ≡ true → Fine (b ++ marked (what.Got id rest) ∷ []) behind (as_said w ∷ ds) → gave behind (as_said w ∷ ds) ≤ 1
            by (what.Down why) e j f = down_given d.entry.part d.entry.at d.mark (b ++ marked (what.Got id rest) ∷ []) behind ds why (next_at s u op b p (marked (what.Got id rest)) ms a h.rights.0) f
            by _ e j f = absurd (let bad' : false ≡ true = j in cc)

module _ (s : Settings) (u : ℕ) (o : Operation) where
  -- what expires gives its refusal, and nothing behind it
  pub expired_given : (q : OpName) (part : PartName) (at : ℕ) (mark : Option Taken) (b : List Marked) (p : ConnectionState) (ms : List Marked) → Fine s u o.name b p (marked_as s u o.name part at mark (what.Expired q) ∷ ms) → same_op o.name q ≡ true → gave s u o.name p (marked_as s u o.name part at mark (what.Expired q) ∷ ms) ≤ 1
  expired_given q part at mark b p ms h e =
      let m : Marked = marked_as s u o.name part at mark (what.Expired q) in
      let all : gave s u o.name p (m ∷ ms) ≡ count o.name (expired_letters p q) + gave s u o.name (step_connection s p m) ms = gave_both s u o.name p m ms in
      let parts : count o.name (expired_letters p q) ≡ count o.name (failed q C5) + count o.name (ending p.kind) = count_both o.name (failed q C5) (ending p.kind) in
      let one : count o.name (failed q C5) ≤ 1 = count_few o.name (record { to = Client q.client; letter = Failed q C5 }) in
      let quiet : count o.name (ending p.kind) ≡ 0 = silent p.kind in
      let none : gave s u o.name (step_connection s p m) ms ≡ 0 = nothing_given s u o.name (b ++ m ∷ []) (step_connection s p m) ms (fine_behind s u o.name b p m ms h) (gone p.rows) in
      omega (arith, all, parts, one, quiet, none)
    where
      ending : ConnKind → List Posted
      ending k = elim k [ Regular ↦ ended p q None | BindKind ↦ [] ]

      silent : (k : ConnKind) → count o.name (ending k) ≡ 0
      silent Regular = refl
      silent BindKind = refl

      gone : (rows : List UpRow) → list_all (is_other o.name) (filter (λ r. not (same_op q r.op)) rows) ≡ true
      gone rows = all-filter (is_other o.name) (λ r. not (same_op q r.op)) rows ∙ all_always (λ r. implies (not (same_op q r.op)) (is_other o.name r)) rows (λ r. implies_by (not (same_op q r.op)) _ (λ k. ap (λ n. not (same_op n r.op)) (same_op_eq o.name q e) ∙ k))

  -- the end that stands first loses the operation
  pub first_lost : (ms : List Marked) → first_passes (is_down_by BadEnd) (entries ms) ≡ true → list_any (loses o) (entries ms) ≡ true
  first_lost [] h = absurd (let bad : false ≡ true = h in cc)
  first_lost (m ∷ ms) h = or_left (loses o m.entry) _ (or_right (is_expired o.name m.entry) _ (by (down_why m.entry.what) h))
    where
      by : (d : Option EndWhy) → passes (same_why BadEnd) d ≡ true → passes (λ why. true) d ≡ true
      by None k = k
      by (Some why) k = refl
