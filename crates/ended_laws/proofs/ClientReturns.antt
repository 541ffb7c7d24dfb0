-- What a client returned to the desk is a choice that came too late.
use Rattle.std.proofs.Common.{◌≡◌, ℕ, Bool, true, false, ◌==◌, ◌&&◌, ◌||◌, not, List, [], ◌∷◌, ◌++◌, refl, ap, ◌∙◌, sym}
use Rattle.std.specs.Prelude.{Option, Some, None, find, flat_map}
use Rattle.std.specs.List.{list_all, list_any}
use Rattle.std.proofs.lemmas.List.Folds.{list_all-append}
use Rattle.ldap_spec.specs.Kinds.{kind_of}
use Rattle.ldap_spec.specs.Messages.{Message}
use Rattle.lload_names.specs.Same.{same_letter}
use Rattle.lload_names.specs.declared.names.Answer.{Answer}
use Rattle.lload_names.specs.declared.names.Answer.TheVariants.{Busy, Go, Unavailable}
use Rattle.lload_names.specs.declared.names.Entry.{Entry}
use Rattle.lload_names.specs.declared.names.Letter.{Letter}
use Rattle.lload_names.specs.declared.names.Letter.TheVariants.{Drop, Forward, Leave, Returned}
use Rattle.lload_names.specs.declared.names.OpKind.{OpKind}
use Rattle.lload_names.specs.declared.names.OpKind.TheVariants.{Bind}
use Rattle.lload_names.specs.declared.names.OpName.{OpName}
use Rattle.lload_names.specs.declared.names.PartName.{PartName}
use Rattle.lload_names.specs.declared.names.PartName.TheVariants.{Desk, Up as Connection}
use Rattle.lload_names.specs.declared.names.Posted.{Posted}
use Rattle.lload_names.specs.declared.names.What.{What}
use Rattle.lload_names.specs.declared.names.What.TheVariants as what
use Rattle.lload_spec.specs.Answers.{wants_identity}
use Rattle.lload_spec.specs.Entries.{chosen, goes_to, is_choice_of, makes_operation}
use Rattle.lload_spec.specs.FirstCheck.{Abandons, Answers, Cancels, Check, Ends, GoesOn, Refuses, Unbinds, live_request, may_be_canceled}
use Rattle.lload_spec.specs.Journal.{same_op, same_part}
use Rattle.lload_spec.specs.Lists.{passes, rising_once, some_split_from}
use Rattle.lload_spec.specs.Operations.{is_request_of}
use Rattle.lload_spec.specs.Pauses.{pause_letters, pauses_behind, resume_letters}
use Rattle.lload_spec.specs.Settings.{Settings}
use Rattle.lload_spec.specs.Strict.{is_late_choice}
use Rattle.lload_spec.proofs.Growth.{left, right, both}
use Rattle.part_laws.proofs.ListLaws.{any_split, eqb_sym, not_true, or_elim, or_left, or_right, same_op_eq}
use Rattle.part_spec.specs.ClientState.{ClientRow, ClientState, Held, abandons, check_at, is_bind_row, is_pinned, name_of, new_row, regular_connections, row_named, step_client}
use Rattle.part_spec.specs.ClientTurn.{asks, drop_of, drops, endings, forward, leave, letters_for, pause_at, resumes}
use Rattle.part_spec.specs.Gives.{client_letters, gives_from, message_letters}
use Rattle.part_spec.specs.Marked.{Marked, entries, letters_to}
use Rattle.client_laws.proofs.ClientLate.{none_live}
use Rattle.joined_laws.proofs.Begun.{is_begun}
use Rattle.joined_laws.proofs.Taken.{letters_to_both}
use Rattle.joined_laws.proofs.Walks.{Begins, Begun}

abbrev is_returned : Letter → Bool
is_returned (Returned op u) = true
is_returned _ = false

-- letters of which none is a return
abbrev Quiet : List Posted → Type 0
Quiet xs = list_all (λ (x : Posted). not (is_returned x.letter)) xs ≡ true

quiet_both : (xs ys : List Posted) → Quiet xs → Quiet ys → Quiet (xs ++ ys)
quiet_both xs ys h k = list_all-append (λ (x : Posted). not (is_returned x.letter)) xs ys ∙ both (list_all (λ (x : Posted). not (is_returned x.letter)) xs) _ h k

quiet_flat : {A : Type 0} (f : A → List Posted) (xs : List A) → ((x : A) → Quiet (f x)) → Quiet (flat_map f xs)
quiet_flat f [] h = refl
quiet_flat f (x ∷ xs) h = quiet_both (f x) (flat_map f xs) (h x) (quiet_flat f xs h)

quiet_where : (b : Bool) (xs : List Posted) → Quiet xs → Quiet (elim b [ true ↦ xs | false ↦ [] ])
quiet_where true xs h = h
quiet_where false xs h = refl

same_returned : (op : OpName) (u : ℕ) (x : Letter) → is_returned x ≡ false → same_letter (Returned op u) x ≡ false
same_returned op u (Returned o v) h = absurd (let bad : true ≡ false = h in cc)
same_returned op u _ h = refl

quiet_to : (op : OpName) (u : ℕ) (q : PartName) (xs : List Posted) → Quiet xs → list_any (same_letter (Returned op u)) (letters_to q xs) ≡ false
quiet_to op u q [] h = refl
quiet_to op u q (x ∷ xs) h = by (same_part q x.to) (same_returned op u x.letter (not_true (is_returned x.letter) (left (not (is_returned x.letter)) _ h))) (quiet_to op u q xs (right (not (is_returned x.letter)) _ h))
  where
    by : (b : Bool) → same_letter (Returned op u) x.letter ≡ false → list_any (same_letter (Returned op u)) (letters_to q xs) ≡ false → list_any (same_letter (Returned op u)) ((elim b [ true ↦ x.letter ∷ [] | false ↦ [] ]) ++ letters_to q xs) ≡ false
    by true j k = ap (λ c. c || list_any (same_letter (Returned op u)) (letters_to q xs)) j ∙ k
    by false j k = k

-- The letters of a client's rows.

drop_quiet : (p : ClientState) (r : ClientRow) → Quiet (drop_of p r)
drop_quiet p r = by (is_bind_row r) r.connection
  where
    by : (b : Bool) (o : Option ℕ) → Quiet (elim b [ true ↦ [] | false ↦ elim o [ None ↦ [] | Some u ↦ record { to = Connection u; letter = Drop (name_of p r) } ∷ [] ] ])
    by true o = refl
    by false None = refl
    by false (Some u) = refl

found_quiet : (p : ClientState) (o : Option ClientRow) → Quiet (elim o [ None ↦ [] | Some r ↦ drop_of p r ])
found_quiet p None = refl
found_quiet p (Some r) = drop_quiet p r

endings_quiet : (p : ClientState) → Quiet (endings p)
endings_quiet p = quiet_both (drops p) (leave p) (quiet_flat (drop_of p) p.rows (drop_quiet p)) (by p.hold)
  where
    by : (o : Option Held) → Quiet (elim o [ None ↦ [] | Some x ↦ record { to = Connection x.connection; letter = Leave x.holder } ∷ [] ])
    by None = refl
    by (Some x) = refl

pauses_quiet : (c : ℕ) (us : List ℕ) → Quiet (pause_letters c us)
pauses_quiet c [] = refl
pauses_quiet c (u ∷ us) = pauses_quiet c us

resumes_quiet : (c : ℕ) (us : List ℕ) → Quiet (resume_letters c us)
resumes_quiet c [] = refl
resumes_quiet c (u ∷ us) = resumes_quiet c us

pause_quiet : (p : ClientState) (r : ClientRow) (u : ℕ) → Quiet (pause_at p r u)
pause_quiet p r u = by (is_bind_row r) (pauses_behind p.pausing u)
  where
    by : (a b : Bool) → Quiet (elim a [ true ↦ [] | false ↦ elim b [ true ↦ pause_letters p.number (u ∷ []) | false ↦ [] ] ])
    by true b = refl
    by false true = refl
    by false false = refl

module _ (s : Settings) (p : ClientState) where
  forward_quiet : (r : ClientRow) (holder : OpName) (u : ℕ) → Quiet (forward s p r holder u)
  forward_quiet r holder u = by (kind_of r.request.rest)
    where
      by : (o : Option OpKind) → Quiet (elim o [ None ↦ [] | Some kind ↦ record { to = Connection u; letter = Forward (name_of p r) kind r.request.rest (wants_identity s r.request) holder } ∷ [] ])
      by None = refl
      by (Some k) = refl

  goes_quiet : (at : ℕ) (m : Message) → Quiet (elim (is_request_of Bind m) [ true ↦ drops p ++ elim (is_pinned s p m) [ true ↦ elim p.hold [ None ↦ [] | Some x ↦ forward s p (new_row s p m) x.holder x.connection ] | false ↦ asks s p at m ] | false ↦ asks s p at m ])
  goes_quiet at m = by (is_request_of Bind m) (is_pinned s p m) p.hold
    where
      dropped : Quiet (drops p)
      dropped = quiet_flat (drop_of p) p.rows (drop_quiet p)

      by : (b i : Bool) (o : Option Held) → Quiet (elim b [ true ↦ drops p ++ elim i [ true ↦ elim o [ None ↦ [] | Some x ↦ forward s p (new_row s p m) x.holder x.connection ] | false ↦ asks s p at m ] | false ↦ asks s p at m ])
      by false i o = refl
      by true false o = quiet_both (drops p) (asks s p at m) dropped refl
      by true true None = quiet_both (drops p) [] dropped refl
      by true true (Some x) = quiet_both (drops p) (forward s p (new_row s p m) x.holder x.connection) dropped (forward_quiet (new_row s p m) x.holder x.connection)

  message_quiet : (at : ℕ) (m : Message) (k : Check) → Quiet (message_letters s p at m k)
  message_quiet at m (Ends why) = quiet_where (makes_operation m && is_request_of Bind m) (drops p) (quiet_flat (drop_of p) p.rows (drop_quiet p))
  message_quiet at m Unbinds = refl
  message_quiet at m (Abandons id) = found_quiet p (find (abandons m) p.rows)
  message_quiet at m (Refuses which) = quiet_where (is_request_of Bind m) (endings p) (endings_quiet p)
  message_quiet at m (Answers which) = refl
  message_quiet at m (Cancels id its_kind) = found_quiet p (find (λ r. may_be_canceled id (live_request r.request)) p.rows)
  message_quiet at m GoesOn = goes_quiet at m

  -- A return, at the choice of a connection for an operation that isn't live.
  pub record Returns (op : OpName) (u : ℕ) (w : What) : Type 0 where
    pub begins : is_begun w ≡ true
    pub choice : passes (λ c. same_op op c.op && goes_to u c.value) (chosen w) ≡ true
    pub none : row_named p op ≡ None

  returns_chosen : (op : OpName) (u : ℕ) (o : OpName) (a : Answer) → list_any (same_letter (Returned op u)) (letters_to Desk (letters_for s p o (row_named p o) a)) ≡ true → Returns op u (what.Chosen o a)
  returns_chosen op u o a h = by (row_named p o) a refl h
    where
      quiet : (xs : List Posted) → Quiet xs → list_any (same_letter (Returned op u)) (letters_to Desk xs) ≡ true → Returns op u (what.Chosen o a)
      quiet xs k j = absurd (let bad : false ≡ true = sym (quiet_to op u Desk xs k) ∙ j in cc)

      by : (q : Option ClientRow) (b : Answer) → row_named p o ≡ q → list_any (same_letter (Returned op u)) (letters_to Desk (letters_for s p o q b)) ≡ true → Returns op u (what.Chosen o b)
      by None (Go v n) e j =
          let it : (same_op op o && u == v) ≡ true = or_elim (same_op op o && u == v) false (λ i. i) (λ i. absurd (let bad : false ≡ true = i in cc)) j in
          record { begins = refl; choice = both (same_op op o) _ (left (same_op op o) _ it) (eqb_sym v u ∙ right (same_op op o) _ it); none = ap (row_named p) (same_op_eq op o (left (same_op op o) _ it)) ∙ e }
      by (Some r) (Go v n) e j = absurd (let bad : false ≡ true = sym (quiet_to op u Desk (forward s p r o v ++ pause_at p r v) (quiet_both (forward s p r o v) (pause_at p r v) (forward_quiet r o v) (pause_quiet p r v))) ∙ j in cc)
      by None Busy e j = absurd (let bad : false ≡ true = j in cc)
      by None Unavailable e j = absurd (let bad : false ≡ true = j in cc)
      by (Some r) Busy e j = absurd (let bad : false ≡ true = j in cc)
      by (Some r) Unavailable e j = absurd (let bad : false ≡ true = j in cc)

  returns_at : (op : OpName) (u at : ℕ) (w : What) → list_any (same_letter (Returned op u)) (letters_to Desk (client_letters s p at w)) ≡ true → Returns op u w
  returns_at op u at (what.In id rest) h = absurd (let bad : false ≡ true = sym (quiet_to op u Desk (client_letters s p at (what.In id rest)) (message_quiet at (record { id = id; rest = rest }) (check_at s p (record { id = id; rest = rest })))) ∙ h in cc)
  returns_at op u at (what.Chosen o a) h = returns_chosen op u o a h
  returns_at op u at (what.Gone why) h = absurd (let bad : false ≡ true = sym (quiet_to op u Desk (endings p ++ resumes p) (quiet_both (endings p) (resumes p) (endings_quiet p) (resumes_quiet p.number p.pausing.paused))) ∙ h in cc)
  returns_at op u at what.Stalled h = absurd (let bad : false ≡ true = sym (quiet_to op u Desk (client_letters s p at what.Stalled) (pauses_quiet p.number (rising_once (regular_connections p)))) ∙ h in cc)
  returns_at op u at what.Flowing h = absurd (let bad : false ≡ true = sym (quiet_to op u Desk (client_letters s p at what.Flowing) (resumes_quiet p.number p.pausing.paused)) ∙ h in cc)
  returns_at op u at _ h = absurd (let bad : false ≡ true = h in cc)

-- what a client's list returned
module _ (s : Settings) (op : OpName) (u : ℕ) where
  abbrev late : List Entry → Entry → List Entry → Bool
  late b e behind = is_late_choice op u b e

  abbrev tells : Letter → Bool
  tells x = same_letter (Returned op u) x

  abbrev gave : ClientState → List Marked → List Posted
  gave p ms = gives_from (step_client s) (λ q m. client_letters s q m.entry.at m.entry.what) p ms

  pub client_returned : (place : List Entry) (p : ClientState) (ms : List Marked) → Begun s op.client place p ms → list_any tells (letters_to Desk (gave p ms)) ≡ true → some_split_from late place (entries ms) ≡ true
  client_returned place p [] h k = absurd (let bad : false ≡ true = k in cc)
  client_returned place p (m ∷ ms) h k =
      any_split tells (letters_to Desk (client_letters s p m.entry.at m.entry.what)) (letters_to Desk (gave (step_client s p m) ms))
      (λ j. or_left (is_late_choice op u place m.entry) _ (here (returns_at s p op u m.entry.at m.entry.what j)))
      (λ j. or_right (is_late_choice op u place m.entry) _ (client_returned (place ++ m.entry ∷ []) (step_client s p m) ms h.1 j))
      (sym (ap (list_any tells) (letters_to_both Desk (client_letters s p m.entry.at m.entry.what) (gave (step_client s p m) ms))) ∙ k)
    where
      here : Returns s p op u m.entry.what → is_late_choice op u place m.entry ≡ true
      here r =
          let b : Begins op.client place p m = h.0 r.begins in
          both (is_choice_of op u m.entry) _ r.choice (ap not (none_live op.client place p op b.lives b.says.number r.none))
