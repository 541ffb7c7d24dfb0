-- Where a client gives a Leave: at its end, and at a Bind that its first check refuses.
use Rattle.std.proofs.Common.{◌≡◌, ℕ, Bool, true, false, ◌==◌, ◌&&◌, ◌||◌, List, [], ◌∷◌, ◌++◌, refl, ap, ◌∙◌, sym}
use Rattle.std.specs.Prelude.{Option, Some, None, find}
use Rattle.std.specs.List.{list_any}
use Rattle.ldap_spec.specs.Kinds.{kind_of}
use Rattle.ldap_spec.specs.Messages.{Message}
use Rattle.lload_names.specs.declared.names.Answer.{Answer}
use Rattle.lload_names.specs.declared.names.Answer.TheVariants.{Go, Busy, Unavailable}
use Rattle.lload_names.specs.declared.names.EndWhy.{EndWhy}
use Rattle.lload_names.specs.declared.names.Letter.TheVariants.{Drop, Forward, Leave, Pause, Resume}
use Rattle.lload_names.specs.declared.names.OpKind.{OpKind}
use Rattle.lload_names.specs.declared.names.OpKind.TheVariants.{Bind}
use Rattle.lload_names.specs.declared.names.OpName.{OpName}
use Rattle.lload_names.specs.declared.names.PartName.TheVariants.{Up as Connection}
use Rattle.lload_names.specs.declared.names.Posted.{Posted}
use Rattle.lload_names.specs.declared.names.Refusal.{Refusal}
use Rattle.lload_names.specs.declared.names.What.{What}
use Rattle.lload_names.specs.declared.names.What.TheVariants as what
use Rattle.lload_spec.specs.Answers.{wants_identity}
use Rattle.lload_spec.specs.Entries.{makes_operation}
use Rattle.lload_spec.specs.FirstCheck.{Check, Abandons, Answers, Cancels, Ends, GoesOn, Refuses, Unbinds, live_request, may_be_canceled}
use Rattle.lload_spec.specs.Journal.{same_op, same_part}
use Rattle.lload_spec.specs.Lists.{rising_once}
use Rattle.lload_spec.specs.Operations.{is_request_of}
use Rattle.lload_spec.specs.Pauses.{pause_letters, pauses_behind, resume_letters}
use Rattle.lload_spec.specs.Settings.{Settings}
use Rattle.lload_spec.proofs.Growth.{left, right}
use Rattle.part_laws.proofs.ListLaws.{any_split, none_of_both, not_both, or_elim, same_number, same_op_eq}
use Rattle.part_spec.specs.ClientState.{ClientRow, ClientState, Held, abandons, check_at, is_bind_row, is_pinned, name_of, new_row, regular_connections, row_named}
use Rattle.part_spec.specs.ClientTurn.{asks, drop_of, drops, endings, forward, goes_on, leave, letters_for, pause_at, resumes}
use Rattle.part_spec.specs.Fit.{is_leave_of}
use Rattle.part_spec.specs.Gives.{client_letters, message_letters}
use Rattle.leave_laws.proofs.Lists.{none_flat}

-- Letters among which none passes a test that each of them fails.
module _ (t : Posted → Bool) where
  pub drop_fails : ((u : ℕ) (o : OpName) → t (record { to = Connection u; letter = Drop o }) ≡ false) → (p : ClientState) (r : ClientRow) → list_any t (drop_of p r) ≡ false
  drop_fails f p r = by (is_bind_row r) r.connection
    where
      by : (b : Bool) (o : Option ℕ) → list_any t (elim b [ true ↦ [] | false ↦ elim o [ None ↦ [] | Some u ↦ record { to = Connection u; letter = Drop (name_of p r) } ∷ [] ] ]) ≡ false
      by true o = refl
      by false None = refl
      by false (Some u) = ap (λ b. b || false) (f u (name_of p r))

  pub leave_fails : ((u : ℕ) (o : OpName) → t (record { to = Connection u; letter = Leave o }) ≡ false) → (p : ClientState) → list_any t (leave p) ≡ false
  leave_fails f p = by p.hold
    where
      by : (o : Option Held) → list_any t (elim o [ None ↦ [] | Some x ↦ record { to = Connection x.connection; letter = Leave x.holder } ∷ [] ]) ≡ false
      by None = refl
      by (Some x) = ap (λ b. b || false) (f x.connection x.holder)

  pub pauses_fail : ((u c : ℕ) → t (record { to = Connection u; letter = Pause c }) ≡ false) → (c : ℕ) (us : List ℕ) → list_any t (pause_letters c us) ≡ false
  pauses_fail f c [] = refl
  pauses_fail f c (u ∷ us) = ap (λ b. b || list_any t (pause_letters c us)) (f u c) ∙ pauses_fail f c us

  pub resumes_fail : ((u c : ℕ) → t (record { to = Connection u; letter = Resume c }) ≡ false) → (c : ℕ) (us : List ℕ) → list_any t (resume_letters c us) ≡ false
  resumes_fail f c [] = refl
  resumes_fail f c (u ∷ us) = ap (λ b. b || list_any t (resume_letters c us)) (f u c) ∙ resumes_fail f c us

  pub pause_fails : ((u c : ℕ) → t (record { to = Connection u; letter = Pause c }) ≡ false) → (p : ClientState) (r : ClientRow) (u : ℕ) → list_any t (pause_at p r u) ≡ false
  pause_fails f p r u = by (is_bind_row r) (pauses_behind p.pausing u)
    where
      by : (a b : Bool) → list_any t (elim a [ true ↦ [] | false ↦ elim b [ true ↦ pause_letters p.number (u ∷ []) | false ↦ [] ] ]) ≡ false
      by true b = refl
      by false true = pauses_fail f p.number (u ∷ [])
      by false false = refl

  pub forward_fails : ((u : ℕ) (o : OpName) (kind : OpKind) (rest : List ℕ) (ask : Bool) (holder : OpName) → t (record { to = Connection u; letter = Forward o kind rest ask holder }) ≡ false) → (s : Settings) (p : ClientState) (r : ClientRow) (holder : OpName) (u : ℕ) → list_any t (forward s p r holder u) ≡ false
  forward_fails f s p r holder u = by (kind_of r.request.rest)
    where
      by : (k : Option OpKind) → list_any t (elim k [ None ↦ [] | Some sort ↦ record { to = Connection u; letter = Forward (name_of p r) sort r.request.rest (wants_identity s r.request) holder } ∷ [] ]) ≡ false
      by None = refl
      by (Some sort) = ap (λ b. b || false) (f u (name_of p r) sort r.request.rest (wants_identity s r.request) holder)

  pub goes_on_fails : ((u : ℕ) (o : OpName) (kind : OpKind) (rest : List ℕ) (ask : Bool) (holder : OpName) → t (record { to = Connection u; letter = Forward o kind rest ask holder }) ≡ false) → (s : Settings) (p : ClientState) (m : Message) → list_any t (goes_on s p m) ≡ false
  goes_on_fails f s p m = by p.hold
    where
      by : (o : Option Held) → list_any t (elim o [ None ↦ [] | Some x ↦ forward s p (new_row s p m) x.holder x.connection ]) ≡ false
      by None = refl
      by (Some x) = forward_fails f s p (new_row s p m) x.holder x.connection

-- whether a letter leaves the exchange of this holder at this connection
abbrev pub is_left_there : OpName → ℕ → Posted → Bool
is_left_there h u x = is_leave_of h x.letter && same_part (Connection u) x.to

-- the connection that a client holds, and for whom
pub record Holds (p : ClientState) (h : OpName) (u : ℕ) : Type 0 where
  pub held : Held
  pub holds : p.hold ≡ Some held
  pub there : held.connection ≡ u
  pub name : held.holder ≡ h

module _ (s : Settings) (h : OpName) (u : ℕ) where
  abbrev test : Posted → Bool
  test = is_left_there h u

  dropless : (p : ClientState) → list_any test (drops p) ≡ false
  dropless p = none_flat test (drop_of p) p.rows (drop_fails test (λ v o. refl) p)

  found_fails : (p : ClientState) (o : Option ClientRow) → list_any test (elim o [ None ↦ [] | Some r ↦ drop_of p r ]) ≡ false
  found_fails p None = refl
  found_fails p (Some r) = drop_fails test (λ v o. refl) p r

  -- the Leave of what is held
  of_leave : (p : ClientState) → list_any test (leave p) ≡ true → Holds p h u
  of_leave p k = by p.hold refl k
    where
      by : (o : Option Held) → p.hold ≡ o → list_any test (elim o [ None ↦ [] | Some x ↦ record { to = Connection x.connection; letter = Leave x.holder } ∷ [] ]) ≡ true → Holds p h u
      by None e j = absurd (let bad : false ≡ true = j in cc)
      by (Some x) e j =
          let hit : (same_op h x.holder && (u == x.connection)) ≡ true = or_elim (same_op h x.holder && (u == x.connection)) false (λ i. i) (λ i. absurd (let bad : false ≡ true = i in cc)) j in
          record { held = x; holds = e; there = sym (same_number u x.connection (right (same_op h x.holder) _ hit)); name = sym (same_op_eq h x.holder (left (same_op h x.holder) _ hit)) }

  of_endings : (p : ClientState) → list_any test (endings p) ≡ true → Holds p h u
  of_endings p k = any_split test (drops p) (leave p) (λ j. not_both (list_any test (drops p)) j (dropless p)) (of_leave p) k

  -- at a message
  of_message : {C : Type 0} (p : ClientState) (at : ℕ) (m : Message) (k : Check) → list_any test (message_letters s p at m k) ≡ true → ((which : Refusal) → k ≡ Refuses which → is_request_of Bind m ≡ true → Holds p h u → C) → C
  of_message {C} p at m (Ends why) e f = by (makes_operation m && is_request_of Bind m) e
    where
      by : (b : Bool) → list_any test (elim b [ true ↦ drops p | false ↦ [] ]) ≡ true → C
      by true j = not_both (list_any test (drops p)) j (dropless p)
      by false j = absurd (let bad : false ≡ true = j in cc)
  of_message p at m Unbinds e f = absurd (let bad : false ≡ true = e in cc)
  of_message p at m (Abandons id) e f = not_both (list_any test (message_letters s p at m (Abandons id))) e (found_fails p (find (abandons m) p.rows))
  of_message {C} p at m (Refuses which) e f = by (is_request_of Bind m) refl e
    where
      by : (b : Bool) → is_request_of Bind m ≡ b → list_any test (elim b [ true ↦ endings p | false ↦ [] ]) ≡ true → C
      by true i j = f which refl i (of_endings p j)
      by false i j = absurd (let bad : false ≡ true = j in cc)
  of_message p at m (Answers which) e f = absurd (let bad : false ≡ true = e in cc)
  of_message p at m (Cancels id its_kind) e f = not_both (list_any test (message_letters s p at m (Cancels id its_kind))) e (found_fails p (find (λ r. may_be_canceled id (live_request r.request)) p.rows))
  of_message p at m GoesOn e f = not_both (list_any test (message_letters s p at m GoesOn)) e (by (is_request_of Bind m) (is_pinned s p m))
    where
      by : (b i : Bool) → list_any test (elim b [ true ↦ drops p ++ elim i [ true ↦ goes_on s p m | false ↦ asks s p at m ] | false ↦ asks s p at m ]) ≡ false
      by false i = refl
      by true true = none_of_both test (drops p) (goes_on s p m) (dropless p) (goes_on_fails test (λ v o kind rest ask holder. refl) s p m)
      by true false = none_of_both test (drops p) (asks s p at m) (dropless p) refl

  -- and nowhere else
  pub left_at : {C : Type 0} (p : ClientState) (at : ℕ) (w : What) → list_any test (client_letters s p at w) ≡ true → ((why : EndWhy) → w ≡ what.Gone why → Holds p h u → C) → ((id : ℕ) (rest : List ℕ) (which : Refusal) → w ≡ what.In id rest → check_at s p (record { id = id; rest = rest }) ≡ Refuses which → is_request_of Bind (record { id = id; rest = rest }) ≡ true → Holds p h u → C) → C
  left_at p at (what.In id rest) e f g = of_message p at (record { id = id; rest = rest }) (check_at s p (record { id = id; rest = rest })) e (λ which i b k. g id rest which refl i b k)
  left_at p at (what.Chosen op a) e f g = not_both (list_any test (letters_for s p op (row_named p op) a)) e (by (row_named p op) a)
    where
      by : (o : Option ClientRow) (b : Answer) → list_any test (letters_for s p op o b) ≡ false
      by (Some r) (Go v n) = none_of_both test (forward s p r op v) (pause_at p r v) (forward_fails test (λ w o kind rest ask holder. refl) s p r op v) (pause_fails test (λ w c. refl) p r v)
      by None (Go v n) = refl
      by (Some r) Busy = refl
      by (Some r) Unavailable = refl
      by None Busy = refl
      by None Unavailable = refl
  left_at p at (what.Gone why) e f g = f why refl (any_split test (endings p) (resumes p) (of_endings p) (λ j. not_both (list_any test (resumes p)) j (resumes_fail test (λ v c. refl) p.number p.pausing.paused)) e)
  left_at p at what.Stalled e f g = not_both (list_any test (client_letters s p at what.Stalled)) e (pauses_fail test (λ v c. refl) p.number (rising_once (regular_connections p)))
  left_at p at what.Flowing e f g = not_both (list_any test (resumes p)) e (resumes_fail test (λ v c. refl) p.number p.pausing.paused)
  left_at p at _ e f g = absurd (let bad : false ≡ true = e in cc)
