-- What holds of a Forward for each row of a client, and of the Ask of each message, holds of each letter that the client gives
-- at an entry, where it holds of all letters of other sorts.
use Rattle.std.proofs.Common.{◌≡◌, ℕ, Bool, true, false, ◌&&◌, not, List, [], ◌∷◌, ◌++◌, refl, ap, ◌∙◌}
use Rattle.std.specs.Prelude.{Option, Some, None, find, flat_map}
use Rattle.std.specs.List.{list_all}
use Rattle.std.proofs.lemmas.List.Folds.{list_all-append}
use Rattle.ldap_spec.specs.Kinds.{kind_of}
use Rattle.ldap_spec.specs.Messages.{Message}
use Rattle.lload_names.specs.declared.names.Answer.{Answer}
use Rattle.lload_names.specs.declared.names.Answer.TheVariants.{Go}
use Rattle.lload_names.specs.declared.names.Letter.{Letter}
use Rattle.lload_names.specs.declared.names.Letter.TheVariants.{Ask, Returned, Forward, Drop, Leave, Pause, Resume}
use Rattle.lload_names.specs.declared.names.OpKind.{OpKind}
use Rattle.lload_names.specs.declared.names.OpKind.TheVariants.{Bind}
use Rattle.lload_names.specs.declared.names.OpName.{OpName}
use Rattle.lload_names.specs.declared.names.PartName.TheVariants.{Up as Connection}
use Rattle.lload_names.specs.declared.names.Posted.{Posted}
use Rattle.lload_names.specs.declared.names.What.{What}
use Rattle.lload_names.specs.declared.names.What.TheVariants as what
use Rattle.lload_spec.specs.Answers.{wants_identity}
use Rattle.lload_spec.specs.Entries.{makes_operation}
use Rattle.lload_spec.specs.FirstCheck.{Check, Ends, Unbinds, Abandons, Refuses, Answers, Cancels, GoesOn, asks_desk, lets_go_on, live_request, may_be_canceled}
use Rattle.lload_spec.specs.Lists.{rising_once}
use Rattle.lload_spec.specs.Operations.{is_request_of}
use Rattle.lload_spec.specs.Pauses.{pause_letters, resume_letters, pauses_behind}
use Rattle.lload_spec.specs.Settings.{Settings}
use Rattle.lload_spec.proofs.Growth.{both}
use Rattle.part_spec.specs.ClientState.{ClientState, ClientRow, Held, check_at, facts_of, is_pinned, new_row, name_of, row_named, abandons, is_bind_row, regular_connections, want_for}
use Rattle.part_spec.specs.ClientTurn.{drops, drop_of, leave, endings, forward, asks, pause_at, letters_for, resumes}
use Rattle.part_spec.specs.Gives.{client_letters, message_letters}

-- a test that passes all letters of a client but Forwards and Asks
pub record PassesOthers (q : Letter → Bool) : Type 0 where
  pub returned : (op : OpName) (u : ℕ) → q (Returned op u) ≡ true
  pub drop : (op : OpName) → q (Drop op) ≡ true
  pub leave : (op : OpName) → q (Leave op) ≡ true
  pub pause : (c : ℕ) → q (Pause c) ≡ true
  pub resume : (c : ℕ) → q (Resume c) ≡ true

module _ (s : Settings) (q : Letter → Bool) (other : PassesOthers q) where
  abbrev pub all_pass : List Posted → Bool
  all_pass xs = list_all (λ x. q x.letter) xs

  pass_both : (xs ys : List Posted) → all_pass xs ≡ true → all_pass ys ≡ true → all_pass (xs ++ ys) ≡ true
  pass_both xs ys h k = list_all-append (λ (x : Posted). q x.letter) xs ys ∙ both (all_pass xs) (all_pass ys) h k

  pass_flat : {A : Type 0} (f : A → List Posted) (xs : List A) → ((x : A) → all_pass (f x) ≡ true) → all_pass (flat_map f xs) ≡ true
  pass_flat f [] h = refl
  pass_flat f (x ∷ xs) h = pass_both (f x) (flat_map f xs) (h x) (pass_flat f xs h)

  one : (b : Bool) → b ≡ true → (b && true) ≡ true
  one b h = both b true h refl

  drop_passes : (p : ClientState) (r : ClientRow) → all_pass (drop_of p r) ≡ true
  drop_passes p r = by (is_bind_row r) r.connection
    where
      by : (b : Bool) (o : Option ℕ) → all_pass (elim b [ true ↦ [] | false ↦ elim o [ None ↦ [] | Some u ↦ record { to = Connection u; letter = Drop (name_of p r) } ∷ [] ] ]) ≡ true
      by true o = refl
      by false None = refl
      by false (Some u) = one _ (other.drop (name_of p r))

  drops_pass : (p : ClientState) → all_pass (drops p) ≡ true
  drops_pass p = pass_flat (drop_of p) p.rows (drop_passes p)

  leave_passes : (p : ClientState) → all_pass (leave p) ≡ true
  leave_passes p = by p.hold
    where
      by : (o : Option Held) → all_pass (elim o [ None ↦ [] | Some x ↦ record { to = Connection x.connection; letter = Leave x.holder } ∷ [] ]) ≡ true
      by None = refl
      by (Some x) = one _ (other.leave x.holder)

  endings_pass : (p : ClientState) → all_pass (endings p) ≡ true
  endings_pass p = pass_both (drops p) (leave p) (drops_pass p) (leave_passes p)

  pauses_pass : (c : ℕ) (us : List ℕ) → all_pass (pause_letters c us) ≡ true
  pauses_pass c [] = refl
  pauses_pass c (u ∷ us) = both (q (Pause c)) _ (other.pause c) (pauses_pass c us)

  resumes_pass : (c : ℕ) (us : List ℕ) → all_pass (resume_letters c us) ≡ true
  resumes_pass c [] = refl
  resumes_pass c (u ∷ us) = both (q (Resume c)) _ (other.resume c) (resumes_pass c us)

  pause_passes : (p : ClientState) (r : ClientRow) (u : ℕ) → all_pass (pause_at p r u) ≡ true
  pause_passes p r u = by (is_bind_row r) (pauses_behind p.pausing u)
    where
      by : (a b : Bool) → all_pass (elim a [ true ↦ [] | false ↦ elim b [ true ↦ pause_letters p.number (u ∷ []) | false ↦ [] ] ]) ≡ true
      by true b = refl
      by false true = pauses_pass p.number (u ∷ [])
      by false false = refl

  found_passes : (p : ClientState) (o : Option ClientRow) → all_pass (elim o [ None ↦ [] | Some r ↦ drop_of p r ]) ≡ true
  found_passes p None = refl
  found_passes p (Some r) = drop_passes p r

  where_passes : (b : Bool) (xs : List Posted) → all_pass xs ≡ true → all_pass (elim b [ true ↦ xs | false ↦ [] ]) ≡ true
  where_passes true xs h = h
  where_passes false xs h = refl

  module _ (p : ClientState) (R : ClientRow → Type 0) (told : (r : ClientRow) (kind : OpKind) (holder : OpName) → R r → kind_of r.request.rest ≡ Some kind → q (Forward (name_of p r) kind r.request.rest (wants_identity s r.request) holder) ≡ true) where
    forward_passes : (r : ClientRow) (holder : OpName) (u : ℕ) → R r → all_pass (forward s p r holder u) ≡ true
    forward_passes r holder u h = by (kind_of r.request.rest) refl
      where
        by : (o : Option OpKind) → kind_of r.request.rest ≡ o → all_pass (elim o [ None ↦ [] | Some kind ↦ record { to = Connection u; letter = Forward (name_of p r) kind r.request.rest (wants_identity s r.request) holder } ∷ [] ]) ≡ true
        by None e = refl
        by (Some kind) e = one _ (told r kind holder h e)

    -- the Ask of a message would pass
    abbrev pub AskPasses : ℕ → Message → Type 0
    AskPasses at m = q (Ask (name_of p (new_row s p m)) (want_for s p at m)) ≡ true

    asks_pass : (at : ℕ) (m : Message) → AskPasses at m → all_pass (asks s p at m) ≡ true
    asks_pass at m h = one _ h

    goes_pass : (at : ℕ) (m : Message) → R (new_row s p m) → (is_pinned s p m ≡ false → AskPasses at m) → all_pass (elim (is_request_of Bind m) [ true ↦ drops p ++ elim (is_pinned s p m) [ true ↦ elim p.hold [ None ↦ [] | Some h ↦ forward s p (new_row s p m) h.holder h.connection ] | false ↦ asks s p at m ] | false ↦ asks s p at m ]) ≡ true
    goes_pass at m h k = by (is_request_of Bind m) (is_pinned s p m) p.hold (λ e. k (ap (λ b. b && (facts_of p).in_exchange && lets_go_on (check_at s p m)) e)) k
      where
        by : (b i : Bool) (o : Option Held) → (b ≡ false → AskPasses at m) → (i ≡ false → AskPasses at m) → all_pass (elim b [ true ↦ drops p ++ elim i [ true ↦ elim o [ None ↦ [] | Some x ↦ forward s p (new_row s p m) x.holder x.connection ] | false ↦ asks s p at m ] | false ↦ asks s p at m ]) ≡ true
        by false i o f g = asks_pass at m (f refl)
        by true false o f g = pass_both (drops p) (asks s p at m) (drops_pass p) (asks_pass at m (g refl))
        by true true None f g = pass_both (drops p) [] (drops_pass p) refl
        by true true (Some x) f g = pass_both (drops p) (forward s p (new_row s p m) x.holder x.connection) (drops_pass p) (forward_passes (new_row s p m) x.holder x.connection h)

    message_passes : (at : ℕ) (m : Message) → (lets_go_on (check_at s p m) ≡ true → R (new_row s p m)) → (asks_desk s (facts_of p) m ≡ true → AskPasses at m) → (k : Check) → check_at s p m ≡ k → all_pass (message_letters s p at m k) ≡ true
    message_passes at m new ask (Ends why) e = where_passes (makes_operation m && is_request_of Bind m) (drops p) (drops_pass p)
    message_passes at m new ask Unbinds e = refl
    message_passes at m new ask (Abandons id) e = found_passes p (find (abandons m) p.rows)
    message_passes at m new ask (Refuses which) e = where_passes (is_request_of Bind m) (endings p) (endings_pass p)
    message_passes at m new ask (Answers which) e = refl
    message_passes at m new ask (Cancels id kind) e = found_passes p (find (λ r. may_be_canceled id (live_request r.request)) p.rows)
    message_passes at m new ask GoesOn e = goes_pass at m (new (ap lets_go_on e)) (λ unpinned. ask (both (lets_go_on (check_at s p m)) _ (ap lets_go_on e) (ap not unpinned)))

    chosen_passes : (op : OpName) (a : Answer) → ((r : ClientRow) → row_named p op ≡ Some r → R r) → all_pass (letters_for s p op (row_named p op) a) ≡ true
    chosen_passes op a h = by (row_named p op) refl a
      where
        by : (o : Option ClientRow) → row_named p op ≡ o → (b : Answer) → all_pass (letters_for s p op o b) ≡ true
        by (Some r) e (Go u b) = pass_both (forward s p r op u) (pause_at p r u) (forward_passes r op u (h r e)) (pause_passes p r u)
        by None e (Go u b) = one _ (other.returned op u)
        by (Some r) e _ = refl
        by None e _ = refl

    -- the letters at an entry: of the row that a choice is for, and of a message that goes on
    pub letters_pass : (at : ℕ) (w : What) → ((op : OpName) (a : Answer) (r : ClientRow) → w ≡ what.Chosen op a → row_named p op ≡ Some r → R r) → ((m : Message) → w ≡ what.In m.id m.rest → lets_go_on (check_at s p m) ≡ true → R (new_row s p m)) → ((m : Message) → w ≡ what.In m.id m.rest → asks_desk s (facts_of p) m ≡ true → AskPasses at m) → all_pass (client_letters s p at w) ≡ true
    letters_pass at (what.In id rest) h new ask = message_passes at (record { id = id; rest = rest }) (new (record { id = id; rest = rest }) refl) (ask (record { id = id; rest = rest }) refl) (check_at s p (record { id = id; rest = rest })) refl
    letters_pass at (what.Chosen op a) h new ask = chosen_passes op a (λ r e. h op a r refl e)
    letters_pass at (what.Gone why) h new ask = pass_both (endings p) (resumes p) (endings_pass p) (resumes_pass p.number p.pausing.paused)
    letters_pass at what.Stalled h new ask = pauses_pass p.number (rising_once (regular_connections p))
    letters_pass at what.Flowing h new ask = resumes_pass p.number p.pausing.paused
    letters_pass at _ h new ask = refl
