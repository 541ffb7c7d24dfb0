-- What is behind each Forward that a client gives: its operation is one of the client's, of the Forward's kind; and either the
-- connection was chosen for it while it was live, or it is a Bind that goes on with an exchange there.
use Rattle.std.proofs.Common.{◌≡◌, ◌⊎◌, inl, inr, ℕ, Bool, true, false, ◌==◌, ◌&&◌, not, List, [], ◌∷◌, ◌++◌, append_assoc, refl, ap, ◌∙◌, sym, subst}
use Rattle.std.specs.Prelude.{Option, Some, None}
use Rattle.std.specs.List.{list_any}
use Rattle.std.proofs.lemmas.List.{append-nil}
use Rattle.ldap_spec.specs.Kinds.{kind_of, same_kind}
use Rattle.ldap_spec.specs.Messages.{Message}
use Rattle.lload_names.specs.declared.names.Answer.{Answer}
use Rattle.lload_names.specs.declared.names.Answer.TheVariants.{Go}
use Rattle.lload_names.specs.declared.names.Entry.{Entry}
use Rattle.lload_names.specs.declared.names.Letter.{Letter}
use Rattle.lload_names.specs.declared.names.Letter.TheVariants.{Forward}
use Rattle.lload_names.specs.declared.names.OpKind.{OpKind}
use Rattle.lload_names.specs.declared.names.OpKind.TheVariants.{Bind, Search, Modify, Add, Delete, ModifyDn, Compare, Extended}
use Rattle.lload_names.specs.declared.names.OpName.{OpName}
use Rattle.lload_names.specs.declared.names.PartName.TheVariants.{Up as Connection}
use Rattle.lload_names.specs.declared.names.Posted.{Posted}
use Rattle.lload_names.specs.declared.names.What.{What}
use Rattle.lload_names.specs.declared.names.What.TheVariants as what
use Rattle.lload_spec.specs.Answers.{wants_identity}
use Rattle.lload_spec.specs.Entries.{is_choice_of}
use Rattle.lload_spec.specs.FirstCheck.{Check, lets_go_on, GoesOn}
use Rattle.lload_spec.specs.Fifo.{is_in_progress}
use Rattle.lload_spec.specs.Journal.{same_op, same_part}
use Rattle.lload_spec.specs.Lists.{passes, some_split_from, some_entry, rising_once}
use Rattle.lload_spec.specs.Operations.{Operation, operation_in, is_live_at, is_request_of, last_bind}
use Rattle.lload_spec.specs.Settings.{Settings}
use Rattle.lload_spec.proofs.Growth.{left, right, both}
use Rattle.part_laws.proofs.ListLaws.{any_before, any_split, eq_eqb, or_elim, or_left, or_right, same_number}
use Rattle.part_spec.specs.ClientState.{ClientState, ClientRow, Held, check_at, is_pinned, name_of, new_row, next_name, row_named, regular_connections}
use Rattle.part_spec.specs.ClientTurn.{drops, endings, forward, asks, letters_for, pause_at, resumes}
use Rattle.part_spec.specs.Fit.{is_forward_of}
use Rattle.part_spec.specs.Gives.{client_letters, message_letters}
use Rattle.part_spec.specs.Marked.{Marked}
use Rattle.fifo_laws.proofs.Givings.{is_bare, goes_only, bare_both, drops_bare, endings_bare, pauses_bare, resumes_bare, pause_bare, in_case}
use Rattle.fifo_laws.proofs.Quiet.{is_reply_of}
use Rattle.joined_laws.proofs.Taken.{is_mark_from}
use Rattle.forward_laws.proofs.Ops.{LaterOperation, operation_later}

-- Some entry of a list that grows.

some_more : (test : List Entry → Entry → Bool) (before L M : List Entry) → some_split_from (λ b x d. test b x) before L ≡ true → some_split_from (λ b x d. test b x) before (L ++ M) ≡ true
some_more test before [] M h = absurd (let bad : false ≡ true = h in cc)
some_more test before (x ∷ L) M h = or_elim (test before x) (some_split_from (λ b y d. test b y) (before ++ x ∷ []) L) (λ k. or_left (test before x) _ k) (λ k. or_right (test before x) _ (some_more test (before ++ x ∷ []) L M k)) h

pub some_last : (test : List Entry → Entry → Bool) (before L : List Entry) (e : Entry) → test (before ++ L) e ≡ true → some_split_from (λ b x d. test b x) before (L ++ e ∷ []) ≡ true
some_last test before [] e h = or_left (test before e) false (ap (λ l. test l e) (sym (append-nil before)) ∙ h)
some_last test before (x ∷ L) e h = or_right (test before x) _ (some_last test (before ++ x ∷ []) L e (ap (λ l. test l e) (append_assoc before (x ∷ []) L) ∙ h))

-- whether a letter forwards this operation, as one of this kind
abbrev pub is_forward_as : OpName → OpKind → Letter → Bool
is_forward_as op kind (Forward o sort rest ask holder) = same_op op o && same_kind kind sort
is_forward_as op kind _ = false

-- whether it goes to this connection
abbrev pub is_sent_there : OpName → OpKind → ℕ → Posted → Bool
is_sent_there op kind u x = same_part (Connection u) x.to && is_forward_as op kind x.letter

pub kind_eq : (a b : OpKind) → same_kind a b ≡ true → a ≡ b
kind_eq Bind Bind h = refl
kind_eq Search Search h = refl
kind_eq Modify Modify h = refl
kind_eq Add Add h = refl
kind_eq Delete Delete h = refl
kind_eq ModifyDn ModifyDn h = refl
kind_eq Compare Compare h = refl
kind_eq Extended Extended h = refl
kind_eq _ _ h = absurd (let bad : false ≡ true = h in cc)

-- the choice of this connection for a live operation
abbrev pub is_live_choice : ℕ → OpName → ℕ → List Entry → Entry → Bool
is_live_choice c op u place e = is_choice_of op u e && is_live_at c place op

-- whether a Bind was answered with saslBindInProgress, and took an answer of this connection
abbrev pub is_step_from : ℕ → List Marked → Operation → Bool
is_step_from u marks b = is_in_progress b && list_any (λ m. is_mark_from (Connection u) (is_reply_of b.name) m.mark) marks

pub record Cause (c : ℕ) (op : OpName) (u : ℕ) (kind : OpKind) (place : List Entry) (marks : List Marked) : Type 0 where
  pub operation : Operation
  pub own : op.client ≡ c
  pub found : operation_in c place (record { client = c; k = op.k }) ≡ Some operation
  pub kind_is : kind_of operation.request.rest ≡ Some kind
  pub way : (some_entry (is_live_choice c op u) place ≡ true) ⊎ ((is_request_of Bind operation.request ≡ true) × (passes (is_step_from u marks) (last_bind c operation.before) ≡ true))

step_more : (u : ℕ) (b ms : List Marked) (o : Option Operation) → passes (is_step_from u b) o ≡ true → passes (is_step_from u (b ++ ms)) o ≡ true
step_more u b ms None h = h
step_more u b ms (Some q) h = both (is_in_progress q) _ (left (is_in_progress q) _ h) (any_before (λ m. is_mark_from (Connection u) (is_reply_of q.name) m.mark) b ms (right (is_in_progress q) _ h))

-- it stays so
pub cause_more : (c : ℕ) (op : OpName) (u : ℕ) (kind : OpKind) (place M : List Entry) (marks ms : List Marked) → Cause c op u kind place marks → Cause c op u kind (place ++ M) (marks ++ ms)
cause_more c op u kind place M marks ms h =
    let next : LaterOperation c op.k (place ++ M) h.operation = operation_later c op.k place M h.operation h.found in
    record { operation = next.later; own = h.own; found = next.found; kind_is = ap (λ (m : Message). kind_of m.rest) next.request ∙ h.kind_is; way = by next.later next.request next.before h.way }
  where
    by : (o : Operation) → o.request ≡ h.operation.request → o.before ≡ h.operation.before → (some_entry (is_live_choice c op u) place ≡ true) ⊎ ((is_request_of Bind h.operation.request ≡ true) × (passes (is_step_from u marks) (last_bind c h.operation.before) ≡ true)) → (some_entry (is_live_choice c op u) (place ++ M) ≡ true) ⊎ ((is_request_of Bind o.request ≡ true) × (passes (is_step_from u (marks ++ ms)) (last_bind c o.before) ≡ true))
    by o e k (inl x) = inl (some_more (is_live_choice c op u) [] place M x)
    by o e k (inr x) = inr (ap (is_request_of Bind) e ∙ x.0, ap (λ p. passes (is_step_from u (marks ++ ms)) (last_bind c p)) k ∙ step_more u marks ms (last_bind c h.operation.before) x.1)

-- The letters of an entry.

module _ (s : Settings) (op : OpName) (kind : OpKind) (u : ℕ) where
  abbrev hits : List Posted → Bool
  hits xs = list_any (is_sent_there op kind u) xs

  bare_missed : (xs : List Posted) → is_bare op xs ≡ true → hits xs ≡ true → ⊥
  bare_missed [] h k = absurd (let bad : false ≡ true = k in cc)
  bare_missed (x ∷ xs) h k = or_elim (is_sent_there op kind u x) (hits xs) (λ j. no x.letter (right (same_part (Connection u) x.to) _ j) (left (not (is_forward_of op x.letter)) _ h)) (λ j. bare_missed xs (right (not (is_forward_of op x.letter)) _ h) j) k
    where
      no : (y : Letter) → is_forward_as op kind y ≡ true → not (is_forward_of op y) ≡ true → ⊥
      no (Forward o sort rest ask holder) j i = absurd (let bad : false ≡ true = sym (ap not (left (same_op op o) _ j)) ∙ i in cc)
      no _ j i = absurd (let bad : false ≡ true = j in cc)

  -- of two lists of letters, where one of them has none
  hits_first : (xs ys : List Posted) → is_bare op ys ≡ true → hits (xs ++ ys) ≡ true → hits xs ≡ true
  hits_first xs ys h k = any_split (is_sent_there op kind u) xs ys (λ j. j) (λ j. absurd (bare_missed ys h j)) k

  hits_last : (xs ys : List Posted) → is_bare op xs ≡ true → hits (xs ++ ys) ≡ true → hits ys ≡ true
  hits_last xs ys h k = any_split (is_sent_there op kind u) xs ys (λ j. absurd (bare_missed xs h j)) (λ j. j) k

  -- a Forward of a row
  pub record Hit (p : ClientState) (r : ClientRow) (v : ℕ) : Type 0 where
    pub there : (v == u) ≡ true
    pub named : same_op op (name_of p r) ≡ true
    pub kind_is : kind_of r.request.rest ≡ Some kind

  forward_hit : (p : ClientState) (r : ClientRow) (holder : OpName) (v : ℕ) → hits (forward s p r holder v) ≡ true → Hit p r v
  forward_hit p r holder v h = by (kind_of r.request.rest) refl h
    where
      by : (o : Option OpKind) → kind_of r.request.rest ≡ o → hits (elim o [ None ↦ [] | Some sort ↦ record { to = Connection v; letter = Forward (name_of p r) sort r.request.rest (wants_identity s r.request) holder } ∷ [] ]) ≡ true → Hit p r v
      by None e k = absurd (let bad : false ≡ true = k in cc)
      by (Some sort) e k =
          let hit : (u == v && (same_op op (name_of p r) && same_kind kind sort)) ≡ true = or_elim (u == v && (same_op op (name_of p r) && same_kind kind sort)) false (λ j. j) (λ j. absurd (let bad : false ≡ true = j in cc)) k in
          record {
            there = eq_eqb v u (sym (same_number u v (left (u == v) _ hit)));
            named = left (same_op op (name_of p r)) _ (right (u == v) _ hit);
            kind_is = e ∙ ap Some (sym (kind_eq kind sort (right (same_op op (name_of p r)) _ (right (u == v) _ hit))));
          }

  -- a Bind that goes on
  pub record Pinned (p : ClientState) (m : Message) : Type 0 where
    pub held : Held
    pub holds : p.hold ≡ Some held
    pub hit : Hit p (new_row s p m) held.connection
    pub pinned : is_pinned s p m ≡ true

  in_forward : (p : ClientState) (at : ℕ) (m : Message) → hits (message_letters s p at m (check_at s p m)) ≡ true → Pinned p m
  in_forward p at m h = by (check_at s p m) (in_case s op p at m (check_at s p m)) h
    where
      bind_of : is_pinned s p m ≡ true → is_request_of Bind m ≡ true
      bind_of k = left (is_request_of Bind m) _ (left (is_request_of Bind m && p.in_exchange) _ k)

      held_by : is_pinned s p m ≡ true → (o : Option Held) → p.hold ≡ o → hits (elim o [ None ↦ [] | Some x ↦ forward s p (new_row s p m) x.holder x.connection ]) ≡ true → Pinned p m
      held_by k None e j = absurd (let bad : false ≡ true = j in cc)
      held_by k (Some x) e j = record { held = x; holds = e; hit = forward_hit p (new_row s p m) x.holder x.connection j; pinned = k }

      goes : is_pinned s p m ≡ true → hits (message_letters s p at m GoesOn) ≡ true → Pinned p m
      goes k j =
          held_by k p.hold refl
          (hits_last (drops p) (elim p.hold [ None ↦ [] | Some x ↦ forward s p (new_row s p m) x.holder x.connection ]) (drops_bare s op p)
          (subst (λ d. hits (drops p ++ elim d [ true ↦ elim p.hold [ None ↦ [] | Some x ↦ forward s p (new_row s p m) x.holder x.connection ] | false ↦ asks s p at m ]) ≡ true) k
          (subst (λ d. hits (elim d [ true ↦ drops p ++ elim (is_pinned s p m) [ true ↦ elim p.hold [ None ↦ [] | Some x ↦ forward s p (new_row s p m) x.holder x.connection ] | false ↦ asks s p at m ] | false ↦ asks s p at m ]) ≡ true) (bind_of k) j)))

      by : (k : Check) → (is_bare op (message_letters s p at m k) ≡ true) ⊎ ((w : ℕ) × (goes_only op w (message_letters s p at m k) ≡ true) × ((same_op op (next_name p) ≡ true) × (lets_go_on k ≡ true) × (is_pinned s p m ≡ true))) → hits (message_letters s p at m k) ≡ true → Pinned p m
      by k (inl b) j = absurd (bare_missed (message_letters s p at m k) b j)
      by GoesOn (inr x) j = goes x.2.2 j
      by _ (inr x) j = absurd (let bad : false ≡ true = x.2.1 in cc)

  -- an operation that was chosen a connection
  pub record WasChosen (p : ClientState) (o : OpName) (a : Answer) : Type 0 where
    pub connection : ℕ
    pub backend : ℕ
    pub row : ClientRow
    pub answer_is : a ≡ Go connection backend
    pub row_is : row_named p o ≡ Some row
    pub hit : Hit p row connection

  chosen_forward : (p : ClientState) (o : OpName) (a : Answer) → hits (letters_for s p o (row_named p o) a) ≡ true → WasChosen p o a
  chosen_forward p o a h = by (row_named p o) refl a refl h
    where
      by : (q : Option ClientRow) → row_named p o ≡ q → (x : Answer) → a ≡ x → hits (letters_for s p o q x) ≡ true → WasChosen p o a
      by (Some r) e (Go v n) k j = record { connection = v; backend = n; row = r; answer_is = k; row_is = e; hit = forward_hit p r o v (hits_first (forward s p r o v) (pause_at p r v) (pause_bare s op p r v) j) }
      by None e (Go v n) k j = absurd (let bad : false ≡ true = j in cc)
      by (Some r) e _ k j = absurd (let bad : false ≡ true = j in cc)
      by None e _ k j = absurd (let bad : false ≡ true = j in cc)

  -- no other entry forwards anything
  pub letters_hit : {C : Type 0} (p : ClientState) (at : ℕ) (w : What) → hits (client_letters s p at w) ≡ true → ((id : ℕ) (rest : List ℕ) → w ≡ what.In id rest → Pinned p (record { id = id; rest = rest }) → C) → ((o : OpName) (a : Answer) → w ≡ what.Chosen o a → WasChosen p o a → C) → C
  letters_hit p at (what.In id rest) h f g = f id rest refl (in_forward p at (record { id = id; rest = rest }) h)
  letters_hit p at (what.Chosen o a) h f g = g o a refl (chosen_forward p o a h)
  letters_hit p at (what.Gone why) h f g = absurd (bare_missed (endings p ++ resumes p) (bare_both s op (endings p) (resumes p) (endings_bare s op p) (resumes_bare s op p.number p.pausing.paused)) h)
  letters_hit p at what.Stalled h f g = absurd (bare_missed (client_letters s p at what.Stalled) (pauses_bare s op p.number (rising_once (regular_connections p))) h)
  letters_hit p at what.Flowing h f g = absurd (bare_missed (resumes p) (resumes_bare s op p.number p.pausing.paused) h)
  letters_hit p at _ h f g = absurd (let bad : false ≡ true = h in cc)
