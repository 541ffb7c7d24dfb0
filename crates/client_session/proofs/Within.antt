-- A turn gives no more than its state allows.
use Rattle.std.proofs.Common.{◌≡◌, ◌≤◌, ◌+◌, ℕ, suc, max, Bool, true, false, not, ◌==◌, ◌&&◌, cond, List, [], ◌∷◌, ◌++◌, find, length, map, Option, Some, None, arith, refl, ap, subst, sym, ◌∙◌}
use Rattle.std.specs.Prelude.{nat_lt, flat_map}
use Rattle.std.specs.List.{list_any}
use Rattle.ldap_spec.specs.Bodies.{cancel_answer, refusal}
use Rattle.ldap_spec.specs.Kinds.{kind_of}
use Rattle.ldap_spec.specs.Messages.{Message}
use Rattle.lload_names.specs.declared.names.Answer.{Answer}
use Rattle.lload_names.specs.declared.names.Answer.TheVariants.{Go, Busy, Unavailable}
use Rattle.lload_names.specs.declared.names.CancelAnswer.{CancelAnswer}
use Rattle.lload_names.specs.declared.names.CancelAnswer.TheVariants.{S1, C13}
use Rattle.lload_names.specs.declared.names.EndWhy.{EndWhy}
use Rattle.lload_names.specs.declared.names.EndWhy.TheVariants.{Bad, TooBig}
use Rattle.lload_names.specs.declared.names.Entry.{Entry}
use Rattle.lload_names.specs.declared.names.Letter.{Letter}
use Rattle.lload_names.specs.declared.names.Letter.TheVariants.{Choice, Reply, Failed, Drop, Leave, Forward}
use Rattle.lload_names.specs.declared.names.OpKind.{OpKind}
use Rattle.lload_names.specs.declared.names.OpKind.TheVariants.{Bind}
use Rattle.lload_names.specs.declared.names.OpName.{OpName}
use Rattle.lload_names.specs.declared.names.PartName.{PartName}
use Rattle.lload_names.specs.declared.names.PartName.TheVariants.{Client, Up as Connection}
use Rattle.lload_names.specs.declared.names.Posted.{Posted}
use Rattle.lload_names.specs.declared.names.Refusal.{Refusal}
use Rattle.lload_names.specs.declared.names.Refusal.TheVariants.{C1, C3}
use Rattle.lload_names.specs.declared.names.What.{What}
use Rattle.lload_names.specs.declared.names.What.TheVariants as what
use Rattle.lload_names.specs.declared.inputs.Input.{Input}
use Rattle.lload_names.specs.declared.inputs.Input.TheVariants.{Arrive, Message as MessageIn, LetterFrom, LinkGone, Stall, Flow}
use Rattle.lload_spec.specs.FirstCheck.{Check, Ends, Unbinds, Abandons, Refuses, Answers, Cancels, GoesOn, live_request, may_be_canceled}
use Rattle.lload_spec.specs.Lists.{rising_once, put_number}
use Rattle.lload_spec.specs.Operations.{is_request_of}
use Rattle.lload_spec.specs.Answers.{wants_identity}
use Rattle.lload_spec.specs.Pauses.{pauses_behind, pause_letters}
use Rattle.lload_spec.specs.Settings.{Settings}
use Rattle.part_spec.specs.Inputs.{Act, act, nothing, to, where_so, entries_of, effects_of, moment_for}
use Rattle.part_spec.specs.ClientState.{ClientState, ClientRow, Held as HeldBy, is_bind_row, is_holding, is_present, is_pinned, row_named, regular_connections, check_at, abandons, name_of, new_row}
use Rattle.part_spec.specs.ClientTurn as turn
use Rattle.client_session.specs.Most.{most_of, IsWithin}
use Rattle.client_session.specs.declared.part.ClientPart.{ClientPart}
use Rattle.client_session.specs.Stands.{Seen, seen, shown, Stands}
use Rattle.client_session.proofs.Flows.{length-put}

-- a rule that gives at most three entries, and at most so many letters
pub record Small (n : ℕ) (a : Act) : Type 0 where
  pub whats : length a.whats ≤ 3
  pub letters : length a.letters ≤ n

length-both : {A : Type 0} (xs ys : List A) → length (xs ++ ys) ≡ length xs + length ys
length-both [] ys = omega arith
length-both (x ∷ xs) ys = let ih = length-both xs ys in omega (arith, ih)

length-of-map : {A B : Type 0} (f : A → B) (xs : List A) → length (map f xs) ≡ length xs
length-of-map f [] = refl
length-of-map f (x ∷ xs) = ap suc (length-of-map f xs)

flat-small : {A B : Type 0} (f : A → List B) (xs : List A) → ((x : A) → length (f x) ≤ 1) → length (flat_map f xs) ≤ length xs
flat-small f [] e = omega arith
flat-small f (x ∷ xs) e = let one = e x in let ih = flat-small f xs e in let both = length-both (f x) (flat_map f xs) in omega (arith, one, ih, both)

option-small : {A : Type 0} (o : Option A) (f : A → List Posted) → ((x : A) → length (f x) ≤ 1) → length {A = Posted} (elim o [ None ↦ [] | Some x ↦ f x ]) ≤ 1
option-small None f e = omega arith
option-small (Some x) f e = e x

drop-small : (p : ClientState) (r : ClientRow) → length (turn.drop_of p r) ≤ 1
drop-small p r = by (is_bind_row r) r.connection
  where
    by : (b : Bool) (o : Option ℕ) → length {A = Posted} (elim b [ true ↦ [] | false ↦ elim o [ None ↦ [] | Some u ↦ to (Connection u) (Drop (name_of p r)) ] ]) ≤ 1
    by true o = omega arith
    by false None = omega arith
    by false (Some u) = omega arith

leave-small : (p : ClientState) → length (turn.leave p) ≤ 1
leave-small p = option-small p.hold (λ h. to (Connection h.connection) (Leave h.holder)) (λ h. omega arith)

endings-small : (p : ClientState) → length (turn.endings p) ≤ length p.rows + 1
endings-small p = let a = flat-small (turn.drop_of p) p.rows (drop-small p) in let b = leave-small p in let both = length-both (turn.drops p) (turn.leave p) in omega (arith, a, b, both)

closing-small : (p : ClientState) → length (turn.closing p) ≤ length p.rows + 1 + length p.pausing.paused
closing-small p =
    let a = endings-small p in
    let b : length (turn.resumes p) ≡ length p.pausing.paused = length-of-map _ p.pausing.paused in
    let both = length-both (turn.endings p) (turn.resumes p) in
    omega (arith, a, b, both)

-- what happens

refused-small : (m : Message) (which : Refusal) → length (turn.refused m which) ≤ 1
refused-small m which = by (kind_of m.rest)
  where
    by : (o : Option OpKind) → length {A = What} (elim o [ None ↦ [] | Some kind ↦ what.Out m.id (refusal kind which) ∷ [] ]) ≤ 1
    by None = omega arith
    by (Some kind) = omega arith

canceled-small : (id : ℕ) (o : Option OpKind) (which : CancelAnswer) → length (turn.canceled id o which) ≤ 1
canceled-small id None which = omega arith
canceled-small id (Some kind) which = omega arith

whats-small : (m : Message) (k : Check) → length (turn.whats_by m k) ≤ 2
whats-small m (Ends why) = omega arith
whats-small m Unbinds = omega arith
whats-small m (Abandons id) = omega arith
whats-small m (Refuses which) = let one = refused-small m which in omega (arith, one)
whats-small m (Answers which) = let one = canceled-small m.id (kind_of m.rest) which in omega (arith, one)
whats-small m (Cancels id kind) = let a = canceled-small id (Some kind) C13 in let b = canceled-small m.id (kind_of m.rest) S1 in let both = length-both (turn.canceled id (Some kind) C13) (turn.canceled m.id (kind_of m.rest) S1) in omega (arith, a, b, both)
whats-small m GoesOn = omega arith

-- the letters

forward-small : (s : Settings) (p : ClientState) (r : ClientRow) (h : OpName) (u : ℕ) → length (turn.forward s p r h u) ≤ 1
forward-small s p r h u = option-small (kind_of r.request.rest) (λ kind. to (Connection u) (Forward (name_of p r) kind r.request.rest (wants_identity s r.request) h)) (λ kind. omega arith)

letters-small : (s : Settings) (p : ClientState) (at : ℕ) (m : Message) (k : Check) → length (turn.letters_by s p at m k) ≤ length p.rows + 1 + length p.pausing.paused
letters-small s p at m (Ends why) = closing-small p
letters-small s p at m Unbinds = closing-small p
letters-small s p at m (Abandons id) = let one = option-small (find (abandons m) p.rows) (turn.drop_of p) (drop-small p) in omega (arith, one)
letters-small s p at m (Refuses which) = by (is_request_of Bind m)
  where
    by : (b : Bool) → length {A = Posted} (elim b [ true ↦ turn.endings p | false ↦ [] ]) ≤ length p.rows + 1 + length p.pausing.paused
    by true = let a = endings-small p in omega (arith, a)
    by false = omega arith
letters-small s p at m (Answers which) = omega arith
letters-small s p at m (Cancels id kind) = let one = option-small (find (λ r. may_be_canceled id (live_request r.request)) p.rows) (turn.drop_of p) (drop-small p) in omega (arith, one)
letters-small s p at m GoesOn = by (is_request_of Bind m) (is_pinned s p m)
  where
    goes : length (turn.goes_on s p m) ≤ 1
    goes = option-small p.hold (λ h. turn.forward s p (new_row s p m) h.holder h.connection) (λ h. forward-small s p (new_row s p m) h.holder h.connection)

    behind : (b : Bool) → length {A = Posted} (elim b [ true ↦ turn.goes_on s p m | false ↦ turn.asks s p at m ]) ≤ 1
    behind true = goes
    behind false = omega arith

    by : (b c : Bool) → length {A = Posted} (elim b [ true ↦ turn.drops p ++ elim c [ true ↦ turn.goes_on s p m | false ↦ turn.asks s p at m ] | false ↦ turn.asks s p at m ]) ≤ length p.rows + 1 + length p.pausing.paused
    by true c = let a = flat-small (turn.drop_of p) p.rows (drop-small p) in let one = behind c in let both = length-both (turn.drops p) (elim c [ true ↦ turn.goes_on s p m | false ↦ turn.asks s p at m ]) in omega (arith, a, one, both)
    by false c = omega arith

pause-small : (p : ClientState) (r : ClientRow) (u : ℕ) → length (turn.pause_at p r u) ≤ 1
pause-small p r u = by (is_bind_row r) (pauses_behind p.pausing u)
  where
    by : (b c : Bool) → length {A = Posted} (elim b [ true ↦ [] | false ↦ elim c [ true ↦ pause_letters p.number (u ∷ []) | false ↦ [] ] ]) ≤ 1
    by true c = omega arith
    by false true = omega arith
    by false false = omega arith

-- the rules

small-where : (n : ℕ) (b : Bool) (a : Act) → Small n a → Small n (where_so b a)
small-where n true a h = h
small-where n false a h = record { whats = omega arith; letters = omega arith }

choice-small : (s : Settings) (p : ClientState) (op : OpName) (o : Option ClientRow) (a : Answer) → Small (most_of p) (act (what.Chosen op a ∷ turn.whats_for o a) (turn.letters_for s p op o a))
choice-small s p op (Some r) (Go u b) = let f = forward-small s p r op u in let g = pause-small p r u in let both = length-both (turn.forward s p r op u) (turn.pause_at p r u) in record { whats = omega arith; letters = omega (arith, f, g, both) }
choice-small s p op None (Go u b) = record { whats = omega arith; letters = omega arith }
choice-small s p op (Some r) Busy = let one = refused-small r.request C1 in record { whats = omega (arith, one); letters = omega arith }
choice-small s p op (Some r) Unavailable = let one = refused-small r.request C3 in record { whats = omega (arith, one); letters = omega arith }
choice-small s p op None Busy = record { whats = omega arith; letters = omega arith }
choice-small s p op None Unavailable = record { whats = omega arith; letters = omega arith }

answer-small : (p : ClientState) (op : OpName) (rest : List ℕ) → Small (most_of p) (turn.answer p op rest)
answer-small p op rest = by (row_named p op)
  where
    by : (o : Option ClientRow) → Small (most_of p) (elim o [ None ↦ act (what.Late op ∷ []) [] | Some r ↦ act (what.Out r.request.id rest ∷ []) [] ])
    by None = record { whats = omega arith; letters = omega arith }
    by (Some r) = record { whats = omega arith; letters = omega arith }

failure-small : (p : ClientState) (op : OpName) (which : Refusal) → Small (most_of p) (turn.failure p op which)
failure-small p op which = by (row_named p op)
  where
    by : (o : Option ClientRow) → Small (most_of p) (elim o [ None ↦ act (what.Late op ∷ []) [] | Some r ↦ act (turn.refused r.request which) [] ])
    by None = record { whats = omega arith; letters = omega arith }
    by (Some r) = let one = refused-small r.request which in record { whats = omega (arith, one); letters = omega arith }

letter-small : (s : Settings) (p : ClientState) (l : Letter) → Small (most_of p) (turn.letter s p l)
letter-small s p (Choice op a) = choice-small s p op (row_named p op) a
letter-small s p (Reply op rest is_last who) = answer-small p op rest
letter-small s p (Failed op which) = failure-small p op which
letter-small s p _ = record { whats = omega arith; letters = omega arith }

rising-small : (us : List ℕ) → length (rising_once us) ≤ length us
rising-small [] = omega arith
rising-small (u ∷ us) = let a = length-put u (rising_once us) in let ih = rising-small us in omega (arith, a, ih)

stall-small : (p : ClientState) → Small (most_of p) (turn.stalls p)
stall-small p =
    let one : (r : ClientRow) → length {A = ℕ} (elim (is_bind_row r) [ true ↦ [] | false ↦ elim r.connection [ None ↦ [] | Some u ↦ u ∷ [] ] ]) ≤ 1 = λ r. by (is_bind_row r) r.connection in
    let a : length (regular_connections p) ≤ length p.rows = flat-small _ p.rows one in
    let b = rising-small (regular_connections p) in
    let same : length (turn.stall_letters p) ≡ length (rising_once (regular_connections p)) = length-of-map _ (rising_once (regular_connections p)) in
    record { whats = omega arith; letters = omega (arith, a, b, same) }
  where
    by : (b : Bool) (o : Option ℕ) → length {A = ℕ} (elim b [ true ↦ [] | false ↦ elim o [ None ↦ [] | Some u ↦ u ∷ [] ] ]) ≤ 1
    by true o = omega arith
    by false None = omega arith
    by false (Some u) = omega arith

flow-small : (p : ClientState) → Small (most_of p) (turn.flows p)
flow-small p = let same : length (turn.resumes p) ≡ length p.pausing.paused = length-of-map _ p.pausing.paused in record { whats = omega arith; letters = omega (arith, same) }

gone-small : (p : ClientState) (why : EndWhy) → Small (most_of p) (turn.link_gone p why)
gone-small p Bad = let a = closing-small p in record { whats = omega arith; letters = omega (arith, a) }
gone-small p TooBig = let a = closing-small p in record { whats = omega arith; letters = omega (arith, a) }
gone-small p _ = record { whats = omega arith; letters = omega arith }

message-small : (s : Settings) (p : ClientState) (at : ℕ) (m : Message) → Small (most_of p) (turn.message s p at m)
message-small s p at m = by (is_present p && not (is_holding s p))
  where
    by : (b : Bool) → Small (most_of p) (elim b [ false ↦ nothing | true ↦ turn.by_check s p at m (check_at s p m) ])
    by true = let a = whats-small m (check_at s p m) in let b = letters-small s p at m (check_at s p m) in record { whats = omega (arith, a); letters = omega (arith, b) }
    by false = record { whats = omega arith; letters = omega arith }

act-small : (s : Settings) (p : ClientState) (at : ℕ) (input : Input) → Small (most_of p) (turn.client_act s p at input)
act-small s p at (Arrive now) = small-where (most_of p) (not p.arrived) (act (what.Arrived ∷ []) []) (record { whats = omega arith; letters = omega arith })
act-small s p at (MessageIn now id rest) = message-small s p at (record { id = id; rest = rest })
act-small s p at (LetterFrom now word sender l) = small-where (most_of p) p.arrived (turn.letter s p l) (letter-small s p l)
act-small s p at (LinkGone now why) = small-where (most_of p) (is_present p) (turn.link_gone p why) (gone-small p why)
act-small s p at (Stall now) = small-where (most_of p) (is_present p && not p.pausing.stalled) (turn.stalls p) (stall-small p)
act-small s p at (Flow now) = small-where (most_of p) (is_present p && p.pausing.stalled) (turn.flows p) (flow-small p)
act-small s p at _ = record { whats = omega arith; letters = omega arith }

within : (p : ClientState) (c at : ℕ) (a : Act) → Small (most_of p) a → IsWithin (most_of p) (effects_of (Client c) at a)
within p c at a h =
    let same : length (entries_of (Client c) at a.whats) ≡ length a.whats = length-of-map _ a.whats in
    record { entries = let w = h.whats in omega (arith, w, same); letters = h.letters }

pub step-within : (s : Settings) (p : ClientState) (input : Input) → IsWithin (most_of p) (turn.client_turn s p input)
step-within s p input = within p p.number (moment_for p.moment input) _ (act-small s p (moment_for p.moment input) input)

pub sever-within : (p : ClientState) (now : ℕ) (why : EndWhy) → IsWithin (most_of p) (turn.client_sever p now why)
sever-within p now why = within p p.number (max p.moment now) _ (small-where (most_of p) (is_present p) (act (what.Gone why ∷ []) (turn.closing p)) (let a = closing-small p in record { whats = omega arith; letters = omega (arith, a) }))

-- and the part counts just that
pub most-kept : (s : Settings) (p : ClientState) (d : ClientPart) (n k : ℕ) → Stands s p d → n ≡ length d.operations.rows + 1 → k ≡ length d.paused.keys → max (n + k) 3 ≡ most_of p
most-kept s p d n k h rows paused =
    let a : length p.rows ≡ length d.operations.rows = sym (length-of-map (seen s) p.rows) ∙ ap (length {A = Seen}) h.live.rows_are ∙ length-of-map shown d.operations.rows in
    let b : length p.pausing.paused ≡ length d.paused.keys = ap (length {A = ℕ}) h.paused in
    omega (arith, a, b, rows, paused)
