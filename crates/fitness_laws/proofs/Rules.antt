-- Each letter that waits has a rule in its receiver's state.
use Rattle.std.proofs.Common.{◌≡◌, ℕ, ◌+◌, Bool, true, false, ◌==◌, ◌&&◌, not, if◌then◌else◌, List, [], ◌∷◌, ◌++◌, Option, Some, None, refl, ap, ◌∙◌, sym, subst, arith}
use Rattle.std.specs.Prelude.{is_some, max}
use Rattle.std.specs.List.{list_all}
use Rattle.std.proofs.lemmas.Bool.{and_from}
use Rattle.ldap_spec.specs.Bodies.{abandon, refusal}
use Rattle.ldap_spec.specs.Kinds.{kind_of}
use Rattle.lload_names.specs.declared.inputs.Input.TheVariants.{LetterFrom}
use Rattle.lload_names.specs.declared.names.ConnKind.{ConnKind}
use Rattle.lload_names.specs.declared.names.ConnKind.TheVariants.{Regular, Bind as BindKind}
use Rattle.lload_names.specs.declared.names.EndWhy.TheVariants.{Drained, Unfinished}
use Rattle.lload_names.specs.declared.names.Letter.{Letter}
use Rattle.lload_names.specs.declared.names.Letter.TheVariants.{IsDown}
use Rattle.lload_names.specs.declared.names.Letter.TheVariants as real
use Rattle.lload_names.specs.declared.names.OpKind.{OpKind}
use Rattle.lload_names.specs.declared.names.OpName.{OpName}
use Rattle.lload_names.specs.declared.names.PartName.{PartName}
use Rattle.lload_names.specs.declared.names.PartName.TheVariants.{Desk, Client, Up as Connection}
use Rattle.lload_names.specs.declared.names.Posted.{Posted}
use Rattle.lload_names.specs.declared.names.Refusal.{Refusal}
use Rattle.lload_names.specs.declared.names.What.{What}
use Rattle.lload_names.specs.declared.names.What.TheVariants as what
use Rattle.lload_names.specs.declared.plans.Place.{Place}
use Rattle.lload_spec.specs.Identifiers.{id_for}
use Rattle.lload_spec.specs.Settings.{Settings, is_kind, place_at}
use Rattle.part_spec.specs.ClientState.{ClientState, ClientRow, row_named}
use Rattle.part_spec.specs.ClientTurn.{answer, client_turn, failure, letter as client_letter, refused}
use Rattle.part_spec.specs.ConnectionState.{ConnectionState, UpRow, is_stopped, kind_at, row_named as row_at}
use Rattle.part_spec.specs.ConnectionTurn.{behind_act, ended, giving, goes_down, is_drained, retires, with_drained}
use Rattle.part_spec.specs.RegularTurn.{regular_act}
use Rattle.part_spec.specs.RegularTurn as regular
use Rattle.part_spec.specs.BindTurn.{bind_act}
use Rattle.part_spec.specs.BindTurn as bind
use Rattle.part_spec.specs.Fit.{ClientLedger}
use Rattle.part_spec.specs.Inputs.{Act, act, also, effects_of, nothing, to, where_so}
use Rattle.part_spec.specs.Marked.{Taken}
use Rattle.part_spec.specs.Turn.{connection_act, connection_turn}
use Rattle.part_spec.specs.World.{World, turn_of}
use Rattle.link_laws.specs.Laws.{StatesAreOfLists}
use Rattle.link_laws.specs.Moves.{has_entry, waiting_between}
use Rattle.move_laws.specs.World as machine
use Rattle.move_laws.specs.World.{at, some_at}
use Rattle.move_laws.specs.AgreeBinds.{Holds}
use Rattle.move_laws.specs.Counts.{num, leaves, signals}
use Rattle.move_laws.specs.Fit.{FitAnswer}
use Rattle.move_laws.proofs.Laws.{all_fit}
use Rattle.stands_laws.specs.Lists.{Each, Pairs}
use Rattle.stands_laws.specs.Books.{Book, name}
use Rattle.stands_laws.specs.Letters.{AnswerIs, AskIs, ChoiceIs, OrderIs, ReportIs}
use Rattle.stands_laws.specs.ClientStands.{ClientStands, kinds_of, serves}
use Rattle.stands_laws.specs.RegularStands.{LinkStands}
use Rattle.stands_laws.specs.WorldStands.{WorldStands, client_ledger_in, connection_ledger_in}
use Rattle.stands_laws.proofs.Tests.{same_self}
use Rattle.client_moves_laws.proofs.ClientFollowing.{awaited}
use Rattle.client_moves_laws.proofs.ClientLetters.{arrived_by, chosen_of}
use Rattle.client_moves_laws.proofs.ClientRows.{found_row}
use Rattle.fitness_laws.specs.Fitness.{RulesLaw}
use Rattle.fitness_laws.proofs.FirstLetters.{link_of, up_linked, up_placed}
use Rattle.fitness_laws.proofs.Ledgers.{client_here, connection_here}

-- letter by letter
pairs_all : {A B : Type 0} (R : A → B → Type 0) (P : B → Type 0) (t : A → Bool) (q : List A) (z : List B) → ((x : A) (y : B) → R x y → P y → t x ≡ true) → Each P z → Pairs R q z → list_all t q ≡ true
pairs_all R P t [] [] f e h = refl
pairs_all R P t [] (y ∷ ys) f e h = absurd h
pairs_all R P t (x ∷ xs) [] f e h = absurd h
pairs_all R P t (x ∷ xs) (y ∷ ys) f e h = and_from (t x) _ (f x y h.0 e.0) (pairs_all R P t xs ys f e.1 h.1)

any_letter : {A : Type 0} (z : List A) → Each (λ (y : A). Unit {0}) z
any_letter [] = tt
any_letter (y ∷ ys) = (tt, any_letter ys)

-- where it is only asked of letters that are there
where_some : {A B : Type 0} (R : A → B → Type 0) (t : A → Bool) (q : List A) (z : List B) → ((y : B) (ys : List B) → z ≡ y ∷ ys → list_all t q ≡ true) → Pairs R q z → list_all t q ≡ true
where_some R t [] [] f h = refl
where_some R t (x ∷ xs) [] f h = absurd h
where_some R t q (y ∷ ys) f h = f y ys refl

-- A client.
arrived_rule : (s : Settings) (p : ClientState) (at : ℕ) (letter : Letter) → p.arrived ≡ true → has_entry (effects_of (Client p.number) at (client_letter s p letter)) ≡ true → has_entry (effects_of (Client p.number) at (where_so p.arrived (client_letter s p letter))) ≡ true
arrived_rule s p at letter e h = subst (λ (t : Bool). has_entry (effects_of (Client p.number) at (where_so t (client_letter s p letter))) ≡ true) (sym e) h

answer_rule : (p : ClientState) (at : ℕ) (op : OpName) (rest : List ℕ) → has_entry (effects_of (Client p.number) at (answer p op rest)) ≡ true
answer_rule p at op rest = go (row_named p op)
  where
    go : (o : Option ClientRow) → has_entry (effects_of (Client p.number) at (elim o [ None ↦ act (what.Late op ∷ []) [] | Some r ↦ act (what.Out r.request.id rest ∷ []) [] ])) ≡ true
    go None = refl
    go (Some r) = refl

failure_rule : (s : Settings) (b : Book) (c at : ℕ) (l : ClientLedger) (x : machine.Client) (op : OpName) (which : Refusal) → ClientStands s b c l x → has_entry (effects_of (Client l.state.number) at (failure l.state op which)) ≡ true
failure_rule s b c at l x op which h = go (row_named l.state op) refl
  where
    by : ClientRow → Option OpKind → Act
    by r q = act (elim q [ None ↦ [] | Some kind ↦ what.Out r.request.id (refusal kind which) ∷ [] ]) []

    known : (r : ClientRow) (q : Option OpKind) → is_some q ≡ true → has_entry (effects_of (Client l.state.number) at (by r q)) ≡ true
    known r None e = absurd (let bad : false ≡ true = e in cc)
    known r (Some kind) e = refl

    go : (o : Option ClientRow) → row_named l.state op ≡ o → has_entry (effects_of (Client l.state.number) at (elim o [ None ↦ act (what.Late op ∷ []) [] | Some r ↦ act (refused r.request which) [] ])) ≡ true
    go None e = refl
    go (Some r) e =
        let z = found_row s b c l x (λ r. l.state.number == op.client && r.k == op.k) r h e in
        known r (kind_of r.request.rest) (ap (λ (q : ClientRow). is_some (kind_of q.request.rest)) z.row.is ∙ h.kinds z.row.k z.row.live)

-- A connection.
filled_more : (q : PartName) (at : ℕ) (a x : Act) → has_entry (effects_of q at a) ≡ true → has_entry (effects_of q at (also a x)) ≡ true
filled_more q at a x e = go a.whats e
  where
    go : (ws : List What) → has_entry (effects_of q at (act ws [])) ≡ true → has_entry (effects_of q at (act (ws ++ x.whats) [])) ≡ true
    go [] i = absurd (let bad : false ≡ true = i in cc)
    go (w ∷ ws) i = refl

drained_rule : (s : Settings) (q : PartName) (at : ℕ) (mark : Option Taken) (p : ConnectionState) (a : Act) → has_entry (effects_of q at a) ≡ true → has_entry (effects_of q at (with_drained s at mark p a)) ≡ true
drained_rule s q at mark p a e = go (is_drained (behind_act s at mark p a))
  where
    go : (t : Bool) → has_entry (effects_of q at (elim t [ true ↦ also a (act (what.Down Drained ∷ []) (to Desk (IsDown p.number))) | false ↦ a ])) ≡ true
    go true = filled_more q at a (act (what.Down Drained ∷ []) (to Desk (IsDown p.number))) e
    go false = e

giving_rule : (s : Settings) (q : PartName) (at id : ℕ) (w : What) (letters : List Posted) → has_entry (effects_of q at (act (giving s id w) letters)) ≡ true
giving_rule s q at id w letters = go (id == s.id_limit)
  where
    go : (t : Bool) → has_entry (effects_of q at (act (elim t [ true ↦ w ∷ what.Retired ∷ [] | false ↦ w ∷ [] ]) letters)) ≡ true
    go true = refl
    go false = refl

regular_forward_rule : (s : Settings) (q : PartName) (at : ℕ) (p : ConnectionState) (op : OpName) (rest : List ℕ) → has_entry (effects_of q at (regular.forwards s p op rest)) ≡ true
regular_forward_rule s q at p op rest = go (is_stopped p)
  where
    go : (t : Bool) → has_entry (effects_of q at (elim t [ true ↦ act (what.Missed op ∷ []) (regular.missed_letters p op) | false ↦ act (giving s (id_for p.ids) (what.Sent (id_for p.ids) op rest)) (retires s p (id_for p.ids)) ])) ≡ true
    go true = refl
    go false = giving_rule s q at (id_for p.ids) (what.Sent (id_for p.ids) op rest) (retires s p (id_for p.ids))

regular_drop_rule : (s : Settings) (q : PartName) (at : ℕ) (p : ConnectionState) (op : OpName) → has_entry (effects_of q at (regular.drops s p op)) ≡ true
regular_drop_rule s q at p op = go (row_at p op)
  where
    go : (o : Option UpRow) → has_entry (effects_of q at (elim o [ None ↦ act (what.Idle op ∷ []) [] | Some r ↦ regular.abandons s p r ])) ≡ true
    go None = refl
    go (Some r) = giving_rule s q at p.ids.next (what.Own p.ids.next (abandon r.id)) (ended p r.op None ++ retires s p p.ids.next)

bind_forward_rule : (s : Settings) (q : PartName) (at : ℕ) (p : ConnectionState) (op : OpName) (rest : List ℕ) (holder : OpName) → has_entry (effects_of q at (bind.forwards s p op rest holder)) ≡ true
bind_forward_rule s q at p op rest holder = go (is_stopped p)
  where
    go : (t : Bool) → has_entry (effects_of q at (elim t [ true ↦ act (what.Missed op ∷ []) (bind.missed_letters p op holder) | false ↦ act (giving s (id_for p.ids) (what.Sent (id_for p.ids) op rest)) (retires s p (id_for p.ids)) ])) ≡ true
    go true = refl
    go false = giving_rule s q at (id_for p.ids) (what.Sent (id_for p.ids) op rest) (retires s p (id_for p.ids))

bind_leave_rule : (s : Settings) (q : PartName) (at : ℕ) (p : ConnectionState) (holder : OpName) → has_entry (effects_of q at (bind.leaves p holder)) ≡ true
bind_leave_rule s q at p holder = go (bind.holds p holder && not p.down)
  where
    go : (t : Bool) → has_entry (effects_of q at (elim t [ true ↦ goes_down p Unfinished | false ↦ act (what.Idle holder ∷ []) [] ])) ≡ true
    go true = refl
    go false = refl

-- which letters a connection of a kind gets
abbrev pub IsOrder : Bool → machine.ToConn → Type 0
IsOrder true (machine.Signal t) = ⊥
IsOrder false (machine.Leave h) = ⊥
IsOrder _ _ = Unit {0}

no_leaves : (z : List machine.ToConn) → ((h : ℕ) → leaves h z ≡ 0) → Each (IsOrder false) z
no_leaves [] e = tt
no_leaves (machine.Forward k h ∷ z) e = (tt, no_leaves z e)
no_leaves (machine.Drop k ∷ z) e = (tt, no_leaves z e)
no_leaves (machine.Leave h ∷ z) e = let one : num (h == h) + leaves h z ≡ 0 = e h in let same : num (h == h) ≡ 1 = ap num (same_self h) in absurd (omega arith)
no_leaves (machine.Signal t ∷ z) e = (tt, no_leaves z e)

no_signals : (z : List machine.ToConn) → signals z ≡ 0 → Each (IsOrder true) z
no_signals [] e = tt
no_signals (machine.Forward k h ∷ z) e = (tt, no_signals z e)
no_signals (machine.Drop k ∷ z) e = (tt, no_signals z e)
no_signals (machine.Leave h ∷ z) e = (tt, no_signals z e)
no_signals (machine.Signal t ∷ z) e = absurd (omega arith)

regular_rule : (s : Settings) (b : Book) (c at : ℕ) (p : ConnectionState) (x : Letter) (y : machine.ToConn) → OrderIs s b c x y → IsOrder false y → has_entry (effects_of (Connection p.number) at (regular.letter s p x)) ≡ true
regular_rule s b c at p x (machine.Forward k h) r o = subst (λ (z : Letter). has_entry (effects_of (Connection p.number) at (regular.letter s p z)) ≡ true) (sym r.is) (regular_forward_rule s (Connection p.number) at p (name c k) (b.request c k).rest)
regular_rule s b c at p x (machine.Drop k) r o = subst (λ (z : Letter). has_entry (effects_of (Connection p.number) at (regular.letter s p z)) ≡ true) (sym r) (regular_drop_rule s (Connection p.number) at p (name c k))
regular_rule s b c at p x (machine.Leave h) r o = absurd o
regular_rule s b c at p x (machine.Signal true) r o = subst (λ (z : Letter). has_entry (effects_of (Connection p.number) at (regular.letter s p z)) ≡ true) (sym r) refl
regular_rule s b c at p x (machine.Signal false) r o = subst (λ (z : Letter). has_entry (effects_of (Connection p.number) at (regular.letter s p z)) ≡ true) (sym r) refl

bind_rule : (s : Settings) (b : Book) (c at : ℕ) (p : ConnectionState) (x : Letter) (y : machine.ToConn) → OrderIs s b c x y → IsOrder true y → has_entry (effects_of (Connection p.number) at (bind.letter s p x)) ≡ true
bind_rule s b c at p x (machine.Forward k h) r o = subst (λ (z : Letter). has_entry (effects_of (Connection p.number) at (bind.letter s p z)) ≡ true) (sym r.is) (bind_forward_rule s (Connection p.number) at p (name c k) (b.request c k).rest (name c h))
bind_rule s b c at p x (machine.Drop k) r o = subst (λ (z : Letter). has_entry (effects_of (Connection p.number) at (bind.letter s p z)) ≡ true) (sym r) refl
bind_rule s b c at p x (machine.Leave h) r o = subst (λ (z : Letter). has_entry (effects_of (Connection p.number) at (bind.letter s p z)) ≡ true) (sym r) (bind_leave_rule s (Connection p.number) at p (name c h))
bind_rule s b c at p x (machine.Signal t) r o = absurd o

-- the turn, where the connection has a place and is linked
turn_rule : (s : Settings) (p : ConnectionState) (now word : ℕ) (sender : PartName) (letter : Letter) (k : ConnKind) → is_some (place_at s p.number) ≡ true → p.linked ≡ true → p.kind ≡ k
    → has_entry (effects_of (Connection p.number) (max p.moment now) (elim k [ Regular ↦ regular.letter s p letter | BindKind ↦ bind.letter s p letter ])) ≡ true
    → has_entry (connection_turn s p (LetterFrom now word sender letter)) ≡ true
turn_rule s p now word sender letter k place linked kind e = placed (place_at s p.number) place (of_kind k kind e)
  where
    at_now : ℕ
    at_now = max p.moment now

    mark : Option Taken
    mark = Some (record { sender = sender; letter = letter })

    placed : (o : Option Place) → is_some o ≡ true → has_entry (effects_of (Connection p.number) (max p.moment now) (connection_act s p (max p.moment now) (LetterFrom now word sender letter))) ≡ true
        → has_entry (effects_of (Connection p.number) (max p.moment now) (elim o [ None ↦ nothing | Some place ↦ connection_act s p (max p.moment now) (LetterFrom now word sender letter) ])) ≡ true
    placed None i h = absurd (let bad : false ≡ true = i in cc)
    placed (Some place) i h = h

    so : (a : Act) → has_entry (effects_of (Connection p.number) (max p.moment now) a) ≡ true → has_entry (effects_of (Connection p.number) (max p.moment now) (with_drained s (max p.moment now) (Some (record { sender = sender; letter = letter })) p (where_so p.linked a))) ≡ true
    so a h = drained_rule s (Connection p.number) (max p.moment now) (Some (record { sender = sender; letter = letter })) p (where_so p.linked a) (subst (λ (t : Bool). has_entry (effects_of (Connection p.number) (max p.moment now) (where_so t a)) ≡ true) (sym linked) h)

    of_kind : (k : ConnKind) → p.kind ≡ k → has_entry (effects_of (Connection p.number) (max p.moment now) (elim k [ Regular ↦ regular.letter s p letter | BindKind ↦ bind.letter s p letter ])) ≡ true
        → has_entry (effects_of (Connection p.number) (max p.moment now) (connection_act s p (max p.moment now) (LetterFrom now word sender letter))) ≡ true
    of_kind Regular i h = subst (λ (z : ConnKind). has_entry (effects_of (Connection p.number) (max p.moment now) (elim z [ Regular ↦ regular_act s p (max p.moment now) (LetterFrom now word sender letter) | BindKind ↦ bind_act s p (max p.moment now) (LetterFrom now word sender letter) ])) ≡ true) (sym i) (so (regular.letter s p letter) h)
    of_kind BindKind i h = subst (λ (z : ConnKind). has_entry (effects_of (Connection p.number) (max p.moment now) (elim z [ Regular ↦ regular_act s p (max p.moment now) (LetterFrom now word sender letter) | BindKind ↦ bind_act s p (max p.moment now) (LetterFrom now word sender letter) ])) ≡ true) (sym i) (so (bind.letter s p letter) h)

pub kind_known : (k : ConnKind) (t : Bool) → is_kind BindKind k ≡ t → k ≡ (if t then BindKind else Regular)
kind_known Regular true e = absurd (let bad : false ≡ true = e in cc)
kind_known Regular false e = refl
kind_known BindKind true e = refl
kind_known BindKind false e = absurd (let bad : true ≡ false = e in cc)

module _ (s : Settings) (b : Book) (w : World) (v : machine.World) (h : WorldStands s b w v) (holds : Holds (kinds_of s b) v) (states : StatesAreOfLists s w) (now word : ℕ) where
  abbrev rule : PartName → PartName → Letter → Bool
  rule sender receiver letter = has_entry (turn_of s w receiver (LetterFrom now word sender letter))

  client_rule : (c : ℕ) (sender : PartName) (letter : Letter) → (client_ledger_in s w c).state.arrived ≡ true → ((n : ℕ) → has_entry (effects_of (Client (client_ledger_in s w c).state.number) n (client_letter s (client_ledger_in s w c).state letter)) ≡ true) → rule sender (Client c) letter ≡ true
  client_rule c sender letter arrived f =
      ap (λ (p : ClientState). has_entry (client_turn s p (LetterFrom now word sender letter))) (client_here s w c states)
      ∙ arrived_rule s (client_ledger_in s w c).state (max (client_ledger_in s w c).state.moment now) letter arrived (f (max (client_ledger_in s w c).state.moment now))

  choices_rule : (c : ℕ) → list_all (rule Desk (Client c)) (waiting_between w Desk (Client c)) ≡ true
  choices_rule c = where_some (ChoiceIs s b c) (rule Desk (Client c)) (waiting_between w Desk (Client c)) (v.choices c) some (h.choices c)
    where
      some : (y : machine.ToChooser) (ys : List machine.ToChooser) → v.choices c ≡ y ∷ ys → list_all (rule Desk (Client c)) (waiting_between w Desk (Client c)) ≡ true
      some (machine.Choice k o) ys e =
          let f = chosen_of (kinds_of s b) v c k o ys holds e in
          let arrived = arrived_by s b c k (client_ledger_in s w c) (v.clients c) (h.clients c).stands f.1 in
          pairs_all (ChoiceIs s b c) (λ y. Unit {0}) (rule Desk (Client c)) (waiting_between w Desk (Client c)) (v.choices c) (λ x y r _. one x y r arrived) (any_letter (v.choices c)) (h.choices c)
        where
          one : (x : Letter) (y : machine.ToChooser) → ChoiceIs s b c x y → (client_ledger_in s w c).state.arrived ≡ true → rule Desk (Client c) x ≡ true
          one x (machine.Choice j q) r arrived = subst (λ (z : Letter). rule Desk (Client c) z ≡ true) (sym r.is) (client_rule c Desk (real.Choice (name c j) r.answer) arrived (λ n. refl))

  answers_rule : (c u : ℕ) → list_all (rule (Connection u) (Client c)) (waiting_between w (Connection u) (Client c)) ≡ true
  answers_rule c u = where_some (AnswerIs s b c) (rule (Connection u) (Client c)) (waiting_between w (Connection u) (Client c)) (v.to_client c u) some (h.answers c u)
    where
      one : (x : Letter) (y : machine.ToClient) → AnswerIs s b c x y → (client_ledger_in s w c).state.arrived ≡ true → rule (Connection u) (Client c) x ≡ true
      one x (machine.Reply j last stay) r arrived = subst (λ (z : Letter). rule (Connection u) (Client c) z ≡ true) (sym r.is) (client_rule c (Connection u) (real.Reply (name c j) r.rest last r.who) arrived (λ n. answer_rule (client_ledger_in s w c).state n (name c j) r.rest))
      one x (machine.Failed j) r arrived = subst (λ (z : Letter). rule (Connection u) (Client c) z ≡ true) (sym r.is) (client_rule c (Connection u) (real.Failed (name c j) r.which) arrived (λ n. failure_rule s b c n (client_ledger_in s w c) (v.clients c) (name c j) r.which (h.clients c).stands))

      all : (k : ℕ) → at ((v.clients c).given k) u ≡ true → (v.clients c).closed k u ≡ false → list_all (rule (Connection u) (Client c)) (waiting_between w (Connection u) (Client c)) ≡ true
      all k given closed =
          let arrived = arrived_by s b c k (client_ledger_in s w c) (v.clients c) (h.clients c).stands (awaited s b v c k u (client_ledger_in s w c) holds (h.clients c).stands given closed).below in
          pairs_all (AnswerIs s b c) (λ y. Unit {0}) (rule (Connection u) (Client c)) (waiting_between w (Connection u) (Client c)) (v.to_client c u) (λ x y r _. one x y r arrived) (any_letter (v.to_client c u)) (h.answers c u)

      some : (y : machine.ToClient) (ys : List machine.ToClient) → v.to_client c u ≡ y ∷ ys → list_all (rule (Connection u) (Client c)) (waiting_between w (Connection u) (Client c)) ≡ true
      some (machine.Reply k last stay) ys e = let f : FitAnswer u (v.clients c) (machine.Reply k last stay ∷ ys) = subst (FitAnswer u (v.clients c)) e ((all_fit (kinds_of s b) v holds).answer c u) in all k f.0 f.1
      some (machine.Failed k) ys e = let f : FitAnswer u (v.clients c) (machine.Failed k ∷ ys) = subst (FitAnswer u (v.clients c)) e ((all_fit (kinds_of s b) v holds).answer c u) in all k f.0 f.1

  -- The desk.
  asks_rule : (c : ℕ) → list_all (rule (Client c) Desk) (waiting_between w (Client c) Desk) ≡ true
  asks_rule c = pairs_all (AskIs b c) (λ y. Unit {0}) (rule (Client c) Desk) (waiting_between w (Client c) Desk) (v.to_desk c) (λ x y r _. one x y r) (any_letter (v.to_desk c)) (h.asks c)
    where
      one : (x : Letter) (y : machine.ToDesk) → AskIs b c x y → rule (Client c) Desk x ≡ true
      one x (machine.Ask k) r = subst (λ (z : Letter). rule (Client c) Desk z ≡ true) (sym r.is) refl
      one x (machine.Returned k u) r = subst (λ (z : Letter). rule (Client c) Desk z ≡ true) (sym r) refl

  reports_rule : (u : ℕ) → list_all (rule (Connection u) Desk) (waiting_between w (Connection u) Desk) ≡ true
  reports_rule u = pairs_all (ReportIs u) (λ y. Unit {0}) (rule (Connection u) Desk) (waiting_between w (Connection u) Desk) (v.reports u) (λ x y r _. one x y r) (any_letter (v.reports u)) (h.reports u)
    where
      one : (x : Letter) (y : machine.Report) → ReportIs u x y → rule (Connection u) Desk x ≡ true
      one x (machine.Ended c k) r = subst (λ (z : Letter). rule (Connection u) Desk z ≡ true) (sym r.is) refl
      one x machine.IsUp r = subst (λ (z : Letter). rule (Connection u) Desk z ≡ true) (sym r) refl
      one x machine.IsRetired r = subst (λ (z : Letter). rule (Connection u) Desk z ≡ true) (sym r) refl
      one x machine.IsDown r = subst (λ (z : Letter). rule (Connection u) Desk z ≡ true) (sym r) refl

  -- Orders.
  order_rule : (c u : ℕ) (t : Bool) → serves s u ≡ t → Each (IsOrder t) (v.to_conn c u) → (v.conns u).up ≡ true → list_all (rule (Client c) (Connection u)) (waiting_between w (Client c) (Connection u)) ≡ true
  order_rule c u t serve orders up = pairs_all (OrderIs s b c) (IsOrder t) (rule (Client c) (Connection u)) (waiting_between w (Client c) (Connection u)) (v.to_conn c u) one orders (h.orders c u)
    where
      p : ConnectionState
      p = (connection_ledger_in s w u).state

      link : LinkStands s u (connection_ledger_in s w u).state (v.conns u)
      link = link_of s b u (connection_ledger_in s w u) (v.conns u) (serves s u) (h.conns u)

      by_kind : (t : Bool) (x : Letter) (y : machine.ToConn) (n : ℕ) → OrderIs s b c x y → IsOrder t y → has_entry (effects_of (Connection (connection_ledger_in s w u).state.number) n (elim (if t then BindKind else Regular) [ Regular ↦ regular.letter s (connection_ledger_in s w u).state x | BindKind ↦ bind.letter s (connection_ledger_in s w u).state x ])) ≡ true
      by_kind true x y n r o = bind_rule s b c n (connection_ledger_in s w u).state x y r o
      by_kind false x y n r o = regular_rule s b c n (connection_ledger_in s w u).state x y r o

      one : (x : Letter) (y : machine.ToConn) → OrderIs s b c x y → IsOrder t y → rule (Client c) (Connection u) x ≡ true
      one x y r o =
          ap (λ (p : ConnectionState). has_entry (connection_turn s p (LetterFrom now word (Client c) x))) (connection_here s w u states)
          ∙ turn_rule s (connection_ledger_in s w u).state now word (Client c) x (if t then BindKind else Regular)
          (ap (λ (n : ℕ). is_some (place_at s n)) link.number ∙ up_placed s u (connection_ledger_in s w u).state (v.conns u) link up)
          (up_linked s u (connection_ledger_in s w u).state (v.conns u) link up)
          (link.kind ∙ kind_known (kind_at s u) t serve)
          (by_kind t x y (max (connection_ledger_in s w u).state.moment now) r o)

  orders_rule : (c u : ℕ) → list_all (rule (Client c) (Connection u)) (waiting_between w (Client c) (Connection u)) ≡ true
  orders_rule c u = where_some (OrderIs s b c) (rule (Client c) (Connection u)) (waiting_between w (Client c) (Connection u)) (v.to_conn c u) (λ y ys e. some (serves s u) refl y ys e) (h.orders c u)
    where
      some : (t : Bool) → serves s u ≡ t → (y : machine.ToConn) (ys : List machine.ToConn) → v.to_conn c u ≡ y ∷ ys → list_all (rule (Client c) (Connection u)) (waiting_between w (Client c) (Connection u)) ≡ true
      some true serve y ys e = order_rule c u true serve (no_signals (v.to_conn c u) ((holds.pausing c u).plain serve)) (let up : (v.conns u).up ≡ true = rw e at ((all_fit (kinds_of s b) v holds).begins c u) in up)
      some false plain y ys e = order_rule c u false plain (no_leaves (v.to_conn c u) (λ k. (holds.suited c k u).no_leave (ap num plain))) (let up : (v.conns u).up ≡ true = rw e at ((all_fit (kinds_of s b) v holds).begins c u) in up)

  none_rule : (sender receiver : PartName) → waiting_between w sender receiver ≡ [] → list_all (rule sender receiver) (waiting_between w sender receiver) ≡ true
  none_rule sender receiver e = ap (list_all (rule sender receiver)) e

  pub have_rules : (sender receiver : PartName) → list_all (rule sender receiver) (waiting_between w sender receiver) ≡ true
  have_rules Desk Desk = none_rule Desk Desk h.strangers.desk
  have_rules (Client c) Desk = asks_rule c
  have_rules (Connection u) Desk = reports_rule u
  have_rules Desk (Client c) = choices_rule c
  have_rules (Client a) (Client c) = none_rule (Client a) (Client c) (h.strangers.clients a c)
  have_rules (Connection u) (Client c) = answers_rule c u
  have_rules Desk (Connection u) = none_rule Desk (Connection u) (h.strangers.orders u)
  have_rules (Client c) (Connection u) = orders_rule c u
  have_rules (Connection n) (Connection u) = none_rule (Connection n) (Connection u) (h.strangers.connections n u)

pub rules : RulesLaw
rules s b w v h holds states sender receiver now word = have_rules s b w v h holds states now word sender receiver
