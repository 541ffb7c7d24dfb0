-- A client's turns at a choice.
use Rattle.std.proofs.Common.{◌≡◌, ℕ, ◌<◌, Bool, true, false, ◌==◌, ◌&&◌, not, if◌then◌else◌, List, [], ◌∷◌, ◌++◌, Option, Some, None, refl, ap, ◌∙◌, sym, subst}
use Rattle.std.specs.Prelude.{filter}
use Rattle.std.specs.Option.{is_some}
use Rattle.ldap_spec.specs.Messages.{Message}
use Rattle.ldap_spec.specs.Kinds.{kind_of, same_kind, response_tag}
use Rattle.ldap_spec.specs.Responses.{has_code}
use Rattle.ldap_spec.specs.Bodies.{refusal}
use Rattle.lload_names.specs.declared.names.OpName.{OpName}
use Rattle.lload_names.specs.declared.names.OpKind.{OpKind}
use Rattle.lload_names.specs.declared.names.OpKind.TheVariants.{Bind, Search, Modify, Add, Delete, ModifyDn, Compare, Extended}
use Rattle.lload_names.specs.declared.names.Refusal.{Refusal}
use Rattle.lload_names.specs.declared.names.Refusal.TheVariants.{C1, C2, C3, C4, C5, C6, C7, C8, C9, C10, C11}
use Rattle.lload_names.specs.declared.names.Answer.{Answer}
use Rattle.lload_names.specs.declared.names.Answer.TheVariants.{Go, Busy, Unavailable}
use Rattle.lload_names.specs.declared.names.Letter.{Letter}
use Rattle.lload_names.specs.declared.names.Letter.TheVariants.{Forward, Returned}
use Rattle.lload_names.specs.declared.names.PartName.TheVariants.{Desk, Client as ClientPart, Up as Connection}
use Rattle.lload_names.specs.declared.names.Posted.{Posted}
use Rattle.lload_names.specs.declared.names.What.TheVariants as what
use Rattle.lload_spec.specs.Answers.{wants_identity}
use Rattle.lload_spec.specs.Lists.{passes}
use Rattle.lload_spec.specs.Journal.{same_op}
use Rattle.lload_spec.specs.Settings.{Settings}
use Rattle.lload_spec.specs.Operations.{is_final_for, is_request_of}
use Rattle.part_spec.specs.Inputs.{Act, act, entries_of, marked_by, to}
use Rattle.part_spec.specs.Marked.{letters_to}
use Rattle.part_spec.specs.ClientState.{ClientState, ClientRow, name_of, row_named}
use Rattle.part_spec.specs.ClientTurn.{forward, refused, whats_for}
use Rattle.part_spec.specs.Fit.{ClientLedger, step_client_ledger, ledger_behind, going_to}
use Rattle.move_laws.specs.World.{Client, ToDesk, ToChooser, ToConn, ToClient, at}
use Rattle.move_laws.specs.World as machine
use Rattle.move_laws.specs.Clients.{choice_row}
use Rattle.stands_laws.specs.Lists.{Pairs}
use Rattle.stands_laws.specs.Books.{Book, is_bind_op, name}
use Rattle.stands_laws.specs.Letters.{AskIs, OrderIs}
use Rattle.stands_laws.specs.ClientSides.{ClientSide, Choosing}
use Rattle.stands_laws.specs.ClientStands.{row_of, ClientStands}
use Rattle.stands_laws.proofs.Tests.{same_self, find_kept}
use Rattle.stands_laws.proofs.Pairs.{pairs_append}
use Rattle.client_moves_laws.proofs.Makes.{Makes}
use Rattle.client_moves_laws.proofs.ClientTakes.{row_found, chosen_ledger, chosen_behind, client_chosen, client_goes, Chosen, desk_choice, chosen_mark}
use Rattle.client_moves_laws.proofs.ClientOuts.{out_mark, out_ledger, out_behind, under_found, client_answered, closed_row}

-- a refusal is a final answer, and none of a Bind goes on
pub refusal_final : (m : Message) (kind : OpKind) (which : Refusal) → kind_of m.rest ≡ Some kind → is_final_for m (refusal kind which) ≡ true
refusal_final m kind which e = rw e (same_self (response_tag kind))

-- a request of the kind Bind is a Bind
pub bind_kind : (m : Message) (kind : OpKind) → kind_of m.rest ≡ Some kind → is_request_of Bind m ≡ true → kind ≡ Bind
bind_kind m kind e h = only kind (sym (ap (passes (same_kind Bind)) e) ∙ h)
  where
    only : (kind : OpKind) → same_kind Bind kind ≡ true → kind ≡ Bind
    only Bind h = refl
    only Search h = absurd (cc)
    only Modify h = absurd (cc)
    only Add h = absurd (cc)
    only Delete h = absurd (cc)
    only ModifyDn h = absurd (cc)
    only Compare h = absurd (cc)
    only Extended h = absurd (cc)

pub refusal_ends : (which : Refusal) → has_code 14 (refusal Bind which) ≡ false
refusal_ends C1 = refl
refusal_ends C2 = refl
refusal_ends C3 = refl
refusal_ends C4 = refl
refusal_ends C5 = refl
refusal_ends C6 = refl
refusal_ends C7 = refl
refusal_ends C8 = refl
refusal_ends C9 = refl
refusal_ends C10 = refl
refusal_ends C11 = refl

-- the letters of a Forward, and those of the abstract machine
pub forward_pairs : (s : Settings) (b : Book) (c k h u v : ℕ) (op holder : OpName) (r : ClientRow) (o : Option OpKind) (q : List Letter) (z : List ToConn) → b.pinned c k ≡ not (h == k) → r.request ≡ b.request c k → op ≡ name c k → holder ≡ name c h → kind_of r.request.rest ≡ o → is_some o ≡ true → Pairs (OrderIs s b c) q z
    → Pairs (OrderIs s b c) (q ++ letters_to (Connection v) (elim o [ None ↦ [] | Some kind ↦ to (Connection u) (Forward op kind r.request.rest (wants_identity s r.request) holder) ])) (z ++ (if v == u then machine.Forward k h ∷ [] else []))
forward_pairs s b c k h u v op holder r None q z pin e n m i j p = absurd (cc)
forward_pairs s b c k h u v op holder r (Some kind) q z pin e n m i j p = pairs_append (OrderIs s b c) q z _ _ p (go (v == u))
  where
    go : (t : Bool) → Pairs (OrderIs s b c) ((elim t [ true ↦ Forward op kind r.request.rest (wants_identity s r.request) holder ∷ [] | false ↦ [] ]) ++ []) (if t then machine.Forward k h ∷ [] else [])
    go true = (record { kind = kind; is = λ w. Forward (n w) kind (e w).rest (wants_identity s (e w)) (m w); known = sym (ap (λ (m : Message). kind_of m.rest) e) ∙ i; pinned = pin }, tt)
    go false = tt

-- a Forward isn't for the desk
no_ask : (u : ℕ) (f : OpKind → Letter) (o : Option OpKind) → letters_to Desk (elim o [ None ↦ [] | Some kind ↦ to (Connection u) (f kind) ]) ≡ []
no_ask u f None = refl
no_ask u f (Some kind) = refl

pub nothing_more : {A B : Type 0} (R : A → B → Type 0) (q : List A) (z : List B) → Pairs R q z → Pairs R (q ++ []) (z ++ [])
nothing_more R q z p = pairs_append R q z [] [] p tt

-- what a choice makes, but for the pause behind a Forward
abbrev pub chosen_letters : Settings → ClientState → OpName → Option ClientRow → Answer → List Posted
chosen_letters s p op (Some r) (Go u n) = forward s p r op u
chosen_letters s p op None (Go u n) = to Desk (Returned op u)
chosen_letters s p op _ _ = []

abbrev pub choice_by : Settings → ClientState → OpName → Answer → Option ClientRow → Act
choice_by s p op answer o = act (what.Chosen op answer ∷ whats_for o answer) (chosen_letters s p op o answer)

-- a client where a choice waits first
abbrev pub choosing : Client → List ToDesk → (ℕ → List ToConn) → ℕ → Option ℕ → List ToChooser → (ℕ → List ToClient) → ClientSide
choosing x qa qo k a qc qr = record { row = x; asks = qa; orders = qo; choices = machine.Choice k a ∷ qc; answers = qr }

here_live : (s : Settings) (b : Book) (c k : ℕ) (l : ClientLedger) (x : Client) → ClientStands s b c l x → x.live k ≡ true → x.gone ≡ false
here_live s b c k l x h live = go x.gone refl
  where
    go : (t : Bool) → x.gone ≡ t → x.gone ≡ false
    go true e = absurd (let bad = sym live ∙ h.dead e k in cc)
    go false e = e

late_stands : (s : Settings) (b : Book) (c k now : ℕ) (answer : Answer) (l : ClientLedger) (x : Client) → ClientStands s b c l x → k < x.next → x.live k ≡ false
    → ClientStands s b c (step_client_ledger s l (chosen_mark (ClientPart l.state.number) now (name c k) answer (desk_choice (name c k) answer))) (choice_row (x.live k) (is_bind_op b c k) k (going_to answer) x)
late_stands s b c k now answer l x h below live =
    subst (λ (z : ClientLedger). ClientStands s b c z (choice_row (x.live k) (is_bind_op b c k) k (going_to answer) x))
    (sym (chosen_behind s (ClientPart l.state.number) now (name c k) answer (desk_choice (name c k) answer) l None (row_found s b c k l x h below ∙ ap (λ (t : Bool). if t then Some (row_of b c x k) else None) live)))
    (subst (λ (t : Bool). ClientStands s b c (chosen_ledger None now (name c k) answer (desk_choice (name c k) answer) l) (choice_row t (is_bind_op b c k) k (going_to answer) x)) (sym live) (by_answer answer))
  where
    by_answer : (answer : Answer) → ClientStands s b c (chosen_ledger None now (name c k) answer (desk_choice (name c k) answer) l) (choice_row false (is_bind_op b c k) k (going_to answer) x)
    by_answer (Go u n) = client_chosen s b c k now l x (Go u n) (is_bind_op b c k) (Some u) h
    by_answer Busy = client_chosen s b c k now l x Busy (is_bind_op b c k) None h
    by_answer Unavailable = client_chosen s b c k now l x Unavailable (is_bind_op b c k) None h

choice_late : (s : Settings) (b : Book) (c k now : ℕ) (answer : Answer) (l : ClientLedger) (x : Client) (qa : List ToDesk) (qo : ℕ → List ToConn) (qc : List ToChooser) (qr : ℕ → List ToClient) → ClientStands s b c l x → k < x.next → x.live k ≡ false
    → Makes s b c now (desk_choice (name c k) answer) l (choice_by s l.state (name c k) answer None) (choosing x qa qo k (going_to answer) qc qr) (Choosing ∷ [])
choice_late s b c k now (Go u n) l x qa qo qc qr h below live = record {
  stands = late_stands s b c k now (Go u n) l x h below live;
  asks = λ q p. rw live (pairs_append (AskIs b c) q qa _ _ p (refl, tt));
  orders = λ v q p. rw live (nothing_more (OrderIs s b c) q (qo v) p);
}
choice_late s b c k now Busy l x qa qo qc qr h below live = record {
  stands = late_stands s b c k now Busy l x h below live;
  asks = λ q p. rw live (nothing_more (AskIs b c) q qa p);
  orders = λ v q p. rw live (nothing_more (OrderIs s b c) q (qo v) p);
}
choice_late s b c k now Unavailable l x qa qo qc qr h below live = record {
  stands = late_stands s b c k now Unavailable l x h below live;
  asks = λ q p. rw live (nothing_more (AskIs b c) q qa p);
  orders = λ v q p. rw live (nothing_more (OrderIs s b c) q (qo v) p);
}

-- the name of a row
pub row_name : (s : Settings) (b : Book) (c k : ℕ) (l : ClientLedger) (x : Client) → ClientStands s b c l x → name_of l.state (row_of b c x k) ≡ name c k
row_name s b c k l x h = λ z. record { client = h.number z; k = k }

-- it goes to the connection
abbrev pub goes_act : Settings → Book → ℕ → ℕ → Client → ℕ → ℕ → OpName → Act
goes_act s b c k x u n op = act (what.Chosen (name c k) (Go u n) ∷ []) (elim (kind_of (b.request c k).rest) [ None ↦ [] | Some kind ↦ to (Connection u) (Forward op kind (b.request c k).rest (wants_identity s (b.request c k)) (name c k)) ])

choice_goes : (s : Settings) (b : Book) (c k now u n : ℕ) (l : ClientLedger) (x : Client) (qa : List ToDesk) (qo : ℕ → List ToConn) (qc : List ToChooser) (qr : ℕ → List ToClient) → ClientStands s b c l x → Chosen x k → k < x.next → b.pinned c k ≡ false → x.live k ≡ true
    → Makes s b c now (desk_choice (name c k) (Go u n)) l (choice_by s l.state (name c k) (Go u n) (Some (row_of b c x k))) (choosing x qa qo k (Some u) qc qr) (Choosing ∷ [])
choice_goes s b c k now u n l x qa qo qc qr h f below pin live =
    subst (λ (op : OpName). Makes s b c now (desk_choice (name c k) (Go u n)) l (goes_act s b c k x u n op) (choosing x qa qo k (Some u) qc qr) (Choosing ∷ [])) (sym (row_name s b c k l x h)) (record {
      stands = subst (λ (z : ClientLedger). ClientStands s b c z (choice_row (x.live k) (is_bind_op b c k) k (Some u) x))
          (sym (chosen_behind s (ClientPart l.state.number) now (name c k) (Go u n) (desk_choice (name c k) (Go u n)) l (Some (row_of b c x k)) (row_found s b c k l x h below ∙ ap (λ (t : Bool). if t then Some (row_of b c x k) else None) live)))
          (subst (λ (t : Bool). ClientStands s b c (chosen_ledger (Some (row_of b c x k)) now (name c k) (Go u n) (desk_choice (name c k) (Go u n)) l) (choice_row t (is_bind_op b c k) k (Some u) x)) (sym live) (client_goes s b c k now u n l x h f live (here_live s b c k l x h live)));
      asks = λ q p. rw (live, no_ask u (λ kind. Forward (name c k) kind (b.request c k).rest (wants_identity s (b.request c k)) (name c k)) (kind_of (b.request c k).rest)) (nothing_more (AskIs b c) q qa p);
      orders = λ v q p. rw live (forward_pairs s b c k k u v (name c k) (name c k) (row_of b c x k) (kind_of (b.request c k).rest) q (qo v) (pin ∙ ap not (sym (same_self k))) refl refl refl refl (h.kinds k live) p);
    })

-- it is refused
abbrev pub refused_act : Option OpKind → OpName → Answer → ℕ → Refusal → Act
refused_act o op answer id which = act (what.Chosen op answer ∷ elim o [ None ↦ [] | Some kind ↦ what.Out id (refusal kind which) ∷ [] ]) []

-- where no connection came, the client holds none by this operation
unheld : (t stay : Bool) (o : Option machine.Hold) → (t ≡ true → machine.conn_of o ≡ None) → (if t && not stay then None else o) ≡ o
unheld true true o e = refl
unheld true false None e = refl
unheld true false (Some v) e = absurd (let bad = e refl in cc)
unheld false stay o e = refl

pub kind_is : (o : Option OpKind) → is_some o ≡ true → (kind : OpKind) × (o ≡ Some kind)
kind_is None e = absurd (cc)
kind_is (Some kind) e = (kind, refl)

refused_row : (s : Settings) (b : Book) (c k : ℕ) (rest : List ℕ) (l : ClientLedger) (x y : Client) → ClientStands s b c l x → Chosen x k → x.live k ≡ true → y ≡ choice_row false (is_bind_op b c k) k None x
    → closed_row (is_bind_op b c k) (has_code 14 rest) k x.closed (choice_row false (is_bind_op b c k) k None x) ≡ choice_row true (is_bind_op b c k) k None x
refused_row s b c k rest l x y h f live e =
    λ z. record x { chosen = machine.put x.chosen k true; live = machine.put x.live k false; busy = if is_bind_op b c k then false else x.busy; hold = unheld (is_bind_op b c k) (has_code 14 rest) x.hold (λ t. h.bound k live t ∙ f.given) z }

refused_rest : (s : Settings) (b : Book) (c k now : ℕ) (which : Refusal) (kind : OpKind) (l : ClientLedger) (x : Client) → ClientStands s b c l x → Chosen x k → x.live k ≡ true → kind_of (b.request c k).rest ≡ Some kind
    → ClientStands s b c (step_client_ledger s (record { state = record l.state { moment = now; asked = filter (λ a. not (same_op (name c k) a.op)) l.state.asked }; expected = filter (λ y. true) l.expected }) (out_mark (ClientPart l.state.number) now (b.request c k).id (refusal kind which) None)) (choice_row true (is_bind_op b c k) k None x)
refused_rest s b c k now which kind l x h f live e =
    let l1 : ClientLedger = record { state = record l.state { moment = now; asked = filter (λ a. not (same_op (name c k) a.op)) l.state.asked }; expected = filter (λ y. true) l.expected } in
    let h1 : ClientStands s b c l1 (choice_row false (is_bind_op b c k) k None x) = client_chosen s b c k now l x Busy (is_bind_op b c k) None h in
    subst (λ (z : ClientLedger). ClientStands s b c z (choice_row true (is_bind_op b c k) k None x)) (sym (out_behind s (ClientPart l.state.number) now (b.request c k).id (refusal kind which) None l1 (Some (row_of b c x k)) (under_found s b c k l1 (choice_row false (is_bind_op b c k) k None x) h1 live)))
    (subst (λ (z : Client). ClientStands s b c (out_ledger (Some (row_of b c x k)) s now (refusal kind which) None l1) z) (refused_row s b c k (refusal kind which) l x _ h f live refl)
    (client_answered s b c k now (refusal kind which) None l1 (choice_row false (is_bind_op b c k) k None x) x.closed h1 live (refusal_final (b.request c k) kind which e) (λ t stay. absurd (never t stay)) (λ i u. find_kept _ _ l1.expected (λ y _. refl) ∙ h1.expected i u)))
  where
    never : is_bind_op b c k ≡ true → has_code 14 (refusal kind which) ≡ true → ⊥
    never t stay = let g : kind ≡ Bind = bind_kind (b.request c k) kind e t in let bad : false ≡ true = sym (refusal_ends which) ∙ (ap (λ (i : OpKind). has_code 14 (refusal i which)) (sym g) ∙ stay) in absurd (cc)

refused_stands : (s : Settings) (b : Book) (c k now : ℕ) (answer : Answer) (which : Refusal) (kind : OpKind) (l : ClientLedger) (x : Client) → going_to answer ≡ None → ClientStands s b c l x → Chosen x k → k < x.next → x.live k ≡ true → kind_of (b.request c k).rest ≡ Some kind
    → ClientStands s b c (ledger_behind (step_client_ledger s) l (marked_by (desk_choice (name c k) answer) (entries_of (ClientPart l.state.number) now (what.Chosen (name c k) answer ∷ what.Out (b.request c k).id (refusal kind which) ∷ [])))) (choice_row true (is_bind_op b c k) k None x)
refused_stands s b c k now answer which kind l x none h f below live e =
    subst (λ (z : ClientLedger). ClientStands s b c (step_client_ledger s z (out_mark (ClientPart l.state.number) now (b.request c k).id (refusal kind which) None)) (choice_row true (is_bind_op b c k) k None x))
    (sym (chosen_behind s (ClientPart l.state.number) now (name c k) answer (desk_choice (name c k) answer) l (Some (row_of b c x k)) (row_found s b c k l x h below ∙ ap (λ (t : Bool). if t then Some (row_of b c x k) else None) live)))
    (by_answer answer none)
  where
    by_answer : (answer : Answer) → going_to answer ≡ None → ClientStands s b c (step_client_ledger s (chosen_ledger (Some (row_of b c x k)) now (name c k) answer (desk_choice (name c k) answer) l) (out_mark (ClientPart l.state.number) now (b.request c k).id (refusal kind which) None)) (choice_row true (is_bind_op b c k) k None x)
    by_answer (Go u n) i = absurd (cc)
    by_answer Busy i = refused_rest s b c k now which kind l x h f live e
    by_answer Unavailable i = refused_rest s b c k now which kind l x h f live e

choice_refused : (s : Settings) (b : Book) (c k now : ℕ) (answer : Answer) (which : Refusal) (l : ClientLedger) (x : Client) (qa : List ToDesk) (qo : ℕ → List ToConn) (qc : List ToChooser) (qr : ℕ → List ToClient) → going_to answer ≡ None → ClientStands s b c l x → Chosen x k → k < x.next → x.live k ≡ true
    → Makes s b c now (desk_choice (name c k) answer) l (act (what.Chosen (name c k) answer ∷ refused (b.request c k) which) []) (choosing x qa qo k None qc qr) (Choosing ∷ [])
choice_refused s b c k now answer which l x qa qo qc qr none h f below live =
    let kind = kind_is (kind_of (b.request c k).rest) (h.kinds k live) in
    subst (λ (o : Option OpKind). Makes s b c now (desk_choice (name c k) answer) l (refused_act o (name c k) answer (b.request c k).id which) (choosing x qa qo k None qc qr) (Choosing ∷ [])) (sym kind.1) (record {
      stands = rw live (refused_stands s b c k now answer which kind.0 l x none h f below live kind.1);
      asks = λ q p. rw live (nothing_more (AskIs b c) q qa p);
      orders = λ v q p. rw live (nothing_more (OrderIs s b c) q (qo v) p);
    })

-- a client takes a choice
pub choice_acts : (s : Settings) (b : Book) (c k now : ℕ) (answer : Answer) (l : ClientLedger) (x : Client) (qa : List ToDesk) (qo : ℕ → List ToConn) (qc : List ToChooser) (qr : ℕ → List ToClient) → ClientStands s b c l x → Chosen x k → k < x.next → b.pinned c k ≡ false
    → Makes s b c now (desk_choice (name c k) answer) l (choice_by s l.state (name c k) answer (row_named l.state (name c k))) (choosing x qa qo k (going_to answer) qc qr) (Choosing ∷ [])
choice_acts s b c k now answer l x qa qo qc qr h f below pin = go (x.live k) refl
  where
    by_answer : (answer : Answer) → x.live k ≡ true → Makes s b c now (desk_choice (name c k) answer) l (choice_by s l.state (name c k) answer (Some (row_of b c x k))) (choosing x qa qo k (going_to answer) qc qr) (Choosing ∷ [])
    by_answer (Go u n) live = choice_goes s b c k now u n l x qa qo qc qr h f below pin live
    by_answer Busy live = choice_refused s b c k now Busy C1 l x qa qo qc qr refl h f below live
    by_answer Unavailable live = choice_refused s b c k now Unavailable C3 l x qa qo qc qr refl h f below live

    go : (t : Bool) → x.live k ≡ t → Makes s b c now (desk_choice (name c k) answer) l (choice_by s l.state (name c k) answer (row_named l.state (name c k))) (choosing x qa qo k (going_to answer) qc qr) (Choosing ∷ [])
    go true live = subst (λ (o : Option ClientRow). Makes s b c now (desk_choice (name c k) answer) l (choice_by s l.state (name c k) answer o) (choosing x qa qo k (going_to answer) qc qr) (Choosing ∷ [])) (sym (row_found s b c k l x h below ∙ ap (λ (t : Bool). if t then Some (row_of b c x k) else None) live)) (by_answer answer live)
    go false live = subst (λ (o : Option ClientRow). Makes s b c now (desk_choice (name c k) answer) l (choice_by s l.state (name c k) answer o) (choosing x qa qo k (going_to answer) qc qr) (Choosing ∷ [])) (sym (row_found s b c k l x h below ∙ ap (λ (t : Bool). if t then Some (row_of b c x k) else None) live)) (choice_late s b c k now answer l x qa qo qc qr h below live)
