-- What a choice makes.
use Rattle.std.proofs.Common.{◌≡◌, ℕ, Bool, true, false, not, ◌==◌, ◌&&◌, if◌then◌else◌, List, [], ◌∷◌, ◌++◌, find, map, Option, Some, None, Bor, refl, ap, subst, sym, ◌∙◌, append_assoc, append-nil}
use Rattle.std.specs.Prelude.{is_none, is_some}
use Rattle.std.specs.Option.{option_map, option_copied}
use Rattle.ldap_spec.specs.Kinds.{kind_of}
use Rattle.ldap_spec.specs.Requests.{Request, BindRequest, Method, Simple, Sasl, Other, UnbindRequest, AbandonRequest, ExtendedRequest, PlainRequest, request}
use Rattle.lload_names.specs.Same.{same_kind}
use Rattle.lload_names.specs.declared.names.Answer.{Answer}
use Rattle.lload_names.specs.declared.names.Answer.TheVariants.{Go, Busy, Unavailable}
use Rattle.lload_names.specs.declared.names.OpKind.{OpKind}
use Rattle.lload_names.specs.declared.names.OpKind.TheVariants.{Bind}
use Rattle.lload_names.specs.declared.names.OpName.{OpName}
use Rattle.lload_names.specs.declared.names.Posted.{Posted}
use Rattle.lload_names.specs.declared.names.Letter.TheVariants.{Forward, Returned}
use Rattle.lload_names.specs.declared.names.PartName.TheVariants.{Client, Desk, Up as Connection}
use Rattle.lload_names.specs.declared.names.Refusal.{Refusal}
use Rattle.lload_names.specs.declared.names.Refusal.TheVariants.{C1, C3}
use Rattle.lload_names.specs.declared.names.What.{What}
use Rattle.lload_names.specs.declared.names.What.TheVariants as what
use Rattle.lload_spec.specs.Answers.{wants_identity}
use Rattle.lload_spec.specs.Operations.{is_simple_bind}
use Rattle.lload_spec.specs.Lists.{passes}
use Rattle.lload_spec.specs.Pauses.{forwarding, pauses_behind, pause_letters, Pausing}
use Rattle.lload_spec.specs.Settings.{Settings}
use Rattle.part_spec.specs.Marked.{Taken}
use Rattle.part_spec.specs.Inputs.{Act, act, to, entries_of}
use Rattle.part_spec.specs.ClientState.{ClientState, ClientRow, AskedFor, row_named, with_choice, with_connection, is_bind_row, name_of, step_client, client_behind, asked_behind}
use Rattle.part_spec.specs.ClientTurn.{choice, whats_for, letters_for, forward, pause_at, refused, answer, failure}
use Rattle.outbox.specs.declared.outbox.Outbox.{Outbox}
use Rattle.client_rows.specs.Rows.{has_number, waiting_body, is_bind}
use Rattle.client_rows.specs.declared.row.Row.{Row}
use Rattle.client_session.specs.Choices.{refusal_by, chosen_asked, with_chosen, refused_live, pauses_by, pausing_by, with_sent, forward_of, pause_where}
use Rattle.client_session.specs.Did.{Did, behind_act}
use Rattle.client_session.specs.declared.part.ClientPart.{ClientPart}
use Rattle.client_session.specs.Stands.{Seen, seen, shown, Stands, simple_who, way_of, IsToldOnly}
use Rattle.client_session.proofs.Rules.{entry, put-entry, did-then, did-same}
use Rattle.client_session.proofs.Sending.{named-name, named-kept, kept-row}

-- no connection was chosen

busy-whats : (o : Option ClientRow) (answer : Answer) (which : Refusal) → refusal_by answer ≡ Some which → refused_live o which ≡ whats_for o answer
busy-whats None Busy which e = refl
busy-whats (Some r) Busy which e = let some : ◌≡◌ {A = Option Refusal} (Some C1) (Some which) = e in let same : which ≡ C1 = cc in ap (refused r.request) same
busy-whats None Unavailable which e = refl
busy-whats (Some r) Unavailable which e = let some : ◌≡◌ {A = Option Refusal} (Some C3) (Some which) = e in let same : which ≡ C3 = cc in ap (refused r.request) same
busy-whats o (Go u b) which e = absurd (let bad : ◌≡◌ {A = Option Refusal} None (Some which) = e in cc)

busy-letters : (s : Settings) (p : ClientState) (op : OpName) (o : Option ClientRow) (answer : Answer) (which : Refusal) → refusal_by answer ≡ Some which → ◌≡◌ {A = List Posted} [] (letters_for s p op o answer)
busy-letters s p op None Busy which e = refl
busy-letters s p op (Some r) Busy which e = refl
busy-letters s p op None Unavailable which e = refl
busy-letters s p op (Some r) Unavailable which e = refl
busy-letters s p op o (Go u b) which e = absurd (let bad : ◌≡◌ {A = Option Refusal} None (Some which) = e in cc)

busy-choice : (op : OpName) (p : ClientState) (answer : Answer) (which : Refusal) → refusal_by answer ≡ Some which → with_choice op answer p ≡ p
busy-choice op p Busy which e = refl
busy-choice op p Unavailable which e = refl
busy-choice op p (Go u b) which e = absurd (let bad : ◌≡◌ {A = Option Refusal} None (Some which) = e in cc)

pub did-none : (s : Settings) (p : ClientState) (at : ℕ) (mark : Option Taken) (op : OpName) (answer : Answer) (which : Refusal) (old mid new : Outbox) (d : ClientPart) → refusal_by answer ≡ Some which → mid.entries.items ≡ old.entries.items ++ entry p at (what.Chosen op answer) ∷ [] → mid.letters.items ≡ old.letters.items → Did s (with_chosen at op p) at None (act (refused_live (row_named p op) which) []) mid new d → Did s p at mark (choice s p op answer) old new d
did-none s p at mark op answer which old mid new d e entries letters h =
    did-same s p at mark _ _ _ _ old new d (ap (λ ws. what.Chosen op answer ∷ ws) (busy-whats (row_named p op) answer which e)) (busy-letters s p op (row_named p op) answer which e)
    (did-then s p (with_chosen at op p) at mark (what.Chosen op answer) (refused_live (row_named p op) which) [] old mid new d (ap (λ (q : ClientState). record q { moment = at; asked = chosen_asked op p.asked }) (busy-choice op p answer which e)) refl entries letters h)

-- a connection was chosen for an operation that is over

pub over : (s : Settings) (p : ClientState) (op : OpName) → option_map (seen s) (row_named p op) ≡ None → row_named p op ≡ None
over s p op e = by (row_named p op) e
  where
    by : (o : Option ClientRow) → option_map (seen s) o ≡ None → o ≡ None
    by None f = refl
    by (Some r) f = absurd (let bad : ◌≡◌ {A = Option Seen} (Some (seen s r)) None = f in cc)

pub did-over : (s : Settings) (p : ClientState) (at : ℕ) (mark : Option Taken) (op : OpName) (u b : ℕ) (old new : Outbox) (d : ClientPart) → row_named p op ≡ None → new.entries.items ≡ old.entries.items ++ entry p at (what.Chosen op (Go u b)) ∷ [] → new.letters.items ≡ old.letters.items ++ to Desk (Returned op u) → Stands s (with_chosen at op p) d → Did s p at mark (choice s p op (Go u b)) old new d
did-over s p at mark op u b old new d none entries letters h = record {
  entries = entries ∙ ap (λ ws. old.entries.items ++ entries_of (Client p.number) at (what.Chosen op (Go u b) ∷ ws)) (sym whats-none);
  letters = letters ∙ ap (λ o. old.letters.items ++ letters_for s p op o (Go u b)) (sym none);
  stands =
      subst (λ (x : ClientState). Stands s x d)
      (sym (ap (λ ws. behind_act s at mark p (act (what.Chosen op (Go u b) ∷ ws) [])) whats-none
      ∙ ap (λ o. record (elim o [ None ↦ p | Some r ↦ with_connection u b p r ]) { moment = at; asked = chosen_asked op p.asked }) none)) h;
}
  where
    whats-none : whats_for (row_named p op) (Go u b) ≡ []
    whats-none = ap (λ o. whats_for o (Go u b)) none

-- a live operation is refused, where it gets no connection

abbrev failed_by : OpName → Refusal → Option ClientRow → Act
failed_by op which o = elim o [ None ↦ act (what.Late op ∷ []) [] | Some r ↦ act (refused r.request which) [] ]

live-refused : (s : Settings) (op : OpName) (which : Refusal) (o : Option ClientRow) (x : Option (Bor Row)) → option_map (seen s) o ≡ option_map shown (option_copied x) → is_some x ≡ true → refused_live o which ≡ (failed_by op which o).whats
live-refused s op which (Some r) x e some = refl
live-refused s op which None (Some row) e some = absurd (let bad : ◌≡◌ {A = Option Seen} None (Some (shown row.now)) = e in cc)
live-refused s op which None None e some = absurd (let bad : false ≡ true = some in cc)

told-asked : (s : Settings) (p : ClientState) (w : What) → IsToldOnly w → asked_behind s p w ≡ p.asked
told-asked s p (what.Out id rest) t = refl
told-asked s p (what.Late op) t = refl
told-asked s p _ t = absurd (let bad : false ≡ true = t in cc)

pub moved : (s : Settings) (at : ℕ) (p : ClientState) (d : ClientPart) → Stands s p d → Stands s (record p { moment = at }) (record d { moment = at })
moved s at p d h = record {
  settings = h.settings;
  number = h.number;
  moment = refl;
  arrived = h.arrived;
  gone = h.gone;
  live = h.live;
  asks = h.asks;
  identity = h.identity;
  in_exchange = h.in_exchange;
  hold = h.hold;
  binds = h.binds;
  stalled = h.stalled;
  paused = h.paused;
  idle = h.idle;
  room = h.room;
}

pub did-refuse : (s : Settings) (p : ClientState) (d e : ClientPart) (at : ℕ) (op : OpName) (which : Refusal) (rest : List ℕ) (w : What) (x : Option (Bor Row)) (old new : Outbox) → Stands s p d → option_map (seen s) (row_named p op) ≡ option_map shown (option_copied x) → is_some x ≡ true → (failure p op which).whats ≡ (answer p op rest).whats → (answer p op rest).whats ≡ w ∷ [] → IsToldOnly w → Stands s (record (client_behind s at None p w) { asked = p.asked }) e → new.entries.items ≡ old.entries.items ++ record { part = Client d.number; at = at; what = w } ∷ [] → new.letters.items ≡ old.letters.items → Did s p at None (act (refused_live (row_named p op) which) []) old new (record e { moment = at })
did-refuse s p d e at op which rest w x old new h named some same is told k entries letters =
    let whats : refused_live (row_named p op) which ≡ w ∷ [] = live-refused s op which (row_named p op) x named some ∙ same ∙ is in
    did-same s p at None (w ∷ []) _ [] [] old new (record e { moment = at }) (sym whats) refl
    (record {
      entries = put-entry p at w d.number old.entries.items old.entries.items new.entries.items h.number entries refl;
      letters = letters ∙ sym (append-nil old.letters.items);
      stands = subst (λ (a : List AskedFor). Stands s (record (client_behind s at None p w) { moment = at; asked = a }) (record e { moment = at })) (sym (told-asked s p w told)) (moved s at (record (client_behind s at None p w) { asked = p.asked }) e k);
    })

-- a connection was chosen for a live operation

pub live-row : (s : Settings) (o : Option ClientRow) (row : Row) → option_map (seen s) o ≡ Some (shown row) → (r : ClientRow) × (o ≡ Some r) × (seen s r ≡ shown row)
live-row s None row e = absurd (let bad : ◌≡◌ {A = Option Seen} None (Some (shown row)) = e in cc)
live-row s (Some r) row e = (r, refl, cc)

go-whats : (o : Option ClientRow) (u b : ℕ) → whats_for o (Go u b) ≡ []
go-whats None u b = refl
go-whats (Some r) u b = refl

simple-who : (o : Option Request) → not (passes is_simple_bind o) ≡ is_none (simple_who o)
simple-who None = refl
simple-who (Some (BindRequest version name (Simple password))) = refl
simple-who (Some (BindRequest version name Sasl)) = refl
simple-who (Some (BindRequest version name Other)) = refl
simple-who (Some UnbindRequest) = refl
simple-who (Some (AbandonRequest id)) = refl
simple-who (Some (ExtendedRequest name)) = refl
simple-who (Some (PlainRequest kind)) = refl

pub asks-who : (s : Settings) (r : ClientRow) (row : Row) (proxies : Bool) → s.proxies_authorization ≡ proxies → shown row ≡ seen s r → wants_identity s r.request ≡ (proxies && is_bind row && is_none row.who)
asks-who s r row proxies e same =
    ap (λ b. b && is_bind_row r && not (passes is_simple_bind (request r.request.rest))) e
    ∙ ap (λ o. proxies && passes (same_kind Bind) o && not (passes is_simple_bind (request r.request.rest))) (ap (λ v. v.kind) (sym same))
    ∙ ap (λ b. proxies && is_bind row && b) (simple-who (request r.request.rest))
    ∙ ap (λ o. proxies && is_bind row && is_none o) (ap (λ v. v.who) (sym same))

forward-is : (s : Settings) (p : ClientState) (op : OpName) (r : ClientRow) (kind : OpKind) (asks : Bool) (u : ℕ) → kind_of r.request.rest ≡ Some kind → name_of p r ≡ op → wants_identity s r.request ≡ asks → forward_of op kind (Some r.request.rest) asks op u ≡ forward s p r op u
forward-is s p op r kind asks u its name e =
    sym (ap (λ o. elim o [ None ↦ [] | Some k ↦ to (Connection u) (Forward (name_of p r) k r.request.rest (wants_identity s r.request) op) ]) its
    ∙ ap (λ n. to (Connection u) (Forward n kind r.request.rest (wants_identity s r.request) op)) name
    ∙ ap (λ b. to (Connection u) (Forward op kind r.request.rest b op)) e)

pause-is : (p : ClientState) (r : ClientRow) (kind : OpKind) (pauses : Bool) (u : ℕ) → kind_of r.request.rest ≡ Some kind → pauses ≡ pauses_by kind u p.pausing → pause_where p.number pauses u ≡ pause_at p r u
pause-is p r kind pauses u its e =
    ap (λ b. pause_where p.number b u) e
    ∙ by (same_kind Bind kind) (pauses_behind p.pausing u)
    ∙ sym (ap (λ o. elim (passes (same_kind Bind) o) [ true ↦ [] | false ↦ elim (pauses_behind p.pausing u) [ true ↦ pause_letters p.number (u ∷ []) | false ↦ [] ] ]) its)
  where
    by : (b c : Bool) → (if not b && c then pause_letters p.number (u ∷ []) else []) ≡ elim b [ true ↦ [] | false ↦ elim c [ true ↦ pause_letters p.number (u ∷ []) | false ↦ [] ] ]
    by true c = refl
    by false true = refl
    by false false = refl

pausing-is : (p : ClientState) (r : ClientRow) (kind : OpKind) (u : ℕ) → kind_of r.request.rest ≡ Some kind → pausing_by kind u p.pausing ≡ elim (is_bind_row r) [ true ↦ p.pausing | false ↦ forwarding u p.pausing ]
pausing-is p r kind u its = sym (ap (λ o. elim (passes (same_kind Bind) o) [ true ↦ p.pausing | false ↦ forwarding u p.pausing ]) its)

-- the state behind it
abbrev pub with_gone : ℕ → OpName → OpKind → ℕ → ℕ → ClientRow → ClientState → ClientState
with_gone at op kind u b r p = with_sent u b r (with_chosen at op (record p { pausing = pausing_by kind u p.pausing }))

go-state : (s : Settings) (p : ClientState) (at : ℕ) (mark : Option Taken) (op : OpName) (kind : OpKind) (u b : ℕ) (r : ClientRow) → row_named p op ≡ Some r → kind_of r.request.rest ≡ Some kind → with_gone at op kind u b r p ≡ step_client s p (record { entry = entry p at (what.Chosen op (Go u b)); mark = mark })
go-state s p at mark op kind u b r named its =
    let make : Pausing → ClientState = λ q. with_sent u b r (with_chosen at op (record p { pausing = q })) in
    ap make (pausing-is p r kind u its) ∙ sym (ap (λ o. record (elim o [ None ↦ p | Some r ↦ with_connection u b p r ]) { moment = at; asked = chosen_asked op p.asked }) named)

pub did-go : (s : Settings) (p : ClientState) (at : ℕ) (mark : Option Taken) (op : OpName) (u b : ℕ) (r : ClientRow) (kind : OpKind) (asks pauses : Bool) (old new : Outbox) (d : ClientPart) → row_named p op ≡ Some r → kind_of r.request.rest ≡ Some kind → wants_identity s r.request ≡ asks → pauses ≡ pauses_by kind u p.pausing → new.entries.items ≡ old.entries.items ++ entry p at (what.Chosen op (Go u b)) ∷ [] → new.letters.items ≡ (old.letters.items ++ forward_of op kind (Some r.request.rest) asks op u) ++ pause_where p.number pauses u → Stands s (with_gone at op kind u b r p) d → Did s p at mark (choice s p op (Go u b)) old new d
did-go s p at mark op u b r kind asks pauses old new d named its wants says entries letters h = record {
  entries = entries ∙ ap (λ ws. old.entries.items ++ entries_of (Client p.number) at (what.Chosen op (Go u b) ∷ ws)) (sym (go-whats (row_named p op) u b));
  letters =
      letters
      ∙ append_assoc old.letters.items (forward_of op kind (Some r.request.rest) asks op u) (pause_where p.number pauses u)
      ∙ ap (λ l. old.letters.items ++ (l ++ pause_where p.number pauses u)) (forward-is s p op r kind asks u its (named-name p op r named) wants)
      ∙ ap (λ l. old.letters.items ++ (forward s p r op u ++ l)) (pause-is p r kind pauses u its says)
      ∙ ap (λ o. old.letters.items ++ letters_for s p op o (Go u b)) (sym named);
  stands =
      subst (λ (x : ClientState). Stands s x d)
      (go-state s p at mark op kind u b r named its
      ∙ sym (ap (λ ws. behind_act s at mark p (act (what.Chosen op (Go u b) ∷ ws) [])) (go-whats (row_named p op) u b))) h;
}

-- the request that waits is the one of the state
pub waiting-is : (s : Settings) (p : ClientState) (d : ClientPart) (op : OpName) (r : ClientRow) → row_named p op ≡ Some r → r.connection ≡ None → Stands s p d → waiting_body (find (has_number op.k) d.operations.rows) ≡ Some r.request.rest
waiting-is s p d op r named waits h =
    let row = kept-row s r _ (named-kept s p d op r named h) in
    ap waiting_body row.1 ∙ ap (λ x. waiting_body (Some (record row.0 { way = x }))) (ap (λ v. v.way) row.2 ∙ ap (way_of r.request.rest) waits)
