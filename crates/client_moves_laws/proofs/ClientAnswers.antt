-- A client's turns at an answer.
use Rattle.std.proofs.Common.{◌≡◌, ℕ, ◌<◌, Bool, true, false, ◌==◌, ◌&&◌, not, if◌then◌else◌, List, [], ◌∷◌, Option, Some, None, refl, ap, ◌∙◌, sym, subst, append-nil}
use Rattle.std.specs.Prelude.{filter, find}
use Rattle.std.proofs.lemmas.Bool.{eqb-true, and_parts}
use Rattle.ldap_spec.specs.Messages.{Message}
use Rattle.ldap_spec.specs.Kinds.{kind_of, fits}
use Rattle.ldap_spec.specs.Responses.{has_code}
use Rattle.ldap_spec.specs.Bodies.{refusal}
use Rattle.lload_names.specs.declared.names.OpName.{OpName}
use Rattle.lload_names.specs.declared.names.OpKind.{OpKind}
use Rattle.lload_names.specs.declared.names.Refusal.{Refusal}
use Rattle.lload_names.specs.declared.names.Letter.{Letter}
use Rattle.lload_names.specs.declared.names.Letter.TheVariants.{Reply, Failed}
use Rattle.lload_names.specs.declared.names.PartName.TheVariants.{Client as ClientPart, Up as Connection}
use Rattle.lload_names.specs.declared.names.What.{What}
use Rattle.lload_names.specs.declared.names.What.TheVariants as what
use Rattle.lload_spec.specs.Lists.{passes, agrees}
use Rattle.lload_spec.specs.Settings.{Settings}
use Rattle.lload_spec.specs.Journal.{same_op}
use Rattle.lload_spec.specs.Operations.{is_final_for}
use Rattle.part_spec.specs.Inputs.{Act, act, entries_of, marked_by}
use Rattle.part_spec.specs.Marked.{Taken}
use Rattle.part_spec.specs.ClientState.{ClientRow, row_named}
use Rattle.part_spec.specs.ClientTurn.{answer, failure, refused}
use Rattle.part_spec.specs.Fit.{Expected, ClientLedger, step_client_ledger, ledger_behind, is_last_by, answers}
use Rattle.move_laws.specs.World.{Client, ToDesk, ToChooser, ToConn, ToClient, at, some_at, put, put2}
use Rattle.move_laws.specs.World as machine
use Rattle.move_laws.specs.Clients.{close_row, take_answer}
use Rattle.stands_laws.specs.Lists.{Pairs}
use Rattle.stands_laws.specs.Books.{Book, is_bind_op, name}
use Rattle.stands_laws.specs.Letters.{AskIs, OrderIs}
use Rattle.stands_laws.specs.ClientSides.{ClientSide, Answering}
use Rattle.stands_laws.specs.ClientStands.{row_of, expected_at, ClientStands}
use Rattle.stands_laws.proofs.Tests.{same_name, find_kept, find_dropped}
use Rattle.client_moves_laws.proofs.Makes.{Makes}
use Rattle.client_moves_laws.proofs.ClientTakes.{row_found}
use Rattle.client_moves_laws.proofs.ClientOuts.{out_mark, out_ledger, out_behind, under_found, client_answered, closed_row, answer_state}
use Rattle.client_moves_laws.proofs.ClientChoices.{refusal_ends, refusal_final, bind_kind, kind_is}

-- an answer is expected
pub record Awaited (b : Book) (c k u : ℕ) (x : Client) : Type 0 where
  pub given : at (x.given k) u ≡ true
  pub closed : x.closed k u ≡ false
  pub below : k < x.next
  -- of a Bind that isn't live: its client is gone
  pub idle : is_bind_op b c k ≡ true → x.live k ≡ false → (x.busy ≡ false) × (x.hold ≡ None)

at_there : (o : Option ℕ) (u v : ℕ) → at o u ≡ true → at o v ≡ (v == u)
at_there None u v e = absurd (cc)
at_there (Some w) u v e = ap (λ i. v == i) (sym (eqb-true u w e))

pub some_there : (o : Option ℕ) (u : ℕ) → at o u ≡ true → some_at o ≡ true
some_there None u e = absurd (cc)
some_there (Some w) u e = refl

-- behind a last answer the operation is expected no longer
told_last : (s : Settings) (b : Book) (c k u i v : ℕ) (l : ClientLedger) (x : Client) (drop : Expected → Bool) → ClientStands s b c l x → at (x.given k) u ≡ true → ((y : Expected) → drop y ≡ same_op y.op (name c k))
    → find (λ y. same_op (name c i) y.op && v == y.connection) (filter (λ y. not (drop y)) l.expected) ≡ (if at (x.given i) v && not (put2 x.closed k u true i v) then Some (expected_at b c i v) else None)
told_last s b c k u i v l x drop h given e = go (i == k) refl
  where
    test : Expected → Bool
    test y = same_op (name c i) y.op && v == y.connection

    same : (y : Expected) → test y ≡ true → drop y ≡ (i == k)
    same y t = let p = and_parts (same_op (name c i) y.op) (v == y.connection) t in let q = and_parts (c == y.op.client) (i == y.op.k) p.0 in
        e y ∙ (ap (λ n. (n == c) && (y.op.k == k)) (sym (eqb-true c y.op.client q.0)) ∙ (ap (λ n. (c == c) && (n == k)) (sym (eqb-true i y.op.k q.1)) ∙ same_name c i k))

    gone : (a t cl : Bool) → a ≡ t → None ≡ (if a && not (if true && t then true else cl) then Some (expected_at b c i v) else None)
    gone a true cl q = rw q refl
    gone a false cl q = rw q refl

    go : (t : Bool) → (i == k) ≡ t → find test (filter (λ y. not (drop y)) l.expected) ≡ (if at (x.given i) v && not (if t && (v == u) then true else x.closed i v) then Some (expected_at b c i v) else None)
    go true q = find_dropped test (λ y. not (drop y)) l.expected (λ y t. ap not (same y t ∙ q)) ∙ gone (at (x.given i) v) (v == u) (x.closed i v) (ap (λ n. at (x.given n) v) (eqb-true i k q) ∙ at_there (x.given k) u v given)
    go false q = find_kept test (λ y. not (drop y)) l.expected (λ y t. ap not (same y t ∙ q)) ∙ h.expected i v

agreed : (a b : Bool) → agrees a b ≡ true → a ≡ b
agreed true true e = refl
agreed true false e = absurd (cc)
agreed false true e = absurd (cc)
agreed false false e = refl

answers_last : (m : Message) (rest : List ℕ) (last : Bool) → answers m rest last ≡ true → last ≡ is_final_for m rest
answers_last m rest last e = let p = and_parts (passes (λ kind. fits kind rest) (kind_of m.rest)) (agrees last (is_final_for m rest)) e in agreed last (is_final_for m rest) p.1

-- a client where an answer of connection u waits first
abbrev pub answering : Client → List ToDesk → (ℕ → List ToConn) → List ToChooser → (ℕ → List ToClient) → ClientSide
answering x qa qo qc qr = record { row = x; asks = qa; orders = qo; choices = qc; answers = qr }

-- the mark of what comes too late changes what is expected alone
abbrev pub late_ledger : ℕ → Option Taken → ClientLedger → ClientLedger
late_ledger now mark l = record { state = record l.state { moment = now; asked = l.state.asked }; expected = filter (λ y. not (is_last_by y.op mark)) l.expected }

out_same : (f : ℕ → Bool) (k i : ℕ) → f k ≡ false → put f k false i ≡ f i
out_same f k i e = go (i == k) refl
  where
    go : (t : Bool) → (i == k) ≡ t → (if t then false else f i) ≡ f i
    go true q = sym (ap f (eqb-true i k q) ∙ e)
    go false q = refl

if_idle : (t busy : Bool) → (t ≡ true → busy ≡ false) → (if t then false else busy) ≡ busy
if_idle true busy e = sym (e refl)
if_idle false busy e = refl

if_none : (t stay : Bool) (o : Option machine.Hold) → (t ≡ true → o ≡ None) → (if t && not stay then None else o) ≡ o
if_none true true o e = refl
if_none true false o e = sym (e refl)
if_none false stay o e = refl

late_row : (b : Book) (c k u : ℕ) (stay : Bool) (x : Client) → Awaited b c k u x → x.live k ≡ false → close_row (is_bind_op b c k) stay k u x ≡ record x { closed = put2 x.closed k u true }
late_row b c k u stay x f dead = λ z. record x {
  closed = put2 x.closed k u true;
  live = λ i. out_same x.live k i dead z;
  busy = if_idle (is_bind_op b c k) x.busy (λ t. (f.idle t dead).0) z;
  hold = if_none (is_bind_op b c k) stay x.hold (λ t. (f.idle t dead).1) z;
}

late_closes : (s : Settings) (b : Book) (c k u now : ℕ) (stay : Bool) (mark : Option Taken) (l : ClientLedger) (x : Client) → ClientStands s b c l x → Awaited b c k u x → x.live k ≡ false → ((y : Expected) → is_last_by y.op mark ≡ same_op y.op (name c k))
    → ClientStands s b c (late_ledger now mark l) (close_row (is_bind_op b c k) stay k u x)
late_closes s b c k u now stay mark l x h f dead e = subst (λ (z : Client). ClientStands s b c (late_ledger now mark l) z) (sym (late_row b c k u stay x f dead)) (record {
  number = h.number;
  next = h.next;
  gone = h.gone;
  rows = h.rows;
  hold = h.hold;
  exchange = h.exchange;
  left = h.left;
  dead = h.dead;
  quiet = h.quiet;
  bound = h.bound;
  busy = h.busy;
  one = h.one;
  below = h.below;
  ids = h.ids;
  kinds = h.kinds;
  asked = h.asked;
  expected = λ i v. told_last s b c k u i v l x (λ y. is_last_by y.op mark) h f.given e;
})

-- what isn't the last changes nothing
more_stands : (s : Settings) (b : Book) (c now : ℕ) (mark : Option Taken) (l : ClientLedger) (x : Client) → ClientStands s b c l x → ((y : Expected) → is_last_by y.op mark ≡ false) → ClientStands s b c (late_ledger now mark l) x
more_stands s b c now mark l x h e = record {
  number = h.number;
  next = h.next;
  gone = h.gone;
  rows = h.rows;
  hold = h.hold;
  exchange = h.exchange;
  left = h.left;
  dead = h.dead;
  quiet = h.quiet;
  bound = h.bound;
  busy = h.busy;
  one = h.one;
  below = h.below;
  ids = h.ids;
  kinds = h.kinds;
  asked = h.asked;
  expected = λ i u. find_kept _ _ l.expected (λ y _. ap not (e y)) ∙ h.expected i u;
}

abbrev pub reply_mark : ℕ → ℕ → ℕ → List ℕ → Bool → Option (List ℕ) → Option Taken
reply_mark u c k rest last who = Some (record { sender = Connection u; letter = Reply (name c k) rest last who })

abbrev pub failed_mark : ℕ → ℕ → ℕ → Refusal → Option Taken
failed_mark u c k which = Some (record { sender = Connection u; letter = Failed (name c k) which })

and_true : (t : Bool) → (t && true) ≡ t
and_true true = refl
and_true false = refl

and_false : (t : Bool) → (t && false) ≡ false
and_false true = refl
and_false false = refl

-- whether the holder stays is told of Binds alone
stay_row : (t p q : Bool) (k u : ℕ) (x : Client) → (t ≡ true → p ≡ q) → closed_row t p k (put2 x.closed k u true) x ≡ close_row t q k u x
stay_row true p q k u x e = ap (λ z. closed_row true z k (put2 x.closed k u true) x) (e refl)
stay_row false p q k u x e = refl

-- a last answer to a live operation
last_stands : (s : Settings) (b : Book) (c k u now : ℕ) (rest : List ℕ) (stay : Bool) (mark : Option Taken) (l : ClientLedger) (x : Client) → ClientStands s b c l x → Awaited b c k u x → x.live k ≡ true → is_final_for (b.request c k) rest ≡ true → (is_bind_op b c k ≡ true → has_code 14 rest ≡ stay) → ((y : Expected) → is_last_by y.op mark ≡ same_op y.op (name c k))
    → ClientStands s b c (step_client_ledger s l (out_mark (ClientPart l.state.number) now (b.request c k).id rest mark)) (close_row (is_bind_op b c k) stay k u x)
last_stands s b c k u now rest stay mark l x h f live final kept e =
    subst (λ (z : ClientLedger). ClientStands s b c z (close_row (is_bind_op b c k) stay k u x)) (sym (out_behind s (ClientPart l.state.number) now (b.request c k).id rest mark l (Some (row_of b c x k)) (under_found s b c k l x h live)))
    (subst (λ (z : Client). ClientStands s b c (out_ledger (Some (row_of b c x k)) s now rest mark l) z) (stay_row (is_bind_op b c k) (has_code 14 rest) stay k u x kept)
    (client_answered s b c k now rest mark l x (put2 x.closed k u true) h live final (λ _ _. some_there (x.given k) u f.given) (λ i v. told_last s b c k u i v l x (λ y. is_last_by y.op mark) h f.given e)))

-- another answer to a live operation
part_stands : (s : Settings) (b : Book) (c k now : ℕ) (rest : List ℕ) (mark : Option Taken) (l : ClientLedger) (x : Client) → ClientStands s b c l x → x.live k ≡ true → is_final_for (b.request c k) rest ≡ false → ((y : Expected) → is_last_by y.op mark ≡ false)
    → ClientStands s b c (step_client_ledger s l (out_mark (ClientPart l.state.number) now (b.request c k).id rest mark)) x
part_stands s b c k now rest mark l x h live more e =
    subst (λ (z : ClientLedger). ClientStands s b c z x) (sym (out_behind s (ClientPart l.state.number) now (b.request c k).id rest mark l (Some (row_of b c x k)) (under_found s b c k l x h live)))
    (subst (λ (f : Bool). ClientStands s b c (record { state = record (answer_state f (is_bind_op b c k) (has_code 14 rest) s now mark rest l.state (row_of b c x k)) { moment = now; asked = l.state.asked }; expected = filter (λ y. not (is_last_by y.op mark)) l.expected }) x) (sym more) (more_stands s b c now mark l x h e))

-- by whether it is the last
abbrev pub answer_row : Bool → Bool → Bool → ℕ → ℕ → Client → Client
answer_row last t stay k u x = if last then close_row t stay k u x else x

-- a Reply, to a live operation and to another
reply_stands : (s : Settings) (b : Book) (c k u now : ℕ) (rest : List ℕ) (last stay : Bool) (who : Option (List ℕ)) (l : ClientLedger) (x : Client) → ClientStands s b c l x → Awaited b c k u x → x.live k ≡ true → last ≡ is_final_for (b.request c k) rest → (is_bind_op b c k ≡ true → last ≡ true → has_code 14 rest ≡ stay)
    → ClientStands s b c (step_client_ledger s l (out_mark (ClientPart l.state.number) now (b.request c k).id rest (reply_mark u c k rest last who))) (answer_row last (is_bind_op b c k) stay k u x)
reply_stands s b c k u now rest true stay who l x h f live e kept = last_stands s b c k u now rest stay (reply_mark u c k rest true who) l x h f live (sym e) (λ t. kept t refl) (λ y. and_true (same_op y.op (name c k)))
reply_stands s b c k u now rest false stay who l x h f live e kept = part_stands s b c k now rest (reply_mark u c k rest false who) l x h live (sym e) (λ y. and_false (same_op y.op (name c k)))

late_reply_stands : (s : Settings) (b : Book) (c k u now : ℕ) (rest : List ℕ) (last stay : Bool) (who : Option (List ℕ)) (l : ClientLedger) (x : Client) → ClientStands s b c l x → Awaited b c k u x → x.live k ≡ false
    → ClientStands s b c (late_ledger now (reply_mark u c k rest last who) l) (answer_row last (is_bind_op b c k) stay k u x)
late_reply_stands s b c k u now rest true stay who l x h f dead = late_closes s b c k u now stay (reply_mark u c k rest true who) l x h f dead (λ y. and_true (same_op y.op (name c k)))
late_reply_stands s b c k u now rest false stay who l x h f dead = more_stands s b c now (reply_mark u c k rest false who) l x h (λ y. and_false (same_op y.op (name c k)))

-- what comes of an answer, by what is found under its name
abbrev pub answer_act : OpName → List ℕ → Option ClientRow → Act
answer_act op rest o = elim o [ None ↦ act (what.Late op ∷ []) [] | Some r ↦ act (what.Out r.request.id rest ∷ []) [] ]

found_by : (s : Settings) (b : Book) (c k : ℕ) (t : Bool) (l : ClientLedger) (x : Client) → ClientStands s b c l x → k < x.next → x.live k ≡ t → row_named l.state (name c k) ≡ (if t then Some (row_of b c x k) else None)
found_by s b c k t l x h below e = row_found s b c k l x h below ∙ ap (λ (t : Bool). if t then Some (row_of b c x k) else None) e

pub taken_reply : (bind : ℕ → Bool) (k u : ℕ) (last stay : Bool) (x : Client) (qr rs : List ToClient) → qr ≡ machine.Reply k last stay ∷ rs → take_answer bind u qr x ≡ answer_row last (bind k) stay k u x
taken_reply bind k u last stay x qr rs e = rw e refl

pub taken_failed : (bind : ℕ → Bool) (k u : ℕ) (x : Client) (qr rs : List ToClient) → qr ≡ machine.Failed k ∷ rs → take_answer bind u qr x ≡ close_row (bind k) false k u x
taken_failed bind k u x qr rs e = rw e refl

-- a turn that gives no letter
silent : (s : Settings) (b : Book) (c u now : ℕ) (mark : Option Taken) (l : ClientLedger) (x z : Client) (qa : List ToDesk) (qo : ℕ → List ToConn) (qc : List ToChooser) (qr : ℕ → List ToClient) (whats : List What)
    → take_answer (is_bind_op b c) u (qr u) x ≡ z → ClientStands s b c (ledger_behind (step_client_ledger s) l (marked_by mark (entries_of (ClientPart l.state.number) now whats))) z
    → Makes s b c now mark l (act whats []) (answering x qa qo qc qr) (Answering u ∷ [])
silent s b c u now mark l x z qa qo qc qr whats e p = record {
  stands = rw e p;
  asks = λ q i. subst (λ (r : List Letter). Pairs (AskIs b c) r qa) (sym (append-nil q)) i;
  orders = λ v q i. subst (λ (r : List Letter). Pairs (OrderIs s b c) r (qo v)) (sym (append-nil q)) i;
}

-- a client takes a Reply
pub reply_acts : (s : Settings) (b : Book) (c k u now : ℕ) (rest : List ℕ) (last stay : Bool) (who : Option (List ℕ)) (l : ClientLedger) (x : Client) (qa : List ToDesk) (qo : ℕ → List ToConn) (qc : List ToChooser) (qr : ℕ → List ToClient) (rs : List ToClient)
    → ClientStands s b c l x → Awaited b c k u x → qr u ≡ machine.Reply k last stay ∷ rs → answers (b.request c k) rest last ≡ true → (is_bind_op b c k ≡ true → last ≡ true → has_code 14 rest ≡ stay)
    → Makes s b c now (reply_mark u c k rest last who) l (answer l.state (name c k) rest) (answering x qa qo qc qr) (Answering u ∷ [])
reply_acts s b c k u now rest last stay who l x qa qo qc qr rs h f e content kept = go (x.live k) refl
  where
    row : take_answer (is_bind_op b c) u (qr u) x ≡ answer_row last (is_bind_op b c k) stay k u x
    row = taken_reply (is_bind_op b c) k u last stay x (qr u) rs e

    go : (t : Bool) → x.live k ≡ t → Makes s b c now (reply_mark u c k rest last who) l (answer l.state (name c k) rest) (answering x qa qo qc qr) (Answering u ∷ [])
    go true live = subst (λ (o : Option ClientRow). Makes s b c now (reply_mark u c k rest last who) l (answer_act (name c k) rest o) (answering x qa qo qc qr) (Answering u ∷ [])) (sym (found_by s b c k true l x h f.below live))
        (silent s b c u now _ l x _ qa qo qc qr (what.Out (b.request c k).id rest ∷ []) row (reply_stands s b c k u now rest last stay who l x h f live (answers_last (b.request c k) rest last content) kept))
    go false dead = subst (λ (o : Option ClientRow). Makes s b c now (reply_mark u c k rest last who) l (answer_act (name c k) rest o) (answering x qa qo qc qr) (Answering u ∷ [])) (sym (found_by s b c k false l x h f.below dead))
        (silent s b c u now _ l x _ qa qo qc qr (what.Late (name c k) ∷ []) row (late_reply_stands s b c k u now rest last stay who l x h f dead))

-- what comes of a refusal
abbrev pub failure_act : OpName → Refusal → Option ClientRow → Act
failure_act op which o = elim o [ None ↦ act (what.Late op ∷ []) [] | Some r ↦ act (refused r.request which) [] ]

abbrev pub refused_whats : ℕ → Refusal → Option OpKind → List What
refused_whats id which o = elim o [ None ↦ [] | Some kind ↦ what.Out id (refusal kind which) ∷ [] ]

-- a client takes a Failed
pub failed_acts : (s : Settings) (b : Book) (c k u now : ℕ) (which : Refusal) (l : ClientLedger) (x : Client) (qa : List ToDesk) (qo : ℕ → List ToConn) (qc : List ToChooser) (qr : ℕ → List ToClient) (rs : List ToClient)
    → ClientStands s b c l x → Awaited b c k u x → qr u ≡ machine.Failed k ∷ rs
    → Makes s b c now (failed_mark u c k which) l (failure l.state (name c k) which) (answering x qa qo qc qr) (Answering u ∷ [])
failed_acts s b c k u now which l x qa qo qc qr rs h f e = go (x.live k) refl
  where
    row : take_answer (is_bind_op b c) u (qr u) x ≡ close_row (is_bind_op b c k) false k u x
    row = taken_failed (is_bind_op b c) k u x (qr u) rs e

    ends : (kind : OpKind) → kind_of (b.request c k).rest ≡ Some kind → is_bind_op b c k ≡ true → has_code 14 (refusal kind which) ≡ false
    ends kind i t = ap (λ (j : OpKind). has_code 14 (refusal j which)) (bind_kind (b.request c k) kind i t) ∙ refusal_ends which

    live_case : x.live k ≡ true → (kind : OpKind) → kind_of (b.request c k).rest ≡ Some kind → Makes s b c now (failed_mark u c k which) l (act (refused_whats (b.request c k).id which (Some kind)) []) (answering x qa qo qc qr) (Answering u ∷ [])
    live_case live kind i = silent s b c u now _ l x _ qa qo qc qr (what.Out (b.request c k).id (refusal kind which) ∷ []) row (last_stands s b c k u now (refusal kind which) false (failed_mark u c k which) l x h f live (refusal_final (b.request c k) kind which i) (ends kind i) (λ y. refl))

    go : (t : Bool) → x.live k ≡ t → Makes s b c now (failed_mark u c k which) l (failure l.state (name c k) which) (answering x qa qo qc qr) (Answering u ∷ [])
    go true live = subst (λ (o : Option ClientRow). Makes s b c now (failed_mark u c k which) l (failure_act (name c k) which o) (answering x qa qo qc qr) (Answering u ∷ [])) (sym (found_by s b c k true l x h f.below live))
        (let kind = kind_is (kind_of (b.request c k).rest) (h.kinds k live) in subst (λ (o : Option OpKind). Makes s b c now (failed_mark u c k which) l (act (refused_whats (b.request c k).id which o) []) (answering x qa qo qc qr) (Answering u ∷ [])) (sym kind.1) (live_case live kind.0 kind.1))
    go false dead = subst (λ (o : Option ClientRow). Makes s b c now (failed_mark u c k which) l (failure_act (name c k) which o) (answering x qa qo qc qr) (Answering u ∷ [])) (sym (found_by s b c k false l x h f.below dead))
        (silent s b c u now _ l x _ qa qo qc qr (what.Late (name c k) ∷ []) row (late_closes s b c k u now false (failed_mark u c k which) l x h f dead (λ y. refl)))
