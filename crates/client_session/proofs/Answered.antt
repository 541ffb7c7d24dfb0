-- What the part stands for behind an answer.
use Rattle.std.proofs.Common.{◌≡◌, ℕ, Bool, true, false, not, ◌==◌, ◌&&◌, cond, if◌then◌else◌, List, [], ◌∷◌, filter, find, map, Option, Some, None, arith, refl, ap, subst, sym, ◌∙◌}
use Rattle.std.proofs.lemmas.Bool.Decides.{nat_tests}
use Rattle.std.specs.Option.{option_map, option_to_list}
use Rattle.ldap_spec.specs.Kinds.{kind_of, is_final}
use Rattle.ldap_spec.specs.Requests.{request}
use Rattle.lload_names.specs.declared.names.OpKind.{OpKind}
use Rattle.lload_names.specs.declared.names.OpName.{OpName}
use Rattle.lload_names.specs.declared.names.What.{What}
use Rattle.lload_names.specs.declared.names.What.TheVariants as what
use Rattle.ldap_spec.specs.Responses.{has_code}
use Rattle.lload_names.specs.declared.names.OpKind.TheVariants.{Bind}
use Rattle.lload_names.specs.Same.{same_kind}
use Rattle.lload_spec.specs.Lists.{passes, last}
use Rattle.lload_spec.specs.Operations.{is_final_for}
use Rattle.lload_spec.specs.Settings.{Settings}
use Rattle.ldap_spec.specs.Messages.{Message}
use Rattle.lload_spec.specs.Identity.{identity_of}
use Rattle.part_spec.specs.Marked.{Taken}
use Rattle.ldap_spec.specs.Bodies.{refusal}
use Rattle.lload_names.specs.declared.names.Refusal.{Refusal}
use Rattle.part_spec.specs.Inputs.{Act, act}
use Rattle.part_spec.specs.ClientTurn.{answer, failure, refused}
use Rattle.part_spec.specs.ClientState.{ClientRow, ClientState, is_bind_row, without, with_bind_answer, with_answer, row_named, row_under, client_behind, who_told, AskedFor}
use Rattle.client_rows.specs.Rows.{has_number, has_id, is_bind}
use Rattle.client_rows.specs.declared.row.Row.{Row}
use Rattle.client_session.specs.declared.part.ClientPart.{ClientPart}
use Rattle.client_session.specs.Stands.{Seen, seen, shown, Asks, Stands}
use Rattle.client_session.proofs.Through.{find-through, filter-through}

pub found-number : (k : ℕ) (rs : List Row) (r : Row) → find (has_number k) rs ≡ Some r → r.k ≡ k
found-number k [] r f = absurd (let bad : ◌≡◌ {A = Option Row} None (Some r) = f in cc)
found-number k (x ∷ rs) r f = by (has_number k x) refl f (found-number k rs r)
  where
    by : (b : Bool) → has_number k x ≡ b → cond b (Some x) (find (has_number k) rs) ≡ Some r → (find (has_number k) rs ≡ Some r → r.k ≡ k) → r.k ≡ k
    by true t e ih = let same : x ≡ r = cc in ap (λ y. y.k) (sym same) ∙ grind (arith, nat_tests, t)
    by false t e ih = ih e

pub shows : (s : Settings) (r : ClientRow) (row : Row) (o : Option Row) → o ≡ Some row → option_map shown o ≡ Some (seen s r) → shown row ≡ seen s r
shows s r row o is e = let at : ◌≡◌ {A = Option Seen} (Some (shown row)) (Some (seen s r)) = rw is at e in cc

pub same-bind : (s : Settings) (r : ClientRow) (row : Row) → shown row ≡ seen s r → is_bind_row r ≡ is_bind row
same-bind s r row e = ap (λ v. passes (same_kind Bind) v.kind) (sym e)

abbrev final_answer : Settings → ℕ → Option Taken → List ℕ → ClientState → ClientRow → Bool → Bool → ClientState
final_answer s at mark rest p r final bind =
    elim final [
      | false ↦ p
      | true ↦ elim bind [
        | true ↦ with_bind_answer s mark r.request rest (without (λ x. x.k == r.k) at p)
        | false ↦ without (λ x. x.k == r.k) at p
      ]
    ]

answer-is : (s : Settings) (at : ℕ) (mark : Option Taken) (rest : List ℕ) (p : ClientState) (r : ClientRow) (final bind : Bool) → is_final_for r.request rest ≡ final → is_bind_row r ≡ bind → with_answer s at mark rest p r ≡ final_answer s at mark rest p r final bind
answer-is s at mark rest p r final bind f b = ap (λ x. final_answer s at mark rest p r x (is_bind_row r)) f ∙ ap (final_answer s at mark rest p r final) b

pub answered-none : (s : Settings) (at : ℕ) (mark : Option Taken) (rest : List ℕ) (p : ClientState) (r : ClientRow) (d : ClientPart) → is_final_for r.request rest ≡ false → Stands s p d → Stands s (with_answer s at mark rest p r) d
answered-none s at mark rest p r d f h = subst (λ (q : ClientState). Stands s q d) (sym (answer-is s at mark rest p r false (is_bind_row r) f refl)) h

pub answered-plain : (s : Settings) (at : ℕ) (mark : Option Taken) (rest : List ℕ) (p : ClientState) (r : ClientRow) (k : ℕ) (d : ClientPart) → is_final_for r.request rest ≡ true → is_bind_row r ≡ false → r.k ≡ k → Stands s (without (λ x. x.k == k) at p) d → Stands s (with_answer s at mark rest p r) d
answered-plain s at mark rest p r k d f b number h = subst (λ (q : ClientState). Stands s q d) (sym (answer-is s at mark rest p r true false f b ∙ ap (λ j. without (λ x. x.k == j) at p) number)) h

pub answered-bind : (s : Settings) (at : ℕ) (mark : Option Taken) (rest : List ℕ) (p : ClientState) (r : ClientRow) (k : ℕ) (d : ClientPart) → is_final_for r.request rest ≡ true → is_bind_row r ≡ true → r.k ≡ k → Stands s (with_bind_answer s mark r.request rest (without (λ x. x.k == k) at p)) d → Stands s (with_answer s at mark rest p r) d
answered-bind s at mark rest p r k d f b number h = subst (λ (q : ClientState). Stands s q d) (sym (answer-is s at mark rest p r true true f b ∙ ap (λ j. with_bind_answer s mark r.request rest (without (λ x. x.k == j) at p)) number)) h

pub is-final-by : (r : ClientRow) (rest : List ℕ) (kind : OpKind) → kind_of r.request.rest ≡ Some kind → is_final_for r.request rest ≡ is_final kind rest
is-final-by r rest its e = ap (λ o. passes (λ k. is_final k rest) o) e

-- the operation of a name

none-found : (rs : List ClientRow) → find (λ r. false) rs ≡ None
none-found [] = refl
none-found (r ∷ rs) = none-found rs

pub named-other : (s : Settings) (p : ClientState) (op : OpName) → (p.number == op.client) ≡ false → option_map (seen s) (row_named p op) ≡ None
named-other s p op e = ap (λ b. option_map (seen s) (find (λ r. b && r.k == op.k) p.rows)) e ∙ ap (option_map (seen s)) (none-found p.rows)

pub named-own : (s : Settings) (p : ClientState) (d : ClientPart) (op : OpName) → (p.number == op.client) ≡ true → Stands s p d → option_map (seen s) (row_named p op) ≡ option_map shown (find (has_number op.k) d.operations.rows)
named-own s p d op e h = ap (λ b. option_map (seen s) (find (λ r. b && r.k == op.k) p.rows)) e ∙ find-through (seen s) shown (λ v. v.k == op.k) p.rows d.operations.rows h.live.rows_are

-- an answer that goes out under its identifier

-- the state behind a Bind's final answer, by whether its exchange goes on
abbrev bind_answer_by : Settings → Option Taken → Message → List ℕ → ClientState → Bool → ClientState
bind_answer_by s mark bind rest p true = record p { in_exchange = true }
bind_answer_by s mark bind rest p false =
    record p { hold = None; identity = if has_code 0 rest then identity_of s (who_told mark) (request bind.rest) else [] }

bind-asks : (s : Settings) (mark : Option Taken) (bind : Message) (rest : List ℕ) (p : ClientState) → (with_bind_answer s mark bind rest p).asked ≡ p.asked
bind-asks s mark bind rest p = by (has_code 14 rest)
  where
    by : (c : Bool) → (bind_answer_by s mark bind rest p c).asked ≡ p.asked
    by true = refl
    by false = refl

answer-asks : (s : Settings) (at : ℕ) (mark : Option Taken) (rest : List ℕ) (p : ClientState) (r : ClientRow) → (with_answer s at mark rest p r).asked ≡ p.asked
answer-asks s at mark rest p r = by (is_final_for r.request rest) (is_bind_row r)
  where
    by : (f b : Bool) → (final_answer s at mark rest p r f b).asked ≡ p.asked
    by false b = refl
    by true false = refl
    by true true = bind-asks s mark r.request rest (without (λ x. x.k == r.k) at p)

pub same-asks : (s : Settings) (q p : ClientState) (d : ClientPart) → q.asked ≡ p.asked → Stands s q d → Stands s (record q { asked = p.asked }) d
same-asks s q p d e h = record {
  settings = h.settings;
  number = h.number;
  moment = h.moment;
  arrived = h.arrived;
  gone = h.gone;
  live = h.live;
  asks = subst (λ (a : List AskedFor). Asks q.number q.count a d.asked) e h.asks;
  identity = h.identity;
  in_exchange = h.in_exchange;
  hold = h.hold;
  binds = h.binds;
  stalled = h.stalled;
  paused = h.paused;
  idle = h.idle;
  room = h.room;
}

pub one-shown : (s : Settings) (xs : List ClientRow) (v : Seen) → map (seen s) xs ≡ v ∷ [] → (r : ClientRow) × (xs ≡ r ∷ []) × (seen s r ≡ v)
one-shown s [] v e = absurd (let bad : ◌≡◌ {A = List Seen} [] (v ∷ []) = e in cc)
one-shown s (r ∷ []) v e = (r, refl, cc)
one-shown s (r ∷ q ∷ xs) v e = absurd (let bad : ◌≡◌ {A = List Seen} (seen s r ∷ seen s q ∷ map (seen s) xs) (v ∷ []) = e in cc)

pub out-stands : (s : Settings) (p : ClientState) (d e : ClientPart) (at : ℕ) (mark : Option Taken) (rest : List ℕ) (row : Row) → Stands s p d → filter (has_id row.id) d.operations.rows ≡ row ∷ [] → ((r : ClientRow) → shown row ≡ seen s r → Stands s (with_answer s at mark rest p r) e) → Stands s (record (client_behind s at mark p (what.Out row.id rest)) { asked = p.asked }) e
out-stands s p d e at mark rest row h alone answered =
    let one = one-shown s _ (shown row) (filter-through (seen s) shown (λ v. v.id == row.id) p.rows d.operations.rows h.live.rows_are ∙ ap (map shown) alone) in
    let under : row_under p row.id ≡ Some one.0 = ap last one.1 in
    let is : client_behind s at mark p (what.Out row.id rest) ≡ with_answer s at mark rest p one.0 = ap (λ o. elim o [ None ↦ p | Some r ↦ with_answer s at mark rest p r ]) under in
    same-asks s _ p e (ap (λ q. q.asked) is ∙ answer-asks s at mark rest p one.0) (subst (λ (q : ClientState). Stands s q e) (sym is) (answered one.0 (sym one.2)))

-- a refusal goes out as the answer with its body

-- what happens at a refusal and at an answer, by the live operation
abbrev refused_by : OpName → Refusal → Option ClientRow → Act
refused_by op which None = act (what.Late op ∷ []) []
refused_by op which (Some r) = act (refused r.request which) []

abbrev refused_kind : ℕ → Refusal → Option OpKind → List What
refused_kind id which None = []
refused_kind id which (Some kind) = what.Out id (refusal kind which) ∷ []

abbrev answered_by : OpName → List ℕ → Option ClientRow → Act
answered_by op rest None = act (what.Late op ∷ []) []
answered_by op rest (Some r) = act (what.Out r.request.id rest ∷ []) []

pub refused-whats : (s : Settings) (p : ClientState) (op : OpName) (which : Refusal) (row : Row) (rest : List ℕ) → option_map (seen s) (row_named p op) ≡ Some (shown row) → rest ≡ refusal row.kind which → (failure p op which).whats ≡ (answer p op rest).whats
refused-whats s p op which row rest e is = by (row_named p op) e
  where
    by : (o : Option ClientRow) → option_map (seen s) o ≡ Some (shown row) → (refused_by op which o).whats ≡ (answered_by op rest o).whats
    by None f = refl
    by (Some r) f =
        let same : seen s r ≡ shown row = cc in
        let its : kind_of r.request.rest ≡ Some row.kind = ap (λ v. v.kind) same in
        ap (refused_kind r.request.id which) its ∙ ap (λ body. what.Out r.request.id body ∷ []) (sym is)

pub late-whats : (s : Settings) (p : ClientState) (op : OpName) (which : Refusal) (rest : List ℕ) → option_map (seen s) (row_named p op) ≡ None → (failure p op which).whats ≡ (answer p op rest).whats
late-whats s p op which rest e = by (row_named p op) e
  where
    by : (o : Option ClientRow) → option_map (seen s) o ≡ None → (refused_by op which o).whats ≡ (answered_by op rest o).whats
    by None f = refl
    by (Some r) f = absurd (let bad : ◌≡◌ {A = Option Seen} (Some (seen s r)) None = f in cc)
