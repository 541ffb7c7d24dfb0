-- What the part stands for where a Bind came.
use Rattle.std.proofs.Common.{◌≡◌, ◌≤◌, ◌+◌, ℕ, ℤ, suc, max, Bool, true, false, not, ◌==◌, ◌&&◌, ◌||◌, cond, if◌then◌else◌, List, [], ◌∷◌, ◌++◌, filter, length, map, Option, Some, None, arith, refl, ap, subst, sym, ◌∙◌}
use Rattle.std.proofs.lemmas.Bool.Decides.{nat_tests}
use Rattle.std.specs.Prelude.{is_some}
use Rattle.std.specs.List.{list_any}
use Rattle.ldap_spec.specs.Bodies.{refusal}
use Rattle.ldap_spec.specs.Kinds.{kind_of, is_final}
use Rattle.ldap_spec.specs.Messages.{Message}
use Rattle.ldap_spec.specs.Requests.{request}
use Rattle.ldap_spec.specs.Responses.{has_code}
use Rattle.lload_names.specs.Same.{same_kind}
use Rattle.lload_names.specs.declared.names.Entry.{Entry}
use Rattle.lload_names.specs.declared.names.OpKind.TheVariants.{Bind}
use Rattle.lload_names.specs.declared.names.Refusal.{Refusal}
use Rattle.lload_names.specs.declared.names.Refusal.TheVariants.{C1, C2, C3, C4, C5, C6, C7, C8, C9, C10, C11}
use Rattle.lload_names.specs.declared.names.What.TheVariants as what
use Rattle.lload_spec.specs.Binding.{kind_wanted}
use Rattle.lload_spec.specs.BindingCalls.{Call, Reset, standing}
use Rattle.lload_spec.specs.Entries.{makes_operation}
use Rattle.lload_spec.specs.FirstCheck.{lets_go_on}
use Rattle.lload_spec.specs.Identity.{identity_of}
use Rattle.lload_spec.specs.Lists.{passes, last}
use Rattle.lload_spec.specs.Operations.{is_final_for, is_request_of}
use Rattle.lload_spec.specs.Settings.{Settings}
use Rattle.lload_spec.specs.Window.{Standing}
use Rattle.part_spec.specs.Inputs.{act, entries_of}
use Rattle.part_spec.specs.ClientState.{ClientRow, ClientState, Window as WindowBy, is_written, unbound, without, with_answer, with_bind_answer, with_bind, with_request, new_row, row_under, is_bind_row, is_asked_for, is_pinned, abandons, next_name, check_at, step_client}
use Rattle.part_spec.specs.ClientTurn as turn
use Rattle.outbox.specs.declared.outbox.Outbox.{Outbox}
use Rattle.client_laws.proofs.KindsKept.{carried_kind}
use Rattle.client_rows.specs.Rows.{Counted}
use Rattle.client_rows.specs.declared.row.Row.{Row}
use Rattle.client_session.specs.Closing.{endings}
use Rattle.client_session.specs.Did.{Did}
use Rattle.client_session.specs.declared.part.ClientPart.{ClientPart}
use Rattle.client_session.specs.Stands.{seen, shown, standing_for, Binds, Stands}
use Rattle.client_session.proofs.Asking.{asks-more}
use Rattle.client_session.proofs.Chosen.{moved}
use Rattle.client_session.proofs.Closings.{endings-shown}
use Rattle.client_session.proofs.Leaves.{two-entries}
use Rattle.client_session.proofs.Passed.{kind-makes, new-unwritten, nat-same}
use Rattle.client_session.proofs.Answering.{refusal-final}
use Rattle.client_session.proofs.Rules.{entry}
use Rattle.client_session.proofs.Windows.{standing-reset}

-- none binds any more
binds-reset : (s : Settings) (xs ys : List ClientRow) (w : WindowBy) (old new : Standing) → length (filter is_written ys) ≡ 0 → ((calls : List Call) → old ≡ standing old.seconds calls → new ≡ standing old.seconds (calls ++ Reset ∷ [])) → Binds s xs w old → Binds s ys unbound new
binds-reset s xs ys w old new none call h =
    let seconds : old.seconds ≡ s.write_coherence = ap (λ x. x.seconds) h.kept_is in
    let Was : ℤ → Type 0 = λ z. old ≡ standing z h.calls in
    let Is : ℤ → Type 0 = λ z. new ≡ standing z (h.calls ++ Reset ∷ []) in
    let is : new ≡ standing s.write_coherence (h.calls ++ Reset ∷ []) = subst Is seconds (call h.calls (subst Was (sym seconds) h.kept_is)) in
    let make : ℕ → Standing = λ live. record { seconds = s.write_coherence; connection = None; backend = None; write = None; live = live; ended = 0 } in
    record { calls = h.calls ++ Reset ∷ []; kept_is = is; says = ap make none ∙ sym (standing-reset s.write_coherence h.calls) ∙ sym is }

-- a Bind came, with these operations behind it
pub bind-stands : (s : Settings) (p : ClientState) (d : ClientPart) (xs : List ClientRow) (o : Counted) (window : Standing) (kept : ℕ) → o.count ≡ d.operations.count + 1 → map (seen s) xs ≡ map shown o.rows → length (filter is_written xs) ≡ 0 → ((calls : List Call) → d.window ≡ standing d.window.seconds calls → window ≡ standing d.window.seconds (calls ++ Reset ∷ [])) → (d.arrived ≡ true → d.gone ≡ false → length o.rows + 1 + length d.paused.keys ≤ kept) → Stands s p d → Stands s (record p { count = suc p.count; rows = xs; identity = []; in_exchange = false; window = unbound }) (record d { operations = o; identity = []; in_exchange = false; window = window; kept = kept })
bind-stands s p d xs o window kept count rows none call room h = record {
  settings = h.settings;
  number = h.number;
  moment = h.moment;
  arrived = h.arrived;
  gone = h.gone;
  live = record { count_is = omega (arith, h.live.count_is, count); rows_are = rows };
  asks = asks-more p.number p.count p.asked d.asked h.asks;
  identity = refl;
  in_exchange = refl;
  hold = h.hold;
  binds = λ there. binds-reset s p.rows xs p.window d.window window none call (h.binds there);
  stalled = h.stalled;
  paused = h.paused;
  idle = h.idle;
  room = λ there stays. room (sym h.arrived ∙ there) (sym h.gone ∙ stays);
}

-- it holds no connection any more
pub let-go : (s : Settings) (p : ClientState) (d : ClientPart) → Stands s p d → Stands s (record p { hold = None }) (record d { hold = None })
let-go s p d h = record {
  settings = h.settings;
  number = h.number;
  moment = h.moment;
  arrived = h.arrived;
  gone = h.gone;
  live = h.live;
  asks = h.asks;
  identity = h.identity;
  in_exchange = h.in_exchange;
  hold = refl;
  binds = h.binds;
  stalled = h.stalled;
  paused = h.paused;
  idle = h.idle;
  room = h.room;
}

-- a refused Bind

refusal-code : (which : Refusal) → (has_code 14 (refusal Bind which) ≡ false) × (has_code 0 (refusal Bind which) ≡ false)
refusal-code C1 = (refl, refl)
refusal-code C2 = (refl, refl)
refusal-code C3 = (refl, refl)
refusal-code C4 = (refl, refl)
refusal-code C5 = (refl, refl)
refusal-code C6 = (refl, refl)
refusal-code C7 = (refl, refl)
refusal-code C8 = (refl, refl)
refusal-code C9 = (refl, refl)
refusal-code C10 = (refl, refl)
refusal-code C11 = (refl, refl)

-- behind its In
abbrev pub bound_anew : ℕ → ClientRow → ClientState → ClientState
bound_anew at new p = record p { count = suc p.count; rows = new ∷ []; identity = []; in_exchange = false; window = unbound; moment = at }

pub bind-came : (s : Settings) (p : ClientState) (at : ℕ) (m : Message) (asks : Bool) → kind_of m.rest ≡ Some Bind → (m.id == 0) ≡ false → is_asked_for s p m ≡ asks → step_client s p (record { entry = entry p at (what.In m.id m.rest); mark = None }) ≡ record (bound_anew at (new_row s p m) p) { asked = if asks then p.asked ++ record { op = next_name p; kind = kind_wanted m } ∷ [] else p.asked }
bind-came s p at m asks k zero e =
    let make : Bool → Bool → Bool → ClientState = λ makes binds asks. record (elim makes [ false ↦ without (abandons m) at p | true ↦ elim binds [ true ↦ with_bind s m p | false ↦ with_request s m p ] ]) { moment = at; asked = if asks then p.asked ++ record { op = next_name p; kind = kind_wanted m } ∷ [] else p.asked } in
    ap (λ x. make x (is_request_of Bind m) (is_asked_for s p m)) (kind-makes m Bind k zero)
    ∙ ap (λ x. make true x (is_asked_for s p m)) (ap (passes (same_kind Bind)) k)
    ∙ ap (make true true) e

abbrev refused_state : ℕ → ClientState → ClientState
refused_state at p = record p { count = suc p.count; rows = []; identity = []; in_exchange = false; hold = None; window = unbound; moment = at }

bind-refused : (s : Settings) (p : ClientState) (at : ℕ) (new : ClientRow) (which : Refusal) → kind_of new.request.rest ≡ Some Bind → is_written new ≡ false → step_client s (bound_anew at new p) (record { entry = entry p at (what.Out new.request.id (refusal Bind which)); mark = None }) ≡ refused_state at p
bind-refused s p at new which its unwritten =
    let q = bound_anew at new p in
    let rest = refusal Bind which in
    let under : row_under q new.request.id ≡ Some new = ap (λ b. last (cond b (new ∷ []) [])) (nat-same new.request.id) in
    let is_last : is_final_for new.request rest ≡ true = ap (passes (λ x. is_final x rest)) its ∙ refusal-final Bind which in
    let binds : is_bind_row new ≡ true = ap (passes (same_kind Bind)) its in
    let by : Bool → Bool → ClientState = λ f b. record (elim f [ false ↦ q | true ↦ elim b [ true ↦ with_bind_answer s None new.request rest (without (λ x. x.k == new.k) at q) | false ↦ without (λ x. x.k == new.k) at q ] ]) { moment = at; asked = p.asked } in
    let left = without (λ x. x.k == new.k) at q in
    let answer : Bool → Bool → ClientState = λ more good. record (elim more [ true ↦ record left { in_exchange = true } | false ↦ record left { hold = None; identity = if good then identity_of s None (request new.request.rest) else [] } ]) { moment = at; asked = p.asked } in
    let ended : Bool → Bool → ClientState = λ here wrote. record p { count = suc p.count; rows = cond (not here) (new ∷ []) []; identity = []; in_exchange = false; hold = None; window = record unbound { write_ended = if here && wrote || false then max at 0 else 0 }; moment = at } in
    ap (λ o. record (elim o [ None ↦ q | Some r ↦ with_answer s at None rest q r ]) { moment = at; asked = p.asked }) under
    ∙ ap (λ f. by f (is_bind_row new)) is_last
    ∙ ap (by true) binds
    ∙ ap (λ b. answer b (has_code 0 rest)) (refusal-code which).0
    ∙ ap (answer false) (refusal-code which).1
    ∙ ap (λ b. ended b (is_written new)) (nat-same new.k)
    ∙ ap (ended true) unwritten

pub did-refuse-bind : (s : Settings) (p : ClientState) (d : ClientPart) (o : Counted) (window : Standing) (at : ℕ) (m : Message) (which : Refusal) (answer : List ℕ) (old new : Outbox) (xs : List Entry) → kind_of m.rest ≡ Some Bind → answer ≡ refusal Bind which → (m.id == 0) ≡ false → lets_go_on (check_at s p m) ≡ false → o ≡ record { count = d.operations.count + 1; rows = [] } → ((calls : List Call) → d.window ≡ standing d.window.seconds calls → window ≡ standing d.window.seconds (calls ++ Reset ∷ [])) → Stands s p d → xs ≡ old.entries.items ++ entry p at (what.In m.id m.rest) ∷ [] → new.entries.items ≡ xs ++ entry p at (what.Out m.id answer) ∷ [] → new.letters.items ≡ old.letters.items ++ endings d → Did s p at None (act (what.In m.id m.rest ∷ what.Out m.id answer ∷ []) (turn.endings p)) old new (record d { operations = o; identity = []; in_exchange = false; hold = None; window = window; moment = at })
did-refuse-bind s p d o window at m which answer old new xs k is zero stays ops call h first second letters = record {
  entries = two-entries _ _ _ _ _ first second;
  letters = letters ∙ ap (λ l. old.letters.items ++ l) (sym (endings-shown s p d h));
  stands =
      let asked : is_asked_for s p m ≡ false = ap (λ x. x && not (is_pinned s p m)) stays in
      let count : o.count ≡ d.operations.count + 1 = ap (λ c. c.count) ops in
      let rows : ◌≡◌ {A = List Row} o.rows [] = ap (λ c. c.rows) ops in
      subst (λ (q : ClientState). Stands s q (record d { operations = o; identity = []; in_exchange = false; hold = None; window = window; moment = at }))
      (sym (ap (λ (q : ClientState). step_client s q (record { entry = entry p at (what.Out m.id answer); mark = None })) (bind-came s p at m false k zero asked)
      ∙ ap (λ rest. step_client s (bound_anew at (new_row s p m) p) (record { entry = entry p at (what.Out m.id rest); mark = None })) is
      ∙ bind-refused s p at (new_row s p m) which (carried_kind s m p.identity ∙ k) (new-unwritten s p m stays)))
      (moved s at _ _ (let-go s _ _ (bind-stands s p d [] o window d.kept count (sym (ap (map shown) rows)) refl call (λ there stays. let room = h.room (h.arrived ∙ there) (h.gone ∙ stays) in let none : length o.rows ≡ 0 = ap (length {A = Row}) rows in omega (arith, room, none)) h)));
}
