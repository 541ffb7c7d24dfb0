-- The part's beginning, and the end of its link.
use Rattle.std.proofs.Common.{◌≡◌, ℕ, ◌+◌, ◌*◌, ◌≤◌, max, arith, Bool, true, false, ◌&&◌, not, if◌then◌else◌, List, [], ◌∷◌, ◌++◌, length, Option, Some, None, refl, ap, ◌∙◌, sym, subst}
use Rattle.std.proofs.lemmas.Bool.Decides.{nat_tests}
use Rattle.std.specs.Prelude.{nat_lt}
use Rattle.lload_names.specs.declared.names.ConnKind.{ConnKind}
use Rattle.lload_names.specs.declared.names.ConnKind.TheVariants.{Regular, Bind as BindKind}
use Rattle.lload_names.specs.declared.names.EndWhy.{EndWhy}
use Rattle.lload_names.specs.declared.names.PartName.TheVariants.{Up as Connection}
use Rattle.lload_names.specs.declared.names.What.TheVariants as what
use Rattle.lload_names.specs.declared.inputs.Effects.{Effects}
use Rattle.lload_names.specs.declared.plans.Place.{Place}
use Rattle.lload_names.specs.Same.{is_kind}
use Rattle.lload_spec.specs.Settings.{Settings, is_of_kind, place_at}
use Rattle.lload_spec.specs.Pauses.{is_waiting}
use Rattle.id_table.specs.Table.{IsTable}
use Rattle.part_spec.specs.Inputs.{marked_by}
use Rattle.part_spec.specs.ConnectionState.{ConnectionState, kind_at, empty_connection, is_there, is_holding, step_connections}
use Rattle.part_spec.specs.ConnectionTurn.{is_drained}
use Rattle.part_spec.specs.Turn.{connection_sever}
use Rattle.conn_core.specs.declared.settings.UpSettings.{UpSettings}
use Rattle.conn_core.specs.Conn.{Conn, new_conn, state_of}
use Rattle.conn_core.specs.Kept.{open_rows, ArePlain, EachOnce}
use Rattle.conn_core.specs.Closing.{closing_letters}
use Rattle.conn_core.proofs.Ends as ends
use Rattle.conn_core.proofs.Turns.{down-undrained}
use Rattle.upstream_conn.specs.Part.{Stands, IsMade, OwnIsGiven, state, up_wait, request_of}
use Rattle.upstream_conn.specs.declared.part.OwnWait.{OwnWait}
use Rattle.upstream_conn.specs.declared.part.UpstreamPart.{UpstreamPart}
use Rattle.upstream_conn.proofs.Falls.{fall-knows}

-- The beginning.
no-bind-kind : (o : Option Place) → (let b : Bool = elim o [ None ↦ false | Some p ↦ is_kind Regular p.kind ] in b) ≡ true → (let b : Bool = elim o [ None ↦ false | Some p ↦ is_kind BindKind p.kind ] in b) ≡ false
no-bind-kind None h = refl
no-bind-kind (Some p) h = by p.kind h
  where
    by : (k : ConnKind) → is_kind Regular k ≡ true → is_kind BindKind k ≡ false
    by Regular e = refl
    by BindKind e = absurd (let bad : false ≡ true = e in cc)

regular-kind : (s : Settings) (n : ℕ) → is_of_kind s Regular n ≡ true → kind_at s n ≡ Regular
regular-kind s n h = ap (λ (b : Bool). let k : ConnKind = if b then BindKind else Regular in k) (no-bind-kind (place_at s n) h)

pub new-stands : (s : Settings) (number : ℕ) (set : UpSettings) (u : UpstreamPart) → u.core ≡ new_conn number Regular set.id_limit set.timeout → IsTable u.core.table → u.own ≡ None → u.waiting ≡ [] → u.own_bind ≡ request_of set.own_bind → 2 ≤ set.id_limit → IsMade s number set → Stands s (empty_connection s number) u
new-stands s number set u core table own waiting request least made =
    let n : Conn = new_conn number Regular set.id_limit set.timeout in
    let fresh : nat_lt set.id_limit 1 ≡ false = grind (arith, nat_tests, least) in
    record {
      is =
          ap (λ (k : ConnKind). record (state_of n None None None []) { kind = k; retired = false }) (regular-kind s number made.placed)
          ∙ ap (λ (b : Bool). record (state_of n None None None []) { retired = b }) (sym fresh)
          ∙ sym (
          ap (λ (w : Conn). state_of w (up_wait u.own) None None u.waiting) core
          ∙ ap (λ (o : Option OwnWait). state_of n (up_wait o) None None u.waiting) own
          ∙ ap (λ (l : List ℕ). state_of n None None None l) waiting
          );
      knows = record {
        fits = record {
          agrees = record { limit = made.limit ∙ sym (ap (λ (w : Conn). w.table.limit) core); timeout = made.timeout ∙ sym (ap (λ (w : Conn). w.timeout) core) };
          placed = subst (λ (i : ℕ). is_of_kind s Regular i ≡ true) (sym (ap (λ (w : Conn). w.number) core)) made.placed;
          request = λ h. made.request ∙ sym request;
        };
        steady = record {
          kind = ap (λ (w : Conn). w.kind) core;
          sound = record {
            table = table;
            begun = λ h. ap (λ (w : Conn). w.table.ids.next) core;
            once = subst (λ (w : Conn). EachOnce w.table.rows) (sym core) tt;
            within = subst (λ (w : Conn). length (open_rows w.table.rows) + w.table.ids.next ≤ 2 * w.table.limit + 1) (sym core) (omega (arith, least));
          };
          plain = subst (λ (w : Conn). ArePlain w.table.rows) (sym core) tt;
          own = subst (OwnIsGiven u.core) (sym own) tt;
          fresh = λ h. own;
          unlinked = λ h. ap (λ (w : Conn). w.up) core;
          idle = λ h. ap (λ (w : Conn). w.table.rows) core;
        };
      };
      undrained = refl;
    }

-- Whether it holds.
pub holding-is : (s : Settings) (p : ConnectionState) (u : UpstreamPart) → Stands s p u → is_holding p ≡ (not u.core.down && is_waiting u.waiting)
holding-is s p u h = ap is_holding h.is ∙ ap (λ (k : ConnKind). is_kind Regular k && not u.core.down && is_waiting u.waiting) h.knows.steady.kind

-- The end of its link.
pub nothing-severed : (s : Settings) (p : ConnectionState) (u : UpstreamPart) (now : ℕ) (why : EndWhy) → Stands s p u → is_there (state u) ≡ false → connection_sever p now why ≡ record { entries = []; letters = [] }
nothing-severed s p u now why h gone = ends.nothing-severed p now why (ap is_there h.is ∙ gone)

pub severed-is : (s : Settings) (p : ConnectionState) (u : UpstreamPart) (at now : ℕ) (why : EndWhy) → Stands s p u → is_there (state u) ≡ true → at ≡ max u.core.moment now → connection_sever p now why ≡ record { entries = record { part = Connection u.core.number; at = at; what = what.Down why } ∷ []; letters = closing_letters u.core.number u.core.kind u.core.table.rows None }
severed-is s p u at now why h there is =
    ap (λ (q : ConnectionState). connection_sever q now why) h.is
    ∙ ends.severed-is (state u) at now why there is
    ∙ sym (ap (λ l. let e : Effects = record { entries = record { part = Connection u.core.number; at = at; what = what.Down why } ∷ []; letters = l } in e) (ends.closing-is u.core (up_wait u.own) None u.waiting None))

pub severed-stands : (s : Settings) (p : ConnectionState) (u : UpstreamPart) (w : Conn) (at now : ℕ) (why : EndWhy) → Stands s p u → is_there (state u) ≡ true → at ≡ max u.core.moment now → w ≡ record u.core { moment = at; down = true; table = record u.core.table { rows = [] } } → IsTable w.table → Stands s (step_connections s p (marked_by None (connection_sever p now why).entries)) (record u { core = w })
severed-stands s p u w at now why h there is new table =
    let v : UpstreamPart = record u { core = w } in
    let now-is : step_connections s p (marked_by None (connection_sever p now why).entries) ≡ state v =
    ap (λ (e : Effects). step_connections s p (marked_by None e.entries)) (severed-is s p u at now why h there is)
    ∙ ap (λ (q : ConnectionState). step_connections s q (marked_by None (record { part = Connection u.core.number; at = at; what = what.Down why } ∷ []))) h.is
    ∙ sym (ap (λ (x : Conn). state (record u { core = x })) new) in
    record {
      is = now-is;
      knows = fall-knows s u v at u.own (new, refl, refl) refl table h.knows.steady.own h.knows.steady.fresh h.knows;
      undrained = ap is_drained now-is ∙ ap (λ (x : Conn). is_drained (state (record u { core = x }))) new ∙ down-undrained (nat_lt u.core.table.limit u.core.table.ids.next) true true;
    }
