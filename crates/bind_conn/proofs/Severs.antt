-- The part's beginning, and the end of its link.
use Rattle.std.proofs.Common.{◌≡◌, ℕ, ◌+◌, ◌*◌, ◌≤◌, max, arith, Bool, true, false, if◌then◌else◌, [], ◌∷◌, length, Option, None, refl, ap, ◌∙◌, sym, subst}
use Rattle.std.proofs.lemmas.Bool.Decides.{nat_tests}
use Rattle.std.specs.Prelude.{nat_lt}
use Rattle.lload_names.specs.declared.names.ConnKind.TheVariants.{Regular, Bind as BindKind}
use Rattle.lload_names.specs.declared.names.EndWhy.{EndWhy}
use Rattle.lload_names.specs.declared.names.OpName.{OpName}
use Rattle.lload_names.specs.declared.names.PartName.TheVariants.{Up as Connection}
use Rattle.lload_names.specs.declared.names.What.TheVariants as what
use Rattle.lload_names.specs.declared.inputs.Effects.{Effects}
use Rattle.lload_spec.specs.Settings.{Settings, is_of_kind}
use Rattle.id_table.specs.Table.{IsTable}
use Rattle.part_spec.specs.Inputs.{marked_by}
use Rattle.part_spec.specs.ConnectionState.{ConnectionState, empty_connection, is_there, step_connections}
use Rattle.part_spec.specs.ConnectionTurn.{is_drained}
use Rattle.part_spec.specs.Turn.{connection_sever}
use Rattle.conn_core.specs.Closing.{closing_letters}
use Rattle.conn_core.specs.declared.settings.UpSettings.{UpSettings}
use Rattle.conn_core.specs.Conn.{Conn, new_conn, state_of}
use Rattle.conn_core.specs.Kept.{open_rows, EachOnce}
use Rattle.conn_core.proofs.Ends as ends
use Rattle.conn_core.proofs.Turns.{down-undrained}
use Rattle.bind_conn.specs.Part.{Stands, IsMade, IsOneBind, state}
use Rattle.bind_conn.specs.declared.part.BindPart.{BindPart}
use Rattle.bind_conn.proofs.Ends.{end-knows}

pub new-stands : (s : Settings) (number : ℕ) (set : UpSettings) (b : BindPart) → b.core ≡ new_conn number BindKind set.id_limit set.timeout → IsTable b.core.table → b.holder ≡ None → b.lost ≡ None → 2 ≤ set.id_limit → IsMade s number set → Stands s (empty_connection s number) b
new-stands s number set b core table holder lost least made =
    let n : Conn = new_conn number BindKind set.id_limit set.timeout in
    let fresh : nat_lt set.id_limit 1 ≡ false = grind (arith, nat_tests, least) in
    record {
      is =
          ap (λ (t : Bool). record (state_of n None None None []) { kind = if t then BindKind else Regular; retired = false }) made.placed
          ∙ ap (λ (t : Bool). record (state_of n None None None []) { retired = t }) (sym fresh)
          ∙ sym (
          ap (λ (w : Conn). state_of w None b.holder b.lost []) core
          ∙ ap (λ (o : Option OpName). state_of n None o b.lost []) holder
          ∙ ap (λ (o : Option OpName). state_of n None None o []) lost
          );
      knows = record {
        agrees = record { limit = made.limit ∙ sym (ap (λ (w : Conn). w.table.limit) core); timeout = made.timeout ∙ sym (ap (λ (w : Conn). w.timeout) core) };
        placed = subst (λ (i : ℕ). is_of_kind s BindKind i ≡ true) (sym (ap (λ (w : Conn). w.number) core)) made.placed;
        steady = record {
          kind = ap (λ (w : Conn). w.kind) core;
          sound = record {
            table = table;
            begun = λ h. ap (λ (w : Conn). w.table.ids.next) core;
            once = subst (λ (w : Conn). EachOnce w.table.rows) (sym core) tt;
            within = subst (λ (w : Conn). length (open_rows w.table.rows) + w.table.ids.next ≤ 2 * w.table.limit + 1) (sym core) (omega (arith, least));
          };
          one = subst (λ (w : Conn). IsOneBind w.table.rows) (sym core) tt;
        };
      };
      undrained = refl;
    }

-- The end of its link.
pub nothing-severed : (s : Settings) (p : ConnectionState) (b : BindPart) (now : ℕ) (why : EndWhy) → Stands s p b → is_there (state b) ≡ false → connection_sever p now why ≡ record { entries = []; letters = [] }
nothing-severed s p b now why h gone = ends.nothing-severed p now why (ap is_there h.is ∙ gone)

pub severed-is : (s : Settings) (p : ConnectionState) (b : BindPart) (at now : ℕ) (why : EndWhy) → Stands s p b → is_there (state b) ≡ true → at ≡ max b.core.moment now → connection_sever p now why ≡ record { entries = record { part = Connection b.core.number; at = at; what = what.Down why } ∷ []; letters = closing_letters b.core.number b.core.kind b.core.table.rows b.holder }
severed-is s p b at now why h there is =
    ap (λ (q : ConnectionState). connection_sever q now why) h.is
    ∙ ends.severed-is (state b) at now why there is
    ∙ sym (ap (λ l. let e : Effects = record { entries = record { part = Connection b.core.number; at = at; what = what.Down why } ∷ []; letters = l } in e) (ends.closing-is b.core None b.lost [] b.holder))

pub severed-stands : (s : Settings) (p : ConnectionState) (b : BindPart) (w : Conn) (at now : ℕ) (why : EndWhy) → Stands s p b → is_there (state b) ≡ true → at ≡ max b.core.moment now → w ≡ record b.core { moment = at; down = true; table = record b.core.table { rows = [] } } → IsTable w.table → Stands s (step_connections s p (marked_by None (connection_sever p now why).entries)) (record b { core = w; holder = None; lost = b.holder })
severed-stands s p b w at now why h there is new table =
    let v : BindPart = record b { core = w; holder = None; lost = b.holder } in
    let now-is : step_connections s p (marked_by None (connection_sever p now why).entries) ≡ state v =
    ap (λ (e : Effects). step_connections s p (marked_by None e.entries)) (severed-is s p b at now why h there is)
    ∙ ap (λ (q : ConnectionState). step_connections s q (marked_by None (record { part = Connection b.core.number; at = at; what = what.Down why } ∷ []))) h.is
    ∙ sym (ap (λ (x : Conn). state (record b { core = x; holder = None; lost = b.holder })) new) in
    record {
      is = now-is;
      knows = end-knows s b w at None b.holder new table h.knows;
      undrained = ap is_drained now-is ∙ ap (λ (x : Conn). is_drained (state (record b { core = x; holder = None; lost = b.holder }))) new ∙ down-undrained (nat_lt b.core.table.limit b.core.table.ids.next) true true;
    }
