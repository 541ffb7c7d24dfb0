-- Answers to the live Bind, and what is known behind them.
use Rattle.std.proofs.Common.{◌≡◌, ℕ, arith, Bool, true, false, ◌==◌, ◌&&◌, ◌||◌, cond, List, [], ◌∷◌, ◌++◌, map, length, Option, Some, None, refl, ap, ◌∙◌, sym, subst}
use Rattle.std.proofs.lemmas.Bool.Decides.{nat_tests}
use Rattle.std.specs.Prelude.{is_none}
use Rattle.ldap_spec.specs.Messages.{Message}
use Rattle.ldap_spec.specs.Kinds.{is_final, is_intermediate}
use Rattle.ldap_spec.specs.Responses.{result_code, has_code}
use Rattle.lload_names.specs.declared.names.OpName.{OpName}
use Rattle.lload_names.specs.declared.names.OpKind.TheVariants.{Bind}
use Rattle.lload_names.specs.declared.names.PartName.TheVariants.{Up as Connection}
use Rattle.lload_names.specs.declared.names.What.TheVariants as what
use Rattle.lload_spec.specs.Settings.{Settings}
use Rattle.lload_spec.specs.Identifiers.{with_freed}
use Rattle.id_table.specs.declared.row.Row.{Row}
use Rattle.id_table.specs.declared.row.Kept.{Kept}
use Rattle.id_table.specs.Rows.{row_of, without, changed, answered as answered_row}
use Rattle.id_table.specs.Table.{Table, IsTable, touched_at, finished_at}
use Rattle.part_spec.specs.Marked.{Taken}
use Rattle.part_spec.specs.Inputs.{Act, act, also, reply, entries_of}
use Rattle.part_spec.specs.ConnectionState.{ConnectionState, keeps_back}
use Rattle.part_spec.specs.ConnectionTurn.{holder_ended}
use Rattle.part_spec.specs.BindTurn.{message, answered}
use Rattle.outbox.specs.declared.outbox.Outbox.{Outbox}
use Rattle.conn_core.specs.Conn.{Conn}
use Rattle.conn_core.specs.Kept.{up_row, open_rows}
use Rattle.conn_core.specs.Closing.{holder_letters}
use Rattle.conn_core.specs.Did.{Did}
use Rattle.conn_core.proofs.Ends.{holder-is}
use Rattle.bind_conn.specs.Part.{Knows, IsOneBind, state}
use Rattle.bind_conn.specs.Told.{told_of}
use Rattle.bind_conn.specs.declared.part.BindPart.{BindPart}
use Rattle.bind_conn.specs.declared.told.Told.TheVariants.{More, Going, Done}
use Rattle.bind_conn.proofs.Known.{knows-from}
use Rattle.bind_conn.proofs.Meets.{alone, got-stays, got-goes, is-part, part-apart, more-row, more-stays, going, going-row, going-stays, done, done-row, done-goes}
use Rattle.bind_conn.proofs.Gots.{message-good, row-answered, row-good, answer_act}

-- The table, where its one row is answered or goes.

pub changed-is : (g : Row → Row) (id : ℕ) (rows : List Row) (r : Row) → rows ≡ r ∷ [] → (r.id == id) ≡ true → changed g id rows ≡ g r ∷ []
changed-is g id rows r e here = ap (changed g id) e ∙ ap (λ (b : Bool). cond b (g r ∷ []) (r ∷ [])) here

pub without-is : (id : ℕ) (rows : List Row) (r : Row) → rows ≡ r ∷ [] → (r.id == id) ≡ true → without id rows ≡ []
without-is id rows r e here = ap (without id) e ∙ ap (λ (b : Bool). cond b [] (r ∷ [])) here

same-id : (a b : ℕ) → (a == b) ≡ true → b ≡ a
same-id a b h = grind (arith, nat_tests, h)

pub finished-is : (id : ℕ) (t : Table) (r : Row) → row_of id t.rows ≡ Some r → t.rows ≡ r ∷ [] → (r.id == id) ≡ true → finished_at id t ≡ record t { rows = []; ids = with_freed (r.id ∷ []) t.ids }
finished-is id t r found e here =
    ap (λ (o : Option Row). let u : Table = elim o [ None ↦ t | Some x ↦ record t { rows = without id t.rows; ids = with_freed (id ∷ []) t.ids } ] in u) found
    ∙ ap (λ (l : List Row). record t { rows = l; ids = with_freed (id ∷ []) t.ids }) (without-is id t.rows r e here)
    ∙ ap (λ n. record t { rows = []; ids = with_freed (n ∷ []) t.ids }) (same-id r.id id here)

waits-same : (o : Option Kept) (x y : Row) → length (cond (is_none o) (x ∷ []) []) ≡ length (cond (is_none o) (y ∷ []) [])
waits-same None x y = refl
waits-same (Some k) x y = refl

pub touched-knows : (s : Settings) (b : BindPart) (w : Conn) (at id : ℕ) (r : Row) → row_of id b.core.table.rows ≡ Some r → w ≡ record b.core { moment = at; table = touched_at id at b.core.table } → IsTable w.table → Knows s b → Knows s (record b { core = w })
touched-knows s b w at id r found new table k =
    let a = alone id b.core.table.rows r k.steady.one found in
    let is : changed (answered_row at) id b.core.table.rows ≡ answered_row at r ∷ [] = changed-is (answered_row at) id b.core.table.rows r a.0 a.2 in
    let one : IsOneBind (changed (answered_row at) id b.core.table.rows) = subst IsOneBind (sym is) (a.1, refl) in
    let size : length (open_rows (changed (answered_row at) id b.core.table.rows)) ≡ length (open_rows b.core.table.rows) = ap (λ (l : List Row). length (open_rows l)) is ∙ waits-same r.kept (answered_row at r) r ∙ sym (ap (λ (l : List Row). length (open_rows l)) a.0) in
    let within = k.steady.sound.within in
    knows-from s b w at b.core.linked b.core.up b.core.down (touched_at id at b.core.table) b.holder b.lost new table refl k.steady.sound.begun one (omega (arith, size, within)) k

pub finish-knows : (s : Settings) (b : BindPart) (w : Conn) (at id : ℕ) (r : Row) (h : Option OpName) → row_of id b.core.table.rows ≡ Some r → w ≡ record b.core { moment = at; table = finished_at id b.core.table } → IsTable w.table → Knows s b → Knows s (record b { core = w; holder = h })
finish-knows s b w at id r h found new table k =
    let a = alone id b.core.table.rows r k.steady.one found in
    let fits = k.steady.sound.table.fits in
    knows-from s b w at b.core.linked b.core.up b.core.down (record b.core.table { rows = []; ids = with_freed (r.id ∷ []) b.core.table.ids }) h b.lost
    (new ∙ ap (λ (t : Table). record b.core { moment = at; table = t }) (finished-is id b.core.table r found a.0 a.2)) table refl k.steady.sound.begun tt (omega (arith, fits)) k

-- What is appended, and the state behind it.

part-fits : (f i : Bool) → i ≡ true → (f || i || false) ≡ true
part-fits true true h = refl
part-fits false true h = refl
part-fits f false h = absurd (let bad : false ≡ true = h in cc)

pub final-fits : (f i : Bool) → f ≡ true → (f || i || false) ≡ true
final-fits true i h = refl
final-fits false i h = absurd (let bad : false ≡ true = h in cc)

no-final : (f n : Bool) → f ≡ false → (f && n) ≡ false
no-final false n h = refl
no-final true n h = absurd (let bad : true ≡ false = h in cc)

pub coded : (f n : Bool) → n ≡ false → (f && n) ≡ false
coded f n h = grind (arith, nat_tests, h)

module _ (s : Settings) (b : BindPart) (o q : Outbox) (at id : ℕ) (rest : List ℕ) (r : Row) (op : OpName) (mark : Option Taken) (k : Knows s b) (found : row_of id b.core.table.rows ≡ Some r) (named : r.op ≡ op) (waits : r.kept ≡ None) where
  abbrev p : ConnectionState
  p = state b

  abbrev m : Message
  m = record { id = id; rest = rest }

  abbrev f : Bool
  f = is_final Bind rest

  abbrev i : Bool
  i = is_intermediate rest

  abbrev code : Option ℕ
  code = result_code rest

  pub only : (b.core.table.rows ≡ r ∷ []) × (r.kind ≡ Bind) × ((r.id == id) ≡ true)
  only = alone id b.core.table.rows r k.steady.one found

  pub picked : (x y z : Bool) → i ≡ x → has_code 14 rest ≡ y → keeps_back (up_row r) rest ≡ z → answered s p m ≡ answer_act s b.core b.holder b.lost m r only.0 at only.1 waits only.2 x y z
  picked x y z e g h =
      row-answered s b.core b.holder b.lost m r only.0 at only.1 waits only.2
      ∙ ap (λ t. answer_act s b.core b.holder b.lost m r only.0 at only.1 waits only.2 t (has_code 14 rest) (keeps_back (up_row r) rest)) e
      ∙ ap (λ t. answer_act s b.core b.holder b.lost m r only.0 at only.1 waits only.2 x t (keeps_back (up_row r) rest)) g
      ∙ ap (λ t. answer_act s b.core b.holder b.lost m r only.0 at only.1 waits only.2 x y t) h

  pub more-did : told_of r.ask_who rest ≡ More → q.entries.items ≡ o.entries.items ++ entries_of (Connection b.core.number) at (what.Got id rest ∷ []) → q.letters.items ≡ o.letters.items ++ reply op rest false None → Did s p at mark (message s p m) o q (state (record b { core = record b.core { moment = at; table = touched_at id at b.core.table } }))
  more-did told entries letters =
      let part = is-part at m r only.1 waits only.2 told in
      let a : Act = act [] (reply r.op rest false None) in
      let is : message s p m ≡ also (act (what.Got id rest ∷ []) []) a = message-good s b.core b.holder b.lost m r only.0 a (row-good s b.core b.holder b.lost m r only.0 at only.1 waits only.2 (part-fits f i part) (no-final f (is_none code) (part-apart at m r only.1 waits only.2 part))) (picked true (has_code 14 rest) (keeps_back (up_row r) rest) part refl refl) in
      subst (λ (x : Act). Did s p at mark x o q (state (record b { core = record b.core { moment = at; table = touched_at id at b.core.table } }))) (sym is) (record {
        entries = entries;
        letters = letters ∙ sym (ap (λ (n : OpName). o.letters.items ++ reply n rest false None) named);
        behind =
            ap (λ (l : List Row). record p { moment = at; rows = map up_row l }) (changed-is (answered_row at) id b.core.table.rows r only.0 only.2)
            ∙ sym (ap (λ (x : ConnectionState). record x { moment = at }) (got-stays b.core b.holder b.lost at m r only.0 (up_row (answered_row at r)) (more-row at m r only.1 waits only.2 told) (more-stays at m r only.1 waits only.2 told)));
      })

  pub going-did : told_of r.ask_who rest ≡ Going → q.entries.items ≡ o.entries.items ++ entries_of (Connection b.core.number) at (what.Got id rest ∷ []) → q.letters.items ≡ o.letters.items ++ reply op rest true None → Did s p at mark (message s p m) o q (state (record b { core = record b.core { moment = at; table = finished_at id b.core.table } }))
  going-did told entries letters =
      let g = going at m r only.1 waits only.2 told in
      let a : Act = act [] (reply r.op rest true None) in
      let is : message s p m ≡ also (act (what.Got id rest ∷ []) []) a = message-good s b.core b.holder b.lost m r only.0 a (row-good s b.core b.holder b.lost m r only.0 at only.1 waits only.2 (final-fits f i g.0.final) (coded f (is_none code) g.0.coded)) (picked false true (keeps_back (up_row r) rest) g.0.part g.1 refl) in
      subst (λ (x : Act). Did s p at mark x o q (state (record b { core = record b.core { moment = at; table = finished_at id b.core.table } }))) (sym is) (record {
        entries = entries;
        letters = letters ∙ sym (ap (λ (n : OpName). o.letters.items ++ reply n rest true None) named);
        behind =
            ap (λ (t : Table). state (record b { core = record b.core { moment = at; table = t } })) (finished-is id b.core.table r found only.0 only.2)
            ∙ sym (ap (λ (x : ConnectionState). record x { moment = at }) (got-goes b.core b.holder b.lost at m r only.0 false (going-row at m r only.1 waits only.2 told) (going-stays at m r only.1 waits only.2 told)));
      })

  pub done-did : told_of r.ask_who rest ≡ Done → q.entries.items ≡ o.entries.items ++ entries_of (Connection b.core.number) at (what.Got id rest ∷ []) → q.letters.items ≡ o.letters.items ++ (reply op rest true None ++ holder_letters b.core.number b.holder) → Did s p at mark (message s p m) o q (state (record b { core = record b.core { moment = at; table = finished_at id b.core.table }; holder = None }))
  done-did told entries letters =
      let g = done at m r only.1 waits only.2 told in
      let a : Act = act [] (reply r.op rest true None ++ holder_ended p) in
      let is : message s p m ≡ also (act (what.Got id rest ∷ []) []) a = message-good s b.core b.holder b.lost m r only.0 a (row-good s b.core b.holder b.lost m r only.0 at only.1 waits only.2 (final-fits f i g.0.final) (coded f (is_none code) g.0.coded)) (picked false false false g.0.part g.1 g.2) in
      subst (λ (x : Act). Did s p at mark x o q (state (record b { core = record b.core { moment = at; table = finished_at id b.core.table }; holder = None }))) (sym is) (record {
        entries = entries;
        letters = letters ∙ sym (ap (λ (n : OpName). o.letters.items ++ (reply n rest true None ++ holder_letters b.core.number b.holder)) named) ∙ sym (ap (λ x. o.letters.items ++ (reply r.op rest true None ++ x)) (holder-is b.core None b.lost [] b.holder));
        behind =
            ap (λ (t : Table). state (record b { core = record b.core { moment = at; table = t }; holder = None })) (finished-is id b.core.table r found only.0 only.2)
            ∙ sym (ap (λ (x : ConnectionState). record x { moment = at }) (got-goes b.core b.holder b.lost at m r only.0 true (done-row at m r only.1 waits only.2 told) (done-goes at m r only.1 waits only.2 told)));
      })
