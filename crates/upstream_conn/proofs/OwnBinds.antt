-- A link that begins with the own Bind.
use Rattle.std.proofs.Common.{◌≡◌, ℕ, suc, ◌+◌, arith, max, Bool, true, false, ◌==◌, ◌&&◌, if◌then◌else◌, List, [], ◌∷◌, ◌++◌, length, map, Option, Some, None, refl, ap, ◌∙◌, sym, subst}
use Rattle.std.proofs.lemmas.Bool.Decides.{nat_tests}
use Rattle.std.proofs.lemmas.Slice.Eq.{bytes_eq-Decides}
use Rattle.std.specs.Prelude.{flat_map, is_some}
use Rattle.ldap_spec.specs.Bodies.{simple_bind}
use Rattle.lload_names.specs.declared.names.Entry.{Entry}
use Rattle.lload_names.specs.declared.names.PartName.TheVariants.{Up as Connection}
use Rattle.lload_names.specs.declared.names.What.TheVariants as what
use Rattle.lload_spec.specs.Lists.{passes}
use Rattle.lload_spec.specs.Settings.{Settings, OwnBind}
use Rattle.lload_spec.specs.Entries.{is_own}
use Rattle.lload_spec.specs.Identifiers.{with_own_id}
use Rattle.lload_spec.specs.OneEach.{begins_with_bind, is_own_bind}
use Rattle.id_table.specs.declared.row.Row.{Row}
use Rattle.id_table.specs.Table.{IsTable, used_up, may_own, passes_limit}
use Rattle.part_spec.specs.Marked.{Taken}
use Rattle.part_spec.specs.Inputs.{Act, act, also, entries_of, marked_by}
use Rattle.part_spec.specs.ConnectionState.{ConnectionState, behind_own, is_first_bind, step_connections}
use Rattle.part_spec.specs.ConnectionTurn.{comes_up, giving, retires}
use Rattle.part_spec.specs.RegularTurn.{link_up}
use Rattle.outbox.specs.declared.outbox.Outbox.{Outbox}
use Rattle.conn_core.specs.Conn.{Conn}
use Rattle.conn_core.specs.Did.{Did}
use Rattle.conn_core.specs.Kept.{up_row, open_rows}
use Rattle.conn_core.specs.Closing.{given_whats, retired_letters}
use Rattle.conn_core.proofs.Giving.{giving-is, retires-is, used-passes}
use Rattle.upstream_conn.specs.Part.{Knows, state}
use Rattle.upstream_conn.specs.declared.part.UpstreamPart.{UpstreamPart}

asked-own : (o : Option OwnBind) (rest : List ℕ) → (let x : Option (List ℕ) = elim o [ None ↦ None | Some own ↦ Some (simple_bind own.dn own.credentials) ] in x) ≡ Some rest → (own : OwnBind) × (o ≡ Some own) × (simple_bind own.dn own.credentials ≡ rest)
asked-own None rest h = absurd (let bad : ◌≡◌ {A = Option (List ℕ)} None (Some rest) = h in cc)
asked-own (Some own) rest h = (own, refl, cc)

all-three : (a b c : Bool) → a ≡ true → b ≡ true → c ≡ true → (a && b && c) ≡ true
all-three a b c h k l = grind (arith, h, k, l)

module _ (s : Settings) (u : UpstreamPart) (at : ℕ) (rest : List ℕ) (own : OwnBind) (k : Knows s u) (unlinked : u.core.linked ≡ false) (asked : s.own_bind ≡ Some own) (spelt : simple_bind own.dn own.credentials ≡ rest) where
  abbrev p : ConnectionState
  p = record (state u) { moment = at; linked = true }

  abbrev next : ℕ
  next = u.core.table.ids.next

  abbrev e : Entry
  e = record { part = Connection u.core.number; at = at; what = what.Own next rest }

  the-own : is_own_bind s e ≡ true
  the-own = ap (λ (o : Option OwnBind). passes (λ x. is_own (simple_bind x.dn x.credentials) e) o) asked ∙ (bytes_eq-Decides rest (simple_bind own.dn own.credentials)).1 (sym spelt)

  first : is_first_bind s p e ≡ true
  first = all-three (begins_with_bind s u.core.number) (next == 1) (is_own_bind s e) (ap (λ b. b && is_some s.own_bind) k.fits.placed ∙ ap is_some asked) (ap (λ n. n == 1) (k.steady.sound.begun unlinked)) the-own

  none-live : u.core.table.rows ≡ []
  none-live = k.steady.idle (k.steady.unlinked unlinked)

  none-behind : flat_map (behind_own (record { id = next; rest = rest })) (map up_row u.core.table.rows) ≡ map up_row u.core.table.rows
  none-behind = ap (λ (l : List Row). flat_map (behind_own (record { id = next; rest = rest })) (map up_row l)) none-live ∙ ap (map up_row) (sym none-live)

  pub bind-step : (mark : Option Taken) (b : Bool) → passes_limit (used_up u.core.table) ≡ (if b then true else passes_limit u.core.table) → state (record u { core = record u.core { moment = at; linked = true; table = used_up u.core.table }; own = Some (record { id = next; at = at }) }) ≡ step_connections s (state u) (marked_by mark (entries_of (Connection u.core.number) at (what.Linked ∷ given_whats b (what.Own next rest))))
  bind-step mark true t =
      ap (λ r. record p { retired = r; ids = with_own_id next u.core.table.ids; own_bind = Some (record { id = next; at = at }) }) t
      ∙ ap (λ l. record p { retired = true; ids = with_own_id next u.core.table.ids; rows = l; own_bind = Some (record { id = next; at = at }) }) (sym none-behind)
      ∙ ap (λ (f : Bool). record p { retired = true; ids = with_own_id next u.core.table.ids; rows = flat_map (behind_own (record { id = next; rest = rest })) p.rows; own_bind = if f then Some (record { id = next; at = at }) else p.own_bind }) (sym first)
  bind-step mark false t =
      ap (λ r. record p { retired = r; ids = with_own_id next u.core.table.ids; own_bind = Some (record { id = next; at = at }) }) t
      ∙ ap (λ l. record p { ids = with_own_id next u.core.table.ids; rows = l; own_bind = Some (record { id = next; at = at }) }) (sym none-behind)
      ∙ ap (λ (f : Bool). record p { ids = with_own_id next u.core.table.ids; rows = flat_map (behind_own (record { id = next; rest = rest })) p.rows; own_bind = if f then Some (record { id = next; at = at }) else p.own_bind }) (sym first)

pub bind-did : (s : Settings) (u : UpstreamPart) (o q : Outbox) (at id : ℕ) (rest : List ℕ) (mark : Option Taken) → Knows s u → u.core.linked ≡ false → u.own_bind ≡ Some rest → id ≡ u.core.table.ids.next → q.entries.items ≡ o.entries.items ++ entries_of (Connection u.core.number) at (what.Linked ∷ given_whats (id == u.core.table.limit) (what.Own id rest)) → q.letters.items ≡ o.letters.items ++ retired_letters u.core.number (id == u.core.table.limit) → Did s (state u) at mark (link_up s (state u)) o q (state (record u { core = record u.core { moment = at; linked = true; table = used_up u.core.table }; own = Some (record { id = id; at = at }) }))
bind-did s u o q at id rest mark k unlinked request given entries letters =
    let next : ℕ = u.core.table.ids.next in
    let limit : ℕ = u.core.table.limit in
    let own = asked-own s.own_bind rest (k.fits.request unlinked ∙ request) in
    let by : OwnBind → Act = λ x. act (giving s next (what.Own next (simple_bind x.dn x.credentials))) (retires s (state u) next) in
    let is : link_up s (state u) ≡ also (act (what.Linked ∷ []) []) (by own.0) = ap (λ (x : Option OwnBind). let a : Act = elim x [ None ↦ comes_up (state u) | Some y ↦ by y ] in also (act (what.Linked ∷ []) []) a) own.1 in
    let whats : (link_up s (state u)).whats ≡ what.Linked ∷ given_whats (next == limit) (what.Own next rest) = ap (λ (x : Act). x.whats) is ∙ ap (λ l. what.Linked ∷ l) (ap (λ l. giving s next (what.Own next l)) own.2 ∙ giving-is s next limit (what.Own next rest) k.fits.agrees.limit) in
    let told : (link_up s (state u)).letters ≡ retired_letters u.core.number (next == limit) = ap (λ (x : Act). x.letters) is ∙ retires-is s (state u) next limit k.fits.agrees.limit in
    record {
      entries = entries ∙ ap (λ n. o.entries.items ++ entries_of (Connection u.core.number) at (what.Linked ∷ given_whats (n == limit) (what.Own n rest))) given ∙ sym (ap (λ ws. o.entries.items ++ entries_of (Connection u.core.number) at ws) whats);
      letters = letters ∙ ap (λ n. o.letters.items ++ retired_letters u.core.number (n == limit)) given ∙ sym (ap (λ l. o.letters.items ++ l) told);
      behind =
          ap (λ n. state (record u { core = record u.core { moment = at; linked = true; table = used_up u.core.table }; own = Some (record { id = n; at = at }) })) given
          ∙ bind-step s u at rest own.0 k unlinked own.1 own.2 mark (next == limit) (used-passes u.core.table)
          ∙ sym (ap (λ ws. step_connections s (state u) (marked_by mark (entries_of (Connection u.core.number) at ws))) whats);
    }

-- before it is linked, an identifier is left
pub first-left : (s : Settings) (u : UpstreamPart) → Knows s u → u.core.linked ≡ false → may_own u.core.table ≡ true
first-left s u k h = let one = k.steady.sound.begun h in let least = k.steady.sound.table.least in grind (arith, nat_tests, one, least)

pub bind-knows : (s : Settings) (u : UpstreamPart) (w : Conn) (at id : ℕ) → u.core.linked ≡ false → id ≡ u.core.table.ids.next → w ≡ record u.core { moment = at; linked = true; table = used_up u.core.table } → IsTable w.table → Knows s u → Knows s (record u { core = w; own = Some (record { id = id; at = at }) })
bind-knows s u w at id unlinked given new table k =
    let none : u.core.table.rows ≡ [] = k.steady.idle (k.steady.unlinked unlinked) in
    let one = k.steady.sound.begun unlinked in
    let least = k.steady.sound.table.least in
    let size : length (open_rows u.core.table.rows) ≡ 0 = ap (λ (l : List Row). length (open_rows l)) none in
    let more : max u.core.table.ids.next (suc u.core.table.ids.next) ≡ u.core.table.ids.next + 1 = omega arith in
    subst (λ (x : Conn). Knows s (record u { core = x; own = Some (record { id = id; at = at }) })) (sym new) (record {
      fits = record { agrees = record { limit = k.fits.agrees.limit; timeout = k.fits.agrees.timeout }; placed = k.fits.placed; request = λ h. absurd (let bad : true ≡ false = h in cc) };
      steady = record {
        kind = k.steady.kind;
        sound = record {
          table = subst (λ (x : Conn). IsTable x.table) new table;
          begun = λ h. absurd (let bad : true ≡ false = h in cc);
          once = k.steady.sound.once;
          within = omega (arith, size, one, least, more);
        };
        plain = k.steady.plain;
        own = (omega (arith, given, one), k.steady.unlinked unlinked);
        fresh = λ h. absurd (let bad : true ≡ false = h in cc);
        unlinked = λ h. absurd (let bad : true ≡ false = h in cc);
        idle = λ h. none;
      };
    })
