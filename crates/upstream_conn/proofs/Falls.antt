-- A message that takes the connection down.
use Rattle.std.proofs.Common.{◌≡◌, ℕ, zero, suc, ◌+◌, ◌*◌, ◌≤◌, arith, true, false, List, [], ◌∷◌, ◌++◌, length, Option, Some, None, refl, ap, ◌∙◌, sym, subst}
use Rattle.ldap_spec.specs.Messages.{Message}
use Rattle.ldap_spec.specs.Kinds.{fits, is_final}
use Rattle.lload_names.specs.declared.names.ConnKind.TheVariants.{Regular}
use Rattle.lload_names.specs.declared.names.EndWhy.{EndWhy}
use Rattle.lload_names.specs.declared.names.EndWhy.TheVariants.{Bad as BadEnd}
use Rattle.lload_names.specs.declared.names.PartName.TheVariants.{Up as Connection}
use Rattle.lload_names.specs.declared.names.What.TheVariants as what
use Rattle.lload_spec.specs.Settings.{Settings, is_of_kind}
use Rattle.id_table.specs.declared.row.Row.{Row}
use Rattle.id_table.specs.Rows.{row_of, Rises}
use Rattle.id_table.specs.Table.{Table, IsTable}
use Rattle.part_spec.specs.Marked.{Taken}
use Rattle.part_spec.specs.Inputs.{Act, act, also, entries_of}
use Rattle.part_spec.specs.ConnectionState.{ConnectionState, OwnWait as UpWait, with_got}
use Rattle.part_spec.specs.ConnectionTurn.{goes_down}
use Rattle.part_spec.specs.RegularTurn.{message}
use Rattle.outbox.specs.declared.outbox.Outbox.{Outbox}
use Rattle.conn_core.specs.Conn.{Conn, state_of}
use Rattle.conn_core.specs.Kept.{ArePlain, EachOnce, open_rows}
use Rattle.conn_core.specs.Closing.{closing_letters}
use Rattle.conn_core.specs.Did.{Did}
use Rattle.conn_core.proofs.Plain.{none-below}
use Rattle.conn_core.proofs.Ends.{closing-is}
use Rattle.upstream_conn.specs.Part.{Knows, OwnIsGiven, state, closed, up_wait, under_own}
use Rattle.upstream_conn.specs.Told.{told_of}
use Rattle.upstream_conn.specs.declared.part.OwnWait.{OwnWait}
use Rattle.upstream_conn.specs.declared.part.UpstreamPart.{UpstreamPart}
use Rattle.upstream_conn.specs.declared.told.Told.TheVariants.{Unfit}
use Rattle.upstream_conn.proofs.Messages.{told-unfit}
use Rattle.upstream_conn.proofs.Meets.{message-bad, unfit-bad, got-unfit}

-- what is appended, and the state behind it
pub fall-did : (s : Settings) (u v : UpstreamPart) (o q : Outbox) (at id : ℕ) (rest : List ℕ) (why : EndWhy) (own : Option OwnWait) (mark : Option Taken) → with_got at (record { id = id; rest = rest }) (state u) ≡ state_of u.core (up_wait own) None None u.waiting → message (state u) at (record { id = id; rest = rest }) ≡ also (act (what.Got id rest ∷ []) []) (goes_down (state u) why) → q.entries.items ≡ o.entries.items ++ entries_of (Connection u.core.number) at (what.Got id rest ∷ what.Down why ∷ []) → q.letters.items ≡ o.letters.items ++ closing_letters u.core.number u.core.kind u.core.table.rows None → closed u at own v → Did s (state u) at mark (message (state u) at (record { id = id; rest = rest })) o q (state v)
fall-did s u v o q at id rest why own mark got is entries letters end =
    subst (λ (a : Act). Did s (state u) at mark a o q (state v)) (sym is) (record {
      entries = entries;
      letters = letters ∙ ap (λ l. o.letters.items ++ l) (closing-is u.core (up_wait u.own) None u.waiting None);
      behind =
          ap (λ (w : Conn). state_of w (up_wait v.own) None None v.waiting) end.0
          ∙ ap (λ (w : Option OwnWait). state_of (record u.core { moment = at; down = true; table = record u.core.table { rows = [] } }) (up_wait w) None None v.waiting) end.1
          ∙ ap (λ (w : List ℕ). state_of (record u.core { moment = at; down = true; table = record u.core.table { rows = [] } }) (up_wait own) None None w) end.2
          ∙ sym (ap (λ (x : ConnectionState). record x { moment = at; down = true; rows = []; holder = None; lost = x.holder }) got);
    })

-- what is known behind it
pub fall-knows : (s : Settings) (u v : UpstreamPart) (at : ℕ) (own : Option OwnWait) → closed u at own v → v.own_bind ≡ u.own_bind → IsTable v.core.table → OwnIsGiven u.core own → (u.core.linked ≡ false → own ≡ None) → Knows s u → Knows s v
fall-knows s u v at own end request table given fresh k =
    let core : v.core ≡ record u.core { moment = at; down = true; table = record u.core.table { rows = [] } } = end.0 in
    let the_table : v.core.table ≡ record u.core.table { rows = [] } = ap (λ (w : Conn). w.table) core in
    record {
      fits = record {
        agrees = record { limit = k.fits.agrees.limit ∙ sym (ap (λ (w : Conn). w.table.limit) core); timeout = k.fits.agrees.timeout ∙ sym (ap (λ (w : Conn). w.timeout) core) };
        placed = subst (λ (n : ℕ). is_of_kind s Regular n ≡ true) (sym (ap (λ (w : Conn). w.number) core)) k.fits.placed;
        request = λ h. k.fits.request (sym (ap (λ (w : Conn). w.linked) core) ∙ h) ∙ sym request;
      };
      steady = record {
        kind = ap (λ (w : Conn). w.kind) core ∙ k.steady.kind;
        sound = record {
          table = table;
          begun = λ h. ap (λ (t : Table). t.ids.next) the_table ∙ k.steady.sound.begun (sym (ap (λ (w : Conn). w.linked) core) ∙ h);
          once = subst (λ (t : Table). EachOnce t.rows) (sym the_table) tt;
          within = subst (λ (t : Table). length (open_rows t.rows) + t.ids.next ≤ 2 * t.limit + 1) (sym the_table) (let fits = k.steady.sound.table.fits in omega (arith, fits));
        };
        plain = subst (λ (t : Table). ArePlain t.rows) (sym the_table) tt;
        own = subst (λ (x : Option OwnWait). OwnIsGiven v.core x) (sym end.1) (subst (λ (w : Conn). OwnIsGiven w own) (sym core) (still own given));
        fresh = λ h. end.1 ∙ fresh (sym (ap (λ (w : Conn). w.linked) core) ∙ h);
        unlinked = λ h. ap (λ (w : Conn). w.up) core ∙ k.steady.unlinked (sym (ap (λ (w : Conn). w.linked) core) ∙ h);
        idle = λ h. ap (λ (t : Table). t.rows) the_table;
      };
    }
  where
    still : (x : Option OwnWait) → OwnIsGiven u.core x → OwnIsGiven (record u.core { moment = at; down = true; table = record u.core.table { rows = [] } }) x
    still None h = h
    still (Some w) h = h

-- a message that can't answer the operation that it is under
pub unfit-is : (u : UpstreamPart) (at id : ℕ) (rest : List ℕ) (r : Row) → ArePlain u.core.table.rows → Rises 1 u.core.table.rows u.core.table.ids.next → under_own id u.own ≡ false → row_of id u.core.table.rows ≡ Some r → told_of r.kind rest ≡ Unfit → (with_got at (record { id = id; rest = rest }) (state u) ≡ state u) × (message (state u) at (record { id = id; rest = rest }) ≡ also (act (what.Got id rest ∷ []) []) (goes_down (state u) BadEnd))
unfit-is u at id rest r plain rises other found told =
    let m : Message = record { id = id; rest = rest } in (
      got-unfit u.core u.own u.waiting at m plain other r found rises told,
      message-bad u.core u.own u.waiting at m plain other (unfit-bad u.core u.own u.waiting at m plain other r found (given id refl) (told-unfit (fits r.kind rest) (is_final r.kind rest) told)),
    )
  where
    given : (n : ℕ) → n ≡ id → 1 ≤ n
    given zero e = absurd (let none : row_of id u.core.table.rows ≡ None = none-below id 1 u.core.table.ids.next u.core.table.rows rises (omega (arith, e)) in let bad : ◌≡◌ {A = Option Row} None (Some r) = sym none ∙ found in cc)
    given (suc n) e = omega arith
