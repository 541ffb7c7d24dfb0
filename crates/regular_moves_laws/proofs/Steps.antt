-- What stands of a regular connection, behind an entry that leaves its rows as they are.
use Rattle.std.proofs.Common.{◌≡◌, ℕ, ◌<◌, Bool, true, false, [], ◌∷◌, ◌++◌, refl, ap, ◌∙◌, sym}
use Rattle.std.specs.Prelude.{Some, None, is_some}
use Rattle.lload_names.specs.declared.names.OpName.{OpName}
use Rattle.lload_names.specs.declared.names.EndWhy.{EndWhy}
use Rattle.lload_names.specs.declared.names.What.{What}
use Rattle.lload_names.specs.declared.names.What.TheVariants as what
use Rattle.lload_spec.specs.Settings.{Settings}
use Rattle.part_spec.specs.ConnectionState.{ConnectionState}
use Rattle.part_spec.specs.Fit.{ConnectionLedger, step_connection_ledger}
use Rattle.part_spec.specs.Marked.{Taken}
use Rattle.move_laws.specs.World.{Conn, put}
use Rattle.stands_laws.specs.Books.{Book}
use Rattle.stands_laws.specs.RegularStands.{LinkStands, RegularTaken, RegularStands}
use Rattle.connection_laws.proofs.Pieces.{marked_up}

-- one that isn't linked did nothing
pub is_linked : (s : Settings) (u : ℕ) (p : ConnectionState) (v : Conn) → LinkStands s u p v → (p.up ≡ true) → p.linked ≡ true
is_linked s u p v h e = go p.linked refl
  where
    go : (t : Bool) → p.linked ≡ t → p.linked ≡ true
    go true i = i
    go false i = absurd (let bad : true ≡ false = sym e ∙ (h.fresh i).0 in cc)

-- It comes up.
pub stands_up : (s : Settings) (b : Book) (u n at : ℕ) (l : ConnectionLedger) (v : Conn) → RegularStands s b u l v → l.state.linked ≡ true → l.state.own_bind ≡ None → RegularStands s b u (step_connection_ledger s l (marked_up n at None what.Up)) (record v { up = true })
stands_up s b u n at l v h linked own = record {
  link = record {
    number = h.link.number;
    kind = h.link.kind;
    up = refl;
    retired = h.link.retired;
    down = h.link.down;
    placed = h.link.placed;
    fresh = λ e. absurd (let bad : true ≡ false = sym linked ∙ e in cc);
    limit = h.link.limit;
    first = h.link.first;
    began = h.link.began;
  };
  taken = record { forwards = h.taken.forwards; drops = h.taken.drops; pauses = h.taken.pauses };
  holder = h.holder;
  nobody = h.nobody;
  now = h.now;
  stands = λ e. let r = h.stands e in record { ops = r.ops; each = r.each; apart = r.apart; free = r.free; begun = r.begun; waits = λ w. absurd (let bad : true ≡ false = sym w ∙ ap is_some own in cc); unused = λ w. absurd (let bad : true ≡ false = w in cc) };
  fallen = λ e. let r = h.fallen e in record { rows = r.rows; ops = r.ops };
}

-- It retires.
pub stands_retired : (s : Settings) (b : Book) (u n at : ℕ) (l : ConnectionLedger) (v : Conn) → RegularStands s b u l v → l.state.linked ≡ true → s.id_limit < l.state.ids.next → RegularStands s b u (step_connection_ledger s l (marked_up n at None what.Retired)) (record v { retired = true })
stands_retired s b u n at l v h linked given = record {
  link = record {
    number = h.link.number;
    kind = h.link.kind;
    up = h.link.up;
    retired = refl;
    down = h.link.down;
    placed = h.link.placed;
    fresh = λ e. absurd (let bad : true ≡ false = sym linked ∙ e in cc);
    limit = λ _. given;
    first = h.link.first;
    began = h.link.began;
  };
  taken = record { forwards = h.taken.forwards; drops = h.taken.drops; pauses = h.taken.pauses };
  holder = h.holder;
  nobody = h.nobody;
  now = h.now;
  stands = λ e. let r = h.stands e in record { ops = r.ops; each = r.each; apart = r.apart; free = r.free; begun = r.begun; waits = r.waits; unused = r.unused };
  fallen = λ e. let r = h.fallen e in record { rows = r.rows; ops = r.ops };
}

-- An operation is missed, or what was to be ended isn't there; the row is as it was.
pub stands_missed : (s : Settings) (b : Book) (u n at : ℕ) (op : OpName) (t : Taken) (l : ConnectionLedger) (v w : Conn) → RegularStands s b u l v → RegularTaken (l.taken ++ t ∷ []) w → w.up ≡ v.up → w.retired ≡ v.retired → w.down ≡ v.down → w.holder ≡ None → w.now ≡ None → ((c k : ℕ) → v.rows c k ≡ w.rows c k)
    → RegularStands s b u (step_connection_ledger s l (marked_up n at (Some t) (what.Missed op))) w
stands_missed s b u n at op t l v w h taken up retired down holder now rows = record {
  link = record {
    number = h.link.number;
    kind = h.link.kind;
    up = h.link.up ∙ sym up;
    retired = h.link.retired ∙ sym retired;
    down = h.link.down ∙ sym down;
    placed = h.link.placed;
    fresh = h.link.fresh;
    limit = h.link.limit;
    first = h.link.first;
    began = h.link.began;
  };
  taken = taken;
  holder = refl;
  nobody = holder;
  now = now;
  stands = λ e. let r = h.stands e in record { ops = λ c k. r.ops c k ∙ rows c k; each = r.each; apart = r.apart; free = r.free; begun = r.begun; waits = r.waits; unused = r.unused };
  fallen = λ e. let r = h.fallen e in record { rows = r.rows; ops = λ c k. sym (rows c k) ∙ r.ops c k };
}

-- There is nothing to end; or it is paused, or goes on.
pub stands_idle : (s : Settings) (b : Book) (u n at : ℕ) (op : OpName) (t : Taken) (l : ConnectionLedger) (v w : Conn) → RegularStands s b u l v → RegularTaken (l.taken ++ t ∷ []) w → w.up ≡ v.up → w.retired ≡ v.retired → w.down ≡ v.down → w.holder ≡ None → w.now ≡ None → ((c k : ℕ) → v.rows c k ≡ w.rows c k)
    → RegularStands s b u (step_connection_ledger s l (marked_up n at (Some t) (what.Idle op))) w
stands_idle s b u n at op t l v w h taken up retired down holder now rows = record {
  link = record {
    number = h.link.number;
    kind = h.link.kind;
    up = h.link.up ∙ sym up;
    retired = h.link.retired ∙ sym retired;
    down = h.link.down ∙ sym down;
    placed = h.link.placed;
    fresh = h.link.fresh;
    limit = h.link.limit;
    first = h.link.first;
    began = h.link.began;
  };
  taken = taken;
  holder = h.holder;
  nobody = holder;
  now = now;
  stands = λ e. let r = h.stands e in record { ops = λ c k. r.ops c k ∙ rows c k; each = r.each; apart = r.apart; free = r.free; begun = r.begun; waits = r.waits; unused = r.unused };
  fallen = λ e. let r = h.fallen e in record { rows = r.rows; ops = λ c k. sym (rows c k) ∙ r.ops c k };
}

abbrev pub signal_what : ℕ → Bool → What
signal_what c true = what.Paused c
signal_what c false = what.Resumed c

pub stands_signal : (s : Settings) (b : Book) (u n at c : ℕ) (pause : Bool) (t : Taken) (l : ConnectionLedger) (v : Conn) → RegularStands s b u l v → RegularTaken (l.taken ++ t ∷ []) (record v { paused = put v.paused c pause }) → RegularStands s b u (step_connection_ledger s l (marked_up n at (Some t) (signal_what c pause))) (record v { paused = put v.paused c pause })
stands_signal s b u n at c true t l v h taken = record {
  link = record { number = h.link.number; kind = h.link.kind; up = h.link.up; retired = h.link.retired; down = h.link.down; placed = h.link.placed; fresh = h.link.fresh; limit = h.link.limit; first = h.link.first; began = h.link.began };
  taken = taken;
  holder = h.holder;
  nobody = h.nobody;
  now = h.now;
  stands = λ e. let r = h.stands e in record { ops = r.ops; each = r.each; apart = r.apart; free = r.free; begun = r.begun; waits = r.waits; unused = r.unused };
  fallen = λ e. let r = h.fallen e in record { rows = r.rows; ops = r.ops };
}
stands_signal s b u n at c false t l v h taken = record {
  link = record { number = h.link.number; kind = h.link.kind; up = h.link.up; retired = h.link.retired; down = h.link.down; placed = h.link.placed; fresh = h.link.fresh; limit = h.link.limit; first = h.link.first; began = h.link.began };
  taken = taken;
  holder = h.holder;
  nobody = h.nobody;
  now = h.now;
  stands = λ e. let r = h.stands e in record { ops = r.ops; each = r.each; apart = r.apart; free = r.free; begun = r.begun; waits = r.waits; unused = r.unused };
  fallen = λ e. let r = h.fallen e in record { rows = r.rows; ops = r.ops };
}

-- It goes down, and nothing is live.
pub stands_down : (s : Settings) (b : Book) (u n at : ℕ) (why : EndWhy) (l : ConnectionLedger) (v w : Conn) → LinkStands s u l.state v → RegularTaken l.taken v → l.state.linked ≡ true → w.up ≡ v.up → w.retired ≡ v.retired → w.down ≡ true → w.taken ≡ v.taken → w.dropped ≡ v.dropped → w.paused ≡ v.paused → w.holder ≡ None → w.now ≡ None → ((c k : ℕ) → w.rows c k ≡ false)
    → RegularStands s b u (step_connection_ledger s l (marked_up n at None (what.Down why))) w
stands_down s b u n at why l v w link letters linked up retired down taken dropped paused holder now rows = record {
  link = record {
    number = link.number;
    kind = link.kind;
    up = link.up ∙ sym up;
    retired = link.retired ∙ sym retired;
    down = sym down;
    placed = link.placed;
    fresh = λ e. absurd (let bad : true ≡ false = sym linked ∙ e in cc);
    limit = link.limit;
    first = link.first;
    began = link.began;
  };
  taken = record {
    forwards = λ c k. letters.forwards c k ∙ ap (λ (f : ℕ → ℕ → Bool). f c k) (sym taken);
    drops = λ c k e d. letters.drops c k (ap (λ (f : ℕ → ℕ → Bool). f c k) (sym taken) ∙ e) (ap (λ (f : ℕ → ℕ → Bool). f c k) (sym dropped) ∙ d);
    pauses = λ c. letters.pauses c ∙ ap (λ (f : ℕ → Bool). f c) (sym paused);
  };
  holder = refl;
  nobody = holder;
  now = now;
  stands = λ e. absurd (let bad : true ≡ false = e in cc);
  fallen = λ e. record { rows = refl; ops = rows };
}
