-- What stands of a bind connection behind an entry.
use Rattle.std.proofs.Common.{◌≡◌, ℕ, ◌<◌, ◌≤◌, Bool, true, false, ◌&&◌, ◌||◌, not, if◌then◌else◌, List, [], ◌∷◌, ◌++◌, refl, ap, ◌∙◌, sym, subst, arith}
use Rattle.std.specs.Prelude.{Option, Some, None, is_some, filter, flat_map}
use Rattle.std.specs.List.{list_any}
use Rattle.ldap_spec.specs.Messages.{Message}
use Rattle.lload_names.specs.declared.names.ConnKind.TheVariants.{Regular, Bind as BindKind}
use Rattle.lload_names.specs.declared.names.EndWhy.{EndWhy}
use Rattle.lload_names.specs.declared.names.OpName.{OpName}
use Rattle.lload_names.specs.declared.names.What.TheVariants as what
use Rattle.lload_spec.specs.Identifiers.{Ids, id_for, with_freed}
use Rattle.lload_spec.specs.OneEach.{begins_with_bind}
use Rattle.lload_spec.specs.Settings.{Settings, is_kind, is_of_kind, place_at}
use Rattle.part_spec.specs.ConnectionState.{ConnectionState, UpRow, behind_message, freed_id, is_under_own, kind_at, lets_go, step_connection}
use Rattle.part_spec.specs.Fit.{ConnectionLedger, step_connection_ledger}
use Rattle.part_spec.specs.Marked.{Taken}
use Rattle.move_laws.specs.World.{Op, Conn, is}
use Rattle.stands_laws.specs.Books.{Book}
use Rattle.stands_laws.specs.Lists.{Each}
use Rattle.stands_laws.specs.RegularStands.{LinkStands}
use Rattle.stands_laws.specs.BindStands.{BindTaken, BindRows, BindStands, name_of}
use Rattle.connection_laws.proofs.ConnectionSays.{got_next}
use Rattle.connection_laws.proofs.Pieces.{marked_up}
use Rattle.bind_laws.proofs.BindShare.{begins_alone}
use Rattle.bind_laws.proofs.Meets.{not_own}

-- one that is up, retired or down is linked
pub linked_by : (s : Settings) (u : ℕ) (p : ConnectionState) (v : Conn) → LinkStands s u p v → (p.up || (p.retired || p.down)) ≡ true → p.linked ≡ true
linked_by s u p v h e = go p.linked refl
  where
    go : (t : Bool) → p.linked ≡ t → p.linked ≡ true
    go true i = i
    go false i = let f = h.fresh i in absurd (let bad : false ≡ true = sym (λ j. f.0 j || (f.1.0 j || f.1.1 j)) ∙ e in cc)

-- numbers above 0
abbrev pub AreAbove : List ℕ → Type 0
AreAbove ns = Each (λ n. 0 < n) ns

pub above_more : (ms ns : List ℕ) → AreAbove ms → AreAbove ns → AreAbove (ms ++ ns)
above_more [] ns h k = k
above_more (m ∷ ms) ns h k = (h.0, above_more ms ns h.1 k)

pub above_filter : (t : ℕ → Bool) (ns : List ℕ) → AreAbove ns → AreAbove (filter t ns)
above_filter t [] h = tt
above_filter t (n ∷ ns) h = go (t n) h.0 (above_filter t ns h.1)
  where
    go : (b : Bool) → 0 < n → AreAbove (filter t ns) → AreAbove (if b then n ∷ filter t ns else filter t ns)
    go true m k = (m, k)
    go false m k = k

pub above_id : (ids : Ids) → 0 < ids.next → AreAbove ids.free → 0 < id_for ids
above_id ids next free = go ids.free free
  where
    go : (ns : List ℕ) → AreAbove ns → 0 < (elim ns [ [] ↦ ids.next | n ∷ ms ↦ n ])
    go [] h = next
    go (n ∷ ns) h = h.0

freed_above : (at : ℕ) (m : Message) (s : Settings) (b : Book) (rows : List UpRow) (o : Option Op) → BindRows s b rows o → AreAbove (flat_map (freed_id at m) rows)
freed_above at m s b [] o h = tt
freed_above at m s b (r ∷ rows) None h = absurd h
freed_above at m s b (r ∷ rows) (Some o) h = subst (λ (qs : List UpRow). AreAbove (flat_map (freed_id at m) (r ∷ qs))) (sym h.1) (above_more (freed_id at m r) [] (go (behind_message at m r)) tt)
  where
    go : (qs : List UpRow) → AreAbove (elim qs [ [] ↦ r.id ∷ [] | x ∷ xs ↦ [] ])
    go [] = (h.0.above, tt)
    go (x ∷ xs) = tt

-- its identifiers, rows and holder are these now
pub stands_with : (s : Settings) (b : Book) (u at : ℕ) (ids : Ids) (rows : List UpRow) (holder : Option OpName) (taken : List Taken) (l : ConnectionLedger) (v w : Conn) → BindStands s b u l v → w.up ≡ v.up → w.retired ≡ v.retired → w.down ≡ v.down → w.lost ≡ v.lost
    → l.state.ids.next ≤ ids.next → AreAbove ids.free → BindTaken b taken w → holder ≡ name_of w.holder → BindRows s b rows w.now → ((c k : ℕ) → w.rows c k ≡ is w.now c k) → (l.state.down ≡ true → w.now ≡ None)
    → BindStands s b u (record { state = record l.state { moment = at; ids = ids; rows = rows; holder = holder }; taken = taken }) w
stands_with s b u at ids rows holder taken l v w h up retired down lost next free letters held are live fallen = record {
  link = record {
    number = h.link.number;
    kind = h.link.kind;
    up = h.link.up ∙ sym up;
    retired = h.link.retired ∙ sym retired;
    down = h.link.down ∙ sym down;
    placed = h.link.placed;
    fresh = h.link.fresh;
    limit = λ e. let k = h.link.limit e in omega arith;
    first = let k = h.link.first in omega arith;
    began = λ e i. let k = h.link.began e i in omega arith;
  };
  kind = h.kind;
  taken = letters;
  own = h.own;
  holder = held;
  lost = h.lost ∙ ap name_of (sym lost);
  rows = are;
  free = free;
  live = live;
  fallen = fallen;
}

-- It is linked, and comes up.
kind_of_place : (s : Settings) (u : ℕ) → kind_at s u ≡ BindKind → is_of_kind s BindKind u ≡ true
kind_of_place s u e = go (is_of_kind s BindKind u) (ap (is_kind BindKind) e)
  where
    go : (t : Bool) → is_kind BindKind (if t then BindKind else Regular) ≡ true → t ≡ true
    go true h = refl
    go false h = absurd (let bad : false ≡ true = h in cc)

-- no own Bind is due
pub no_own_bind : (s : Settings) (b : Book) (u : ℕ) (l : ConnectionLedger) (v : Conn) → BindStands s b u l v → begins_with_bind s u ≡ false
no_own_bind s b u l v h = begins_alone s u (kind_of_place s u (sym h.link.kind ∙ h.kind))

pub stands_linked : (s : Settings) (b : Book) (u n at : ℕ) (l : ConnectionLedger) (v : Conn) → BindStands s b u l v → is_some (place_at s u) ≡ true
    → BindStands s b u (step_connection_ledger s (step_connection_ledger s l (marked_up n at None what.Linked)) (marked_up n at None what.Up)) (record v { up = true })
stands_linked s b u n at l v h place = record {
  link = record {
    number = h.link.number;
    kind = h.link.kind;
    up = refl;
    retired = h.link.retired;
    down = h.link.down;
    placed = λ _. place;
    fresh = λ e. absurd (let bad : true ≡ false = e in cc);
    limit = h.link.limit;
    first = h.link.first;
    began = λ e _. absurd (let bad : true ≡ false = sym e ∙ no_own_bind s b u l v h in cc);
  };
  kind = h.kind;
  taken = record { forwards = h.taken.forwards; leaves = h.taken.leaves };
  own = h.own;
  holder = h.holder;
  lost = h.lost;
  rows = h.rows;
  free = h.free;
  live = h.live;
  fallen = h.fallen;
}

-- It retires.
pub stands_retired : (s : Settings) (b : Book) (u n at : ℕ) (l : ConnectionLedger) (v : Conn) → BindStands s b u l v → l.state.linked ≡ true → s.id_limit < l.state.ids.next
    → BindStands s b u (step_connection_ledger s l (marked_up n at None what.Retired)) (record v { retired = true })
stands_retired s b u n at l v h linked limit = record {
  link = record {
    number = h.link.number;
    kind = h.link.kind;
    up = h.link.up;
    retired = refl;
    down = h.link.down;
    placed = h.link.placed;
    fresh = λ e. absurd (let bad : true ≡ false = sym linked ∙ e in cc);
    limit = λ _. limit;
    first = h.link.first;
    began = h.link.began;
  };
  kind = h.kind;
  taken = record { forwards = h.taken.forwards; leaves = h.taken.leaves };
  own = h.own;
  holder = h.holder;
  lost = h.lost;
  rows = h.rows;
  free = h.free;
  live = h.live;
  fallen = h.fallen;
}

-- It goes down, where none is live any more.
pub stands_down : (s : Settings) (b : Book) (u n at : ℕ) (why : EndWhy) (l : ConnectionLedger) (v w : Conn) → BindStands s b u l v → l.state.linked ≡ true → w.up ≡ v.up → w.retired ≡ v.retired → w.down ≡ true → w.holder ≡ None → w.lost ≡ v.holder → w.now ≡ None → BindTaken b l.taken w → ((c k : ℕ) → w.rows c k ≡ false)
    → BindStands s b u (step_connection_ledger s l (marked_up n at None (what.Down why))) w
stands_down s b u n at why l v w h linked up retired down held lost none letters live = record {
  link = record {
    number = h.link.number;
    kind = h.link.kind;
    up = h.link.up ∙ sym up;
    retired = h.link.retired ∙ sym retired;
    down = sym down;
    placed = h.link.placed;
    fresh = λ e. absurd (let bad : true ≡ false = sym linked ∙ e in cc);
    limit = h.link.limit;
    first = h.link.first;
    began = h.link.began;
  };
  kind = h.kind;
  taken = letters;
  own = h.own;
  holder = ap name_of (sym held);
  lost = h.holder ∙ ap name_of (sym lost);
  rows = subst (BindRows s b []) (sym none) tt;
  free = h.free;
  live = λ c k. live c k ∙ ap (λ (o : Option Op). is o c k) (sym none);
  fallen = λ _. none;
}

-- A message.
pub got_is : (s : Settings) (n at : ℕ) (m : Message) (rows : List UpRow) (g : Bool) (p : ConnectionState) → p.own_bind ≡ None → flat_map (behind_message at m) p.rows ≡ rows → list_any (lets_go m) p.rows ≡ g
    → step_connection s p (marked_up n at None (what.Got m.id m.rest)) ≡ record p { moment = at; ids = with_freed (flat_map (freed_id at m) p.rows) p.ids; rows = rows; holder = if g then None else p.holder }
got_is s n at m rows g p own are goes = λ i. record p {
  moment = at;
  own_bind = kept i;
  ids = if other i then p.ids else with_freed (flat_map (freed_id at m) p.rows) p.ids;
  rows = if other i then p.rows else are i;
  holder = if not (other i) && goes i then None else p.holder;
}
  where
    other : is_under_own p m.id ≡ false
    other = not_own p own m

    kept : (if is_under_own p m.id then None else p.own_bind) ≡ p.own_bind
    kept = ap (λ (t : Bool). if t then None else p.own_bind) other

-- behind it the rows are these, and the holder stays or is let go
pub stands_got : (s : Settings) (b : Book) (u at : ℕ) (m : Message) (rows : List UpRow) (g : Bool) (l : ConnectionLedger) (v w : Conn) → BindStands s b u l v → flat_map (behind_message at m) l.state.rows ≡ rows → list_any (lets_go m) l.state.rows ≡ g
    → w.up ≡ v.up → w.retired ≡ v.retired → w.down ≡ v.down → w.lost ≡ v.lost → BindTaken b l.taken w → (if g then None else l.state.holder) ≡ name_of w.holder → BindRows s b rows w.now → ((c k : ℕ) → w.rows c k ≡ is w.now c k) → (l.state.down ≡ true → w.now ≡ None)
    → BindStands s b u (step_connection_ledger s l (marked_up l.state.number at None (what.Got m.id m.rest))) w
stands_got s b u at m rows g l v w h are goes up retired down lost letters held live_rows live fallen =
    subst (λ (p : ConnectionState). BindStands s b u (record { state = p; taken = l.taken }) w) (sym (got_is s l.state.number at m rows g l.state h.own are goes))
    (stands_with s b u at (with_freed (flat_map (freed_id at m) l.state.rows) l.state.ids) rows (if g then None else l.state.holder) l.taken l v w h up retired down lost (omega arith) (above_more l.state.ids.free (flat_map (freed_id at m) l.state.rows) h.free (freed_above at m s b l.state.rows v.now h.rows)) letters held live_rows live fallen)

-- the next identifier stays
pub next_stays : (s : Settings) (n at : ℕ) (m : Message) (p : ConnectionState) → (step_connection s p (marked_up n at None (what.Got m.id m.rest))).ids.next ≡ p.ids.next
next_stays s n at m p = got_next p (is_under_own p m.id) (flat_map (freed_id at m) p.rows)
