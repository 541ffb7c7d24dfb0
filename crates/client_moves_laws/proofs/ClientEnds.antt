-- A client ends its operations, and goes.
use Rattle.std.proofs.Common.{◌≡◌, ℕ, zero, suc, ◌<◌, ◌≤◌, Bool, true, false, ◌==◌, ◌&&◌, not, if◌then◌else◌, List, [], ◌∷◌, ◌++◌, Option, Some, None, refl, ap, ◌∙◌, sym, subst, inl, inr, arith, append-nil, append_assoc}
use Rattle.std.specs.Prelude.{flat_map}
use Rattle.std.proofs.lemmas.Bool.{and_parts, cases_lt}
use Rattle.lload_names.specs.declared.names.OpName.{OpName}
use Rattle.lload_names.specs.declared.names.Letter.{Letter}
use Rattle.lload_names.specs.declared.names.Letter.TheVariants.{Drop, Leave}
use Rattle.lload_names.specs.declared.names.PartName.TheVariants.{Desk, Up as Connection}
use Rattle.lload_names.specs.declared.names.Posted.{Posted}
use Rattle.lload_spec.specs.Settings.{Settings}
use Rattle.part_spec.specs.Inputs.{to}
use Rattle.part_spec.specs.Marked.{letters_to}
use Rattle.part_spec.specs.ClientState.{ClientState, ClientRow, Held, is_bind_row}
use Rattle.part_spec.specs.ClientTurn.{drop_of, drops, leave, endings as end_letters}
use Rattle.part_spec.specs.Fit.{ClientLedger}
use Rattle.move_laws.specs.World.{Client, Hold, ToDesk, ToConn, put, at, conn_of, held}
use Rattle.move_laws.specs.World as machine
use Rattle.move_laws.specs.Clients.{end_row, may_end, drop_letter, go_row, leave_row, leave_letter}
use Rattle.stands_laws.specs.Lists.{Pairs}
use Rattle.stands_laws.specs.Books.{Book, is_bind_op, name}
use Rattle.stands_laws.specs.Letters.{AskIs, OrderIs}
use Rattle.stands_laws.specs.ClientSides.{ClientSide, Ending, Going, Leaving, client_moves, endings}
use Rattle.stands_laws.specs.ClientStands.{row_of, hold_of, live_upto, serves, ClientStands}
use Rattle.stands_laws.specs.Follows.{client_behind}
use Rattle.stands_laws.proofs.Tests.{put_there, put_here, put_dead}
use Rattle.stands_laws.proofs.Pairs.{pairs_append}
use Rattle.stands_laws.proofs.Rows.{live_flat}
use Rattle.link_laws.proofs.Links.{letters_more}
use Rattle.client_moves_laws.proofs.Makes.{moves_append}
use Rattle.client_moves_laws.proofs.ClientTakes.{busy_by}

-- what is live when the first n are ended, each that isn't a Bind
abbrev pub ended_live : (ℕ → Bool) → ℕ → (ℕ → Bool) → ℕ → Bool
ended_live bind zero f = f
ended_live bind (suc n) f = if ended_live bind n f n && not (bind n) then put (ended_live bind n f) n false else ended_live bind n f

ended_above : (bind f : ℕ → Bool) (n k : ℕ) → n ≤ k → ended_live bind n f k ≡ f k
ended_above bind f zero k l = refl
ended_above bind f (suc n) k l = go (ended_live bind n f n && not (bind n)) ∙ ended_above bind f n k (omega arith)
  where
    go : (t : Bool) → (if t then put (ended_live bind n f) n false else ended_live bind n f) k ≡ ended_live bind n f k
    go true = put_there (ended_live bind n f) n k false (λ e. omega arith)
    go false = refl

ended_below : (bind f : ℕ → Bool) (n k : ℕ) → k < n → ended_live bind n f k ≡ (f k && bind k)
ended_below bind f zero k l = absurd (omega arith)
ended_below bind f (suc n) k l = elim (cases_lt k n) [
  | inl m ↦ other (ended_live bind n f n && not (bind n)) m ∙ ended_below bind f n k m
  | inr m ↦ let e : n ≡ k = omega arith in subst (λ i. (if ended_live bind n f n && not (bind n) then put (ended_live bind n f) n false else ended_live bind n f) i ≡ (f i && bind i)) e (itself (ended_live bind n f) (f n) (bind n) (ended_above bind f n n (omega arith)))
]
  where
    other : (t : Bool) → k < n → (if t then put (ended_live bind n f) n false else ended_live bind n f) k ≡ ended_live bind n f k
    other true m = put_there (ended_live bind n f) n k false (λ e. omega arith)
    other false m = refl

    itself : (g : ℕ → Bool) (t b : Bool) → g n ≡ t → (if g n && not b then put g n false else g) n ≡ (t && b)
    itself g true true e = rw e e
    itself g true false e = rw e (put_here g n false)
    itself g false b e = rw e e

row_ended : (t : Bool) (n : ℕ) (x : Client) (g : ℕ → Bool) → end_row t n (record x { live = g }) ≡ record x { live = if t then put g n false else g }
row_ended true n x g = refl
row_ended false n x g = refl

pub ended_row : (bind serve : ℕ → Bool) (y : ClientSide) (n : ℕ) → (client_moves bind serve y (endings n)).row ≡ record y.row { live = ended_live bind n y.row.live }
ended_row bind serve y zero = refl
ended_row bind serve y (suc n) =
    ap (λ (z : ClientSide). z.row) (moves_append bind serve y (endings n) (Ending n ∷ []))
    ∙ (ap (λ (x : Client). end_row (may_end (bind n) n x) n x) (ended_row bind serve y n) ∙ row_ended (ended_live bind n y.row.live n && not (bind n)) n y.row (ended_live bind n y.row.live))

pub ended_asks : (bind serve : ℕ → Bool) (y : ClientSide) (n : ℕ) → (client_moves bind serve y (endings n)).asks ≡ y.asks
ended_asks bind serve y zero = refl
ended_asks bind serve y (suc n) = ap (λ (z : ClientSide). z.asks) (moves_append bind serve y (endings n) (Ending n ∷ [])) ∙ ended_asks bind serve y n

pub dropped_pairs : (s : Settings) (b : Book) (c n u : ℕ) (op : OpName) (t bind : Bool) (o : Option ℕ) → op ≡ name c n
    → Pairs (OrderIs s b c) (letters_to (Connection u) (if t then (elim bind [ true ↦ [] | false ↦ elim o [ None ↦ [] | Some v ↦ to (Connection v) (Drop op) ] ]) else [])) (if t && not bind then (if at o u then machine.Drop n ∷ [] else []) else [])
dropped_pairs s b c n u op true true o e = tt
dropped_pairs s b c n u op true false None e = tt
dropped_pairs s b c n u op true false (Some v) e = go (u == v)
  where
    go : (t : Bool) → Pairs (OrderIs s b c) ((elim t [ true ↦ Drop op ∷ [] | false ↦ [] ]) ++ []) (if t then machine.Drop n ∷ [] else [])
    go true = (ap Drop e, tt)
    go false = tt
dropped_pairs s b c n u op false bind o e = tt

pub letter_dropped : (t : Bool) (n u : ℕ) (x : Client) → drop_letter t n x u ≡ (if t then (if at (x.given n) u then machine.Drop n ∷ [] else []) else [])
letter_dropped true n u x = refl
letter_dropped false n u x = refl

-- the Drops of the first n
pub ended_orders : (s : Settings) (b : Book) (c u : ℕ) (p : ClientState) (y : ClientSide) (n : ℕ) (q : List Letter) → p.number ≡ c → Pairs (OrderIs s b c) q (y.orders u)
    → Pairs (OrderIs s b c) (q ++ letters_to (Connection u) (flat_map (drop_of p) (live_upto y.row.live (row_of b c y.row) n))) ((client_behind s b c y (endings n)).orders u)
ended_orders s b c u p y zero q e h = subst (λ (r : List Letter). Pairs (OrderIs s b c) r (y.orders u)) (sym (append-nil q)) h
ended_orders s b c u p y (suc n) q e h =
    let f = y.row.live in
    let row = row_of b c y.row in
    let old = live_upto f row n in
    let last = letters_to (Connection u) (if f n then drop_of p (row n) else []) in
    let split : q ++ letters_to (Connection u) (flat_map (drop_of p) (live_upto f row (suc n))) ≡ (q ++ letters_to (Connection u) (flat_map (drop_of p) old)) ++ last =
    ap (λ (r : List Posted). q ++ letters_to (Connection u) r) (live_flat (drop_of p) f row n) ∙ (ap (λ (r : List Letter). q ++ r) (letters_more (Connection u) (flat_map (drop_of p) old) (if f n then drop_of p (row n) else [])) ∙ sym (append_assoc q (letters_to (Connection u) (flat_map (drop_of p) old)) last)) in
    let done = client_behind s b c y (endings n) in
    let letter : drop_letter (may_end (is_bind_op b c n) n done.row) n done.row u ≡ (if f n && not (is_bind_op b c n) then (if at (y.row.given n) u then machine.Drop n ∷ [] else []) else []) =
    ap (λ (x : Client). drop_letter (may_end (is_bind_op b c n) n x) n x u) (ended_row (is_bind_op b c) (serves s) y n) ∙ (letter_dropped (ended_live (is_bind_op b c) n f n && not (is_bind_op b c n)) n u (record y.row { live = ended_live (is_bind_op b c) n f }) ∙ ap (λ (t : Bool). if t && not (is_bind_op b c n) then (if at (y.row.given n) u then machine.Drop n ∷ [] else []) else []) (ended_above (is_bind_op b c) f n n (omega arith))) in
    subst (λ (r : List Letter). Pairs (OrderIs s b c) r ((client_behind s b c y (endings (suc n))).orders u)) (sym split)
    (subst (λ (z : ClientSide). Pairs (OrderIs s b c) ((q ++ letters_to (Connection u) (flat_map (drop_of p) old)) ++ last) (z.orders u)) (sym (moves_append (is_bind_op b c) (serves s) y (endings n) (Ending n ∷ [])))
    (pairs_append (OrderIs s b c) (q ++ letters_to (Connection u) (flat_map (drop_of p) old)) (done.orders u) last (drop_letter (may_end (is_bind_op b c n) n done.row) n done.row u) (ended_orders s b c u p y n q e h)
    (subst (λ (r : List ToConn). Pairs (OrderIs s b c) last r) (sym letter) (dropped_pairs s b c n u (record { client = p.number; k = n }) (f n) (is_bind_op b c n) (y.row.given n) (λ z. record { client = e z; k = n })))))

-- what is left live: the Binds
pub ended_all : (s : Settings) (b : Book) (c k : ℕ) (l : ClientLedger) (x : Client) → ClientStands s b c l x → ended_live (is_bind_op b c) x.next x.live k ≡ (x.live k && is_bind_op b c k)
ended_all s b c k l x h = elim (cases_lt k x.next) [ inl m ↦ ended_below (is_bind_op b c) x.live x.next k m | inr m ↦ ended_above (is_bind_op b c) x.live x.next k m ∙ none (x.live k) (is_bind_op b c k) refl m ]
  where
    none : (t bind : Bool) → x.live k ≡ t → x.next ≤ k → t ≡ (t && bind)
    none true bind e m = absurd (let less = h.below k e in omega arith)
    none false bind e m = refl

-- the client that is gone
abbrev pub gone_live : (ℕ → Bool) → Client → ℕ → Bool
gone_live bind x = if x.busy then put (ended_live bind x.next x.live) x.current false else ended_live bind x.next x.live

pub gone_dead : (s : Settings) (b : Book) (c k : ℕ) (l : ClientLedger) (x : Client) → ClientStands s b c l x → gone_live (is_bind_op b c) x k ≡ false
gone_dead s b c k l x h = go (x.live k && is_bind_op b c k) refl
  where
    ends : ℕ → Bool
    ends = ended_live (is_bind_op b c) x.next x.live

    stays : (t : Bool) → ends k ≡ false → (if t then put ends x.current false else ends) k ≡ false
    stays true e = put_dead ends x.current k e
    stays false e = e

    go : (q : Bool) → (x.live k && is_bind_op b c k) ≡ q → (if x.busy then put ends x.current false else ends) k ≡ false
    go true e = let p = and_parts (x.live k) (is_bind_op b c k) e in rw (busy_by s b c k l x h p.0 p.1, h.one k p.0 p.1) (put_here ends x.current false)
    go false e = stays x.busy (ended_all s b c k l x h ∙ e)

abbrev pub gone_row : (ℕ → Bool) → Client → Client
gone_row bind x = record x { gone = true; live = gone_live bind x; busy = false; hold = None }

pub row_left : (x : Client) (o : Option Hold) → x.busy ≡ false → x.hold ≡ o → leave_row (held o && not x.busy) x ≡ record x { hold = None }
row_left x None e i = λ z. record x { hold = i z }
row_left x (Some v) e i = rw e refl

pub row_gone : (bind serve : ℕ → Bool) (y : ClientSide) → (client_moves bind serve y (endings y.row.next ++ Going ∷ Leaving ∷ [])).row ≡ gone_row bind y.row
row_gone bind serve y =
    ap (λ (z : ClientSide). z.row) (moves_append bind serve y (endings y.row.next) (Going ∷ Leaving ∷ []))
    ∙ (ap (λ (x : Client). leave_row (held x.hold && not (go_row x).busy) (go_row x)) (ended_row bind serve y y.row.next)
    ∙ row_left (go_row (record y.row { live = ended_live bind y.row.next y.row.live })) y.row.hold refl refl)

-- nothing of this is for the desk
pub no_drop : (op : OpName) (bind : Bool) (o : Option ℕ) → letters_to Desk (elim bind [ true ↦ [] | false ↦ elim o [ None ↦ [] | Some v ↦ to (Connection v) (Drop op) ] ]) ≡ []
no_drop op true o = refl
no_drop op false None = refl
no_drop op false (Some v) = refl

pub no_drops : (p : ClientState) (rows : List ClientRow) → letters_to Desk (flat_map (drop_of p) rows) ≡ []
no_drops p [] = refl
no_drops p (r ∷ rs) = letters_more Desk (drop_of p r) (flat_map (drop_of p) rs) ∙ (ap (λ (z : List Letter). z ++ letters_to Desk (flat_map (drop_of p) rs)) (no_drop (record { client = p.number; k = r.k }) (is_bind_row r) r.connection) ∙ no_drops p rs)

pub no_leave : (o : Option Held) → letters_to Desk (elim o [ None ↦ [] | Some h ↦ to (Connection h.connection) (Leave h.holder) ]) ≡ []
no_leave None = refl
no_leave (Some h) = refl

pub leave_pairs : (s : Settings) (b : Book) (c u : ℕ) (p : Option Held) (x : Client) (o : Option Hold) → x.hold ≡ o → x.busy ≡ false → p ≡ hold_of c o → Pairs (OrderIs s b c) (letters_to (Connection u) (elim p [ None ↦ [] | Some h ↦ to (Connection h.connection) (Leave h.holder) ])) (leave_letter (held x.hold && not x.busy) x u)
leave_pairs s b c u p x None e i h = rw (e, h) tt
leave_pairs s b c u p x (Some v) e i h = rw (e, i, h) (go (u == v.conn))
  where
    go : (t : Bool) → Pairs (OrderIs s b c) ((elim t [ true ↦ Leave (name c v.holder) ∷ [] | false ↦ [] ]) ++ []) (if t then machine.Leave v.holder ∷ [] else [])
    go true = (refl, tt)
    go false = tt

pub gone_orders : (s : Settings) (b : Book) (c u : ℕ) (l : ClientLedger) (y : ClientSide) (q : List Letter) → ClientStands s b c l y.row → Pairs (OrderIs s b c) q (y.orders u)
    → Pairs (OrderIs s b c) (q ++ letters_to (Connection u) (end_letters l.state)) ((client_behind s b c y (endings y.row.next ++ Going ∷ Leaving ∷ [])).orders u)
gone_orders s b c u l y q h e =
    let bind = is_bind_op b c in
    let serve = serves s in
    let done = client_moves bind serve y (endings y.row.next) in
    let first : letters_to (Connection u) (drops l.state) ≡ letters_to (Connection u) (flat_map (drop_of l.state) (live_upto y.row.live (row_of b c y.row) y.row.next)) = ap (λ (rows : List ClientRow). letters_to (Connection u) (flat_map (drop_of l.state) rows)) h.rows in
    let split : q ++ letters_to (Connection u) (end_letters l.state) ≡ (q ++ letters_to (Connection u) (flat_map (drop_of l.state) (live_upto y.row.live (row_of b c y.row) y.row.next))) ++ letters_to (Connection u) (leave l.state) =
    ap (λ (r : List Letter). q ++ r) (letters_more (Connection u) (drops l.state) (leave l.state)) ∙ (sym (append_assoc q (letters_to (Connection u) (drops l.state)) (letters_to (Connection u) (leave l.state))) ∙ ap (λ (r : List Letter). (q ++ r) ++ letters_to (Connection u) (leave l.state)) first) in
    subst (λ (r : List Letter). Pairs (OrderIs s b c) r ((client_moves bind serve y (endings y.row.next ++ Going ∷ Leaving ∷ [])).orders u)) (sym split)
    (subst (λ (z : ClientSide). Pairs (OrderIs s b c) ((q ++ letters_to (Connection u) (flat_map (drop_of l.state) (live_upto y.row.live (row_of b c y.row) y.row.next))) ++ letters_to (Connection u) (leave l.state)) (z.orders u)) (sym (moves_append bind serve y (endings y.row.next) (Going ∷ Leaving ∷ [])))
    (pairs_append (OrderIs s b c) (q ++ letters_to (Connection u) (flat_map (drop_of l.state) (live_upto y.row.live (row_of b c y.row) y.row.next))) (done.orders u) (letters_to (Connection u) (leave l.state)) (leave_letter (held (go_row done.row).hold && not (go_row done.row).busy) (go_row done.row) u)
    (ended_orders s b c u l.state y y.row.next q h.number e)
    (leave_pairs s b c u l.state.hold (go_row done.row) y.row.hold (ap (λ (x : Client). x.hold) (ended_row bind serve y y.row.next)) refl h.hold)))

pub no_end_letters : (p : ClientState) → letters_to Desk (end_letters p) ≡ []
no_end_letters p = letters_more Desk (drops p) (leave p) ∙ (ap (λ (z : List Letter). z ++ letters_to Desk (leave p)) (no_drops p p.rows) ∙ no_leave p.hold)

pub gone_asks : (s : Settings) (b : Book) (c : ℕ) (l : ClientLedger) (y : ClientSide) (q : List Letter) → Pairs (AskIs b c) q y.asks
    → Pairs (AskIs b c) (q ++ letters_to Desk (end_letters l.state)) (client_behind s b c y (endings y.row.next ++ Going ∷ Leaving ∷ [])).asks
gone_asks s b c l y q e =
    subst (λ (z : ClientSide). Pairs (AskIs b c) (q ++ letters_to Desk (end_letters l.state)) z.asks) (sym (moves_append (is_bind_op b c) (serves s) y (endings y.row.next) (Going ∷ Leaving ∷ [])))
    (subst (λ (z : List ToDesk). Pairs (AskIs b c) (q ++ letters_to Desk (end_letters l.state)) z) (sym (ended_asks (is_bind_op b c) (serves s) y y.row.next)) (subst (λ (z : List Letter). Pairs (AskIs b c) z y.asks) (sym (ap (λ (z : List Letter). q ++ z) (no_end_letters l.state) ∙ append-nil q)) e))
