-- A turn gives no more than its rule, and the end of a drained connection.
use Rattle.std.proofs.Common.{◌≡◌, ◌≤◌, ◌+◌, ◌*◌, ℕ, max, Bool, true, false, ◌==◌, List, [], ◌∷◌, ◌++◌, length, Option, Some, None, arith, ap, subst, sym, ◌∙◌}
use Rattle.std.proofs.lemmas.List.{length-append, length-map}
use Rattle.std.specs.Prelude.{flat_map}
use Rattle.lload_names.specs.declared.names.ConnKind.{ConnKind}
use Rattle.lload_names.specs.declared.names.EndWhy.{EndWhy}
use Rattle.lload_names.specs.declared.names.EndWhy.TheVariants.{Drained}
use Rattle.lload_names.specs.declared.names.Entry.{Entry}
use Rattle.lload_names.specs.declared.names.Letter.TheVariants.{IsRetired, IsDown}
use Rattle.lload_names.specs.declared.names.OpName.{OpName}
use Rattle.lload_names.specs.declared.names.PartName.TheVariants.{Desk, Up as Connection}
use Rattle.lload_names.specs.declared.names.Posted.{Posted}
use Rattle.lload_names.specs.declared.names.Refusal.TheVariants.{C4}
use Rattle.lload_names.specs.declared.names.What.{What}
use Rattle.lload_names.specs.declared.names.What.TheVariants as what
use Rattle.lload_names.specs.declared.inputs.Input.{Input}
use Rattle.lload_names.specs.declared.inputs.Effects.{Effects}
use Rattle.lload_spec.specs.Settings.{Settings, is_of_kind}
use Rattle.part_spec.specs.Marked.{Taken}
use Rattle.part_spec.specs.Inputs.{Act, act, also, nothing, to, failed, where_so, entries_of, effects_of, marked_by, moment_for, letter_of}
use Rattle.part_spec.specs.ConnectionState.{ConnectionState, UpRow, is_bind, is_there, step_connections}
use Rattle.part_spec.specs.ConnectionTurn.{ended, holder_ended, giving, retires, loss, goes_down, behind_act, is_drained, with_drained}
use Rattle.part_spec.specs.Turn.{connection_act, connection_turn, connection_sever}
use Rattle.conn_core.specs.Most.{IsWithin}
use Rattle.conn_core.specs.Turned.{behind}
use Rattle.conn_core.proofs.Grows.{sent, sends, sends-append, rows-grow}
use Rattle.conn_core.proofs.Turns.{turn-is}

-- an act that gives no more entries and letters than the one number, and sends no more operations than the other
pub record Small (n k : ℕ) (a : Act) : Type 0 where
  pub whats : length a.whats ≤ n
  pub letters : length a.letters ≤ n
  pub sends : sends a.whats ≤ k

pub more : (m n j k : ℕ) (a : Act) → m ≤ n → j ≤ k → Small m j a → Small n k a
more m n j k a l i h =
    let w = h.whats in
    let t = h.letters in
    let x = h.sends in
    record { whats = omega (arith, w, l); letters = omega (arith, t, l); sends = omega (arith, x, i) }

pub both : (m n j k : ℕ) (a b : Act) → Small m j a → Small n k b → Small (m + n) (j + k) (also a b)
both m n j k a b h i =
    let w = length-append a.whats b.whats in
    let t = length-append a.letters b.letters in
    let x = sends-append a.whats b.whats in
    let hw = h.whats in
    let iw = i.whats in
    let ht = h.letters in
    let it = i.letters in
    let hx = h.sends in
    let ix = i.sends in
    record { whats = omega (arith, w, hw, iw); letters = omega (arith, t, ht, it); sends = omega (arith, x, hx, ix) }

pub none : (n k : ℕ) → Small n k nothing
none n k = record { whats = omega arith; letters = omega arith; sends = omega arith }

pub so : (n k : ℕ) (b : Bool) (a : Act) → Small n k a → Small n k (where_so b a)
so n k true a h = h
so n k false a h = none n k

-- The end.
loss-small : (p : ConnectionState) (r : UpRow) → length (loss p r) ≤ 2
loss-small p r = by (is_bind p)
  where
    by : (b : Bool) → length (failed r.op C4 ++ (let l : List Posted = elim b [ true ↦ [] | false ↦ ended p r.op None ] in l)) ≤ 2
    by true = omega arith
    by false = omega arith

losses-small : (p : ConnectionState) (rows : List UpRow) → length (flat_map (loss p) rows) ≤ 2 * length rows
losses-small p [] = omega arith
losses-small p (r ∷ rs) = let two = loss-small p r in let ih = losses-small p rs in let all = length-append (loss p r) (flat_map (loss p) rs) in omega (arith, two, ih, all)

pub holder-small : (p : ConnectionState) → length (holder_ended p) ≤ 1
holder-small p = by p.holder
  where
    by : (o : Option OpName) → length (let l : List Posted = elim o [ None ↦ [] | Some h ↦ ended p h None ] in l) ≤ 1
    by None = omega arith
    by (Some h) = omega arith

pub goes-small : (p : ConnectionState) (why : EndWhy) → Small (2 * length p.rows + 2) 0 (goes_down p why)
goes-small p why =
    let lost = losses-small p p.rows in
    let one = holder-small p in
    let rest = length-append (holder_ended p) (to Desk (IsDown p.number)) in
    let all = length-append (flat_map (loss p) p.rows) (holder_ended p ++ to Desk (IsDown p.number)) in
    record { whats = omega arith; letters = omega (arith, lost, one, rest, all); sends = omega arith }

-- Identifiers.
pub giving-small : (s : Settings) (id : ℕ) (w : What) → length (giving s id w) ≤ 2
giving-small s id w = by (id == s.id_limit)
  where
    by : (b : Bool) → length (let l : List What = elim b [ true ↦ w ∷ what.Retired ∷ [] | false ↦ w ∷ [] ] in l) ≤ 2
    by true = omega arith
    by false = omega arith

pub giving-sends : (s : Settings) (id : ℕ) (w : What) → sends (giving s id w) ≡ sent w
giving-sends s id w = by (id == s.id_limit)
  where
    by : (b : Bool) → sends (let l : List What = elim b [ true ↦ w ∷ what.Retired ∷ [] | false ↦ w ∷ [] ] in l) ≡ sent w
    by true = omega arith
    by false = omega arith

pub retires-small : (s : Settings) (p : ConnectionState) (id : ℕ) → length (retires s p id) ≤ 1
retires-small s p id = by (id == s.id_limit)
  where
    by : (b : Bool) → length (let l : List Posted = elim b [ true ↦ to Desk (IsRetired p.number) | false ↦ [] ] in l) ≤ 1
    by true = omega arith
    by false = omega arith

pub gives-small : (s : Settings) (p : ConnectionState) (id : ℕ) (w : What) → Small 2 (sent w) (act (giving s id w) (retires s p id))
gives-small s p id w =
    let g = giving-small s id w in
    let x = giving-sends s id w in
    let r = retires-small s p id in
    record { whats = omega (arith, g); letters = omega (arith, r); sends = omega (arith, x) }

-- The turn.
drained-small : (n k : ℕ) (s : Settings) (at : ℕ) (mark : Option Taken) (p : ConnectionState) (a : Act) → Small n k a → Small (n + 1) k (with_drained s at mark p a)
drained-small n k s at mark p a h = by (is_drained (behind_act s at mark p a))
  where
    by : (b : Bool) → Small (n + 1) k (let x : Act = elim b [ true ↦ also a (act (what.Down Drained ∷ []) (to Desk (IsDown p.number))) | false ↦ a ] in x)
    by true = more (n + 1) (n + 1) (k + 0) k (also a (act (what.Down Drained ∷ []) (to Desk (IsDown p.number)))) (omega arith) (omega arith) (both n 1 k 0 a (act (what.Down Drained ∷ []) (to Desk (IsDown p.number))) h (record { whats = omega arith; letters = omega arith; sends = omega arith }))
    by false = more n (n + 1) k k a (omega arith) (omega arith) h

small-within : (n k : ℕ) (c at : ℕ) (a : Act) → Small n k a → IsWithin n (effects_of (Connection c) at a)
small-within n k c at a h =
    let same : length (entries_of (Connection c) at a.whats) ≡ length a.whats = length-map a.whats (λ w. let e : Entry = record { part = Connection c; at = at; what = w } in e) in
    let w = h.whats in
    record { entries = omega (arith, same, w); letters = h.letters }

module _ (s : Settings) (kind : ConnKind) (p : ConnectionState) (input : Input) (n k : ℕ) (a : Act) (placed : is_of_kind s kind p.number ≡ true) (rule : connection_act s p (moment_for p.moment input) input ≡ with_drained s (moment_for p.moment input) (letter_of input) p a) (small : Small n k a) where
  abbrev at : ℕ
  at = moment_for p.moment input

  whole : Small (n + 1) k (connection_act s p at input)
  whole = subst (Small (n + 1) k) (sym rule) (drained-small n k s at (letter_of input) p a small)

  -- what an input gives, by its rule
  pub turn-within : IsWithin (n + 1) (connection_turn s p input)
  turn-within = subst (IsWithin (n + 1)) (sym (turn-is s kind p input placed)) (small-within (n + 1) k p.number at (connection_act s p at input) whole)

  -- and how many rows there are behind it
  pub turn-grows : length (behind s p input).rows ≤ length p.rows + k
  turn-grows =
      let grown = rows-grow s (Connection p.number) at (letter_of input) p (connection_act s p at input).whats in
      let few = whole.sends in
      let is = ap (λ (e : Effects). length (step_connections s p (marked_by (letter_of input) e.entries)).rows) (turn-is s kind p input placed) in
      omega (arith, grown, few, is)

-- what the end of its link gives
pub sever-within : (p : ConnectionState) (now : ℕ) (why : EndWhy) (n : ℕ) → 2 * length p.rows + 2 ≤ n → IsWithin n (connection_sever p now why)
sever-within p now why n l = small-within n 0 p.number (max p.moment now) (where_so (is_there p) (goes_down p why)) (so n 0 (is_there p) (goes_down p why) (more (2 * length p.rows + 2) n 0 0 (goes_down p why) l (omega arith) (goes-small p why)))
