-- A turn adds no more rows than it sends operations.
use Rattle.std.proofs.Common.{◌≡◌, ◌≤◌, ◌+◌, ℕ, suc, Bool, true, false, cond, if◌then◌else◌, List, [], ◌∷◌, ◌++◌, length, map, filter, Option, Some, None, arith, refl, ap, ◌∙◌, sym}
use Rattle.std.proofs.lemmas.List.{length-append}
use Rattle.std.specs.Prelude.{flat_map, nat_lt, is_none, not}
use Rattle.ldap_spec.specs.Messages.{Message}
use Rattle.lload_names.specs.declared.names.Entry.{Entry}
use Rattle.lload_names.specs.declared.names.Letter.{Letter}
use Rattle.lload_names.specs.declared.names.Letter.TheVariants.{Forward}
use Rattle.lload_names.specs.declared.names.PartName.{PartName}
use Rattle.lload_names.specs.declared.names.What.{What}
use Rattle.lload_names.specs.declared.names.What.TheVariants as what
use Rattle.lload_names.specs.Same.{same_op}
use Rattle.lload_spec.specs.Settings.{Settings}
use Rattle.part_spec.specs.Marked.{Marked, Taken}
use Rattle.part_spec.specs.Inputs.{entries_of, marked_by}
use Rattle.part_spec.specs.ConnectionState.{ConnectionState, UpRow, Kept, is_bind_row, keeps_back, is_under, is_under_who, is_under_own, behind_final, behind_answer, behind_who, behind_message, behind_own, is_abandoned_by, put_row, rows_sent, connection_behind, step_connection, step_connections}

-- how many operations are sent
abbrev pub sent : What → ℕ
sent (what.Sent id op rest) = 1
sent _ = 0

abbrev pub sends : List What → ℕ
sends [] = 0
sends (w ∷ ws) = sent w + sends ws

pub sends-append : (ws vs : List What) → sends (ws ++ vs) ≡ sends ws + sends vs
sends-append [] vs = omega arith
sends-append (w ∷ ws) vs = let ih = sends-append ws vs in omega (arith, ih)

pub filter-less : (P : UpRow → Bool) (rows : List UpRow) → length (filter P rows) ≤ length rows
filter-less P [] = omega arith
filter-less P (x ∷ xs) = by (P x) (filter-less P xs)
  where
    by : (b : Bool) → length (filter P xs) ≤ length xs → length (cond b (x ∷ filter P xs) (filter P xs)) ≤ length (x ∷ xs)
    by true h = omega (arith, h)
    by false h = omega (arith, h)

flat-less : (f : UpRow → List UpRow) (rows : List UpRow) → ((r : UpRow) → length (f r) ≤ 1) → length (flat_map f rows) ≤ length rows
flat-less f [] e = omega arith
flat-less f (r ∷ rs) e = let one = e r in let ih = flat-less f rs e in let both = length-append (f r) (flat_map f rs) in omega (arith, one, ih, both)

put-one : (r : UpRow) (rows : List UpRow) → length (put_row r rows) ≡ length rows + 1
put-one r [] = refl
put-one r (x ∷ xs) = by (nat_lt x.id r.id) (put-one r xs)
  where
    by : (b : Bool) → length (put_row r xs) ≡ length xs + 1 → length {A = UpRow} (elim b [ true ↦ x ∷ put_row r xs | false ↦ r ∷ x ∷ xs ]) ≡ length (x ∷ xs) + 1
    by true h = omega (arith, h)
    by false h = omega arith

-- A row leaves one at most.
final-one : (at : ℕ) (rest : List ℕ) (r : UpRow) → length (behind_final at rest r) ≤ 1
final-one at rest r = by (is_bind_row r) (keeps_back r rest) _
  where
    by : (b k n : Bool) → length {A = UpRow} (elim b [ false ↦ [] | true ↦ elim k [ true ↦ record r { answered = at; kept = Some (record { rest = rest; who = None }) } ∷ [] | false ↦ elim n [ true ↦ record r { answered = at } ∷ [] | false ↦ [] ] ] ]) ≤ 1
    by false k n = omega arith
    by true true n = omega arith
    by true false true = omega arith
    by true false false = omega arith

answer-one : (at : ℕ) (rest : List ℕ) (r : UpRow) → length (behind_answer at rest r) ≤ 1
answer-one at rest r = by _ _ (final-one at rest r)
  where
    by : (b f : Bool) → length (behind_final at rest r) ≤ 1 → length {A = UpRow} (elim b [ false ↦ r ∷ [] | true ↦ elim f [ true ↦ behind_final at rest r | false ↦ record r { answered = at } ∷ [] ] ]) ≤ 1
    by false f h = omega arith
    by true true h = h
    by true false h = omega arith

who-one : (at : ℕ) (rest : List ℕ) (r : UpRow) → length (behind_who at rest r) ≤ 1
who-one at rest r = by _
  where
    by : (b : Bool) → length {A = UpRow} (elim b [ true ↦ [] | false ↦ record r { answered = at } ∷ [] ]) ≤ 1
    by true = omega arith
    by false = omega arith

message-one : (at : ℕ) (m : Message) (r : UpRow) → length (behind_message at m r) ≤ 1
message-one at m r = by (is_under m.id r) (is_under_who m.id r) (answer-one at m.rest r) (who-one at m.rest r)
  where
    by : (b w : Bool) → length (behind_answer at m.rest r) ≤ 1 → length (behind_who at m.rest r) ≤ 1 → length {A = UpRow} (elim b [ true ↦ behind_answer at m.rest r | false ↦ elim w [ true ↦ behind_who at m.rest r | false ↦ r ∷ [] ] ]) ≤ 1
    by true w a h = a
    by false true a h = h
    by false false a h = omega arith

own-one : (m : Message) (r : UpRow) → length (behind_own m r) ≤ 1
own-one m r = by _ (is_abandoned_by m.rest r)
  where
    by : (b a : Bool) → length {A = UpRow} (elim b [ true ↦ record r { kept = elim r.kept [ None ↦ None | Some k ↦ Some (record k { who = Some m.id }) ] } ∷ [] | false ↦ elim a [ true ↦ [] | false ↦ r ∷ [] ] ]) ≤ 1
    by true a = omega arith
    by false true = omega arith
    by false false = omega arith

-- The rows behind an entry.
forward-grows : (at id : ℕ) (rows : List UpRow) (l : Letter) → length (rows_sent at id rows l) ≤ length rows + 1
forward-grows at id rows (Forward op kind rest ask_who holder) = let one = put-one (record { id = id; op = op; kind = kind; ask_who = ask_who; sent = at; answered = at; kept = None }) rows in omega (arith, one)
forward-grows at id rows _ = omega arith

sent-grows : (at id : ℕ) (rows : List UpRow) (mark : Option Taken) → length (let l : List UpRow = elim mark [ None ↦ rows | Some t ↦ rows_sent at id rows t.letter ] in l) ≤ length rows + 1
sent-grows at id rows None = omega arith
sent-grows at id rows (Some t) = forward-grows at id rows t.letter

got-grows : (b : Bool) (rows xs : List UpRow) → length xs ≤ length rows → length (if b then rows else xs) ≤ length rows + 0
got-grows true rows xs h = omega arith
got-grows false rows xs h = omega (arith, h)

entry-grows : (s : Settings) (e : Entry) (mark : Option Taken) (p : ConnectionState) (w : What) → length (connection_behind s e mark p w).rows ≤ length p.rows + sent w
entry-grows s e mark p what.Linked = omega arith
entry-grows s e mark p (what.Sent id op rest) = sent-grows e.at id p.rows mark
entry-grows s e mark p (what.Own id rest) = let less = flat-less (behind_own (record { id = id; rest = rest })) p.rows (own-one (record { id = id; rest = rest })) in omega (arith, less)
entry-grows s e mark p (what.Got id rest) = got-grows (is_under_own p id) p.rows (flat_map (behind_message e.at (record { id = id; rest = rest })) p.rows) (flat-less (behind_message e.at (record { id = id; rest = rest })) p.rows (message-one e.at (record { id = id; rest = rest })))
entry-grows s e mark p (what.Expired op) = let less = filter-less (λ r. not (same_op op r.op)) p.rows in omega (arith, less)
entry-grows s e mark p _ = omega arith

unmarked-grow : (s : Settings) (part : PartName) (at : ℕ) (p : ConnectionState) (ws : List What) → length (step_connections s p (map (λ x. let m : Marked = record { entry = x; mark = None } in m) (entries_of part at ws))).rows ≤ length p.rows + sends ws
unmarked-grow s part at p [] = omega arith
unmarked-grow s part at p (w ∷ ws) =
    let e : Entry = record { part = part; at = at; what = w } in
    let one = entry-grows s e None p w in
    let ih = unmarked-grow s part at (step_connection s p (record { entry = e; mark = None })) ws in
    omega (arith, one, ih)

-- behind these entries
pub rows-grow : (s : Settings) (part : PartName) (at : ℕ) (mark : Option Taken) (p : ConnectionState) (ws : List What) → length (step_connections s p (marked_by mark (entries_of part at ws))).rows ≤ length p.rows + sends ws
rows-grow s part at mark p [] = omega arith
rows-grow s part at mark p (w ∷ ws) =
    let e : Entry = record { part = part; at = at; what = w } in
    let one = entry-grows s e mark p w in
    let ih = unmarked-grow s part at (step_connection s p (record { entry = e; mark = mark })) ws in
    omega (arith, one, ih)
