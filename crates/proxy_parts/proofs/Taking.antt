-- What a connection's part may take by its state, it may take by its own kind's contract.
use Rattle.std.proofs.Common.{◌≡◌, ◌∷◌, List, [], map, Bool, if◌then◌else◌, Option, Some, None, true, false, refl, ap, ◌∙◌, sym, subst}
use Rattle.std.specs.Prelude.{find}
use Rattle.lload_names.specs.declared.inputs.Input.{Input}
use Rattle.lload_names.specs.declared.inputs.Input.TheVariants.{Arrive, LinkUp, Message, LetterFrom, Tick, LinkGone, Stall, Flow, Reload}
use Rattle.lload_names.specs.declared.names.ConnKind.TheVariants.{Regular, Bind}
use Rattle.lload_names.specs.declared.names.Letter.{Letter}
use Rattle.lload_names.specs.declared.names.Letter.TheVariants.{Ask, Choice, Returned, Forward, Reply, Failed, Drop, Leave, Ended, IsUp, IsRetired, IsDown, Pause, Resume}
use Rattle.lload_names.specs.declared.names.OpName.{OpName}
use Rattle.lload_names.specs.Same.{same_op}
use Rattle.lload_spec.specs.Settings.{Settings}
use Rattle.id_table.specs.Rows.{id_of}
use Rattle.id_table.specs.declared.row.Row.{Row}
use Rattle.part_spec.specs.ConnectionState.{ConnectionState, UpRow}
use Rattle.conn_core.specs.Kept.{up_row}
use Rattle.conn_core.proofs.Plain.{same-sym}
use Rattle.upstream_conn.specs.Part as regular
use Rattle.upstream_conn.specs.declared.part.UpstreamPart.{UpstreamPart}
use Rattle.bind_conn.specs.Part as bind
use Rattle.bind_conn.specs.declared.part.BindPart.{BindPart}
use Rattle.proxy_parts.specs.States.{KindMayTake, MayTake, Stands}
use Rattle.proxy_parts.specs.declared.connection.Connection.{Connection}
use Rattle.proxy_parts.specs.declared.connection.Connection.TheVariants as part

-- an operation that no row of the state has, no row of the table has
pub unnamed : (op : OpName) (rows : List Row) → find (λ r. same_op op r.op) (map up_row rows) ≡ None → id_of op rows ≡ None
unnamed op [] h = refl
unnamed op (r ∷ rs) h = by (same_op r.op op) refl h (unnamed op rs)
  where
    by : (b : Bool) → same_op r.op op ≡ b → find (λ x. same_op op x.op) (map up_row (r ∷ rs)) ≡ None → (find (λ x. same_op op x.op) (map up_row rs) ≡ None → id_of op rs ≡ None) → (if b then Some r.id else id_of op rs) ≡ None
    by true t k ih = absurd (let bad : ◌≡◌ {A = Option UpRow} (Some (up_row r)) None = sym (ap (λ (b : Bool). if b then Some (up_row r) else find (λ x. same_op op x.op) (map up_row rs)) (same-sym op r.op ∙ t)) ∙ k in cc)
    by false t k ih = ih (sym (ap (λ (b : Bool). if b then Some (up_row r) else find (λ x. same_op op x.op) (map up_row rs)) (same-sym op r.op ∙ t)) ∙ k)

pub no-rows : (rows : List Row) → map up_row rows ≡ [] → rows ≡ []
no-rows [] h = refl
no-rows (r ∷ rs) h = absurd (let bad : ◌≡◌ {A = List UpRow} (up_row r ∷ map up_row rs) [] = h in cc)

-- of its kind and of its own state

regular-letter : (u : UpstreamPart) (letter : Letter) → KindMayTake Regular (regular.state u) letter → regular.IsTakenLetter u letter
regular-letter u (Forward op which rest ask_who holder) h = (h.up, h.plain, unnamed op u.core.table.rows h.unknown)
regular-letter u (Ask op want) h = tt
regular-letter u (Choice op answer) h = tt
regular-letter u (Returned op conn) h = tt
regular-letter u (Reply op rest is_last who) h = tt
regular-letter u (Failed op which) h = tt
regular-letter u (Drop op) h = tt
regular-letter u (Leave holder) h = tt
regular-letter u (Ended op conn latency) h = tt
regular-letter u (IsUp conn) h = tt
regular-letter u (IsRetired conn) h = tt
regular-letter u (IsDown conn) h = tt
regular-letter u (Pause client) h = tt
regular-letter u (Resume client) h = tt

bind-letter : (b : BindPart) (letter : Letter) → KindMayTake Bind (bind.state b) letter → bind.IsTakenLetter b letter
bind-letter b (Forward op which rest ask_who holder) h = (h.bind, no-rows b.core.table.rows h.vacant)
bind-letter b (Ask op want) h = tt
bind-letter b (Choice op answer) h = tt
bind-letter b (Returned op conn) h = tt
bind-letter b (Reply op rest is_last who) h = tt
bind-letter b (Failed op which) h = tt
bind-letter b (Drop op) h = tt
bind-letter b (Leave holder) h = tt
bind-letter b (Ended op conn latency) h = tt
bind-letter b (IsUp conn) h = tt
bind-letter b (IsRetired conn) h = tt
bind-letter b (IsDown conn) h = tt
bind-letter b (Pause client) h = tt
bind-letter b (Resume client) h = tt

-- by the state that it stands for

pub regular-takes : (s : Settings) (p : ConnectionState) (u : UpstreamPart) (input : Input) → regular.Stands s p u → MayTake p input → regular.IsTaken u input
regular-takes s p u (LetterFrom now word sender letter) h m =
    let k : KindMayTake p.kind (regular.state u) letter = rw (sym h.is) m in
    regular-letter u letter (subst (λ kind. KindMayTake kind (regular.state u) letter) (ap (λ (q : ConnectionState). q.kind) h.is ∙ h.knows.steady.kind) k)
regular-takes s p u (Arrive now) h m = tt
regular-takes s p u (LinkUp now) h m = tt
regular-takes s p u (Message now id rest) h m = tt
regular-takes s p u (Tick now) h m = tt
regular-takes s p u (LinkGone now why) h m = tt
regular-takes s p u (Stall now) h m = tt
regular-takes s p u (Flow now) h m = tt
regular-takes s p u (Reload now plan base) h m = tt

pub bind-takes : (s : Settings) (p : ConnectionState) (b : BindPart) (input : Input) → bind.Stands s p b → MayTake p input → bind.IsTaken b input
bind-takes s p b (LetterFrom now word sender letter) h m =
    let k : KindMayTake p.kind (bind.state b) letter = rw (sym h.is) m in
    bind-letter b letter (subst (λ kind. KindMayTake kind (bind.state b) letter) (ap (λ (q : ConnectionState). q.kind) h.is ∙ h.knows.steady.kind) k)
bind-takes s p b (Arrive now) h m = tt
bind-takes s p b (LinkUp now) h m = tt
bind-takes s p b (Message now id rest) h m = tt
bind-takes s p b (Tick now) h m = tt
bind-takes s p b (LinkGone now why) h m = tt
bind-takes s p b (Stall now) h m = tt
bind-takes s p b (Flow now) h m = tt
bind-takes s p b (Reload now plan base) h m = tt

-- a part of its kind stands for what the connection does

pub stands-regular : (s : Settings) (p : ConnectionState) (c : Connection) (u : UpstreamPart) → c ≡ part.Regular u → Stands s p c → regular.Stands s p u
stands-regular s p c u e h = subst (λ x. Stands s p x) e h

pub stands-bind : (s : Settings) (p : ConnectionState) (c : Connection) (b : BindPart) → c ≡ part.Bind b → Stands s p c → bind.Stands s p b
stands-bind s p c b e h = subst (λ x. Stands s p x) e h
