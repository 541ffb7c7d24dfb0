-- What calls of a table answer, and what they leave.
use Rattle.std.specs.Prelude.{◌≡◌, ℕ, ◌≤◌, List, [], ◌∷◌, length, take, Some, None, if◌then◌else◌}
use Rattle.lload_spec.specs.Identifiers.{id_for}
use Rattle.id_table.specs.Rows.{row_of, id_of}
use Rattle.id_table.specs.Table.{Table, gave, used_up, touched_at, kept_at, ended_at, finished_at, passes_limit, may_own}
use Rattle.id_table.specs.declared.calls.Call.{Call}
use Rattle.id_table.specs.declared.calls.Call.TheVariants.{Give, Own, Row as RowCall, Find, Touch, Keep, End, Finish, AtLimit as AtLimitCall}
use Rattle.id_table.specs.declared.calls.Answer.{Answer}
use Rattle.id_table.specs.declared.calls.Answer.TheVariants.{Id, Row, Done, AtLimit}

-- what a call answers; an identifier is only given where one is left
abbrev pub answer_to : Call → Table → Answer
answer_to (Give _ _ _ _) t = Id (if passes_limit t then None else Some (id_for t.ids))
answer_to Own t = Id (if may_own t then Some t.ids.next else None)
answer_to (RowCall id) t = Row (row_of id t.rows)
answer_to (Find op) t = Id (id_of op t.rows)
answer_to (Touch _ _) t = Done
answer_to (Keep _ _ _) t = Done
answer_to (End id) t = Row (row_of id t.rows)
answer_to (Finish id) t = Row (row_of id t.rows)
answer_to AtLimitCall t = AtLimit (passes_limit t)

-- the table behind a call
abbrev pub behind : Call → Table → Table
behind (Give op of_kind ask_who now) t = if passes_limit t then t else gave op of_kind ask_who now t
behind Own t = if may_own t then used_up t else t
behind (RowCall _) t = t
behind (Find _) t = t
behind (Touch id now) t = touched_at id now t
behind (Keep id now kept) t = kept_at id now kept t
behind (End id) t = ended_at id t
behind (Finish id) t = finished_at id t
behind AtLimitCall t = t

-- what calls answer, one behind the other
abbrev pub answers_to : List Call → Table → List Answer
answers_to [] t = []
answers_to (call ∷ calls) t = answer_to call t ∷ answers_to calls (behind call t)

-- the table behind them
abbrev pub behind_all : List Call → Table → Table
behind_all [] t = t
behind_all (call ∷ calls) t = behind_all calls (behind call t)

-- a table stands behind the first of the calls, whose number may be any
abbrev pub IsBehindFirst : List Call → Table → Table → Type 0
IsBehindFirst calls before after = (n : ℕ) × (n ≤ length calls) × (after ≡ behind_all (take n calls) before)
