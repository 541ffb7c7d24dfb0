use Rattle.std.proofs.Common.{◌≡◌, ◌++◌, length, drop, take, vec_len, vec_capacity}
use Rattle.id_table.specs.Calls.{answers_to, behind_all}
use Rattle.id_table.proofs.calls.run.Given as goal

-- the answers so far and those to what is left are those to all, the table stands behind the calls so far, and there is
-- room for the answers to come
abbrev pub invariant-loop-next : goal.invariant-loop-next
invariant-loop-next g l =
    record {
      told : l.answers.items ++ answers_to (drop l.next-index l.calls) l.table ≡ answers_to l.calls l.fn.table;
      rest : behind_all (drop l.next-index l.calls) l.table ≡ behind_all l.calls l.fn.table;
      made : l.table ≡ behind_all (take l.next-index l.calls) l.fn.table;
      len : vec_len l.answers ≡ l.next-index;
      capacity : vec_capacity l.answers ≡ length l.calls;
    }
