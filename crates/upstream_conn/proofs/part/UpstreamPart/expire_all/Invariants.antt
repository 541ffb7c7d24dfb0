use Rattle.std.proofs.Common.{◌≡◌, ◌≤◌, ◌+◌, ◌*◌, None, length, map}
use Rattle.std.specs.List.{AllByRecursion}
use Rattle.ldap_spec.specs.Bodies.{abandon}
use Rattle.lload_spec.specs.Settings.{Settings}
use Rattle.part_spec.specs.ConnectionState.{ConnectionState}
use Rattle.outbox.specs.declared.outbox.Outbox.{Outbox}
use Rattle.conn_core.specs.Did.{Did}
use Rattle.upstream_conn.specs.Part.{Knows, state}
use Rattle.upstream_conn.specs.Ticks.{abandon_of, rest_act, due_ids}
use Rattle.upstream_conn.proofs.part.UpstreamPart.expire_all.Given as goal

abbrev pub decreases-loop-due : goal.decreases-loop-due
decreases-loop-due l = length l.list.items

-- what becomes of the rest behind what was done is what becomes of all
abbrev pub invariant-loop-due : goal.invariant-loop-due
invariant-loop-due l = record {
  entry_room : 3 * length l.list.items + 1 ≤ l.out.entries.spare;
  letter_room : 3 * length l.list.items + 2 ≤ l.out.letters.spare;
  written : AllByRecursion (λ a. a.rest ≡ abandon a.id) l.list.items;
  knows : (s : Settings) → Knows s l.initial.self → Knows s l.self;
  all : (s : Settings) → Knows s l.initial.self → l.list.items ≡ map abandon_of (due_ids l.self.core l.at);
  leads : (s : Settings) (q : Outbox) (r : ConnectionState) → Knows s l.initial.self → Did s (state l.self) l.at None (rest_act s l.at (state l.self)) l.out q r → Did s (state l.initial.self) l.at None (rest_act s l.at (state l.initial.self)) l.initial.out q r;
}
