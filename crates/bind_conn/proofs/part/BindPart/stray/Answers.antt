use Rattle.std.proofs.Common.{List, ℕ, ap, sym, ◌∙◌}
use Rattle.conn_core.specs.Dropped.{is_dropped}
use Rattle.bind_conn.proofs.Misfits.{stray-fells}
use Rattle.bind_conn.proofs.part.BindPart.stray.Goals as goal

pub fall-requires : goal.fall-requires
fall-requires c = record {
  fells = λ s k.
      let b = c.args.self.now in
      let kept = ap (λ (l : List ℕ). is_dropped b.core.table.ids.next c.args.id l) (sym c.as_slice.ensures) ∙ sym c.is_dropped.ensures ∙ c.if-is_dropped.false in
      stray-fells s b c.args.at (record { id = c.args.id; rest = c.args.rest }) (c.requires.stray s k) kept;
}
