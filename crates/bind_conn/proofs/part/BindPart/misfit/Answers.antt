use Rattle.bind_conn.proofs.Gots.{there}
use Rattle.bind_conn.proofs.Misfits.{misfit-fells}
use Rattle.bind_conn.proofs.part.BindPart.misfit.Goals as goal

pub fall-requires : goal.fall-requires
fall-requires c = record {
  fells = λ s k.
      let r = there _ _ c.requires.row c.requires.live in
      misfit-fells s c.args.self.now c.args.at (record { id = c.args.id; rest = c.args.rest }) r.0 k r.1 r.2.0 r.2.1;
}
