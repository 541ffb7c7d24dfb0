use Rattle.bind_conn.proofs.Gots.{there}
use Rattle.bind_conn.proofs.Misfits.{who-fells}
use Rattle.bind_conn.proofs.Whos.{asked-of}
use Rattle.bind_conn.proofs.part.BindPart.who_misfit.Goals as goal

pub fall-requires : goal.fall-requires
fall-requires c = record {
  fells = λ s k.
      let r = there _ _ c.requires.row c.requires.live in
      let x = asked-of r.0.kept c.args.id r.2 in
      who-fells s c.args.self.now c.args.out.now c.args.at c.args.first (record { id = c.args.id; rest = c.args.rest }) r.0 x.0 k r.1 x.1 x.2 c.requires.told;
}
