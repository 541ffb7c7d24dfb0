-- What the trait promises of a read follows from what the read of the system's files promises.
use Rattle.std.proofs.Common.{inl, ap, arith, refl}
use Rattle.lload_outside.specs.Held.{times_failed}
use Rattle.lload_outside.proofs.FailedReads.{kept_or_listed, times_failed_same, times_failed_never_falls, times_failed_stays}
use Rattle.lloadd.proofs.files.DiskFilesFileReader.TheImpl.Goals as goal

pub read-tells : goal.read-tells
read-tells g c =
    let list = kept_or_listed c.result c.args.self.now.failed.items c.new.self.now.failed.items c.args.name.now c.ensures.listed c.ensures.others in record {
      never_falls = times_failed_never_falls c.args.self.now.failed.items c.new.self.now.failed.items c.args.name.now list;
      others = λ other different. times_failed_stays c.args.self.now.failed.items c.new.self.now.failed.items c.args.name.now other list different;
      failed = λ is. inl (rw (c.ensures.listed is) (omega (arith, times_failed_same c.args.self.now.failed.items c.args.name.now)));
      no_memory = λ is. ap (λ failed. times_failed failed c.args.name.now) (c.ensures.others (λ e. cc));
      files = λ other. refl;
      told = c.ensures.told;
    }
