-- What the trait promises of a read follows from what the read of files in memory promises.
use Rattle.std.proofs.Common.{inl, ap, arith}
use Rattle.lload_outside.specs.Files.{file_of}
use Rattle.lload_outside.specs.Held.{times_failed}
use Rattle.lload_outside.proofs.FailedReads.{kept_or_listed, times_failed_same, times_failed_never_falls, times_failed_stays}
use Rattle.lload_outside.proofs.memory.MemFilesFileReader.TheImpl.Goals as goal

pub read-tells : goal.read-tells
read-tells c =
    let list = kept_or_listed c.result c.args.self.now.failed c.new.self.now.failed c.args.name.now c.ensures.listed c.ensures.others in record {
      never_falls = times_failed_never_falls c.args.self.now.failed c.new.self.now.failed c.args.name.now list;
      others = λ other different. times_failed_stays c.args.self.now.failed c.new.self.now.failed c.args.name.now other list different;
      failed = λ is. inl (rw (c.ensures.listed is) (omega (arith, times_failed_same c.args.self.now.failed c.args.name.now)));
      no_memory = λ is. ap (λ f. times_failed f.failed c.args.name.now) (c.ensures.no_memory is);
      files = λ other. ap (λ files. file_of files other) c.ensures.files;
      told = c.ensures.told;
    }
