-- The status of each failure (this project's own).
use Rattle.std.specs.Prelude.{ℕ}
use Rattle.lloadd_advise.specs.declared.failure.Failure.{Failure}
use Rattle.lloadd_advise.specs.declared.failure.Failure.TheVariants.{Usage, Read, TooLong, Write, NoMemory}

abbrev pub failure_number : Failure → ℕ
failure_number (TooLong conf) = 1
failure_number Usage = 2
failure_number (Read conf error) = 3
failure_number (Write error) = 4
failure_number NoMemory = 4
