use Rattle.std.proofs.Common.{sym}
use Rattle.replay_script.proofs.HexWords.{bytes_of-hex, bytes_of-other}
use Rattle.replay_script.proofs.read.read_hex.Goals as goal

pub returns-then-not-is_hex : goal.returns-then-not-is_hex
returns-then-not-is_hex c = bytes_of-other c.args.text.now (sym c.if-not-is_hex.ensures)

pub returns-in-Err : goal.returns-in-Err
returns-in-Err c = bytes_of-hex c.args.text.now (sym c.if-not-is_hex.ensures)
