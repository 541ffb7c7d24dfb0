-- What a socket tells: who made it and its last answers, and nothing of its bytes.
use Rattle.std.specs.Prelude.{Option, None}
use Rattle.lload_links.specs.Tells.{LinkTells}
use Rattle.lload_links.specs.declared.link.Origin.{Origin}
use Rattle.lload_links.specs.declared.link.LinkRead.{LinkRead}
use Rattle.lload_links.specs.declared.link.LinkWrite.{LinkWrite}

abbrev pub socket_tells : Origin → Option LinkRead → Option LinkWrite → LinkTells
socket_tells origin last_read last_write = record {
  origin = origin;
  left = None;
  was_read = None;
  written = None;
  last_read = last_read;
  last_write = last_write;
}
