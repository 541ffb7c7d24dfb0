-- What contracts see of a link in memory.
use Rattle.std.specs.Prelude.{ℕ, ◌==◌, ◌&&◌, Bool, true, false, List, ◌++◌, length, take, Option, Some}
use Rattle.lload_links.specs.declared.link.Origin.{Origin}
use Rattle.lload_links.specs.declared.link.Origin.TheVariants.{Accepted, Connected, Own}
use Rattle.lload_links.specs.declared.link.LinkRead.{LinkRead}
use Rattle.lload_links.specs.declared.link.LinkWrite.{LinkWrite}
use Rattle.lload_links.specs.declared.mem_link.MemRead.{MemRead}
use Rattle.lload_links.specs.declared.mem_link.MemWrite.{MemWrite}
use Rattle.lload_links.specs.Plans.{bytes_of, due, is_ready, is_ready_to_take, read_answer, later_reads, behind_look, later_writes, faults_read, faults_written}
use Rattle.lload_links.specs.Tells.{LinkTells, count_read, count_written}

-- a link: who made it, the how-manieth of its harbour it is, the reads and the writes to come, the bytes that were read
-- and written, the answers of the last read and the last write, and how often it failed
pub record LinkHeld : Type 0 where
  pub origin : Origin
  pub number : ℕ
  pub reads : List MemRead
  pub writes : List MemWrite
  pub was_read : List ℕ
  pub written : List ℕ
  pub last_read : Option LinkRead
  pub last_write : Option LinkWrite
  pub faults : ℕ

-- what it tells
abbrev pub tells_of : LinkHeld → LinkTells
tells_of link = record {
  origin = link.origin;
  left = Some (bytes_of link.reads);
  was_read = Some link.was_read;
  written = Some link.written;
  last_read = link.last_read;
  last_write = link.last_write;
}

-- the reads that its next read meets
abbrev pub due_reads : LinkHeld → List MemRead
due_reads link = due (length link.written) link.reads

-- whether its next read is ready, and its next write
abbrev pub can_read : LinkHeld → Bool
can_read link = is_ready (due_reads link)

abbrev pub can_write : LinkHeld → Bool
can_write link = is_ready_to_take link.writes

-- the link once it was looked at
abbrev pub after_look : LinkHeld → LinkHeld
after_look link = record link { reads = behind_look (due_reads link) }

-- the link behind a read with so much room, which left this in the buffer
abbrev pub after_link_read : LinkHeld → ℕ → List ℕ → LinkHeld
after_link_read link room buf =
    let answer = read_answer room (due_reads link) in
    record link {
      reads = later_reads room (due_reads link);
      was_read = link.was_read ++ take (count_read answer) buf;
      last_read = Some answer;
      faults = faults_read answer link.faults;
    }

-- the link behind a write of a piece with this answer
abbrev pub after_link_write : LinkHeld → List ℕ → LinkWrite → LinkHeld
after_link_write link piece answer = record link {
  writes = later_writes (length piece) link.writes;
  written = link.written ++ take (count_written answer) piece;
  last_write = Some answer;
  faults = faults_written answer link.faults;
}

-- a link as it is handed out
abbrev pub handed : Origin → ℕ → LinkHeld → LinkHeld
handed origin number link = record link { origin = origin; number = number }

-- whether a link is this accepted one, or this connected one
abbrev pub is_the : Bool → ℕ → LinkHeld → Bool
is_the accepted i link = is_of accepted link.origin && (link.number == i)
  where
    is_of : Bool → Origin → Bool
    is_of true Accepted = true
    is_of true Connected = false
    is_of true Own = false
    is_of false Accepted = false
    is_of false Connected = true
    is_of false Own = false
