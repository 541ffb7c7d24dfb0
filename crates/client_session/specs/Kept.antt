-- The room that is kept for the end of a part.
use Rattle.std.specs.Prelude.{◌≡◌, ◌≤◌, ◌<◌, ℕ, []}
use Rattle.lload_names.specs.declared.names.Entry.{Entry}
use Rattle.lload_names.specs.declared.names.Posted.{Posted}
use Rattle.outbox.specs.Room.{Room}

-- nothing stands in it, and there is room for so many letters and, where there is some, for an entry
pub record IsRoom (many : ℕ) (entries : Room Entry) (letters : Room Posted) : Type 0 where
  pub no_entries : entries.items ≡ []
  pub no_letters : letters.items ≡ []
  pub letter_room : many ≤ letters.spare
  pub entry_room : 0 < many → 1 ≤ entries.spare
