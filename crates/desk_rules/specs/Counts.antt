-- How the lists of pending operations' connections change.
use Rattle.std.specs.Prelude.{◌≡◌, ℕ, ◌+◌, Bool, List, length, filter}
use Rattle.desk_tables.specs.Pending.{one}

-- one operation less is pending on a connection: of those that pass a test, one less where the connection passes
abbrev pub IsLess : ℕ → List ℕ → List ℕ → Type 0
IsLess conn less more = (test : ℕ → Bool) → length (filter test less) + one (test conn) ≡ length (filter test more)
