-- What binds a client to a connection or a backend, by the facts of it (restrict_exop, restrict_control,
-- write_coherence in lloadd.conf(5)).
use Rattle.std.specs.Prelude.{ℕ, ◌+◌, ◌*◌, Bool, true, ◌==◌, ◌&&◌, ◌||◌, not, nat_lt, Option, Some, None, if◌then◌else◌, ℤ, pos, negsuc}
use Rattle.lload_names.specs.declared.names.Bound.{Bound}
use Rattle.lload_names.specs.declared.names.Bound.TheVariants.{Free, Backend as ToBackend, Conn as ToConnection}
use Rattle.lload_spec.specs.Settings.{second}

-- since the last Bind: the seconds of the window, the first connection and the first backend that are held, the backend
-- of the last write, how many writes are live, and the moment of the last of their ends, or 0
pub record Standing : Type 0 where
  pub seconds : ℤ
  pub connection : Option ℕ
  pub backend : Option ℕ
  pub write : Option ℕ
  pub live : ℕ
  pub ended : ℕ

-- whether write coherence is on
abbrev pub has_coherence : ℤ → Bool
has_coherence (pos n) = not (n == 0)
has_coherence (negsuc n) = true

-- whether a write binds: while one is live, for ever where the seconds are negative, and so many seconds behind the
-- last end where they are positive
abbrev pub is_open : ℤ → ℕ → ℕ → ℕ → Bool
is_open (pos s) live ended now = not (s == 0) && (nat_lt 0 live || nat_lt now (ended + second * s))
is_open (negsuc s) live ended now = true

-- the connection, else the backend, else the backend of a write
abbrev pub strongest : Option ℕ → Option ℕ → Option ℕ → Bound
strongest (Some n) backend write = ToConnection n
strongest None (Some b) write = ToBackend b
strongest None None (Some b) = ToBackend b
strongest None None None = Free

-- what the client is bound to at a moment
abbrev pub binding_of : Standing → ℕ → Bound
binding_of w now = strongest w.connection w.backend (if is_open w.seconds w.live w.ended now then w.write else None)
