-- The live operations of a client, as they are kept.
use Rattle.std.specs.Prelude.{◌≡◌, ◌≤◌, ◌+◌, ℕ, Bool, true, false, not, ◌==◌, ◌&&◌, ◌||◌, if◌then◌else◌, List, [], ◌∷◌, filter, map, length, Option, Some, None, is_some, is_none}
use Rattle.lload_names.specs.declared.names.OpKind.TheVariants.{Bind}
use Rattle.lload_names.specs.Same.{same_kind}
use Rattle.client_rows.specs.declared.row.Row.{Row}
use Rattle.client_rows.specs.declared.row.Way.{Way}
use Rattle.client_rows.specs.declared.row.Way.TheVariants.{Waits, Went}

-- how many operations came, and the live ones by rising number
pub record Counted : Type 0 where
  pub count : ℕ
  pub rows : List Row

-- whether an operation has this number, or this identifier
abbrev pub has_number : ℕ → Row → Bool
has_number k r = r.k == k

abbrev pub has_id : ℕ → Row → Bool
has_id id r = r.id == id

-- whether it is a Bind
abbrev pub is_bind : Row → Bool
is_bind r = same_kind Bind r.kind

-- the connection that an operation went to
abbrev pub went_to : Way → Option ℕ
went_to (Waits rest) = None
went_to (Went u) = Some u

abbrev pub connection_of : Row → Option ℕ
connection_of r = went_to r.way

-- whether it lets later messages wait
abbrev pub lets_wait : Row → Bool
lets_wait r = is_bind r || r.restricts && is_none (connection_of r)

-- its way to a connection: where it went before it stays
abbrev pub sent_on : ℕ → Way → Way
sent_on u (Waits rest) = Went u
sent_on u (Went v) = Went v

-- an operation, which goes to a connection where it has this number
abbrev pub sent : ℕ → ℕ → Row → Row
sent k u r = if r.k == k then record r { way = sent_on u r.way } else r

-- the request of an operation that waits for a connection
abbrev pub body_of : Way → Option (List ℕ)
body_of (Waits rest) = Some rest
body_of (Went u) = None

abbrev pub waiting_body : Option Row → Option (List ℕ)
waiting_body None = None
waiting_body (Some r) = body_of r.way

-- the numbers rise from `low`, and all are below `next`
abbrev pub Rises : ℕ → List Row → ℕ → Type 0
Rises low [] next = low ≤ next
Rises low (r ∷ rs) next = (low ≤ r.k) × Rises (r.k + 1) rs next

-- the numbers rise, and none is above the count
abbrev pub IsNumbered : Counted → Type 0
IsNumbered c = Rises 0 c.rows (c.count + 1)

-- the numbers of the operations under an identifier
abbrev pub numbers_under : ℕ → List Row → List ℕ
numbers_under id rows = map (λ r. r.k) (filter (has_id id) rows)

-- the operations that go on, where that of a number ends
abbrev pub without : ℕ → List Row → List Row
without k rows = filter (λ r. not (has_number k r)) rows

abbrev pub one : Bool → ℕ
one b = if b then 1 else 0
