-- The empty machine stands for the empty world.
use Rattle.std.proofs.Common.{◌≡◌, ℕ, Bool, true, false, if◌then◌else◌, refl, arith}
use Rattle.lload_names.specs.declared.names.ConnKind.TheVariants.{Regular, Bind as BindKind}
use Rattle.lload_spec.specs.Settings.{Settings, is_kind, is_of_kind}
use Rattle.part_spec.specs.ConnectionState.{kind_at}
use Rattle.part_spec.specs.Fit.{empty_client_ledger, empty_connection_ledger, empty_desk_ledger}
use Rattle.move_laws.specs.Moves.{no_client, no_conn, no_desk}
use Rattle.stands_laws.specs.Books.{Book}
use Rattle.stands_laws.specs.ClientStands.{ClientIs, serves}
use Rattle.stands_laws.specs.DeskStands.{DeskStands}
use Rattle.stands_laws.specs.RegularStands.{LinkStands, RegularIs}
use Rattle.stands_laws.specs.BindStands.{BindStands}
use Rattle.stands_laws.specs.WorldStands.{stands_by}
use Rattle.stands_laws.specs.Laws.{EmptyLaw}

no_client_is : (s : Settings) (b : Book) (c : ℕ) → ClientIs s b c (empty_client_ledger c) no_client
no_client_is s b c = record {
  stands = record {
    number = refl;
    next = refl;
    gone = refl;
    rows = refl;
    hold = refl;
    exchange = λ _ _. refl;
    left = λ e. absurd (cc);
    dead = λ e. absurd (cc);
    quiet = λ e. absurd (cc);
    bound = λ k e. absurd (cc);
    busy = refl;
    one = λ k e. absurd (cc);
    below = λ k e. absurd (cc);
    ids = λ j k e. absurd (cc);
    kinds = λ k e. absurd (cc);
    asked = λ k. refl;
    expected = λ k u. refl;
  };
  heads = λ k e. absurd (cc);
  pauses = record { paused = λ u. refl; plain = λ u e. absurd (cc); once = tt; stalled = λ _. refl };
  waits = λ _. refl;
}

no_link : (s : Settings) (u : ℕ) → LinkStands s u (empty_connection_ledger s u).state no_conn
no_link s u = record {
  number = refl;
  kind = refl;
  up = refl;
  retired = refl;
  down = refl;
  placed = λ e. absurd (cc);
  fresh = λ _. (refl, (refl, refl));
  limit = λ e. absurd (cc);
  first = omega arith;
  began = λ _ e. absurd (cc);
}

no_regular : (s : Settings) (b : Book) (u : ℕ) → RegularIs s b u (empty_connection_ledger s u) no_conn
no_regular s b u = record {
  stands = record {
    link = no_link s u;
    taken = record { forwards = λ c k. refl; drops = λ c k e. absurd (cc); pauses = λ c. refl };
    holder = refl;
    nobody = refl;
    now = refl;
    stands = λ _. record { ops = λ c k. refl; each = tt; apart = tt; free = tt; begun = λ _. refl; waits = λ e. absurd (cc); unused = λ _. refl };
    fallen = λ e. absurd (cc);
  };
  undrained = refl;
}

-- a connection that serves Binds is of that kind
kind_served : (s : Settings) (u : ℕ) → serves s u ≡ true → kind_at s u ≡ BindKind
kind_served s u e = go (is_of_kind s BindKind u) e
  where
    go : (t : Bool) → is_kind BindKind (if t then BindKind else Regular) ≡ true → (if t then BindKind else Regular) ≡ BindKind
    go true h = refl
    go false h = absurd (cc)

no_bind : (s : Settings) (b : Book) (u : ℕ) → serves s u ≡ true → BindStands s b u (empty_connection_ledger s u) no_conn
no_bind s b u e = record {
  link = no_link s u;
  kind = kind_served s u e;
  taken = record { forwards = λ c k. refl; leaves = λ c h f e. absurd (cc) };
  own = refl;
  holder = refl;
  lost = refl;
  rows = tt;
  free = tt;
  live = λ c k. refl;
  fallen = λ e. absurd (cc);
}

no_conn_stands : (s : Settings) (b : Book) (u : ℕ) (t : Bool) → serves s u ≡ t → stands_by t s b u (empty_connection_ledger s u) no_conn
no_conn_stands s b u true e = no_bind s b u e
no_conn_stands s b u false e = no_regular s b u

no_desk_stands : (b : Book) → DeskStands b empty_desk_ledger no_desk
no_desk_stands b = record {
  took = λ c k. refl;
  pending = λ c k u. refl;
  single = λ c k u v e. absurd (cc);
  used = λ u c k e. absurd (cc);
  viable = λ u. refl;
  ups = λ u. refl;
  retireds = λ u. refl;
  downs = λ u. refl;
}

pub beginning : EmptyLaw
beginning s b = record {
  clients = λ c. no_client_is s b c;
  conns = λ u. no_conn_stands s b u (serves s u) refl;
  desk = no_desk_stands b;
  asks = λ c. tt;
  choices = λ c. tt;
  orders = λ c u. tt;
  answers = λ c u. tt;
  reports = λ u. tt;
  strangers = record { clients = λ a c. refl; connections = λ u v. refl; desk = refl; orders = λ u. refl };
}
