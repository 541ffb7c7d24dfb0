-- What a client does.
use Rattle.std.specs.Prelude.{ℕ, ◌+◌, ◌==◌, Bool, true, false, ◌&&◌, ◌||◌, if◌then◌else◌, not, List, [], ◌∷◌, Option, Some, None}
use Rattle.move_laws.specs.World.{ToDesk, Ask, Returned, ToChooser, Choice, ToConn, Forward, Drop, Leave, Signal, ToClient, Reply, Failed, Client, at, holder_of, conn_of, held, put, put_at, put2}

-- A new operation: whether it may come, and the client after it.
abbrev pub may_ask : Bool → Client → Bool
may_ask bind x = not x.gone && not x.busy && not (bind && held x.hold)

abbrev pub ask_row : Bool → Bool → Client → Client
ask_row false bind x = x
ask_row true bind x = record x {
  next = x.next + 1;
  asked = put x.asked x.next true;
  live = put x.live x.next true;
  current = if bind then x.next else x.current;
  busy = bind;
}

abbrev pub ask_letter : Bool → Client → List ToDesk
ask_letter false x = []
ask_letter true x = Ask x.next ∷ []

-- An operation that is refused at once has its number, and nothing else.
abbrev pub refuse_row : Client → Client
refuse_row x = record x { next = x.next + 1 }

-- A Bind of a pinned client goes to the connection that it holds.
abbrev pub may_bind : Bool → Client → Bool
may_bind bind x = not x.gone && not x.busy && (bind && held x.hold)

abbrev pub bind_row : Bool → Client → Client
bind_row false x = x
bind_row true x = record x {
  next = x.next + 1;
  live = put x.live x.next true;
  given = put_at x.given x.next (conn_of x.hold);
  current = x.next;
  busy = true;
}

abbrev pub bind_letter : Bool → Client → ℕ → List ToConn
bind_letter false x u = []
bind_letter true x u = if at (conn_of x.hold) u then Forward x.next (holder_of x.hold) ∷ [] else []

-- A client ends an operation itself.
abbrev pub may_end : Bool → ℕ → Client → Bool
may_end bind k x = x.live k && not bind

abbrev pub end_row : Bool → ℕ → Client → Client
end_row false k x = x
end_row true k x = record x { live = put x.live k false }

abbrev pub drop_letter : Bool → ℕ → Client → ℕ → List ToConn
drop_letter false k x u = []
drop_letter true k x u = if at (x.given k) u then Drop k ∷ [] else []

-- A client goes. Its operations were ended before this, but for a Bind.
abbrev pub go_row : Client → Client
go_row x = record x { gone = true; live = if x.busy then put x.live x.current false else x.live; busy = false }

-- A client leaves the bind connection that it holds: it is gone, or a Bind of another version came.
abbrev pub may_leave : Client → Bool
may_leave x = held x.hold && not x.busy

abbrev pub leave_row : Bool → Client → Client
leave_row false x = x
leave_row true x = record x { hold = None }

abbrev pub leave_letter : Bool → Client → ℕ → List ToConn
leave_letter false x u = []
leave_letter true x u = if at (conn_of x.hold) u then Leave (holder_of x.hold) ∷ [] else []

-- A client that doesn't read pauses a regular connection that has an operation of it; a paused one goes on later.
abbrev pub may_signal : Bool → ℕ → ℕ → Client → Bool
may_signal serves_binds k v x = not serves_binds && (x.paused v || at (x.given k) v)

abbrev pub signal_row : Bool → ℕ → Client → Client
signal_row false v x = x
signal_row true v x = record x { paused = put x.paused v (not (x.paused v)) }

abbrev pub signal_letter : Bool → ℕ → Client → ℕ → List ToConn
signal_letter false v x u = []
signal_letter true v x u = if u == v then Signal (not (x.paused v)) ∷ [] else []

-- A choice is taken: by whether the operation is live.
abbrev pub choice_row : Bool → Bool → ℕ → Option ℕ → Client → Client
choice_row false bind k a x = record x { chosen = put x.chosen k true }
choice_row true bind k None x =
    record x { chosen = put x.chosen k true; live = put x.live k false; busy = if bind then false else x.busy }
choice_row true bind k (Some u) x = record x {
  chosen = put x.chosen k true;
  given = put_at x.given k (Some u);
  hold = if bind then Some (record { conn = u; holder = k }) else x.hold;
}

abbrev pub take_choice : (ℕ → Bool) → List ToChooser → Client → Client
take_choice bind [] x = x
take_choice bind (Choice k a ∷ ls) x = choice_row (x.live k) (bind k) k a x

abbrev pub forward_letter : List ToChooser → Client → ℕ → List ToConn
forward_letter [] x u = []
forward_letter (Choice k a ∷ ls) x u = if x.live k && at a u then Forward k k ∷ [] else []

abbrev pub return_to : Bool → ℕ → Option ℕ → List ToDesk
return_to true k a = []
return_to false k None = []
return_to false k (Some u) = Returned k u ∷ []

abbrev pub return_letter : List ToChooser → Client → List ToDesk
return_letter [] x = []
return_letter (Choice k a ∷ ls) x = return_to (x.live k) k a

-- An answer is taken.
abbrev pub close_row : Bool → Bool → ℕ → ℕ → Client → Client
close_row bind stay k u x = record x {
  closed = put2 x.closed k u true;
  live = put x.live k false;
  busy = if bind then false else x.busy;
  hold = if bind && not stay then None else x.hold;
}

abbrev pub take_answer : (ℕ → Bool) → ℕ → List ToClient → Client → Client
take_answer bind u [] x = x
take_answer bind u (Reply k last stay ∷ ls) x = if last then close_row (bind k) stay k u x else x
take_answer bind u (Failed k ∷ ls) x = close_row (bind k) false k u x
