-- What contracts see of a harbour in memory, and what its calls answer and change.
use Rattle.std.specs.Prelude.{ℕ, ◌≡◌, ◌≢◌, ◌≤◌, ◌+◌, ◌-◌, ◌==◌, ◌&&◌, ◌||◌, nat_lt, Bool, true, false, ⊤, List, [], ◌∷◌, ◌++◌, length, map, count_by, if◌then◌else◌}
use Rattle.lload_links.specs.Tells.{IsUnused}
use Rattle.lload_links.specs.Plans.{counted}
use Rattle.lload_links.specs.Held.{LinkHeld, tells_of, handed}
use Rattle.lload_links.specs.Harbours.{HarbourTells}
use Rattle.lload_links.specs.Waits.{PollerHeld}
use Rattle.lload_links.specs.declared.link.Origin.{Origin}
use Rattle.lload_links.specs.declared.link.Origin.TheVariants.{Accepted, Connected, Own}
use Rattle.lload_links.specs.declared.harbour.Accept.{Accept}
use Rattle.lload_links.specs.declared.harbour.Accept.TheVariants.{Came, NotYet}
use Rattle.lload_links.specs.declared.harbour.Connect.{Connect}
use Rattle.lload_links.specs.declared.harbour.Connect.TheVariants.{Made, Failed as ConnectFailed}
use Rattle.lload_links.specs.declared.harbour.Made.{Made as Making}
use Rattle.lload_links.specs.declared.harbour.Made.TheVariants.{Both, Failed as MakingFailed, NoMemory as NoRoomToMake}
use Rattle.lload_links.specs.declared.mem_harbour.MemConnect.{MemConnect}
use Rattle.lload_links.specs.declared.mem_harbour.MemConnect.TheVariants.{Made as MadeLink, Fail}

-- the links to accept and the connects to come, how many waits are left, whether a listen fails, how many links were
-- handed out and how many of these were accepted, those that came back, in order, and its counts
pub record HarbourHeld : Type 0 where
  pub accepts : List LinkHeld
  pub connects : List MemConnect
  pub waits : ℕ
  pub listen_fails : Bool
  pub handed_out : ℕ
  pub accepted : ℕ
  pub back : List LinkHeld
  pub faults : ℕ
  pub misses : ℕ
  pub listened : Bool
  pub closed : Bool

-- what it tells of its links
abbrev pub tells_of_harbour : HarbourHeld → HarbourTells
tells_of_harbour h = record { handed_out = h.handed_out; came_back = map tells_of h.back }

-- Nobody has used these links.
abbrev pub AllUnused : List LinkHeld → Type 0
AllUnused [] = ⊤
AllUnused (link ∷ links) = IsUnused (tells_of link) × AllUnused links

abbrev pub AllMadeUnused : List MemConnect → Type 0
AllMadeUnused [] = ⊤
AllMadeUnused (MadeLink link ∷ connects) = IsUnused (tells_of link) × AllMadeUnused connects
AllMadeUnused (Fail ∷ connects) = AllMadeUnused connects

-- Its links are unused, and there is room for each that was handed out.
pub record IsStocked (accepts : List LinkHeld) (connects : List MemConnect) (accepted handed_out room : ℕ) : Type 0 where
  pub accepts_unused : AllUnused accepts
  pub connects_unused : AllMadeUnused connects
  pub counts : accepted ≤ handed_out
  pub has_room : handed_out ≤ room

-- what a listen leaves
abbrev pub behind_listen : HarbourHeld → HarbourHeld
behind_listen h = record h { listened = true; faults = if h.listen_fails then counted h.faults else h.faults }

-- what an accept answers that meets these links, with so many accepted before it
abbrev pub accept_of : ℕ → List LinkHeld → Accept LinkHeld
accept_of n [] = NotYet
accept_of n (link ∷ links) = Came (handed Accepted n link)

abbrev pub next_accept : HarbourHeld → Accept LinkHeld
next_accept h = accept_of h.accepted h.accepts

-- what it leaves
abbrev pub accepted_one : HarbourHeld → List LinkHeld → HarbourHeld
accepted_one h [] = h
accepted_one h (link ∷ links) = record h { accepts = links; accepted = h.accepted + 1; handed_out = h.handed_out + 1 }

abbrev pub behind_accept : HarbourHeld → HarbourHeld
behind_accept h = accepted_one h h.accepts

-- what a connect answers that meets these steps, with so many connected before it
abbrev pub connect_of : ℕ → List MemConnect → Connect LinkHeld
connect_of n [] = ConnectFailed
connect_of n (MadeLink link ∷ connects) = Made (handed Connected n link)
connect_of n (Fail ∷ connects) = ConnectFailed

abbrev pub next_connect : HarbourHeld → Connect LinkHeld
next_connect h = connect_of (h.handed_out - h.accepted) h.connects

-- what it leaves
abbrev pub connected_one : HarbourHeld → List MemConnect → HarbourHeld
connected_one h [] = record h { misses = counted h.misses }
connected_one h (MadeLink link ∷ connects) = record h { connects = connects; handed_out = h.handed_out + 1 }
connected_one h (Fail ∷ connects) = record h { connects = connects; misses = counted h.misses }

abbrev pub behind_connect : HarbourHeld → HarbourHeld
behind_connect h = connected_one h h.connects

-- whether a link was accepted
abbrev pub is_accepted : LinkHeld → Bool
is_accepted link = was_accepted link.origin
  where
    was_accepted : Origin → Bool
    was_accepted Accepted = true
    was_accepted Connected = false
    was_accepted Own = false

-- whether no link is left to accept, and each of so many that were accepted came back
abbrev pub all_back : List LinkHeld → List LinkHeld → ℕ → Bool
all_back accepts back accepted = (length accepts == 0) && (count_by is_accepted back == accepted)

-- whether a wait closes the harbour, or it is closed
abbrev pub closes : HarbourHeld → Bool
closes h = h.closed || (h.waits == 0) || all_back h.accepts h.back h.accepted

-- what a wait leaves
abbrev pub behind_wait : HarbourHeld → HarbourHeld
behind_wait h = if closes h then record h { closed = true } else record h { waits = h.waits - 1 }

-- what is left once a link came back: it is kept where fewer came back than were handed out
abbrev pub behind_back : HarbourHeld → LinkHeld → HarbourHeld
behind_back h link = if nat_lt (length h.back) h.handed_out then record h { back = h.back ++ link ∷ [] } else h

-- A poller that was made has nothing to tell and isn't closed; no poller fails to be made but for want of memory.
abbrev pub MakesPoller : {W : Type 0} → Making PollerHeld W → Type 0
MakesPoller (Both poller watch) = poller ≡ record { to_tell = []; closed = false }
MakesPoller MakingFailed = ⊥
MakesPoller NoRoomToMake = ⊤
