-- What a harbour tells of its links, and what its calls change of that. `None` is what isn't told.
use Rattle.std.specs.Prelude.{ℕ, ◌≡◌, ◌+◌, nat_lt, List, [], ◌∷◌, ◌++◌, length, Option, Some, None, if◌then◌else◌}
use Rattle.lload_links.specs.Tells.{LinkTells, IsUnused}
use Rattle.lload_links.specs.Waits.{TellsNone}
use Rattle.lload_links.specs.declared.link.Origin.TheVariants.{Accepted, Connected}
use Rattle.lload_links.specs.declared.poller.Told.{Told as Ready}
use Rattle.lload_links.specs.declared.harbour.Accept.{Accept}
use Rattle.lload_links.specs.declared.harbour.Accept.TheVariants.{Came, NotYet, Failed as AcceptFailed, NoMemory as NoRoomToAccept}
use Rattle.lload_links.specs.declared.harbour.Connect.{Connect}
use Rattle.lload_links.specs.declared.harbour.Connect.TheVariants.{Made, Failed as ConnectFailed, NoMemory as NoRoomToConnect}
use Rattle.lload_links.specs.declared.harbour.Made.{Made as Making}
use Rattle.lload_links.specs.declared.harbour.Made.TheVariants.{Both, Failed as MakingFailed, NoMemory as NoRoomToMake}

-- how many links were handed out, and what each told that came back, in order
pub record HarbourTells : Type 0 where
  pub handed_out : ℕ
  pub came_back : List LinkTells

-- one link more was handed out
abbrev pub one_more : Option HarbourTells → Option HarbourTells
one_more None = None
one_more (Some h) = Some (record h { handed_out = h.handed_out + 1 })

-- what is told behind an accept and a connect
abbrev pub after_accept : {L : Type 0} → Option HarbourTells → Accept L → Option HarbourTells
after_accept links (Came link) = one_more links
after_accept links NotYet = links
after_accept links AcceptFailed = links
after_accept links NoRoomToAccept = links

abbrev pub after_connect : {L : Type 0} → Option HarbourTells → Connect L → Option HarbourTells
after_connect links (Made link) = one_more links
after_connect links ConnectFailed = links
after_connect links NoRoomToConnect = links

-- what is told once a link came back: it is added where fewer came back than were handed out
abbrev pub after_back : Option HarbourTells → LinkTells → Option HarbourTells
after_back None link = None
after_back (Some h) link =
    Some (if nat_lt (length h.came_back) h.handed_out then record h { came_back = h.came_back ++ link ∷ [] } else h)

-- A link that came was accepted, and is unused; one that was made was connected, and is unused.
abbrev pub CameUnused : {L : Type 0} → (L → LinkTells) → Accept L → Type 0
CameUnused tells (Came link) = ((tells link).origin ≡ Accepted) × IsUnused (tells link)
CameUnused tells NotYet = Unit {0}
CameUnused tells AcceptFailed = Unit {0}
CameUnused tells NoRoomToAccept = Unit {0}

abbrev pub MadeUnused : {L : Type 0} → (L → LinkTells) → Connect L → Type 0
MadeUnused tells (Made link) = ((tells link).origin ≡ Connected) × IsUnused (tells link)
MadeUnused tells ConnectFailed = Unit {0}
MadeUnused tells NoRoomToConnect = Unit {0}

-- A poller that was made has nothing to tell.
abbrev pub PollsNothing : {P W : Type 0} → (P → Option (List Ready)) → Making P W → Type 0
PollsNothing to_tell (Both poller watch) = TellsNone (to_tell poller)
PollsNothing to_tell MakingFailed = Unit {0}
PollsNothing to_tell NoRoomToMake = Unit {0}
