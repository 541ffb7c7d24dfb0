-- What is proved of every run of the parts, as statements.
use Rattle.std.specs.Prelude.{◌≡◌, ℕ, true, false, List, [], ◌∷◌, ◌++◌, IsTrue, is_some}
use Rattle.lload_names.specs.declared.names.PartName.TheVariants.{Client, Up as Connection}
use Rattle.lload_names.specs.declared.names.ConnKind.TheVariants.{Bind as BindKind}
use Rattle.lload_spec.specs.Binding.{choices, standing_by}
use Rattle.lload_spec.specs.CausedUp.{each_bind_expiry_told}
use Rattle.lload_spec.specs.Entries.{in_message}
use Rattle.lload_spec.specs.FirstCheck.{client_facts}
use Rattle.lload_spec.specs.Identity.{OwnIdentity}
use Rattle.lload_spec.specs.Settings.{Settings, is_of_kind}
use Rattle.lload_spec.specs.Journal.{Family, family}
use Rattle.lload_spec.specs.Fifo.{Fifo, each_answered, each_sent_chosen, each_sent_once, each_unanswered}
use Rattle.lload_spec.specs.OneEach.{each_holder_alone}
use Rattle.lload_spec.specs.Strict.{each_heard_in_order}
use Rattle.part_spec.specs.Merge.{PartMove, world_of}
use Rattle.part_spec.specs.World.{journal_of, list_in}
use Rattle.link_laws.specs.Moves.{end_rightly}
use Rattle.promise_laws.specs.OneList.{Shared, OfOneList}
use Rattle.joined_laws.specs.Joined.{Joined, OfSeveralLists}
use Rattle.settled_laws.specs.Laws.{OfRest, Rested}
use Rattle.part_spec.specs.ClientState.{client_of, facts_of, standing_of}
use Rattle.part_spec.specs.Marked.{Marked, entries}
use Rattle.carried_laws.specs.Laws.{Played}
use Rattle.caused_laws.specs.Laws.{BindSaid, OfChecks}
use Rattle.sent_laws.specs.Laws.{OfPlaces}
use Rattle.window_laws.specs.Laws.{OfAsks}

-- the family of the journal of a run
abbrev pub family_of_run : Settings → List PartMove → Family
family_of_run s ms = family (journal_of (world_of s ms))

-- where links end for reasons that a link has, each part's list keeps the part's share
abbrev pub RunsAreShared : Type 0
RunsAreShared =
    (s : Settings) (ms : List PartMove) → IsTrue (end_rightly ms)
    → Shared s (family_of_run s ms) (list_in (world_of s ms))

-- and the journal keeps what the promises say of one list alone
abbrev pub RunsKeepOneList : Type 0
RunsKeepOneList =
    (s : Settings) (ms : List PartMove) → IsTrue (end_rightly ms) → OfOneList s (family_of_run s ms)

-- its lists are joined, by shares, fit letters and links
abbrev pub RunsAreJoined : Type 0
RunsAreJoined =
    (s : Settings) (ms : List PartMove) → IsTrue (end_rightly ms)
    → Joined s (family_of_run s ms) (list_in (world_of s ms))

-- and the journal keeps what the promises say of several lists
abbrev pub RunsKeepSeveralLists : Type 0
RunsKeepSeveralLists =
    (s : Settings) (ms : List PartMove) → IsTrue (end_rightly ms) → OfSeveralLists s (family_of_run s ms)

-- where an operation was not Sent, its client got nothing for it, or one answer of the proxy's own
abbrev pub RunsKeepUnanswered : Type 0
RunsKeepUnanswered =
    (s : Settings) (ms : List PartMove) → IsTrue (end_rightly ms) → IsTrue (each_unanswered (family_of_run s ms))

-- an operation is Sent at most once, over all connections
abbrev pub RunsSendOnce : Type 0
RunsSendOnce =
    (s : Settings) (ms : List PartMove) → IsTrue (end_rightly ms) → IsTrue (each_sent_once (family_of_run s ms))

-- each Sent has the choice of its connection while its operation was live, or goes on with an exchange there
abbrev pub RunsSendWhereChosen : Type 0
RunsSendWhereChosen =
    (s : Settings) (ms : List PartMove) → IsTrue (end_rightly ms) → IsTrue (each_sent_chosen (family_of_run s ms))

-- where an operation was Sent, what its client got is allowed by the answers there
abbrev pub RunsAnswer : Type 0
RunsAnswer =
    (s : Settings) (ms : List PartMove) → IsTrue (end_rightly ms) → IsTrue (each_answered (family_of_run s ms))

-- each client gets a prefix of one upstream's answers, or that and one refusal, and nothing behind the end: the whole
-- promise
abbrev pub RunsKeepFifo : Type 0
RunsKeepFifo = (s : Settings) (ms : List PartMove) → IsTrue (end_rightly ms) → Fifo (family_of_run s ms)

-- where nothing waits, what was given was taken, and so it was heard
abbrev pub RunsAreRested : Type 0
RunsAreRested =
    (s : Settings) (ms : List PartMove) → IsTrue (end_rightly ms) → (world_of s ms).letters ≡ []
    → Rested s (family_of_run s ms) (list_in (world_of s ms))

abbrev pub RunsHeardAtRest : Type 0
RunsHeardAtRest =
    (s : Settings) (ms : List PartMove) → IsTrue (end_rightly ms) → (world_of s ms).letters ≡ []
    → OfRest (family_of_run s ms)

-- its lists are joined, and those of clients and connections are made by turns of these
abbrev pub RunsArePlayed : Type 0
RunsArePlayed =
    (s : Settings) (ms : List PartMove) → IsTrue (end_rightly ms)
    → Played s (family_of_run s ms) (list_in (world_of s ms))

-- where a message came, its client's state says to the first check what the family of the journal says
abbrev pub RunsKnowClients : Type 0
RunsKnowClients =
    (s : Settings) (ms : List PartMove) → IsTrue (end_rightly ms)
    → (c : ℕ) (before : List Marked) (m : Marked) (behind : List Marked)
    → list_in (world_of s ms) (Client c) ≡ before ++ m ∷ behind → is_some (in_message m.entry.what) ≡ true
    → facts_of (client_of s c before) ≡ client_facts s (family_of_run s ms) c (entries before)

-- each In has directly behind it what its first check wants, and each Gone has its cause
abbrev pub RunsKeepChecks : Type 0
RunsKeepChecks =
    (s : Settings) (ms : List PartMove) → IsTrue (end_rightly ms) → OfChecks s (family_of_run s ms)

-- each forwarded request carries its own client's identity
abbrev pub RunsKeepIdentity : Type 0
RunsKeepIdentity =
    (s : Settings) (ms : List PartMove) → IsTrue (end_rightly ms) → OwnIdentity s (family_of_run s ms)

-- each Expired of a Bind has the end of its connection directly behind it
abbrev pub RunsTellExpiredBinds : Type 0
RunsTellExpiredBinds =
    (s : Settings) (ms : List PartMove) → IsTrue (end_rightly ms) → IsTrue (each_bind_expiry_told (family_of_run s ms))

-- what a bind connection's state says is what its list says by the family of the journal
abbrev pub RunsSayBinds : Type 0
RunsSayBinds =
    (s : Settings) (ms : List PartMove) → IsTrue (end_rightly ms) → (u : ℕ) → is_of_kind s BindKind u ≡ true
    → BindSaid s (family_of_run s ms) u (list_in (world_of s ms) (Connection u))

-- each bind connection has one holder at a time
abbrev pub RunsHoldAlone : Type 0
RunsHoldAlone =
    (s : Settings) (ms : List PartMove) → IsTrue (end_rightly ms) → IsTrue (each_holder_alone s (family_of_run s ms))

-- what binds a client that isn't gone is by its state what it is by its list
abbrev pub RunsBindClients : Type 0
RunsBindClients =
    (s : Settings) (ms : List PartMove) → IsTrue (end_rightly ms)
    → (c : ℕ) → (client_of s c (list_in (world_of s ms) (Client c))).gone ≡ false
    → standing_of s (client_of s c (list_in (world_of s ms) (Client c)))
    ≡ standing_by s (choices c ((family_of_run s ms).client c))

-- the desk is asked for what each client is bound to, and only for what its first check lets go on and no exchange takes
abbrev pub RunsAskRightly : Type 0
RunsAskRightly = (s : Settings) (ms : List PartMove) → IsTrue (end_rightly ms) → OfAsks s (family_of_run s ms)

-- each request that was sent, or missed, stands where its first check let it go, at a connection of its kind
abbrev pub RunsGoRightly : Type 0
RunsGoRightly = (s : Settings) (ms : List PartMove) → IsTrue (end_rightly ms) → OfPlaces s (family_of_run s ms)

-- the desk hears of each connection that it is up, retired and down in this order, and passes none over
abbrev pub RunsHearInOrder : Type 0
RunsHearInOrder =
    (s : Settings) (ms : List PartMove) → IsTrue (end_rightly ms) → IsTrue (each_heard_in_order (family_of_run s ms))
