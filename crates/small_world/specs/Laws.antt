-- What the journal of a world keeps, and how its rows answer what the definitions ask of the journal.
use Rattle.std.specs.Prelude.{◌≡◌, ℕ, ◌==◌, List, suc, not}
use Rattle.lload_names.specs.declared.names.Entry.{Entry}
use Rattle.small_spec.specs.Journal.{family}
use Rattle.small_spec.specs.Fifo.{Fifo}
use Rattle.small_spec.specs.Identifiers.{IdsRise}
use Rattle.small_spec.specs.Standing.{has_arrived, was_linked, arrivals, is_in_use, is_given}
use Rattle.small_spec.specs.Follows.{is_news}
use Rattle.small_world.specs.States.{WorldState, is_linked_state, is_unheard, uses, gave}
use Rattle.small_world.specs.Stands.{StandsFor}

-- the first promise holds of the family of a journal that a world stands for
abbrev pub StandingIsFifo : Type 0
StandingIsFifo = (w : WorldState) (J : List Entry) → StandsFor w J → Fifo (family J)

-- its identifiers rise, each used once
abbrev pub StandingIdsRise : Type 0
StandingIdsRise = (w : WorldState) (J : List Entry) → StandsFor w J → IdsRise (family J)

-- client 1 has arrived in the journal, and connection 1 was linked there, where the world says so
abbrev pub KnowsArrival : Type 0
KnowsArrival = (w : WorldState) (J : List Entry) → StandsFor w J → has_arrived 1 J ≡ w.arrived

abbrev pub KnowsFirstArrival : Type 0
KnowsFirstArrival = (w : WorldState) (J : List Entry) → StandsFor w J → (1 == suc (arrivals J)) ≡ not w.arrived

abbrev pub KnowsLinking : Type 0
KnowsLinking = (w : WorldState) (J : List Entry) → StandsFor w J → was_linked 1 J ≡ is_linked_state w.link

-- the desk has news of connection 1 where the world says that it waits
abbrev pub KnowsNews : Type 0
KnowsNews = (w : WorldState) (J : List Entry) → StandsFor w J → is_news 1 J ≡ is_unheard w.link

-- an identifier is in use, or was given, in the journal where the world says so
abbrev pub KnowsUse : Type 0
KnowsUse = (w : WorldState) (J : List Entry) (id : ℕ) → StandsFor w J → is_in_use 1 id J ≡ uses w id

abbrev pub KnowsGiven : Type 0
KnowsGiven = (w : WorldState) (J : List Entry) (id : ℕ) → StandsFor w J → is_given 1 id J ≡ gave w id
