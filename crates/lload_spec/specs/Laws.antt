-- Laws over the definitions: what stays when a list grows at its end.
use Rattle.std.specs.Prelude.{◌≡◌, is_none, ℕ, ◌≤◌, Bool, ◌&&◌, List, [], ◌∷◌, ◌++◌, Some, IsTrue}
use Rattle.lload_names.specs.declared.names.Entry.{Entry}
use Rattle.lload_names.specs.declared.plans.Planned.{Planned}
use Rattle.lload_names.specs.Plans.{place_among}
use Rattle.lload_spec.specs.Lists.{each_entry}
use Rattle.lload_spec.specs.Settings.{Settings}
use Rattle.lload_spec.specs.Journal.{Family, family, IsWhole}
use Rattle.lload_spec.specs.Good.{keeps_good}
use Rattle.lload_spec.specs.Verdict.{first_broken}
use Rattle.lload_spec.specs.Operations.{Operation, Ending, ending_from}
use Rattle.ldap_spec.specs.Messages.{Message}
use Rattle.lload_spec.specs.Answers.{Sending, answers}
use Rattle.lload_spec.specs.Fifo.{allowed}

-- what looks back alone holds of a longer list where it held and holds of the new entry
abbrev pub LooksBack : Type 0
LooksBack =
    (test : List Entry → Entry → Bool) (L : List Entry) (e : Entry) → each_entry test (L ++ e ∷ []) ≡
    (each_entry test L && test L e)

-- a Sent, with more entries behind it
abbrev pub lengthened : List Entry → Sending → Sending
lengthened M sent = record sent { behind = sent.behind ++ M }

-- what a client got stays allowed when the connection's list grows
abbrev pub AnswersMayGrow : Type 0
AnswersMayGrow =
    (o : Operation) (rest : List ℕ) (sent : Sending) (M : List Entry) (outs : List (List ℕ)) → IsTrue
    (allowed rest (answers o sent) outs) → IsTrue (allowed rest (answers o (lengthened M sent)) outs)

-- an end, with more entries behind it
abbrev pub extended : List Entry → Ending → Ending
extended M e = record e { behind = e.behind ++ M }

-- the end of an operation stays when its client's list grows
abbrev pub EndStays : Type 0
EndStays =
    (request : Message) (since L M : List Entry)
    (e : Ending) → ending_from request since L ≡ Some e → ending_from request since (L ++ M) ≡ Some (extended M e)

-- a plan that is added to those of a run moves no connection whose number isn't above its base
abbrev pub LaterPlansMoveNone : Type 0
LaterPlansMoveNone =
    (plans : List Planned) (p : Planned) (n : ℕ) → n ≤ p.base → place_among (plans ++ p ∷ []) n ≡ place_among plans n

-- no promise is broken exactly where the six promises are kept
abbrev pub NoneBroken : Type 0
NoneBroken = (s : Settings) (F : Family) → is_none (first_broken s F) ≡ keeps_good s F

-- the family of a journal names each part that has entries
abbrev pub FamilyIsWhole : Type 0
FamilyIsWhole = (journal : List Entry) → IsWhole (family journal)
