use Rattle.std.proofs.Common.{◌≡◌, List, true, sym, subst, arith, ap, ◌∙◌, length}
use Rattle.std.specs.Prelude.{IfOk}
use Rattle.lload_names.specs.declared.names.Entry.{Entry}
use Rattle.lload_names.specs.declared.names.PartName.TheVariants.{Client, Up}
use Rattle.lload_spec.specs.Writable.{each_can_be_written}
use Rattle.small_world.specs.States.{WorldState, MayTake, are_in_range, after_request, after_answer}
use Rattle.small_world.specs.Stands.{StandsFor}
use Rattle.small_world.specs.Rounds.{IsRound, Takes}
use Rattle.small_world.specs.Pieces.{request_piece, answer_piece}
use Rattle.small_world.proofs.RoundsMade.{if_ok, stands_by, request_made, request_takes, request_writable, request_stands, answer_made, answer_takes, answer_writable, answer_stands}
use Rattle.small_world.proofs.world.World.round.Goals as goal

pub returns-in-Client-clause-made : goal.returns-in-Client-clause-made
returns-in-Client-clause-made c =
    let taken : MayTake c.args.self.now (Client c.in-Client.field-0) c.args.id c.args.rest = subst (λ p. MayTake c.args.self.now p c.args.id c.args.rest) c.in-Client.is c.requires in
    subst (λ part. IfOk c.take_request.result (λ piece. (J : List Entry) → StandsFor c.args.self.now J → IsRound part J piece)) (sym c.in-Client.is) (if_ok c.take_request.result (λ piece. piece ≡ request_piece c.args.self.now c.args.id c.args.rest) (λ piece. (J : List Entry) → StandsFor c.args.self.now J → IsRound (Client c.in-Client.field-0) J piece) (λ piece is J h. subst (λ p. IsRound (Client c.in-Client.field-0) J p) (sym is) (request_made c.args.self.now J c.args.id c.args.rest taken.1 h)) c.take_request.ensures.made)

pub returns-in-Client-clause-taken : goal.returns-in-Client-clause-taken
returns-in-Client-clause-taken c =
    let taken : MayTake c.args.self.now (Client c.in-Client.field-0) c.args.id c.args.rest = subst (λ p. MayTake c.args.self.now p c.args.id c.args.rest) c.in-Client.is c.requires in
    subst (λ part. IfOk c.take_request.result (λ piece. Takes part (record { id = c.args.id; rest = c.args.rest }) piece)) (sym c.in-Client.is) (if_ok c.take_request.result (λ piece. piece ≡ request_piece c.args.self.now c.args.id c.args.rest) (λ piece. Takes (Client c.in-Client.field-0) (record { id = c.args.id; rest = c.args.rest }) piece) (λ piece is. subst (λ p. Takes (Client c.in-Client.field-0) (record { id = c.args.id; rest = c.args.rest }) p) (sym is) (request_takes c.args.self.now c.in-Client.field-0 c.args.id c.args.rest taken.0)) c.take_request.ensures.made)

pub returns-in-Client-clause-writable : goal.returns-in-Client-clause-writable
returns-in-Client-clause-writable c =
    let taken : MayTake c.args.self.now (Client c.in-Client.field-0) c.args.id c.args.rest = subst (λ p. MayTake c.args.self.now p c.args.id c.args.rest) c.in-Client.is c.requires in
    if_ok c.take_request.result (λ piece. piece ≡ request_piece c.args.self.now c.args.id c.args.rest) (λ piece. each_can_be_written piece ≡ true) (λ piece is. ap each_can_be_written is ∙ request_writable c.args.self.now c.args.id c.args.rest taken.1 (omega (arith, c.self.invariant.0, c.self.invariant.1, ap {A = WorldState} (λ w. length w.forwarded) c.self.view_is))) c.take_request.ensures.made

pub returns-in-Client-clause-stands : goal.returns-in-Client-clause-stands
returns-in-Client-clause-stands c =
    let taken : MayTake c.args.self.now (Client c.in-Client.field-0) c.args.id c.args.rest = subst (λ p. MayTake c.args.self.now p c.args.id c.args.rest) c.in-Client.is c.requires in
    stands_by c.take_request.result c.args.self.now c.take_request.new.self (after_request c.args.self.now c.args.id) (request_piece c.args.self.now c.args.id c.args.rest) (λ J h. request_stands c.args.self.now J c.args.id c.args.rest taken.1 h) c.take_request.ensures.made c.take_request.ensures.state

pub returns-in-Up-clause-made : goal.returns-in-Up-clause-made
returns-in-Up-clause-made c =
    let taken : MayTake c.args.self.now (Up c.in-Up.field-0) c.args.id c.args.rest = subst (λ p. MayTake c.args.self.now p c.args.id c.args.rest) c.in-Up.is c.requires in
    subst (λ part. IfOk c.take_answer.result (λ piece. (J : List Entry) → StandsFor c.args.self.now J → IsRound part J piece)) (sym c.in-Up.is) (if_ok c.take_answer.result (λ piece. piece ≡ answer_piece c.args.self.now c.args.id c.args.rest) (λ piece. (J : List Entry) → StandsFor c.args.self.now J → IsRound (Up c.in-Up.field-0) J piece) (λ piece is J h. subst (λ p. IsRound (Up c.in-Up.field-0) J p) (sym is) (answer_made c.args.self.now J c.args.id c.args.rest (taken.1).id_given h)) c.take_answer.ensures.made)

pub returns-in-Up-clause-taken : goal.returns-in-Up-clause-taken
returns-in-Up-clause-taken c =
    let taken : MayTake c.args.self.now (Up c.in-Up.field-0) c.args.id c.args.rest = subst (λ p. MayTake c.args.self.now p c.args.id c.args.rest) c.in-Up.is c.requires in
    subst (λ part. IfOk c.take_answer.result (λ piece. Takes part (record { id = c.args.id; rest = c.args.rest }) piece)) (sym c.in-Up.is) (if_ok c.take_answer.result (λ piece. piece ≡ answer_piece c.args.self.now c.args.id c.args.rest) (λ piece. Takes (Up c.in-Up.field-0) (record { id = c.args.id; rest = c.args.rest }) piece) (λ piece is. subst (λ p. Takes (Up c.in-Up.field-0) (record { id = c.args.id; rest = c.args.rest }) p) (sym is) (answer_takes c.args.self.now c.in-Up.field-0 c.args.id c.args.rest taken.0 (taken.1).id_given)) c.take_answer.ensures.made)

pub returns-in-Up-clause-writable : goal.returns-in-Up-clause-writable
returns-in-Up-clause-writable c =
    let taken : MayTake c.args.self.now (Up c.in-Up.field-0) c.args.id c.args.rest = subst (λ p. MayTake c.args.self.now p c.args.id c.args.rest) c.in-Up.is c.requires in
    if_ok c.take_answer.result (λ piece. piece ≡ answer_piece c.args.self.now c.args.id c.args.rest) (λ piece. each_can_be_written piece ≡ true) (λ piece is. ap each_can_be_written is ∙ answer_writable c.args.self.now c.args.id c.args.rest taken.1 (ap (λ w. are_in_range w.forwarded) (sym c.self.view_is) ∙ c.self.invariant.2)) c.take_answer.ensures.made

pub returns-in-Up-clause-stands : goal.returns-in-Up-clause-stands
returns-in-Up-clause-stands c =
    let taken : MayTake c.args.self.now (Up c.in-Up.field-0) c.args.id c.args.rest = subst (λ p. MayTake c.args.self.now p c.args.id c.args.rest) c.in-Up.is c.requires in
    stands_by c.take_answer.result c.args.self.now c.take_answer.new.self (after_answer c.args.self.now c.args.id) (answer_piece c.args.self.now c.args.id c.args.rest) (λ J h. answer_stands c.args.self.now J c.args.id c.args.rest taken.1 h) c.take_answer.ensures.made c.take_answer.ensures.state
