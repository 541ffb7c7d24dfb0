use Rattle.std.proofs.Common.{◌≡◌, List, ℕ, true, false, ap, sym, subst, ◌∙◌}
use Rattle.ldap_spec.specs.Messages.{Message}
use Rattle.lload_spec.specs.FirstCheck.{Check, Ends, Unbinds, Abandons, Refuses, Answers, Cancels, GoesOn}
use Rattle.part_spec.specs.ClientState.{check_at}
use Rattle.client_session.specs.Checks.{check_view, HasAction}
use Rattle.client_session.proofs.Taken.{on-ok, taken, stays, goes-action}
use Rattle.client_session.proofs.part.ClientPart.take.Goals as goal

pub returns-in-Ends-clause-did : goal.returns-in-Ends-clause-did
returns-in-Ends-clause-did c = on-ok c.end_by_message.result (λ did s p h.
    let m : Message = record { id = c.args.id; rest = c.args.rest } in
    let found : check_at s p m ≡ Ends c.in-Ends.why = ap (λ r. check_at s p (record { id = c.args.id; rest = r })) (sym c.as_slice.ensures) ∙ sym (c.first_check.ensures.check s p h) ∙ ap check_view c.in-Ends.is in
    taken s p c.args.at m (Ends c.in-Ends.why) c.args.out.now _ _ (sym (c.is_present.ensures s p h) ∙ c.if-not-is_present.false) (sym (c.holds.ensures.holds s p h) ∙ c.if-holds.false) found (did s p h found)) c.end_by_message.ensures.did

pub returns-in-Unbinds-clause-did : goal.returns-in-Unbinds-clause-did
returns-in-Unbinds-clause-did c = on-ok c.unbind.result (λ did s p h.
    let m : Message = record { id = c.args.id; rest = c.args.rest } in
    let found : check_at s p m ≡ Unbinds = ap (λ r. check_at s p (record { id = c.args.id; rest = r })) (sym c.as_slice.ensures) ∙ sym (c.first_check.ensures.check s p h) ∙ ap check_view c.in-Unbinds.is in
    taken s p c.args.at m (Unbinds) c.args.out.now _ _ (sym (c.is_present.ensures s p h) ∙ c.if-not-is_present.false) (sym (c.holds.ensures.holds s p h) ∙ c.if-holds.false) found (did s p h found)) c.unbind.ensures.did

pub returns-in-Abandons-clause-did : goal.returns-in-Abandons-clause-did
returns-in-Abandons-clause-did c = on-ok c.abandon.result (λ did s p h.
    let m : Message = record { id = c.args.id; rest = c.args.rest } in
    let found : check_at s p m ≡ Abandons c.in-Abandons.named = ap (λ r. check_at s p (record { id = c.args.id; rest = r })) (sym c.as_slice.ensures) ∙ sym (c.first_check.ensures.check s p h) ∙ ap check_view c.in-Abandons.is in
    taken s p c.args.at m (Abandons c.in-Abandons.named) c.args.out.now _ _ (sym (c.is_present.ensures s p h) ∙ c.if-not-is_present.false) (sym (c.holds.ensures.holds s p h) ∙ c.if-holds.false) found (did s p h found)) c.abandon.ensures.did

pub returns-in-Refuses-clause-did : goal.returns-in-Refuses-clause-did
returns-in-Refuses-clause-did c = on-ok c.refuse.result (λ did s p h.
    let m : Message = record { id = c.args.id; rest = c.args.rest } in
    let found : check_at s p m ≡ Refuses c.in-Refuses.which = ap (λ r. check_at s p (record { id = c.args.id; rest = r })) (sym c.as_slice.ensures) ∙ sym (c.first_check.ensures.check s p h) ∙ ap check_view c.in-Refuses.is in
    taken s p c.args.at m (Refuses c.in-Refuses.which) c.args.out.now _ _ (sym (c.is_present.ensures s p h) ∙ c.if-not-is_present.false) (sym (c.holds.ensures.holds s p h) ∙ c.if-holds.false) found (did s p h found)) c.refuse.ensures.did

pub returns-in-Answers-clause-did : goal.returns-in-Answers-clause-did
returns-in-Answers-clause-did c = on-ok c.answer_cancel.result (λ did s p h.
    let m : Message = record { id = c.args.id; rest = c.args.rest } in
    let found : check_at s p m ≡ Answers c.in-Answers.which = ap (λ r. check_at s p (record { id = c.args.id; rest = r })) (sym c.as_slice.ensures) ∙ sym (c.first_check.ensures.check s p h) ∙ ap check_view c.in-Answers.is in
    taken s p c.args.at m (Answers c.in-Answers.which) c.args.out.now _ _ (sym (c.is_present.ensures s p h) ∙ c.if-not-is_present.false) (sym (c.holds.ensures.holds s p h) ∙ c.if-holds.false) found (did s p h found)) c.answer_cancel.ensures.did

pub returns-in-Cancels-clause-did : goal.returns-in-Cancels-clause-did
returns-in-Cancels-clause-did c = on-ok c.cancel.result (λ did s p h.
    let m : Message = record { id = c.args.id; rest = c.args.rest } in
    let found : check_at s p m ≡ Cancels c.in-Cancels.named c.in-Cancels.kind = ap (λ r. check_at s p (record { id = c.args.id; rest = r })) (sym c.as_slice.ensures) ∙ sym (c.first_check.ensures.check s p h) ∙ ap check_view c.in-Cancels.is in
    taken s p c.args.at m (Cancels c.in-Cancels.named c.in-Cancels.kind) c.args.out.now _ _ (sym (c.is_present.ensures s p h) ∙ c.if-not-is_present.false) (sym (c.holds.ensures.holds s p h) ∙ c.if-holds.false) found (did s p h found)) c.cancel.ensures.did

pub returns-in-GoesOn-clause-did : goal.returns-in-GoesOn-clause-did
returns-in-GoesOn-clause-did c = on-ok c.go_on.result (λ did s p h.
    let m : Message = record { id = c.args.id; rest = c.args.rest } in
    let found : check_at s p m ≡ GoesOn = ap (λ r. check_at s p (record { id = c.args.id; rest = r })) (sym c.as_slice.ensures) ∙ sym (c.first_check.ensures.check s p h) ∙ ap check_view c.in-GoesOn.is in
    let there = sym (c.is_present.ensures s p h) ∙ c.if-not-is_present.false in
    let act = goes-action s c.args.rest _ c.as_slice.ensures c.first_check.result c.in-GoesOn.action c.in-GoesOn.is (c.first_check.ensures.action s p h) in
    taken s p c.args.at m GoesOn c.args.out.now _ _ there (sym (c.holds.ensures.holds s p h) ∙ c.if-holds.false) found (did s p h (stays p there) act found)) c.go_on.ensures.did
