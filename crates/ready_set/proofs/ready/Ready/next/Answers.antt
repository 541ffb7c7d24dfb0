use Rattle.std.proofs.Common.{sym, ◌∙◌, refl}
use Rattle.ready_set.proofs.Readies.{missing, found}
use Rattle.ready_set.proofs.ready.Ready.next.Goals as goal

pub returns-in_err-slot : goal.returns-in_err-slot
returns-in_err-slot c = λ s among k. c.from_residual.ensures ∙ sym (missing s among c.args.self.now c.args.from c.args.to k (c.in_err-slot.ensures.none refl))

pub returns : goal.returns
returns c = λ s among k. sym (found s among c.args.self.now c.args.from c.args.to c.in_ok-slot.slot.place c.in_ok-slot.slot.conn k (c.in_ok-slot.ensures.has _ refl) (c.in_ok-slot.ensures.from _ refl) (c.in_ok-slot.ensures.to _ refl) (c.in_ok-slot.ensures.small _ refl) (c.in_ok-slot.ensures.first _ refl) (c.in_ok-slot.ensures.greatest _ refl))
