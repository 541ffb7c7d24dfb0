use Rattle.std.proofs.Common.{◌≡◌, ap, sym, subst, ◌∙◌, List, ℕ, Some}
use Rattle.part_spec.specs.ClientState.{with_answer}
use Rattle.std.specs.Option.{option_map}
use Rattle.client_session.specs.Stands.{shown, Stands}
use Rattle.client_session.proofs.Answered.{out-stands}
use Rattle.client_session.proofs.part.ClientPart.take_answer.Goals as goal

pub returns-clause-state : goal.returns-clause-state
returns-clause-state c = λ s p mark h told. out-stands s p c.args.self.now c.end_answered.new.self c.args.at mark c.args.rest c.in-Some.row.now h c.in-Some.ensures.alone (λ r same.
    let P : List ℕ → Type 0 = λ rest. Stands s (with_answer s c.args.at mark rest p r) c.end_answered.new.self in
    subst P c.as_slice.ensures (c.end_answered.ensures.state s p mark r h told (ap (λ v. v.kind) (sym same)) (ap (option_map shown) c.in-Some.ensures.found ∙ ap Some same)))
