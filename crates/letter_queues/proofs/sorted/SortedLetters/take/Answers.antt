use Rattle.std.proofs.Common.{◌≡◌, ap, sym, subst, ◌∙◌}
use Rattle.part_spec.specs.World.{is_between, without_first}
use Rattle.letter_queues.specs.Queues.{first_letter, queue}
use Rattle.letter_queues.specs.Rows.{flights_at, AreNumbered}
use Rattle.letter_queues.proofs.Firsts.{first-taken, none-taken}
use Rattle.letter_queues.proofs.Inserts.{numbered-remove}
use Rattle.letter_queues.proofs.sorted.SortedLetters.take.Goals as goal

pub returns-in_err-spot-clause-letter : goal.returns-in_err-spot-clause-letter
returns-in_err-spot-clause-letter c =
    c.from_residual.ensures
    ∙ sym (none-taken c.args.sender c.args.receiver c.self.inside.rows.entries (sym c.in_err-spot.ensures)).0
    ∙ ap (λ v. first_letter (queue c.args.sender c.args.receiver v)) c.self.view_is

pub returns-in_err-spot-clause-rest : goal.returns-in_err-spot-clause-rest
returns-in_err-spot-clause-rest c =
    let es = c.self.inside.rows.entries in
    let same : without_first (is_between c.args.sender c.args.receiver) (flights_at es) ≡ flights_at es = (none-taken c.args.sender c.args.receiver es (sym c.in_err-spot.ensures)).1 in
    let view : flights_at es ≡ c.args.self.now = c.self.view_is in
    subst (λ v. v ≡ without_first (is_between c.args.sender c.args.receiver) v) view (sym same)

pub invariant_of-self : goal.invariant_of-self
invariant_of-self c = (c.self.invariant.0, (c.remove.ensures.ordered, subst (AreNumbered c.self.inside.low c.self.inside.high) (sym c.remove.ensures.entries) (numbered-remove _ c.self.inside.low c.self.inside.high c.self.inside.rows.entries c.self.invariant.1.1)))

pub returns-clause-letter : goal.returns-clause-letter
returns-clause-letter c =
    c.remove.ensures.value
    ∙ (first-taken c.args.sender c.args.receiver c.in_ok-spot.spot c.self.inside.rows.entries (sym c.in_ok-spot.ensures)).0
    ∙ ap (λ v. first_letter (queue c.args.sender c.args.receiver v)) c.self.view_is

pub returns-clause-rest : goal.returns-clause-rest
returns-clause-rest c =
    ap flights_at c.remove.ensures.entries
    ∙ (first-taken c.args.sender c.args.receiver c.in_ok-spot.spot c.self.inside.rows.entries (sym c.in_ok-spot.ensures)).1
    ∙ ap (without_first (is_between c.args.sender c.args.receiver)) c.self.view_is
