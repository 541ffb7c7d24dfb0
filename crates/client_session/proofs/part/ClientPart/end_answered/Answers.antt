use Rattle.std.proofs.Common.{◌≡◌, ap, sym, ◌∙◌, find}
use Rattle.client_session.proofs.Answered.{found-number, shows, same-bind, answered-none, answered-plain, answered-bind, is-final-by}
use Rattle.client_session.proofs.part.ClientPart.end_answered.Goals as goal

pub returns-then-not-is_final-clause-state : goal.returns-then-not-is_final-clause-state
returns-then-not-is_final-clause-state c = λ s p mark r h told kind e. answered-none s c.args.at mark c.args.rest.now p r _ (is-final-by r c.args.rest.now c.args.kind kind ∙ sym c.is_final.ensures ∙ c.if-not-is_final.true) h

pub returns-then-is_bind-clause-state : goal.returns-then-is_bind-clause-state
returns-then-is_bind-clause-state c = λ s p mark r h told kind e.
    let has = sym c.in-Some.ensures.row in
    let same = shows s r c.in-Some.row _ has e in
    let number = ap (λ v. v.k) (sym same) ∙ found-number c.args.k _ c.in-Some.row has in
    let final = is-final-by r c.args.rest.now c.args.kind kind ∙ sym c.is_final.ensures ∙ c.if-not-is_final.false in
    answered-bind s c.args.at mark c.args.rest.now p r c.args.k _ final (same-bind s r c.in-Some.row same ∙ sym c.is_bind.ensures ∙ c.if-is_bind.true) number (c.end_bind.ensures.state s _ mark r.request (c.in-Some.ensures.state s p h) told (ap (λ v. v.who) (sym same)))

pub returns-else-is_bind-clause-state : goal.returns-else-is_bind-clause-state
returns-else-is_bind-clause-state c = λ s p mark r h told kind e.
    let has = sym c.in-Some.ensures.row in
    let same = shows s r c.in-Some.row _ has e in
    let number = ap (λ v. v.k) (sym same) ∙ found-number c.args.k _ c.in-Some.row has in
    let final = is-final-by r c.args.rest.now c.args.kind kind ∙ sym c.is_final.ensures ∙ c.if-not-is_final.false in
    answered-plain s c.args.at mark c.args.rest.now p r c.args.k _ final (same-bind s r c.in-Some.row same ∙ sym c.is_bind.ensures ∙ c.if-is_bind.false) number (c.in-Some.ensures.state s p h)
