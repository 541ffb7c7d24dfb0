use Rattle.std.proofs.Common.{◌≡◌, ◌==◌, false, sym, ◌∙◌, arith}
use Rattle.std.proofs.lemmas.Bool.Decides.{nat_tests}
use Rattle.std.proofs.Common.{ap}
use Rattle.std.specs.Option.{option_to_list, option_copied}
use Rattle.client_session.specs.Checks.{facts}
use Rattle.client_session.proofs.Facts.{cancels-one, cancels-bind, cancels-none, names-another}
use Rattle.client_session.proofs.part.ClientPart.check_cancel.Goals as goal

pub returns-in-Some-under-clause-check : goal.returns-in-Some-under-clause-check
returns-in-Some-under-clause-check c =
    let other : (c.in-Some.named == c.args.id) ≡ false = grind (arith, nat_tests, c.if-named-id.false) in
    rw c.in-Some.is (sym (names-another (facts c.args.self.now) c.args.id c.in-Some.named _ other (cancels-one c.in-Some.named _ c.in-Some-under.row.now c.in-Some-under.ensures (sym c.if-not-is_bind.ensures))))

pub returns-in_default-under-clause-check : goal.returns-in_default-under-clause-check
returns-in_default-under-clause-check c =
    let other : (c.in-Some.named == c.args.id) ≡ false = grind (arith, nat_tests, c.if-named-id.false) in
    rw c.in-Some.is (sym (names-another (facts c.args.self.now) c.args.id c.in-Some.named _ other (cancels-bind c.in-Some.named _ c.in-Some-under.row.now c.in-Some-under.ensures (sym c.if-not-is_bind.ensures))))

pub returns-in_default-under-2-clause-check : goal.returns-in_default-under-2-clause-check
returns-in_default-under-2-clause-check c =
    let other : (c.in-Some.named == c.args.id) ≡ false = grind (arith, nat_tests, c.if-named-id.false) in
    rw c.in-Some.is (sym (names-another (facts c.args.self.now) c.args.id c.in-Some.named _ other (cancels-none c.in-Some.named _ (c.under.ensures ∙ ap (λ o. option_to_list (option_copied o)) c.in_default-under.is))))
