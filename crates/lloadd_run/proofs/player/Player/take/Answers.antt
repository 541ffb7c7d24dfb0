use Rattle.std.proofs.Common.{◌≡◌, ◌∷◌, [], refl, arith}
use Rattle.std.proofs.lemmas.Bool.Decides.{nat_tests}
use Rattle.std.specs.Prelude.{◌==◌, false}
use Rattle.lloadd_run.proofs.PlayerLaws.{takes_end, stood_byte, part_stood}
use Rattle.lloadd_run.proofs.player.Player.take.Goals as goal

pub returns-then-byte-eq-LINE_END-clause-takes : goal.returns-then-byte-eq-LINE_END-clause-takes
returns-then-byte-eq-LINE_END-clause-takes g c =
    let ends = takes_end _ _ _ _ _ c.end_line.ensures.ends in
    let is = c.if-byte-eq-LINE_END.true in
    rw is ends

pub returns-in-Ok-clause-takes : goal.returns-in-Ok-clause-takes
returns-in-Ok-clause-takes g c =
    let inner : (c.args.byte == 10) ≡ false = grind (arith, nat_tests, c.if-byte-eq-LINE_END.false) in
    λ taken first s. stood_byte c.args.self.now _ taken c.args.byte first _ inner refl c.in-Ok.ensures.items refl refl s

pub returns-in-Err-clause-takes : goal.returns-in-Err-clause-takes
returns-in-Err-clause-takes g c = λ taken first s. part_stood c.args.self.now taken (c.args.byte ∷ []) first _ s
