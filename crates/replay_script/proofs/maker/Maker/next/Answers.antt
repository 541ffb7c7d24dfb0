use Rattle.std.proofs.Common.{◌≡◌, ◌≤◌, [], arith, rules, ap, ◌∙◌}
use Rattle.rand_pcg.specs.Pcg.{pcg32}
use Rattle.replay_script.proofs.Making.{own-rest, round-made, round-left}
use Rattle.replay_script.proofs.maker.Maker.next.Goals as goal

pub returns-clause-command : goal.returns-clause-command
returns-clause-command c =
    let none : c.self.inside.waiting.items ≡ [] = own-rest c.self.inside.waiting.items c.pop_front.new.self.items c.in_default.ensures.items c.in_default.ensures.rest in
    let some : 1 ≤ c.self.inside.left = omega (arith, c.if-self-eq0.false) in
    let same : c.in_ok-words.words ≡ c.self.inside.words = search rules in
    round-made c.args.self.now c.self.inside.waiting.items c.in_ok-commands.commands.items c.pop_front-command.new.self.items c.pop_front-command.result c.self.inside.left c.self.inside.next c.next_word-word.result c.self.inside.words c.next_word-word.new.self c.self.view_is none some (c.next_word-word.ensures ∙ ap pcg32 same) (search rules) c.pop_front-command.ensures.items

pub returns-clause-no_memory : goal.returns-clause-no_memory
returns-clause-no_memory c empty =
    let none : c.self.inside.waiting.items ≡ [] = own-rest c.self.inside.waiting.items c.pop_front.new.self.items c.in_default.ensures.items c.in_default.ensures.rest in
    let some : 1 ≤ c.self.inside.left = omega (arith, c.if-self-eq0.false) in
    absurd (round-left c.args.self.now c.self.inside.waiting.items c.self.inside.left c.self.inside.next c.self.inside.words c.self.view_is none some empty)
