use Rattle.std.proofs.Common.{◌∙◌, ap, sym}
use Rattle.std.proofs.lemmas.List.{take_rest}
use Rattle.replay_script.specs.Words.{words_left}
use Rattle.replay_script.proofs.Spaces.{words-Some, words-None}
use Rattle.replay_script.proofs.words.Words.next_word.Goals as goal

pub returns-in-Some : goal.returns-in-Some
returns-in-Some c =
    let found = sym c.first_space.ensures ∙ c.in-Some.is in
    rw take_rest (sym c.self.view_is ∙ ap words_left (c.in_ok-rest.was) ∙ words-Some c.in_ok-rest.rest.now c.in-Some.space found)

pub returns-in-None : goal.returns-in-None
returns-in-None c =
    let missed = sym c.first_space.ensures ∙ c.in-None.is in
    sym c.self.view_is ∙ ap words_left (c.in_ok-rest.was) ∙ words-None c.in_ok-rest.rest.now missed
