use Rattle.std.proofs.Common.{ap, sym, ◌∙◌}
use Rattle.lload_conf.specs.Draft.{before_draft}
use Rattle.lload_conf.specs.Faults.{entry_fault}
use Rattle.lload_conf.proofs.Drafts.{clear, none-there, restricted-not}
use Rattle.lload_conf.proofs.draft.Draft.take.Goals as goal

pub set-requires : goal.set-requires
set-requires c =
    let entry = c.in-Some-directive_named.entry in
    let words = c.in-Some.arguments.now in
    let before = before_draft c.args.self.now entry.0 words in
    let no = clear before entry words (sym (c.in_ok-fault.ensures ∙ ap (λ b. entry_fault b entry words) c.before-before.ensures) ∙ none-there c.in_ok-fault.fault c.is_none.result c.is_none.ensures c.if-is_none.true) in
    record { limit = no.limit; new = restricted-not c.args.self.now entry.0 words no }
