use Rattle.std.proofs.Common.{sym, ap, ◌∙◌}
use Rattle.lload_conf.specs.Table.{keys_of, named}
use Rattle.lload_conf.proofs.table.key_among.Goals as goal

pub returns-in-Bind : goal.returns-in-Bind
returns-in-Bind c = c.named.ensures ∙ ap (λ keys. named (keys_of keys) c.args.name.now) (sym c.in-Bind.is)

pub returns-in-Backend : goal.returns-in-Backend
returns-in-Backend c = c.named-in-Backend.ensures ∙ ap (λ keys. named (keys_of keys) c.args.name.now) (sym c.in-Backend.is)
