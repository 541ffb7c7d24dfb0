use Rattle.std.proofs.Common.{◌≤◌, length, sym, ap, ◌∙◌, arith}
use Rattle.lload_names.specs.Plans.{backends_of}
use Rattle.desk_rules.specs.Fresh.{new_servers, new_turns}
use Rattle.desk_rules.proofs.NewTables.{fresh-tells, fresh-rings}
use Rattle.desk_rules.proofs.plans.fresh.Goals as goal

pub returns-clause-tells : goal.returns-clause-tells
returns-clause-tells c = λ s f e h.
    let few : length (backends_of f.tiers) ≤ 64 = omega (arith, ap (λ ts. length (backends_of ts)) e, c.requires.few) in
    fresh-tells s f h (record { rounds = c.in_ok-rounds_of.field-0; servers = c.in_ok-servers_of.field-0; conns = c.new.result; ready = c.new-2.result }) few
    (c.in_ok-rounds_of.ensures ∙ ap (new_turns 0) (sym e))
    (c.in_ok-servers_of.ensures ∙ ap (λ ts. new_servers 0 (backends_of ts)) (sym e))
    c.new.ensures c.new-2.ensures

pub returns-clause-rings : goal.returns-clause-rings
returns-clause-rings c = fresh-rings c.args.plan.now c.in_ok-rounds_of.field-0.items c.in_ok-rounds_of.ensures
