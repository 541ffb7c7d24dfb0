use Rattle.std.proofs.Common.{◌≡◌, ℕ, ◌+◌, ◌++◌, ◌∷◌, [], List, ap, rules, subst, sym, ◌∙◌}
use Rattle.std.specs.Prelude.{OnOk, IsSome}
use Rattle.std.specs.Ordering.{nat_cmp}
use Rattle.std.specs.BTreeMap.{insert_entry, is_at}
use Rattle.std.specs.Map.{lookup}
use Rattle.op_deadlines.specs.Tree.{Within}
use Rattle.op_deadlines.proofs.Forks.{at_Fork, fork-within, put-first, put-last, absent-before, absent-behind, some-none, started-low, started-high, insert-at-low, insert-at-high, lookup-at-low, lookup-at-high}
use Rattle.op_deadlines.proofs.tree.Tree.+start.Goals as goal

pub put_before-requires-then-is_wider-clause-within : goal.put_before-requires-then-is_wider-clause-within
put_before-requires-then-is_wider-clause-within t c =
    let f = at_Fork c.self.view_is c.self.invariant c.in-Fork.is in
    subst (Within c.in-Fork.first (c.in-Fork.last + 1)) f.is (fork-within f)

pub returns-then-is_wider-clause-started : goal.returns-then-is_wider-clause-started
returns-then-is_wider-clause-started t c =
    let f = at_Fork c.self.view_is c.self.invariant c.in-Fork.is in
    let put = ap (λ (es : List (ℕ × ℕ)). (c.args.id, c.args.now) ∷ es) (sym f.is) ∙ put-first f c.args.id c.args.now c.if-id-from.true in
    subst (λ es. OnOk c.put_before-then-is_wider.result (c.put_before-then-is_wider.new.self ≡ es)) put c.put_before-then-is_wider.ensures.put

pub returns-then-is_wider-clause-no_memory : goal.returns-then-is_wider-clause-no_memory
returns-then-is_wider-clause-no_memory t c h =
    absurd (some-none _ (absent-before (at_Fork c.self.view_is c.self.invariant c.in-Fork.is) c.args.id c.if-id-from.true) h)

pub put_behind-requires-then-is_wider-2-clause-within : goal.put_behind-requires-then-is_wider-2-clause-within
put_behind-requires-then-is_wider-2-clause-within t c =
    let f = at_Fork c.self.view_is c.self.invariant c.in-Fork.is in
    subst (Within c.in-Fork.first (c.in-Fork.last + 1)) f.is (fork-within f)

pub returns-then-is_wider-2-clause-started : goal.returns-then-is_wider-2-clause-started
returns-then-is_wider-2-clause-started t c =
    let f = at_Fork c.self.view_is c.self.invariant c.in-Fork.is in
    let put = ap (λ (es : List (ℕ × ℕ)). es ++ (c.args.id, c.args.now) ∷ []) (sym f.is) ∙ put-last f c.args.id c.args.now c.if-to-id.true in
    subst (λ es. OnOk c.put_behind-then-is_wider-2.result (c.put_behind-then-is_wider-2.new.self ≡ es)) put c.put_behind-then-is_wider-2.ensures.put

pub returns-then-is_wider-2-clause-no_memory : goal.returns-then-is_wider-2-clause-no_memory
returns-then-is_wider-2-clause-no_memory t c h =
    absurd (some-none _ (absent-behind (at_Fork c.self.view_is c.self.invariant c.in-Fork.is) c.args.id c.if-to-id.true) h)

pub returns-in_err-start-in-Fork-clause-no_memory : goal.returns-in_err-start-in-Fork-clause-no_memory
returns-in_err-start-in-Fork-clause-no_memory t c h =
    let f = at_Fork c.self.view_is c.self.invariant c.in-Fork.is in
    let ok = c.start.ensures.no_memory (subst IsSome (lookup-at-low f c.args.id c.if-id-split.true ∙ ap (lookup (is_at (nat_cmp c.args.id))) (sym c.deref_mut.ensures.value)) h) in
    search rules

pub invariant_of-self-then-id-split : goal.invariant_of-self-then-id-split
invariant_of-self-then-id-split t c =
    let f = at_Fork c.self.view_is c.self.invariant c.in-Fork.is in
    let new : c.start.new.self ≡ insert_entry nat_cmp c.in-Fork.low.value c.args.id c.args.now = search rules in
    started-low f c.args.id c.args.now c.min-then-id-split.result c.min.result c.start.new.self c.if-id-split.true (search rules) new (search rules)

pub returns-then-id-split-clause-started : goal.returns-then-id-split-clause-started
returns-then-id-split-clause-started t c =
    let f = at_Fork c.self.view_is c.self.invariant c.in-Fork.is in
    let new : c.start.new.self ≡ insert_entry nat_cmp c.in-Fork.low.value c.args.id c.args.now = search rules in
    ap (λ es. es ++ c.in-Fork.high.value) new ∙ insert-at-low f c.args.id c.args.now c.if-id-split.true

pub returns-in_err-start-in-Fork-2-clause-no_memory : goal.returns-in_err-start-in-Fork-2-clause-no_memory
returns-in_err-start-in-Fork-2-clause-no_memory t c h =
    let f = at_Fork c.self.view_is c.self.invariant c.in-Fork.is in
    let ok = c.start-in-Fork.ensures.no_memory (subst IsSome (lookup-at-high f c.args.id c.if-id-split.false ∙ ap (lookup (is_at (nat_cmp c.args.id))) (sym c.deref_mut-in-Fork.ensures.value)) h) in
    search rules

pub invariant_of-self-in-Fork : goal.invariant_of-self-in-Fork
invariant_of-self-in-Fork t c =
    let f = at_Fork c.self.view_is c.self.invariant c.in-Fork.is in
    let new : c.start-in-Fork.new.self ≡ insert_entry nat_cmp c.in-Fork.high.value c.args.id c.args.now = search rules in
    started-high f c.args.id c.args.now c.min-in-Fork.result c.max.result c.start-in-Fork.new.self c.if-id-split.false (search rules) new (search rules)

pub returns-in_ok-start-in-Fork-2-clause-started : goal.returns-in_ok-start-in-Fork-2-clause-started
returns-in_ok-start-in-Fork-2-clause-started t c =
    let f = at_Fork c.self.view_is c.self.invariant c.in-Fork.is in
    let new : c.start-in-Fork.new.self ≡ insert_entry nat_cmp c.in-Fork.high.value c.args.id c.args.now = search rules in
    ap (λ es. c.in-Fork.low.value ++ es) new ∙ insert-at-high f c.args.id c.args.now c.if-id-split.false
