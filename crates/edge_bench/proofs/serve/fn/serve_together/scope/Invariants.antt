use Rattle.edge_bench.proofs.serve.fn.serve_together.scope.Given as goal

abbrev pub invariant-loop-poller : goal.invariant-loop-poller
invariant-loop-poller g l =
    (goal.iterator-loop-poller g).can_next l.poller-iterator ×
    (goal.iterator-loop-poller g).is_finite l.poller-iterator
