-- Each promise and its computed test say the same.
use Rattle.lload_spec.proofs.Growth.{left, right, both}
use Rattle.lload_spec.specs.Tested.{FifoTested, OneEachTested, CausedTested, GoodTested, StrictTested, SettledTested}

pub fifo_tested : FifoTested
fifo_tested F = (
  λ r. both _ _ (both _ _ (both _ _ (both _ _ (both _ _ (both _ _ r.sent_once r.answered) (r.unanswered)) (r.ended_once)) (r.outs_owned)) (r.sent_chosen)) (r.in_place),
  λ h. record {
    sent_once = left _ _ (left _ _ (left _ _ (left _ _ (left _ _ (left _ _ h)))));
    answered = right _ _ (left _ _ (left _ _ (left _ _ (left _ _ (left _ _ h)))));
    unanswered = right _ _ (left _ _ (left _ _ (left _ _ (left _ _ h))));
    ended_once = right _ _ (left _ _ (left _ _ (left _ _ h)));
    outs_owned = right _ _ (left _ _ (left _ _ h));
    sent_chosen = right _ _ (left _ _ h);
    in_place = right _ _ h;
  },
)

pub one_each_tested : OneEachTested
one_each_tested s F = (
  λ r. both _ _ (both _ _ r.ids_right r.holder_alone) (r.own_reasoned),
  λ h. record {
    ids_right = left _ _ (left _ _ h);
    holder_alone = right _ _ (left _ _ h);
    own_reasoned = right _ _ h;
  },
)

pub caused_tested : CausedTested
caused_tested s F = (
  λ r. both _ _ (both _ _ (both _ _ (both _ _ (both _ _ (both _ _ (both _ _ (both _ _ (both _ _ (both _ _ (both _ _ (both _ _ (both _ _ (both _ _ (both _ _ (both _ _ r.refusals r.checks) (r.busy)) (r.unavailable)) (r.gone)) (r.late)) (r.ups)) (r.retirements)) (r.own_bind_ends)) (r.expired)) (r.missed)) (r.bad_messages)) (r.downs)) (r.stalls)) (r.moments)) (r.bind_expiries)) (r.entries_placed),
  λ h. record {
    refusals = left _ _ (left _ _ (left _ _ (left _ _ (left _ _ (left _ _ (left _ _ (left _ _ (left _ _ (left _ _ (left _ _ (left _ _ (left _ _ (left _ _ (left _ _ (left _ _ h)))))))))))))));
    checks = right _ _ (left _ _ (left _ _ (left _ _ (left _ _ (left _ _ (left _ _ (left _ _ (left _ _ (left _ _ (left _ _ (left _ _ (left _ _ (left _ _ (left _ _ (left _ _ h)))))))))))))));
    busy = right _ _ (left _ _ (left _ _ (left _ _ (left _ _ (left _ _ (left _ _ (left _ _ (left _ _ (left _ _ (left _ _ (left _ _ (left _ _ (left _ _ (left _ _ h))))))))))))));
    unavailable = right _ _ (left _ _ (left _ _ (left _ _ (left _ _ (left _ _ (left _ _ (left _ _ (left _ _ (left _ _ (left _ _ (left _ _ (left _ _ (left _ _ h)))))))))))));
    gone = right _ _ (left _ _ (left _ _ (left _ _ (left _ _ (left _ _ (left _ _ (left _ _ (left _ _ (left _ _ (left _ _ (left _ _ (left _ _ h))))))))))));
    late = right _ _ (left _ _ (left _ _ (left _ _ (left _ _ (left _ _ (left _ _ (left _ _ (left _ _ (left _ _ (left _ _ (left _ _ h)))))))))));
    ups = right _ _ (left _ _ (left _ _ (left _ _ (left _ _ (left _ _ (left _ _ (left _ _ (left _ _ (left _ _ (left _ _ h))))))))));
    retirements = right _ _ (left _ _ (left _ _ (left _ _ (left _ _ (left _ _ (left _ _ (left _ _ (left _ _ (left _ _ h)))))))));
    own_bind_ends = right _ _ (left _ _ (left _ _ (left _ _ (left _ _ (left _ _ (left _ _ (left _ _ (left _ _ h))))))));
    expired = right _ _ (left _ _ (left _ _ (left _ _ (left _ _ (left _ _ (left _ _ (left _ _ h)))))));
    missed = right _ _ (left _ _ (left _ _ (left _ _ (left _ _ (left _ _ (left _ _ h))))));
    bad_messages = right _ _ (left _ _ (left _ _ (left _ _ (left _ _ (left _ _ h)))));
    downs = right _ _ (left _ _ (left _ _ (left _ _ (left _ _ h))));
    stalls = right _ _ (left _ _ (left _ _ (left _ _ h)));
    moments = right _ _ (left _ _ (left _ _ h));
    bind_expiries = right _ _ (left _ _ h);
    entries_placed = right _ _ h;
  },
)

pub strict_tested : StrictTested
strict_tested s F = (
  λ r. both _ _ (both _ _ (both _ _ (both _ _ (both _ _ (both _ _ (both _ _ (both _ _ (both _ _ (both _ _ (both _ _ (both _ _ r.clients_live r.connections_live) (r.desk_lives)) (r.sent_rightly)) (r.successes_known)) (r.connections_placed)) (r.missed_once)) (r.idle_owed)) (r.pauses_owed)) (r.late_owed)) (r.outs_chosen)) (r.heard_in_order)) (r.latencies_right),
  λ h. record {
    clients_live = left _ _ (left _ _ (left _ _ (left _ _ (left _ _ (left _ _ (left _ _ (left _ _ (left _ _ (left _ _ (left _ _ (left _ _ h)))))))))));
    connections_live = right _ _ (left _ _ (left _ _ (left _ _ (left _ _ (left _ _ (left _ _ (left _ _ (left _ _ (left _ _ (left _ _ (left _ _ h)))))))))));
    desk_lives = right _ _ (left _ _ (left _ _ (left _ _ (left _ _ (left _ _ (left _ _ (left _ _ (left _ _ (left _ _ (left _ _ h))))))))));
    sent_rightly = right _ _ (left _ _ (left _ _ (left _ _ (left _ _ (left _ _ (left _ _ (left _ _ (left _ _ (left _ _ h)))))))));
    successes_known = right _ _ (left _ _ (left _ _ (left _ _ (left _ _ (left _ _ (left _ _ (left _ _ (left _ _ h))))))));
    connections_placed = right _ _ (left _ _ (left _ _ (left _ _ (left _ _ (left _ _ (left _ _ (left _ _ h)))))));
    missed_once = right _ _ (left _ _ (left _ _ (left _ _ (left _ _ (left _ _ (left _ _ h))))));
    idle_owed = right _ _ (left _ _ (left _ _ (left _ _ (left _ _ (left _ _ h)))));
    pauses_owed = right _ _ (left _ _ (left _ _ (left _ _ (left _ _ h))));
    late_owed = right _ _ (left _ _ (left _ _ (left _ _ h)));
    outs_chosen = right _ _ (left _ _ (left _ _ h));
    heard_in_order = right _ _ (left _ _ h);
    latencies_right = right _ _ h;
  },
)

pub settled_tested : SettledTested
settled_tested s F = (
  λ r. both _ _ (both _ _ (both _ _ (both _ _ (both _ _ (both _ _ (both _ _ r.dealt_with r.told_all) (r.told_upstream)) (r.states_heard)) (r.ends_heard)) (r.returns_heard)) (r.pauses_settled)) (r.leaves_told),
  λ h. record {
    dealt_with = left _ _ (left _ _ (left _ _ (left _ _ (left _ _ (left _ _ (left _ _ h))))));
    told_all = right _ _ (left _ _ (left _ _ (left _ _ (left _ _ (left _ _ (left _ _ h))))));
    told_upstream = right _ _ (left _ _ (left _ _ (left _ _ (left _ _ (left _ _ h)))));
    states_heard = right _ _ (left _ _ (left _ _ (left _ _ (left _ _ h))));
    ends_heard = right _ _ (left _ _ (left _ _ (left _ _ h)));
    returns_heard = right _ _ (left _ _ (left _ _ h));
    pauses_settled = right _ _ (left _ _ h);
    leaves_told = right _ _ h;
  },
)

pub good_tested : GoodTested
good_tested s F = (
  λ r. both _ _ (both _ _ (both _ _ (both _ _ (both _ _ (((fifo_tested F).0 r.fifo)) (r.identity)) (r.bound)) (r.right)) (((one_each_tested s F).0 r.one_each))) (((caused_tested s F).0 r.caused)),
  λ h. record {
    fifo = (fifo_tested F).1 (left _ _ (left _ _ (left _ _ (left _ _ (left _ _ h)))));
    identity = right _ _ (left _ _ (left _ _ (left _ _ (left _ _ h))));
    bound = right _ _ (left _ _ (left _ _ (left _ _ h)));
    right = right _ _ (left _ _ (left _ _ h));
    one_each = (one_each_tested s F).1 (right _ _ (left _ _ h));
    caused = (caused_tested s F).1 (right _ _ h);
  },
)
