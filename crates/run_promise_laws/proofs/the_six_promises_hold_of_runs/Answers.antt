use Rattle.run_promise_laws.proofs.the_six_promises_hold_of_runs.Goals as goal

pub returns : goal.returns
returns c = λ s ms k. record {
  fifo = c.each_client_of_a_run_gets_one_upstreams_answers_in_order.ensures.fifo s ms k;
  identity = c.requests_carry_their_own_clients_identity_in_runs.ensures s ms k;
  bound = (c.requests_ask_for_what_binds_their_clients_in_runs.ensures.asks s ms k).rightly;
  right = (c.promises_of_one_list_hold_of_runs.ensures s ms k).right;
  one_each = record {
    ids_right = c.upstream_promises_hold_of_runs.ensures.identifiers s ms k;
    holder_alone = c.bind_connections_are_known_in_runs.ensures.alone s ms k;
    own_reasoned = c.upstream_promises_hold_of_runs.ensures.own s ms k;
  };
  caused = record {
    refusals = c.clients_are_told_rightly_in_runs.ensures.refusals s ms k;
    checks = (c.clients_are_known_in_runs.ensures.checks s ms k).checks;
    busy = (c.promises_of_one_list_hold_of_runs.ensures s ms k).busy;
    unavailable = (c.promises_of_one_list_hold_of_runs.ensures s ms k).unavailable;
    gone = (c.clients_are_known_in_runs.ensures.checks s ms k).gone;
    late = (c.promises_of_one_list_hold_of_runs.ensures s ms k).late;
    ups = (c.promises_of_one_list_hold_of_runs.ensures s ms k).ups;
    retirements = (c.promises_of_one_list_hold_of_runs.ensures s ms k).retirements;
    own_bind_ends = (c.promises_of_one_list_hold_of_runs.ensures s ms k).own_bind_ends;
    expired = c.upstream_promises_hold_of_runs.ensures.expiries s ms k;
    missed = (c.promises_of_one_list_hold_of_runs.ensures s ms k).missed;
    bad_messages = c.upstream_promises_hold_of_runs.ensures.bad_messages s ms k;
    downs = c.upstream_promises_hold_of_runs.ensures.ends s ms k;
    stalls = (c.promises_of_one_list_hold_of_runs.ensures s ms k).stalls;
    moments = (c.promises_of_one_list_hold_of_runs.ensures s ms k).moments;
    bind_expiries = c.bind_connections_are_known_in_runs.ensures.expired s ms k;
    entries_placed = (c.promises_of_one_list_hold_of_runs.ensures s ms k).entries_placed;
  };
}
