use Rattle.run_promise_laws.proofs.nothing_is_left_where_nothing_waits_in_runs.Goals as goal

pub returns : goal.returns
returns c = λ s ms k none. record {
  dealt_with = c.each_operation_is_dealt_with.ensures s ms k none;
  told_all = c.each_client_was_told_all_where_nothing_waits.ensures s ms k none;
  told_upstream = c.each_upstream_was_told_where_nothing_waits.ensures s ms k none;
  states_heard = c.each_state_is_heard_where_nothing_waits.ensures s ms k none;
  ends_heard = c.the_desk_lives_in_runs.ensures.ends s ms k none;
  returns_heard = (c.what_was_given_was_heard_in_runs.ensures s ms k none).returns;
  pauses_settled = c.connections_pause_as_clients_told_them_in_runs.ensures.settled s ms k none;
  leaves_told = c.leaves_are_told_in_runs.ensures s ms k none;
}
