use Rattle.run_promise_laws.proofs.what_is_promised_beside_them_holds_of_runs.Goals as goal

pub returns : goal.returns
returns c = λ s ms k. record {
  clients_live = (c.promises_of_several_lists_hold_of_runs.ensures s ms k).clients_live;
  connections_live = c.connections_live_in_runs.ensures.life s ms k;
  desk_lives = c.the_desk_lives_in_runs.ensures.life s ms k;
  sent_rightly = (c.requests_go_where_their_first_checks_let_them_in_runs.ensures s ms k).sent;
  successes_known = c.clients_are_told_rightly_in_runs.ensures.identities s ms k;
  connections_placed = c.connections_live_in_runs.ensures.places s ms k;
  missed_once = (c.promises_of_several_lists_hold_of_runs.ensures s ms k).missed_once;
  idle_owed = c.connections_live_in_runs.ensures.idle s ms k;
  pauses_owed = c.connections_pause_as_clients_told_them_in_runs.ensures.owed s ms k;
  late_owed = c.clients_are_told_rightly_in_runs.ensures.owed s ms k;
  outs_chosen = c.clients_are_told_rightly_in_runs.ensures.choices s ms k;
  heard_in_order = c.the_desk_hears_of_connections_in_order_in_runs.ensures s ms k;
  latencies_right = c.the_desk_lives_in_runs.ensures.latencies s ms k;
}
