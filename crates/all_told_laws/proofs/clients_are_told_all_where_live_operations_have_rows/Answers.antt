use Rattle.all_told_laws.proofs.AllTold.{told_all}
use Rattle.all_told_laws.proofs.clients_are_told_all_where_live_operations_have_rows.Goals as goal

pub returns : goal.returns
returns c =
    told_all (record {
      fit_whole = c.a_fit_list_begins_with_all_of_it.ensures;
      rows_open = c.the_rows_of_a_regular_connection_are_its_open_sents.ensures;
      says = c.a_bind_connection_says_what_the_family_says.ensures;
      are_known = c.a_client_is_who_the_family_says.ensures.known;
      checks = c.a_client_is_who_the_family_says.ensures.checks;
      several = c.shares_and_links_give_what_is_said_of_several_lists.ensures;
      asks = c.each_request_asks_for_what_binds_its_client.ensures;
      goes = c.a_request_is_sent_where_its_first_check_let_it_go.ensures;
      once = c.an_operation_is_sent_once.ensures;
      answered = c.a_client_gets_what_its_upstream_answered.ensures;
    })
