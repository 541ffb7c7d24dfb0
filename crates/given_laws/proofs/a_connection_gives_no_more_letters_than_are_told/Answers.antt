use Rattle.given_laws.proofs.Join.{given_as_told}
use Rattle.given_laws.proofs.a_connection_gives_no_more_letters_than_are_told.Goals as goal

pub returns : goal.returns
returns c =
    given_as_told c.an_operation_is_sent_once.ensures c.shares_and_links_give_what_is_said_of_several_lists.ensures
    c.a_forward_says_of_its_operation_what_the_family_says.ensures
