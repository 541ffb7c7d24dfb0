-- What a line that is played adds to a history, and that the play stands for the longer one.
use Rattle.std.specs.Prelude.{◌≡◌, ℕ, ◌+◌, true, false, ◌==◌, if◌then◌else◌, List, [], ◌∷◌, ◌++◌}
use Rattle.std.proofs.Common.{ap, ◌∙◌, sym, subst, arith}
use Rattle.ldap_spec.specs.Framing.{IsStream}
use Rattle.lload_names.specs.declared.names.Entry.{Entry}
use Rattle.lload_names.specs.declared.names.PartName.TheVariants.{Client, Up as Connection}
use Rattle.lload_names.specs.declared.command.Command.{Command}
use Rattle.small_spec.specs.Journal.{of_part}
use Rattle.small_spec.specs.History.{Line, commands, journal, fed, fed_by, moment, ticked_by, word, word_by, in_messages, got_messages}
use Rattle.small_spec.specs.Standing.{stands, was_fed, fed_after}
use Rattle.small_spec.specs.Follows.{EachHasRead, Makes, Obeys}
use Rattle.small_spec.specs.Plain.{plain}
use Rattle.small_world.specs.Stands.{StandsFor}
use Rattle.small_world.proofs.Promises.{standing_is_fifo, standing_ids_rise}
use Rattle.small_play.specs.PlayState.{PlayState}
use Rattle.small_play.specs.Plays.{Plays}
use Rattle.small_play.specs.Waiting.{waits}
use Rattle.small_play.proofs.Histories.{each_more, commands_more, journal_more, fed_more, moment_more, word_more, was_fed_more, kept_more}

-- the messages that a part took and those that wait are all that it was fed
abbrev pub ClientReads : PlayState → List Command → List ℕ → List Entry → ℕ → Type 0
ClientReads q cs bytes J n = IsStream plain.max_incoming_client (fed (Client n) cs ++ bytes) (in_messages (of_part (Client n) J) ++ (if n == 1 then q.requests else [])) []

abbrev pub ConnectionReads : PlayState → List Command → List ℕ → List Entry → ℕ → Type 0
ConnectionReads q cs bytes J n = IsStream plain.max_incoming_upstream (fed (Connection n) cs ++ bytes) (got_messages (of_part (Connection n) J) ++ (if n == 1 then q.answers else [])) []

-- a command that stands behind a history, the entries that it made, and the play behind it
pub record Goes (q : PlayState) (history : List Line) (command : Command) (piece : List Entry) : Type 0 where
  pub stood : stands plain history command ≡ true
  pub made : Makes plain history command piece
  pub stands : StandsFor q.world (journal history ++ piece)
  pub still : ticked_by command ≡ 0
  pub wordless : word_by command 0 ≡ 0
  pub clients : (n : ℕ) → ClientReads q (commands history) (fed_by (Client n) command) (journal history ++ piece) n
  pub connections : (n : ℕ) → ConnectionReads q (commands history) (fed_by (Connection n) command) (journal history ++ piece) n
  pub fed_since : (id : ℕ) → fed_after (was_fed 1 id (commands history)) 1 id command ≡ waits q.requests id

went_reads : (p q : PlayState) (history : List Line) (command : Command) (piece : List Entry) → Goes q history command piece → EachHasRead plain (commands history ++ command ∷ []) (journal history ++ piece)
went_reads p q history command piece g = record {
  clients = λ n. ((if n == 1 then q.requests else []), [], subst (λ bytes. IsStream plain.max_incoming_client bytes (in_messages (of_part (Client n) (journal history ++ piece)) ++ (if n == 1 then q.requests else [])) []) (sym (fed_more (Client n) (commands history) command)) (g.clients n));
  connections = λ n. ((if n == 1 then q.answers else []), [], subst (λ bytes. IsStream plain.max_incoming_upstream bytes (got_messages (of_part (Connection n) (journal history ++ piece)) ++ (if n == 1 then q.answers else [])) []) (sym (fed_more (Connection n) (commands history) command)) (g.connections n));
}

pub went : (p q : PlayState) (history : List Line) (command : Command) (piece : List Entry) → Plays p history → Goes q history command piece → Plays q (history ++ record { command = command; piece = piece } ∷ [])
went p q history command piece h g = record {
  follows = each_more (Obeys plain) [] history line h.follows (record { stood = g.stood; made = g.made; read = went_reads p q history command piece g });
  kept = kept_more history line h.kept (standing_is_fifo q.world (journal history ++ piece) g.stands, standing_ids_rise q.world (journal history ++ piece) g.stands);
  stands = subst (StandsFor q.world) (sym grown) g.stands;
  still = ap moment more ∙ moment_more (commands history) command ∙ sums (moment (commands history)) (ticked_by command) h.still g.still;
  wordless = ap word more ∙ word_more 0 (commands history) command ∙ ap (word_by command) h.wordless ∙ g.wordless;
  clients = λ n. subst (λ bytes. IsStream plain.max_incoming_client bytes (in_messages (of_part (Client n) (journal (history ++ line ∷ []))) ++ (if n == 1 then q.requests else [])) []) (sym (ap (fed (Client n)) more ∙ fed_more (Client n) (commands history) command)) (subst (λ J. ClientReads q (commands history) (fed_by (Client n) command) J n) (sym grown) (g.clients n));
  connections = λ n. subst (λ bytes. IsStream plain.max_incoming_upstream bytes (got_messages (of_part (Connection n) (journal (history ++ line ∷ []))) ++ (if n == 1 then q.answers else [])) []) (sym (ap (fed (Connection n)) more ∙ fed_more (Connection n) (commands history) command)) (subst (λ J. ConnectionReads q (commands history) (fed_by (Connection n) command) J n) (sym grown) (g.connections n));
  fed_since = λ id. ap (was_fed 1 id) more ∙ was_fed_more false 1 id (commands history) command ∙ g.fed_since id;
}
  where
    line : Line
    line = record { command = command; piece = piece }

    more : commands (history ++ line ∷ []) ≡ commands history ++ command ∷ []
    more = commands_more history line

    grown : journal (history ++ line ∷ []) ≡ journal history ++ piece
    grown = journal_more history line

    sums : (a b : ℕ) → a ≡ 0 → b ≡ 0 → a + b ≡ 0
    sums a b x y = omega arith
