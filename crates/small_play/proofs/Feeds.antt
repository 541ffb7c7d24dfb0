-- A message is fed to a part: the play stands for the history with the line.
use Rattle.std.specs.Prelude.{◌≡◌, ℕ, Bool, true, false, ◌==◌, ◌||◌, if◌then◌else◌, List, [], ◌∷◌, ◌++◌, refl}
use Rattle.std.proofs.Common.{ap, ◌∙◌, sym, subst, append_assoc}
use Rattle.std.proofs.lemmas.Bool.{eqb-true}
use Rattle.std.proofs.lemmas.List.{append-nil}
use Rattle.std.proofs.lemmas.List.Folds.{list_any-append}
use Rattle.ldap_spec.specs.Messages.{Message, SpellsWithin}
use Rattle.ldap_spec.specs.Framing.{IsStream}
use Rattle.ldap_spec.proofs.Spelled.{spelled_computes, spelled_computes_within}
use Rattle.lload_names.specs.declared.names.PartName.TheVariants.{Client, Up as Connection}
use Rattle.lload_names.specs.declared.command.Command.TheVariants.{ClientBytes, UpBytes}
use Rattle.small_spec.specs.Lists.{passes}
use Rattle.small_spec.specs.Journal.{of_part}
use Rattle.small_spec.specs.History.{Line, commands, journal, fed, in_messages, got_messages}
use Rattle.small_spec.specs.Standing.{was_fed}
use Rattle.small_spec.specs.Plain.{plain}
use Rattle.small_spec.proofs.Growth.{left}
use Rattle.small_world.specs.States.{is_linked_state}
use Rattle.small_world.specs.Stands.{StandsFor}
use Rattle.small_play.specs.PlayState.{PlayState}
use Rattle.small_play.specs.Waiting.{waits}
use Rattle.small_play.specs.Plays.{Plays}
use Rattle.small_play.specs.Feeding.{may_be_fed, fed_with, TakesIn}
use Rattle.small_play.proofs.Histories.{in_more, got_more}
use Rattle.small_play.proofs.FedBytes.{stream_more}
use Rattle.small_play.proofs.Steps.{went}
use Rattle.small_play.proofs.Standing.{feeding_stands, answering_stands}
use Rattle.small_play.proofs.Begins.{client_quiet, connection_quiet, or_false}

-- a stream with a message more for one part
stream_fed : (b : Bool) (limit : ℕ) (bytes s : List ℕ) (ms ks : List Message) (m : Message) → IsStream limit bytes (ms ++ (if b then ks else [])) [] → SpellsWithin limit s m → IsStream limit (bytes ++ (if b then s else [])) ((ms ++ []) ++ (if b then ks ++ m ∷ [] else [])) []
stream_fed true limit bytes s ms ks m h spelled = subst (λ l. IsStream limit (bytes ++ s) l []) (append_assoc ms ks (m ∷ []) ∙ ap (λ l. l ++ (ks ++ m ∷ [])) (sym (append-nil ms))) (stream_more limit bytes (ms ++ ks) s m h spelled)
stream_fed false limit bytes s ms ks m h spelled = subst (λ l. IsStream limit l ((ms ++ []) ++ []) []) (sym (append-nil bytes)) (subst (λ l. IsStream limit bytes (l ++ []) []) (sym (append-nil ms)) h)

request_fed : (p : PlayState) (history : List Line) (bytes : List ℕ) (m : Message) → Plays p history → SpellsWithin plain.max_incoming_client bytes m → may_be_fed p (Client 1) m ≡ true → Plays (fed_with p (Client 1) m) (history ++ record { command = ClientBytes 1 bytes; piece = [] } ∷ [])
request_fed p history bytes m h spelled may = went p (fed_with p (Client 1) m) history (ClientBytes 1 bytes) [] h (record {
  stood = feeding_stands p history 1 bytes h ∙ ap (passes (may_be_fed p (Client 1))) (spelled_computes_within plain.max_incoming_client bytes m spelled) ∙ may;
  made = refl;
  stands = subst (StandsFor p.world) (sym (append-nil (journal history))) h.stands;
  still = refl;
  wordless = refl;
  clients = λ n. subst (λ ms. IsStream plain.max_incoming_client (fed (Client n) (commands history) ++ (if n == 1 then bytes else [])) (ms ++ (if n == 1 then p.requests ++ m ∷ [] else [])) []) (sym (in_more (Client n) (journal history) [])) (stream_fed (n == 1) plain.max_incoming_client (fed (Client n) (commands history)) bytes (in_messages (of_part (Client n) (journal history))) p.requests m (h.clients n) spelled);
  connections = λ n. connection_quiet (fed_with p (Client 1) m) (commands history) (journal history) [] n refl (h.connections n);
  fed_since = λ id. ap (λ o. was_fed 1 id (commands history) || passes (λ k. k.id == id) o) (spelled_computes bytes m spelled.spelling) ∙ ap (λ b. b || (m.id == id)) (h.fed_since id) ∙ ap (λ b. waits p.requests id || b) (sym (or_false (m.id == id))) ∙ sym (list_any-append (λ k. k.id == id) p.requests (m ∷ []));
})

answer_fed : (p : PlayState) (history : List Line) (bytes : List ℕ) (m : Message) → Plays p history → SpellsWithin plain.max_incoming_upstream bytes m → may_be_fed p (Connection 1) m ≡ true → Plays (fed_with p (Connection 1) m) (history ++ record { command = UpBytes 1 bytes; piece = [] } ∷ [])
answer_fed p history bytes m h spelled may = went p (fed_with p (Connection 1) m) history (UpBytes 1 bytes) [] h (record {
  stood = answering_stands p history 1 bytes h ∙ ap (passes (may_be_fed p (Connection 1))) (spelled_computes_within plain.max_incoming_upstream bytes m spelled) ∙ may;
  made = refl;
  stands = subst (StandsFor p.world) (sym (append-nil (journal history))) h.stands;
  still = refl;
  wordless = refl;
  clients = λ n. client_quiet (fed_with p (Connection 1) m) (commands history) (journal history) [] n refl (h.clients n);
  connections = λ n. subst (λ ms. IsStream plain.max_incoming_upstream (fed (Connection n) (commands history) ++ (if n == 1 then bytes else [])) (ms ++ (if n == 1 then p.answers ++ m ∷ [] else [])) []) (sym (got_more (Connection n) (journal history) [])) (stream_fed (n == 1) plain.max_incoming_upstream (fed (Connection n) (commands history)) bytes (got_messages (of_part (Connection n) (journal history))) p.answers m (h.connections n) spelled);
  fed_since = λ id. or_false (was_fed 1 id (commands history)) ∙ h.fed_since id;
})

-- only the parts with the number 1 are fed
pub feeds : (p q : PlayState) (history : List Line) (n : ℕ) (bytes : List ℕ) → TakesIn (Client n) bytes p q → Plays p history → Plays q (history ++ record { command = ClientBytes n bytes; piece = [] } ∷ [])
feeds p q history n bytes t h = subst (λ r. Plays r (history ++ record { command = ClientBytes n bytes; piece = [] } ∷ [])) (sym t.waiting) (subst (λ k. Plays (fed_with p (Client 1) t.message) (history ++ record { command = ClientBytes k bytes; piece = [] } ∷ [])) (sym first) (request_fed p history bytes t.message h t.spelled (subst (λ k. may_be_fed p (Client k) t.message ≡ true) first t.may)))
  where
    first : n ≡ 1
    first = eqb-true n 1 (left (n == 1) p.world.arrived (left _ _ t.may))

pub answers : (p q : PlayState) (history : List Line) (n : ℕ) (bytes : List ℕ) → TakesIn (Connection n) bytes p q → Plays p history → Plays q (history ++ record { command = UpBytes n bytes; piece = [] } ∷ [])
answers p q history n bytes t h = subst (λ r. Plays r (history ++ record { command = UpBytes n bytes; piece = [] } ∷ [])) (sym t.waiting) (subst (λ k. Plays (fed_with p (Connection 1) t.message) (history ++ record { command = UpBytes k bytes; piece = [] } ∷ [])) (sym first) (answer_fed p history bytes t.message h t.spelled (subst (λ k. may_be_fed p (Connection k) t.message ≡ true) first t.may)))
  where
    first : n ≡ 1
    first = eqb-true n 1 (left (n == 1) (is_linked_state p.world.link) (left _ _ t.may))
