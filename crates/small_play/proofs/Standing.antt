-- Whether a line stands, as the play knows it.
use Rattle.std.specs.Prelude.{◌≡◌, ℕ, suc, Bool, true, false, ◌==◌, ◌&&◌, not, List, Option, Some, None, refl}
use Rattle.std.proofs.Common.{ap, ◌∙◌}
use Rattle.std.proofs.lemmas.Bool.{eqb-true}
use Rattle.ldap_spec.specs.Messages.{Message, message_within}
use Rattle.lload_names.specs.declared.names.PartName.TheVariants.{Client, Up as Connection}
use Rattle.lload_names.specs.declared.command.Command.TheVariants.{ClientArrives, ClientBytes, UpReady, UpBytes}
use Rattle.small_spec.specs.Lists.{passes}
use Rattle.small_spec.specs.History.{Line, commands, journal}
use Rattle.small_spec.specs.Plain.{plain}
use Rattle.small_spec.specs.Standing.{stands, arrivals, has_arrived, was_linked, is_one_element, is_new_delete, is_delete_answer, was_fed}
use Rattle.small_laws.proofs.ListLaws.{passes-ext}
use Rattle.small_world.specs.States.{may_begin, is_linked_state, uses, gave}
use Rattle.small_world.proofs.Promises.{knows_arrival, knows_first_arrival, knows_linking, knows_use, knows_given}
use Rattle.small_play.specs.PlayState.{PlayState}
use Rattle.small_play.specs.Plays.{Plays}
use Rattle.small_play.specs.Waiting.{waits}
use Rattle.small_play.specs.Feeding.{may_be_fed}

-- what is known of the part with the number 1
of_first : (n : ℕ) (b : ℕ → Bool) (c : Bool) → b 1 ≡ c → (n == 1 && b n) ≡ (n == 1 && c)
of_first n b c h = more (n == 1) (λ e. ap b (eqb-true n 1 e) ∙ h)
  where
    more : (t : Bool) → (t ≡ true → b n ≡ c) → (t && b n) ≡ (t && c)
    more true k = k refl
    more false k = refl

passes_and : {A : Type 0} (a : Bool) (test : A → Bool) (o : Option A) → (a && passes test o) ≡ passes (λ x. a && test x) o
passes_and true test None = refl
passes_and false test None = refl
passes_and a test (Some x) = refl

pub arriving_stands : (p : PlayState) (history : List Line) (n : ℕ) → Plays p history → stands plain history (ClientArrives n) ≡ may_begin p.world (Client n)
arriving_stands p history n h = of_first n (λ k. k == suc (arrivals (journal history))) (not p.world.arrived) (knows_first_arrival p.world (journal history) h.stands)

pub linking_stands : (p : PlayState) (history : List Line) (n : ℕ) → Plays p history → stands plain history (UpReady n) ≡ may_begin p.world (Connection n)
linking_stands p history n h = of_first n (λ k. not (was_linked k (journal history))) (not (is_linked_state p.world.link)) (ap not (knows_linking p.world (journal history) h.stands))

request_stands : (p : PlayState) (history : List Line) (m : Message) → Plays p history → is_new_delete history m ≡ (not (m.id == 0) && is_one_element 0x4A m.rest && not (uses p.world m.id) && not (waits p.requests m.id))
request_stands p history m h = ap (λ b. not (m.id == 0) && is_one_element 0x4A m.rest && not b && not (was_fed 1 m.id (commands history))) (knows_use p.world (journal history) m.id h.stands) ∙ ap (λ b. not (m.id == 0) && is_one_element 0x4A m.rest && not (uses p.world m.id) && not b) (h.fed_since m.id)

pub feeding_stands : (p : PlayState) (history : List Line) (n : ℕ) (bytes : List ℕ) → Plays p history → stands plain history (ClientBytes n bytes) ≡ passes (may_be_fed p (Client n)) (message_within plain.max_incoming_client bytes)
feeding_stands p history n bytes h = ap (λ b. b && passes (is_new_delete history) (message_within plain.max_incoming_client bytes)) (of_first n (λ k. has_arrived k (journal history)) p.world.arrived (knows_arrival p.world (journal history) h.stands)) ∙ passes_and (n == 1 && p.world.arrived) (is_new_delete history) (message_within plain.max_incoming_client bytes) ∙ passes-ext _ _ (message_within plain.max_incoming_client bytes) (λ m. ap (λ b. (n == 1 && p.world.arrived) && b) (request_stands p history m h))

answer_stands : (p : PlayState) (history : List Line) (m : Message) → Plays p history → is_delete_answer history m ≡ (is_one_element 0x6B m.rest && gave p.world m.id)
answer_stands p history m h = ap (λ b. is_one_element 0x6B m.rest && b) (knows_given p.world (journal history) m.id h.stands)

pub answering_stands : (p : PlayState) (history : List Line) (n : ℕ) (bytes : List ℕ) → Plays p history → stands plain history (UpBytes n bytes) ≡ passes (may_be_fed p (Connection n)) (message_within plain.max_incoming_upstream bytes)
answering_stands p history n bytes h = ap (λ b. b && passes (is_delete_answer history) (message_within plain.max_incoming_upstream bytes)) (of_first n (λ k. was_linked k (journal history)) (is_linked_state p.world.link) (knows_linking p.world (journal history) h.stands)) ∙ passes_and (n == 1 && is_linked_state p.world.link) (is_delete_answer history) (message_within plain.max_incoming_upstream bytes) ∙ passes-ext _ _ (message_within plain.max_incoming_upstream bytes) (λ m. ap (λ b. (n == 1 && is_linked_state p.world.link) && b) (answer_stands p history m h))
