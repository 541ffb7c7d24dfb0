-- A part begins: the play stands for the history with the line.
use Rattle.std.specs.Prelude.{◌≡◌, ℕ, Bool, true, false, ◌==◌, ◌||◌, if◌then◌else◌, List, [], ◌∷◌, ◌++◌, refl}
use Rattle.std.proofs.Common.{ap, ◌∙◌, sym, subst}
use Rattle.std.proofs.lemmas.List.{append-nil}
use Rattle.ldap_spec.specs.Framing.{IsStream}
use Rattle.lload_names.specs.declared.names.Entry.{Entry}
use Rattle.lload_names.specs.declared.names.PartName.TheVariants.{Client, Up as Connection}
use Rattle.lload_names.specs.declared.names.What.TheVariants.{Arrived, Linked, Up}
use Rattle.lload_names.specs.declared.command.Command.{Command}
use Rattle.lload_names.specs.declared.command.Command.TheVariants.{ClientArrives, UpReady}
use Rattle.small_spec.specs.Journal.{of_part}
use Rattle.small_spec.specs.History.{Line, commands, journal, fed, in_messages, got_messages}
use Rattle.small_spec.specs.Standing.{was_fed}
use Rattle.small_spec.specs.Plain.{plain}
use Rattle.small_world.specs.States.{may_begin, begun}
use Rattle.small_world.specs.Rounds.{beginning, TakesNothing}
use Rattle.small_world.specs.Stands.{StandsFor}
use Rattle.small_play.specs.PlayState.{PlayState}
use Rattle.small_play.specs.Plays.{Plays}
use Rattle.small_play.specs.Beginning.{Begins}
use Rattle.small_play.proofs.Histories.{in_more, got_more}
use Rattle.small_play.proofs.Steps.{ClientReads, ConnectionReads, went}
use Rattle.small_play.proofs.Standing.{arriving_stands, linking_stands}

pub or_false : (b : Bool) → (b || false) ≡ b
or_false true = refl
or_false false = refl

-- what was read stays, behind entries that take nothing in, and where no bytes are fed
pub client_quiet : (q : PlayState) (cs : List Command) (J K : List Entry) (n : ℕ) → in_messages (of_part (Client n) K) ≡ [] → IsStream plain.max_incoming_client (fed (Client n) cs) (in_messages (of_part (Client n) J) ++ (if n == 1 then q.requests else [])) [] → ClientReads q cs [] (J ++ K) n
client_quiet q cs J K n none h = subst (λ bytes. IsStream plain.max_incoming_client bytes (in_messages (of_part (Client n) (J ++ K)) ++ (if n == 1 then q.requests else [])) []) (sym (append-nil (fed (Client n) cs))) (subst (λ ms. IsStream plain.max_incoming_client (fed (Client n) cs) (ms ++ (if n == 1 then q.requests else [])) []) (sym (in_more (Client n) J K ∙ ap (λ ms. in_messages (of_part (Client n) J) ++ ms) none ∙ append-nil (in_messages (of_part (Client n) J)))) h)

pub connection_quiet : (q : PlayState) (cs : List Command) (J K : List Entry) (n : ℕ) → got_messages (of_part (Connection n) K) ≡ [] → IsStream plain.max_incoming_upstream (fed (Connection n) cs) (got_messages (of_part (Connection n) J) ++ (if n == 1 then q.answers else [])) [] → ConnectionReads q cs [] (J ++ K) n
connection_quiet q cs J K n none h = subst (λ bytes. IsStream plain.max_incoming_upstream bytes (got_messages (of_part (Connection n) (J ++ K)) ++ (if n == 1 then q.answers else [])) []) (sym (append-nil (fed (Connection n) cs))) (subst (λ ms. IsStream plain.max_incoming_upstream (fed (Connection n) cs) (ms ++ (if n == 1 then q.answers else [])) []) (sym (got_more (Connection n) J K ∙ ap (λ ms. got_messages (of_part (Connection n) J) ++ ms) none ∙ append-nil (got_messages (of_part (Connection n) J)))) h)

-- the beginning of a part takes nothing in
arrival_quiet : (n : ℕ) → TakesNothing (beginning (Client n))
arrival_quiet n = record { clients = λ k. more (k == n); connections = λ k. refl }
  where
    more : (b : Bool) → in_messages (if b then record { part = Client n; at = 0; what = Arrived } ∷ [] else []) ≡ []
    more true = refl
    more false = refl

linking_quiet : (n : ℕ) → TakesNothing (beginning (Connection n))
linking_quiet n = record { clients = λ k. refl; connections = λ k. more (k == n) }
  where
    more : (b : Bool) → got_messages (if b then record { part = Connection n; at = 0; what = Linked } ∷ (if b then record { part = Connection n; at = 0; what = Up } ∷ [] else []) else (if b then record { part = Connection n; at = 0; what = Up } ∷ [] else [])) ≡ []
    more true = refl
    more false = refl

arrives : (p : PlayState) (history : List Line) (n : ℕ) → Plays p history → may_begin p.world (Client n) ≡ true → ((J : List Entry) → StandsFor p.world J → StandsFor (begun p.world (Client n)) (J ++ beginning (Client n))) → Plays (record p { world = begun p.world (Client n) }) (history ++ record { command = ClientArrives n; piece = beginning (Client n) } ∷ [])
arrives p history n h may stood = went p q history (ClientArrives n) (beginning (Client n)) h (record {
  stood = arriving_stands p history n h ∙ may;
  made = ap (λ t. record { part = Client n; at = t; what = Arrived } ∷ []) (sym h.still);
  stands = stood (journal history) h.stands;
  still = refl;
  wordless = refl;
  clients = λ k. client_quiet q (commands history) (journal history) (beginning (Client n)) k ((arrival_quiet n).clients k) (h.clients k);
  connections = λ k. connection_quiet q (commands history) (journal history) (beginning (Client n)) k ((arrival_quiet n).connections k) (h.connections k);
  fed_since = λ id. or_false (was_fed 1 id (commands history)) ∙ h.fed_since id;
})
  where
    q : PlayState
    q = record p { world = begun p.world (Client n) }

links : (p : PlayState) (history : List Line) (n : ℕ) → Plays p history → may_begin p.world (Connection n) ≡ true → ((J : List Entry) → StandsFor p.world J → StandsFor (begun p.world (Connection n)) (J ++ beginning (Connection n))) → Plays (record p { world = begun p.world (Connection n) }) (history ++ record { command = UpReady n; piece = beginning (Connection n) } ∷ [])
links p history n h may stood = went p q history (UpReady n) (beginning (Connection n)) h (record {
  stood = linking_stands p history n h ∙ may;
  made = ap (λ t. record { part = Connection n; at = t; what = Linked } ∷ record { part = Connection n; at = t; what = Up } ∷ []) (sym h.still);
  stands = stood (journal history) h.stands;
  still = refl;
  wordless = refl;
  clients = λ k. client_quiet q (commands history) (journal history) (beginning (Connection n)) k ((linking_quiet n).clients k) (h.clients k);
  connections = λ k. connection_quiet q (commands history) (journal history) (beginning (Connection n)) k ((linking_quiet n).connections k) (h.connections k);
  fed_since = λ id. or_false (was_fed 1 id (commands history)) ∙ h.fed_since id;
})
  where
    q : PlayState
    q = record p { world = begun p.world (Connection n) }

pub client_begins : (p q : PlayState) (history : List Line) (n : ℕ) (piece : List Entry) → Begins (Client n) p q piece → Plays p history → Plays q (history ++ record { command = ClientArrives n; piece = piece } ∷ [])
client_begins p q history n piece b h = subst (λ r. Plays r (history ++ record { command = ClientArrives n; piece = piece } ∷ [])) (sym b.state) (subst (λ es. Plays (record p { world = begun p.world (Client n) }) (history ++ record { command = ClientArrives n; piece = es } ∷ [])) (sym b.made) (arrives p history n h b.may (λ J s. subst (λ es. StandsFor (begun p.world (Client n)) (J ++ es)) b.made (b.stands J s))))

pub connection_begins : (p q : PlayState) (history : List Line) (n : ℕ) (piece : List Entry) → Begins (Connection n) p q piece → Plays p history → Plays q (history ++ record { command = UpReady n; piece = piece } ∷ [])
connection_begins p q history n piece b h = subst (λ r. Plays r (history ++ record { command = UpReady n; piece = piece } ∷ [])) (sym b.state) (subst (λ es. Plays (record p { world = begun p.world (Connection n) }) (history ++ record { command = UpReady n; piece = es } ∷ [])) (sym b.made) (links p history n h b.may (λ J s. subst (λ es. StandsFor (begun p.world (Connection n)) (J ++ es)) b.made (b.stands J s))))
