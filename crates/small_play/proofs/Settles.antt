-- A settle: the play stands for the history with the line, and nothing waits.
use Rattle.std.specs.Prelude.{◌≡◌, ℕ, Bool, true, false, ◌==◌, if◌then◌else◌, List, [], ◌∷◌, ◌++◌, refl}
use Rattle.std.proofs.Common.{ap, ◌∙◌, sym, subst, append_assoc}
use Rattle.std.proofs.lemmas.List.{append-nil}
use Rattle.ldap_spec.specs.Messages.{Message}
use Rattle.ldap_spec.specs.Framing.{IsStream}
use Rattle.lload_names.specs.declared.names.Entry.{Entry}
use Rattle.lload_names.specs.declared.names.PartName.TheVariants.{Desk, Client, Up as Connection}
use Rattle.lload_names.specs.declared.names.Letter.TheVariants.{IsUp}
use Rattle.lload_names.specs.declared.names.What.TheVariants.{Heard}
use Rattle.lload_names.specs.declared.command.Command.TheVariants.{Settle}
use Rattle.small_spec.specs.Journal.{of_part}
use Rattle.small_spec.specs.History.{Line, commands, journal, joined, fed, word, in_messages, got_messages}
use Rattle.small_spec.specs.Follows.{IsRequestRound, IsAnswerRound, IsSettling}
use Rattle.small_spec.specs.Plain.{plain}
use Rattle.small_world.specs.States.{WorldState, is_unheard}
use Rattle.small_world.specs.Rounds.{hearing, TakesNothing}
use Rattle.small_world.specs.Stands.{StandsFor}
use Rattle.small_world.proofs.Promises.{knows_news}
use Rattle.small_play.specs.PlayState.{PlayState}
use Rattle.small_play.specs.Plays.{Plays}
use Rattle.small_play.specs.Settling.{TookEach, Settles}
use Rattle.small_play.proofs.Histories.{each_implies, in_more, got_more}
use Rattle.small_play.proofs.Steps.{went}

-- what the desk hears takes nothing in
hearing_quiet : (w : WorldState) → TakesNothing (hearing w.link)
hearing_quiet w = record { clients = λ n. of_clients n (is_unheard w.link); connections = λ n. of_connections n (is_unheard w.link) }
  where
    of_clients : (n : ℕ) (b : Bool) → in_messages (of_part (Client n) (if b then record { part = Desk; at = 0; what = Heard (IsUp 1) } ∷ [] else [])) ≡ []
    of_clients n true = refl
    of_clients n false = refl

    of_connections : (n : ℕ) (b : Bool) → got_messages (of_part (Connection n) (if b then record { part = Desk; at = 0; what = Heard (IsUp 1) } ∷ [] else [])) ≡ []
    of_connections n true = refl
    of_connections n false = refl

-- the entries of a settle
whole : (p q : PlayState) (piece : List Entry) (s : Settles p q piece) → piece ≡ s.news ++ (joined s.requests.rounds ++ joined s.answers.rounds)
whole p q piece s = s.answers.entries ∙ ap (λ es. es ++ joined s.answers.rounds) s.requests.entries ∙ append_assoc s.news (joined s.requests.rounds) (joined s.answers.rounds)

settles_made : (p q : PlayState) (J : List Entry) (piece : List Entry) → StandsFor p.world J → Settles p q piece → IsSettling 0 0 J piece
settles_made p q J piece stood s = record {
  news = s.news;
  requests = s.requests.rounds;
  answers = s.answers.rounds;
  entries = whole p q piece s;
  heard_news = s.news_made ∙ ap (λ b. if b then record { part = Desk; at = 0; what = Heard (IsUp 1) } ∷ [] else []) (sym (knows_news p.world J stood));
  each_request = each_implies (λ before round. IsRequestRound 0 0 ((J ++ s.news) ++ joined before) round) (λ before round. IsRequestRound 0 0 (J ++ (s.news ++ joined before)) round) [] s.requests.rounds (λ before round. subst (λ es. IsRequestRound 0 0 es round) (append_assoc J s.news (joined before))) (s.requests.each (J ++ s.news) heard);
  each_answer = each_implies (λ before round. IsAnswerRound 0 (((J ++ s.news) ++ joined s.requests.rounds) ++ joined before) round) (λ before round. IsAnswerRound 0 (J ++ (s.news ++ (joined s.requests.rounds ++ joined before))) round) [] s.answers.rounds (λ before round. subst (λ es. IsAnswerRound 0 es round) (append_assoc (J ++ s.news) (joined s.requests.rounds) (joined before) ∙ append_assoc J s.news (joined s.requests.rounds ++ joined before))) (s.answers.each ((J ++ s.news) ++ joined s.requests.rounds) (s.requests.stands (J ++ s.news) heard));
}
  where
    heard : StandsFor s.heard (J ++ s.news)
    heard = s.news_stands J stood

settles_stands : (p q : PlayState) (J : List Entry) (piece : List Entry) → StandsFor p.world J → Settles p q piece → StandsFor q.world (J ++ piece)
settles_stands p q J piece stood s = subst (StandsFor q.world) same (s.answers.stands ((J ++ s.news) ++ joined s.requests.rounds) (s.requests.stands (J ++ s.news) (s.news_stands J stood)))
  where
    same : ((J ++ s.news) ++ joined s.requests.rounds) ++ joined s.answers.rounds ≡ J ++ piece
    same = append_assoc (J ++ s.news) (joined s.requests.rounds) (joined s.answers.rounds) ∙ append_assoc J s.news (joined s.requests.rounds ++ joined s.answers.rounds) ∙ ap (λ es. J ++ es) (sym (whole p q piece s))

-- what each part took in a settle
settles_in : (p q : PlayState) (piece : List Entry) (n : ℕ) → Settles p q piece → in_messages (of_part (Client n) piece) ≡ (if n == 1 then p.requests else [])
settles_in p q piece n s = ap (λ es. in_messages (of_part (Client n) es)) (whole p q piece s) ∙ in_more (Client n) s.news (joined s.requests.rounds ++ joined s.answers.rounds) ∙ ap (λ ms. ms ++ in_messages (of_part (Client n) (joined s.requests.rounds ++ joined s.answers.rounds))) (ap (λ es. in_messages (of_part (Client n) es)) s.news_made ∙ (hearing_quiet p.world).clients n) ∙ in_more (Client n) (joined s.requests.rounds) (joined s.answers.rounds) ∙ ap (λ ms. in_messages (of_part (Client n) (joined s.requests.rounds)) ++ ms) (s.answers.clients n) ∙ append-nil (in_messages (of_part (Client n) (joined s.requests.rounds))) ∙ s.requests.clients n

settles_got : (p q : PlayState) (piece : List Entry) (n : ℕ) → Settles p q piece → got_messages (of_part (Connection n) piece) ≡ (if n == 1 then p.answers else [])
settles_got p q piece n s = ap (λ es. got_messages (of_part (Connection n) es)) (whole p q piece s) ∙ got_more (Connection n) s.news (joined s.requests.rounds ++ joined s.answers.rounds) ∙ ap (λ ms. ms ++ got_messages (of_part (Connection n) (joined s.requests.rounds ++ joined s.answers.rounds))) (ap (λ es. got_messages (of_part (Connection n) es)) s.news_made ∙ (hearing_quiet p.world).connections n) ∙ got_more (Connection n) (joined s.requests.rounds) (joined s.answers.rounds) ∙ ap (λ ms. ms ++ got_messages (of_part (Connection n) (joined s.answers.rounds))) (s.requests.connections n) ∙ s.answers.connections n

-- nothing waits
none_waits : (b : Bool) → let none : List Message = [] in (if b then none else none) ≡ none
none_waits true = refl
none_waits false = refl

pub settles : (p q : PlayState) (history : List Line) (piece : List Entry) → Plays p history → Settles p q piece → Plays q (history ++ record { command = Settle; piece = piece } ∷ [])
settles p q history piece h s = subst (λ r. Plays r (history ++ record { command = Settle; piece = piece } ∷ [])) (sym s.none_waits) (went p (record { world = q.world; requests = []; answers = [] }) history Settle piece h (record {
  stood = refl;
  made = (subst (λ t. IsSettling t (word (commands history)) (journal history) piece) (sym h.still) (subst (λ t. IsSettling 0 t (journal history) piece) (sym h.wordless) (settles_made p q (journal history) piece h.stands s)), record { clients = λ n. ([], read_in n, refl); connections = λ n. ([], read_got n, refl) });
  stands = settles_stands p q (journal history) piece h.stands s;
  still = refl;
  wordless = refl;
  clients = λ n. subst (λ ms. IsStream plain.max_incoming_client (fed (Client n) (commands history) ++ []) ms []) (sym (append-nil _) ∙ ap (λ ms. in_messages (of_part (Client n) (journal history ++ piece)) ++ ms) (sym (none_waits (n == 1)))) (subst (λ bytes. IsStream plain.max_incoming_client bytes (in_messages (of_part (Client n) (journal history ++ piece))) []) (sym (append-nil (fed (Client n) (commands history)))) (read_in n));
  connections = λ n. subst (λ ms. IsStream plain.max_incoming_upstream (fed (Connection n) (commands history) ++ []) ms []) (sym (append-nil _) ∙ ap (λ ms. got_messages (of_part (Connection n) (journal history ++ piece)) ++ ms) (sym (none_waits (n == 1)))) (subst (λ bytes. IsStream plain.max_incoming_upstream bytes (got_messages (of_part (Connection n) (journal history ++ piece))) []) (sym (append-nil (fed (Connection n) (commands history)))) (read_got n));
  fed_since = λ id. refl;
}))
  where
    read_in : (n : ℕ) → IsStream plain.max_incoming_client (fed (Client n) (commands history)) (in_messages (of_part (Client n) (journal history ++ piece))) []
    read_in n = subst (λ ms. IsStream plain.max_incoming_client (fed (Client n) (commands history)) ms []) (sym (in_more (Client n) (journal history) piece ∙ ap (λ ms. in_messages (of_part (Client n) (journal history)) ++ ms) (settles_in p q piece n s))) (h.clients n)

    read_got : (n : ℕ) → IsStream plain.max_incoming_upstream (fed (Connection n) (commands history)) (got_messages (of_part (Connection n) (journal history ++ piece))) []
    read_got n = subst (λ ms. IsStream plain.max_incoming_upstream (fed (Connection n) (commands history)) ms []) (sym (got_more (Connection n) (journal history) piece ∙ ap (λ ms. got_messages (of_part (Connection n) (journal history)) ++ ms) (settles_got p q piece n s))) (h.connections n)

-- what the calls of a settle make of it
pub settled : (p before : PlayState) (v w u : WorldState) (news middle piece : List Entry) (rs those qs ks : List Message) → p ≡ before → rs ≡ p.requests → those ≡ p.answers → news ≡ hearing p.world.link → ((J : List Entry) → StandsFor p.world J → StandsFor v (J ++ news)) → TookEach (Client 1) rs v w news middle → TookEach (Connection 1) those w u middle piece → qs ≡ [] → ks ≡ [] → Settles before (record { world = u; requests = qs; answers = ks }) piece
settled p before v w u news middle piece rs those qs ks same requests answers heard stood took answered none nor = subst (λ b. Settles b (record { world = u; requests = qs; answers = ks }) piece) same (record {
  heard = v;
  taken = w;
  news = news;
  middle = middle;
  news_made = heard;
  news_stands = stood;
  requests = subst (λ ms. TookEach (Client 1) ms v w news middle) requests took;
  answers = subst (λ ms. TookEach (Connection 1) ms w u middle piece) answers answered;
  none_waits = ap (λ ms. record { world = u; requests = ms; answers = ks }) none ∙ ap (λ ms. record { world = u; requests = []; answers = ms }) nor;
})
