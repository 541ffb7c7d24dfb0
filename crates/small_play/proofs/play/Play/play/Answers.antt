use Rattle.std.proofs.Common.{◌≡◌, ◌∙◌, List, [], ◌∷◌, ◌++◌, ap, sym, subst, false}
use Rattle.ldap_spec.specs.Messages.{message_within}
use Rattle.lload_names.specs.declared.names.PartName.TheVariants.{Client, Up as Connection}
use Rattle.small_spec.specs.Lists.{passes}
use Rattle.small_spec.specs.History.{Line}
use Rattle.small_spec.specs.Plain.{plain}
use Rattle.small_spec.specs.Standing.{stands}
use Rattle.small_play.specs.Plays.{Plays}
use Rattle.small_play.specs.Beginning.{Begins}
use Rattle.small_play.specs.Feeding.{may_be_fed, TakesIn}
use Rattle.small_play.proofs.Results.{if_ok, if_empty}
use Rattle.small_play.proofs.Standing.{feeding_stands, answering_stands}
use Rattle.small_play.proofs.Begins.{client_begins, connection_begins}
use Rattle.small_play.proofs.Feeds.{feeds, answers}
use Rattle.small_play.proofs.Settles.{settles}
use Rattle.small_play.proofs.play.Play.play.Goals as goal

pub returns-in-ClientArrives-clause-played : goal.returns-in-ClientArrives-clause-played
returns-in-ClientArrives-clause-played c = if_ok c.begin.result (Begins (Client c.in-ClientArrives.n) c.args.self.now c.begin.new.self) (λ piece. (history : List Line) → Plays c.args.self.now history → Plays c.begin.new.self (history ++ record { command = c.args.command; piece = piece } ∷ [])) (λ piece b history h. subst (λ k. Plays c.begin.new.self (history ++ record { command = k; piece = piece } ∷ [])) (sym c.in-ClientArrives.is) (client_begins c.args.self.now c.begin.new.self history c.in-ClientArrives.n piece b h)) c.begin.ensures.begun

pub returns-in-UpReady-clause-played : goal.returns-in-UpReady-clause-played
returns-in-UpReady-clause-played c = if_ok c.begin-in-UpReady.result (Begins (Connection c.in-UpReady.n) c.args.self.now c.begin-in-UpReady.new.self) (λ piece. (history : List Line) → Plays c.args.self.now history → Plays c.begin-in-UpReady.new.self (history ++ record { command = c.args.command; piece = piece } ∷ [])) (λ piece b history h. subst (λ k. Plays c.begin-in-UpReady.new.self (history ++ record { command = k; piece = piece } ∷ [])) (sym c.in-UpReady.is) (connection_begins c.args.self.now c.begin-in-UpReady.new.self history c.in-UpReady.n piece b h)) c.begin-in-UpReady.ensures.begun

pub returns-in-ClientBytes-clause-played : goal.returns-in-ClientBytes-clause-played
returns-in-ClientBytes-clause-played c = if_empty c.feed.result (TakesIn (Client c.in-ClientBytes.n) c.as_slice.result.now c.args.self.now c.feed.new.self) (λ piece. (history : List Line) → Plays c.args.self.now history → Plays c.feed.new.self (history ++ record { command = c.args.command; piece = piece } ∷ [])) (λ t history h. subst (λ k. Plays c.feed.new.self (history ++ record { command = k; piece = [] } ∷ [])) (sym c.in-ClientBytes.is) (feeds c.args.self.now c.feed.new.self history c.in-ClientBytes.n c.in-ClientBytes.bytes (subst (λ b. TakesIn (Client c.in-ClientBytes.n) b c.args.self.now c.feed.new.self) c.as_slice.ensures t) h)) c.feed.ensures.none c.feed.ensures.fed

pub returns-in-ClientBytes-clause-refused : goal.returns-in-ClientBytes-clause-refused
returns-in-ClientBytes-clause-refused c = λ e history h. subst (λ k. stands plain history k ≡ false) (sym c.in-ClientBytes.is) (feeding_stands c.args.self.now history c.in-ClientBytes.n c.in-ClientBytes.bytes h ∙ ap (λ b. passes (may_be_fed c.args.self.now (Client c.in-ClientBytes.n)) (message_within plain.max_incoming_client b)) (sym c.as_slice.ensures) ∙ c.feed.ensures.refused e)

pub returns-in-UpBytes-clause-played : goal.returns-in-UpBytes-clause-played
returns-in-UpBytes-clause-played c = if_empty c.feed-in-UpBytes.result (TakesIn (Connection c.in-UpBytes.n) c.as_slice-in-UpBytes.result.now c.args.self.now c.feed-in-UpBytes.new.self) (λ piece. (history : List Line) → Plays c.args.self.now history → Plays c.feed-in-UpBytes.new.self (history ++ record { command = c.args.command; piece = piece } ∷ [])) (λ t history h. subst (λ k. Plays c.feed-in-UpBytes.new.self (history ++ record { command = k; piece = [] } ∷ [])) (sym c.in-UpBytes.is) (answers c.args.self.now c.feed-in-UpBytes.new.self history c.in-UpBytes.n c.in-UpBytes.bytes (subst (λ b. TakesIn (Connection c.in-UpBytes.n) b c.args.self.now c.feed-in-UpBytes.new.self) c.as_slice-in-UpBytes.ensures t) h)) c.feed-in-UpBytes.ensures.none c.feed-in-UpBytes.ensures.fed

pub returns-in-UpBytes-clause-refused : goal.returns-in-UpBytes-clause-refused
returns-in-UpBytes-clause-refused c = λ e history h. subst (λ k. stands plain history k ≡ false) (sym c.in-UpBytes.is) (answering_stands c.args.self.now history c.in-UpBytes.n c.in-UpBytes.bytes h ∙ ap (λ b. passes (may_be_fed c.args.self.now (Connection c.in-UpBytes.n)) (message_within plain.max_incoming_upstream b)) (sym c.as_slice-in-UpBytes.ensures) ∙ c.feed-in-UpBytes.ensures.refused e)

pub returns-in_ok-settle-in-Settle-clause-played : goal.returns-in_ok-settle-in-Settle-clause-played
returns-in_ok-settle-in-Settle-clause-played c = λ history h. subst (λ k. Plays c.settle.new.self (history ++ record { command = k; piece = c.in_ok-settle-in-Settle.field-0 } ∷ [])) (sym c.in-Settle.is) (settles c.args.self.now c.settle.new.self history c.in_ok-settle-in-Settle.field-0 h c.in_ok-settle-in-Settle.ensures.settled)
