-- Messages taken one after another: none, and one more.
use Rattle.std.specs.Prelude.{◌≡◌, Bool, true, false, if◌then◌else◌, List, [], ◌∷◌, ◌++◌, refl}
use Rattle.std.proofs.Common.{ap, ◌∙◌, sym, subst, append_assoc}
use Rattle.std.proofs.lemmas.List.{append-nil}
use Rattle.std.proofs.lemmas.List.Folds.{list_all-append}
use Rattle.ldap_spec.specs.Messages.{Message}
use Rattle.lload_names.specs.declared.names.Entry.{Entry}
use Rattle.lload_names.specs.declared.names.PartName.{PartName}
use Rattle.lload_names.specs.declared.names.PartName.TheVariants.{Client, Up as Connection}
use Rattle.small_spec.specs.Journal.{same_part, of_part}
use Rattle.small_spec.specs.History.{joined, in_messages, got_messages}
use Rattle.small_world.specs.States.{WorldState, MayTake, after_message}
use Rattle.small_world.specs.Rounds.{IsRound, Takes}
use Rattle.small_world.specs.Stands.{StandsFor}
use Rattle.lload_spec.specs.Writable.{each_can_be_written, can_be_written}
use Rattle.small_spec.proofs.Growth.{both}
use Rattle.small_play.specs.Settling.{after_each, MayTakeEach, TookEach}
use Rattle.small_play.proofs.Histories.{each_more, joined_more, in_more, got_more}

chosen_nil : (b : Bool) → let none : List Message = [] in (if b then none else none) ≡ none
chosen_nil true = refl
chosen_nil false = refl

pub took_none : (part : PartName) (w : WorldState) (piece : List Entry) → TookEach part [] w w piece piece
took_none part w piece = record {
  rounds = [];
  entries = sym (append-nil piece);
  world = refl;
  each = λ J h. tt;
  stands = λ J h. subst (StandsFor w) (sym (append-nil J)) h;
  clients = λ n. sym (chosen_nil (same_part (Client n) part));
  connections = λ n. sym (chosen_nil (same_part (Connection n) part));
}

after_more : (w : WorldState) (part : PartName) (ms : List Message) (m : Message) → after_each w part (ms ++ m ∷ []) ≡ after_message (after_each w part ms) part m.id
after_more w part [] m = refl
after_more w part (k ∷ ms) m = after_more (after_message w part k.id) part ms m

both_chosen : (b : Bool) (ms : List Message) (m : Message) → (if b then ms else []) ++ (if b then m ∷ [] else []) ≡ (if b then ms ++ m ∷ [] else [])
both_chosen true ms m = refl
both_chosen false ms m = refl

-- one message more, with the entries of its round
pub took_more : (part : PartName) (ms : List Message) (m : Message) (w v u : WorldState) (earlier piece round : List Entry) → TookEach part ms w v earlier piece → u ≡ after_message v part m.id → ((J : List Entry) → StandsFor v J → IsRound part J round) → Takes part m round → ((J : List Entry) → StandsFor v J → StandsFor u (J ++ round)) → TookEach part (ms ++ m ∷ []) w u earlier (piece ++ round)
took_more part ms m w v u earlier piece round took state made takes stood = record {
  rounds = took.rounds ++ round ∷ [];
  entries = ap (λ es. es ++ round) took.entries ∙ append_assoc earlier (joined took.rounds) round ∙ ap (λ es. earlier ++ es) (sym grown);
  world = state ∙ ap (λ x. after_message x part m.id) took.world ∙ sym (after_more w part ms m);
  each = λ J h. each_more (λ place r. IsRound part (J ++ joined place) r) [] took.rounds round (took.each J h) (made (J ++ joined took.rounds) (took.stands J h));
  stands = λ J h. subst (StandsFor u) (append_assoc J (joined took.rounds) round ∙ ap (λ es. J ++ es) (sym grown)) (stood (J ++ joined took.rounds) (took.stands J h));
  clients = λ n. ap (λ es. in_messages (of_part (Client n) es)) grown ∙ in_more (Client n) (joined took.rounds) round ∙ ap (λ l. l ++ in_messages (of_part (Client n) round)) (took.clients n) ∙ ap (λ l. (if same_part (Client n) part then ms else []) ++ l) (takes.clients n) ∙ both_chosen (same_part (Client n) part) ms m;
  connections = λ n. ap (λ es. got_messages (of_part (Connection n) es)) grown ∙ got_more (Connection n) (joined took.rounds) round ∙ ap (λ l. l ++ got_messages (of_part (Connection n) round)) (took.connections n) ∙ ap (λ l. (if same_part (Connection n) part then ms else []) ++ l) (takes.connections n) ∙ both_chosen (same_part (Connection n) part) ms m;
}
  where
    grown : joined (took.rounds ++ round ∷ []) ≡ joined took.rounds ++ round
    grown = joined_more took.rounds round

-- some of all these messages were taken, and those that are left may be
pub record TookSoFar (part : PartName) (all left : List Message) (before now : WorldState) (earlier piece : List Entry) : Type 0 where
  pub taken : List Message
  pub split : taken ++ left ≡ all
  pub took : TookEach part taken before now earlier piece
  pub may : MayTakeEach now part left
  pub writable : each_can_be_written earlier ≡ true → each_can_be_written piece ≡ true

pub so_far_none : (part : PartName) (ms : List Message) (w : WorldState) (piece : List Entry) → MayTakeEach w part ms → TookSoFar part ms ms w w piece piece
so_far_none part ms w piece may = record { taken = []; split = refl; took = took_none part w piece; may = may; writable = λ h. h }

pub written_more : (xs ys : List Entry) → each_can_be_written xs ≡ true → each_can_be_written ys ≡ true → each_can_be_written (xs ++ ys) ≡ true
written_more xs ys h k = list_all-append (λ e. can_be_written e.what) xs ys ∙ both _ _ h k

pub so_far_more : (part : PartName) (all now left : List Message) (m : Message) (w v u : WorldState) (earlier piece round : List Entry) → now ≡ m ∷ left → TookSoFar part all now w v earlier piece → u ≡ after_message v part m.id → ((J : List Entry) → StandsFor v J → IsRound part J round) → Takes part m round → ((J : List Entry) → StandsFor v J → StandsFor u (J ++ round)) → each_can_be_written round ≡ true → TookSoFar part all left w u earlier (piece ++ round)
so_far_more part all now left m w v u earlier piece round first s state made takes stood writable = record {
  taken = s.taken ++ m ∷ [];
  split = append_assoc s.taken (m ∷ []) left ∙ ap (λ ms. s.taken ++ ms) (sym first) ∙ s.split;
  took = took_more part s.taken m w v u earlier piece round s.took state made takes stood;
  may = subst (λ x. MayTakeEach x part left) (sym state) may.1;
  writable = λ h. written_more piece round (s.writable h) writable;
}
  where
    may : MayTakeEach v part (m ∷ left)
    may = subst (MayTakeEach v part) first s.may

pub so_far_first : (part : PartName) (all now left : List Message) (m : Message) (w v : WorldState) (earlier piece : List Entry) → now ≡ m ∷ left → TookSoFar part all now w v earlier piece → MayTake v part m.id m.rest
so_far_first part all now left m w v earlier piece first s = let may : MayTakeEach v part (m ∷ left) = subst (MayTakeEach v part) first s.may in may.0

pub so_far_all : (part : PartName) (all now : List Message) (w v : WorldState) (earlier piece : List Entry) → now ≡ [] → TookSoFar part all now w v earlier piece → TookEach part all w v earlier piece
so_far_all part all now w v earlier piece none s = subst (λ ms. TookEach part ms w v earlier piece) (sym (append-nil s.taken) ∙ ap (λ ms. s.taken ++ ms) (sym none) ∙ s.split) s.took
