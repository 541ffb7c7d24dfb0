-- What a client got for an operation that is live is what it took of answers; and where nothing waits that is what the
-- operation's connection gave.
use Rattle.std.proofs.Common.{◌≡◌, ℕ, true, List, ap, ◌∙◌, subst}
use Rattle.std.specs.Prelude.{Some}
use Rattle.std.specs.List.{list_all, list_any}
use Rattle.lload_names.specs.declared.names.OpName.{OpName}
use Rattle.lload_names.specs.declared.names.PartName.{PartName}
use Rattle.lload_names.specs.declared.names.PartName.TheVariants.{Client, Up as Connection}
use Rattle.lload_spec.specs.Entries.{is_sent}
use Rattle.lload_spec.specs.Journal.{Family, same_op}
use Rattle.lload_spec.specs.Operations.{Operation, is_live, operation, operations}
use Rattle.lload_spec.specs.Settings.{Settings}
use Rattle.part_laws.proofs.ListLaws.{same_number}
use Rattle.part_laws.specs.Turns.{Event}
use Rattle.part_spec.specs.Fit.{fit_beginning}
use Rattle.part_spec.specs.Gives.{gives}
use Rattle.part_spec.specs.Laws.{FitIsWhole}
use Rattle.part_spec.specs.Marked.{Marked, entries, taken_from}
use Rattle.part_spec.specs.Share.{replies}
use Rattle.client_laws.specs.Turns.{client_list}
use Rattle.client_answer_laws.proofs.Each.{Each, each_found, each_imply}
use Rattle.client_answer_laws.proofs.FitTurns.{fit_turns}
use Rattle.client_answer_laws.proofs.Told.{Going, OpSays}
use Rattle.client_answer_laws.proofs.ToldKept.{ToldKept, told_begins, told_more}
use Rattle.forward_laws.proofs.Chosen.{sent_forward}
use Rattle.answer_laws.proofs.Rests.{rests, told}
use Rattle.carried_laws.specs.Laws.{Played}
use Rattle.settled_laws.specs.Laws.{Rested}
use Rattle.told_laws.proofs.Letters.{is_from, letters_are, replies_are, rests_for}
use Rattle.told_laws.proofs.Sources.{at_home, from_home, home}

-- what is so of each operation behind these turns
abbrev IsGoing : List Marked → Operation → Type 0
IsGoing ms o = is_live o ≡ true → Going (replies ms o.name) o

going_turns : (s : Settings) (c : ℕ) (xs : List Event) → Each (IsGoing (fit_beginning s (Client c) (client_list s c xs))) (operations c (entries (fit_beginning s (Client c) (client_list s c xs))))
going_turns s c xs = fit_turns s c (ToldKept s c) (told_more s c) (λ b. Each (IsGoing b) (operations c (entries b))) (λ before l keeps turns h. each_imply (OpSays s before) (IsGoing before) (operations c (entries before)) (λ o q. q.live) h.ops) (told_begins s c) xs

module _ (fit_whole : FitIsWhole) (s : Settings) (F : Family) (marked : PartName → List Marked) (h : Played s F marked) where
  going : (c : ℕ) → Each (IsGoing (marked (Client c))) (operations c (F.client c))
  going c =
      subst (λ es. Each (IsGoing (marked (Client c))) (operations c es)) (h.joined.shared.same_entries (Client c))
      (subst (λ b. Each (IsGoing b) (operations c (entries b))) (fit_whole s (Client c) (marked (Client c)) (h.joined.fit (Client c)))
      (subst (λ l. Each (IsGoing (fit_beginning s (Client c) l)) (operations c (entries (fit_beginning s (Client c) l)))) (h.clients c).same (going_turns s c (h.clients c).events)))

  -- what a live operation's client got
  pub live_going : (o : Operation) → operation F o.name ≡ Some o → is_live o ≡ true → Going (replies (marked (Client o.name.client)) o.name) o
  live_going o there live = each_found (IsGoing (marked (Client o.name.client))) (λ q. same_op o.name q.name) (operations o.name.client (F.client o.name.client)) o there (going o.name.client) live

  -- where nothing waits, what was taken of answers is what the operation's connection gave
  pub replies_told : Rested s F marked → (op : OpName) (u : ℕ) → list_any (is_sent op) (F.connection u) ≡ true → replies (marked (Client op.client)) op ≡ told op (gives s (Connection u) (marked (Connection u)))
  replies_told rested op u k =
      replies_are op (marked (Client op.client))
      ∙ ap (rests op) (letters_are op u (marked (Client op.client)) from_there)
      ∙ rests_for op (taken_from (Connection u) (marked (Client op.client)))
      ∙ ap (rests op) (rested.all_taken (Connection u) (Client op.client))
    where
      from_there : list_all (λ m. is_from u op m.mark) (marked (Client op.client)) ≡ true
      from_there = subst (λ v. list_all (λ m. is_from v op m.mark) (marked (Client op.client)) ≡ true) (same_number (home s F marked h.joined op) u (at_home s F marked h.joined op u (sent_forward s F marked h.joined op u k))) (from_home s F marked h.joined op op.client)
