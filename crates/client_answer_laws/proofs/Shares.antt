-- A client's list keeps its share, up to the first letter that isn't fit: this beginning is a list of turns, so what holds
-- of each list of turns holds of it too.
use Rattle.std.proofs.Common.{◌≡◌, ℕ, true, List, sym, subst}
use Rattle.lload_names.specs.declared.names.PartName.TheVariants.{Client}
use Rattle.lload_spec.specs.Settings.{Settings}
use Rattle.part_spec.specs.Marked.{Marked}
use Rattle.part_spec.specs.Marks.{has_right_marks}
use Rattle.part_spec.specs.Fit.{fit_beginning}
use Rattle.part_spec.specs.Share.{each_busy_told, each_check_followed, each_ended_once, each_gone_caused, each_late_caused, each_out_owned, each_stall_caused, each_unavailable_told, moments_never_fall}
use Rattle.part_laws.specs.Turns.{Event}
use Rattle.client_laws.specs.Turns.{client_list}
use Rattle.client_laws.proofs.ClientChecks.{client_checks}
use Rattle.client_laws.proofs.ClientClauses.{client_moments, client_stalls_so, client_late}
use Rattle.client_laws.proofs.ClientEnds.{client_ends_once}
use Rattle.client_laws.proofs.ClientMarks.{client_marks}
use Rattle.client_share_laws.proofs.ClientChoices.{client_busy, client_unavailable}
use Rattle.client_share_laws.proofs.ClientGoes.{client_gone}
use Rattle.client_share_laws.proofs.ClientOwns.{client_outs_owned}
use Rattle.client_answer_laws.specs.Clauses.{ClientShares}
use Rattle.client_answer_laws.proofs.FitTurns.{fit_turns}
use Rattle.client_answer_laws.proofs.LifeKept.{client_life}
use Rattle.client_answer_laws.proofs.ToldKept.{client_answered, client_refusals, client_successes}

-- what holds of each list of turns
always : (s : Settings) (c : ℕ) (P : List Marked → Type 0) → ((xs : List Event) → P (client_list s c xs)) → (xs : List Event) → P (fit_beginning s (Client c) (client_list s c xs))
always s c P f xs = fit_turns s c (λ before l. Unit {0}) (λ before l x keeps h fit. tt) P (λ before l keeps turns h. subst P (sym turns.same) (f turns.events)) tt xs

pub client_shares : ClientShares
client_shares s c xs =
    record {
      marks = always s c (λ b. has_right_marks s (Client c) b ≡ true) (client_marks s c) xs;
      answered = client_answered s c xs;
      ended_once = always s c (λ b. each_ended_once c b ≡ true) (client_ends_once s c) xs;
      outs_owned = always s c (λ b. each_out_owned c b ≡ true) (client_outs_owned s c) xs;
      refusals = client_refusals s c xs;
      checks = always s c (λ b. each_check_followed s c b ≡ true) (client_checks s c) xs;
      busy = always s c (λ b. each_busy_told c b ≡ true) (client_busy s c) xs;
      unavailable = always s c (λ b. each_unavailable_told c b ≡ true) (client_unavailable s c) xs;
      gone = always s c (λ b. each_gone_caused s c b ≡ true) (client_gone s c) xs;
      late = always s c (λ b. each_late_caused c b ≡ true) (client_late s c) xs;
      stalls = always s c (λ b. each_stall_caused c b ≡ true) (client_stalls_so s c) xs;
      moments = always s c (λ b. moments_never_fall b ≡ true) (client_moments s c) xs;
      life = client_life s c xs;
      successes_known = client_successes s c xs;
    }
