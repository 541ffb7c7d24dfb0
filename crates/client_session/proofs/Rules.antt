-- What a rule made, an entry after the other.
use Rattle.std.proofs.Common.{◌≡◌, ℕ, true, List, [], ◌∷◌, ◌++◌, map, Option, Some, None, refl, ap, subst, sym, ◌∙◌, append_assoc}
use Rattle.lload_names.specs.declared.names.Entry.{Entry}
use Rattle.lload_names.specs.declared.names.Posted.{Posted}
use Rattle.lload_names.specs.declared.names.PartName.TheVariants.{Client}
use Rattle.lload_names.specs.declared.names.What.{What}
use Rattle.lload_spec.specs.Settings.{Settings}
use Rattle.part_spec.specs.Marked.{Marked, Taken}
use Rattle.part_spec.specs.Inputs.{Act, act, entries_of, marked_by}
use Rattle.part_spec.specs.ClientState.{ClientState, step_client, step_clients}
use Rattle.outbox.specs.declared.outbox.Outbox.{Outbox}
use Rattle.client_session.specs.declared.part.ClientPart.{ClientPart}
use Rattle.client_session.specs.Did.{Did, behind_act}
use Rattle.client_session.specs.Stands.{Stands}

-- an entry of a client's list
abbrev pub entry : ClientState → ℕ → What → Entry
entry p at w = record { part = Client p.number; at = at; what = w }

-- one that was put
pub put-entry : (p : ClientState) (at : ℕ) (w : What) (n : ℕ) (xs ys zs : List Entry) → p.number ≡ n → zs ≡ ys ++ record { part = Client n; at = at; what = w } ∷ [] → ys ≡ xs → zs ≡ xs ++ entry p at w ∷ []
put-entry p at w n xs ys zs number put same = put ∙ ap (λ m. ys ++ record { part = Client m; at = at; what = w } ∷ []) (sym number) ∙ ap (λ l. l ++ entry p at w ∷ []) same

unmarked : (es : List Entry) → map (λ x. record { entry = x; mark = None }) es ≡ marked_by None es
unmarked [] = refl
unmarked (e ∷ es) = refl

pub behind-then : (s : Settings) (p q : ClientState) (at : ℕ) (mark : Option Taken) (w : What) (ws : List What) (ls ms : List Posted) → step_client s p (record { entry = entry p at w; mark = mark }) ≡ q → q.number ≡ p.number → behind_act s at mark p (act (w ∷ ws) ls) ≡ behind_act s at None q (act ws ms)
behind-then s p q at mark w ws ls ms is number =
    ap (λ l. step_clients s (step_client s p (record { entry = entry p at w; mark = mark })) l) (unmarked (entries_of (Client p.number) at ws))
    ∙ ap (λ x. step_clients s x (marked_by None (entries_of (Client p.number) at ws))) is
    ∙ ap (λ n. step_clients s q (marked_by None (entries_of (Client n) at ws))) (sym number)

-- an entry came, and then the rest was made from the state behind it
pub did-then : (s : Settings) (p q : ClientState) (at : ℕ) (mark : Option Taken) (w : What) (ws : List What) (ls : List Posted) (old mid new : Outbox) (d : ClientPart) → step_client s p (record { entry = entry p at w; mark = mark }) ≡ q → q.number ≡ p.number → mid.entries.items ≡ old.entries.items ++ entry p at w ∷ [] → mid.letters.items ≡ old.letters.items → Did s q at None (act ws ls) mid new d → Did s p at mark (act (w ∷ ws) ls) old new d
did-then s p q at mark w ws ls old mid new d is number entries letters h = record {
  entries =
      h.entries
      ∙ ap (λ n. mid.entries.items ++ entries_of (Client n) at ws) number
      ∙ ap (λ l. l ++ entries_of (Client p.number) at ws) entries
      ∙ append_assoc old.entries.items (entry p at w ∷ []) (entries_of (Client p.number) at ws);
  letters = h.letters ∙ ap (λ l. l ++ ls) letters;
  stands = subst (λ (x : ClientState). Stands s x d) (sym (behind-then s p q at mark w ws ls ls is number)) h.stands;
}

-- the same rule, said otherwise
pub did-same : (s : Settings) (p : ClientState) (at : ℕ) (mark : Option Taken) (ws vs : List What) (ls ms : List Posted) (old new : Outbox) (d : ClientPart) → ws ≡ vs → ls ≡ ms → Did s p at mark (act ws ls) old new d → Did s p at mark (act vs ms) old new d
did-same s p at mark ws vs ls ms old new d e f h = record {
  entries = h.entries ∙ ap (λ x. old.entries.items ++ entries_of (Client p.number) at x) e;
  letters = h.letters ∙ ap (λ x. old.letters.items ++ x) f;
  stands = subst (λ (x : List What). Stands s (step_clients s p (marked_by mark (entries_of (Client p.number) at x))) d) e h.stands;
}
