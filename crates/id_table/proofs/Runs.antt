-- One call more in a run.
use Rattle.std.proofs.Common.{◌≡◌, ℕ, ◌+◌, ◌<◌, List, [], ◌∷◌, ◌++◌, length, take, drop, get_or, refl, ap, ◌∙◌, sym}
use Rattle.std.proofs.lemmas.List.{take_more, at_drop_more, append_assoc}
use Rattle.id_table.specs.Table.{Table}
use Rattle.id_table.specs.Calls.{answer_to, answers_to, behind, behind_all}
use Rattle.id_table.specs.declared.calls.Call.{Call}
use Rattle.id_table.specs.declared.calls.Answer.{Answer}

pub step-told : (calls : List Call) (i : ℕ) (call : Call) (t u : Table) (answers more : List Answer) (a : Answer) → i < length calls → call ≡ get_or calls i call → a ≡ answer_to call t → u ≡ behind call t → more ≡ answers ++ a ∷ [] → more ++ answers_to (drop (i + 1) calls) u ≡ answers ++ answers_to (drop i calls) t
step-told calls i call t u answers more a below at says is e =
    ap (λ l. l ++ answers_to (drop (i + 1) calls) u) e
    ∙ append_assoc answers (a ∷ []) (answers_to (drop (i + 1) calls) u)
    ∙ ap (λ b. answers ++ b ∷ answers_to (drop (i + 1) calls) u) (says ∙ ap (λ x. answer_to x t) at)
    ∙ ap (λ v. answers ++ answer_to (get_or calls i call) t ∷ answers_to (drop (i + 1) calls) v) (is ∙ ap (λ x. behind x t) at)
    ∙ ap (λ l. answers ++ l) (sym (at_drop_more (λ l. answers_to l t) calls i call below))

pub step-rest : (calls : List Call) (i : ℕ) (call : Call) (t u : Table) → i < length calls → call ≡ get_or calls i call → u ≡ behind call t → behind_all (drop (i + 1) calls) u ≡ behind_all (drop i calls) t
step-rest calls i call t u below at is =
    ap (behind_all (drop (i + 1) calls)) (is ∙ ap (λ x. behind x t) at)
    ∙ sym (at_drop_more (λ l. behind_all l t) calls i call below)

behind-last : (calls : List Call) (call : Call) (t : Table) → behind_all (calls ++ call ∷ []) t ≡ behind call (behind_all calls t)
behind-last [] call t = refl
behind-last (x ∷ xs) call t = behind-last xs call (behind x t)

pub step-made : (calls : List Call) (i : ℕ) (call : Call) (first t u : Table) → i < length calls → call ≡ get_or calls i call → t ≡ behind_all (take i calls) first → u ≡ behind call t → u ≡ behind_all (take (i + 1) calls) first
step-made calls i call first t u below at made is =
    is ∙ ap (behind call) made ∙ ap (λ x. behind x (behind_all (take i calls) first)) at
    ∙ sym (behind-last (take i calls) (get_or calls i call) first)
    ∙ ap (λ l. behind_all l first) (sym (take_more calls i call below))
