-- The reader's loop: what is left of the lines gives the answer of the whole text.
use Rattle.std.proofs.Common.{◌≡◌, ◌≢◌, ℕ, ◌+◌, ◌==◌, List, [], ◌∷◌, ◌++◌, length, cond, refl, ap, sym, subst, ◌≤◌, ◌∙◌}
use Rattle.std.specs.Prelude.{Option, Some, None, Result, Ok, Err}
use Rattle.conf_words.specs.Lines.{ConfLine, Worded, Faulty, conf_lines, line_count}
use Rattle.lload_conf.specs.Configuration.{Fault, answer_behind, configuration, count_under, unless_fault}
use Rattle.lload_conf.specs.Draft.{Takes, answer_of_draft, empty_draft, finished}
use Rattle.lload_conf.specs.Line.{Words}
use Rattle.lload_conf.specs.Within.{IsWithin}
use Rattle.lload_conf.specs.declared.config.Config.{Config}
use Rattle.lload_conf.specs.declared.draft.Draft.{Draft}
use Rattle.lload_conf.specs.declared.table.Directive.TheVariants.{BackendServer}
use Rattle.lload_conf.proofs.Drafts.{Drafted, drafted-none, fault-same, finished-same, taken-more}
use Rattle.lload_conf.proofs.Lengths.{AreShort, HasShortWords, text-short}
use Rattle.lload_conf.proofs.Limits.{within-none, within-taken}

-- the draft stands for the lines before, and these and the lines that are left give the answer; of no lines none is
-- before or left
pub record IsHalfway (lines : List ConfLine) (count : ℕ) (answer : Result Config Fault) (before : List Words) (draft : Draft) (left : List ConfLine) : Type 0 where
  pub drafted : Drafted before draft
  pub within : IsWithin draft
  pub short : AreShort 1048576 left
  pub same : answer_behind count before left ≡ answer
  pub idle : lines ≡ [] → (before ≡ []) × (left ≡ [])

-- where a line is left, there are lines
pub some_lines : (lines : List ConfLine) (count : ℕ) (answer : Result Config Fault) (before : List Words) (draft : Draft) (left : List ConfLine) → IsHalfway lines count answer before draft left → left ≢ [] → lines ≢ []
some_lines lines count answer before draft left h some none = some (h.idle none).1

-- a line is something
pub begun_is_some : (first : ConfLine) (later left : List ConfLine) → left ≡ first ∷ later → left ≢ []
begun_is_some first later left next none = let bad : [] ≡ first ∷ later = sym none ∙ next in cc

-- of no lines the draft has no backend
pub no_backend : (lines : List ConfLine) (count : ℕ) (answer : Result Config Fault) (before : List Words) (draft : Draft) (left : List ConfLine) → IsHalfway lines count answer before draft left → lines ≡ [] → length draft.hosts ≡ 0
no_backend lines count answer before draft left h none = h.drafted.backends ∙ ap (count_under BackendServer) (h.idle none).0

-- the next line is faulty by itself
pub answer-faulty : (lines : List ConfLine) (count : ℕ) (answer : Result Config Fault) (before : List Words) (draft : Draft) (left later : List ConfLine) (line kind : ℕ) → IsHalfway lines count answer before draft left → left ≡ record { number = line; content = Faulty kind } ∷ later → answer ≡ Err (record { line = line; kind = kind })
answer-faulty lines count answer before draft left later line kind h next = sym h.same ∙ ap (answer_behind count before) next

-- the next line has a fault behind the lines before
pub answer-fault : (lines : List ConfLine) (count : ℕ) (answer : Result Config Fault) (before : List Words) (draft after : Draft) (left later : List ConfLine) (number kind : ℕ) (words : Words) (fault : Option ℕ) → IsHalfway lines count answer before draft left → left ≡ record { number = number; content = Worded words } ∷ later → (shown : Words) → shown ≡ words → Takes draft shown fault after → fault ≡ Some kind → answer ≡ Err (record { line = number; kind = kind })
answer-fault lines count answer before draft after left later number kind words fault h next shown same took some =
    let takes = subst (λ ws. Takes draft ws fault after) same took in
    sym h.same ∙ (ap (answer_behind count before) next ∙ ap (λ f. unless_fault number f (answer_behind count (before ++ words ∷ []) later)) (sym (fault-same before draft words h.drafted) ∙ (sym takes.kind ∙ some)))

-- the words of the next line, and of those behind it
first-short : (left later : List ConfLine) (number : ℕ) (words : Words) → left ≡ record { number = number; content = Worded words } ∷ later → AreShort 1048576 left → HasShortWords 1048576 words
first-short left later number words next short = (subst (AreShort 1048576) next short).0

later-short : (left later : List ConfLine) (number : ℕ) (words : Words) → left ≡ record { number = number; content = Worded words } ∷ later → AreShort 1048576 left → AreShort 1048576 later
later-short left later number words next short = (subst (AreShort 1048576) next short).1

-- the next line has none, and is taken
pub halfway-more : (lines : List ConfLine) (count : ℕ) (answer : Result Config Fault) (before : List Words) (draft after : Draft) (left later : List ConfLine) (number : ℕ) (words : Words) (fault : Option ℕ) → IsHalfway lines count answer before draft left → left ≡ record { number = number; content = Worded words } ∷ later → (shown : Words) → shown ≡ words → Takes draft shown fault after → fault ≡ None → IsHalfway lines count answer (before ++ words ∷ []) after later
halfway-more lines count answer before draft after left later number words fault h next shown same took none =
    let takes = subst (λ ws. Takes draft ws fault after) same took in
    record {
      drafted = taken-more before draft after words h.drafted (sym takes.kind ∙ none) (takes.taken none);
      within = within-taken draft after words h.within (first-short left later number words next h.short) (sym takes.kind ∙ none) (takes.taken none);
      short = later-short left later number words next h.short;
      idle = λ none. absurd (some_lines lines count answer before draft left h (begun_is_some (record { number = number; content = Worded words }) later left next) none);
      same = sym (ap (λ f. unless_fault number f (answer_behind count (before ++ words ∷ []) later)) (sym (fault-same before draft words h.drafted) ∙ (sym takes.kind ∙ none))) ∙ (sym (ap (answer_behind count before) next) ∙ h.same);
    }

-- no line is left
pub answer-end : (lines : List ConfLine) (count : ℕ) (answer : Result Config Fault) (before : List Words) (draft : Draft) (left : List ConfLine) → IsHalfway lines count answer before draft left → left ≡ [] → answer_of_draft count draft ≡ answer
answer-end lines count answer before draft left h end = ap (λ n. cond (n == 0) (Err (record { line = count + 1; kind = 10 })) (Ok (finished draft))) h.drafted.backends ∙ (ap (λ c. cond (count_under BackendServer before == 0) (Err (record { line = count + 1; kind = 10 })) (Ok c)) (finished-same before draft h.drafted) ∙ (sym (ap (answer_behind count before) end) ∙ h.same))

-- no line is read
pub halfway-none : (text : List ℕ) → length text ≤ 1048576 → IsHalfway (conf_lines text) (line_count text) (configuration text) [] empty_draft (conf_lines text)
halfway-none text short = record { drafted = drafted-none; within = within-none; short = text-short 1048576 text short; same = refl; idle = λ none. (refl, none) }

-- the reader and the draft at the beginning
pub halfway-begins : (text : List ℕ) (draft : Draft) (left : List ConfLine) → length text ≤ 1048576 → draft ≡ empty_draft → left ≡ conf_lines text → IsHalfway (conf_lines text) (line_count text) (configuration text) [] draft left
halfway-begins text draft left short new lines = subst (λ d. IsHalfway (conf_lines text) (line_count text) (configuration text) [] d left) (sym new) (subst (IsHalfway (conf_lines text) (line_count text) (configuration text) [] empty_draft) (sym lines) (halfway-none text short))
