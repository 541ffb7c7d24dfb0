-- The loop that finds all faults: what was found and what is left are the faults of the text.
use Rattle.std.proofs.Common.{◌≡◌, ℕ, ◌==◌, Bool, true, false, List, [], ◌∷◌, ◌++◌, length, map, refl, ap, sym, subst, ◌∙◌, append_assoc, append-nil}
use Rattle.std.specs.Prelude.{Option, Some, None, Result, Ok, Err, IfOk, drop}
use Rattle.std.proofs.lemmas.List.{map-append}
use Rattle.conf_words.specs.Lines.{ConfLine, Content, Worded, Faulty, conf_lines, line_count}
use Rattle.lload_conf.specs.AllFaults.{AreOf, all_faults, fault_of, faults_at_end, faults_behind, onto_faults}
use Rattle.lload_conf.specs.Configuration.{Fault, answer_behind, content_fault, count_under, line_fault, words_in}
use Rattle.lload_conf.specs.Draft.{Takes, empty_draft}
use Rattle.lload_conf.specs.Line.{Words}
use Rattle.lload_conf.specs.declared.draft.Draft.{Draft}
use Rattle.lload_conf.specs.declared.finding.LineFault.{LineFault}
use Rattle.lload_conf.specs.declared.table.Directive.TheVariants.{BackendServer}
use Rattle.lload_conf.proofs.Drafts.{Drafted, drafted-none, fault-same, taken-more}

-- the draft stands for the lines that were kept, and the faults that were told and those that are left are all faults
pub record IsOnTheWay (count : ℕ) (all told : List Fault) (before : List Words) (draft : Draft) (left : List ConfLine) : Type 0 where
  pub drafted : Drafted before draft
  pub same : told ++ faults_behind count before left ≡ all

-- one fault more
pub told-more : (found new : List LineFault) (fault : LineFault) (line kind : ℕ) → new ≡ found ++ fault ∷ [] → fault_of fault ≡ record { line = line; kind = kind } → map fault_of new ≡ map fault_of found ++ onto_faults line (Some kind) []
told-more found new fault line kind grown is = ap (map fault_of) grown ∙ (map-append fault_of found (fault ∷ []) ∙ ap (λ f. map fault_of found ++ f ∷ []) is)

-- a line without a fault is kept
behind-kept : (count : ℕ) (before : List Words) (number : ℕ) (words : Words) (later : List ConfLine) → line_fault before words ≡ None → faults_behind count before (record { number = number; content = Worded words } ∷ later) ≡ faults_behind count (before ++ words ∷ []) later
behind-kept count before number words later none = rw none refl

-- a line with one is left out
behind-left_out : (count : ℕ) (before : List Words) (number kind : ℕ) (content : Content) (later : List ConfLine) → content_fault before content ≡ Some kind → faults_behind count before (record { number = number; content = content } ∷ later) ≡ record { line = number; kind = kind } ∷ faults_behind count before later
behind-left_out count before number kind content later some = rw some refl

-- at the beginning nothing was told
pub way-begins : (text : List ℕ) (draft : Draft) (left : List ConfLine) (found : List LineFault) → draft ≡ empty_draft → left ≡ conf_lines text → found ≡ [] → IsOnTheWay (line_count text) (all_faults text) (map fault_of found) [] draft left
way-begins text draft left found new lines none = record {
  drafted = subst (Drafted []) (sym new) drafted-none;
  same = λ i. map fault_of (none i) ++ faults_behind (line_count text) [] (lines i);
}

-- a fault of the next line is told
told-here : (count : ℕ) (all told new : List Fault) (before : List Words) (left later : List ConfLine) (number kind : ℕ) (content : Content) → told ++ faults_behind count before left ≡ all → left ≡ record { number = number; content = content } ∷ later → content_fault before content ≡ Some kind → new ≡ told ++ onto_faults number (Some kind) [] → new ++ faults_behind count before later ≡ all
told-here count all told new before left later number kind content same next some grown =
    ap (λ faults. faults ++ faults_behind count before later) grown
    ∙ (append_assoc told (record { line = number; kind = kind } ∷ []) (faults_behind count before later)
    ∙ (ap (λ faults. told ++ faults) (sym (ap (faults_behind count before) next ∙ behind-left_out count before number kind content later some)) ∙ same))

-- the next line has words: it is kept, or its fault is told
pub way-next : (count : ℕ) (all told new : List Fault) (before : List Words) (draft after : Draft) (left later : List ConfLine) (number : ℕ) (words : Words) (fault : Option ℕ) → IsOnTheWay count all told before draft left → left ≡ record { number = number; content = Worded words } ∷ later → (shown : Words) → shown ≡ words → Takes draft shown fault after → new ≡ told ++ onto_faults number fault []
    → (kept : List Words) × IsOnTheWay count all new kept after later
way-next count all told new before draft after left later number words None way next shown same took grown =
    let takes = subst (λ ws. Takes draft ws None after) same took in
    let none = sym (fault-same before draft words way.drafted) ∙ sym takes.kind in (
      before ++ words ∷ [],
      record {
        drafted = taken-more before draft after words way.drafted (sym takes.kind) (takes.taken refl);
        same = ap (λ faults. faults ++ faults_behind count (before ++ words ∷ []) later) (grown ∙ append-nil told) ∙ (ap (λ faults. told ++ faults) (sym (ap (faults_behind count before) next ∙ behind-kept count before number words later none)) ∙ way.same);
      },
    )
way-next count all told new before draft after left later number words (Some kind) way next shown same took grown =
    let takes = subst (λ ws. Takes draft ws (Some kind) after) same took in
    let some = sym (fault-same before draft words way.drafted) ∙ sym takes.kind in (
      before,
      record {
        drafted = subst (Drafted before) (sym (takes.left_out kind refl)) way.drafted;
        same = told-here count all told new before left later number kind (Worded words) way.same next some grown;
      },
    )

-- the next line is faulty by itself, and is passed
pub way-passed : (count : ℕ) (all told new : List Fault) (before : List Words) (draft : Draft) (left later rest : List ConfLine) (number kind : ℕ) → IsOnTheWay count all told before draft left → left ≡ record { number = number; content = Faulty kind } ∷ later → rest ≡ later → new ≡ told ++ onto_faults number (Some kind) [] → IsOnTheWay count all new before draft rest
way-passed count all told new before draft left later rest number kind way next passed grown = record {
  drafted = way.drafted;
  same = ap (λ lines. new ++ faults_behind count before lines) passed ∙ told-here count all told new before left later number kind (Faulty kind) way.same next refl grown;
}

-- what is behind the first line, where that is passed
pub passed-later : (left later rest new : List ConfLine) (line : ConfLine) → left ≡ line ∷ later → new ≡ left → rest ≡ drop 1 new → rest ≡ later
passed-later left later rest new line next stays passed = passed ∙ (ap (drop 1) stays ∙ ap (drop 1) next)

-- no line is left
pub way-ends : (count : ℕ) (all told : List Fault) (before : List Words) (draft : Draft) (left : List ConfLine) (backends : ℕ) → IsOnTheWay count all told before draft left → left ≡ [] → backends ≡ length draft.hosts → told ++ faults_at_end count backends ≡ all
way-ends count all told before draft left backends way end is =
    ap (λ n. told ++ faults_at_end count n) (is ∙ way.drafted.backends) ∙ (sym (ap (λ lines. told ++ faults_behind count before lines) end) ∙ way.same)

-- what follows from a fact at an answer follows from it there
pub when_ok : {A E : Type 0} {P Q : A → Type 0} (r : Result A E) → ((x : A) → P x → Q x) → IfOk r P → IfOk r Q
when_ok (Ok x) follows is = follows x is
when_ok (Err e) follows is = tt

-- the first of all faults is the answer's, and there is none exactly where it is a configuration
pub first-is : (count : ℕ) (before : List Words) (lines : List ConfLine) → AreOf (answer_behind count before lines) (faults_behind count before lines)
first-is count before [] = from_test (count_under BackendServer before == 0) refl where
  from_test : (t : Bool) → (count_under BackendServer before == 0) ≡ t → AreOf (answer_behind count before []) (faults_behind count before [])
  from_test true none = rw none refl
  from_test false some = rw some refl
first-is count before (line ∷ lines) = from_fault (content_fault before line.content) refl (first-is count (before ++ words_in line.content ∷ []) lines) where
  from_fault : (f : Option ℕ) → content_fault before line.content ≡ f → AreOf (answer_behind count (before ++ words_in line.content ∷ []) lines) (faults_behind count (before ++ words_in line.content ∷ []) lines) → AreOf (answer_behind count before (line ∷ lines)) (faults_behind count before (line ∷ lines))
  from_fault None none later = rw none later
  from_fault (Some kind) some later = rw some refl
