-- All faults of a text: a line with one is left out, and what stands behind it is read as if it weren't there.
use Rattle.std.specs.Prelude.{◌≡◌, ℕ, ◌+◌, ◌==◌, if◌then◌else◌, List, [], ◌∷◌, ◌++◌, Option, Some, None, Result, Err, is_none, IsOk}
use Rattle.conf_words.specs.Lines.{ConfLine, Content, conf_lines, line_count}
use Rattle.lload_conf.specs.Configuration.{Fault, content_fault, count_under, words_in}
use Rattle.lload_conf.specs.Line.{Words}
use Rattle.lload_conf.specs.declared.config.Config.{Config}
use Rattle.lload_conf.specs.declared.finding.LineFault.{LineFault}
use Rattle.lload_conf.specs.declared.table.Directive.TheVariants.{BackendServer}

-- the fault of a line, where it has one, in front of others
abbrev pub onto_faults : ℕ → Option ℕ → List Fault → List Fault
onto_faults line None faults = faults
onto_faults line (Some kind) faults = record { line = line; kind = kind } ∷ faults

-- lines and one behind them, which is left out where it has a fault
abbrev pub kept_behind : List Words → Content → List Words
kept_behind before content = if is_none (content_fault before content) then before ++ words_in content ∷ [] else before

-- the fault of a text of so many lines that has so many backends; kind 10: it has none
abbrev pub faults_at_end : ℕ → ℕ → List Fault
faults_at_end count backends = if backends == 0 then record { line = count + 1; kind = 10 } ∷ [] else []

-- the faults where these lines were kept and those stand behind them, in a text of so many lines
abbrev pub faults_behind : ℕ → List Words → List ConfLine → List Fault
faults_behind count before [] = faults_at_end count (count_under BackendServer before)
faults_behind count before (line ∷ lines) = onto_faults line.number (content_fault before line.content) (faults_behind count (kept_behind before line.content) lines)

-- all faults of a text, in the order of its lines
abbrev pub all_faults : List ℕ → List Fault
all_faults text = faults_behind (line_count text) [] (conf_lines text)

-- a fault that was found, by its line and its kind
abbrev pub fault_of : LineFault → Fault
fault_of found = record { line = found.line; kind = found.kind }

-- the first of some faults is that of an answer, and there is none exactly where the answer is a configuration
abbrev pub AreOf : Result Config Fault → List Fault → Type 0
AreOf answer [] = IsOk answer
AreOf answer (first ∷ more) = answer ≡ Err first
