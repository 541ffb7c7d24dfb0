-- The history of one line more.
use Rattle.std.proofs.Common.{◌≡◌, ℕ, suc, List, [], ◌∷◌, ◌++◌, length, append_assoc, sym, ap, ◌∙◌, refl}
use Rattle.std.specs.Prelude.{Option, Some, None}
use Rattle.std.proofs.lemmas.List.{append-nil}
use Rattle.lload_names.specs.declared.command.Command.{Command}
use Rattle.small_spec.specs.History.{Line, commands, journal}
use Rattle.lload_spec.specs.Script.{command_of}
use Rattle.lload_spec.specs.Transcript.{journal_text}
use Rattle.lload_spec.proofs.Texts.{journal_text-append}
use Rattle.lloadd_run.specs.Scripts.{with_command, commands_of}

pub commands-line : (history : List Line) (line : Line) → commands (history ++ line ∷ []) ≡ commands history ++ line.command ∷ []
commands-line [] line = refl
commands-line (l ∷ ls) line = ap (λ cs. l.command ∷ cs) (commands-line ls line)

pub journal-line : (history : List Line) (line : Line) → journal (history ++ line ∷ []) ≡ journal history ++ line.piece
journal-line [] line = append-nil line.piece
journal-line (l ∷ ls) line = ap (λ J. l.piece ++ J) (journal-line ls line) ∙ sym (append_assoc l.piece (journal ls) line.piece)

pub text-line : (history : List Line) (line : Line) → journal_text (journal (history ++ line ∷ [])) ≡ journal_text (journal history) ++ journal_text line.piece
text-line history line = ap journal_text (journal-line history line) ∙ journal_text-append (journal history) line.piece

pub length-commands : (history : List Line) → length (commands history) ≡ length history
length-commands [] = refl
length-commands (l ∷ ls) = simp (length-commands ls)

-- what a list of commands is made of
pub record WithCommand (o : Option Command) (os : Option (List Command)) (all : List Command) : Type 0 where
  pub command : Command
  pub behind : List Command
  pub first : o ≡ Some command
  pub others : os ≡ Some behind
  pub all_are : all ≡ command ∷ behind

with_command-some : (o : Option Command) (os : Option (List Command)) (all : List Command) → with_command o os ≡ Some all → WithCommand o os all
with_command-some (Some c) (Some cs) all h = record { command = c; behind = cs; first = refl; others = refl; all_are = cc }
with_command-some (Some c) None all h = absurd (cc)
with_command-some None os all h = absurd (cc)

pub commands_of-line : (lines : List (List ℕ)) (cs : List Command) (line : List ℕ) (c : Command) → commands_of lines ≡ Some cs → command_of line ≡ Some c → commands_of (lines ++ line ∷ []) ≡ Some (cs ++ c ∷ [])
commands_of-line [] cs line c h k =
    let none : cs ≡ [] = cc in
    ap (λ o. with_command o (Some [])) k ∙ ap (λ all. Some (all ++ c ∷ [])) (sym none)
commands_of-line (l ∷ ls) cs line c h k =
    let parts = with_command-some (command_of l) (commands_of ls) cs h in
    let more = commands_of-line ls parts.behind line c parts.others k in
    ap (λ o. with_command o (commands_of (ls ++ line ∷ []))) parts.first ∙ (ap (λ os. with_command (Some parts.command) os) more ∙ ap (λ all. Some (all ++ c ∷ [])) (sym parts.all_are))

pub length-commands_of : (lines : List (List ℕ)) (cs : List Command) → commands_of lines ≡ Some cs → length lines ≡ length cs
length-commands_of [] cs h =
    let none : cs ≡ [] = cc in
    ap length (sym none)
length-commands_of (l ∷ ls) cs h =
    let parts = with_command-some (command_of l) (commands_of ls) cs h in
    let more = length-commands_of ls parts.behind parts.others in
    ap suc more ∙ ap length (sym parts.all_are)

-- a command among others, behind those of these lines
pub record Among (line : List ℕ) (before all : List Command) : Type 0 where
  pub command : Command
  pub behind : List Command
  pub is : command_of line ≡ Some command
  pub all_are : all ≡ before ++ command ∷ behind

pub commands_of-among : (lines : List (List ℕ)) (line : List ℕ) (more : List (List ℕ)) (before all : List Command) → commands_of (lines ++ line ∷ more) ≡ Some all → commands_of lines ≡ Some before → Among line before all
commands_of-among [] line more before all h k =
    let none : before ≡ [] = cc in
    let parts = with_command-some (command_of line) (commands_of more) all h in
    record { command = parts.command; behind = parts.behind; is = parts.first; all_are = parts.all_are ∙ ap (λ cs. cs ++ parts.command ∷ parts.behind) (sym none) }
commands_of-among (l ∷ ls) line more before all h k =
    let whole = with_command-some (command_of l) (commands_of (ls ++ line ∷ more)) all h in
    let front = with_command-some (command_of l) (commands_of ls) before k in
    let found = commands_of-among ls line more front.behind whole.behind whole.others front.others in
    let same : whole.command ≡ front.command = let a = whole.first in let b = front.first in cc in
    record {
      command = found.command;
      behind = found.behind;
      is = found.is;
      all_are = whole.all_are ∙ (ap (λ c. c ∷ whole.behind) same ∙ (ap (λ cs. front.command ∷ cs) found.all_are ∙ ap (λ cs. cs ++ found.command ∷ found.behind) (sym front.all_are)));
    }
