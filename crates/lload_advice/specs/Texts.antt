-- The texts of advice (this project's own).
use Rattle.std.specs.Prelude.{ℕ, ◌==◌, if◌then◌else◌, List, [], ◌++◌, length, codes}
use Rattle.std.specs.Fmt.{decimal}
use Rattle.lload_advice.specs.declared.advice.Advice.{Advice}
use Rattle.lload_advice.specs.declared.noting.Note.{Note}
use Rattle.lload_advice.specs.declared.reason.Remedy.{Remedy}
use Rattle.lload_advice.specs.declared.reason.Remedy.TheVariants.{Words, Name, Number}

-- what to do
abbrev pub remedy_text : Remedy → List ℕ
remedy_text (Words words) = words.now
remedy_text (Name name) = codes "did you mean '" ++ (name.now ++ codes "'?")
remedy_text (Number range) = codes "give a number from " ++ (decimal range.low ++ (codes " to " ++ decimal range.high))

-- what stands behind a word, where there is one
abbrev pub colon_behind : List ℕ → List ℕ
colon_behind word = if length word == 0 then [] else codes ": "

-- what is wrong with a word and what to do
abbrev pub said_text : Advice → List ℕ
said_text a = a.word ++ (colon_behind a.word ++ (a.reason.wrong.now ++ (codes "; " ++ remedy_text a.reason.remedy)))

-- the line of an advice on a file of this name
abbrev pub advice_text : List ℕ → Advice → List ℕ
advice_text file a =
    file ++ (codes ":" ++ (decimal a.physical ++ (codes ": " ++ (said_text a ++ (codes " (line " ++ (decimal a.line ++ (codes ", kind " ++ (decimal a.kind ++ codes ")\n"))))))))

-- the line of a note on a file of this name
abbrev pub note_text : List ℕ → Note → List ℕ
note_text file note = file ++ (codes ":" ++ (decimal note.physical ++ (codes ": " ++ (note.word ++ codes ": taken without effect\n"))))
