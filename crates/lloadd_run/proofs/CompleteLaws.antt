-- A script that can be replayed is replayed, where nothing fails.
use Rattle.std.proofs.Common.{◌≡◌, ℕ, List, [], ◌∷◌, ◌++◌, length, take, drop, append_assoc, sym, ap, ◌∙◌, subst, refl, arith, inl, inr}
use Rattle.std.specs.Prelude.{Option, Some, ◌⊎◌, IsTrue, Bool, true, false, not}
use Rattle.std.proofs.lemmas.List.{append-nil, length-append, take-append-drop}
use Rattle.lload_names.specs.declared.command.Command.{Command}
use Rattle.lload_outside.specs.Causes.{Rose}
use Rattle.lload_outside.specs.Told.{Told}
use Rattle.small_spec.specs.History.{Line, commands}
use Rattle.small_spec.specs.Plain.{plain}
use Rattle.lload_spec.specs.Script.{command_of}
use Rattle.small_spec.specs.Standing.{stands}
use Rattle.lloadd_run.specs.declared.status.Status.{Status}
use Rattle.lloadd_run.specs.declared.status.Status.TheVariants.{Done, Usage, ConfRefused, ScriptRefused, ReadFault, WriteFault, NoMemory, TooLong, ListenFault}
use Rattle.lloadd_run.specs.Outcomes.{Ends, CanBeReplayed, EachStands, RefusedAt, ReplayedWithin, IsWrong}
use Rattle.lloadd_run.specs.Amounts.{Took}
use Rattle.lloadd_run.specs.Scripts.{whole_lines, unfinished, commands_of, refuses, Replays}
use Rattle.lloadd_run.proofs.LineLaws.{lines_grow}
use Rattle.lloadd_run.proofs.HistoryLaws.{commands_of-among}

stands_or_not : (b : Bool) → IsTrue b → not b ≡ true → ⊥
stands_or_not true s r = cc
stands_or_not false s r = cc

-- a line that is refused is no command that stands
pub not_refused : (history : List Line) (o : Option Command) (c : Command) → o ≡ Some c → IsTrue (stands plain history c) → refuses history o ≡ true → ⊥
not_refused history o c is s r = stands_or_not (stands plain history c) s (subst (λ o. refuses history o ≡ true) is r)

-- a line among those within the limit is among those of the whole text
pub record Found (text : List ℕ) (lines : List (List ℕ)) : Type 0 where
  pub behind : List (List ℕ)
  pub lines_are : whole_lines text ≡ lines ++ behind

found_within : (limit : ℕ) (taken tail text : List ℕ) → text ≡ taken ++ tail → Found text (whole_lines (take limit taken))
found_within limit taken tail text all =
    let grown = lines_grow (take limit taken) (drop limit taken ++ tail) in record {
      behind = grown.behind;
      lines_are = ap whole_lines (all ∙ (ap (λ l. l ++ tail) (sym (take-append-drop limit taken)) ∙ append_assoc (take limit taken) (drop limit taken) tail)) ∙ grown.lines;
    }

-- a line of a script whose commands stand isn't refused behind a history of the lines before it
pub among_stands : (all before : List (List ℕ)) (next : List ℕ) (behind : List (List ℕ)) (script : List Command) (history : List Line) → all ≡ before ++ next ∷ behind → commands_of all ≡ Some script → EachStands script → Replays before history → refuses history (command_of next) ≡ true → ⊥
among_stands all before next behind script history split are stand r refused =
    let among = commands_of-among before next behind (commands history) script (ap commands_of (sym split) ∙ are) r.are_commands in
    not_refused history (command_of next) among.command among.is (stand history among.command among.behind among.all_are r.follows r.kept) refused

-- lines and others, by the first of them and one more
pub with_next : (all lines behind : List (List ℕ)) (k : ℕ) (next : List ℕ) (more : List (List ℕ)) → all ≡ lines ++ behind → drop k lines ≡ next ∷ more → all ≡ take k lines ++ next ∷ (more ++ behind)
with_next all lines behind k next more are back =
    are ∙ (ap (λ ls. ls ++ behind) (sym (take-append-drop k lines) ∙ ap (λ ls. take k lines ++ ls) back) ∙ append_assoc (take k lines) (next ∷ more) behind)

-- nothing is wrong behind a history of the first lines of a script that can be replayed
not_wrong : (limit : ℕ) (text taken tail : List ℕ) (history : List Line) (lines rest : List (List ℕ)) (now : Option (List ℕ)) → CanBeReplayed limit text → text ≡ taken ++ tail → now ≡ Some tail → Found text lines → Replays (take (length history) lines) history → drop (length history) lines ≡ rest → IsWrong limit history rest taken now → ⊥
not_wrong limit text taken tail history lines [] now can all left found r back wrong =
    let none : tail ≡ [] = subst (Told (λ rest. rest ≡ [])) left wrong.2 in
    wrong.1 (ap unfinished (sym (append-nil taken) ∙ (ap (λ l. taken ++ l) (sym none) ∙ sym all)) ∙ can.finished)
not_wrong limit text taken tail history lines (next ∷ more) now can all left found r back wrong =
    among_stands (whole_lines text) (take (length history) lines) next (more ++ found.behind) can.script history (with_next (whole_lines text) lines found.behind (length history) next more found.lines_are back) can.are_commands can.each_stands r wrong

-- what was taken of a text that is told, and what is left
pub told_left : (text taken : List ℕ) (left now : Option (List ℕ)) → left ≡ Some text → Took left now taken → (tail : List ℕ) × (text ≡ taken ++ tail) × (now ≡ Some tail)
told_left text taken left now told took = subst (λ l. Took l now taken) told took

never_refused : (limit line : ℕ) (text : List ℕ) (left now written w : Option (List ℕ)) → left ≡ Some text → CanBeReplayed limit text → RefusedAt limit line left now written w → ⊥
never_refused limit line text left now written w told can r =
    let took = told_left text r.text left now told r.taken in
    not_wrong limit text r.text took.0 r.history (whole_lines (take limit r.text)) (drop (length r.history) (whole_lines (take limit r.text))) now can took.1 took.2 (found_within limit r.text took.0 text took.1) r.replays refl r.wrong

never_over : (limit : ℕ) (text : List ℕ) (left now written w : Option (List ℕ)) → left ≡ Some text → CanBeReplayed limit text → ReplayedWithin limit left now written w → ⊥
never_over limit text left now written w told can r =
    let took = told_left text r.text left now told r.taken in
    let over = r.over in
    let within = can.within in
    omega (arith, ap length took.1, length-append r.text took.0)

-- a script that can be replayed is replayed, or memory is wanting
pub replayed : (limit : ℕ) (status : Status) (text : List ℕ) (r rr o oo : ℕ) (left now written w : Option (List ℕ)) → left ≡ Some text → CanBeReplayed limit text → (Rose r rr → ⊥) → (Rose o oo → ⊥) → Ends limit status r rr left now o oo written w → (status ≡ Done) ⊎ (status ≡ NoMemory)
replayed limit Done text r rr o oo left now written w told can no_read no_write e = inl refl
replayed limit NoMemory text r rr o oo left now written w told can no_read no_write e = inr refl
replayed limit ReadFault text r rr o oo left now written w told can no_read no_write e = absurd (no_read e.0)
replayed limit WriteFault text r rr o oo left now written w told can no_read no_write e = absurd (no_write e.0)
replayed limit TooLong text r rr o oo left now written w told can no_read no_write e = absurd (never_over limit text left now written w told can e)
replayed limit (ScriptRefused line) text r rr o oo left now written w told can no_read no_write e = absurd (never_refused limit line text left now written w told can e)
replayed limit Usage text r rr o oo left now written w told can no_read no_write e = absurd e
replayed limit (ConfRefused line kind) text r rr o oo left now written w told can no_read no_write e = absurd e
replayed limit ListenFault text r rr o oo left now written w told can no_read no_write e = absurd e
