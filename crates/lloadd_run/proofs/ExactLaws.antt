-- Where nothing fails, a script that is too long, or has a wrong line, is told so.
use Rattle.std.proofs.Common.{◌≡◌, ◌≢◌, ◌≤◌, ◌-◌, min, ℕ, zero, suc, ◌+◌, List, [], ◌∷◌, ◌++◌, length, take, drop, append_assoc, sym, ap, ◌∙◌, subst, refl, arith, inl, inr}
use Rattle.std.specs.Prelude.{Option, Some, ◌⊎◌, true}
use Rattle.std.proofs.Math.Seq.{take-nil}
use Rattle.std.proofs.lemmas.List.{append-nil, length-append, take-append-drop, take-append-le, take_min}
use Rattle.lload_names.specs.declared.command.Command.{Command}
use Rattle.lload_outside.specs.Causes.{Rose}
use Rattle.lload_outside.specs.Told.{Told}
use Rattle.small_spec.specs.History.{Line, commands, journal, EachFrom}
use Rattle.small_spec.specs.Follows.{Obeys, Follows}
use Rattle.small_spec.specs.Plain.{plain}
use Rattle.lload_spec.specs.Script.{command_of}
use Rattle.small_play.specs.Plays.{HasKept, Promised}
use Rattle.lloadd_run.specs.declared.status.Status.{Status}
use Rattle.lloadd_run.specs.declared.status.Status.TheVariants.{Done, Usage, ConfRefused, ScriptRefused, ReadFault, WriteFault, NoMemory, TooLong, ListenFault}
use Rattle.lloadd_run.specs.Outcomes.{Ends, ReplayedAll, ReplayedWithin, RefusedAt, IsTooLong, IsWrongAt, IsWrongBehind, IsWrong}
use Rattle.lloadd_run.specs.Scripts.{whole_lines, unfinished, commands_of, refuses, Replays}
use Rattle.lloadd_run.proofs.CompleteLaws.{among_stands, with_next, told_left, not_refused}
use Rattle.lloadd_run.proofs.HistoryLaws.{length-commands, length-commands_of, commands_of-among}
use Rattle.lloadd_run.proofs.LineLaws.{lines_grow}
use Rattle.lloadd_run.proofs.RunLaws.{all_within}

-- the first bytes of some bytes and others begin with the first of these
pub record FirstGrow (limit : ℕ) (taken tail : List ℕ) : Type 0 where
  pub more : List ℕ
  pub first : take limit (taken ++ tail) ≡ take limit taken ++ more

first_grow : (limit : ℕ) (taken tail : List ℕ) → FirstGrow limit taken tail
first_grow limit [] tail = record { more = take limit tail; first = ap (λ l. l ++ take limit tail) (sym (take-nil limit)) }
first_grow zero (b ∷ bs) tail = record { more = []; first = refl }
first_grow (suc limit) (b ∷ bs) tail =
    let rest = first_grow limit bs tail in
    record { more = rest.more; first = ap (λ l. b ∷ l) rest.first }

-- the lines within the limit begin with those of what was taken within it
pub record LinesWithin (limit : ℕ) (text taken : List ℕ) : Type 0 where
  pub behind : List (List ℕ)
  pub lines_are : whole_lines (take limit text) ≡ whole_lines (take limit taken) ++ behind

lines_within : (limit : ℕ) (text taken tail : List ℕ) → text ≡ taken ++ tail → LinesWithin limit text taken
lines_within limit text taken tail all =
    let first = first_grow limit taken tail in
    let grown = lines_grow (take limit taken) first.more in
    record { behind = grown.behind; lines_are = ap (λ l. whole_lines (take limit l)) all ∙ (ap whole_lines first.first ∙ grown.lines) }

-- in a script that is too long nothing is wrong within the limit
long_not_wrong : (limit : ℕ) (text taken tail : List ℕ) (history : List Line) (rest : List (List ℕ)) (now : Option (List ℕ)) → IsTooLong limit text → text ≡ taken ++ tail → now ≡ Some tail → Replays (take (length history) (whole_lines (take limit taken))) history → drop (length history) (whole_lines (take limit taken)) ≡ rest → IsWrong limit history rest taken now → ⊥
long_not_wrong limit text taken tail history [] now is all left r back wrong =
    let none : tail ≡ [] = subst (Told (λ rest. rest ≡ [])) left wrong.2 in
    let over = is.over in
    let within = wrong.0 in
    omega (arith, ap length all, length-append taken tail, ap length none)
long_not_wrong limit text taken tail history (next ∷ more) now is all left r back wrong =
    let grown = lines_within limit text taken tail all in
    among_stands (whole_lines (take limit text)) (take (length history) (whole_lines (take limit taken))) next (more ++ grown.behind) is.script history (with_next (whole_lines (take limit text)) (whole_lines (take limit taken)) grown.behind (length history) next more grown.lines_are back) is.are_commands is.each_stands r wrong

long_not_refused : (limit line : ℕ) (text : List ℕ) (left now written w : Option (List ℕ)) → left ≡ Some text → IsTooLong limit text → RefusedAt limit line left now written w → ⊥
long_not_refused limit line text left now written w told is r =
    let took = told_left text r.text left now told r.taken in
    long_not_wrong limit text r.text took.0 r.history (drop (length r.history) (whole_lines (take limit r.text))) now is took.1 took.2 r.replays refl r.wrong

-- a script that was read to its end is what was taken
all_taken : (text taken tail : List ℕ) (now : Option (List ℕ)) → text ≡ taken ++ tail → now ≡ Some tail → Told (λ rest. rest ≡ []) now → text ≡ taken
all_taken text taken tail now all left ended =
    let none : tail ≡ [] = subst (Told (λ rest. rest ≡ [])) left ended in
    all ∙ (ap (λ l. taken ++ l) none ∙ append-nil taken)

long_not_done : (limit : ℕ) (text : List ℕ) (left now written w : Option (List ℕ)) → left ≡ Some text → IsTooLong limit text → ReplayedAll limit left now written w → ⊥
long_not_done limit text left now written w told is r =
    let took = told_left text r.text left now told r.taken in
    let same = all_taken text r.text took.0 now took.1 took.2 r.ended in
    let over = is.over in
    let within = r.within in
    omega (arith, ap length same)

-- a script that is too long is told so, or memory is wanting
pub told_too_long : (limit : ℕ) (status : Status) (text : List ℕ) (r rr o oo : ℕ) (left now written w : Option (List ℕ)) → left ≡ Some text → IsTooLong limit text → (Rose r rr → ⊥) → (Rose o oo → ⊥) → Ends limit status r rr left now o oo written w → (status ≡ TooLong) ⊎ (status ≡ NoMemory)
told_too_long limit Done text r rr o oo left now written w told is no_read no_write e = absurd (long_not_done limit text left now written w told is e)
told_too_long limit NoMemory text r rr o oo left now written w told is no_read no_write e = inr refl
told_too_long limit ReadFault text r rr o oo left now written w told is no_read no_write e = absurd (no_read e.0)
told_too_long limit WriteFault text r rr o oo left now written w told is no_read no_write e = absurd (no_write e.0)
told_too_long limit TooLong text r rr o oo left now written w told is no_read no_write e = inl refl
told_too_long limit (ScriptRefused line) text r rr o oo left now written w told is no_read no_write e = absurd (long_not_refused limit line text left now written w told is e)
told_too_long limit Usage text r rr o oo left now written w told is no_read no_write e = absurd e
told_too_long limit (ConfRefused line kind) text r rr o oo left now written w told is no_read no_write e = absurd e
told_too_long limit ListenFault text r rr o oo left now written w told is no_read no_write e = absurd e

-- a history in two, around the line of a command
pub record Around (script : List Command) (command : Command) (history : List Line) : Type 0 where
  pub front : List Line
  pub line : Line
  pub back : List Line
  pub history_is : history ≡ front ++ line ∷ back
  pub front_is : commands front ≡ script
  pub line_is : line.command ≡ command

around : (script : List Command) (command : Command) (behind : List Command) (history : List Line) → commands history ≡ script ++ command ∷ behind → Around script command history
around [] command behind [] e = absurd (cc)
around [] command behind (l ∷ ls) e = record { front = []; line = l; back = ls; history_is = refl; front_is = refl; line_is = cc }
around (s ∷ ss) command behind [] e = absurd (cc)
around (s ∷ ss) command behind (l ∷ ls) e =
    let others : commands ls ≡ ss ++ command ∷ behind = cc in
    let first : l.command ≡ s = cc in
    let rest = around ss command behind ls others in record {
      front = l ∷ rest.front;
      line = rest.line;
      back = rest.back;
      history_is = ap (λ h. l ∷ h) rest.history_is;
      front_is = ap (λ c. c ∷ commands rest.front) first ∙ ap (λ cs. s ∷ cs) rest.front_is;
      line_is = rest.line_is;
    }

-- what each element obeys, those of a front and the next one obey
front_obeys : {A : Type 0} (Rule : List A → A → Type 0) (before front : List A) (x : A) (back : List A) → EachFrom Rule before (front ++ x ∷ back) → EachFrom Rule before front × Rule (before ++ front) x
front_obeys Rule before [] x back e = (tt, subst (λ l. Rule l x) (sym (append-nil before)) e.0)
front_obeys Rule before (y ∷ ys) x back e =
    let rest = front_obeys Rule (before ++ y ∷ []) ys x back e.1 in
    ((e.0, rest.0), subst (λ l. Rule l x) (append_assoc before (y ∷ []) ys) rest.1)

front_kept : (front back : List Line) → HasKept (front ++ back) → HasKept front
front_kept front back kept n =
    let few : min n (length front) ≤ length front = omega arith in
    subst (λ h. Promised (journal h)) (take-append-le (min n (length front)) front back few ∙ take_min n front) (kept (min n (length front)))

-- no history has a line that is wrong behind each history of the lines before it
never_past : (lines before : List (List ℕ)) (next : List ℕ) (more : List (List ℕ)) (script : List Command) (history : List Line) → lines ≡ before ++ next ∷ more → Replays lines history → commands_of before ≡ Some script → ((h : List Line) → commands h ≡ script → Follows plain h → HasKept h → refuses h (command_of next) ≡ true) → ⊥
never_past lines before next more script history split r are wrong =
    let among = commands_of-among before next more script (commands history) (ap commands_of (sym split) ∙ r.are_commands) are in
    let cut = around script among.command among.behind history among.all_are in
    let obeyed = front_obeys (Obeys plain) [] cut.front cut.line cut.back (subst (Follows plain) cut.history_is r.follows) in
    let kept = front_kept cut.front (cut.line ∷ cut.back) (subst HasKept cut.history_is r.kept) in
    not_refused cut.front (command_of next) cut.line.command (among.is ∙ ap Some (sym cut.line_is)) obeyed.1.stood (wrong cut.front cut.front_is obeyed.0 kept)

-- one front of a list goes beyond another
pub record Goes (short long behind_short behind_long : List (List ℕ)) : Type 0 where
  pub next : List ℕ
  pub more : List (List ℕ)
  pub long_is : long ≡ short ++ next ∷ more
  pub behind_is : behind_short ≡ next ∷ (more ++ behind_long)

-- two fronts of one list, each with what is behind it: the second goes beyond the first, or both are one, or the first
-- goes beyond the second
abbrev Fronts : (one behind_one two behind_two : List (List ℕ)) → Type 0
Fronts one behind_one two behind_two = Goes one two behind_one behind_two ⊎ (((two ≡ one) × (behind_one ≡ behind_two)) ⊎ Goes two one behind_two behind_one)

goes_under : (x : List ℕ) (short long behind_short behind_long : List (List ℕ)) → Goes short long behind_short behind_long → Goes (x ∷ short) (x ∷ long) behind_short behind_long
goes_under x short long behind_short behind_long g = record { next = g.next; more = g.more; long_is = ap (λ l. x ∷ l) g.long_is; behind_is = g.behind_is }

-- both fronts begin with a line
fronts_under : (x y : List ℕ) (one behind_one two behind_two : List (List ℕ)) → x ≡ y → Fronts one behind_one two behind_two → Fronts (x ∷ one) behind_one (y ∷ two) behind_two
fronts_under x y one behind_one two behind_two same (inl g) = inl (subst (λ z. Goes (x ∷ one) (z ∷ two) behind_one behind_two) same (goes_under x one two behind_one behind_two g))
fronts_under x y one behind_one two behind_two same (inr (inl both)) = inr (inl (ap (λ z. z ∷ two) (sym same) ∙ ap (λ l. x ∷ l) both.0, both.1))
fronts_under x y one behind_one two behind_two same (inr (inr g)) = inr (inr (subst (λ z. Goes (z ∷ two) (x ∷ one) behind_two behind_one) same (goes_under x two one behind_two behind_one g)))

fronts : (one behind_one two behind_two : List (List ℕ)) → one ++ behind_one ≡ two ++ behind_two → Fronts one behind_one two behind_two
fronts [] behind_one [] behind_two e = inr (inl (refl, e))
fronts [] behind_one (y ∷ two) behind_two e = inl (record { next = y; more = two; long_is = refl; behind_is = e })
fronts (x ∷ one) behind_one [] behind_two e = inr (inr (record { next = x; more = one; long_is = refl; behind_is = sym e }))
fronts (x ∷ one) behind_one (y ∷ two) behind_two e =
    let first : x ≡ y = cc in
    let others : one ++ behind_one ≡ two ++ behind_two = cc in
    fronts_under x y one behind_one two behind_two first (fronts one behind_one two behind_two others)

-- what is wrong behind the commands before a wrong line, where that line is known
wrong_next : (limit : ℕ) (script : List Command) (rest : List (List ℕ)) (next : List ℕ) (more : List (List ℕ)) (text : List ℕ) → rest ≡ next ∷ more → IsWrongBehind limit script rest text → (h : List Line) → commands h ≡ script → Follows plain h → HasKept h → refuses h (command_of next) ≡ true
wrong_next limit script rest next more text e wrong = subst (λ ls. IsWrongBehind limit script ls text) e wrong

-- a history of lines that go beyond those before the wrong line
past_wrong : (limit line : ℕ) (text : List ℕ) (lines behind : List (List ℕ)) (history : List Line) (is : IsWrongAt limit line text) → Goes is.before lines is.rest behind → Replays lines history → ⊥
past_wrong limit line text lines behind history is g r =
    never_past lines is.before g.next g.more is.script history g.long_is r is.are_commands (wrong_next limit is.script is.rest g.next (g.more ++ behind) text g.behind_is is.wrong)

-- a history of all lines within the limit, and then none is wrong, has no wrong line
no_wrong_line : (limit line : ℕ) (text : List ℕ) (lines : List (List ℕ)) (history : List Line) → IsWrongAt limit line text → whole_lines (take limit text) ≡ lines → Replays lines history → ((length text ≤ limit) × (unfinished text ≢ []) → ⊥) → ⊥
no_wrong_line limit line text lines history is all r ends =
    elim (fronts is.before is.rest lines [] (sym is.lines_are ∙ (all ∙ sym (append-nil lines)))) as (λ f. ⊥) [
      | inl g ↦ past_wrong limit line text lines [] history is g r
      | inr rest ↦ elim rest as (λ f. ⊥) [
        | inl same ↦ ends (subst (λ ls. IsWrongBehind limit is.script ls text) same.1 is.wrong)
        | inr g ↦ none_is_some g.next (g.more ++ is.rest) g.behind_is
      ]
    ] where
      none_is_some : (next : List ℕ) (more : List (List ℕ)) → [] ≡ next ∷ more → ⊥
      none_is_some next more e = cc

wrong_not_done : (limit line : ℕ) (text : List ℕ) (left now written w : Option (List ℕ)) → left ≡ Some text → IsWrongAt limit line text → ReplayedAll limit left now written w → ⊥
wrong_not_done limit line text left now written w told is r =
    let took = told_left text r.text left now told r.taken in
    let same = all_taken text r.text took.0 now took.1 took.2 r.ended in
    let within = r.within in
    let size : length r.text + (limit - length r.text) ≡ limit = omega arith in
    no_wrong_line limit line text (whole_lines r.text) r.history is (ap (λ l. whole_lines (take limit l)) same ∙ ap whole_lines (all_within limit (limit - length r.text) r.text size)) r.replays (λ wrong. wrong.1 (ap unfinished same ∙ r.finished))

wrong_not_over : (limit line : ℕ) (text : List ℕ) (left now written w : Option (List ℕ)) → left ≡ Some text → IsWrongAt limit line text → ReplayedWithin limit left now written w → ⊥
wrong_not_over limit line text left now written w told is r =
    let took = told_left text r.text left now told r.taken in
    let over = r.over in
    let fits : limit ≤ length r.text = omega arith in
    no_wrong_line limit line text (whole_lines (take limit r.text)) r.history is (ap (λ l. whole_lines (take limit l)) took.1 ∙ ap whole_lines (take-append-le limit r.text took.0 fits)) r.replays (λ wrong. let less = wrong.0 in omega (arith, ap length took.1, length-append r.text took.0))

-- a line that is refused isn't before the wrong line
not_before : (limit line : ℕ) (text taken tail : List ℕ) (now : Option (List ℕ)) (history : List Line) (lines back behind : List (List ℕ)) (is : IsWrongAt limit line text) → text ≡ taken ++ tail → now ≡ Some tail → whole_lines (take limit taken) ≡ lines ++ back → Replays lines history → Goes lines is.before (back ++ behind) is.rest → IsWrong limit history back taken now → ⊥
not_before limit line text taken tail now history lines [] behind is all left split r g wrong =
    let same = all_taken text taken tail now all left wrong.2 in
    let whole = sym is.lines_are ∙ (ap (λ l. whole_lines (take limit l)) same ∙ split) in
    omega (arith, ap length whole, ap length g.long_is, length-append is.before is.rest, length-append lines (g.next ∷ g.more), ap length (append-nil lines))
not_before limit line text taken tail now history lines (next ∷ more) behind is all left split r g wrong =
    let same : next ≡ g.next = let e = g.behind_is in cc in
    among_stands is.before lines g.next g.more is.script history g.long_is is.are_commands is.each_stands r (subst (λ l. refuses history (command_of l) ≡ true) same wrong)

-- the line that is refused is the first wrong one
same_line : (limit line refused : ℕ) (text : List ℕ) (left now written w : Option (List ℕ)) → left ≡ Some text → IsWrongAt limit line text → RefusedAt limit refused left now written w → refused ≡ line
same_line limit line refused text left now written w told is r =
    let took = told_left text r.text left now told r.taken in
    let all = whole_lines (take limit r.text) in
    let front = take (length r.history) all in
    let back = drop (length r.history) all in
    let grown = lines_within limit text r.text took.0 took.1 in
    let split = take-append-drop (length r.history) all in
    let whole = grown.lines_are ∙ (ap (λ ls. ls ++ grown.behind) (sym split) ∙ append_assoc front back grown.behind) in
    elim (fronts is.before is.rest front (back ++ grown.behind) (sym is.lines_are ∙ whole)) as (λ f. refused ≡ line) [
      | inl g ↦ absurd (past_wrong limit line text front (back ++ grown.behind) r.history is g r.replays)
      | inr rest ↦ elim rest as (λ f. refused ≡ line) [
        | inl same ↦ r.number ∙ (ap suc (sym (length-commands_of front (commands r.history) r.replays.are_commands ∙ length-commands r.history) ∙ ap length same.0) ∙ sym is.number)
        | inr g ↦ absurd (not_before limit line text r.text took.0 now r.history front back grown.behind is took.1 took.2 (sym split) r.replays g r.wrong)
      ]
    ]

-- a script with a wrong line is refused at the first, or memory is wanting
pub told_refused : (limit line : ℕ) (status : Status) (text : List ℕ) (r rr o oo : ℕ) (left now written w : Option (List ℕ)) → left ≡ Some text → IsWrongAt limit line text → (Rose r rr → ⊥) → (Rose o oo → ⊥) → Ends limit status r rr left now o oo written w → (status ≡ ScriptRefused line) ⊎ (status ≡ NoMemory)
told_refused limit line Done text r rr o oo left now written w told is no_read no_write e = absurd (wrong_not_done limit line text left now written w told is e)
told_refused limit line NoMemory text r rr o oo left now written w told is no_read no_write e = inr refl
told_refused limit line ReadFault text r rr o oo left now written w told is no_read no_write e = absurd (no_read e.0)
told_refused limit line WriteFault text r rr o oo left now written w told is no_read no_write e = absurd (no_write e.0)
told_refused limit line TooLong text r rr o oo left now written w told is no_read no_write e = absurd (wrong_not_over limit line text left now written w told is e)
told_refused limit line (ScriptRefused refused) text r rr o oo left now written w told is no_read no_write e = inl (ap (λ l. ScriptRefused l) (same_line limit line refused text left now written w told is e))
told_refused limit line Usage text r rr o oo left now written w told is no_read no_write e = absurd e
told_refused limit line (ConfRefused at kind) text r rr o oo left now written w told is no_read no_write e = absurd e
told_refused limit line ListenFault text r rr o oo left now written w told is no_read no_write e = absurd e
