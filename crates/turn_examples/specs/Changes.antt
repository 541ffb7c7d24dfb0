-- Changes of what a turn makes: of its entries, and of its letters.
use Rattle.std.specs.Prelude.{Bool, true, false, not, List, [], ◌∷◌, filter, flat_map, map}
use Rattle.lload_names.specs.declared.inputs.Effects.{Effects}
use Rattle.lload_names.specs.declared.inputs.Input.{Input}
use Rattle.lload_names.specs.declared.inputs.Input.TheVariants.{LetterFrom}
use Rattle.lload_names.specs.declared.names.Entry.{Entry}
use Rattle.lload_names.specs.declared.names.Letter.{Letter}
use Rattle.lload_names.specs.declared.names.Posted.{Posted}
use Rattle.lload_names.specs.declared.names.What.{What}
use Rattle.lload_names.specs.declared.names.Letter.TheVariants.{Ask, Choice, Forward, Returned, Ended, IsUp, IsRetired, IsDown, Reply, Failed, Drop, Leave, Pause, Resume}

-- another thing happens
abbrev pub entry_with : (What → What) → Entry → Entry
entry_with change x = record x { what = change x.what }

abbrev pub with_whats : (What → What) → Effects → Effects
with_whats change e = record e { entries = map (entry_with change) e.entries }

-- entries that are left out
abbrev pub without_whats : (What → Bool) → Effects → Effects
without_whats test e = record e { entries = filter (λ x. not (test x.what)) e.entries }

-- each letter is these
abbrev pub with_letters : (Posted → List Posted) → Effects → Effects
with_letters change e = record e { letters = flat_map change e.letters }

-- letters that are left out, and letters that are given twice
abbrev pub without_letters : (Letter → Bool) → Effects → Effects
without_letters test e = record e { letters = filter (λ x. not (test x.letter)) e.letters }

abbrev pub twice : (Letter → Bool) → Posted → List Posted
twice test x = elim (test x.letter) [ true ↦ x ∷ x ∷ [] | false ↦ x ∷ [] ]

abbrev pub letters_twice : (Letter → Bool) → Effects → Effects
letters_twice test e = with_letters (twice test) e

-- which letter it is
abbrev pub is_drop : Letter → Bool
is_drop (Drop op) = true
is_drop _ = false

abbrev pub is_leave : Letter → Bool
is_leave (Leave holder) = true
is_leave _ = false

abbrev pub is_pause : Letter → Bool
is_pause (Pause client) = true
is_pause _ = false

abbrev pub is_resume : Letter → Bool
is_resume (Resume client) = true
is_resume _ = false

abbrev pub is_returned : Letter → Bool
is_returned (Returned op conn) = true
is_returned _ = false

abbrev pub is_ended : Letter → Bool
is_ended (Ended op conn latency) = true
is_ended _ = false

abbrev pub is_failed : Letter → Bool
is_failed (Failed op which) = true
is_failed _ = false

abbrev pub is_answer_before_last : Letter → Bool
is_answer_before_last (Reply op rest is_last who) = not is_last
is_answer_before_last _ = false

abbrev pub is_told_up : Letter → Bool
is_told_up (IsUp conn) = true
is_told_up _ = false

abbrev pub is_told_retired : Letter → Bool
is_told_retired (IsRetired conn) = true
is_told_retired _ = false

abbrev pub is_told_down : Letter → Bool
is_told_down (IsDown conn) = true
is_told_down _ = false

abbrev pub is_ask : Letter → Bool
is_ask (Ask op want) = true
is_ask _ = false

abbrev pub is_choice : Letter → Bool
is_choice (Choice op answer) = true
is_choice _ = false

abbrev pub is_forward : Letter → Bool
is_forward (Forward op sort rest ask_who holder) = true
is_forward _ = false

-- nothing happens, and nothing is given
abbrev pub passed_over : Effects → Effects
passed_over e = record { entries = []; letters = [] }

-- another letter is passed over
abbrev pub passed_over_if : (Letter → Bool) → Input → Effects → Effects
passed_over_if test (LetterFrom now word sender letter) e = elim (test letter) [ true ↦ passed_over e | false ↦ e ]
passed_over_if test input e = e

abbrev pub is_reply : Letter → Bool
is_reply (Reply op rest is_last who) = true
is_reply _ = false
