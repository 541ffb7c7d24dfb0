-- What was written of an entry is read as this entry.
use Rattle.std.proofs.Common.{◌≡◌, ℕ, ◌^◌, ◌<◌, Bool, true, false, cond, List, [], ◌∷◌, ◌++◌, refl, ap, subst, sym, ◌∙◌, append_assoc, append-nil}
use Rattle.std.specs.Prelude.{Option, Some, None, codes, IsTrue}
use Rattle.std.specs.Fmt.{decimal}
use Rattle.std.specs.Option.{option_map, option_and_then}
use Rattle.std.specs.Str.{bytes_eq}
use Rattle.std.proofs.lemmas.Slice.Eq.{bytes_eq-Decides}
use Rattle.ldap_spec.specs.Laws.{AreOctets}
use Rattle.lload_names.specs.declared.names.Entry.{Entry}
use Rattle.lload_names.specs.declared.names.OpName.{OpName}
use Rattle.lload_names.specs.declared.names.Letter.{Letter}
use Rattle.lload_names.specs.declared.names.Letter.TheVariants.{Returned, Ended, IsUp, IsRetired, IsDown}
use Rattle.lload_names.specs.declared.names.What.{What}
use Rattle.lload_names.specs.declared.names.What.TheVariants.{Arrived, In, Chosen, Out, Late, Gone, Linked, Up, Retired, Sent, Own, Got, Expired, Missed, Idle, Down, Asked, Chose, Heard, Stalled, Flowing, Paused, Resumed, Replanned}
use Rattle.lload_spec.specs.Script.{words}
use Rattle.lload_spec.specs.Entries.{is_news}
use Rattle.lload_spec.specs.Transcript.{answer_text, bound_text, entry_text, kind_text, latency_text, letter_text, message_text, op_text, part_text, what_text}
use Rattle.lload_spec.specs.Writable.{can_be_spelled, can_be_written}
use Rattle.replay_script.specs.EntryFields.{entry_by, event_by, fields_by, first_by, head_of, letter_of, line_words, message_in, op_and_conn}
use Rattle.replay_script.specs.EntryLines.{entry_of, own_line, HasLine, HasMessage, HoldsEntry, HoldsLetter, HoldsOp, HoldsWhat, IsSpelled, NoneHasTheLine, ReadIsWritten, WrittenIsRead}
use Rattle.replay_script.proofs.FieldTexts.{Follows, at_end, before_more, answer-text, first_by-text, first_long-text, latency-text, next_long-text, op-text, part-text, short-text, want-text, why-text}
use Rattle.replay_script.proofs.MessageTexts.{message_in-text, message_without_space}
use Rattle.replay_script.proofs.WordTexts.{front-line}

-- the message of an event
first-message : (id : ℕ) (rest : List ℕ) → IsTrue (can_be_spelled id rest) → IsSpelled id rest → AreOctets rest → first_by message_in (words (message_text id rest ++ [])) ≡ Some (record { id = id; rest = rest })
first-message id rest can is octets = first_by-text message_in (record { id = id; rest = rest }) (message_text id rest) [] [] at_end (message_without_space id rest can octets) (message_in-text id rest can is octets)

-- a letter that the desk heard
behind_op : (op : OpName) (conn : ℕ) (end : List ℕ) (ws : List (List ℕ)) → Follows end ws → HoldsOp op → conn < 2 ^ 32 → op_and_conn (words (op_text op ++ (codes " up " ++ (decimal conn ++ end)))) ≡ Some (op, conn, ws)
behind_op op conn end ws follows holds small = rw (op-text op (codes " up " ++ (decimal conn ++ end)) (codes "up" ∷ words (decimal conn ++ end)) (before_more (117 ∷ 112 ∷ 32 ∷ (decimal conn ++ end))) holds, short-text conn end ws follows small) refl

letter-text : (letter : Letter) → IsTrue (is_news letter) → HoldsLetter letter → letter_of (words (letter_text letter ++ [])) ≡ Some letter
letter-text (IsUp conn) news holds = rw (short-text conn [] [] at_end holds) refl
letter-text (IsRetired conn) news holds = rw (short-text conn [] [] at_end holds) refl
letter-text (IsDown conn) news holds = rw (short-text conn [] [] at_end holds) refl
letter-text (Returned op conn) news holds =
    ap (λ (l : List ℕ). letter_of (words (codes "returned " ++ l))) (append_assoc (op_text op) (codes " up " ++ decimal conn) [])
    ∙ (rw (behind_op op conn [] [] at_end holds.0 holds.1) refl)
letter-text (Ended op conn latency) news holds =
    let latencies : List ℕ = latency_text latency ++ [] in
    ap (λ (l : List ℕ). letter_of (words (codes "ended " ++ l))) (append_assoc (op_text op) (codes " up " ++ (decimal conn ++ (codes " latency " ++ latency_text latency))) [])
    ∙ ap (λ (l : List ℕ). letter_of (words (codes "ended " ++ (op_text op ++ (codes " up " ++ l))))) (append_assoc (decimal conn) (codes " latency " ++ latency_text latency) [])
    ∙ (rw (behind_op op conn (codes " latency " ++ latencies) (codes "latency" ∷ words latencies) (before_more (codes "latency " ++ latencies)) holds.0 holds.1, latency-text latency holds.2) refl)
letter-text _ news holds = absurd (cc)

-- an event is read of its words
event-text : (what : What) → IsTrue (can_be_written what) → HasMessage what → HoldsWhat what → event_by message_in (words (what_text what ++ [])) ≡ Some what
event-text Arrived can has holds = refl
event-text (In id rest) can has holds = rw (first-message id rest can has holds) refl
event-text (Chosen op answer) can has holds =
    ap (λ (l : List ℕ). event_by message_in (words (codes "chosen " ++ l))) (append_assoc (op_text op) (codes " " ++ answer_text answer) [])
    ∙ (rw (op-text op (32 ∷ (answer_text answer ++ [])) (words (answer_text answer ++ [])) (before_more (answer_text answer ++ [])) holds.0, answer-text answer [] [] at_end holds.1) refl)
event-text (Out id rest) can has holds = rw (first-message id rest can has holds) refl
event-text (Late op) can has holds = rw (op-text op [] [] at_end holds) refl
event-text (Gone why) can has holds = rw (why-text why) refl
event-text Linked can has holds = refl
event-text Up can has holds = refl
event-text Retired can has holds = refl
event-text (Sent id op rest) can has holds =
    ap (λ (l : List ℕ). event_by message_in (words (codes "sent " ++ l))) (append_assoc (op_text op) (codes " " ++ message_text id rest) [])
    ∙ (rw (op-text op (32 ∷ (message_text id rest ++ [])) (words (message_text id rest ++ [])) (before_more (message_text id rest ++ [])) holds.0, first-message id rest can has holds.1) refl)
event-text (Own id rest) can has holds = rw (first-message id rest can has holds) refl
event-text (Got id rest) can has holds = rw (first-message id rest can has holds) refl
event-text (Expired op) can has holds = rw (op-text op [] [] at_end holds) refl
event-text (Missed op) can has holds = rw (op-text op [] [] at_end holds) refl
event-text (Idle op) can has holds = rw (op-text op [] [] at_end holds) refl
event-text (Down why) can has holds = rw (why-text why) refl
event-text (Asked op want) can has holds =
    ap (λ (l : List ℕ). event_by message_in (words (codes "asked " ++ l))) (append_assoc (op_text op) (codes " " ++ (kind_text want.kind ++ (codes " " ++ bound_text want.bound))) [])
    ∙ ap (λ (l : List ℕ). event_by message_in (words (codes "asked " ++ (op_text op ++ (codes " " ++ l))))) (append_assoc (kind_text want.kind) (codes " " ++ bound_text want.bound) [])
    ∙ (rw (op-text op (32 ∷ (kind_text want.kind ++ (32 ∷ (bound_text want.bound ++ [])))) (words (kind_text want.kind ++ (32 ∷ (bound_text want.bound ++ [])))) (before_more (kind_text want.kind ++ (32 ∷ (bound_text want.bound ++ [])))) holds.0, want-text want holds.1) refl)
event-text (Chose op answer word) can has holds =
    let ending : List ℕ = codes "word " ++ (decimal word ++ []) in
    ap (λ (l : List ℕ). event_by message_in (words (codes "chose " ++ l))) (append_assoc (op_text op) (codes " " ++ (answer_text answer ++ (codes " word " ++ decimal word))) [])
    ∙ ap (λ (l : List ℕ). event_by message_in (words (codes "chose " ++ (op_text op ++ (codes " " ++ l))))) (append_assoc (answer_text answer) (codes " word " ++ decimal word) [])
    ∙ (rw (op-text op (32 ∷ (answer_text answer ++ (32 ∷ ending))) (words (answer_text answer ++ (32 ∷ ending))) (before_more (answer_text answer ++ (32 ∷ ending))) holds.0, answer-text answer (32 ∷ ending) (codes "word" ∷ words (decimal word ++ [])) (before_more ending) holds.1, first_long-text word [] [] at_end holds.2) refl)
event-text Stalled can has holds = refl
event-text Flowing can has holds = refl
event-text (Paused client) can has holds = rw (short-text client [] [] at_end holds) refl
event-text (Resumed client) can has holds = rw (short-text client [] [] at_end holds) refl
event-text (Replanned plan base) can has holds =
    ap (λ (l : List ℕ). event_by message_in (words (codes "replanned " ++ l))) (append_assoc (decimal plan) (codes " base " ++ decimal base) [])
    ∙ (rw (short-text plan (codes " base " ++ (decimal base ++ [])) (codes "base" ∷ words (decimal base ++ [])) (before_more (codes "base " ++ (decimal base ++ []))) holds.0, short-text base [] [] at_end holds.1) refl)
event-text (Heard letter) can has holds = rw (letter-text letter can holds) refl

-- a line without its end
abbrev text_before_end : Entry → List ℕ
text_before_end e = decimal e.at ++ (32 ∷ (part_text e.part ++ (32 ∷ what_text e.what)))

line_is : (e : Entry) → entry_text e ≡ text_before_end e ++ codes "\n"
line_is e =
    let first = append_assoc (part_text e.part) (32 ∷ what_text e.what) (codes "\n") in
    sym (append_assoc (decimal e.at) (32 ∷ (part_text e.part ++ (32 ∷ what_text e.what))) (codes "\n") ∙ ap (λ (l : List ℕ). decimal e.at ++ (32 ∷ l)) first)

words_are : (e : Entry) → line_words (entry_text e) ≡ words (decimal e.at ++ (32 ∷ (part_text e.part ++ (32 ∷ (what_text e.what ++ [])))))
words_are e = ap line_words (line_is e) ∙ ap words (front-line (text_before_end e) 10) ∙ ap (λ (l : List ℕ). words (decimal e.at ++ (32 ∷ (part_text e.part ++ (32 ∷ l))))) (sym (append-nil (what_text e.what)))

-- the fields of a line are those of the entry
fields_are : (e : Entry) → HoldsEntry e → HasLine e → fields_by message_in (entry_text e) ≡ Some e
fields_are e holds has =
    let event : List ℕ = what_text e.what ++ [] in
    let part : List ℕ = part_text e.part ++ (32 ∷ event) in
    let at_part : head_of (words (decimal e.at ++ (32 ∷ part))) ≡ Some (e.at, e.part, words event) =
    rw (next_long-text e.at (32 ∷ part) (words part) (before_more part) holds.at, part-text e.part (32 ∷ event) (words event) (before_more event) holds.part) refl in
    ap (λ (ws : List (List ℕ)). option_and_then (entry_by message_in) (head_of ws)) (words_are e)
    ∙ ap (option_and_then (entry_by message_in)) at_part
    ∙ ap (option_map (λ (what : What). record { part = e.part; at = e.at; what = what })) (event-text e.what has.writable has.message holds.what)

pub written_is_read : WrittenIsRead
written_is_read e holds has =
    let own = (bytes_eq-Decides (entry_text e) (entry_text e)).1 refl in
    ap (option_and_then (own_line (entry_text e))) (fields_are e holds has) ∙ (rw own refl)

pub read_is_written : ReadIsWritten
read_is_written line e found = at (fields_by message_in line) found where
  own : (read : Entry) → own_line line read ≡ Some e → entry_text e ≡ line
  own read same = test (bytes_eq (entry_text read) line) refl same where
    test : (t : Bool) → bytes_eq (entry_text read) line ≡ t → cond t (Some read) None ≡ Some e → entry_text e ≡ line
    test true is same = let one : e ≡ read = cc in ap entry_text one ∙ (bytes_eq-Decides (entry_text read) line).0 is
    test false is same = absurd (cc)

  at : (fields : Option Entry) → option_and_then (own_line line) fields ≡ Some e → entry_text e ≡ line
  at None found = absurd (cc)
  at (Some read) found = own read found

pub none_has_the_line : NoneHasTheLine
none_has_the_line line e none holds has same =
    let found : entry_of line ≡ Some e = subst (λ (l : List ℕ). entry_of l ≡ Some e) same (written_is_read e holds has) in
    cc (sym none ∙ found)
