-- What a read, and the end of a replay, say of all that was taken and written.
use Rattle.std.proofs.Common.{◌≡◌, ◌≤◌, ◌<◌, ◌-◌, ℕ, zero, suc, ◌+◌, min, List, [], ◌∷◌, ◌++◌, length, take, drop, sym, ap, ◌∙◌, subst, refl, arith, inl, inr}
use Rattle.std.specs.Prelude.{Option, Result, Ok, Err}
use Rattle.std.proofs.Math.Seq.{take-append_seam, drop-append_seam, take-append-add, take-nil}
use Rattle.std.proofs.lemmas.List.{append-nil, length-append, length-take-le}
use Rattle.lload_outside.specs.Causes.{Rose}
use Rattle.lload_outside.specs.Told.{Moved, Told}
use Rattle.small_spec.specs.History.{Line, commands, journal}
use Rattle.lload_spec.specs.Transcript.{journal_text, transcript}
use Rattle.small_play.specs.Plays.{HasKept, Promised}
use Rattle.lloadd_run.specs.declared.player.Halt.{Halt}
use Rattle.lloadd_run.specs.declared.player.Halt.TheVariants.{Refused, WriteFault, NoMemory}
use Rattle.lloadd_run.specs.declared.player.Player.{Player}
use Rattle.lloadd_run.specs.Amounts.{Took, WroteAll, WrotePart}
use Rattle.lloadd_run.specs.Halts.{status_of, status_at_end}
use Rattle.lloadd_run.specs.Outcomes.{Ends, ReplayedAll, ReplayedTaken, ReplayedWithin, RefusedAt, ReplayedPart, IsWrong}
use Rattle.lloadd_run.specs.Playing.{Stood, RefusedIn, PartIn, Takes, Finishes, Reading, last_line_text}
use Rattle.lloadd_run.specs.Scripts.{whole_lines, Replays}
use Rattle.lloadd_run.proofs.AmountLaws.{wrote_then, part_then, part_none, took_none, took_more}
use Rattle.lloadd_run.proofs.HistoryLaws.{length-commands, length-commands_of}

-- before the first read
pub reading_first : (limit : ℕ) (p : Player) (left written : Option (List ℕ)) → Stood p [] written written → Reading limit limit p left left written written
reading_first limit p left written s = record { taken = []; took = took_none left; size = omega arith; stood = s }

-- a read within the room
pub reading_more : (limit room n : ℕ) (p q : Player) (buf : List ℕ) (left was now written w x : Option (List ℕ)) → n ≤ room → n ≤ length buf → Moved n buf was now → Takes (Ok tt) p q (take n buf) w x → Reading limit room p left was written w → Reading limit (room - n) q left now written x
reading_more limit room n p q buf left was now written w x within fits moved takes r = record {
  taken = r.taken ++ take n buf;
  took = took_more left was now r.taken buf n r.took moved;
  size = let s = r.size in omega (arith, length-append r.taken (take n buf), length-take-le n buf fits);
  stood = takes r.taken written r.stood;
}

-- the history that stood is one of the whole lines
stood_replays : (p : Player) (taken : List ℕ) (written now : Option (List ℕ)) (s : Stood p taken written now) → Replays (whole_lines taken) s.history
stood_replays p taken written now s = record { are_commands = s.are_commands; follows = s.plays.follows; kept = s.plays.kept }

-- the script ended
pub all_replayed : (limit room : ℕ) (p : Player) (left was now written w x : Option (List ℕ)) → Reading limit room p left was written w → now ≡ was → Told (λ rest. rest ≡ []) was → Finishes (Ok tt) p w x → ReplayedAll limit left now written x
all_replayed limit room p left was now written w x r same ended f = record {
  text = r.taken;
  history = r.stood.history;
  taken = subst (λ l. Took left l r.taken) (sym same) r.took;
  ended = subst (Told (λ rest. rest ≡ [])) (sym same) ended;
  within = let s = r.size in omega arith;
  finished = sym r.stood.line ∙ f.0;
  replays = stood_replays p r.taken written w r.stood;
  wrote = wrote_then written w x (journal_text (journal r.stood.history)) (last_line_text (length (journal r.stood.history))) r.stood.wrote (subst (λ n. WroteAll w x (last_line_text n)) r.stood.entries f.1);
}

-- a read failed
pub taken_replayed : (limit room : ℕ) (p : Player) (left was now written w : Option (List ℕ)) → Reading limit room p left was written w → now ≡ was → ReplayedTaken limit left now written w
taken_replayed limit room p left was now written w r same = record {
  text = r.taken;
  history = r.stood.history;
  taken = subst (λ l. Took left l r.taken) (sym same) r.took;
  within = let s = r.size in omega arith;
  replays = stood_replays p r.taken written w r.stood;
  wrote = r.stood.wrote;
}

-- the first n of a list's first m
take_of_take : (n m : ℕ) (buf : List ℕ) → take n (take m buf) ≡ take (min m n) buf
take_of_take n m [] = ap (take n) (take-nil m) ∙ (take-nil n ∙ sym (take-nil (min m n)))
take_of_take zero m (b ∷ bs) =
    let none : min m 0 ≡ 0 = omega arith in
    ap (λ k. take k (b ∷ bs)) (sym none)
take_of_take (suc n) zero (b ∷ bs) =
    let none : min 0 (suc n) ≡ 0 = omega arith in
    ap (λ k. take k (b ∷ bs)) (sym none)
take_of_take (suc n) (suc m) (b ∷ bs) =
    let one : suc (min m n) ≡ min (suc m) (suc n) = omega arith in
    ap (λ l. b ∷ l) (take_of_take n m bs) ∙ ap (λ k. take k (b ∷ bs)) one

-- what is taken within the limit, where a read may go beyond it
pub taken_within : (limit room n : ℕ) (taken buf : List ℕ) → length taken + room ≡ limit → take limit (taken ++ take n buf) ≡ taken ++ take (min n room) buf
taken_within limit room n taken buf size =
    ap (λ k. take k (taken ++ take n buf)) (sym size) ∙ (take-append-add taken (take n buf) room ∙ ap (λ l. taken ++ l) (take_of_take room n buf))

-- a read beyond the room
pub within_replayed : (limit room n : ℕ) (p q : Player) (buf : List ℕ) (left was now written w x : Option (List ℕ)) → room < n → n ≤ length buf → Moved n buf was now → Takes (Ok tt) p q (take (min n room) buf) w x → Reading limit room p left was written w → ReplayedWithin limit left now written x
within_replayed limit room n p q buf left was now written w x over fits moved takes r =
    let stood = takes r.taken written r.stood in
    let all = taken_within limit room n r.taken buf r.size in record {
      text = r.taken ++ take n buf;
      history = stood.history;
      taken = took_more left was now r.taken buf n r.took moved;
      over = let s = r.size in omega (arith, length-append r.taken (take n buf), length-take-le n buf fits);
      replays = subst (λ l. Replays (whole_lines l) stood.history) (sym all) (stood_replays q _ written x stood);
      wrote = stood.wrote;
    }

-- lines, in their first part and the others, by the history of the first
pub record Split (lines before behind : List (List ℕ)) (history : List Line) : Type 0 where
  pub front : take (length history) lines ≡ before
  pub back : drop (length history) lines ≡ behind

split : (lines before behind : List (List ℕ)) (history : List Line) → lines ≡ before ++ behind → Replays before history → Split lines before behind history
split lines before behind history all r =
    let size : length history ≡ length before = sym (length-commands_of before (commands history) r.are_commands ∙ length-commands history) in record {
      front = ap (λ ls. take (length history) ls) all ∙ (ap (λ n. take n (before ++ behind)) size ∙ take-append_seam before behind);
      back = ap (λ ls. drop (length history) ls) all ∙ (ap (λ n. drop n (before ++ behind)) size ∙ drop-append_seam before behind);
    }

-- a line is refused
pub refused_at : (limit lines : ℕ) (text bytes : List ℕ) (left now written x : Option (List ℕ)) → Took left now text → take limit text ≡ bytes → RefusedIn lines bytes written x → RefusedAt limit (suc lines) left now written x
refused_at limit lines text bytes left now written x took all r =
    let parts = split (whole_lines (take limit text)) r.before (r.next ∷ r.behind) r.history (ap whole_lines all ∙ r.lines_are) r.replays in record {
      text = text;
      history = r.history;
      taken = took;
      number = ap suc r.number;
      replays = subst (λ ls. Replays ls r.history) (sym parts.front) r.replays;
      wrong = subst (λ ls. IsWrong limit r.history ls text now) (sym parts.back) r.refused;
      wrote = r.wrote;
    }

-- a part was written
pub part_replayed : (limit : ℕ) (text bytes : List ℕ) (left now written x : Option (List ℕ)) → Took left now text → take limit text ≡ bytes → PartIn bytes written x → ReplayedPart limit left now written x
part_replayed limit text bytes left now written x took all r =
    let parts = split (whole_lines (take limit text)) r.before r.behind r.history (ap whole_lines all ∙ r.lines_are) r.replays in record {
      text = text;
      history = r.history;
      output = journal_text (journal r.history);
      taken = took;
      replays = subst (λ ls. Replays ls r.history) (sym parts.front) r.replays;
      is_text = inl refl;
      wrote = r.wrote;
    }

-- nothing was taken
nothing_kept : HasKept []
nothing_kept n =
    subst (λ h. Promised (journal h)) (sym (take-nil n)) (record { sent_once = refl; answered = refl; unanswered = refl; ended_once = refl; outs_owned = refl; sent_chosen = refl; in_place = refl }, refl)

pub nothing_replayed : (limit : ℕ) (left written : Option (List ℕ)) → ReplayedPart limit left left written written
nothing_replayed limit left written = record {
  text = [];
  history = [];
  output = [];
  taken = took_none left;
  replays = record { are_commands = refl; follows = tt; kept = nothing_kept };
  is_text = inl refl;
  wrote = part_none written [];
}

-- the player stopped in the middle of a script
pub stopped_in : (halt : Halt) (limit room n lines r rr o oo : ℕ) (p q : Player) (buf : List ℕ) (left was now written w x : Option (List ℕ)) → n ≤ length buf → Moved n buf was now → Takes (Err halt) p q (take (min n room) buf) w x → (halt ≡ WriteFault → Rose o oo) → lines ≡ suc q.lines → Reading limit room p left was written w → Ends limit (status_of halt lines) r rr left now o oo written x
stopped_in Refused limit room n lines r rr o oo p q buf left was now written w x fits moved takes rose line d =
    subst (λ l. RefusedAt limit l left now written x) (sym line) (refused_at limit q.lines (d.taken ++ take n buf) (d.taken ++ take (min n room) buf) left now written x (took_more left was now d.taken buf n d.took moved) (taken_within limit room n d.taken buf d.size) (takes d.taken written d.stood))
stopped_in WriteFault limit room n lines r rr o oo p q buf left was now written w x fits moved takes rose line d =
    (rose refl, part_replayed limit (d.taken ++ take n buf) (d.taken ++ take (min n room) buf) left now written x (took_more left was now d.taken buf n d.took moved) (taken_within limit room n d.taken buf d.size) (takes d.taken written d.stood))
stopped_in NoMemory limit room n lines r rr o oo p q buf left was now written w x fits moved takes rose line d =
    part_replayed limit (d.taken ++ take n buf) (d.taken ++ take (min n room) buf) left now written x (took_more left was now d.taken buf n d.took moved) (taken_within limit room n d.taken buf d.size) (takes d.taken written d.stood)

-- what was taken is within the limit
pub all_within : (limit room : ℕ) (taken : List ℕ) → length taken + room ≡ limit → take limit taken ≡ taken
all_within limit room taken size =
    ap (λ k. take k taken) (sym size) ∙ (ap (λ l. take (length taken + room) l) (sym (append-nil taken)) ∙ (take-append-add taken [] room ∙ (ap (λ l. taken ++ l) (take-nil room) ∙ append-nil taken)))

-- all lines that were taken were replayed
all_lines : (limit room : ℕ) (p : Player) (left was written w : Option (List ℕ)) (d : Reading limit room p left was written w) → Split (whole_lines (take limit d.taken)) (whole_lines d.taken) [] d.stood.history
all_lines limit room p left was written w d =
    split (whole_lines (take limit d.taken)) (whole_lines d.taken) [] d.stood.history (ap whole_lines (all_within limit room d.taken d.size) ∙ sym (append-nil (whole_lines d.taken))) (stood_replays p d.taken written w d.stood)

-- the script ended in a line that isn't finished
unfinished_at : (limit room lines : ℕ) (p : Player) (left was now written w x : Option (List ℕ)) → now ≡ was → Told (λ rest. rest ≡ []) was → Finishes (Err Refused) p w x → lines ≡ suc p.lines → Reading limit room p left was written w → RefusedAt limit lines left now written x
unfinished_at limit room lines p left was now written w x same ended f line d =
    let parts = all_lines limit room p left was written w d in record {
      text = d.taken;
      history = d.stood.history;
      taken = subst (λ l. Took left l d.taken) (sym same) d.took;
      number = line ∙ ap suc d.stood.lines;
      replays = subst (λ ls. Replays ls d.stood.history) (sym parts.front) (stood_replays p d.taken written w d.stood);
      wrong = subst (λ ls. IsWrong limit d.stood.history ls d.taken now) (sym parts.back) (let s = d.size in omega arith, λ h. f.0 (d.stood.line ∙ h), subst (Told (λ rest. rest ≡ [])) (sym same) ended);
      wrote = subst (λ o. WroteAll written o (journal_text (journal d.stood.history))) (sym f.1) d.stood.wrote;
    }

-- the script ended, and the last line of its text was written in part
part_ended : (limit room : ℕ) (p : Player) (left was now written w x : Option (List ℕ)) → now ≡ was → Told (λ rest. rest ≡ []) was → Finishes (Err NoMemory) p w x → Reading limit room p left was written w → ReplayedPart limit left now written x
part_ended limit room p left was now written w x same ended f d =
    let parts = all_lines limit room p left was written w d in
    let size = length-commands_of (whole_lines d.taken) (commands d.stood.history) d.stood.are_commands in record {
      text = d.taken;
      history = d.stood.history;
      output = transcript (journal d.stood.history);
      taken = subst (λ l. Took left l d.taken) (sym same) d.took;
      replays = subst (λ ls. Replays ls d.stood.history) (sym parts.front) (stood_replays p d.taken written w d.stood);
      is_text = inr (let s = d.size in omega arith, sym d.stood.line ∙ f.0, sym (size ∙ length-commands d.stood.history), subst (Told (λ rest. rest ≡ [])) (sym same) ended, refl);
      wrote = part_then written w x (journal_text (journal d.stood.history)) (last_line_text (length (journal d.stood.history))) d.stood.wrote (subst (λ n. WrotePart w x (last_line_text n)) d.stood.entries f.1);
    }

-- the player ended the script
pub ended_at : (finished : Result (Unit {0}) Halt) (limit room lines r rr o oo : ℕ) (p : Player) (left was now written w x : Option (List ℕ)) → now ≡ was → Told (λ rest. rest ≡ []) was → Finishes finished p w x → (finished ≡ Err WriteFault → Rose o oo) → lines ≡ suc p.lines → Reading limit room p left was written w → Ends limit (status_at_end finished lines) r rr left now o oo written x
ended_at (Ok u) limit room lines r rr o oo p left was now written w x same ended f rose line d = all_replayed limit room p left was now written w x d same ended f
ended_at (Err Refused) limit room lines r rr o oo p left was now written w x same ended f rose line d = unfinished_at limit room lines p left was now written w x same ended f line d
ended_at (Err WriteFault) limit room lines r rr o oo p left was now written w x same ended f rose line d = (rose refl, part_ended limit room p left was now written w x same ended f d)
ended_at (Err NoMemory) limit room lines r rr o oo p left was now written w x same ended f rose line d = part_ended limit room p left was now written w x same ended f d
