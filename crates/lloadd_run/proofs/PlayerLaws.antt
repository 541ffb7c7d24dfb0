-- What a player's steps say of all that it took.
use Rattle.std.proofs.Common.{◌≡◌, ℕ, ◌+◌, List, [], ◌∷◌, ◌++◌, length, append_assoc, sym, ap, ◌∙◌, subst, inl, inr}
use Rattle.std.specs.Prelude.{◌==◌, true, false, Option, Some, ◌⊎◌, Result, Ok, Err}
use Rattle.std.proofs.lemmas.List.{append-nil, length-append}
use Rattle.small_spec.specs.History.{Line, commands, journal}
use Rattle.lload_spec.specs.Script.{command_of}
use Rattle.lload_spec.specs.Transcript.{journal_text}
use Rattle.small_play.specs.PlayState.{PlayState}
use Rattle.small_play.specs.Plays.{Plays}
use Rattle.lloadd_run.specs.declared.player.Halt.{Halt}
use Rattle.lloadd_run.specs.declared.player.Halt.TheVariants.{Refused, WriteFault, NoMemory}
use Rattle.lloadd_run.specs.declared.player.Player.{Player}
use Rattle.lloadd_run.specs.declared.writing.Unwritten.{Unwritten}
use Rattle.lloadd_run.specs.declared.writing.Unwritten.TheVariants.{Fault, NoMemory as NoRoomForText}
use Rattle.lloadd_run.specs.Halts.{of_writing}
use Rattle.lloadd_run.specs.Amounts.{WroteAll, WrotePart}
use Rattle.lloadd_run.specs.Scripts.{whole_lines, unfinished, commands_of, refuses, Replays}
use Rattle.lloadd_run.specs.Playing.{Stood, Played, PartPlayed, LineRefused, EndsLine, RefusedIn, PartIn, Takes}
use Rattle.lloadd_run.proofs.AmountLaws.{wrote_then, part_then, all_is_part}
use Rattle.lloadd_run.proofs.LineLaws.{whole_lines-end, whole_lines-byte, unfinished-end, unfinished-byte, lines_grow}
use Rattle.lloadd_run.proofs.HistoryLaws.{commands-line, journal-line, text-line, commands_of-line}

-- a history that a play stands for is one of the lines with its commands
replays : (play : PlayState) (lines : List (List ℕ)) (history : List Line) → commands_of lines ≡ Some (commands history) → Plays play history → Replays lines history
replays play lines history c p = record { are_commands = c; follows = p.follows; kept = p.kept }

-- a byte that ends no line
pub stood_byte : (old new : Player) (taken : List ℕ) (byte : ℕ) (first now : Option (List ℕ)) → (byte == 10) ≡ false → new.play ≡ old.play → new.line.items ≡ old.line.items ++ byte ∷ [] → new.lines ≡ old.lines → new.entries ≡ old.entries → Stood old taken first now → Stood new (taken ++ byte ∷ []) first now
stood_byte old new taken byte first now inner play line lines entries s = record {
  history = s.history;
  plays = subst (λ p. Plays p s.history) (sym play) s.plays;
  are_commands = ap commands_of (whole_lines-byte taken byte inner) ∙ s.are_commands;
  line = line ∙ (ap (λ l. l ++ byte ∷ []) s.line ∙ sym (unfinished-byte taken byte inner));
  lines = lines ∙ s.lines;
  entries = entries ∙ s.entries;
  wrote = s.wrote;
}

-- the commands of the lines that the end of a line makes whole
commands_with_line : (old : Player) (taken : List ℕ) (first was : Option (List ℕ)) (s : Stood old taken first was) (line : Line) → command_of old.line.items ≡ Some line.command → commands_of (whole_lines (taken ++ 10 ∷ [])) ≡ Some (commands (s.history ++ line ∷ []))
commands_with_line old taken first was s line reads =
    ap commands_of (whole_lines-end taken) ∙ (commands_of-line (whole_lines taken) (commands s.history) (unfinished taken) line.command s.are_commands (ap command_of (sym s.line) ∙ reads) ∙ ap Some (sym (commands-line s.history line)))

-- the end of a line that was played
pub stood_line : (old new : Player) (taken : List ℕ) (first was now : Option (List ℕ)) → Stood old taken first was → Played old new was now → Stood new (taken ++ 10 ∷ []) first now
stood_line old new taken first was now s p =
    let line : Line = record { command = p.command; piece = p.piece } in record {
      history = s.history ++ line ∷ [];
      plays = p.grows s.history s.plays;
      are_commands = commands_with_line old taken first was s line p.reads;
      line = p.line ∙ sym (unfinished-end taken);
      lines = p.lines ∙ (ap (λ n. n + 1) s.lines ∙ sym (length-append s.history (line ∷ [])));
      entries = p.entries ∙ (ap (λ n. n + length p.piece) s.entries ∙ (sym (length-append (journal s.history) p.piece) ∙ ap length (sym (journal-line s.history line))));
      wrote = subst (WroteAll first now) (sym (text-line s.history line)) (wrote_then first was now _ _ s.wrote p.wrote);
    }

-- the end of a line that is refused
pub refused_line : (old new : Player) (taken : List ℕ) (first was now : Option (List ℕ)) → Stood old taken first was → LineRefused old new was now → RefusedIn new.lines (taken ++ 10 ∷ []) first now
refused_line old new taken first was now s r = record {
  history = s.history;
  before = whole_lines taken;
  next = unfinished taken;
  behind = [];
  lines_are = whole_lines-end taken;
  replays = replays old.play (whole_lines taken) s.history s.are_commands s.plays;
  number = r.lines ∙ s.lines;
  refused = subst (λ l. refuses s.history (command_of l) ≡ true) s.line (r.refused s.history s.plays);
  wrote = subst (λ w. WroteAll first w (journal_text (journal s.history))) (sym r.wrote) s.wrote;
}

-- what stood, where nothing more was written
pub part_stood : (p : Player) (taken bytes : List ℕ) (first now : Option (List ℕ)) → Stood p taken first now → PartIn (taken ++ bytes) first now
part_stood p taken bytes first now s =
    let more = lines_grow taken bytes in record {
      history = s.history;
      before = whole_lines taken;
      behind = more.behind;
      lines_are = more.lines;
      replays = replays p.play (whole_lines taken) s.history s.are_commands s.plays;
      wrote = subst (WrotePart first now) (append-nil (journal_text (journal s.history))) (all_is_part first now (journal_text (journal s.history)) [] s.wrote);
    }

-- the end of a line whose text was written in part
part_line : (old : Player) (taken : List ℕ) (first was now : Option (List ℕ)) → Stood old taken first was → PartPlayed old was now → PartIn (taken ++ 10 ∷ []) first now
part_line old taken first was now s p =
    let line : Line = record { command = p.command; piece = p.piece } in record {
      history = s.history ++ line ∷ [];
      before = whole_lines (taken ++ 10 ∷ []);
      behind = [];
      lines_are = sym (append-nil (whole_lines (taken ++ 10 ∷ [])));
      replays = replays p.behind (whole_lines (taken ++ 10 ∷ [])) (s.history ++ line ∷ []) (commands_with_line old taken first was s line p.reads) (p.grows s.history s.plays);
      wrote = subst (WrotePart first now) (sym (text-line s.history line)) (part_then first was now _ _ s.wrote p.wrote);
    }

-- the end of a line at which the player stopped
stopped_line : (old : Player) (taken : List ℕ) (first was now : Option (List ℕ)) → Stood old taken first was → (now ≡ was) ⊎ PartPlayed old was now → PartIn (taken ++ 10 ∷ []) first now
stopped_line old taken first was now s h = elim h as (λ h. PartIn (taken ++ 10 ∷ []) first now) [
  | inl same ↦ subst (λ w. PartIn (taken ++ 10 ∷ []) first w) (sym same) (part_stood old taken (10 ∷ []) first was s)
  | inr part ↦ part_line old taken first was now s part
]

-- the end of a line, whatever the player did
pub takes_end : (r : Result (Unit {0}) Halt) (old new : Player) (was now : Option (List ℕ)) → EndsLine r old new was now → Takes r old new (10 ∷ []) was now
takes_end (Ok u) old new was now h = λ taken first s. stood_line old new taken first was now s h
takes_end (Err Refused) old new was now h = λ taken first s. refused_line old new taken first was now s h
takes_end (Err WriteFault) old new was now h = λ taken first s. stopped_line old taken first was now s h
takes_end (Err NoMemory) old new was now h = λ taken first s. stopped_line old taken first was now s h

refused_more : (lines : ℕ) (bytes more : List ℕ) (first now : Option (List ℕ)) → RefusedIn lines bytes first now → RefusedIn lines (bytes ++ more) first now
refused_more lines bytes more first now r =
    let grown = lines_grow bytes more in record {
      history = r.history;
      before = r.before;
      next = r.next;
      behind = r.behind ++ grown.behind;
      lines_are = grown.lines ∙ (ap (λ ls. ls ++ grown.behind) r.lines_are ∙ append_assoc r.before (r.next ∷ r.behind) grown.behind);
      replays = r.replays;
      number = r.number;
      refused = r.refused;
      wrote = r.wrote;
    }

part_more : (bytes more : List ℕ) (first now : Option (List ℕ)) → PartIn bytes first now → PartIn (bytes ++ more) first now
part_more bytes more first now r =
    let grown = lines_grow bytes more in record {
      history = r.history;
      before = r.before;
      behind = r.behind ++ grown.behind;
      lines_are = grown.lines ∙ (ap (λ ls. ls ++ grown.behind) r.lines_are ∙ append_assoc r.before r.behind grown.behind);
      replays = r.replays;
      wrote = r.wrote;
    }

-- a player that took the first bytes, and stopped at the next
pub takes_stop : (halt : Halt) (old mid new : Player) (done : List ℕ) (byte : ℕ) (more : List ℕ) (was between now : Option (List ℕ)) → ((taken : List ℕ) (first : Option (List ℕ)) → Stood old taken first was → Stood mid (taken ++ done) first between) → Takes (Err halt) mid new (byte ∷ []) between now → Takes (Err halt) old new (done ++ byte ∷ more) was now
takes_stop Refused old mid new done byte more was between now stood h = λ taken first s. subst (λ l. RefusedIn new.lines l first now) (append_assoc (taken ++ done) (byte ∷ []) more ∙ append_assoc taken done (byte ∷ more)) (refused_more new.lines ((taken ++ done) ++ byte ∷ []) more first now (h (taken ++ done) first (stood taken first s)))
takes_stop WriteFault old mid new done byte more was between now stood h = λ taken first s. subst (λ l. PartIn l first now) (append_assoc (taken ++ done) (byte ∷ []) more ∙ append_assoc taken done (byte ∷ more)) (part_more ((taken ++ done) ++ byte ∷ []) more first now (h (taken ++ done) first (stood taken first s)))
takes_stop NoMemory old mid new done byte more was between now stood h = λ taken first s. subst (λ l. PartIn l first now) (append_assoc (taken ++ done) (byte ∷ []) more ∙ append_assoc taken done (byte ∷ more)) (part_more ((taken ++ done) ++ byte ∷ []) more first now (h (taken ++ done) first (stood taken first s)))

pub takes_none : (p : Player) (w : Option (List ℕ)) (taken : List ℕ) (first : Option (List ℕ)) → Stood p taken first w → Stood p (taken ++ []) first w
takes_none p w taken first s = subst (λ l. Stood p l first w) (sym (append-nil taken)) s

-- a text that isn't written stops the player
pub stops : (why : Unwritten) (old new : Player) (was now : Option (List ℕ)) → PartPlayed old was now → EndsLine (Err (of_writing why)) old new was now
stops Fault old new was now p = inr p
stops NoRoomForText old new was now p = inr p
