use Rattle.std.proofs.Common.{◌∙◌, ap, sym, subst}
use Rattle.std.proofs.lemmas.Result.{err_from_is_err_and}
use Rattle.lload_spec.specs.Script.{command_of}
use Rattle.lload_spec.specs.Transcript.{journal_text}
use Rattle.lloadd_run.specs.Amounts.{WrotePart}
use Rattle.lloadd_run.proofs.PlayerLaws.{stops}
use Rattle.lloadd_run.proofs.player.Player.end_line.Goals as goal

pub returns-in_err-write_entries-clause-ends : goal.returns-in_err-write_entries-clause-ends
returns-in_err-write_entries-clause-ends g c =
    let p = err_from_is_err_and c.from_residual-in_err-write_entries.result c.from_residual-in_err-write_entries.ensures.1 in
    let played = c.in_ok-piece.ensures.played in
    let slice = c.as_slice.ensures.value in
    let all = c.as_slice-2.ensures in
    let part = c.in_err-write_entries.ensures.part in
    rw (p.1, p.2) (stops _ _ _ _ _ (record {
      command = played.0;
      piece = c.in_ok-piece.piece;
      behind = c.play_line.new.play;
      reads = ap command_of (sym slice) ∙ played.1;
      grows = played.2;
      wrote = subst (λ es. WrotePart (g.K.Sink.written c.args.out.now) (g.K.Sink.written c.write_entries.new.out) (journal_text es)) all part;
    }))
