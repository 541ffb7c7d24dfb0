use Rattle.std.proofs.Common.{[], ◌++◌, subst, sym}
use Rattle.lload_advice.specs.Converting.{IsCommented, IsLead}
use Rattle.lload_advice.proofs.Comments.{way-begins, way-ends, way-next}
use Rattle.lload_advice.proofs.converting.commented.Goals as goal

pub loop-piece-init : goal.loop-piece-init
loop-piece-init c = ([], way-begins c.args.text.now c.new-out.result.items c.new-out.ensures.items)

pub loop-piece-preserved : goal.loop-piece-preserved
loop-piece-preserved c =
    let way = c.loop-piece.invariant in (
      way.0 ++ c.in-Some.piece.now,
      way-next c.args.text.now way.0 c.loop-piece.rest.now c.loop-piece.out.items c.as_bytes.result.now c.extend_from_slice.new.self.items c.in-Some.piece.now c.in-Some.later.now c.extend_from_slice-in-Some.new.self.items way.1 c.in-Some.ensures (subst IsLead (sym c.as_bytes.ensures.value) c.in_ok-lead.ensures) c.in_ok-extend_from_slice.ensures.items c.in_ok-extend_from_slice-2.ensures.items,
    )

pub returns : goal.returns
returns c =
    let way = c.loop-piece.invariant in
    subst (IsCommented c.args.text.now) (sym c.from_vec.ensures) (way-ends c.args.text.now way.0 c.loop-piece.rest.now c.loop-piece.out.items way.1 c.in_default.ensures)
