use Rattle.std.proofs.Common.{arith, ◌≡◌, ◌∙◌, ap, sym, subst, length, None, true, false}
use Rattle.std.specs.Option.{option_copied_mut}
use Rattle.part_spec.specs.Inputs.{marked_by}
use Rattle.part_spec.specs.ConnectionState.{step_connections}
use Rattle.part_spec.specs.Turn.{connection_sever}
use Rattle.proxy_parts.specs.Connections.{IsConnection}
use Rattle.proxy_parts.proofs.Kept.{was_up}
use Rattle.proxy_parts.proofs.Maps.{written, is-some}
use Rattle.proxy_parts.proofs.Severs.{severed-down}
use Rattle.proxy_parts.proofs.connections.Connections.sever.Goals.{then-ended-via-then-ended, then-ended-via-else-ended+then-len-gt0}
use Rattle.proxy_parts.proofs.connections.Connections.sever.Goals as goal

pub returns-then-ended-clause-entries : goal.returns-then-ended-clause-entries
returns-then-ended-clause-entries c =
    λ s p h. c.sever-out.ensures.entries s p (subst (λ o. IsConnection s c.args.conn p o) (sym c.get_mut.ensures.value ∙ ap option_copied_mut c.in-Some.is) h.part)

pub returns-then-ended-clause-letters : goal.returns-then-ended-clause-letters
returns-then-ended-clause-letters c =
    λ s p h. c.sever-out.ensures.letters s p (subst (λ o. IsConnection s c.args.conn p o) (sym c.get_mut.ensures.value ∙ ap option_copied_mut c.in-Some.is) h.part)

pub returns-then-ended-clause-stands : goal.returns-then-ended-clause-stands
returns-then-ended-clause-stands c =
    λ s p h.
    let had = sym c.get_mut.ensures.value ∙ ap option_copied_mut c.in-Some.is in
    let has = written c.args.self.now.parts (c.get_mut.follows.lender c.sever-out.new.self) c.args.conn c.in-Some.part.now c.sever-out.new.self had (c.get_mut.follows.holds c.sever-out.new.self) in
    let k = subst (λ o. IsConnection s c.args.conn p o) had h.part in
    let behind = step_connections s p (marked_by None (connection_sever p c.args.now c.args.why).entries) in
    let stands = c.sever-out.ensures.stands s p k in
    record {
      part = subst (λ o. IsConnection s c.args.conn behind o) (sym has) stands;
      ending = λ some up.
          elim c.then-ended.branch [
            | then-ended-via-then-ended w ↦ absurd (let bad : true ≡ false = sym w.if-ended.true ∙ c.ended.ensures s behind stands ∙ up in cc)
            | then-ended-via-else-ended+then-len-gt0 w ↦
                absurd (let bad : true ≡ false = sym (severed-down s p c.args.now c.args.why (let e = ap length (c.sever-out.ensures.letters s p k) in omega (arith, w.len.ensures, w.if-len-gt0.true, e))) ∙ up in cc)
          ];
    }

pub returns-else-len-gt0-clause-entries : goal.returns-else-len-gt0-clause-entries
returns-else-len-gt0-clause-entries c =
    λ s p h. c.sever-out.ensures.entries s p (subst (λ o. IsConnection s c.args.conn p o) (sym c.get_mut.ensures.value ∙ ap option_copied_mut c.in-Some.is) h.part)

pub returns-else-len-gt0-clause-letters : goal.returns-else-len-gt0-clause-letters
returns-else-len-gt0-clause-letters c =
    λ s p h. c.sever-out.ensures.letters s p (subst (λ o. IsConnection s c.args.conn p o) (sym c.get_mut.ensures.value ∙ ap option_copied_mut c.in-Some.is) h.part)

pub returns-else-len-gt0-clause-stands : goal.returns-else-len-gt0-clause-stands
returns-else-len-gt0-clause-stands c =
    λ s p h.
    let had = sym c.get_mut.ensures.value ∙ ap option_copied_mut c.in-Some.is in
    let has = written c.args.self.now.parts (c.get_mut.follows.lender c.sever-out.new.self) c.args.conn c.in-Some.part.now c.sever-out.new.self had (c.get_mut.follows.holds c.sever-out.new.self) in
    let k = subst (λ o. IsConnection s c.args.conn p o) had h.part in
    let list = marked_by None (connection_sever p c.args.now c.args.why).entries in
    record {
      part = subst (λ o. IsConnection s c.args.conn (step_connections s p list) o) (sym has) (c.sever-out.ensures.stands s p k);
      ending = λ some up. h.ending (is-some _ _ had) (was_up s list p up);
    }
