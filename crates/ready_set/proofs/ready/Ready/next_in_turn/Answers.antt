use Rattle.std.proofs.Common.{◌≡◌, ◌+◌, sym, ◌∙◌, arith}
use Rattle.ready_set.proofs.Rising.{turn-some, turn-none}
use Rattle.ready_set.proofs.Readies.{narrowed}
use Rattle.ready_set.proofs.ready.Ready.next_in_turn.Goals as goal

pub returns-in-Some-next : goal.returns-in-Some-next
returns-in-Some-next c = λ s among forward within k.
    let w = within c.in-Some.place c.in-Some.is in
    let behind : c.saturating_add-behind.result ≡ c.in-Some.place + 1 = omega (arith, c.saturating_add-behind.ensures, w.1) in
    rw c.in-Some.is (sym (turn-some s among c.in-Some.place c.args.from c.args.to c.in-Some-next.conn w.0 w.1 (rw (sym behind) (sym (c.in-Some-next.ensures s among (narrowed s among c.args.self.now c.args.from c.args.to _ _ (omega (arith, w.0, behind)) (omega arith) k))))))

pub returns-in-None : goal.returns-in-None
returns-in-None c = λ s among forward within k.
    let w = within c.in-Some.place c.in-Some.is in
    let behind : c.saturating_add-behind.result ≡ c.in-Some.place + 1 = omega (arith, c.saturating_add-behind.ensures, w.1) in
    rw c.in-Some.is (c.next-in-None.ensures s among (narrowed s among c.args.self.now c.args.from c.args.to _ _ (omega arith) (omega (arith, w.1, behind)) k) ∙ rw behind (sym (turn-none s among c.in-Some.place c.args.from c.args.to w.0 w.1 (rw (sym behind) (sym (c.in-None.ensures s among (narrowed s among c.args.self.now c.args.from c.args.to _ _ (omega (arith, w.0, behind)) (omega arith) k)))))))
