use Rattle.std.proofs.Common.{◌≡◌, ◌≤◌, ◌+◌, ℕ, List, [], ◌∷◌, ◌++◌, length, drop, refl, ap, subst, ◌∙◌, sym, arith, length-append, take-append-drop}
use Rattle.ldap_spec.specs.Messages.{Message}
use Rattle.ldap_spec.specs.Framing.{IsStream}
use Rattle.envelope_bench.specs.declared.TheConstants.{LIMIT}
use Rattle.envelope_bench.proofs.Counting.{none_come, all_passed, one_more, counted_fed}
use Rattle.envelope_bench.proofs.count_framed.Goals as goal

pub loop-left-init : goal.loop-left-init
loop-left-init c = (
  record {
    fed = [];
    passed = [];
    joined = refl;
    stands = c.in_ok-framer.ensures.history;
    counted = refl;
    limited = c.in_ok-framer.ensures.limit;
  },
  none_come LIMIT,
)

pub loop-framer-init : goal.loop-framer-init
loop-framer-init c =
    let h = c.loop-left.invariant.0 in
    let mid : ℕ = c.min.result in
    let cut : c.loop-left.left.now ≡ c.split_at.result.0.now ++ c.split_at.result.1.now =
    sym (take-append-drop mid c.loop-left.left.now) ∙ (ap (λ (xs : List ℕ). xs ++ drop mid c.loop-left.left.now) (sym c.split_at.ensures.front) ∙ ap (λ (xs : List ℕ). c.split_at.result.0.now ++ xs) (sym c.split_at.ensures.back)) in
    counted_fed LIMIT c.args.bytes.now c.loop-left.left.now c.split_at.result.0.now c.split_at.result.1.now c.loop-left.found c.loop-left.framer c.feed.new.self h cut (c.in_ok-feed.ensures.history h.fed h.passed h.stands) c.in_ok-feed.ensures.limit

pub overflow_add-found : goal.overflow_add-found
overflow_add-found c =
    let m : Message = record { id = c.in-Message.id; rest = c.in-Message.rest.now } in
    let t = c.in-Message.ensures.answer in
    let room : c.loop-framer.found + 1 ≤ length c.args.bytes.now = one_more LIMIT c.args.bytes.now c.split_at.result.1.now c.loop-framer.found c.loop-framer.framer m t.0 c.loop-framer.invariant c.next.ensures.octets t.1 in
    omega arith

pub loop-framer-preserved : goal.loop-framer-preserved
loop-framer-preserved c =
    let m : Message = record { id = c.in-Message.id; rest = c.in-Message.rest.now } in
    let t = c.in-Message.ensures.answer in
    let h = c.loop-framer.invariant in
    record {
      fed = h.fed;
      passed = h.passed ++ m ∷ [];
      joined = h.joined;
      stands = c.pass.ensures.history m t.0 h.fed h.passed t.1 h.stands;
      counted = omega (arith, length-append h.passed (m ∷ []), h.counted);
      limited = c.pass.ensures.limit ∙ h.limited;
    }

pub loop-left-preserved : goal.loop-left-preserved
loop-left-preserved c =
    let h = c.loop-framer.invariant in (
      h,
      λ ms tail s.
          let there : IsStream c.loop-framer.framer.limit h.fed ms tail = subst (λ (n : ℕ). IsStream n h.fed ms tail) (sym h.limited) s in
          all_passed c.loop-framer.framer.limit h.passed ms tail c.next.result c.in_default.not-Message (c.next.ensures.announced h.fed tail h.passed ms h.stands there) ∙ h.counted,
    )
