use Rattle.std.proofs.Common.{◌≡◌, ◌∙◌, [], ap, refl, sym, subst, Option, Some, None}
use Rattle.std.proofs.lemmas.List.{append-nil}
use Rattle.std.specs.Prelude.{find, is_err, true}
use Rattle.lload_names.specs.declared.inputs.Event.TheVariants.{Letter}
use Rattle.lload_names.specs.declared.inputs.Input.TheVariants.{LetterFrom}
use Rattle.part_spec.specs.Inputs.{letter_of}
use Rattle.part_spec.specs.Merge.{world_of}
use Rattle.part_spec.specs.World as run
use Rattle.letter_queues.specs.Queues.{queue}
use Rattle.proxy_parts.proofs.Maps.{when-ok}
use Rattle.proxy_core.specs.States.{Is, MayTake}
use Rattle.proxy_core.specs.Turned.{Took}
use Rattle.proxy_core.proofs.Errors.{when-err}
use Rattle.proxy_core.proofs.Journals.{journal-behind}
use Rattle.proxy_core.proofs.Letters.{same}
use Rattle.proxy_core.proofs.Taken.{Firsts, may-take, may-take-same, letters-changed, found-some, found-none, none-left-out, stands-same}
use Rattle.proxy_core.proofs.world.World.take.Goals as goal

pub returns-in_default-clause-happened : goal.returns-in_default-clause-happened
returns-in_default-clause-happened c =
    λ s ms h.
    let v = world_of s ms in
    let w = c.args.self.now in
    let between = run.is_between c.args.sender c.args.part in
    let carried = same v.letters w.letters c.sort.new.self h.is.letters c.in_ok-sort.ensures.same in
    let none = found-none (find between v.letters)
    (sym (c.queues_carry_letters.ensures.first v.letters c.sort.new.self c.args.sender c.args.part carried) ∙ sym c.take.ensures.letter ∙ c.in_default.is) in
    let left = c.queues_carry_letters.ensures.taken v.letters c.args.sender c.args.part c.sort.new.self c.take.new.self carried c.take.ensures.rest c.take.ensures.others in
    let e = ap (λ (o : Option run.Flight). elim o [
      | None ↦ v
      | Some f ↦ run.takes s c.args.part (LetterFrom c.args.now c.args.word c.args.sender f.posted.letter) (record v { letters = run.without_first between v.letters })
    ]) none in
    record {
      made = [];
      entries = sym (append-nil c.args.out.now.entries.items);
      journal = ap run.journal_of e ∙ sym (append-nil (run.journal_of v));
      stands =
          stands-same s v (run.happens s c.args.part (Letter c.args.now c.args.word c.args.sender) v) _ e
          (letters-changed s v v.letters w _ h.is (record { desk = refl; clients = refl; connections = refl; plans = refl; greatest = refl; alloc = refl })
          (λ a b. ap (λ l. queue a b l) (sym (none-left-out between v.letters none)) ∙ left a b));
    }

pub returns-then-is_err-clause-err : goal.returns-then-is_err-clause-err
returns-then-is_err-clause-err c =
    λ s ms h.
    let v = world_of s ms in
    let w = c.args.self.now in
    let between = run.is_between c.args.sender c.args.part in
    let carried = same v.letters w.letters c.sort.new.self h.is.letters c.in_ok-sort.ensures.same in
    let first = sym c.take.ensures.letter ∙ c.in-Some.is in
    let found = found-some (find between v.letters) c.in-Some.letter
    (sym (c.queues_carry_letters.ensures.first v.letters c.sort.new.self c.args.sender c.args.part carried) ∙ first) in
    let left = c.queues_carry_letters.ensures.taken v.letters c.args.sender c.args.part c.sort.new.self c.take.new.self carried c.take.ensures.rest c.take.ensures.others in
    let rest = run.without_first between v.letters in
    let laws : Firsts =
    record {
      regular = c.a_letter_that_waits_first_may_be_taken.ensures.regular;
      bind = c.a_letter_that_waits_first_may_be_taken.ensures.bind;
      desk = c.a_letter_that_waits_first_may_be_taken.ensures.desk;
      client = c.a_letter_that_waits_first_may_be_taken.ensures.client;
      ups = c.a_connection_that_is_up_is_of_the_plans_so_far.ensures.linked;
    } in
    let may = may-take-same s v rest c.args.part (LetterFrom c.args.now c.args.word c.args.sender c.in-Some.letter)
    (subst (λ l. MayTake s v c.args.part (LetterFrom c.args.now c.args.word c.args.sender l)) found.letter_is
    (may-take s ms c.args.part c.args.sender found.flight c.args.now c.args.word w laws h.is found.is)) in
    let taken = letters-changed s v rest w _ h.is (record { desk = refl; clients = refl; connections = refl; plans = refl; greatest = refl; alloc = refl }) left in
    let failed : is_err c.take_copy.result ≡ true = let a = c.is_err.ensures.value in let b = c.if-is_err.true in cc in
    let k = when-err c.take_copy.result failed c.take_copy.ensures.err s (record v { letters = rest }) taken may in
    let kept = when-err c.take_copy.result failed c.take_copy.ensures.kept in
    record {
      is =
          letters-changed s (record v { letters = rest }) v.letters c.take_copy.new.self _ k
          (record { desk = refl; clients = refl; connections = refl; plans = refl; greatest = refl; alloc = refl })
          (c.queues_carry_letters.ensures.returned v.letters c.args.sender c.args.part c.in-Some.letter c.sort.new.self c.take_copy.new.self.letters c.put_back.new.self carried first
          (kept.queues c.args.sender c.args.part ∙ c.take.ensures.rest) (λ a b n. kept.queues a b ∙ c.take.ensures.others a b n) c.put_back.ensures.back c.put_back.ensures.others);
      ends = h.ends;
    }

pub returns-clause-happened : goal.returns-clause-happened
returns-clause-happened c =
    λ s ms h.
    let v = world_of s ms in
    let w = c.args.self.now in
    let between = run.is_between c.args.sender c.args.part in
    let carried = same v.letters w.letters c.sort.new.self h.is.letters c.in_ok-sort.ensures.same in
    let found = found-some (find between v.letters) c.in-Some.letter
    (sym (c.queues_carry_letters.ensures.first v.letters c.sort.new.self c.args.sender c.args.part carried) ∙ sym c.take.ensures.letter ∙ c.in-Some.is) in
    let left = c.queues_carry_letters.ensures.taken v.letters c.args.sender c.args.part c.sort.new.self c.take.new.self carried c.take.ensures.rest c.take.ensures.others in
    let rest = run.without_first between v.letters in
    let laws : Firsts =
    record {
      regular = c.a_letter_that_waits_first_may_be_taken.ensures.regular;
      bind = c.a_letter_that_waits_first_may_be_taken.ensures.bind;
      desk = c.a_letter_that_waits_first_may_be_taken.ensures.desk;
      client = c.a_letter_that_waits_first_may_be_taken.ensures.client;
      ups = c.a_connection_that_is_up_is_of_the_plans_so_far.ensures.linked;
    } in
    let may = may-take-same s v rest c.args.part (LetterFrom c.args.now c.args.word c.args.sender c.in-Some.letter)
    (subst (λ l. MayTake s v c.args.part (LetterFrom c.args.now c.args.word c.args.sender l)) found.letter_is
    (may-take s ms c.args.part c.args.sender found.flight c.args.now c.args.word w laws h.is found.is)) in
    let taken = letters-changed s v rest w _ h.is (record { desk = refl; clients = refl; connections = refl; plans = refl; greatest = refl; alloc = refl }) left in
    let t = when-ok c.take_copy.result (let a = c.is_err.ensures.value in let b = c.if-is_err.false in cc) c.take_copy.ensures.took s (record v { letters = rest }) taken may in
    let k = subst (λ l. Took s (record v { letters = rest }) c.args.part (LetterFrom c.args.now c.args.word c.args.sender l) c.args.out.now c.take_copy.new.out c.take_copy.new.self) (sym found.letter_is) t in
    let input = LetterFrom c.args.now c.args.word c.args.sender found.flight.posted.letter in
    let turn = run.turn_of s (record v { letters = rest }) c.args.part input in
    let e = ap (λ (o : Option run.Flight). elim o [
      | None ↦ v
      | Some f ↦ run.takes s c.args.part (LetterFrom c.args.now c.args.word c.args.sender f.posted.letter) (record v { letters = rest })
    ]) found.is in
    record {
      made = turn.entries;
      entries = k.entries;
      journal = ap run.journal_of e ∙ journal-behind s c.args.part (letter_of input) turn (record v { letters = rest });
      stands = subst (λ x. Is s x c.take_copy.new.self) (sym e) k.stands;
    }
