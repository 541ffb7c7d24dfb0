use Rattle.std.proofs.Common.{ℕ, ◌+◌, arith, true, List, ap, cond, map, string_bytes, sym, ◌∙◌}
use Rattle.std.specs.Char.{to_ascii_lowercase}
use Rattle.std.specs.HashSet.{contains_text}
use Rattle.std.specs.Str.{bytes_eq}
use Rattle.std.proofs.lemmas.Map.Text.{hash_set_updates_text}
use Rattle.lload_conf.proofs.Repeats.{any-past, has_lower, lower_key, repeats-here, repeats-past, told-new, told-old}
use Rattle.lload_conf.proofs.line.first_repeat.Goals as goal

pub returns-then-not-branch : goal.returns-then-not-branch
returns-then-not-branch c =
    let key = c.make_ascii_lowercase.ensures.bytes ∙ ap (map to_ascii_lowercase) (c.in_ok-key.ensures.ok ∙ c.key_of.ensures) in
    let stood = sym (c.loop-word.invariant.seen (lower_key c.word-item.result)) ∙ (ap (contains_text c.loop-word.seen) (sym key) ∙ told-old _ _ c.in_ok-insert.ensures.added c.if-not-branch.true) in
    record {
      is = repeats-here c.args.words.now c.loop-word.word-index c.loop-word.index c.word-item.result c.loop-word-test.true c.word-item.is c.loop-word.invariant.count stood c.loop-word.invariant.rest;
      inside = omega (arith, c.loop-word.invariant.count, c.loop-word-test.true);
    }

pub loop-word-preserved : goal.loop-word-preserved
loop-word-preserved c =
    let key = c.make_ascii_lowercase.ensures.bytes ∙ ap (map to_ascii_lowercase) (c.in_ok-key.ensures.ok ∙ c.key_of.ensures) in
    let here = c.word-item.result in
    let new = sym (c.loop-word.invariant.seen (lower_key here)) ∙ (ap (contains_text c.loop-word.seen) (sym key) ∙ told-new _ _ c.in_ok-insert.ensures.added c.if-not-branch.false) in
    record {
      count = ap (λ n. n + 1) c.loop-word.invariant.count;
      rest = repeats-past c.args.words.now c.loop-word.word-index here c.loop-word-test.true c.word-item.is new ∙ c.loop-word.invariant.rest;
      seen = λ q. hash_set_updates_text (string_bytes c.make_ascii_lowercase.new.self) c.loop-word.seen c.insert.new.self true c.in_ok-insert.ensures.updates q ∙ (ap (λ (k : List ℕ). cond (bytes_eq k q) true (contains_text c.loop-word.seen q)) key ∙ (ap (λ t. cond (has_lower q here) true t) (c.loop-word.invariant.seen q) ∙ any-past c.args.words.now c.loop-word.word-index here q c.loop-word-test.true c.word-item.is));
    }
