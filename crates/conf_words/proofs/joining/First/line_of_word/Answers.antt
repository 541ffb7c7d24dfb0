use lib.Utf8.{encode}
use Rattle.std.proofs.Common.{◌≡◌, ◌∙◌, [], ◌∷◌, ◌++◌, true, sym, refl, subst}
use Rattle.std.specs.Str.{is_utf8}
use Rattle.std.proofs.lemmas.Str.{is_utf8-from_IsUtf8}
use Rattle.conf_words.specs.Locating.{piece_of_word}
use Rattle.conf_words.specs.Reading.{continuations, physical}
use Rattle.conf_words.specs.WordMaking.{Goes}
use Rattle.conf_words.proofs.Contents.{not_utf8}
use Rattle.conf_words.proofs.Groups.{continuations-cut}
use Rattle.conf_words.proofs.WordPlaces.{begun_behind, makes_first, makes_more, piece-found, piece-last, piece-other, piece-passed}
use Rattle.conf_words.proofs.joining.First.line_of_word.Goals as goal

pub loop-line-init : goal.loop-line-init
loop-line-init c = ([], makes_first c.new-maker.result c.new-maker.ensures.words c.new-maker.ensures.word c.new-maker.ensures.quoted c.new-maker.ensures.escaped, refl)

pub returns-in_default-from_utf8 : goal.returns-in_default-from_utf8
returns-in_default-from_utf8 c =
    let cut = continuations-cut c.loop-line.place c.in-Some.after c.in-Some.line.now c.in-Some.ensures.cut c.in-Some.ensures.none in
    let before = c.loop-line.invariant.0 in
    piece-other c.args.word before c.loop-line.number c.loop-line.piece.now c.loop-line.place.number c.in-Some.line.now _ _ cut (not_utf8 c.loop-line.piece.now c.in_default-from_utf8.ensures.cases.0) ∙ c.loop-line.invariant.2

pub returns-then-has_begun : goal.returns-then-has_begun
returns-then-has_begun c =
    let cut = continuations-cut c.loop-line.place c.in-Some.after c.in-Some.line.now c.in-Some.ensures.cut c.in-Some.ensures.none in
    let before = c.loop-line.invariant.0 in
    let goes : Goes c.loop-line.maker c.take_text.new.self c.loop-line.piece.now = subst (Goes c.loop-line.maker c.take_text.new.self) c.in-Ok.ensures.cases.0 c.in_ok-take_text.ensures in
    let makes_all = makes_more before c.loop-line.piece.now c.loop-line.maker c.take_text.new.self c.loop-line.invariant.1 goes in
    let utf8 : is_utf8 c.loop-line.piece.now ≡ true = is_utf8-from_IsUtf8 c.loop-line.piece.now c.in-Ok.ensures.cases.1 in
    piece-found c.args.word before c.loop-line.number c.loop-line.piece.now c.loop-line.place.number c.in-Some.line.now _ _ cut utf8 (sym (begun_behind (before ++ c.loop-line.piece.now) c.take_text.new.self c.args.word makes_all) ∙ (sym c.has_begun.ensures ∙ c.if-has_begun.true)) ∙ c.loop-line.invariant.2

pub loop-line-preserved : goal.loop-line-preserved
unfolding encode
loop-line-preserved c =
    let cut = continuations-cut c.loop-line.place c.in-Some.after c.in-Some.line.now c.in-Some.ensures.cut c.in-Some.ensures.none in
    let before = c.loop-line.invariant.0 in
    let piece = c.loop-line.piece.now in
    let goes : Goes c.loop-line.maker c.take_text.new.self piece = subst (Goes c.loop-line.maker c.take_text.new.self) c.in-Ok.ensures.cases.0 c.in_ok-take_text.ensures in
    let makes_all = makes_more before piece c.loop-line.maker c.take_text.new.self c.loop-line.invariant.1 goes in
    let utf8 : is_utf8 piece ≡ true = is_utf8-from_IsUtf8 piece c.in-Ok.ensures.cases.1 in
    let not_yet = sym (begun_behind (before ++ piece) c.take_text.new.self c.args.word makes_all) ∙ (sym c.has_begun.ensures ∙ c.if-has_begun.false) in (
      (before ++ piece) ++ 32 ∷ [],
      makes_more (before ++ piece) (32 ∷ []) c.take_text.new.self c.take.new.self makes_all c.in_ok-take.ensures,
      (λ i. piece_of_word c.args.word ((before ++ piece) ++ 32 ∷ []) c.loop-line.place.number (c.unindented-piece.ensures i) c.in-Some.after.number (continuations (physical c.in-Some.after)))
          ∙ (piece-passed c.args.word before c.loop-line.number piece c.loop-line.place.number c.in-Some.after.number c.in-Some.line.now _ _ cut c.in-Some.ensures.cut.number utf8 not_yet ∙ c.loop-line.invariant.2),
    )

pub returns : goal.returns
returns c = piece-last c.args.word c.loop-line.invariant.0 c.loop-line.number c.loop-line.piece.now c.loop-line.place.number _ c.in_default.ensures.none ∙ c.loop-line.invariant.2
