use Rattle.std.proofs.Common.{◌+◌, ◌<◌, nat_eq, length, take, drop, ap, sym, ◌∙◌, arith, ◌∷◌}
use Rattle.std.specs.List.{position_or_len}
use Rattle.std.proofs.lemmas.List.{take_rest}
use Rattle.std.proofs.lemmas.List.Splits.{slice_split_first}
use Rattle.lines.specs.Lines.{pieces}
use Rattle.lines.specs.Left.{rest_left}
use Rattle.lines.proofs.pieces.Pieces.next.Goals as goal

pub returns-then-at-text : goal.returns-then-at-text
returns-then-at-text c =
    let separator = c.args.self.separator in
    let text = c.in-Some.text.now in
    let place = c.position-at.ensures.place in
    let inside : position_or_len (λ b. nat_eq b separator) text < length text = omega (arith, c.if-at-text.true, place) in
    ap (rest_left separator) c.in-Some.is ∙ slice_split_first (λ b. nat_eq b separator) text 0 inside
    ∙ ap (λ n. take n text ∷ pieces separator (drop (n + 1) text)) (sym place)
    ∙ ap (λ ps. take c.position-at.result text ∷ ps) (sym (rw take_rest at c.of-others.ensures.cut))
