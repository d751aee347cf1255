use Rattle.std.proofs.Common.{map, arith, ap, ◌∙◌}
use Rattle.words.specs.View.{kind}
use Rattle.launch.specs.View.{buffer}
use Rattle.executor.specs.Kinds.{words, of_kinds}
use Rattle.executor.proofs.Typed.{all-read}
use Rattle.executor.proofs.kinds.of_kinds.Goals as goal

pub returns : goal.returns
returns c =
    let past = c.loop-row-test.false in
    let ks = map kind c.args.kinds.now in
    let rows = c.deref-row-items.result.now in
    all-read (map kind c.loop-row.left.now) rows c.loop-row.row-index (map words c.loop-row.words.items) (of_kinds ks (map buffer rows)) (omega (arith, past)) c.loop-row.invariant
    ∙ ap (λ vs. of_kinds ks (map buffer vs)) c.deref-row-items.ensures.value
