use Rattle.std.proofs.Common.{refl}
use Rattle.types.proofs.Blocks.{statements-snoc}
use Rattle.types.proofs.statements.push_one.Goals as goal

pub returns : goal.returns
returns c = λ x after h.
    let e = rw c.in_ok-answer.was at h in
    rw (e, c.in_ok-push.ensures.items, statements-snoc) refl
