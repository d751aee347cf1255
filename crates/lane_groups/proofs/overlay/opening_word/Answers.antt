use Rattle.std.proofs.Common.{ap, sym, ◌∙◌}
use Rattle.semantics.specs.Setup.{at_launch}
use Rattle.semantics.specs.Memory.{opening_at}
use Rattle.launch.specs.View.{launch}
use Rattle.work_item.specs.Asks.{owner}
use Rattle.lane_groups.proofs.overlay.opening_word.Goals as goal

pub returns-in-Launch : goal.returns-in-Launch
returns-in-Launch c = λ k.
    c.buffer_word.ensures k ∙ ap (λ o. opening_at (at_launch k (launch c.args.launch.now)) (owner o) c.args.at.array c.args.at.index) (sym c.in-Launch.is)
