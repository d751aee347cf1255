use Rattle.rankings.proofs.Short.{listed_short}
use Rattle.loop_bounds.specs.Costs.{cost}
use Rattle.loop_bounds.specs.Turns.{turns_of}
use Rattle.rankings.proofs.laws.ranked_kernels_are_pair_safe.Goals as goal

pub returns : goal.returns
returns c = λ s k bounds sound shown accesses faults stores ranks. c.shown_is_pair_safe.ensures s k (cost (turns_of bounds) s.kernel.body) sound shown accesses faults stores (listed_short s k bounds sound shown ranks)
