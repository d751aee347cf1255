use Rattle.std.proofs.Common.{refl}
use Rattle.semantics.specs.Memory.{put}
use Rattle.semantics.specs.Setup.{group_size, group_count}
use Rattle.semantics.specs.Evaluation.{evaluate}
use Rattle.semantics.specs.Ask.{ask}
use Rattle.semantics.specs.Solo.{opening}
use Rattle.semantics.specs.World.{opening_world, put_item, may_go, released, happens}
use Rattle.samples.proofs.computed.stores_are_ordered.Goals as goal

pub returns : goal.returns
unfolding opening_world happens ask evaluate opening put_item put group_size group_count may_go released
returns c = record { same_round = refl; next_round = refl; local_fence = refl; global_fence = refl; local_fence_of_arrays = refl; global_fence_of_arrays = refl; groups = refl; filled = refl; own = refl }
