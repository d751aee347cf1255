use Rattle.std.proofs.Common.{refl}
use Rattle.semantics.specs.Memory.{put}
use Rattle.semantics.specs.Setup.{group_size, group_count}
use Rattle.semantics.specs.Evaluation.{evaluate}
use Rattle.semantics.specs.Ask.{ask}
use Rattle.semantics.specs.Solo.{opening}
use Rattle.semantics.specs.World.{opening_world, put_item, may_go, released, happens}
use Rattle.samples.proofs.computed.indices_lie_within.Goals as goal

pub returns : goal.returns
unfolding opening_world happens ask evaluate opening put_item put group_size group_count may_go released
returns c = record { inside = refl; past = refl; below = refl; index_first = refl }
