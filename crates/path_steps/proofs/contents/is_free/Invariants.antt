use Rattle.std.proofs.Common.{◌≡◌, drop, map}
use Rattle.facts.specs.View.{buffer_bound}
use Rattle.walk_trees.specs.Contents.{of_buffer}
use Rattle.walk_trees.specs.Walks.{is_none}
use Rattle.path_steps.proofs.contents.is_free.Given as goal

abbrev pub invariant-loop-bound : goal.invariant-loop-bound
invariant-loop-bound g l = is_none (of_buffer l.buffer (map buffer_bound (drop l.bound-index l.setting.contents.items))) ≡ is_none (of_buffer l.buffer (map buffer_bound l.setting.contents.items))
