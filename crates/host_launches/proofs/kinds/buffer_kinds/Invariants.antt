use Rattle.std.proofs.Common.{◌≡◌, ◌++◌, drop, map}
use Rattle.words.specs.View.{kind}
use Rattle.host_launches.specs.Kinds.{all_kinds, buffer_kinds}
use Rattle.host_launches.proofs.kinds.buffer_kinds.Given as goal

abbrev pub invariant-loop-shape : goal.invariant-loop-shape
invariant-loop-shape l = map kind l.found.items ++ all_kinds buffer_kinds (drop l.shape-index l.shapes) ≡ all_kinds buffer_kinds l.shapes
