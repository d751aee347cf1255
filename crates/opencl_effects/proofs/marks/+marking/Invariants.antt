use Rattle.std.proofs.Common.{◌≡◌, drop}
use Rattle.opencl_tree.specs.View.{expressions}
use Rattle.opencl_effects.specs.Marks.{marks_in}
use Rattle.opencl_effects.specs.View.{helpers, all_noted}
use Rattle.opencl_effects.proofs.marks.+marking.Given as goal

abbrev pub invariant-push_all-loop-one : goal.invariant-push_all-loop-one
invariant-push_all-loop-one l =
    marks_in (helpers l.helpers) (all_noted l.marks.items) (expressions (drop l.one-index l.of))
    ≡ marks_in (helpers l.helpers) (all_noted l.initial.marks.items) (expressions l.of)
