use Rattle.std.proofs.Common.{◌≡◌, drop, map}
use Rattle.opencl_core.specs.Helpers.{templates_of, templates_behind}
use Rattle.opencl_core.specs.View.{template, function, surroundings}
use Rattle.opencl_core.proofs.helpers.templates_of.Given as goal

abbrev pub invariant-loop-function : goal.invariant-loop-function
invariant-loop-function l =
    templates_behind (surroundings l.within) (map template l.templates.items) (map function (drop l.function-index l.functions))
    ≡ templates_of (surroundings l.within) (map function l.functions)
