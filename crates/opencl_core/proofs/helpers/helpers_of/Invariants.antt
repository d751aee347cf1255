use Rattle.std.proofs.Common.{◌≡◌, ◌++◌, drop, map}
use Rattle.opencl_effects.specs.View.{helpers}
use Rattle.opencl_core.specs.Templates.{as_helper}
use Rattle.opencl_core.specs.View.{template}
use Rattle.opencl_core.proofs.helpers.helpers_of.Given as goal

abbrev pub invariant-loop-template : goal.invariant-loop-template
invariant-loop-template l =
    helpers l.all.items ++ map as_helper (map template (drop l.template-index l.templates)) ≡ map as_helper (map template l.templates)
