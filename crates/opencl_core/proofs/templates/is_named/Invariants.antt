use Rattle.std.proofs.Common.{◌≡◌, drop, map}
use Rattle.opencl_core.specs.Templates.{is_named}
use Rattle.opencl_core.specs.View.{template}
use Rattle.opencl_core.proofs.templates.is_named.Given as goal

abbrev pub invariant-loop-template : goal.invariant-loop-template
invariant-loop-template l = is_named (map template (drop l.template-index l.templates)) l.name ≡ is_named (map template l.templates) l.name
