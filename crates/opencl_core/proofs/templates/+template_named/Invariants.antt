use Rattle.std.proofs.Common.{length}
use Rattle.opencl_core.proofs.templates.+template_named.Given as goal

abbrev pub decreases-template_named : goal.decreases-template_named
decreases-template_named l = length l.templates.now
