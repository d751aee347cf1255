use Rattle.std.proofs.Common.{ap, sym, ◌∙◌}
use Rattle.core_code.specs.View.{site}
use Rattle.opencl_tree.specs.View.{statements}
use Rattle.opencl_jumps.specs.Switches.{linked}
use Rattle.opencl_jumps.specs.View as seen
use Rattle.opencl_jumps.proofs.Reversed.{chain-last}
use Rattle.opencl_jumps.proofs.switches.chain.Goals as goal

pub loop-group-preserved : goal.loop-group-preserved
loop-group-preserved c =
    c.in_ok-all.ensures
    ∙ ap (linked (site c.args.at) (seen.group c.in-Some.group)) c.loop-group.invariant
    ∙ sym (chain-last (site c.args.at) c.loop-group.yielded c.in-Some.group (statements c.args.so.items))
