use Rattle.std.proofs.Common.{arith}
use Rattle.opencl_jumps.proofs.Weights.{some-statements}
use Rattle.opencl_jumps.proofs.exits.is_none.Goals as goal

pub returns-in-len1-up : goal.returns-in-len1-up
returns-in-len1-up c = some-statements c.args.of.now (omega (arith, c.in-len1-up.len_at_least))
