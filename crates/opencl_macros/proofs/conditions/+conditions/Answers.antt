use Rattle.std.proofs.Common.{◌-◌, arith}
use Rattle.opencl_tokens.specs.Seen.{site}
use Rattle.opencl_macros.specs.Seen.{tokens_seen}
use Rattle.opencl_macros.specs.SeenConditions.{part}
use Rattle.opencl_macros.proofs.Steps.{part-none, part-is}
use Rattle.opencl_macros.proofs.conditions.+conditions.Goals as goal

pub read_part-returns-then-depth-eq0 : goal.read_part-returns-then-depth-eq0
read_part-returns-then-depth-eq0 t c =
    part-none c.args.depth (site c.args.site) (part c.args.wanted) (tokens_seen c.args.tokens.now) c.if-depth-eq0.true

pub read_part-returns : goal.read_part-returns
read_part-returns t c =
    rw (part-is c.args.depth (c.args.depth - 1) (site c.args.site) (part c.args.wanted) (tokens_seen c.args.tokens.now)
    (omega (arith, c.if-depth-eq0.false))) c.read_within.ensures
