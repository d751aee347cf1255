use Rattle.std.proofs.Common.{◌+◌, ◌*◌}
use Rattle.opencl_macros.proofs.conditions.+conditions.Given as goal

abbrev pub decreases-read_part : goal.decreases-read_part
decreases-read_part l = l.depth * 10 + 0

abbrev pub decreases-read_within : goal.decreases-read_within
decreases-read_within l = l.depth * 10 + 9

abbrev pub decreases-whole : goal.decreases-whole
decreases-whole l = l.depth * 10 + 8

abbrev pub decreases-operand : goal.decreases-operand
decreases-operand l = l.depth * 10 + 8

abbrev pub decreases-joined : goal.decreases-joined
decreases-joined l = l.depth * 10 + 8

abbrev pub decreases-more : goal.decreases-more
decreases-more l = l.depth * 10 + 8

abbrev pub decreases-chooses : goal.decreases-chooses
decreases-chooses l = l.depth * 10 + 7

abbrev pub decreases-chosen : goal.decreases-chosen
decreases-chosen l = l.depth * 10 + 6

abbrev pub decreases-operated : goal.decreases-operated
decreases-operated l = l.depth * 10 + 7

abbrev pub decreases-signed : goal.decreases-signed
decreases-signed l = l.depth * 10 + 7
