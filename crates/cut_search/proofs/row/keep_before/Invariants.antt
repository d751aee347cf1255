use Rattle.std.proofs.Common.{◌-◌, length}
use Rattle.cut_search.proofs.row.keep_before.Given as goal

abbrev pub decreases-loop-i : goal.decreases-loop-i
decreases-loop-i l = length l.a - l.i
