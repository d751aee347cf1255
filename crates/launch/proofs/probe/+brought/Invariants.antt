use Rattle.std.proofs.Common.{length}
use Rattle.launch.proofs.probe.+brought.Given as goal

abbrev pub decreases-brought : goal.decreases-brought
decreases-brought l = length l.contents.now
