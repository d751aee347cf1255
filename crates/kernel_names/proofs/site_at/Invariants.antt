use Rattle.std.proofs.Common.{◌≡◌, drop, map}
use Rattle.kernel_names.specs.NameMap.{site_among}
use Rattle.kernel_names.specs.View.{standing}
use Rattle.kernel_names.proofs.site_at.Given as goal

abbrev pub invariant-loop-standing : goal.invariant-loop-standing
invariant-loop-standing l = site_among l.wanted (map standing (drop l.standing-index l.names.statements.items)) ≡ site_among l.wanted (map standing l.names.statements.items)
