use Rattle.std.proofs.Common.{◌≡◌, drop}
use Rattle.opencl_macros.specs.Expansion.{is_active}
use Rattle.opencl_macros.specs.Seen.{active}
use Rattle.opencl_macros.proofs.feed.is_active.Given as goal

abbrev pub invariant-loop-other : goal.invariant-loop-other
invariant-loop-other l = is_active l.name (active (drop l.other-index l.active)) ≡ is_active l.name (active l.active)
