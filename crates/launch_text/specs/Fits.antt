-- Conditions that are of a kernel: counts that a launch may have, a range of its kind for each value parameter, a sum for each buffer
-- parameter, of its kind, and names of the kernel alone.
use Rattle.std.specs.Prelude.{◌≡◌}
use Rattle.std.specs.List.{AllZip}
use Rattle.semantics.specs.Word.{Kind}
use Rattle.semantics.specs.Launch.{Kernel, IsCount, IsArgument}
use Rattle.semantics.specs.Conditions.{ConditionsFit}
use Rattle.launch_text.specs.ConditionsReading.{CountRange, ArgumentRange, Length, Lined, meant}

abbrev pub AreCounts : CountRange → Type 0
AreCounts r = IsCount r.low × IsCount r.high

abbrev pub IsRange : Kind → ArgumentRange → Type 0
IsRange k r = IsArgument k r.low × IsArgument k r.high

abbrev pub IsLength : Kind → Length → Type 0
IsLength k l = l.kind ≡ k

pub record IsOf (kernel : Kernel) (c : Lined) : Type 0 where
  pub counts_x : AreCounts c.groups.x
  pub counts_y : AreCounts c.groups.y
  pub counts_z : AreCounts c.groups.z
  pub arguments : AllZip IsRange kernel.arguments c.arguments
  pub lengths : AllZip IsLength kernel.buffers c.lengths
  pub fit : ConditionsFit kernel (meant c)
