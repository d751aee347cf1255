use Rattle.std.proofs.Common.{◌≡◌, drop}
use Rattle.host_launches.specs.Fitting.{is_among}
use Rattle.host_launches.proofs.fitting.is_among.Given as goal

abbrev pub invariant-loop-one : goal.invariant-loop-one
invariant-loop-one l = is_among l.memory (drop l.one-index l.arguments) ≡ is_among l.memory l.arguments
