use Rattle.std.proofs.Common.{◌≤◌, take, length}
use Rattle.std.specs.Io.KnownBytes.{Appends}
use Rattle.program.proofs.writing.is_written.Given as goal

abbrev pub invariant-loop : goal.invariant-loop
invariant-loop g l = record {
  within : l.at ≤ length l.text;
  taken : Appends (g.W.Write.contents l.initial.to) (g.W.Write.contents l.to) (take l.at l.text);
}
