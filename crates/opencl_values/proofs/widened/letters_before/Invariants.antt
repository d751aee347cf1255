use Rattle.std.proofs.Common.{◌≡◌, ◌+◌, drop}
use Rattle.opencl_values.specs.Widened.{letters_before}
use Rattle.opencl_values.proofs.widened.letters_before.Given as goal

abbrev pub invariant-loop-byte : goal.invariant-loop-byte
invariant-loop-byte l = record {
  count : l.count ≡ l.byte-index;
  same : l.count + letters_before (drop l.byte-index l.name) ≡ letters_before l.name;
}
