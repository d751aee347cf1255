use Rattle.std.proofs.Common.{◌≡◌, ◌+◌, drop}
use Rattle.std.specs.List.{prefix_len}
use Rattle.launch_text.specs.HeadReading.{is_printable}
use Rattle.launch_text.proofs.define.printable_length.Given as goal

abbrev pub invariant-loop-i : goal.invariant-loop-i
invariant-loop-i l = prefix_len is_printable l.bytes ≡ l.i + prefix_len is_printable (drop l.i l.bytes)
