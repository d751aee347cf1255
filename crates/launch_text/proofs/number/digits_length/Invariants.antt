use Rattle.std.proofs.Common.{◌≡◌, ◌+◌, drop}
use Rattle.std.specs.List.{prefix_len}
use Rattle.lines.specs.Bytes.{is_decimal_digit}
use Rattle.launch_text.proofs.number.digits_length.Given as goal

abbrev pub invariant-loop-i : goal.invariant-loop-i
invariant-loop-i l = prefix_len is_decimal_digit l.bytes ≡ l.i + prefix_len is_decimal_digit (drop l.i l.bytes)
