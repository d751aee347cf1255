use Rattle.std.proofs.Common.{◌≡◌, ◌+◌, drop}
use Rattle.std.specs.List.{prefix_len}
use Rattle.texts.specs.Numbers.{is_digit}
use Rattle.lexer.proofs.number.digits_len.Given as goal

abbrev pub invariant-loop-i : goal.invariant-loop-i
invariant-loop-i l = prefix_len (is_digit l.hexadecimal) l.bytes ≡ l.i + prefix_len (is_digit l.hexadecimal) (drop l.i l.bytes)
