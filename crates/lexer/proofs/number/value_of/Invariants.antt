use Rattle.std.proofs.Common.{◌≡◌, ◌+◌, ◌*◌, drop}
use Rattle.std.specs.Prelude.{fold}
use Rattle.texts.specs.Numbers.{base_of, digit_value, value_of}
use Rattle.lexer.proofs.number.value_of.Given as goal

abbrev pub invariant-loop-b : goal.invariant-loop-b
invariant-loop-b l = record {
  base : l.base ≡ base_of l.hexadecimal;
  value : value_of l.hexadecimal l.digits ≡ fold (λ n b. n * base_of l.hexadecimal + digit_value b) l.n (drop l.b-index l.digits);
}
