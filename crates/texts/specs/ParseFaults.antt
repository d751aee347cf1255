-- Why tokens are no kernel within the limits (ours).
use Rattle.std.specs.Prelude.{ℕ}

pub data ParseFault : Type 0 where
  Expected : ParseFault
  TooDeep : ParseFault
  TooMany : ParseFault

-- the number that each is printed under
abbrev pub parse_fault_number : ParseFault → ℕ
parse_fault_number Expected = 10
parse_fault_number TooDeep = 11
parse_fault_number TooMany = 12
