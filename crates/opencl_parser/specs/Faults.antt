-- Why lexemes are no file (ours).
use Rattle.std.specs.Prelude.{ℕ}

-- what OpenCL C 1.2 has and is left out
pub data Construct : Type 0 where
  Structure Enumeration Image Sampler Event Double Half Long String Goto Label : Construct

-- another lexeme is due, levels within one another are too many, there is too much of something, or it is left out
pub data ParseFault : Type 0 where
  Expected TooDeep TooMany : ParseFault
  LeftOut : (construct : Construct) → ParseFault

-- the number that each is printed under
abbrev pub fault_number : ParseFault → ℕ
fault_number Expected = 10
fault_number TooDeep = 11
fault_number TooMany = 12
fault_number (LeftOut construct) = 15
