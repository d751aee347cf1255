-- Why a text has no tokens (ours).
use Rattle.std.specs.Prelude.{ℕ}

pub data TextFault : Type 0 where
  BadByte OpenComment NumberTooLarge BadNumber TextTooLong : TextFault

-- the number that each is printed under
abbrev pub fault_number : TextFault → ℕ
fault_number BadByte = 1
fault_number OpenComment = 2
fault_number NumberTooLarge = 3
fault_number BadNumber = 4
fault_number TextTooLong = 5
