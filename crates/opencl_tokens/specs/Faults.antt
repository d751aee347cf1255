-- Why a text has no tokens or lexemes (ours).
use Rattle.std.specs.Prelude.{ℕ, List, ◌++◌, Result, Ok, Err}
use Rattle.semantics.specs.Core.{Site}
use Rattle.opencl_tokens.specs.Words as vocabulary

-- a word that is left out comes with the fault
pub data TextFault : Type 0 where
  BadByte OpenComment NumberTooLarge BadNumber TextTooLong Preprocessor : TextFault
  LeftOut : (word : vocabulary.Word) → TextFault

-- the number that each is printed under
abbrev pub fault_number : TextFault → ℕ
fault_number BadByte = 1
fault_number OpenComment = 2
fault_number NumberTooLarge = 3
fault_number BadNumber = 4
fault_number TextTooLong = 5
fault_number Preprocessor = 13
fault_number (LeftOut word) = 15

-- a list, or the first fault and where that begins
abbrev pub Answered : Type 0 → Type 0
Answered X = Result (List X) (TextFault × Site)

-- what was read before all that follows
abbrev pub in_front : {X : Type 0} → List X → Answered X → Answered X
in_front front (Ok rest) = Ok (front ++ rest)
in_front front (Err e) = Err e
