-- What is written of a refusal.
use Rattle.std.specs.Prelude.{◌≡◌, ℕ, List, ◌++◌, codes, Option, Some, None}
use Rattle.std.specs.Fmt.{decimal}
use Rattle.entry_check.specs.declared.error.Pointer as code
use Rattle.entry_check.specs.declared.error.Pointer.TheVariants as pointers

-- it points nowhere, or to a line, or to an obligation, by its number, or to a line and a column
pub data Pointer : Type 0 where
  Nowhere : Pointer
  Numbered : (number : ℕ) → Pointer
  At : (line column : ℕ) → Pointer

-- `refused`, the number, and the place where it has one
abbrev pub refusal_line : (number : ℕ) → Pointer → List ℕ
refusal_line number Nowhere = codes "refused " ++ (decimal number ++ codes "\n")
refusal_line number (Numbered place) = codes "refused " ++ (decimal number ++ (codes " " ++ (decimal place ++ codes "\n")))
refusal_line number (At line column) = codes "refused " ++ (decimal number ++ (codes " " ++ (decimal line ++ (codes ":" ++ (decimal column ++ codes "\n")))))

abbrev pub IsRefusalLine : List ℕ → Type 0
IsRefusalLine line = (number : ℕ) × (place : Pointer) × (line ≡ refusal_line number place)

abbrev pub pointed : code.Pointer → Pointer
pointed (pointers.Number number) = Numbered number
pointed (pointers.At line column) = At line column

abbrev pub place_seen : Option code.Pointer → Pointer
place_seen None = Nowhere
place_seen (Some place) = pointed place
