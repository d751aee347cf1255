-- Texts of conditions and of launches (ours): why a text is none, and what is read of one from its left.
use Rattle.std.specs.Prelude.{ℕ, ◌+◌, List, [], ◌∷◌, length, drop, Bool, cond, nat_eq, Option, None, Some, Result, Ok, Err}
use Rattle.std.specs.List.{starts_with}
use Rattle.lines.specs.Lines.{line_feed}

pub data LaunchFault : Type 0 where
  Expected UnknownName MissingLine EmptyRange LimitPassed : LaunchFault

-- the number that each is printed under
abbrev pub launch_fault_number : LaunchFault → ℕ
launch_fault_number Expected = 30
launch_fault_number UnknownName = 31
launch_fault_number MissingLine = 32
launch_fault_number EmptyRange = 33
launch_fault_number LimitPassed = 34

-- what is left of a text, and the number of its line, from 1
pub record Cursor : Type 0 where
  pub line : ℕ
  pub rest : List ℕ

abbrev pub cursor : ℕ → List ℕ → Cursor
cursor line rest = record { line = line; rest = rest }

-- what was read, or the first fault and its line
abbrev pub Step : Type 0 → Type 0
Step A = Result A (LaunchFault × ℕ)

abbrev pub refused : {A : Type 0} → LaunchFault → Cursor → Step A
refused fault c = Err (fault, c.line)

-- goes on from what was read
abbrev pub then : {A B : Type 0} → Step A → (A → Step B) → Step B
then (Ok a) go = go a
then (Err e) go = Err e

abbrev pub found : {A : Type 0} → Option A → LaunchFault → Cursor → Step (A × Cursor)
found None fault c = refused fault c
found (Some a) fault c = Ok (a, c)

-- whether these bytes stand at the front
abbrev pub sees : List ℕ → Cursor → Bool
sees front c = starts_with nat_eq c.rest front

abbrev pub past : ℕ → Cursor → Cursor
past n c = cursor c.line (drop n c.rest)

-- exactly these bytes
unfoldable pub expect : List ℕ → Cursor → Step Cursor
expect front c = cond (sees front c) (Ok (past (length front) c)) (refused Expected c)

-- a line's end: without its line feed a line is not whole
unfoldable pub end_line : Cursor → Step Cursor
end_line c = cond (sees (line_feed ∷ []) c) (Ok (cursor (c.line + 1) (drop 1 c.rest))) (refused Expected c)
