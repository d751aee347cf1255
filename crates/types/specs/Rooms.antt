-- How many names may still be declared.
use Rattle.std.specs.Prelude.{ℕ, ◌+◌, ◌≤◌, length}
use Rattle.types.specs.Scope as scope
use Rattle.texts.specs.Declarations.{most_names}

-- how many names were declared so far
abbrev pub declared : scope.Scope → ℕ
declared s = length s.slots + length s.buffers + length s.arrays

-- with so many more they are no more than a kernel's
abbrev pub HasRoom : scope.Scope → (more : ℕ) → Type 0
HasRoom s more = declared s + more ≤ most_names
