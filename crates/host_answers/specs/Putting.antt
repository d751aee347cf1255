-- As much of a text as there is room for.
use Rattle.std.specs.Prelude.{◌≡◌, ◌++◌, ℕ, List, length, take, drop}

-- the room holds what it has room for, and behind that what it held
pub record IsPut (text old new : List ℕ) (whole : ℕ) : Type 0 where
  pub all : whole ≡ length text
  pub bytes : new ≡ take (length old) text ++ drop (length text) old
