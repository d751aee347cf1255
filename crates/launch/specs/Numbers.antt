-- Whole numbers by sign and size.
use Rattle.std.specs.Prelude.{ℕ, ℤ, pos, neg_ℤ, Bool, true, false}
use Rattle.launch.specs.declared.number.Number.{Number}

abbrev pub signed : Bool → ℕ → ℤ
signed false n = pos n
signed true n = neg_ℤ (pos n)

abbrev pub number : Number → ℤ
number n = signed n.negative n.size
