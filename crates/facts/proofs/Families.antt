-- The symbol of a number, by its family.
use Rattle.std.proofs.Common.{◌≡◌, ℕ, ◌/◌, ◌%◌, ap}
use Rattle.facts.specs.Symbols.{of_family, symbol_of}

pub of_symbol : (n f : ℕ) → n % 16 ≡ f → symbol_of n ≡ of_family f (n / 16)
unfolding symbol_of
of_symbol n f e = ap (λ k. of_family k (n / 16)) e

pub ruleset families = of_symbol
