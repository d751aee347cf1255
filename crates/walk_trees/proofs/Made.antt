-- What the domain holds fits an item.
use Rattle.std.proofs.Common.{◌≡◌, ℕ, true, List}
use Rattle.std.specs.Prelude.{ℤ}
use Rattle.facts.specs.Launching.{known}
use Rattle.facts.proofs.Members.{by_number}
use Rattle.facts.proofs.Worlds.{View, own}
use Rattle.walk_trees.specs.Held.{Held, element_held}

-- each symbol's number is a member of what the domain holds
abbrev pub IsFit : {E : Type 0} → View E → List ℤ → Held E → Type 0
IsFit c news h = (n : ℕ) → c.domain.has (element_held c.domain (known c.domain c.kernel.sizes c.conditions) h n) (by_number (own c news) n) ≡ true
