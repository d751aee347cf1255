-- Supports as the code has them, in vectors of numbers.
use Rattle.std.specs.Prelude.{ℕ, List, map, Vec}
use Rattle.std.specs.declared.alloc.Global.{Global}
use Rattle.supports.specs.Candidates.{Supports}

abbrev pub sets : List (Vec ℕ Global) → List (List ℕ)
sets = map (λ set. set.items)

abbrev pub obligations : List (Vec (Vec ℕ Global) Global) → List (List (List ℕ))
obligations = map (λ obligation. sets obligation.items)

abbrev pub supports : List (Vec (Vec (Vec ℕ Global) Global) Global) → Supports
supports = map (λ candidate. obligations candidate.items)
