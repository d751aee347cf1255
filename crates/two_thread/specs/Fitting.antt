-- Whether all that denies claims is of i64.
use Rattle.std.specs.Prelude.{List, [], ◌∷◌, Bool, true, ◌&&◌}
use Rattle.walk_trees.specs.Fitting.{denials_fit}
use Rattle.path_steps.specs.Paths.{Claimed}

abbrev pub claims_fit : List Claimed → Bool
claims_fit [] = true
claims_fit (c ∷ cs) = denials_fit c.goal && claims_fit cs
