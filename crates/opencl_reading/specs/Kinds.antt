-- Whether two lists have the same kinds.
use Rattle.std.specs.Prelude.{List, [], ◌∷◌, Bool, true, false, ◌&&◌}
use Rattle.semantics.specs.Word.{Kind, same_kind}

abbrev pub are_same : List Kind → List Kind → Bool
are_same [] [] = true
are_same (a ∷ xs) (b ∷ bs) = same_kind a b && are_same xs bs
are_same xs bs = false
