-- Lists of kinds, of which one has ended.
use Rattle.std.proofs.Common.{◌≡◌, ◌<◌, ℕ, zero, suc, false, List, [], ◌∷◌, length, drop, map, refl, arith}
use Rattle.words.specs.View.{kind as kind_seen}
use Rattle.words.specs.declared.Kind.{Kind}
use Rattle.opencl_reading.specs.Kinds.{are_same}

pub none_same : (xs ys : List Kind) (i : ℕ) → i < length xs → length ys < 1 → are_same (map kind_seen (drop i xs)) (map kind_seen ys) ≡ false
none_same [] ys i h b = absurd (omega arith)
none_same (x ∷ xs) (y ∷ ys) i h b = absurd (omega arith)
none_same (x ∷ xs) [] zero h b = refl
none_same (x ∷ xs) [] (suc i) h b = none_same xs [] i (omega arith) b
