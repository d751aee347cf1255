-- The reader of sums, a turn at a time.
use Rattle.std.proofs.Common.{◌≡◌, ℕ, List, ◌∷◌, [], ◌++◌, true, Some, refl}
use Rattle.lines.specs.Lines.{follows}
use Rattle.certificate_text.specs.Certificate.{Scaled}
use Rattle.certificate_text.specs.Lines.{line_is_before, scaled_of, sum_of}

pub one_part : (parts : List Scaled) (ws : List (List ℕ)) (weight line : List ℕ) (others : List (List ℕ)) (p : Scaled) → ws ≡ weight ∷ line ∷ others → scaled_of weight line ≡ Some p → follows line_is_before parts p ≡ true → sum_of parts ws ≡ sum_of (parts ++ p ∷ []) others
unfolding sum_of
one_part parts ws weight line others p e q r = rw (e, q, r) refl
