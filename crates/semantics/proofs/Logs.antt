-- To apply stores in order is to apply their log, which has the last number of each element.
use Rattle.std.proofs.Common.{◌≡◌, ℤ, List, [], ◌∷◌, Bool, true, false, cond, Option, Some, None, refl, sym}
use Rattle.semantics.specs.Memory.{Cell, Memory, put, same_cell}
use Rattle.semantics.specs.Rounds.{applied, log_of, logged}

over : (xs : List (Cell × ℤ)) (m : Memory) (c : Cell) (before : Option ℤ) (z : ℤ) → logged before z ≡ m c → logged (log_of xs c before) z ≡ applied xs m c
unfolding put
over [] m c before z h = h
over (x ∷ xs) m c before z h = over xs (put x.0 x.1 m) c (cond (same_cell c x.0) (Some x.1) before) z (by (same_cell c x.0))
  where
    by : (b : Bool) → logged (cond b (Some x.1) before) z ≡ cond b x.1 (m c)
    by true = refl
    by false = h

pub applied-log : (xs : List (Cell × ℤ)) (m : Memory) (c : Cell) → applied xs m c ≡ logged (log_of xs c None) (m c)
applied-log xs m c = sym (over xs m c None (m c) refl)
