-- What may stand behind a list, by its last element.
use Rattle.std.proofs.Common.{◌≡◌, ℕ, zero, suc, ◌+◌, Bool, List, [], ◌∷◌, length, get_or, map, arith, ap, sym}
use Rattle.lines.specs.Lines.{follows}

pub last_follows : {A B C : Type 0} (is_before : B → C → Bool) (view : A → B) (xs : List A) (i : ℕ) (x : A) (c : C) → i + 1 ≡ length xs → x ≡ get_or xs i x → follows is_before (map view xs) c ≡ is_before (view x) c
last_follows is_before view [] i x c h e = absurd (omega arith)
last_follows is_before view (a ∷ []) zero x c h e = ap (λ y. is_before (view y) c) (sym e)
last_follows is_before view (a ∷ []) (suc i) x c h e = absurd (omega arith)
last_follows is_before view (a ∷ b ∷ xs) zero x c h e = absurd (omega arith)
last_follows is_before view (a ∷ b ∷ xs) (suc i) x c h e = last_follows is_before view (b ∷ xs) i x c (omega arith) e
