-- Numbers that went through i128 are the same.
use Rattle.std.proofs.Common.{◌≡◌, Bool, false, ◌∙◌, ap, sym}
use Rattle.std.proofs.lemmas.Bool.{cond-false}
use Rattle.std.specs.Prelude.{ℤ, pos, neg_ℤ, ◌-ℤ◌, cond}
use Rattle.std.specs.Int.{w128, cast_signed, cast_unsigned, int_min, int_max}
use Rattle.std.specs.Int.RustNames.{FitsSigned, int_le}
use Rattle.std.proofs.lemmas.Int.{to_z-of_z}
use Rattle.domain.specs.declared.Bounds.{Bounds}
use Rattle.domain.specs.Ends.{hull, span, all, is_zero, first_divisor, last_divisor, quotients, remainders}

abbrev pub through : ℤ → ℤ
through z = cast_signed w128 (cast_unsigned w128 z)

pub four : (F : ℤ → ℤ → ℤ → ℤ → Bounds) (a b c d p q s t : ℤ) → a ≡ p → b ≡ q → c ≡ s → d ≡ t → F a b c d ≡ F p q s t
four F a b c d p q s t h i j k = ap (λ z. F z b c d) h ∙ ap (λ z. F p z c d) i ∙ ap (λ z. F p q z d) j ∙ ap (λ z. F p q s z) k

two : (f : ℤ → ℤ → ℤ) (r a b : ℤ) → FitsSigned w128 r → FitsSigned w128 a → FitsSigned w128 b → r ≡ f (through a) (through b) → through r ≡ f a b
two f r a b u v w e = to_z-of_z w128 r u ∙ e ∙ ap (λ z. f z (through b)) (to_z-of_z w128 a v) ∙ ap (f a) (to_z-of_z w128 b w)

pub corners : (f : ℤ → ℤ → ℤ) (r : Bounds) (a b c d p q s t : ℤ) → FitsSigned w128 a → FitsSigned w128 b → FitsSigned w128 c → FitsSigned w128 d
    → FitsSigned w128 p → FitsSigned w128 q → FitsSigned w128 s → FitsSigned w128 t → r ≡ hull (through p) (through q) (through s) (through t)
    → p ≡ f (through a) (through c) → q ≡ f (through a) (through d) → s ≡ f (through b) (through c) → t ≡ f (through b) (through d) → r ≡ hull (f a c) (f a d) (f b c) (f b d)
corners f r a b c d p q s t fa fb fc fd fp fq fs ft e h i j k =
    e ∙ four hull _ _ _ _ _ _ _ _ (two f p a c fp fa fc h) (two f q a d fq fa fd i) (two f s b c fs fb fc j) (two f t b d ft fb fd k)

pub hulls : (r : Bounds) (m n a b c d : ℤ) → FitsSigned w128 m → FitsSigned w128 n → FitsSigned w128 a → FitsSigned w128 b → FitsSigned w128 c → FitsSigned w128 d
    → r ≡ span (through m) (through n) → m ≡ int_min (int_min (through a) (through b)) (int_min (through c) (through d)) → n ≡ int_max (int_max (through a) (through b)) (int_max (through c) (through d)) → r ≡ hull a b c d
hulls r m n a b c d fm fn fa fb fc fd e h i =
    let u : r ≡ span m n = simp to_z-of_z at e in
    let v : m ≡ int_min (int_min a b) (int_min c d) = simp to_z-of_z at h in
    let w : n ≡ int_max (int_max a b) (int_max c d) = simp to_z-of_z at i in
    u ∙ ap (λ z. span z n) v ∙ ap (λ z. span (int_min (int_min a b) (int_min c d)) z) w

-- a quotient and a remainder, where 0 is not the one divisor
pub divided : (r : Bounds) (p q s t f e : ℤ) (z : Bool) → z ≡ false → z ≡ is_zero s t → f ≡ first_divisor s t → e ≡ last_divisor s t → r ≡ quotients p q f e
    → r ≡ cond (is_zero s t) all (quotients p q (first_divisor s t) (last_divisor s t))
divided r p q s t f e z other is h k w =
    w ∙ ap (λ x. quotients p q x e) h ∙ ap (λ x. quotients p q (first_divisor s t) x) k ∙ sym (cond-false (is_zero s t) all _ (sym is ∙ other))

pub remained : (r : Bounds) (p q s t m l h : ℤ) (z : Bool) → z ≡ false → z ≡ is_zero s t → m ≡ int_max (neg_ℤ s) t -ℤ pos 1
    → l ≡ cond (int_le (pos 0) p) (pos 0) (int_max p (neg_ℤ m)) → h ≡ cond (int_le q (pos 0)) (pos 0) (int_min q m) → r ≡ span l h
    → r ≡ cond (is_zero s t) all (remainders p q (int_max (neg_ℤ s) t -ℤ pos 1))
remained r p q s t m l h z other is k i j w =
    w ∙ ap (λ x. span x h) i ∙ ap (λ x. span (cond (int_le (pos 0) p) (pos 0) (int_max p (neg_ℤ m))) x) j ∙ ap (remainders p q) k ∙ sym (cond-false (is_zero s t) all _ (sym is ∙ other))
