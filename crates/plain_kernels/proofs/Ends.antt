-- Intervals of which both ends stand between two numbers.
use Rattle.std.proofs.Common.{◌≡◌, ℕ, ◌≤◌, true, Option, Some, None, arith, sym, ap, subst}
use Rattle.std.specs.Prelude.{ℤ, pos, ◌≤ℤ◌, ◌+ℤ◌, ◌*ℤ◌, cond, ◌^◌}
use Rattle.std.specs.Int.{int_min, int_max}
use Rattle.std.specs.Int.RustNames.{int_le}
use Rattle.std.proofs.lemmas.Int.{ints, clamps}
use Rattle.domain.specs.declared.Bounds.{Bounds}
use Rattle.domain.specs.Ends.{least, greatest, end, span, all, add, far, multiply, at_least, at_most}
use Rattle.domain.specs.IntervalMembers.{fits-in, yes-le}

-- there is an end, and it stands between the two
abbrev pub EndIn : (low high : ℤ) → Option ℤ → Type 0
EndIn low high None = ⊥
EndIn low high (Some n) = (low ≤ℤ n) × (n ≤ℤ high)

abbrev pub EndsIn : (low high : ℤ) → Bounds → Type 0
EndsIn low high b = EndIn low high b.low × EndIn low high b.high

end-wider : (a b low high : ℤ) (o : Option ℤ) → EndIn a b o → low ≤ℤ a → b ≤ℤ high → EndIn low high o
end-wider a b low high None e p q = absurd e
end-wider a b low high (Some n) e p q = (omega (arith, ints, e), omega (arith, ints, e))

pub wider : (a b low high : ℤ) (x : Bounds) → EndsIn a b x → low ≤ℤ a → b ≤ℤ high → EndsIn low high x
wider a b low high x e p q = (end-wider a b low high x.low e.0 p q, end-wider a b low high x.high e.1 p q)

-- a number that an end can have
abbrev pub IsEnd : ℤ → Type 0
IsEnd n = (least ≤ℤ n) × (n ≤ℤ greatest)

end-is : (n : ℤ) → IsEnd n → end n ≡ Some n
end-is n h = ap (λ b. cond b (Some n) None) (fits-in n h.0 h.1)

end-in : (low high n : ℤ) → IsEnd low → IsEnd high → low ≤ℤ n → n ≤ℤ high → EndIn low high (end n)
end-in low high n p q a b = subst (EndIn low high) (sym (end-is n (omega (arith, ints), omega (arith, ints)))) (a, b)

pub spans : (low high l h : ℤ) → IsEnd low → IsEnd high → (low ≤ℤ l) × (l ≤ℤ high) → (low ≤ℤ h) × (h ≤ℤ high) → EndsIn low high (span l h)
spans low high l h p q a b = (end-in low high l p q a.0 a.1, end-in low high h p q b.0 b.1)

pub one-number : (n : ℤ) → IsEnd n → EndsIn n n (span n n)
one-number n h = spans n n n n h h (omega (arith, ints), omega (arith, ints)) (omega (arith, ints), omega (arith, ints))

adds-ends : (a b c d : ℤ) (o p q r : Option ℤ) → EndIn a b o → EndIn a b p → EndIn c d q → EndIn c d r → IsEnd (a +ℤ c) → IsEnd (b +ℤ d) → EndsIn (a +ℤ c) (b +ℤ d) (add (record { low = o; high = p }) (record { low = q; high = r }))
adds-ends a b c d None p q r h1 h2 h3 h4 e f = absurd h1
adds-ends a b c d (Some l) None q r h1 h2 h3 h4 e f = absurd h2
adds-ends a b c d (Some l) (Some h) None r h1 h2 h3 h4 e f = absurd h3
adds-ends a b c d (Some l) (Some h) (Some m) None h1 h2 h3 h4 e f = absurd h4
adds-ends a b c d (Some l) (Some h) (Some m) (Some n) h1 h2 h3 h4 e f = spans (a +ℤ c) (b +ℤ d) (l +ℤ m) (h +ℤ n) e f (omega (arith, ints, h1, h3), omega (arith, ints, h1, h3)) (omega (arith, ints, h2, h4), omega (arith, ints, h2, h4))

pub adds : (a b c d : ℤ) (x y : Bounds) → EndsIn a b x → EndsIn c d y → IsEnd (a +ℤ c) → IsEnd (b +ℤ d) → EndsIn (a +ℤ c) (b +ℤ d) (add x y)
adds a b c d x y h k e f = adds-ends a b c d x.low x.high y.low y.high h.0 h.1 k.0 k.1 e f

-- the least and the greatest of four numbers that stand between two
hull-in : (low high p q r s : ℤ) → IsEnd low → IsEnd high → (low ≤ℤ p) × (p ≤ℤ high) → (low ≤ℤ q) × (q ≤ℤ high) → (low ≤ℤ r) × (r ≤ℤ high) → (low ≤ℤ s) × (s ≤ℤ high) →
    EndsIn low high (span (int_min (int_min p q) (int_min r s)) (int_max (int_max p q) (int_max r s)))
hull-in low high p q r s e f a b c d =
    spans low high (int_min (int_min p q) (int_min r s)) (int_max (int_max p q) (int_max r s)) e f
    (omega (arith, ints, clamps, a, b, c, d), omega (arith, ints, clamps, a, b, c, d)) (omega (arith, ints, clamps, a, b, c, d), omega (arith, ints, clamps, a, b, c, d))

-- the multiples of what stands between a and b stand between low and high
abbrev pub Scales : (k a b low high : ℤ) → Type 0
Scales k a b low high = (z : ℤ) → a ≤ℤ z → z ≤ℤ b → (low ≤ℤ (k *ℤ z)) × ((k *ℤ z) ≤ℤ high)

at-number : (k l a b z low high : ℤ) → (k ≤ℤ l) × (l ≤ℤ k) → a ≤ℤ z → z ≤ℤ b → Scales k a b low high → (low ≤ℤ (l *ℤ z)) × ((l *ℤ z) ≤ℤ high)
at-number k l a b z low high h p q s = subst (λ x. (low ≤ℤ (x *ℤ z)) × ((x *ℤ z) ≤ℤ high)) (omega (arith, ints, h)) (s z p q)

multiplies-ends : (k a b low high : ℤ) (o p q r : Option ℤ) → EndIn k k o → EndIn k k p → EndIn a b q → EndIn a b r → IsEnd low → IsEnd high → Scales k a b low high →
    EndsIn low high (multiply (record { low = o; high = p }) (record { low = q; high = r }))
multiplies-ends k a b low high None p q r h1 h2 h3 h4 e f s = absurd h1
multiplies-ends k a b low high (Some l) None q r h1 h2 h3 h4 e f s = absurd h2
multiplies-ends k a b low high (Some l) (Some h) None r h1 h2 h3 h4 e f s = absurd h3
multiplies-ends k a b low high (Some l) (Some h) (Some m) None h1 h2 h3 h4 e f s = absurd h4
multiplies-ends k a b low high (Some l) (Some h) (Some m) (Some n) h1 h2 h3 h4 e f s =
    hull-in low high (l *ℤ m) (l *ℤ n) (h *ℤ m) (h *ℤ n) e f (at-number k l a b m low high h1 h3.0 h3.1 s) (at-number k l a b n low high h1 h4.0 h4.1 s) (at-number k h a b m low high h2 h3.0 h3.1 s) (at-number k h a b n low high h2 h4.0 h4.1 s)

pub multiplies : (k a b low high : ℤ) (x y : Bounds) → EndsIn k k x → EndsIn a b y → IsEnd low → IsEnd high → Scales k a b low high → EndsIn low high (multiply x y)
multiplies k a b low high x y h g e f s = multiplies-ends k a b low high x.low x.high y.low y.high h.0 h.1 g.0 g.1 e f s

-- from 0 up to a number
pub counts : (n : ℕ) → n ≤ 2 ^ 62 → EndsIn (pos 0) (pos n) (at_most (at_least all (pos 0)) (pos n))
counts n h =
    let e : int_min far (pos n) ≡ pos n = omega (arith, ints, clamps) in
    let t : int_le (pos 0) (pos n) ≡ true = yes-le (pos 0) (pos n) (omega (arith, ints)) in
    let s : EndsIn (pos 0) (pos n) (span (pos 0) (int_min far (pos n))) = spans (pos 0) (pos n) (pos 0) (int_min far (pos n)) (omega (arith, ints), omega (arith, ints)) (omega (arith, ints), omega (arith, ints)) (omega (arith, ints), omega (arith, ints)) (omega (arith, ints, e), omega (arith, ints, e)) in
    subst (λ b. EndsIn (pos 0) (pos n) (cond b (span (pos 0) (int_min far (pos n))) (span (pos 0) far))) (sym t) s
