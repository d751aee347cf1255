-- What the turns of a loop do to its form.
use Rattle.std.specs.Prelude.{ℤ, pos, ◌+ℤ◌, ◌<ℤ◌, ◌≤ℤ◌, List, [], ◌∷◌}
use Rattle.loop_bounds.specs.declared.bound.Bound.{Bound}
use Rattle.loop_bounds.specs.declared.bound.Bound.TheVariants as bounds

-- what the form is at most: where the loop opens, or, where it doubles, at each true test
abbrev pub most : Bound → ℤ
most (bounds.Down form step n) = n
most (bounds.Halving form n) = n
most (bounds.Doubling form least n) = n

-- the form where the loop opens
abbrev pub Opens : Bound → ℤ → Type 0
Opens (bounds.Down form step n) x = x ≤ℤ n
Opens (bounds.Halving form n) x = x ≤ℤ n
Opens (bounds.Doubling form least n) x = least.number ≤ℤ x

-- where the loop's test is true
abbrev pub Holds : Bound → ℤ → Type 0
Holds (bounds.Down form step n) x = pos 0 <ℤ x
Holds (bounds.Halving form n) x = pos 0 <ℤ x
Holds (bounds.Doubling form least n) x = x ≤ℤ n

-- a turn makes it less by the step at least, or at most half, or at least double
abbrev pub Falls : Bound → (before after : ℤ) → Type 0
Falls (bounds.Down form step n) x y = (y +ℤ pos step.size) ≤ℤ x
Falls (bounds.Halving form n) x y = (y +ℤ y) ≤ℤ x
Falls (bounds.Doubling form least n) x y = (x +ℤ x) ≤ℤ y

-- its values at the tests that are true, one after the other, the first of them `x`: each is so, and falls to the next
abbrev pub Runs : Bound → (x : ℤ) → List ℤ → Type 0
Runs b x [] = Holds b x
Runs b x (y ∷ ys) = Holds b x × Falls b x y × Runs b y ys
