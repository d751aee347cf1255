-- What an update changes.
use Rattle.std.proofs.Common.{◌≡◌, ◌≢◌, ℕ, ℤ, Bool, true, false, cond, ◌&&◌, nat_eq, refl, arith, eqb-true, eq-eqb}
use Rattle.std.proofs.lemmas.Bool.Decides.{nat_tests}
use Rattle.semantics.specs.Memory.{Cell, Memory, same_cell, put}
use Rattle.semantics.specs.Item.{Item}
use Rattle.semantics.specs.World.{put_item}

pub put_item-same : (i : ℕ) (it : Item) (items : ℕ → Item) → put_item i it items i ≡ it
unfolding put_item
put_item-same i it items = rw (eq-eqb i i refl) refl

pub put_item-other : (i j : ℕ) (it : Item) (items : ℕ → Item) → j ≢ i → put_item i it items j ≡ items j
unfolding put_item
put_item-other i j it items ne = grind (arith, nat_tests)

pub same_cell-refl : (c : Cell) → same_cell c c ≡ true
same_cell-refl c = rw (eq-eqb c.owner c.owner refl, eq-eqb c.array c.array refl, eq-eqb c.index c.index refl) refl

three : (a b c : Bool) → (a && (b && c)) ≡ true → (a ≡ true) × (b ≡ true) × (c ≡ true)
three true true true h = (refl, refl, refl)
three true true false h = cc
three true false c h = cc
three false b c h = cc

pub same_cell-is : (c d : Cell) → same_cell c d ≡ true → c ≡ d
same_cell-is c d h =
    let e = three (nat_eq c.owner d.owner) (nat_eq c.array d.array) (nat_eq c.index d.index) h in
    let o : c.owner ≡ d.owner = eqb-true c.owner d.owner e.0 in
    let a : c.array ≡ d.array = eqb-true c.array d.array e.1 in
    let k : c.index ≡ d.index = eqb-true c.index d.index e.2 in
    λ i. record { owner = o i; array = a i; index = k i }

pub put-same : (c : Cell) (v : ℤ) (m : Memory) → put c v m c ≡ v
unfolding put
put-same c v m = rw (same_cell-refl c) refl

put_by : (b : Bool) (v x : ℤ) → (b ≡ true → ⊥) → cond b v x ≡ x
put_by true v x h = absurd (h refl)
put_by false v x h = refl

pub put-other : (c d : Cell) (v : ℤ) (m : Memory) → d ≢ c → put c v m d ≡ m d
unfolding put
put-other c d v m ne = put_by (same_cell d c) v (m d) (λ h. ne (same_cell-is d c h))
