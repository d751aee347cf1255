-- One factor more of a product's element.
use Rattle.std.proofs.Common.{◌≡◌, ℕ, zero, suc, ◌-◌, ◌/◌, ◌%◌, ◌<◌, List, arith, refl, ap, ◌∙◌}
use Rattle.linear.specs.Products.{factor_before, unpacked}
use Rattle.domain.specs.declared.Domain.{Ghosts}
use Rattle.walk_trees.specs.Held.{elements_from}

one_more : {E : Type 0} (g : Ghosts E) (own : ℕ → E) (so_far next : E) (digit : ℕ) (rest : List ℕ) → (digit ≡ 0 → ⊥) → next ≡ own (digit - 1) → elements_from g own (g.mul_of so_far next) rest ≡ elements_from g own so_far (factor_before digit rest)
one_more g own so_far next zero rest d e = absurd (d refl)
one_more g own so_far next (suc a) rest d e =
    let p : suc a - 1 ≡ a = omega arith in
    ap (λ x. elements_from g own (g.mul_of so_far x) rest) (e ∙ ap own p)

pub next_factor : {E : Type 0} (g : Ghosts E) (own : ℕ → E) (so_far next : E) (most n : ℕ) → 0 < most → (n % 1048576 ≡ 0 → ⊥) → next ≡ own (n % 1048576 - 1) → elements_from g own (g.mul_of so_far next) (unpacked (most - 1) (n / 1048576)) ≡ elements_from g own so_far (unpacked most n)
next_factor g own so_far next zero n l d e = absurd (omega (arith, l))
next_factor g own so_far next (suc k) n l d e =
    let p : suc k - 1 ≡ k = omega arith in
    ap (λ m. elements_from g own (g.mul_of so_far next) (unpacked m (n / 1048576))) p ∙ one_more g own so_far next (n % 1048576) (unpacked k (n / 1048576)) d e
