-- Elements of products, factor by factor.
use Rattle.std.proofs.Common.{◌≡◌, ℕ, suc, ◌-◌, ◌/◌, ◌%◌, ◌^◌, ◌<◌, arith, sym, ap, ◌∙◌}
use Rattle.linear.specs.Products.{unpacked}
use Rattle.linear.proofs.Factors.{unpacked_none}
use Rattle.domain.specs.declared.Domain.{Ghosts}
use Rattle.walk_trees.specs.Held.{elements_from, elements_of_factors}
use Rattle.two_thread.proofs.Shifting.{next}

module _ {E : Type 0} (g : Ghosts E) (of : ℕ → E) where
  pub first_factor : (n : ℕ) (x : E) → 0 < n % 2 ^ 20 → x ≡ of (n % 2 ^ 20 - 1) → elements_from g of x (unpacked 2 (n / 2 ^ 20)) ≡ elements_of_factors g of (unpacked 3 n)
  first_factor n x h e = ap (λ y. elements_from g of y (unpacked 2 (n / 2 ^ 20))) e ∙ sym (ap (elements_of_factors g of) (next 3 2 n (omega arith) h))

  pub last_factor : (so_far : E) (most n : ℕ) (all : E) → n % 2 ^ 20 ≡ 0 → elements_from g of so_far (unpacked most n) ≡ all → so_far ≡ all
  last_factor so_far most n all h k = sym (ap (elements_from g of so_far) (unpacked_none most n h)) ∙ k

  pub next_factor : (so_far : E) (most less n : ℕ) (x y all : E) → most ≡ suc less → 0 < n % 2 ^ 20 → x ≡ of (n % 2 ^ 20 - 1) → y ≡ g.mul_of so_far x → elements_from g of so_far (unpacked most n) ≡ all → elements_from g of y (unpacked less (n / 2 ^ 20)) ≡ all
  next_factor so_far most less n x y all m h e p k =
      ap (λ z. elements_from g of z (unpacked less (n / 2 ^ 20))) (p ∙ ap (g.mul_of so_far) e) ∙ sym (ap (elements_from g of so_far) (next most less n m h)) ∙ k
