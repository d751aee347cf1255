-- One factor more of a product that is put in a path's terms.
use Rattle.std.proofs.Common.{◌≡◌, ℕ, zero, suc, ◌-◌, ◌/◌, ◌%◌, ◌<◌, List, Option, None, Some, arith, refl, sym, ap, subst, ◌∙◌}
use Rattle.std.specs.Prelude.{MatchOption}
use Rattle.facts.specs.Symbols.{Fact}
use Rattle.linear.specs.Products.{factor_before, unpacked, and_then, product, replaced_factors}
use Rattle.obligations.specs.Replacing.{Replacement}

-- what a clause says of what there is, and of what there is not
pub some_is : {A : Type 0} (X : Type 0) (Y : A → Type 0) (o : Option A) (a : A) → o ≡ Some a → MatchOption o X Y → Y a
some_is X Y o a e h = subst (λ x. MatchOption x X Y) e h

pub none_is : {A : Type 0} (X : Type 0) (Y : A → Type 0) (o : Option A) → o ≡ None → MatchOption o X Y → X
none_is X Y o e h = subst (λ x. MatchOption x X Y) e h

module _ (by : Replacement) (so_far : Fact) where
  behind : (o : Option Fact) (digit : ℕ) (rest : List ℕ) → (digit ≡ 0 → ⊥) → product so_far (by (digit - 1)) ≡ o → and_then o (λ g. replaced_factors by g rest) ≡ replaced_factors by so_far (factor_before digit rest)
  behind o zero rest d e = absurd (d refl)
  behind o (suc a) rest d e =
      let p : a ≡ suc a - 1 = omega arith in
      sym (ap (λ x. and_then x (λ g. replaced_factors by g rest)) (ap (λ x. product so_far (by x)) p ∙ e))

  -- whether the product with the next factor is, or not
  next : (o : Option Fact) (most n : ℕ) → 0 < most → (n % 1048576 ≡ 0 → ⊥) → product so_far (by (n % 1048576 - 1)) ≡ o → and_then o (λ g. replaced_factors by g (unpacked (most - 1) (n / 1048576))) ≡ replaced_factors by so_far (unpacked most n)
  next o zero n l d e = absurd (omega (arith, l))
  next o (suc k) n l d e =
      let p : suc k - 1 ≡ k = omega arith in
      ap (λ m. and_then o (λ g. replaced_factors by g (unpacked m (n / 1048576)))) p ∙ behind o (n % 1048576) (unpacked k (n / 1048576)) d e

  pub next_factor : (g : Fact) (most n : ℕ) → 0 < most → (n % 1048576 ≡ 0 → ⊥) → product so_far (by (n % 1048576 - 1)) ≡ Some g → replaced_factors by g (unpacked (most - 1) (n / 1048576)) ≡ replaced_factors by so_far (unpacked most n)
  next_factor g most n l d e = next (Some g) most n l d e

  pub no_factor : (most n : ℕ) → 0 < most → (n % 1048576 ≡ 0 → ⊥) → product so_far (by (n % 1048576 - 1)) ≡ None → replaced_factors by so_far (unpacked most n) ≡ None
  no_factor most n l d e = sym (next None most n l d e)
