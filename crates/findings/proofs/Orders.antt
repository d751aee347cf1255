-- Lists of sites that are the same, in one order or in the other.
use Rattle.std.proofs.Common.{◌≡◌, ◌<◌, ◌≤◌, ◌-◌, ℕ, List, length, get_or, reverse, sym, ◌∙◌, arith}
use Rattle.std.proofs.lemmas.List.{ext_get_or, get_or-reverse, length-reverse}
use Rattle.findings.specs.declared.finding.Spot.{Spot}
use Rattle.findings.specs.declared.finding.Spot.TheVariants.{End}

pub same_all : (one other : List Spot) (n : ℕ) → length one ≡ length other → length one ≤ n → ((k : ℕ) → k < n → (d : Spot) → get_or one k d ≡ get_or other k d) → one ≡ other
same_all one other n e l h = ext_get_or End one other e (λ i b. h i (omega (arith, b, l)) End)

pub turned_all : (one other : List Spot) (n : ℕ) → length one ≡ length other → length one ≤ n → ((k : ℕ) → k < n → (d : Spot) → get_or one k d ≡ get_or other (length other - 1 - k) d) → one ≡ reverse other
turned_all one other n e l h = ext_get_or End one (reverse other) (e ∙ sym (length-reverse other)) (λ i b. h i (omega (arith, b, l)) End ∙ sym (get_or-reverse other i End (omega (arith, b, e))))
