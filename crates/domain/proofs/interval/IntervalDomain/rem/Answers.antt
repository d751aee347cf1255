use Rattle.std.proofs.Common.{rules, ◌∙◌}
use Rattle.std.specs.Prelude.{pos, neg_ℤ, ◌-ℤ◌, cond}
use Rattle.std.specs.Int.{w128, int_max}
use Rattle.std.specs.Int.RustNames.{FitsSigned}
use Rattle.std.proofs.lemmas.Int.{to_z-of_z}
use Rattle.domain.specs.Ends.{all, is_zero, remainders}
use Rattle.domain.proofs.Widths.{four, remained}
use Rattle.domain.proofs.interval.IntervalDomain.rem.Goals as goal

pub returns : goal.returns
returns c =
    let f1 : FitsSigned w128 c.wide-low.result.0 = search rules in
    let f2 : FitsSigned w128 c.wide-low.result.1 = search rules in
    let f3 : FitsSigned w128 c.wide-other_low.result.0 = search rules in
    let f4 : FitsSigned w128 c.wide-other_low.result.1 = search rules in
    let f5 : FitsSigned w128 c.greatest_size-most.result = search rules in
    let f6 : FitsSigned w128 c.least_remainder.result = search rules in
    let f7 : FitsSigned w128 c.greatest_remainder.result = search rules in
    remained c.between.result c.wide-low.result.0 c.wide-low.result.1 c.wide-other_low.result.0 c.wide-other_low.result.1 c.greatest_size-most.result c.least_remainder.result c.greatest_remainder.result c.is_zero.result
    c.if-is_zero.false (simp to_z-of_z at c.is_zero.ensures.value) (simp to_z-of_z at c.greatest_size-most.ensures.value) (simp to_z-of_z at c.least_remainder.ensures.value) (simp to_z-of_z at c.greatest_remainder.ensures.value) (simp to_z-of_z at c.between.ensures)
    ∙ four (λ p q s t. cond (is_zero s t) all (remainders p q (int_max (neg_ℤ s) t -ℤ pos 1))) _ _ _ _ _ _ _ _ c.wide-low.ensures.low c.wide-low.ensures.high c.wide-other_low.ensures.low c.wide-other_low.ensures.high
