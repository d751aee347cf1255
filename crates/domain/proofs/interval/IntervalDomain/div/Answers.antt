use Rattle.std.proofs.Common.{rules, ◌∙◌}
use Rattle.std.specs.Prelude.{cond}
use Rattle.std.specs.Int.{w128}
use Rattle.std.specs.Int.RustNames.{FitsSigned}
use Rattle.std.proofs.lemmas.Int.{to_z-of_z}
use Rattle.domain.specs.Ends.{all, is_zero, quotients, first_divisor, last_divisor}
use Rattle.domain.proofs.Widths.{four, divided}
use Rattle.domain.proofs.interval.IntervalDomain.div.Goals as goal

pub returns : goal.returns
returns c =
    let f1 : FitsSigned w128 c.wide-low.result.0 = search rules in
    let f2 : FitsSigned w128 c.wide-low.result.1 = search rules in
    let f3 : FitsSigned w128 c.wide-other_low.result.0 = search rules in
    let f4 : FitsSigned w128 c.wide-other_low.result.1 = search rules in
    let f5 : FitsSigned w128 c.first_nonzero-first.result = search rules in
    let f6 : FitsSigned w128 c.last_nonzero-last.result = search rules in
    divided c.quotients.result c.wide-low.result.0 c.wide-low.result.1 c.wide-other_low.result.0 c.wide-other_low.result.1 c.first_nonzero-first.result c.last_nonzero-last.result c.is_zero.result
    c.if-is_zero.false (simp to_z-of_z at c.is_zero.ensures.value) (simp to_z-of_z at c.first_nonzero-first.ensures.value) (simp to_z-of_z at c.last_nonzero-last.ensures.value) (simp to_z-of_z at c.quotients.ensures)
    ∙ four (λ p q s t. cond (is_zero s t) all (quotients p q (first_divisor s t) (last_divisor s t))) _ _ _ _ _ _ _ _ c.wide-low.ensures.low c.wide-low.ensures.high c.wide-other_low.ensures.low c.wide-other_low.ensures.high
