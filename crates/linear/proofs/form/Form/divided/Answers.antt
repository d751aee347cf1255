use Rattle.std.proofs.Common.{rules, SFits, w64}
use Rattle.std.proofs.lemmas.Int.{to_z-of_z}
use Rattle.linear.proofs.Results.{rising_quotient, met_quotient}
use Rattle.linear.proofs.form.Form.divided.Goals as goal

pub invariant_of-result-clause-rising : goal.invariant_of-result-clause-rising
invariant_of-result-clause-rising c =
    let fd : SFits w64 c.args.divisor = search rules in
    let e = rw c.in-Some.is at c.in_ok-terms.ensures in
    let f = simp to_z-of_z at e in
    rising_quotient c.args.divisor c.in-Some.terms.terms.items _ _ c.requires f.0 f.1 c.as_slice.ensures c.args.self.now.rising

pub returns-clause-met : goal.returns-clause-met
returns-clause-met c =
    let fd : SFits w64 c.args.divisor = search rules in
    let fx : SFits w64 c.args.self.now.constant = search rules in
    let fb : SFits w64 c.div_euclid-constant.result = search rules in
    let e = rw c.in-Some.is at c.in_ok-terms.ensures in
    let f = simp to_z-of_z at e in
    let h = simp to_z-of_z at c.div_euclid-constant.ensures in
    λ v. simp to_z-of_z (met_quotient v c.args.divisor c.in-Some.terms.terms.items _ _ _ _ c.requires f.0 f.1 c.as_slice.ensures h)
