use Rattle.std.proofs.Common.{rules, arith, ◌+◌, ◌^◌}
use Rattle.std.specs.Prelude.{◌*ℤ◌}
use Rattle.std.specs.Int.{w128}
use Rattle.std.specs.Int.RustNames.{FitsSigned}
use Rattle.std.proofs.lemmas.Int.{fits_signed_mul, to_z-of_z}
use Rattle.domain.proofs.interval.product.Goals as goal

pub returns : goal.returns
returns c =
    let f : FitsSigned w128 (c.args.a *ℤ c.args.b) = fits_signed_mul w128 c.args.a c.args.b (2 ^ 63 + 1) (2 ^ 63 + 1) c.requires.first c.requires.second (omega arith) in
    let a : FitsSigned w128 c.args.a = search rules in
    let b : FitsSigned w128 c.args.b = search rules in
    simp to_z-of_z
