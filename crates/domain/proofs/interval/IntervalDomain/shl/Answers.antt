use Rattle.std.proofs.Common.{◌≡◌, ◌∙◌, ap}
use Rattle.std.specs.Int.{w64}
use Rattle.std.specs.Int.RustNames.{FitsSigned}
use Rattle.std.proofs.lemmas.Int.{to_z-of_z}
use Rattle.domain.specs.Ends.{span, multiply}
use Rattle.domain.proofs.interval.IntervalDomain.shl.Goals as goal

pub returns : goal.returns
returns c =
    let f : FitsSigned w64 c.power.result = record { sfits = c.power.type_inv } in
    let h : c.of.result ≡ span c.power.result c.power.result = simp to_z-of_z at c.of.ensures in
    c.mul.ensures ∙ ap (multiply c.args.self) (h ∙ ap (λ n. span n n) c.power.ensures)
