use Rattle.std.proofs.Common.{◌≡◌, ◌+◌, ◌-◌, length, sym, arith, rules, SFits, w64, to_z-of_z}
use Rattle.certificate_text.specs.Lines as meaning
use Rattle.certificate.specs.View as view
use Rattle.certificate.proofs.Last.{last_follows}
use Rattle.certificate.proofs.order.part_follows.Goals as goal

pub returns-in-Some : goal.returns-in-Some
returns-in-Some c =
    let f : SFits w64 c.in-Some.before.now.line = search rules in
    let g : SFits w64 c.args.part.line = search rules in
    let some = c.in-Some.ensures.item in
    let count : (length c.args.parts.now - 1) + 1 ≡ length c.args.parts.now = omega (arith, some.3.0) in
    simp to_z-of_z (sym (last_follows meaning.line_is_before view.scaled c.args.parts.now (length c.args.parts.now - 1) c.in-Some.before.now (view.scaled c.args.part) count some.1))
