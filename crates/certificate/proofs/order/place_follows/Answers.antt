use Rattle.std.proofs.Common.{◌≡◌, ◌+◌, ◌-◌, length, sym, ◌∙◌, arith}
use Rattle.certificate_text.specs.Drafts as drafting
use Rattle.certificate.specs.View as view
use Rattle.certificate.proofs.Last.{last_follows}
use Rattle.certificate.proofs.order.place_follows.Goals as goal

pub returns-in-Some : goal.returns-in-Some
returns-in-Some c =
    let some = c.in-Some.ensures.item in
    let count : (length c.args.places.now - 1) + 1 ≡ length c.args.places.now = omega (arith, some.3.0) in
    c.spot_is_before.ensures ∙ sym (last_follows drafting.place_is_behind view.place c.args.places.now (length c.args.places.now - 1) c.in-Some.last.now (view.spot c.args.spot) count some.1)
