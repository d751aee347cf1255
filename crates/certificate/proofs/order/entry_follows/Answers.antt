use Rattle.std.proofs.Common.{◌≡◌, ◌+◌, ◌-◌, length, sym, arith}
use Rattle.certificate_text.specs.Drafts as drafting
use Rattle.certificate.specs.View as view
use Rattle.certificate.proofs.Last.{last_follows}
use Rattle.certificate.proofs.order.entry_follows.Goals as goal

pub returns-in-Some : goal.returns-in-Some
returns-in-Some c =
    let some = c.in-Some.ensures.item in
    let count : (length c.args.entries.now - 1) + 1 ≡ length c.args.entries.now = omega (arith, some.3.0) in
    sym (last_follows drafting.entry_is_behind view.entry c.args.entries.now (length c.args.entries.now - 1) c.in-Some.last.now c.args.obligation count some.1)
