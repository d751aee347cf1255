use Rattle.std.proofs.Common.{rules, ◌≡◌, ◌≤◌, IsTrue, true, length}
use Rattle.findings.proofs.Orders.{turned_all}
use Rattle.findings.proofs.alike.are_turned.Goals as goal

pub returns : goal.returns
returns c =
    let one = c.args.one.now in
    let other = c.args.other.now in
    let e : length one ≡ length other = search rules in
    let l : length one ≤ c.loop-at.at = search rules in
    let t : IsTrue true = search rules in
    (λ _. turned_all one other c.loop-at.at e l c.loop-at.invariant, λ _. t)
