use Rattle.std.proofs.Common.{arith}
use Rattle.certificate.specs.EntryCursors.{left}
use Rattle.entry_check.proofs.Supplying.{held_of, held_other}
use Rattle.entry_check.proofs.supply.Supply.at.Goals as goal

pub returns-then-entry-number : goal.returns-then-entry-number
returns-then-entry-number c =
    let s = c.args.self.now in
    held_of s.held c.in-Some.entry (left s.entries.now).entries c.args.number c.in-Some.is c.requires.ready.0.2 c.requires.last (omega (arith, c.if-entry-number.true))

pub returns : goal.returns
returns c =
    let s = c.args.self.now in
    held_other s.held c.in-Some.entry (left s.entries.now).entries c.args.number c.in-Some.is c.requires.ready.0.2 c.requires.passed (λ p. absurd (omega (arith, p, c.if-entry-number.false)))
