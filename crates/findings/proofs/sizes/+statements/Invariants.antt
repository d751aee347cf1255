use Rattle.std.proofs.Common.{◌≡◌, drop}
use Rattle.core_code.specs.View.{site, statements}
use Rattle.findings.specs.Sizes.{have_size}
use Rattle.findings.proofs.sizes.+statements.Given as goal

abbrev pub invariant-have_size-loop-statement : goal.invariant-have_size-loop-statement
invariant-have_size-loop-statement l = have_size (site l.at) (statements (drop l.statement-index l.body)) ≡ have_size (site l.at) (statements l.body)
