use Rattle.std.proofs.Common.{◌≡◌, drop}
use Rattle.texts.specs.Limits as limits
use Rattle.syntax.specs.View.{statements}
use Rattle.parser.proofs.depth.+statements_limit.Given as goal

abbrev pub invariant-deep_statements-loop-s : goal.invariant-deep_statements-loop-s
invariant-deep_statements-loop-s l = limits.deep_statements l.depth (statements (drop l.s-index l.body)) ≡ limits.deep_statements l.depth (statements l.body)
