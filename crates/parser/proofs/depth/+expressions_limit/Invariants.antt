use Rattle.std.proofs.Common.{◌≡◌, drop}
use Rattle.texts.specs.Limits as limits
use Rattle.syntax.specs.View.{expressions}
use Rattle.parser.proofs.depth.+expressions_limit.Given as goal

abbrev pub invariant-deep_arguments-loop-argument : goal.invariant-deep_arguments-loop-argument
invariant-deep_arguments-loop-argument l = limits.deep_arguments l.depth (expressions (drop l.argument-index l.arguments)) ≡ limits.deep_arguments l.depth (expressions l.arguments)
