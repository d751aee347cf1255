use Rattle.std.proofs.Common.{◌≡◌, ◌++◌, ◌+◌, drop, map}
use Rattle.linear.specs.Forms.{forms}
use Rattle.obligations.specs.View.{multiple}
use Rattle.obligations.specs.Roots.{multiple_facts}
use Rattle.path_walk.proofs.multiples.push_multiples.Given as goal

abbrev pub invariant-loop-index : goal.invariant-loop-index
invariant-loop-index l = forms l.into.items ++ multiple_facts (l.before + l.index) (map multiple (drop l.index l.multiples)) ≡ forms l.fn.into.items ++ multiple_facts l.before (map multiple l.multiples)
