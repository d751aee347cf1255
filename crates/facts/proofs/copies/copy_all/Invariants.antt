use Rattle.std.proofs.Common.{◌≡◌, ◌++◌, drop}
use Rattle.linear.specs.Forms.{forms}
use Rattle.facts.proofs.copies.copy_all.Given as goal

abbrev pub invariant-loop-fact : goal.invariant-loop-fact
invariant-loop-fact l = forms l.facts.items ++ forms (drop l.fact-index l.more) ≡ forms l.fn.facts.items ++ forms l.more
