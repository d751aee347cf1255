use Rattle.std.proofs.Common.{◌≡◌, ◌++◌, drop, map}
use Rattle.launch.specs.View.{content}
use Rattle.facts.specs.Launching as launching
use Rattle.facts.specs.View.{buffer_bound}
use Rattle.facts.proofs.contents.push_bounds.Given as goal

abbrev pub invariant-loop-line : goal.invariant-loop-line
invariant-loop-line l = map buffer_bound l.bounds.items ++ map launching.buffer_bound (map content (drop l.line-index l.lines)) ≡ map buffer_bound l.fn.bounds.items ++ map launching.buffer_bound (map content l.lines)
