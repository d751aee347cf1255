use Rattle.std.proofs.Common.{◌≡◌, drop, map}
use Rattle.walk_trees.specs.Held.{latest}
use Rattle.path_steps.specs.View.{narrowed_seen}
use Rattle.path_steps.proofs.marks.latest.Given as goal

abbrev pub invariant-loop-one : goal.invariant-loop-one
invariant-loop-one g l = latest l.element (map narrowed_seen (drop l.one-index l.narrowed)) l.symbol.number ≡ latest l.fn.found (map narrowed_seen l.narrowed) l.symbol.number
