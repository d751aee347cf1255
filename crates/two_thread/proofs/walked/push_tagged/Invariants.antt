use Rattle.std.proofs.Common.{◌≡◌, ◌++◌, map}
use Rattle.two_thread.specs.Spread.{tag}
use Rattle.two_thread.proofs.walked.push_tagged.Given as goal

abbrev pub invariant-loop-path : goal.invariant-loop-path
invariant-loop-path g l = l.found.items ++ map (tag l.anchor l.is_head) l.path-iterator.rest.items ≡ l.fn.found.items ++ map (tag l.anchor l.is_head) l.fn.paths.items
