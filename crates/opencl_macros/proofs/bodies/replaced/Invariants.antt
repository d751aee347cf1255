use Rattle.std.proofs.Common.{◌≡◌, drop}
use Rattle.opencl_tokens.specs.Seen.{site}
use Rattle.opencl_macros.specs.Bodies.{replaced, begun, supply}
use Rattle.opencl_macros.specs.Seen.{arguments, filled_seen, macro, tokens_seen}
use Rattle.opencl_macros.proofs.bodies.replaced.Given as goal

abbrev pub invariant-loop-i : goal.invariant-loop-i
invariant-loop-i l =
    replaced (site l.site) (macro l.used).parameters (supply (arguments l.given) (arguments l.expanded)) (filled_seen l.filled)
    (tokens_seen (drop l.i l.used.body.now))
    ≡ replaced (site l.site) (macro l.used).parameters (supply (arguments l.given) (arguments l.expanded)) (begun l.initial.left)
    (macro l.used).body
