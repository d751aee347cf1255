use Rattle.std.proofs.Common.{rules, ◌≡◌, ◌++◌, ◌<◌, ◌∷◌, [], arith}
use Rattle.words.specs.View.{kind}
use Rattle.host_launches.proofs.Steps.{kinds_step, pushed}
use Rattle.host_launches.proofs.kinds.push_components.Goals as goal

pub loop-preserved : goal.loop-preserved
loop-preserved c =
    let within : c.loop.counter < c.args.of.width = omega arith in
    let grown : c.push.new.self.items ≡ c.loop.found.items ++ c.kind.result ∷ [] = search rules in
    pushed kind _ _ _ _ _ _ _ grown c.kind.ensures (kinds_step _ _ _ within) c.loop.invariant
