use Rattle.std.proofs.Common.{rules, ◌≡◌, ◌++◌, ◌<◌, ◌∷◌, [], arith}
use Rattle.words.specs.View.{word}
use Rattle.host_launches.proofs.Steps.{components_step, pushed}
use Rattle.host_launches.proofs.numbers.push_components.Goals as goal

pub loop-place-preserved : goal.loop-place-preserved
loop-place-preserved c =
    let within : c.loop-place.place < c.args.of.width = omega arith in
    let grown : c.push.new.self.items ≡ c.loop-place.found.items ++ c.component.result ∷ [] = search rules in
    pushed word _ _ _ _ _ _ _ grown c.component.ensures (components_step _ _ _ _ within) c.loop-place.invariant
