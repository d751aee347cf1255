use Rattle.std.proofs.Common.{◌≡◌, List, length, map, refl, sym, ◌∙◌, rules}
use Rattle.std.specs.Prelude.{ℤ}
use Rattle.host_launches.proofs.asking.met.Goals as goal

pub returns-in-Ok-clause-met : goal.returns-in-Ok-clause-met
returns-in-Ok-clause-met c = λ ok bs f m lengths held.
    let same : c.deref.result.now ≡ c.args.asked.now.lengths.items = search rules in
    c.in-Ok.ensures.met refl bs f m (lengths ∙ sym same) held
