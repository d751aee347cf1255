use Rattle.std.proofs.lemmas.Int.{to_z-of_z}
use Rattle.std.specs.Int.{w64}
use Rattle.domain.proofs.linear.Goals as goal

pub returns-clause-holds : goal.returns-clause-holds
returns-clause-holds g c = λ x h.
    let l = g.met.D.Domain in
    rw (c.add.ensures, c.mul.ensures, c.of.ensures, c.of-2.ensures, to_z-of_z w64 c.args.factor c.ranges.factor, to_z-of_z w64 c.args.constant c.ranges.constant)
    (l.add_holds _ _ _ _ (l.mul_holds _ _ _ _ (l.number_holds _) h) (l.number_holds _))
