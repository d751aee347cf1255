use Rattle.std.proofs.Common.{arith, ◌-◌}
use Rattle.two_thread.proofs.Shifting.{one_more}
use Rattle.two_thread.proofs.seconds.+second_factors.Goals as goal

pub overflow_mul-result : goal.overflow_mul-result
overflow_mul-result k c =
    let p = one_more c.args.most (c.args.most - 1) c.args.packed c.second_factors-others.result (omega arith) c.requires.few (omega arith) c.requires.small c.second_factors-others.ensures in
    omega (arith, p.0)

pub overflow_add-result-2 : goal.overflow_add-result-2
overflow_add-result-2 k c =
    let p = one_more c.args.most (c.args.most - 1) c.args.packed c.second_factors-others.result (omega arith) c.requires.few (omega arith) c.requires.small c.second_factors-others.ensures in
    omega (arith, p.0, p.1, c.shifted.ensures)
