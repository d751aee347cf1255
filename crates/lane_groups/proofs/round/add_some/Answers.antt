use Rattle.std.proofs.Common.{◌++◌, ◌∙◌, cond, nat_eq, sym, ap}
use Rattle.semantics.specs.Rounds.{log_of}
use Rattle.lane_groups.specs.Owns.{own_in}
use Rattle.lane_groups.specs.Strips.{one_of}
use Rattle.lane_groups.proofs.Storing.{nothing_more}
use Rattle.lane_groups.proofs.round.add_some.Goals as goal

pub returns-in_ok-add-clause-own : goal.returns-in_ok-add-clause-own
returns-in_ok-add-clause-own c = λ k.
    let f = own_in c.args.own.now.items in
    let n = c.args.lane in
    c.in_ok-add.ensures.own k ∙ ap (λ o. log_of (cond (nat_eq k n) (f n ++ one_of o) (f k))) (sym c.in-Some.is)

pub returns-in_default-clause-own : goal.returns-in_default-clause-own
returns-in_default-clause-own c = λ k.
    let f = own_in c.args.own.now.items in
    let n = c.args.lane in
    ap log_of (nothing_more f k n ∙ ap (λ o. cond (nat_eq k n) (f n ++ one_of o) (f k)) (sym c.in_default.is))
