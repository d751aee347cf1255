use Rattle.std.proofs.Common.{rules, SFits, w64}
use Rattle.linear.proofs.Lists.{kept, kept_fits}
use Rattle.linear.proofs.term.keep.Goals as goal

pub returns-clause-kept : goal.returns-clause-kept
returns-clause-kept c = kept _ _ c.args.t c.in_ok-push.ensures

pub returns-clause-fits : goal.returns-clause-fits
returns-clause-fits c =
    let f : SFits w64 c.args.t.coefficient = search rules in
    kept_fits _ _ c.args.t c.in_ok-push.ensures f
