use Rattle.linear.proofs.Results.{rising_without}
use Rattle.linear.proofs.form.Form.without.Goals as goal

pub invariant_of-result-clause-rising : goal.invariant_of-result-clause-rising
invariant_of-result-clause-rising c = rising_without _ c.in_ok-terms.terms.terms.items _ _ c.in_ok-terms.ensures.exact c.as_slice.ensures c.args.self.now.rising
