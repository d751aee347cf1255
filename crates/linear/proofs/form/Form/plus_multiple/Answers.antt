use Rattle.linear.proofs.Results.{rising_combined}
use Rattle.linear.proofs.form.Form.plus_multiple.Goals as goal

pub invariant_of-result-clause-rising : goal.invariant_of-result-clause-rising
invariant_of-result-clause-rising c = rising_combined _ c.in_ok-terms.terms.terms.items _ _ _ _ c.in_ok-terms.ensures.exact c.as_slice.ensures c.as_slice-2.ensures c.args.self.now.rising c.args.other.now.rising
