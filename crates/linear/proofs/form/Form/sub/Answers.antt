use Rattle.linear.specs.Forms.{form}
use Rattle.linear.proofs.Results.{if_valued, value_difference}
use Rattle.linear.proofs.form.Form.sub.Goals as goal

pub returns-clause-value : goal.returns-clause-value
returns-clause-value c = if_valued c.plus_multiple.result _ _ (value_difference (form c.args.self.now) (form c.args.other.now)) c.plus_multiple.ensures.exact
