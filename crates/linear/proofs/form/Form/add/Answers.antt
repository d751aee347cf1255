use Rattle.std.proofs.Common.{◌≡◌, true, false, IfOk, OnOk, IsErrOf, subst}
use Rattle.linear.specs.Exact.{fits}
use Rattle.linear.specs.Forms.{form}
use Rattle.linear.specs.declared.form.LinearError.TheVariants.{TooLarge}
use Rattle.linear.proofs.Results.{once, if_valued, value_sum}
use Rattle.linear.proofs.form.Form.add.Goals as goal

pub returns-clause-exact : goal.returns-clause-exact
returns-clause-exact c = subst (λ g. IfOk c.plus_multiple.result (λ f. form f ≡ g)) (once (form c.args.self.now) c.args.other.now) c.plus_multiple.ensures.exact

pub returns-clause-value : goal.returns-clause-value
returns-clause-value c = if_valued c.plus_multiple.result _ _ (value_sum (form c.args.self.now) (form c.args.other.now)) (returns-clause-exact c)

pub returns-clause-fits : goal.returns-clause-fits
returns-clause-fits c = subst (λ g. OnOk c.plus_multiple.result (fits g ≡ true)) (once (form c.args.self.now) c.args.other.now) c.plus_multiple.ensures.fits

pub returns-clause-too_large : goal.returns-clause-too_large
returns-clause-too_large c = subst (λ g. IsErrOf c.plus_multiple.result TooLarge → fits g ≡ false) (once (form c.args.self.now) c.args.other.now) c.plus_multiple.ensures.too_large
