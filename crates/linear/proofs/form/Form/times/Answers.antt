use Rattle.std.proofs.lemmas.Int.{to_z-of_z}
use Rattle.linear.specs.Forms.{form}
use Rattle.linear.proofs.Results.{if_valued, value_alone}
use Rattle.linear.proofs.form.Form.times.Goals as goal

pub returns-clause-value : goal.returns-clause-value
returns-clause-value c =
    let fk = c.ranges.k in
    if_valued c.plus_multiple.result _ _ (value_alone c.args.k (form c.constant-none.result) (form c.args.self.now) c.constant-none.ensures) (simp to_z-of_z at c.plus_multiple.ensures.exact)
