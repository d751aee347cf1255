use Rattle.std.proofs.Common.{rules, SFits, w64}
use Rattle.std.proofs.lemmas.Int.{to_z-of_z}
use Rattle.linear.specs.Forms.{form}
use Rattle.linear.proofs.Results.{if_valued, value_substituted}
use Rattle.linear.proofs.form.Form.substitute.Goals as goal

pub returns-clause-value : goal.returns-clause-value
returns-clause-value c =
    let fk : SFits w64 c.coefficient.result = search rules in
    if_valued c.plus_multiple.result _ _ (value_substituted c.args.symbol.number c.args.self.now c.coefficient.result (form c.in_ok-rest.rest) (form c.args.other.now) c.in_ok-rest.ensures c.coefficient.ensures) (simp to_z-of_z at c.plus_multiple.ensures.exact)
