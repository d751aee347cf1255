use Rattle.std.proofs.Common.{◌∙◌}
use Rattle.std.specs.Prelude.{pos}
use Rattle.linear.specs.Exact.{sum}
use Rattle.linear.specs.Forms.{form}
use Rattle.facts.specs.Symbols.{constant, minus}
use Rattle.facts.proofs.Unmade.{handed}
use Rattle.path_steps.specs.View.{followed}
use Rattle.path_steps.proofs.Joining.{one_told, one_unfit, apart_fact, apart_unfit}
use Rattle.path_steps.proofs.joins.know_apart.Goals as goal

pub returns : goal.returns
returns g c =
    let p = form c.args.first.now in
    let q = form c.args.second.now in
    one_told (minus (sum p q) (constant (pos 1))) (form c.in_ok-fact.fact) (followed c.args.path.now) (followed c.know.new.self) (c.in_ok-fact.ensures ∙ apart_fact p q (form c.in_ok-both.both) c.in_ok-both.ensures) c.in_ok-know.ensures

pub returns-in_err-fact : goal.returns-in_err-fact
returns-in_err-fact g c =
    let p = form c.args.first.now in
    let q = form c.args.second.now in
    let e = c.in_err-fact.field-0.0 in
    let k = one_unfit (minus (sum p q) (constant (pos 1))) (followed c.args.path.now) e (apart_unfit p q (form c.in_ok-both.both) c.in_ok-both.ensures e c.in_err-fact.ensures) in
    handed c.from_residual-in_err-fact.result e _ _ c.from_residual-in_err-fact.ensures k
