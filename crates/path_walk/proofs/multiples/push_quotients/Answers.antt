use Rattle.linear.specs.Forms.{forms}
use Rattle.facts.proofs.Unmade.{handed}
use Rattle.path_walk.proofs.QuotientFacts.{both_said, first_unsaid}
use Rattle.path_walk.proofs.multiples.push_quotients.Goals as goal

pub returns : goal.returns
returns c = both_said (forms c.args.into.now.items) (forms c.push_congruences.new.into.items) (forms c.push_multiples.new.into.items) c.args.congruences.now c.args.multiples.now c.quotients.result c.push_multiples.result c.in_ok-push_congruences.ensures c.quotients.ensures.exact c.push_multiples.ensures

pub returns-in_err-push_congruences : goal.returns-in_err-push_congruences
returns-in_err-push_congruences c =
    let e = c.in_err-push_congruences.field-0.0 in
    handed c.from_residual.result e _ _ c.from_residual.ensures (first_unsaid e (forms c.args.into.now.items) c.args.congruences.now c.args.multiples.now c.in_err-push_congruences.ensures)
