use Rattle.std.proofs.Common.{ap, ◌∙◌}
use Rattle.std.specs.Prelude.{pos}
use Rattle.facts.specs.Symbols.{constant}
use Rattle.facts.proofs.Unmade.{handed}
use Rattle.obligations.specs.Walking.{never}
use Rattle.path_steps.specs.Paths.{with_ranked}
use Rattle.path_steps.specs.View.{followed}
use Rattle.arrival_claims.proofs.Rankings.{noted, not_noted}
use Rattle.arrival_claims.proofs.ranking.never_entered.Goals as goal

pub returns : goal.returns
returns g c =
    let l = followed c.args.path.now in
    let m = followed c.claim_never.new.path in
    noted never c.args.number (constant (pos 0)) l m (followed c.rank.new.self) c.in_ok-claim_never.ensures (c.in_ok-rank.ensures ∙ ap (with_ranked m c.args.number) c.constant.ensures)

pub returns-in_err-claim_never : goal.returns-in_err-claim_never
returns-in_err-claim_never g c =
    let l = followed c.args.path.now in
    handed c.from_residual.result c.in_err-claim_never.field-0.0 _ _ c.from_residual.ensures (not_noted never c.args.number (constant (pos 0)) l c.in_err-claim_never.field-0.0 c.in_err-claim_never.ensures)
