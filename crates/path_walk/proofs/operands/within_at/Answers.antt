use Rattle.std.specs.Prelude.{pos}
use Rattle.core_code.specs.View.{site}
use Rattle.facts.specs.Symbols.{constant}
use Rattle.walk_trees.specs.Terms.{in_length}
use Rattle.path_steps.specs.View.{followed, value, setting as seen}
use Rattle.path_walk.proofs.AtSites.{step_leads, step_refused}
use Rattle.path_walk.proofs.operands.within_at.Goals as goal

pub returns : goal.returns
returns g c =
    let s = seen g.D.Domain c.args.setting.now in
    step_leads (in_length s (constant (pos c.args.length)) (value c.args.index).form) (site c.args.site) (value c.args.index) (followed c.args.path.now) (followed c.stand_at.new.path) (followed c.in_length.new.path) c.stand_at.ensures c.in_ok-in_length.ensures

pub returns-in_err-in_length : goal.returns-in_err-in_length
returns-in_err-in_length g c =
    let s = seen g.D.Domain c.args.setting.now in
    step_refused (in_length s (constant (pos c.args.length)) (value c.args.index).form) (site c.args.site) (value c.args.index) (followed c.args.path.now) (followed c.stand_at.new.path) (followed c.in_length.new.path) c.stand_at.ensures value c.from_residual.result c.in_err-in_length.field-0.0 c.from_residual.ensures c.in_err-in_length.ensures
