use Rattle.linear.specs.Forms.{form}
use Rattle.facts.proofs.Unmade.{handed}
use Rattle.path_steps.specs.View.{followed, setting as seen}
use Rattle.path_steps.proofs.Joining.{apart_told, net_stops, excesses_stop}
use Rattle.path_steps.proofs.joins.tell_apart.Goals as goal

pub returns : goal.returns
returns g c = apart_told (seen g.D.Domain c.args.setting.now) (form c.args.more.now) (form c.args.less.now) (form c.in_ok-first.first) (form c.in_ok-first.second) (form c.in_ok-net.net) (followed c.args.path.now) (followed c.invent_excesses.new.path) (followed c.know_equal.new.path) (followed c.know_apart.new.path) c.know_apart.result c.in_ok-first.ensures.leads c.in_ok-net.ensures c.in_ok-know_equal.ensures c.know_apart.ensures

pub returns-in_err-first : goal.returns-in_err-first
returns-in_err-first g c =
    let k = excesses_stop (seen g.D.Domain c.args.setting.now) (form c.args.more.now) (form c.args.less.now) (followed c.args.path.now) c.in_err-first.field-0.0 c.in_err-first.ensures.leads in
    handed c.from_residual.result c.in_err-first.field-0.0 _ _ c.from_residual.ensures k

pub returns-in_err-know_equal : goal.returns-in_err-know_equal
returns-in_err-know_equal g c =
    let k = net_stops (seen g.D.Domain c.args.setting.now) (form c.args.more.now) (form c.args.less.now) (form c.in_ok-first.first) (form c.in_ok-first.second) (form c.in_ok-net.net) (followed c.args.path.now) (followed c.invent_excesses.new.path) c.in_err-know_equal.field-0.0 c.in_ok-first.ensures.leads c.in_ok-net.ensures c.in_err-know_equal.ensures in
    handed c.from_residual-in_err-know_equal.result c.in_err-know_equal.field-0.0 _ _ c.from_residual-in_err-know_equal.ensures k
