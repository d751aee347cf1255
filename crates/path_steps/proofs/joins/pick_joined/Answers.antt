use Rattle.words.specs.View.{kind}
use Rattle.linear.specs.Forms.{form}
use Rattle.facts.proofs.Unmade.{handed}
use Rattle.path_steps.specs.View.{followed, setting as seen}
use Rattle.path_steps.proofs.Joining.{picked_stops, picked_excesses_stop, near_stops, far_stops, pick_leads}
use Rattle.path_steps.proofs.joins.pick_joined.Goals as goal

pub returns : goal.returns
returns g c = pick_leads (seen g.D.Domain c.args.setting.now) c.args.is_greater (kind c.args.left.now.kind) (form c.args.left.now.form) (form c.args.right.now.form) (form c.args.apart.now.more) (form c.args.apart.now.less) c.requires.more c.requires.less c.picked_element-element.result (followed c.args.path.now) c.picked_element-element.ensures (form c.in_ok-picked.picked) (followed c.invent.new.path) c.in_ok-picked.ensures.leads (form c.in_ok-first.first) (form c.in_ok-first.second) (followed c.invent_excesses.new.path) c.in_ok-first.ensures.leads (form c.nearer-near.result.now) (form c.nearer-far.result.now) (form c.in_ok-by_first.by_first) (form c.in_ok-by_second.by_second) c.nearer-near.ensures c.nearer-far.ensures c.in_ok-by_first.ensures c.in_ok-by_second.ensures (followed c.know_equal.new.path) (followed c.know_equal-2.new.path) c.in_ok-know_equal.ensures c.in_ok-know_equal-2.ensures

pub returns-in_err-picked : goal.returns-in_err-picked
returns-in_err-picked g c =
    let k = picked_stops (seen g.D.Domain c.args.setting.now) c.args.is_greater (kind c.args.left.now.kind) (form c.args.left.now.form) (form c.args.right.now.form) (form c.args.apart.now.more) (form c.args.apart.now.less) c.requires.more c.requires.less c.picked_element-element.result (followed c.args.path.now) c.picked_element-element.ensures c.in_err-picked.field-0.0 c.in_err-picked.ensures.leads in
    handed c.from_residual.result c.in_err-picked.field-0.0 _ _ c.from_residual.ensures k

pub returns-in_err-first : goal.returns-in_err-first
returns-in_err-first g c =
    let k = picked_excesses_stop (seen g.D.Domain c.args.setting.now) c.args.is_greater (kind c.args.left.now.kind) (form c.args.left.now.form) (form c.args.right.now.form) (form c.args.apart.now.more) (form c.args.apart.now.less) c.requires.more c.requires.less c.picked_element-element.result (followed c.args.path.now) c.picked_element-element.ensures (form c.in_ok-picked.picked) (followed c.invent.new.path) c.in_ok-picked.ensures.leads c.in_err-first.field-0.0 c.in_err-first.ensures.leads in
    handed c.from_residual-in_err-first.result c.in_err-first.field-0.0 _ _ c.from_residual-in_err-first.ensures k

pub returns-in_err-know_equal : goal.returns-in_err-know_equal
returns-in_err-know_equal g c =
    let k = near_stops (seen g.D.Domain c.args.setting.now) c.args.is_greater (kind c.args.left.now.kind) (form c.args.left.now.form) (form c.args.right.now.form) (form c.args.apart.now.more) (form c.args.apart.now.less) c.requires.more c.requires.less c.picked_element-element.result (followed c.args.path.now) c.picked_element-element.ensures (form c.in_ok-picked.picked) (followed c.invent.new.path) c.in_ok-picked.ensures.leads (form c.in_ok-first.first) (form c.in_ok-first.second) (followed c.invent_excesses.new.path) c.in_ok-first.ensures.leads (form c.nearer-near.result.now) (form c.nearer-far.result.now) (form c.in_ok-by_first.by_first) (form c.in_ok-by_second.by_second) c.nearer-near.ensures c.nearer-far.ensures c.in_ok-by_first.ensures c.in_ok-by_second.ensures c.in_err-know_equal.field-0.0 c.in_err-know_equal.ensures in
    handed c.from_residual-in_err-know_equal.result c.in_err-know_equal.field-0.0 _ _ c.from_residual-in_err-know_equal.ensures k

pub returns-in_err-know_equal-2 : goal.returns-in_err-know_equal-2
returns-in_err-know_equal-2 g c =
    let k = far_stops (seen g.D.Domain c.args.setting.now) c.args.is_greater (kind c.args.left.now.kind) (form c.args.left.now.form) (form c.args.right.now.form) (form c.args.apart.now.more) (form c.args.apart.now.less) c.requires.more c.requires.less c.picked_element-element.result (followed c.args.path.now) c.picked_element-element.ensures (form c.in_ok-picked.picked) (followed c.invent.new.path) c.in_ok-picked.ensures.leads (form c.in_ok-first.first) (form c.in_ok-first.second) (followed c.invent_excesses.new.path) c.in_ok-first.ensures.leads (form c.nearer-near.result.now) (form c.nearer-far.result.now) (form c.in_ok-by_first.by_first) (form c.in_ok-by_second.by_second) c.nearer-near.ensures c.nearer-far.ensures c.in_ok-by_first.ensures c.in_ok-by_second.ensures (followed c.know_equal.new.path) c.in_err-know_equal-2.field-0.0 c.in_ok-know_equal.ensures c.in_err-know_equal-2.ensures in
    handed c.from_residual-in_err-know_equal-2.result c.in_err-know_equal-2.field-0.0 _ _ c.from_residual-in_err-know_equal-2.ensures k
