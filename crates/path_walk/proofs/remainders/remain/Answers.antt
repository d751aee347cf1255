use Rattle.std.proofs.Common.{Bool}
use Rattle.linear.specs.Forms.{form}
use Rattle.words.specs.View.{kind}
use Rattle.facts.proofs.Unmade.{handed}
use Rattle.walk_trees.specs.Operators.{claim_divisor, claim_dividend, remaining}
use Rattle.path_steps.specs.View.{followed, setting as seen}
use Rattle.path_walk.proofs.Operating.{value_behind, stops_before, stops_behind, in_turn, turn_leads, turn_stops, turn_stops_behind}
use Rattle.path_walk.proofs.remainders.remain.Goals as goal

pub returns : goal.returns
returns g c =
    let s = seen g.D.Domain c.args.setting.now in
    let k = kind c.args.kind in
    let x = form c.args.left.now in
    let y = form c.args.right.now in
    let one = claim_dividend s k x y in
    let two = λ (b : Bool). remaining s b k x y in
    let h = turn_leads one two c.in_ok-exactly.exactly (form c.in_ok-form.form) (followed c.claim_divisor.new.path) (followed c.claim_dividend.new.path) (followed c.remaining.new.path) c.in_ok-exactly.ensures.leads c.in_ok-form.ensures in
    value_behind (claim_divisor s k x y) (in_turn one two) k (form c.in_ok-form.form) (followed c.args.path.now) (followed c.claim_divisor.new.path) (followed c.remaining.new.path) c.in_ok-claim_divisor.ensures.steps h

pub returns-in_err-claim_divisor : goal.returns-in_err-claim_divisor
returns-in_err-claim_divisor g c =
    let s = seen g.D.Domain c.args.setting.now in
    let k = kind c.args.kind in
    let x = form c.args.left.now in
    let y = form c.args.right.now in
    let e = c.in_err-claim_divisor.field-0.0 in
    handed c.from_residual.result e _ _ c.from_residual.ensures (stops_before (claim_divisor s k x y) (in_turn (claim_dividend s k x y) (λ (b : Bool). remaining s b k x y)) k (followed c.args.path.now) e c.in_err-claim_divisor.ensures.steps)

pub returns-in_err-exactly : goal.returns-in_err-exactly
returns-in_err-exactly g c =
    let s = seen g.D.Domain c.args.setting.now in
    let k = kind c.args.kind in
    let x = form c.args.left.now in
    let y = form c.args.right.now in
    let e = c.in_err-exactly.field-0.0 in
    let one = claim_dividend s k x y in
    let two = λ (b : Bool). remaining s b k x y in
    let h = turn_stops one two (followed c.claim_divisor.new.path) e c.in_err-exactly.ensures.leads in
    handed c.from_residual-in_err-exactly.result e _ _ c.from_residual-in_err-exactly.ensures (stops_behind (claim_divisor s k x y) (in_turn one two) k (followed c.args.path.now) (followed c.claim_divisor.new.path) e c.in_ok-claim_divisor.ensures.steps h)

pub returns-in_err-form : goal.returns-in_err-form
returns-in_err-form g c =
    let s = seen g.D.Domain c.args.setting.now in
    let k = kind c.args.kind in
    let x = form c.args.left.now in
    let y = form c.args.right.now in
    let e = c.in_err-form.field-0.0 in
    let one = claim_dividend s k x y in
    let two = λ (b : Bool). remaining s b k x y in
    let h = turn_stops_behind one two c.in_ok-exactly.exactly (followed c.claim_divisor.new.path) (followed c.claim_dividend.new.path) e c.in_ok-exactly.ensures.leads c.in_err-form.ensures in
    handed c.from_residual-in_err-form.result e _ _ c.from_residual-in_err-form.ensures (stops_behind (claim_divisor s k x y) (in_turn one two) k (followed c.args.path.now) (followed c.claim_divisor.new.path) e c.in_ok-claim_divisor.ensures.steps h)
