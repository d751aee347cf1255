use Rattle.std.proofs.Common.{◌∙◌, ◌≡◌, ap, rules}
use Rattle.linear.specs.Forms.{form}
use Rattle.facts.specs.Symbols.{First, New, once}
use Rattle.facts.proofs.Unmade.{handed}
use Rattle.path_steps.specs.View.{followed, setting as seen}
use Rattle.path_steps.proofs.Refusing.{invent_low, invent_high}
use Rattle.path_steps.proofs.Leading.{invents}
use Rattle.path_steps.proofs.ranges.invent.Goals as goal

pub returns-clause-leads : goal.returns-clause-leads
returns-clause-leads g c =
    let e : form c.in_ok-newest.newest ≡ once (New First c.count_of_news-index.result) = search rules in
    invents (seen g.D.Domain c.args.setting.now) c.args.element (form c.in_ok-newest.newest) c.bounds-bounds.result (followed c.args.path.now) (followed c.know_low.new.path) (followed c.know_high.new.path) (followed c.invent.new.self) (e ∙ ap (λ k. once (New First k)) c.count_of_news-index.ensures.exact) c.bounds-bounds.ensures c.in_ok-know_low.ensures.leads c.in_ok-know_low.ensures.state c.in_ok-know_high.ensures.leads c.in_ok-know_high.ensures.state c.in_ok-invent.ensures

pub returns-in_err-know_low-clause-leads : goal.returns-in_err-know_low-clause-leads
returns-in_err-know_low-clause-leads g c =
    let e : form c.in_ok-newest.newest ≡ once (New First c.count_of_news-index.result) = search rules in
    let k = invent_low (seen g.D.Domain c.args.setting.now) c.args.element (form c.in_ok-newest.newest) c.bounds-bounds.result (followed c.args.path.now) c.in_err-know_low.field-0.0 (e ∙ ap (λ k. once (New First k)) c.count_of_news-index.ensures.exact) c.bounds-bounds.ensures c.in_err-know_low.ensures.refused in
    handed c.from_residual-in_err-know_low.result c.in_err-know_low.field-0.0 _ _ c.from_residual-in_err-know_low.ensures k

pub returns-in_err-know_high-clause-leads : goal.returns-in_err-know_high-clause-leads
returns-in_err-know_high-clause-leads g c =
    let e : form c.in_ok-newest.newest ≡ once (New First c.count_of_news-index.result) = search rules in
    let k = invent_high (seen g.D.Domain c.args.setting.now) c.args.element (form c.in_ok-newest.newest) c.bounds-bounds.result (followed c.args.path.now) (followed c.know_low.new.path) c.in_err-know_high.field-0.0 (e ∙ ap (λ k. once (New First k)) c.count_of_news-index.ensures.exact) c.bounds-bounds.ensures c.in_ok-know_low.ensures.leads c.in_err-know_high.ensures.refused in
    handed c.from_residual-in_err-know_high.result c.in_err-know_high.field-0.0 _ _ c.from_residual-in_err-know_high.ensures k
