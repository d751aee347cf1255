use Rattle.std.proofs.Common.{ap, sym, ◌∙◌, ◌++◌, ◌∷◌, [], take, Some, None}
use Rattle.linear.specs.Forms.{form, forms}
use Rattle.linear.proofs.FormLists.{forms-take}
use Rattle.facts.proofs.Unmade.{handed}
use Rattle.path_steps.specs.Paths.{Claimed}
use Rattle.path_steps.specs.View.{goal_seen}
use Rattle.two_thread.specs.Goals.{manner, maybe_form}
use Rattle.two_thread.specs.View.{nth_claim}
use Rattle.two_thread.proofs.Nth.{claim_is}
use Rattle.two_thread.proofs.Manners.{facts_are, unfit_goal}
use Rattle.two_thread.proofs.claims.claim_facts.Goals as goal

pub returns-in_err-last : goal.returns-in_err-last
returns-in_err-last g c =
    let e = ap (λ (a : Claimed). a.goal) (claim_is c.args.met.now c.args.i c.place_of_claim-place.result c.index-tagged.result.now c.index-claim.result.now c.place_of_claim-place.ensures c.index-tagged.ensures c.index-claim.ensures) in
    handed c.from_residual.result c.in_err-last.field-0.0 _ _ c.from_residual.ensures (unfit_goal (goal_seen c.index-claim.result.now.goal) (nth_claim c.args.met.now c.args.i).goal c.in_err-last.field-0.0 e c.in_err-last.ensures)

pub returns-in_default : goal.returns-in_default
returns-in_default g c =
    let e = ap (λ (a : Claimed). a.goal) (claim_is c.args.met.now c.args.i c.place_of_claim-place.result c.index-tagged.result.now c.index-claim.result.now c.place_of_claim-place.ensures c.index-tagged.ensures c.index-claim.ensures) in
    facts_are (forms c.args.launch.now) (nth_claim c.args.met.now c.args.i) (manner c.args.manner) (goal_seen c.index-claim.result.now.goal) None e (sym (ap maybe_form c.in_default.is) ∙ c.in_ok-last.ensures)

pub returns : goal.returns
returns g c =
    let a = c.index-claim.result.now in
    let p = c.index-tagged.result.now in
    let q = nth_claim c.args.met.now c.args.i in
    let w = claim_is c.args.met.now c.args.i c.place_of_claim-place.result p a c.place_of_claim-place.ensures c.index-tagged.ensures c.index-claim.ensures in
    let d = form c.in-Some.last in
    let fs = ap (λ l. forms (take a.facts l)) c.deref.ensures.value ∙ forms-take a.facts p.path.facts.items ∙ ap (λ (x : Claimed). x.facts) w in
    ap Some (c.in_ok-facts.ensures ∙ ap (λ l. (forms c.args.launch.now ++ l) ++ d ∷ []) fs)
    ∙ facts_are (forms c.args.launch.now) q (manner c.args.manner) (goal_seen a.goal) (Some d) (ap (λ (x : Claimed). x.goal) w) (sym (ap maybe_form c.in-Some.is) ∙ c.in_ok-last.ensures)
