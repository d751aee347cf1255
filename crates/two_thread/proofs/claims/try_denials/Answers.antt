use Rattle.std.proofs.Common.{rules, ◌≤◌, ◌<◌, length}
use Rattle.facts.proofs.Unmade.{handed}
use Rattle.two_thread.proofs.Listing.{claim_unfit, claims-next, claims-end}
use Rattle.two_thread.proofs.claims.try_denials.Goals as goal

pub returns-in_err-try_claim : goal.returns-in_err-try_claim
returns-in_err-try_claim g c =
    let m = c.args.met.now in
    let h : c.loop-i.i < length m.claims.items = search rules in
    handed c.from_residual.result c.in_err-try_claim.field-0.0 _ _ c.from_residual.ensures (claim_unfit m c.loop-i.i c.in_err-try_claim.field-0.0 h c.in_err-try_claim.ensures)

pub loop-i-preserved : goal.loop-i-preserved
loop-i-preserved g c =
    let m = c.args.met.now in
    let h : c.loop-i.i < length m.claims.items = search rules in
    claims-next m c.loop-i.i _ h c.in_ok-try_claim.ensures c.loop-i.invariant

pub returns : goal.returns
returns g c =
    let m = c.args.met.now in
    let h : length m.claims.items ≤ c.loop-i.i = search rules in
    claims-end m c.loop-i.i _ h c.loop-i.invariant
