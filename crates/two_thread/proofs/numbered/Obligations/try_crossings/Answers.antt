use Rattle.std.proofs.Common.{rules, ◌≡◌, ◌≤◌, ◌<◌, length, get_or}
use Rattle.std.specs.Prelude.{true}
use Rattle.facts.proofs.Unmade.{handed}
use Rattle.obligations.specs.Fitting.{crossing_fits}
use Rattle.two_thread.specs.View.{crossing, met_accesses}
use Rattle.two_thread.proofs.Listing.{crossing_unfit, crossings-next, crossings-end}
use Rattle.two_thread.proofs.numbered.Obligations.try_crossings.Goals as goal

pub returns-in_err-try_differences : goal.returns-in_err-try_differences
returns-in_err-try_differences g c =
    let o = c.args.self.now in
    let r = c.index-crossing.result.now in
    let h : c.loop-i.i < length o.crossings.items = search rules in
    let q : r ≡ get_or o.crossings.items c.loop-i.i r = search rules in
    handed c.from_residual.result c.in_err-try_differences.field-0.0 _ _ c.from_residual.ensures (crossing_unfit o.met o.crossings.items c.loop-i.i r c.in_err-try_differences.field-0.0 h q c.in_err-try_differences.ensures)

pub loop-i-preserved : goal.loop-i-preserved
loop-i-preserved g c =
    let o = c.args.self.now in
    let r = c.index-crossing.result.now in
    let h : c.loop-i.i < length o.crossings.items = search rules in
    let q : r ≡ get_or o.crossings.items c.loop-i.i r = search rules in
    let f : crossing_fits (crossing (met_accesses o.met) r) ≡ true = search rules in
    crossings-next o.met o.crossings.items c.loop-i.i r _ h q f c.loop-i.invariant

pub returns : goal.returns
returns g c =
    let o = c.args.self.now in
    let h : length o.crossings.items ≤ c.loop-i.i = search rules in
    crossings-end o.met o.crossings.items c.loop-i.i _ h c.loop-i.invariant
