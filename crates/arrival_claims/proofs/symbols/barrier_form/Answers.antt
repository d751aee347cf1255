use Rattle.std.proofs.Common.{◌<◌, ◌≤◌, length, sym, ap, ◌∙◌, arith}
use Rattle.core_code.specs.View.{kernel}
use Rattle.facts.proofs.Unmade.{matched}
use Rattle.obligations.specs.Roots.{kinds, root_form}
use Rattle.arrival_claims.proofs.EachSlot.{count_kinds}
use Rattle.arrival_claims.proofs.OnPaths.{root_inside, root_past}
use Rattle.arrival_claims.proofs.symbols.barrier_form.Goals as goal

pub returns-then-slot-count : goal.returns-then-slot-count
returns-then-slot-count c =
    let k = kernel c.args.core.now in
    let x = c.args.slot in
    let l : x < length (kinds k) = omega (arith, count_kinds c.args.core.now, c.if-slot-count.true, c.len.ensures, c.len-2.ensures) in
    matched c.kept_or.result _ _ _ _ (λ f h. h ∙ sym (root_inside k 0 (kinds k) x l ∙ ap (root_form k) (omega arith))) (λ e h. h) c.kept_or.ensures

pub returns-else-slot-count : goal.returns-else-slot-count
returns-else-slot-count c =
    let k = kernel c.args.core.now in
    let x = c.args.slot in
    let l : length (kinds k) ≤ x = omega (arith, count_kinds c.args.core.now, c.if-slot-count.false, c.len.ensures, c.len-2.ensures) in
    c.constant.ensures ∙ sym (root_past k 0 (kinds k) x l)
