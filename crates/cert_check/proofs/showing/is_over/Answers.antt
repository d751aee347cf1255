use Rattle.std.proofs.Common.{rules, ◌≡◌, ◌≤◌, ◌<◌, ◌^◌, ◌∙◌, ap, sym, arith}
use Rattle.std.specs.Prelude.{nat_lt}
use Rattle.std.proofs.lemmas.Bool.{lt-ltb}
use Rattle.core_code.specs.View.{kernel}
use Rattle.loop_bounds.specs.Costs.{cost}
use Rattle.loop_bounds.specs.Turns.{turns_of}
use Rattle.cert_check.proofs.Budget.{same_cost}
use Rattle.cert_check.proofs.showing.is_over.Goals as goal

pub returns-in-Ok : goal.returns-in-Ok
returns-in-Ok c = λ entries.
    let n = c.args.notes.now in
    let e : c.as_slice.result.now ≡ n.rankings.items = search rules in
    let same = same_cost n c.as_slice.result.now entries (kernel c.args.core.now).body e (c.noted_rankings_are_limits.ensures.turns entries) in
    ap (nat_lt c.args.budget) (c.in-Ok.ensures ∙ same)

pub returns-in-Err : goal.returns-in-Err
returns-in-Err c = λ entries.
    let n = c.args.notes.now in
    let e : c.as_slice.result.now ≡ n.rankings.items = search rules in
    let same = same_cost n c.as_slice.result.now entries (kernel c.args.core.now).body e (c.noted_rankings_are_limits.ensures.turns entries) in
    let many : 2 ^ 64 ≤ cost (turns_of c.as_slice.result.now) (kernel c.args.core.now).body = c.in-Err.ensures in
    let few : c.args.budget < 2 ^ 64 = search rules in
    sym (ap (nat_lt c.args.budget) (sym same) ∙ lt-ltb c.args.budget (cost (turns_of c.as_slice.result.now) (kernel c.args.core.now).body) (omega (arith, many, few)))
