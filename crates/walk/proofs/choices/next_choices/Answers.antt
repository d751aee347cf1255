use Rattle.std.proofs.Common.{◌≡◌, ◌<◌, ◌+◌, ◌-◌, map, drop, get_or, length, arith, sym, ap, subst, ◌∙◌}
use Rattle.std.specs.Prelude.{true, None, Some}
use Rattle.path_steps.specs.Paths.{is_first}
use Rattle.path_steps.specs.Turns.{next_choices}
use Rattle.path_steps.specs.View.{choice}
use Rattle.path_steps.specs.declared.path.Choice.TheVariants.{First}
use Rattle.walk.proofs.Next.{first_way}
use Rattle.walk.proofs.choices.next_choices.Goals as goal

pub returns-then-is_first : goal.returns-then-is_first
returns-then-is_first c =
    let at = c.loop-at.at in
    let cs = c.args.taken.now in
    let e : at ≡ at - 1 + 1 = omega (arith, c.loop-at-test.true) in
    let o : next_choices (map choice (drop (at - 1 + 1) cs)) c.args.count ≡ None = subst (λ i. next_choices (map choice (drop i cs)) c.args.count ≡ None) e c.loop-at.invariant.others in
    let h : at - 1 < length cs = omega (arith, c.loop-at-test.true, c.loop-at.invariant.within) in
    let f : is_first (choice (get_or cs (at - 1) First)) ≡ true = sym c.is_first.ensures ∙ c.if-is_first.true in
    ap Some c.in_ok-choices.ensures ∙ sym (first_way cs (at - 1) c.args.count First h f o)
