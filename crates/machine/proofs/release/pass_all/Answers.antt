use Rattle.std.proofs.Common.{rules, ℕ, ◌<◌, ◌≤◌, ◌+◌, ap, sym, ◌∙◌, subst, length, arith, cond}
use Rattle.std.specs.Prelude.{pos}
use Rattle.std.proofs.lemmas.List.{get_or-map, length-set}
use Rattle.semantics.specs.Item as meaning
use Rattle.semantics.specs.Solo.{moved}
use Rattle.work_item.specs.Items.{item, HasEpochs}
use Rattle.machine.specs.Worlds.{items_in, past_barrier}
use Rattle.machine.proofs.Steps.{item_put}
use Rattle.machine.proofs.Blocks.{not_yet, one_more_passed}
use Rattle.machine.proofs.release.pass_all.Goals as goal

pub pass-requires : goal.pass-requires
pass-requires c =
    let xs = c.loop-passed.all.items in
    let old = c.args.all.now.items in
    let i = c.args.first + c.loop-passed.passed in
    let l : i < length xs = search rules in
    let past : ℕ → meaning.Item = λ j. item c.index_mut.result.now in
    let e = ap item c.index_mut.ensures.value ∙ sym (get_or-map item xs i c.index_mut.result.now (past i) l)
    ∙ c.loop-passed.invariant.0 past i ∙ ap (λ b. cond b (past_barrier (items_in old past i)) (items_in old past i)) (not_yet c.args.first c.loop-passed.passed) in
    let low : c.args.first ≤ i = omega arith in
    let high : i < c.args.first + c.args.count = search rules in
    subst HasEpochs (sym e) (c.requires.epochs past i low high)

pub loop-passed-preserved : goal.loop-passed-preserved
loop-passed-preserved c =
    let xs = c.loop-passed.all.items in
    let old = c.args.all.now.items in
    let i = c.args.first + c.loop-passed.passed in
    let l : i < length xs = search rules in (
      λ past j.
          let e = ap item c.index_mut.ensures.value ∙ sym (get_or-map item xs i c.index_mut.result.now (past i) l) in
          one_more_passed c.args.first c.loop-passed.passed j (items_in xs past) (items_in _ past) (items_in old past) past_barrier (item c.pass.new.self) (c.loop-passed.invariant.0 past)
          (item_put item xs i c.pass.new.self past j l)
          (sym (ap (λ a. moved (item c.index_mut.result.now) a (pos 0)) c.pass.ensures) ∙ ap past_barrier e),
      length-set xs i c.pass.new.self ∙ c.loop-passed.invariant.1,
    )
