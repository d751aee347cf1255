use Rattle.std.proofs.Common.{◌≡◌, ap, sym, ◌∙◌}
use Rattle.std.proofs.lemmas.List.{get_or-map}
use Rattle.std.proofs.Math.Seq.{map-set_same}
use Rattle.semantics.specs.Solo.{moved}
use Rattle.semantics.specs.World.{put_item}
use Rattle.words.specs.View.{value_of}
use Rattle.work_item.specs.Items.{item}
use Rattle.work_item.specs.Asks.{asked}
use Rattle.machine.specs.Worlds.{items_in}
use Rattle.machine.proofs.Steps.{items_put, when_ok, when_err}
use Rattle.machine.proofs.world.perform.Goals as goal

pub returns-clause-done : goal.returns-clause-done
returns-clause-done c =
    let xs = c.args.all.now.items in
    let i = c.args.number in
    when_ok c.perform.result (λ e past.
    let k : item c.index_mut.result.now ≡ items_in xs past i = ap item c.index_mut.ensures.value ∙ sym (get_or-map item xs i c.index_mut.result.now (past i) c.requires) in
    items_put item xs i c.perform.new.self past c.requires
    ∙ ap (λ it. put_item i it (items_in xs past)) (e ∙ ap (λ it. moved it (asked c.args.asked it) (value_of c.args.loaded)) k)) c.perform.ensures.done

pub returns-clause-unchanged : goal.returns-clause-unchanged
returns-clause-unchanged c =
    when_err c.perform.result (λ e. map-set_same item c.args.all.now.items c.args.number c.perform.new.self c.index_mut.result.now (e ∙ ap item c.index_mut.ensures.value)) c.perform.ensures.unchanged
