use Rattle.std.proofs.Common.{rules, ◌<◌, [], length, map, ap, sym, ◌∙◌}
use Rattle.std.specs.Prelude.{pos}
use Rattle.std.proofs.lemmas.List.{get_or-map}
use Rattle.write_log.specs.Written.{words_of}
use Rattle.work_item.specs.Asks.{owner}
use Rattle.machine.proofs.Puts.{one_more}
use Rattle.machine.specs.Memories.{element_or, arrays_in, past_of}
use Rattle.machine.proofs.memory.Memory.read.Goals as goal

pub returns-then-group-len : goal.returns-then-group-len
returns-then-group-len c =
    let groups = c.args.self.now.groups.items in
    let g = c.in-Group.group in
    let l : g < length groups = search rules in
    let e = ap words_of c.index.ensures ∙ sym (get_or-map words_of groups g c.index.result.now [] l) in
    c.element-then-group-len.ensures
    ∙ ap (λ rows. element_or rows c.args.at.array c.args.at.index (pos c.args.self.now.fill)) e
    ∙ sym (ap (λ o. element_or (arrays_in (words_of c.args.self.now.buffers) (map words_of groups) o) c.args.at.array c.args.at.index (past_of c.args.self.now.fill o)) (ap owner c.in-Group.is ∙ one_more g))
