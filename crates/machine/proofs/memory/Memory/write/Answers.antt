use Rattle.std.proofs.Common.{rules, ◌<◌, [], length, map, ap, sym, ◌∙◌, subst}
use Rattle.std.specs.Prelude.{pos}
use Rattle.std.proofs.lemmas.List.{get_or-map, map-set, length-map}
use Rattle.std.proofs.Math.Seq.{map-set_same}
use Rattle.semantics.specs.Memory.{Cell}
use Rattle.words.specs.View.{value_of}
use Rattle.write_log.specs.Written.{words_of, put_word}
use Rattle.work_item.specs.Asks.{owner, cell}
use Rattle.machine.specs.Memories.{element_or, arrays_in, past_of}
use Rattle.machine.proofs.Puts.{written_buffers, written_group, one_more, put-lengths}
use Rattle.machine.proofs.memory.Memory.write.Goals as goal

pub returns-in-Launch-clause-memory : goal.returns-in-Launch-clause-memory
returns-in-Launch-clause-memory c =
    let m = c.args.self.now in
    written_buffers (words_of m.buffers) (words_of c.put.new.arrays) (map words_of m.groups.items) m.fill (cell c.args.at) (value_of c.args.word) (ap owner c.in-Launch.is) c.put.ensures c.requires

pub returns-in-Launch-clause-buffers : goal.returns-in-Launch-clause-buffers
returns-in-Launch-clause-buffers c =
    ap (map length) c.put.ensures ∙ put-lengths (words_of c.args.self.now.buffers) c.args.at.array c.args.at.index (value_of c.args.word) (pos 0)

pub returns-then-group-len-clause-memory : goal.returns-then-group-len-clause-memory
returns-then-group-len-clause-memory c =
    let m = c.args.self.now in
    let groups = m.groups.items in
    let g = c.in-Group.group in
    let l : g < length groups = search rules in
    let e = ap words_of c.index_mut.ensures.value ∙ sym (get_or-map words_of groups g c.index_mut.result.now [] l) in
    let h = c.put-then-group-len.ensures ∙ ap (λ rows. put_word rows c.args.at.array c.args.at.index (value_of c.args.word)) e in
    ap (λ gs. λ (d : Cell). element_or (arrays_in (words_of m.buffers) gs d.owner) d.array d.index (past_of m.fill d.owner)) (map-set words_of groups g c.put-then-group-len.new.arrays)
    ∙ written_group (words_of m.buffers) (map words_of groups) g (words_of c.put-then-group-len.new.arrays) m.fill (cell c.args.at) (value_of c.args.word) (ap owner c.in-Group.is ∙ one_more g) (subst (λ n. g < n) (sym (length-map groups words_of)) l) h c.requires

pub returns-then-group-len-clause-groups : goal.returns-then-group-len-clause-groups
returns-then-group-len-clause-groups c =
    let groups = c.args.self.now.groups.items in
    let g = c.in-Group.group in
    map-set_same (λ b. map length (words_of b)) groups g c.put-then-group-len.new.arrays c.index_mut.result.now
    (ap (map length) c.put-then-group-len.ensures ∙ put-lengths (words_of c.index_mut.result.now) c.args.at.array c.args.at.index (value_of c.args.word) (pos 0) ∙ ap (λ b. map length (words_of b)) c.index_mut.ensures.value)
