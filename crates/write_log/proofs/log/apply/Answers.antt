use Rattle.std.proofs.Common.{map, length, ap, ◌∙◌}
use Rattle.std.proofs.lemmas.Map.Keys.{IsDistinct-from_sorted}
use Rattle.std.specs.Map.{keys_of}
use Rattle.write_log.specs.Written.{by_element, entries, words_of, element}
use Rattle.write_log.proofs.Entries.{all-elements, all-lengths}
use Rattle.write_log.proofs.log.apply.Goals as goal

pub returns-clause-elements : goal.returns-clause-elements
returns-clause-elements c = λ b i l.
    ap (λ bs. element bs b i) c.write.ensures.written
    ∙ all-elements (entries c.args.log.now) (words_of c.args.buffers.now) b i (IsDistinct-from_sorted by_element (keys_of (entries c.args.log.now)) c.write.ensures.rising) l

pub returns-clause-lengths : goal.returns-clause-lengths
returns-clause-lengths c = ap (map length) c.write.ensures.written ∙ all-lengths (entries c.args.log.now) (words_of c.args.buffers.now)
