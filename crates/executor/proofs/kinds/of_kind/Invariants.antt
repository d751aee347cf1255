use Rattle.std.proofs.Common.{◌≡◌, map, take}
use Rattle.words.specs.View.{word, kind, value_of}
use Rattle.executor.specs.Kinds.{read}
use Rattle.executor.proofs.kinds.of_kind.Given as goal

abbrev pub invariant-loop-word : goal.invariant-loop-word
invariant-loop-word l = map word l.words.items ≡ map (read (kind l.kind)) (map value_of (take l.word-index l.row))
