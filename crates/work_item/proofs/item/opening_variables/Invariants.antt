use Rattle.std.proofs.Common.{◌≡◌, ◌++◌, map, take}
use Rattle.std.specs.Prelude.{pos}
use Rattle.semantics.specs.Word as word
use Rattle.words.specs.View.{kind, word as word_seen}
use Rattle.work_item.proofs.item.opening_variables.Given as goal

abbrev pub invariant-loop-kind : goal.invariant-loop-kind
invariant-loop-kind l = map word_seen l.words.items ≡ map word_seen l.launch.arguments.items ++ map (λ k. word.word k (pos 0)) (map kind (take l.kind-index l.kind-items))
