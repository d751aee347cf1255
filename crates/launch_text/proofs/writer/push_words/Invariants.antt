use Rattle.std.proofs.Common.{◌≡◌, ◌++◌, drop, map}
use Rattle.std.specs.List.{flat_map}
use Rattle.std.specs.String.{string_bytes}
use Rattle.launch_text.specs.LaunchText as text
use Rattle.words.specs.View as view
use Rattle.launch_text.proofs.writer.push_words.Given as goal

abbrev pub invariant-loop-word : goal.invariant-loop-word
invariant-loop-word l =
    string_bytes l.out ++ flat_map text.word_text (map view.word (drop l.word-index l.words)) ≡ string_bytes l.initial.out ++ flat_map text.word_text (map view.word l.words)
