use Rattle.std.proofs.Common.{◌≡◌, ◌+◌, drop}
use Rattle.std.specs.List.{prefix_len}
use Rattle.launch_text.specs.LaunchWords.{is_in_word}
use Rattle.launch_text.proofs.keyword.word_length.Given as goal

abbrev pub invariant-loop-i : goal.invariant-loop-i
invariant-loop-i l = prefix_len is_in_word l.bytes ≡ l.i + prefix_len is_in_word (drop l.i l.bytes)
