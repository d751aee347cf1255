use Rattle.std.proofs.Common.{◌≡◌, drop}
use Rattle.opencl_macros.specs.Reading.{with_tokens}
use Rattle.opencl_macros.specs.Seen.{feed, tokens_seen}
use Rattle.opencl_macros.proofs.reading.put_tokens.Given as goal

abbrev pub invariant-loop-item : goal.invariant-loop-item
invariant-loop-item l =
    with_tokens (tokens_seen l.out.items) (feed (drop l.item-index l.came)) ≡ with_tokens (tokens_seen l.initial.out.items) (feed l.came)
