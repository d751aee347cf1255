use Rattle.std.proofs.Common.{◌≡◌, ◌+◌, ◌≤◌, length, drop}
use Rattle.std.specs.Prelude.{map}
use Rattle.opencl_tokens.specs.Joining.{behind, joined, joined_of}
use Rattle.opencl_tokens.specs.Seen.{site}
use Rattle.opencl_tokens.proofs.joining.join.Given as goal

abbrev pub invariant-loop-at : goal.invariant-loop-at
invariant-loop-at l = record {
  limit : length l.text ≤ 1048576;
  line : l.next.line ≤ l.at + 1;
  column : l.next.column ≤ l.at + 1;
  same : joined_of l.text ≡ behind l.bytes.items (map site l.sites.items) (joined (site l.next) l.skip (drop l.at l.text));
}
