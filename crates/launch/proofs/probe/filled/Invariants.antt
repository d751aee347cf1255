use Rattle.std.proofs.Common.{◌≡◌, ◌≤◌, drop}
use Rattle.launch.specs.View.{launch}
use Rattle.launch.specs.Least.{filled, words_seen}
use Rattle.launch.proofs.Least.{after}
use Rattle.launch.proofs.probe.filled.Given as goal

abbrev pub invariant-loop-at : goal.invariant-loop-at
invariant-loop-at l = record {
  few : l.left ≤ 1048576;
  same : after (words_seen l.buffers) (filled (launch l.launch) l.contents l.at l.left (drop l.at l.lengths)) ≡ filled (launch l.launch) l.contents 0 1048576 l.lengths;
}
