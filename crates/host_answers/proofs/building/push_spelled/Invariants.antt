use Rattle.std.proofs.Common.{◌≡◌, ◌<◌, drop}
use Rattle.host_answers.specs.Building.{spelled_behind}
use Rattle.host_answers.proofs.building.push_spelled.Given as goal

abbrev pub invariant-loop-byte : goal.invariant-loop-byte
invariant-loop-byte l = record {
  same : spelled_behind l.found.items l.state (drop l.byte-index l.text) ≡ spelled_behind l.fn.found.items 0 l.text;
  few : l.state < 512;
}
