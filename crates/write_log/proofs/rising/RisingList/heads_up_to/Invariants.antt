use Rattle.std.proofs.Common.{◌≡◌, ◌<◌, ◌≤◌, ◌-◌, false, IsTrue, length}
use Rattle.std.specs.Ordering.{is_lt}
use Rattle.write_log.specs.Elements.{by_element, head_of}
use Rattle.write_log.proofs.rising.RisingList.heads_up_to.Given as goal

abbrev pub invariant-loop-low : goal.invariant-loop-low
invariant-loop-low l = record {
  order : l.low ≤ l.high;
  count : l.high ≤ length l.self.stretches.items;
  below : 0 < l.low → is_lt (by_element l.at (head_of l.self.stretches.items (l.low - 1))) ≡ false;
  above : l.high < length l.self.stretches.items → IsTrue (is_lt (by_element l.at (head_of l.self.stretches.items l.high)));
}

abbrev pub decreases-loop-low : goal.decreases-loop-low
decreases-loop-low l = l.high - l.low
