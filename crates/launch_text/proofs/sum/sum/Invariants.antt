use Rattle.std.proofs.Common.{◌≡◌, ◌+◌, [], map, vec_len}
use Rattle.launch_text.specs.LaunchSums.{sum_at}
use Rattle.syntax.specs.View.{parameter}
use Rattle.launch.specs.View.{summand}
use Rattle.launch_text.specs.Answers.{cursor}
use Rattle.launch_text.proofs.sum.sum.Given as goal

abbrev pub invariant-loop-room : goal.invariant-loop-room
invariant-loop-room l = record {
  few : vec_len l.terms + l.room ≡ 8;
  same : sum_at l.has_products (map parameter l.parameters) 8 [] (cursor l.at) ≡ sum_at l.has_products (map parameter l.parameters) l.room (map summand l.terms.items) (cursor l.rest);
}

abbrev pub decreases-loop-room : goal.decreases-loop-room
decreases-loop-room l = l.room
