use Rattle.std.proofs.Common.{ap, ◌∙◌, ◌+◌, ◌*◌}
use Rattle.launch.specs.View.{launch}
use Rattle.lane_groups.proofs.work_group.Group.member.Goals as goal

pub returns : goal.returns
returns c =
    c.in_ok-number.ensures ∙ ap (λ n. n + c.args.k) (c.in_ok-first.ensures ∙ ap (λ n. c.args.self.now.number * n) (c.group_size.ensures.value (launch c.args.self.now.launch.now)))
