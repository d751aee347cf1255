use Rattle.std.proofs.Common.{rules}
use Rattle.group_workers.proofs.running.+workers.Goals as goal

-- part by part, since all of it together is too much for one search
pub join-others-requires-after_bounds : goal.join-others-requires-after_bounds
join-others-requires-after_bounds g t c κs within =
    let left = c.in-Some.ensures.len in (
      (search rules, ((λ _ i. i), ((λ _ i. i), ((λ _ i. i), ((λ _ i. i), ((λ _ i. i), (search rules, search rules))))))),
      (search rules, search rules),
    )
