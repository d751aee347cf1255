use Rattle.std.proofs.Common.{ap}
use Rattle.path_steps.specs.View.{followed, stop, turns}
use Rattle.arrival_claims.specs.View.{placed}
use Rattle.arrival_claims.proofs.Arrivals.{stops_at_head}
use Rattle.arrival_claims.proofs.arriving.stop.Goals as goal

pub returns-in-Head : goal.returns-in-Head
unfolding placed
returns-in-Head g c = stops_at_head (placed g.D.Domain c.args.placing.now) (stop c.args.stop) c.in-Head.number c.in-Head.again (turns c.args.turns) (followed c.args.path.now) (followed c.arrive_at-in-Head.new.path).found c.arrive_at-in-Head.result (ap stop c.in-Head.is) c.arrive_at-in-Head.ensures
