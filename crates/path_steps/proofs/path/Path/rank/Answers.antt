use Rattle.path_steps.specs.View.{followed}
use Rattle.path_steps.proofs.Endings.{ranks_more}
use Rattle.path_steps.proofs.path.Path.rank.Goals as goal

pub returns : goal.returns
unfolding followed
returns g c =
    let s = c.args.self.now in
    let p = followed s in
    λ i. record {
      found = p.found;
      state = record { claims = p.state.claims; variables = p.state.variables; ranks = ranks_more s.ranks.items c.push.new.self.items _ c.in_ok-push.ensures.items i; quotients = p.state.quotients; held = p.state.held; at = p.state.at };
    }
