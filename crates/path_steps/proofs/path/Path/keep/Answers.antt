use Rattle.path_steps.specs.View.{followed}
use Rattle.path_steps.proofs.Endings.{quotients_more}
use Rattle.path_steps.proofs.path.Path.keep.Goals as goal

pub returns : goal.returns
unfolding followed
returns g c =
    let s = c.args.self.now in
    let p = followed s in
    λ i. record {
      found = p.found;
      state = record { claims = p.state.claims; variables = p.state.variables; ranks = p.state.ranks; quotients = quotients_more s.quotients.items c.push.new.self.items _ c.in_ok-push.ensures.items i; held = p.state.held; at = p.state.at };
    }
