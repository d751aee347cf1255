use Rattle.path_steps.specs.View.{followed}
use Rattle.path_steps.proofs.Moves.{accesses_known, news_more}
use Rattle.path_steps.proofs.Endings.{ends_known}
use Rattle.path_steps.proofs.path.Path.invent.Goals as goal

pub returns : goal.returns
unfolding followed
returns g c =
    let s = c.args.self.now in
    let p = followed s in
    let e = c.in_ok-push.ensures.items in
    λ i. record {
      found = record {
        facts = p.found.facts;
        claims = p.found.claims;
        accesses = accesses_known s.facts.items s.news.items c.push.new.self.items _ s.narrowed.items s.accesses.items e s.accesses_in i;
        ends = ends_known s.facts.items s.news.items c.push.new.self.items _ s.narrowed.items s.ends.items e s.ends_in i;
        count = p.found.count;
        taken = p.found.taken;
        left = p.found.left;
        is_fit = p.found.is_fit;
        is_few = p.found.is_few;
      };
      state = record { claims = p.state.claims; variables = p.state.variables; ranks = p.state.ranks; quotients = p.state.quotients; held = record { news = news_more s.news.items c.push.new.self.items _ e i; narrowed = p.state.held.narrowed }; at = p.state.at };
    }
