use Rattle.std.proofs.Common.{sym}
use Rattle.linear.proofs.FormLists.{forms_more, form-fits}
use Rattle.path_steps.specs.View.{followed}
use Rattle.path_steps.proofs.Moves.{claims_kept, accesses_kept}
use Rattle.path_steps.proofs.Endings.{ends_kept}
use Rattle.path_steps.proofs.path.Path.know.Goals as goal

pub returns : goal.returns
unfolding followed
returns g c =
    let s = c.args.self.now in
    let p = followed s in
    let e = c.in_ok-push.ensures.items in
    λ i. record {
      found = record {
        facts = forms_more s.facts.items c.push.new.self.items c.args.fact e i;
        claims = claims_kept s.facts.items c.push.new.self.items c.args.fact s.claims.items e s.claims_in i;
        accesses = accesses_kept s.facts.items c.push.new.self.items c.args.fact s.news.items s.narrowed.items s.accesses.items e s.accesses_in i;
        ends = ends_kept s.facts.items c.push.new.self.items c.args.fact s.news.items s.narrowed.items s.ends.items e s.ends_in i;
        count = p.found.count;
        taken = p.found.taken;
        left = p.found.left;
        is_fit = sym (form-fits c.args.fact) i;
        is_few = p.found.is_few;
      };
      state = p.state;
    }
