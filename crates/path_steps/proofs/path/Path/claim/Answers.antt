use Rattle.std.proofs.Common.{rules, ◌≡◌, ◌∙◌, ◌<◌, sym, length, add-one}
use Rattle.path_steps.specs.View.{followed, sort, spot, goal_seen}
use Rattle.linear.specs.Forms.{forms}
use Rattle.path_steps.proofs.Moves.{claims_more, noted_last, noted_none, goal_fits, few, many}
use Rattle.path_steps.proofs.path.Path.claim.Goals as goal

pub returns-in_ok-push : goal.returns-in_ok-push
unfolding followed
returns-in_ok-push g c =
    let s = c.args.self.now in
    let p = followed s in
    let n_facts : c.len-facts.result ≡ length s.facts.items = search rules in
    let h : s.count < 65536 = search rules in
    let e = claims_more s.facts.items s.claims.items c.push.new.self.items _ c.in_ok-push.ensures.items n_facts in
    let n = e ∙ sym (noted_last p.found.left _ p.found.claims (sym c.is_new-is_new.ensures ∙ c.if-is_new.true)) in
    λ i. record {
      found = record {
        facts = p.found.facts;
        claims = n i;
        accesses = p.found.accesses;
        ends = p.found.ends;
        count = add-one s.count i;
        taken = p.found.taken;
        left = p.found.left;
        is_fit = sym (goal_fits c.args.goal) i;
        is_few = sym (few s.count h) i;
      };
      state = record { claims = add-one s.count i; variables = p.state.variables; ranks = p.state.ranks; quotients = p.state.quotients; held = p.state.held; at = p.state.at };
    }

pub returns-else-is_new : goal.returns-else-is_new
unfolding followed
returns-else-is_new g c =
    let s = c.args.self.now in
    let p = followed s in
    let h : s.count < 65536 = search rules in
    λ i. record {
      found = record {
        facts = p.found.facts;
        claims = sym (noted_none p.found.left (record { demand = record { sort = sort c.args.sort; spot = spot s.at }; needed = c.args.needed; settled = c.args.settled; goal = goal_seen c.args.goal; facts = forms s.facts.items }) p.found.claims (sym c.is_new-is_new.ensures ∙ c.if-is_new.false)) i;
        accesses = p.found.accesses;
        ends = p.found.ends;
        count = add-one s.count i;
        taken = p.found.taken;
        left = p.found.left;
        is_fit = sym (goal_fits c.args.goal) i;
        is_few = sym (few s.count h) i;
      };
      state = record { claims = add-one s.count i; variables = p.state.variables; ranks = p.state.ranks; quotients = p.state.quotients; held = p.state.held; at = p.state.at };
    }

pub returns-then-self-ge65536 : goal.returns-then-self-ge65536
unfolding followed
returns-then-self-ge65536 g c = many c.args.self.now.count c.if-self-ge65536.true
