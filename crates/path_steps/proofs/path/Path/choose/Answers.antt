use Rattle.std.proofs.Common.{◌∙◌, sym, ap, map, drop, length}
use Rattle.path_steps.specs.Paths.{Followed}
use Rattle.path_steps.specs.declared.path.Choice.TheVariants as choices
use Rattle.path_steps.specs.View.{followed, choice}
use Rattle.path_steps.proofs.Moves.{choices_more, taken_more}
use Rattle.path_steps.proofs.Leading.{chose_first, chose_other}
use Rattle.path_steps.proofs.path.Path.choose.Goals as goal

pub returns-in_ok-push-in-First : goal.returns-in_ok-push-in-First
unfolding followed
returns-in_ok-push-in-First g c =
    let s = c.args.self.now in
    let p = followed s in
    let e = c.in_ok-push-in-First.ensures.items in
    let n : Followed _ = record {
      found = record {
        facts = p.found.facts;
        claims = p.found.claims;
        accesses = p.found.accesses;
        ends = p.found.ends;
        count = p.found.count;
        taken = map choice c.push.new.self.items;
        left = map choice (drop (length c.push.new.self.items) s.given.items);
        is_fit = p.found.is_fit;
        is_few = p.found.is_few;
      };
      state = p.state;
    } in
    chose_first p n (sym (ap choice c.in-First.is) ∙ c.next.ensures) (λ i. record {
      found = record {
        facts = p.found.facts;
        claims = p.found.claims;
        accesses = p.found.accesses;
        ends = p.found.ends;
        count = p.found.count;
        taken = choices_more s.taken.items c.push.new.self.items choices.First e i;
        left = taken_more s.taken.items c.push.new.self.items s.given.items choices.First e i;
        is_fit = p.found.is_fit;
        is_few = p.found.is_few;
      };
      state = p.state;
    })

pub returns-in_ok-push-in-Other : goal.returns-in_ok-push-in-Other
unfolding followed
returns-in_ok-push-in-Other g c =
    let s = c.args.self.now in
    let p = followed s in
    let e = c.in_ok-push-in-Other.ensures.items in
    let k = c.in-Other.count in
    let n : Followed _ = record {
      found = record {
        facts = p.found.facts;
        claims = p.found.claims;
        accesses = p.found.accesses;
        ends = p.found.ends;
        count = k;
        taken = map choice c.push-in-Other.new.self.items;
        left = map choice (drop (length c.push-in-Other.new.self.items) s.given.items);
        is_fit = p.found.is_fit;
        is_few = p.found.is_few;
      };
      state = record { claims = k; variables = p.state.variables; ranks = p.state.ranks; quotients = p.state.quotients; held = p.state.held; at = p.state.at };
    } in
    chose_other k p n (sym (ap choice c.in-Other.is) ∙ c.next.ensures) (λ i. record {
      found = record {
        facts = p.found.facts;
        claims = p.found.claims;
        accesses = p.found.accesses;
        ends = p.found.ends;
        count = k;
        taken = choices_more s.taken.items c.push-in-Other.new.self.items (choices.Other k) e i;
        left = taken_more s.taken.items c.push-in-Other.new.self.items s.given.items (choices.Other k) e i;
        is_fit = p.found.is_fit;
        is_few = p.found.is_few;
      };
      state = record { claims = k; variables = p.state.variables; ranks = p.state.ranks; quotients = p.state.quotients; held = p.state.held; at = p.state.at };
    })
