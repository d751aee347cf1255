use Rattle.std.proofs.Common.{rules, ◌≡◌, ◌∙◌, ◌++◌, ◌∷◌, [], Vec, Global, sym, ap, length, map}
use Rattle.linear.specs.Forms.{forms}
use Rattle.path_steps.specs.View.{followed, stop, turns, value}
use Rattle.path_steps.specs.declared.path.Value.{Value}
use Rattle.path_steps.proofs.Moves.{noted_last, noted_none}
use Rattle.path_steps.proofs.Endings.{ends_more}
use Rattle.path_steps.proofs.path.Path.arrive.Goals as goal

pub returns-in_ok-push : goal.returns-in_ok-push
unfolding followed
returns-in_ok-push g c =
    let s = c.args.self.now in
    let p = followed s in
    let n_facts : c.len-facts.result ≡ length s.facts.items = search rules in
    let n_news : c.len-news.result ≡ length s.news.items = search rules in
    let n_narrowed : c.len-narrowed.result ≡ length s.narrowed.items = search rules in
    let e = ends_more s.facts.items s.news.items s.narrowed.items s.ends.items c.push.new.self.items _ c.in_ok-push.ensures.items n_facts n_news n_narrowed in
    let v : map value c.replace-variables.result.items ≡ p.state.variables = ap (λ (vs : Vec Value Global). map value vs.items) c.replace-variables.ensures.value in
    let n = e ∙ ap (λ vs. p.found.ends ++ record { arrived = record { stop = stop c.args.stop; turns = turns c.args.turns; variables = vs; held = p.state.held }; facts = p.found.facts } ∷ []) v ∙ sym (noted_last p.found.left _ p.found.ends (sym c.is_new-is_new.ensures ∙ c.if-is_new.true)) in
    λ i. record {
      facts = p.found.facts;
      claims = p.found.claims;
      accesses = p.found.accesses;
      ends = n i;
      count = p.found.count;
      taken = p.found.taken;
      left = p.found.left;
      is_fit = p.found.is_fit;
      is_few = p.found.is_few;
    }

pub returns-else-is_new : goal.returns-else-is_new
unfolding followed
returns-else-is_new g c =
    let s = c.args.self.now in
    let p = followed s in
    λ i. record {
      facts = p.found.facts;
      claims = p.found.claims;
      accesses = p.found.accesses;
      ends = sym (noted_none p.found.left (record { arrived = record { stop = stop c.args.stop; turns = turns c.args.turns; variables = p.state.variables; held = p.state.held }; facts = forms s.facts.items }) p.found.ends (sym c.is_new-is_new.ensures ∙ c.if-is_new.false)) i;
      count = p.found.count;
      taken = p.found.taken;
      left = p.found.left;
      is_fit = p.found.is_fit;
      is_few = p.found.is_few;
    }
