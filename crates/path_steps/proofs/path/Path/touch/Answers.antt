use Rattle.std.proofs.Common.{rules, ◌≡◌, ◌∙◌, sym, length}
use Rattle.linear.proofs.FormLists.{form-fits}
use Rattle.path_steps.specs.View.{followed, target}
use Rattle.linear.specs.Forms.{form, forms}
use Rattle.path_steps.proofs.Moves.{accesses_more, noted_last, noted_none}
use Rattle.path_steps.proofs.path.Path.touch.Goals as goal

pub returns-in_ok-push : goal.returns-in_ok-push
unfolding followed
returns-in_ok-push g c =
    let s = c.args.self.now in
    let p = followed s in
    let n_facts : c.len-facts.result ≡ length s.facts.items = search rules in
    let n_news : c.len-news.result ≡ length s.news.items = search rules in
    let n_narrowed : c.len-narrowed.result ≡ length s.narrowed.items = search rules in
    let e = accesses_more s.facts.items s.news.items s.narrowed.items s.accesses.items c.push.new.self.items _ c.in_ok-push.ensures.items n_facts n_news n_narrowed in
    let n = e ∙ sym (noted_last p.found.left _ p.found.accesses (sym c.is_new.ensures ∙ c.if-is_new.true)) in
    λ i. record {
      found = record {
        facts = p.found.facts;
        claims = p.found.claims;
        accesses = n i;
        ends = p.found.ends;
        count = p.found.count;
        taken = p.found.taken;
        left = p.found.left;
        is_fit = sym (form-fits c.args.index) i;
        is_few = p.found.is_few;
      };
      state = p.state;
    }

pub returns-else-is_new : goal.returns-else-is_new
unfolding followed
returns-else-is_new g c =
    let s = c.args.self.now in
    let p = followed s in
    λ i. record {
      found = record {
        facts = p.found.facts;
        claims = p.found.claims;
        accesses = sym (noted_none p.found.left (record { target = target c.args.target; index = form c.args.index; held = p.state.held; facts = forms s.facts.items }) p.found.accesses (sym c.is_new.ensures ∙ c.if-is_new.false)) i;
        ends = p.found.ends;
        count = p.found.count;
        taken = p.found.taken;
        left = p.found.left;
        is_fit = sym (form-fits c.args.index) i;
        is_few = p.found.is_few;
      };
      state = p.state;
    }
