use Rattle.std.proofs.Common.{rules, ◌≡◌, ◌∙◌, ◌<◌, ◌≤◌, length, ap, get_or, subst}
use Rattle.path_steps.specs.View.{followed, choice}
use Rattle.path_steps.proofs.Moves.{front_left, front_none}
use Rattle.path_steps.proofs.path.Path.next.Goals as goal

pub returns-then-at-len : goal.returns-then-at-len
unfolding followed
returns-then-at-len g c =
    let s = c.args.self.now in
    let n : c.len-at.result ≡ length s.taken.items = search rules in
    let h : c.len-at.result < length s.given.items = search rules in
    ap choice c.index.ensures ∙ ap (λ k. choice (get_or s.given.items k c.index.result.now)) n
    ∙ front_left (length s.taken.items) s.given.items c.index.result.now (subst (λ k. k < length s.given.items) n h)

pub returns-else-at-len : goal.returns-else-at-len
unfolding followed
returns-else-at-len g c =
    let s = c.args.self.now in
    let n : c.len-at.result ≡ length s.taken.items = search rules in
    let h : length s.given.items ≤ c.len-at.result = search rules in
    front_none (length s.taken.items) s.given.items (subst (λ k. length s.given.items ≤ k) n h)
