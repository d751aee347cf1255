use Rattle.std.proofs.Common.{rules, ◌≡◌, ◌∙◌, length, nat_le}
use Rattle.path_steps.specs.View.{followed, choice}
use Rattle.path_steps.proofs.Moves.{is_past}
use Rattle.path_steps.proofs.path.Path.is_new.Goals as goal

pub returns : goal.returns
unfolding followed
returns g c =
    let n : c.len.result ≡ length c.args.self.now.taken.items = search rules in
    let m : c.len-2.result ≡ length c.args.self.now.given.items = search rules in
    (λ i. nat_le (m i) (n i)) ∙ is_past choice (length c.args.self.now.taken.items) c.args.self.now.given.items
