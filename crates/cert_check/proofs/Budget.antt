-- The cost by rankings as code has them.
use Rattle.std.proofs.Common.{◌≡◌, ℕ, Bool, List, ap, sym, ◌∙◌}
use Rattle.std.proofs.Math.Path.{fun_ext}
use Rattle.semantics.specs.Core.{Statements}
use Rattle.loop_bounds.specs.Costs.{cost}
use Rattle.loop_bounds.specs.Turns.{turns_of}
use Rattle.loop_bounds.specs.declared.bound.LoopBound.{LoopBound}
use Rattle.obligations.specs.Limits.{turns_at}
use Rattle.obligations.specs.View.{seen}
use Rattle.obligations.specs.declared.notes.Notes.{Notes}

pub same_cost : (n : Notes) (bounds : List LoopBound) (entries : List Bool) (body : Statements) → bounds ≡ n.rankings.items → ((m : ℕ) → turns_at (seen n entries) m ≡ turns_of n.rankings.items m)
    → cost (turns_of bounds) body ≡ cost (turns_at (seen n entries)) body
same_cost n bounds entries body e h = ap (λ bs. cost (turns_of bs) body) e ∙ ap (λ f. cost f body) (fun_ext (λ m. sym (h m)))
