use Rattle.std.proofs.Common.{◌≡◌, ◌∙◌, ℕ, false, List, [], ◌∷◌, suc, length, refl, ap, arith}
use Rattle.std.specs.Prelude.{◌==◌}
use Rattle.std.proofs.lemmas.Bool.Decides.{nat_tests}
use Rattle.linear.specs.Terms.{terms}
use Rattle.linear.specs.declared.term.Term.{Term}
use Rattle.walk_trees.specs.Walks.{is_none}
use Rattle.path_steps.proofs.tests.is_number.Goals as goal

none : (ts : List Term) → (length ts == 0) ≡ is_none (terms ts)
none [] = refl
none (t ∷ ts) = some (length ts)
  where
    some : (n : ℕ) → (suc n == 0) ≡ false
    some n = grind (arith, nat_tests)

pub returns : goal.returns
returns c = c.is_empty.ensures ∙ none c.terms.result.now ∙ ap is_none c.terms.ensures
