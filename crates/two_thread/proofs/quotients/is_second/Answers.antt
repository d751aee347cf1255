use Rattle.std.proofs.Common.{◌≡◌, ℕ, suc, List, [], ◌∷◌, length, false, refl, Some, sym, ap, ◌∙◌, arith}
use Rattle.std.specs.Prelude.{◌==◌}
use Rattle.std.proofs.lemmas.Bool.Decides.{nat_tests}
use Rattle.linear.specs.Forms.{form, forms}
use Rattle.linear.specs.declared.form.Form.{Form}
use Rattle.facts.specs.Symbols.{Fact}
use Rattle.walk_trees.specs.Trees.{Divided}
use Rattle.path_steps.specs.View.{goal_seen}
use Rattle.two_thread.specs.Quotients.{is_second_claim}
use Rattle.two_thread.proofs.quotients.is_second.Goals as goal

some : (n : ℕ) → (suc n == 0) ≡ false
some n = grind (arith, nat_tests)

second_of : (made : List Form) (f : Fact) → (length made == 0) ≡ is_second_claim (Some (Divided (forms made) f))
second_of [] f = refl
second_of (m ∷ ms) f = some (length ms)

pub returns-in-Divided : goal.returns-in-Divided
returns-in-Divided c =
    let f = form c.in-Divided.form in
    c.is_empty.ensures ∙ second_of c.as_slice.result.now f ∙ ap (λ l. is_second_claim (Some (Divided (forms l) f))) c.as_slice.ensures.value ∙ ap (λ x. is_second_claim (Some (goal_seen x))) (sym c.in-Divided.is)
