-- Statements behind others, and one statement more that is moved.
use Rattle.std.proofs.Common.{◌≡◌, ◌+◌, ◌<◌, ℕ, List, [], ◌∷◌, ◌++◌, length, drop, get_or, refl, ap, sym, ◌∙◌}
use Rattle.std.proofs.lemmas.List.{drop_more}
use Rattle.semantics.specs.Core as core
use Rattle.core_code.specs.View.{statement, statements}
use Rattle.core_code.specs.declared.tree.Statement.{Statement}
use Rattle.core_moves.specs.Moving.{Move, single, join, moved_statement, moved_behind}

pub statements-snoc : (a : List Statement) (s : Statement) → statements (a ++ s ∷ []) ≡ join (statements a) (single (statement s))
statements-snoc [] s = refl
statements-snoc (x ∷ xs) s = ap (core.one (statement x)) (statements-snoc xs s)

pub ruleset behind_others = (statements-snoc)

pub one_more : (m : Move) (all of : List Statement) (i : ℕ) (x s : Statement) → i < length of → x ≡ get_or of i x → statement s ≡ moved_statement m (statement x) → moved_behind m (statements (all ++ s ∷ [])) (statements (drop (i + 1) of)) ≡ moved_behind m (statements all) (statements (drop i of))
one_more m all of i x s h g e =
    ap (λ so. moved_behind m so (statements (drop (i + 1) of))) (statements-snoc all s)
    ∙ ap (λ p. moved_behind m (join (statements all) (single p)) (statements (drop (i + 1) of))) e
    ∙ ap (λ y. moved_behind m (statements all) (statements (y ∷ drop (i + 1) of))) g
    ∙ ap (λ xs. moved_behind m (statements all) (statements xs)) (sym (drop_more of i x h))
