-- One statement more that has its places.
use Rattle.std.proofs.Common.{◌≡◌, ◌+◌, ◌<◌, ℕ, List, [], ◌∷◌, ◌++◌, length, drop, get_or, refl, ap, sym, ◌∙◌}
use Rattle.std.proofs.lemmas.List.{drop_more}
use Rattle.core_code.specs.View.{statement, statements}
use Rattle.core_code.specs.declared.tree.Statement.{Statement}
use Rattle.opencl_core.specs.Places.{placed_in, placed_behind}
use Rattle.opencl_core.specs.PlacesView.{statement_at}
use Rattle.opencl_core.specs.Rooms.{single, join}
use Rattle.opencl_core.proofs.Lists.{statements-snoc}

pub one_more : (all of : List Statement) (i : ℕ) (x s : Statement) (n m : ℕ) → i < length of → x ≡ get_or of i x → statement_at (s, m) ≡ placed_in (statement x) n → placed_behind (statements (all ++ s ∷ [])) (statements (drop (i + 1) of)) m ≡ placed_behind (statements all) (statements (drop i of)) n
one_more all of i x s n m h g e =
    ap (λ so. placed_behind so (statements (drop (i + 1) of)) m) (statements-snoc all s)
    ∙ ap (λ p. placed_behind (join (statements all) (single p.statement)) (statements (drop (i + 1) of)) p.next) e
    ∙ ap (λ y. placed_behind (statements all) (statements (y ∷ drop (i + 1) of)) n) g
    ∙ ap (λ xs. placed_behind (statements all) (statements xs) n) (sym (drop_more of i x h))
