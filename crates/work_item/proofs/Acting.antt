-- What a statement in front asks for when its test is known.
use Rattle.std.proofs.Common.{◌≡◌, ◌+◌, ℕ, List, ◌∷◌, refl, ap, sym, ◌∙◌}
use Rattle.semantics.specs.Word.{Word, is_zero}
use Rattle.semantics.specs.Core.{Term, If, Loop, Statements}
use Rattle.semantics.specs.Setup.{Setup}
use Rattle.semantics.specs.Evaluation.{Gives, evaluate}
use Rattle.semantics.specs.Item.{Entry, Item, enter, finished, trail}
use Rattle.semantics.specs.Ask.{Ask, Goes, on_value, choose, act}
use Rattle.work_item.specs.Left.{behind, turned}

pub acts_if : (s : Setup) (i : ℕ) (it : Item) (n : ℕ) (t : Term) (taken skipped : Statements) (turns : ℕ) (rest : List Entry) (w : Word) (later : List Word) (left : List Entry)
    → Gives w later ≡ evaluate s i (trail it.left) t it.variables it.answers
    → left ≡ choose (is_zero w.value) (enter skipped rest) (enter taken rest)
    → Goes (finished it left it.variables) ≡ act s i it (If n t taken skipped) turns rest
acts_if s i it n t taken skipped turns rest w later left q h = rw (h, ← q) refl

pub acts_loop : (s : Setup) (i : ℕ) (it : Item) (n : ℕ) (t : Term) (body update : Statements) (turns : ℕ) (rest : List Entry) (w : Word) (later : List Word) (a : Ask)
    → Gives w later ≡ evaluate s i (trail it.left) t it.variables it.answers
    → it.left ≡ record { statement = Loop n t body update; turns = turns } ∷ rest
    → a ≡ Goes (finished it (choose (is_zero w.value) (behind it.left) (enter body (enter update (turned it.left)))) it.variables)
    → a ≡ act s i it (Loop n t body update) turns (behind it.left)
acts_loop s i it n t body update turns rest w later a q l h =
    h ∙ ap (λ o. Goes (finished it (choose (is_zero w.value) (behind it.left) (enter body (enter update o))) it.variables)) (ap turned l ∙ ap (λ r. record { statement = Loop n t body update; turns = turns + 1 } ∷ r) (sym (ap behind l)))
    ∙ ap (λ o. on_value s i it o (λ v _. Goes (finished it (choose (is_zero v.value) (behind it.left) (enter body (enter update (record { statement = Loop n t body update; turns = turns + 1 } ∷ behind it.left)))) it.variables))) q
