-- What is something is not nothing, and is one thing.
use Rattle.std.proofs.Common.{◌≡◌, Bool, true, false, Option, Some, None, ap, sym, ◌∙◌}
use Rattle.std.proofs.lemmas.Bool.{false≢true}

is-some : {A : Type 0} → Option A → Bool
is-some None = false
is-some (Some a) = true

some-of : {A : Type 0} → A → Option A → A
some-of d None = d
some-of d (Some a) = a

pub none-some : {A : Type 0} (a : A) → None ≡ Some a → ⊥
unfolding is-some
none-some a h = false≢true (ap is-some h)

pub not-some : {A : Type 0} (a : A) → Some a ≡ None → ⊥
not-some a h = none-some a (sym h)

pub some-none : {A : Type 0} (o : Option A) (a : A) → o ≡ None → o ≡ Some a → ⊥
some-none o a p q = none-some a (sym p ∙ q)

pub same-some : {A : Type 0} (o : Option A) (a b : A) → o ≡ Some a → o ≡ Some b → a ≡ b
unfolding some-of
same-some o a b p q = ap (some-of a) (sym p ∙ q)
