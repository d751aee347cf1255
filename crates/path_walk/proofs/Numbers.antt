-- Which term it is: of two operands, and where it is none of the four tests.
use Rattle.std.proofs.Common.{◌≡◌, refl, sym}
use Rattle.std.specs.Prelude.{Box}
use Rattle.std.specs.declared.alloc.Global.{Global}
use Rattle.semantics.specs.Core as core
use Rattle.words.specs.declared.Kind.{Kind}
use Rattle.core_code.specs.View.{term}
use Rattle.core_code.specs.declared.tree.Relation.{Relation}
use Rattle.core_code.specs.declared.tree.Term as code
use Rattle.core_code.specs.declared.tree.Term.{Term, Literal, Variable, Id, Load', Unary', Binary', Convert', Compare', Not', And', Or', Select', Minimum', Maximum', Shift', Within', Opaque'}
use Rattle.walk_trees.specs.Walks.{Setting}
use Rattle.walk_trees.specs.Terms.{walk, by_value}

pub pair_is : (f : core.Term → core.Term → core.Term) (a b c d : Term) → a ≡ c → b ≡ d → f (term c) (term d) ≡ f (term a) (term b)
pair_is f a b c d p q = λ i. f (term (sym p i)) (term (sym q i))

pub triple_is : (f : core.Term → core.Term → core.Term → core.Term) (a b c d e g : Term) → a ≡ d → b ≡ e → c ≡ g → f (term d) (term e) (term g) ≡ f (term a) (term b) (term c)
triple_is f a b c d e g p q r = λ i. f (term (sym p i)) (term (sym q i)) (term (sym r i))

-- what is none of the four tests is a test by what number it is
pub by_number : {E : Type 0} (s : Setting E) (t : Term) → ((r : Relation) (k : Kind) (a b : Box Term Global) → t ≡ code.Compare r k a b → ⊥) → ((a : Box Term Global) → t ≡ code.Not a → ⊥) →
    ((a b : Box Term Global) → t ≡ code.And a b → ⊥) → ((a b : Box Term Global) → t ≡ code.Or a b → ⊥) → (walk s (term t)).test ≡ (by_value s (walk s (term t)).value).test
by_number s (Literal k n) c d e f = refl
by_number s (Variable n) c d e f = refl
by_number s (Id k g n) c d e f = refl
by_number s (Load' a z p i) c d e f = refl
by_number s (Unary' op k z p a) c d e f = refl
by_number s (Binary' op k z p a q b) c d e f = refl
by_number s (Convert' k z p a) c d e f = refl
by_number s (Compare' r k p a q b) c d e f = absurd (c r k (record { ptr = p.ptr; alloc = p.alloc; value = a }) (record { ptr = q.ptr; alloc = q.alloc; value = b }) refl)
by_number s (Not' p a) c d e f = absurd (d (record { ptr = p.ptr; alloc = p.alloc; value = a }) refl)
by_number s (And' p a q b) c d e f = absurd (e (record { ptr = p.ptr; alloc = p.alloc; value = a }) (record { ptr = q.ptr; alloc = q.alloc; value = b }) refl)
by_number s (Or' p a q b) c d e f = absurd (f (record { ptr = p.ptr; alloc = p.alloc; value = a }) (record { ptr = q.ptr; alloc = q.alloc; value = b }) refl)
by_number s (Select' p t q a r b) c d e f = refl
by_number s (Minimum' p a q b) c d e f = refl
by_number s (Maximum' p a q b) c d e f = refl
by_number s (Shift' o k p a q b) c d e f = refl
by_number s (Within' z n p a) c d e f = refl
by_number s (Opaque' n z k p a q b r t) c d e f = refl
