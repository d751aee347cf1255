-- The terms of plain kernels are lawful, and their local sizes are sizes.
use Rattle.std.proofs.Common.{◌≡◌, ℕ, ◌≤◌, Bool, List, true, arith, refl}
use Rattle.std.specs.Prelude.{nat_le}
use Rattle.std.proofs.lemmas.Bool.Decides.{nat_tests}
use Rattle.semantics.specs.Word.{Kind}
use Rattle.semantics.specs.Core.{Space, Term}
use Rattle.semantics.specs.Launch.{Kernel}
use Rattle.semantics.specs.Conditions.{Conditions}
use Rattle.facts.specs.Launching.{are_sizes}
use Rattle.walk_trees.specs.Covered.{covers_term}
use Rattle.plain_kernels.specs.Kernels.{IsPlainValue, Number, BroughtNumber, Parameter, BroughtParameter, IsPlainIndex, Alone, Times, Plus, TimesPlus, HasLimits}

-- whatever arrays may be loaded: they load none
module _ (sp : Space → Bool) where
  pub value-covered : (ks : List Kind) (v : Term) → IsPlainValue ks v → covers_term sp v ≡ true
  value-covered ks v (Number n h) = h
  value-covered ks v (BroughtNumber site n h) = h
  value-covered ks v (Parameter x h) = refl
  value-covered ks v (BroughtParameter site x h) = refl

  pub index-covered : (e : Term) (f z : ℕ) → IsPlainIndex e f z → covers_term sp e ≡ true
  index-covered _ _ _ Alone = refl
  index-covered _ _ _ (Times p kf f hf) = rw hf refl
  index-covered _ _ _ (Plus a kc z hz) = rw hz refl
  index-covered _ _ _ (TimesPlus a p kf kc f z hf hz) = rw (hf, hz) refl

at_most : (n m : ℕ) → n ≤ m → nat_le n m ≡ true
at_most n m h = grind (arith, nat_tests)

pub plain-sizes : (k : Kernel) (c : Conditions) → HasLimits k c → are_sizes k.sizes ≡ true
plain-sizes k c limits = rw (at_most k.sizes.x 1024 limits.size_x.1, at_most k.sizes.y 1024 limits.size_y.1, at_most k.sizes.z 1024 limits.size_z.1) refl
