-- What is shown for all values is shown for those where products are products.
use Rattle.std.proofs.Common.{List, Option, Some, None, inl, inr}
use Rattle.facts.specs.Symbols.{Fact}
use Rattle.walk_trees.specs.Trees.{Obligation, facts_by}
use Rattle.walk_trees.specs.Shown.{IsRefuted, IsShown, IsRefutedWithProducts, IsShownWithProducts}

refuted : (o : Option (List Fact)) → IsRefuted o → IsRefutedWithProducts o
refuted None h = h
refuted (Some facts) h = λ v products m. h v m

pub shown : (o : Obligation) → IsShown o → IsShownWithProducts o
shown o h = λ needed. elim (h needed) [ inl e ↦ inl e | inr e ↦ inr (e.0, refuted (facts_by e.0 o) e.1) ]
