-- A form's element without the term of a symbol.
use Rattle.std.specs.Prelude.{ℕ}
use Rattle.linear.specs.Exact.{form_without}
use Rattle.domain.specs.declared.Domain.{Ghosts}
use Rattle.facts.specs.Symbols.{Fact}
use Rattle.facts.specs.Elements.{Known}
use Rattle.walk_trees.specs.Held.{Held, element_at}

abbrev pub element_without : {E : Type 0} → Ghosts E → Known E → Held E → ℕ → Fact → E
element_without g k h s f = element_at g k h (form_without s f)
