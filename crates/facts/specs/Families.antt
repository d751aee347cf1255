-- The code's families of symbols, as the definitions have them.
use Rattle.std.specs.Prelude.{ℕ}
use Rattle.facts.specs.Symbols.{Symbol, Groups, ArgumentOf, Length, Local, Group, New, Variable, AtAnchor, Turns}
use Rattle.facts.specs.View.{side}
use Rattle.facts.specs.declared.family.Family.{Family}
use Rattle.facts.specs.declared.family.Family.TheVariants as families

-- a family's symbols, by their indexes
abbrev pub symbol_in : Family → ℕ → Symbol
symbol_in families.Groups = Groups
symbol_in families.Argument = ArgumentOf
symbol_in families.Length = Length
symbol_in (families.Local item) = Local (side item)
symbol_in (families.Group item) = Group (side item)
symbol_in (families.New item) = New (side item)
symbol_in (families.Variable item) = Variable (side item)
symbol_in (families.AtAnchor item) = AtAnchor (side item)
symbol_in (families.Turns item) = Turns (side item)
