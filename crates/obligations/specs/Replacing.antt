-- What is said of a place, put in the terms of a path that comes there.
use Rattle.std.specs.Prelude.{ℕ, pos, Bool, true, false, ◌&&◌, List, [], ◌∷◌, Option, None, Some, slice_index_or}
use Rattle.linear.specs.Exact.{Terms, sum, multiple}
use Rattle.linear.specs.Products.{factors, replaced_product}
use Rattle.facts.specs.Symbols.{First, Symbol, Variable, AtAnchor, Turns, symbol_of, Fact, constant, once}
use Rattle.walk_trees.specs.Values.{Value}
use Rattle.walk_trees.specs.Terms.{no_value}
use Rattle.walk_trees.specs.Walks.{Ranked, rank_form}

-- the form of each symbol, by its number
abbrev pub Replacement : Type 0
Replacement = ℕ → Fact

-- of a product the product of its factors' forms, where it is
abbrev pub or_nothing : Option Fact → Fact
or_nothing None = constant (pos 0)
or_nothing (Some f) = f

abbrev pub form_of : Replacement → ℕ → Fact
form_of by n = or_nothing (replaced_product by (factors n))

abbrev pub replaced_from : Replacement → (so_far : Fact) → Terms → Fact
replaced_from by f [] = f
replaced_from by f (t ∷ ts) = replaced_from by (sum f (multiple t.coefficient (form_of by t.symbol))) ts

-- the constant, then the terms in their order
abbrev pub replaced : Replacement → Fact → Fact
replaced by f = replaced_from by (constant f.constant) f.terms

-- all forms that are made on the way
abbrev pub made_from : Replacement → (so_far : Fact) → Terms → List Fact
made_from by f [] = []
made_from by f (t ∷ ts) = multiple t.coefficient (form_of by t.symbol) ∷ sum f (multiple t.coefficient (form_of by t.symbol)) ∷ made_from by (sum f (multiple t.coefficient (form_of by t.symbol))) ts

abbrev pub made : Replacement → Fact → List Fact
made by f = made_from by (constant f.constant) f.terms

-- each product has a form
abbrev pub is_form : Option Fact → Bool
is_form None = false
is_form (Some f) = true

abbrev pub are_replaceable : Replacement → Terms → Bool
are_replaceable by [] = true
are_replaceable by (t ∷ ts) = is_form (replaced_product by (factors t.symbol)) && are_replaceable by ts

abbrev pub is_replaceable : Replacement → Fact → Bool
is_replaceable by f = are_replaceable by f.terms

-- a variable is what it is on the path, one at the anchor what it is there, a ranking what it was; other symbols stand for themselves
abbrev pub form_on : List Value → (anchors : ℕ → Fact) → List Ranked → Symbol → Fact
form_on vs anchors rs (Variable First x) = (slice_index_or vs x no_value).form
form_on vs anchors rs (AtAnchor First x) = anchors x
form_on vs anchors rs (Turns First n) = rank_form rs n
form_on vs anchors rs s = once s

abbrev pub replacement : List Value → (anchors : ℕ → Fact) → List Ranked → Replacement
replacement vs anchors rs n = form_on vs anchors rs (symbol_of n)
