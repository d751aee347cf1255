-- Statements that no text has. Their names are words of C, so that no name of a text meets them: `break`, `continue` and `goto` are 1 where
-- a `switch`, a turn of a `do` or a function was left, `return` is what a function gives, `switch` is what a `switch` goes by.
use Rattle.std.specs.Prelude.{ℕ, List, [], ◌∷◌, false, None, codes}
use Rattle.semantics.specs.Word as word
use Rattle.semantics.specs.Core.{Site}
use Rattle.texts.specs.Surface.{Plain}
use Rattle.opencl_tokens.specs.Scalars as scalars
use Rattle.opencl_tree.specs.Types.{Qualifiers, Base, Numbers}
use Rattle.opencl_tree.specs.Tree.{Expression, Integer, Name, Assign, Given, Declarator, Statement, Declare, Evaluate, If, Statements, none}
use Rattle.opencl_jumps.specs.Exits.{Exit, Breaking, Continuing, Returning}

unfoldable pub flag_of : Exit → List ℕ
flag_of Breaking = codes "break"
flag_of Continuing = codes "continue"
flag_of Returning = codes "goto"

unfoldable pub result_name : List ℕ
result_name = codes "return"

unfoldable pub choice_name : List ℕ
choice_name = codes "switch"

abbrev pub number : Site → ℕ → Expression
number at n = Integer at word.Int n

abbrev pub variable : Site → (name : List ℕ) → Expression
variable at x = Name at x

abbrev pub assigned : Site → (name : List ℕ) → Expression → Statement
assigned at x e = Evaluate 0 at (Assign at Plain (Name at x) e)

abbrev pub flag_set : Site → (name : List ℕ) → Statement
flag_set at x = assigned at x (number at 1)

abbrev pub unless_set : Site → (name : List ℕ) → Statements → Statement
unless_set at x behind = If 0 at (Name at x) none behind

abbrev pub unqualified : Qualifiers
unqualified = record { space = None; constant = false; volatile = false; restrict = false }

abbrev pub named : Site → (name : List ℕ) → Declarator
named at x = record { site = at; name = x; stars = []; dimensions = []; initial = Given (number at 0) }

-- a variable that begins as 0
abbrev pub declared : Site → Base → (name : List ℕ) → Statement
declared at b x = Declare (record { number = 0; site = at; base = b; qualifiers = unqualified; declarators = named at x ∷ [] })

abbrev pub flag_declared : Site → (name : List ℕ) → Statement
flag_declared at x = declared at (Numbers scalars.Int 1) x
