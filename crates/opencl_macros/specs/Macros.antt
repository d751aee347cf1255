-- Macros: names with what stands for them (C99 6.10.3).
use Rattle.std.specs.Prelude.{ℕ, List, [], ◌∷◌, Bool, true, false, cond, ◌&&◌, ◌||◌, bytes_eq, Option, Some, None, is_some, Result, Ok, Err}
use Rattle.semantics.specs.Core.{Site}
use Rattle.opencl_tokens.specs.Signs.{Sign, Hash}
use Rattle.opencl_tokens.specs.Tokens.{TokenKind, Token, Name, Mark}
use Rattle.opencl_macros.specs.SignNumbers.{same_sign}

-- an object has no list of parameters; that of a function is the tokens between its brackets: names with a comma between each two
pub record Macro : Type 0 where
  pub parameters : Option (List Token)
  pub body : List Token

-- a name that was defined, or taken away
pub record Entry : Type 0 where
  pub name : List ℕ
  pub macro : Option Macro

-- in the order of the text
abbrev pub Table : Type 0
Table = List Entry

abbrev pub entry : (name : List ℕ) → Option Macro → Entry
entry name macro = record { name = name; macro = macro }

-- what a name stands for: the last entry counts; `found` is what those before say
abbrev pub look : (name : List ℕ) → Table → (found : Option Macro) → Option Macro
look name [] found = found
look name (e ∷ es) found = look name es (cond (bytes_eq e.name name) e.macro found)

abbrev pub is_defined : (name : List ℕ) → Table → Bool
is_defined name table = is_some (look name table None)

abbrev pub is_mark : Sign → TokenKind → Bool
is_mark sign (Mark other) = same_sign sign other
is_mark sign kind = false

abbrev pub is_name : (name : List ℕ) → TokenKind → Bool
is_name name (Name other) = bytes_eq other name
is_name name kind = false

abbrev pub has_mark : Sign → List Token → Bool
has_mark sign [] = false
has_mark sign (t ∷ ts) = is_mark sign t.kind || has_mark sign ts

abbrev pub is_front : Sign → List Token → Bool
is_front sign [] = false
is_front sign (t ∷ ts) = is_mark sign t.kind

abbrev pub is_function : Option (List Token) → Bool
is_function None = false
is_function (Some parameters) = true

-- a `#` in a function makes a string (6.10.3.2): a use of such a macro is left out
abbrev pub makes_strings : Macro → Bool
makes_strings macro = is_function macro.parameters && has_mark Hash macro.body

-- goes on from a part that has no fault
abbrev pub on : {A B : Type 0} → Result A Site → (A → Result B Site) → Result B Site
on (Ok a) next = next a
on (Err site) next = Err site
