-- What names of a file mean in a kernel (C99 6.2.1): functions, variables, types and constants that stand in the file beside it are not
-- read (ours). So their names hide built-in functions and constants of those names, and have no meaning of their own.
use Rattle.std.specs.Prelude.{ℕ, ◌+◌, ◌-◌, List, [], ◌∷◌, ◌++◌, Bool, true, false, cond, ◌||◌, map, nat_eq, nat_lt}
use Rattle.opencl_tokens.specs.Words as words
use Rattle.opencl_tokens.specs.Lexemes.{Lexeme, LexemeKind, Name, Word}
use Rattle.opencl_values.specs.Scope.{UnreadOf, Binding}
use Rattle.opencl_files.specs.Chunks.{Turn, Opens, Closes, Ends, turn_of}

-- how many brackets are open; whether a list of constants is due, behind `enum`; how many brackets are open in such a list
pub record Looking : Type 0 where
  pub depth : ℕ
  pub is_due : Bool
  pub within : ℕ

abbrev pub at_first : Looking
at_first = record { depth = 0; is_due = false; within = 0 }

abbrev pub is_enum : LexemeKind → Bool
is_enum (Word words.Enum) = true
is_enum kind = false

-- one bracket more; the first one behind `enum` opens its list
abbrev pub deeper : Looking → Looking
deeper l = record { depth = l.depth + 1; is_due = false; within = cond (l.is_due || nat_lt 0 l.within) (l.within + 1) 0 }

abbrev pub turned : Looking → Turn → Looking
turned l (Opens b) = deeper l
turned l (Closes b) = record { depth = l.depth - 1; is_due = false; within = l.within - 1 }
turned l Ends = record { depth = l.depth; is_due = false; within = l.within }
turned l turn = l

abbrev pub looked : Looking → LexemeKind → Looking
looked l kind = cond (is_enum kind) (record { depth = l.depth; is_due = true; within = l.within }) (turned l (turn_of kind))

-- names outside brackets, and those in lists of constants
abbrev pub declares : Looking → Bool
declares l = nat_eq l.depth 0 || nat_lt 0 l.within

abbrev pub unread : (name : List ℕ) → Binding
unread name = record { name = name; meaning = UnreadOf }

abbrev pub with_kind : Bool → LexemeKind → (names : List (List ℕ)) → List (List ℕ)
with_kind true (Name x) ns = ns ++ x ∷ []
with_kind declares kind ns = ns

-- behind those that were found
abbrev pub with_names : Looking → (names : List (List ℕ)) → List Lexeme → List (List ℕ)
with_names l ns [] = ns
with_names l ns (t ∷ ts) = with_names (looked l t.kind) (with_kind (declares l) t.kind ns) ts

abbrev pub outside_of : List Lexeme → List Binding
outside_of ts = map unread (with_names at_first [] ts)
