-- What the code reads and answers, as the definitions have it.
use Rattle.std.specs.Prelude.{◌≡◌, ℕ, List, map, Result, Ok, Err, Vec, slice_index}
use denote.Ref.{Bor}
use Rattle.semantics.specs.Core.{Site}
use Rattle.texts.specs.Lexemes.{Lexeme, lexeme}
use Rattle.texts.specs.ParseFaults as rules
use Rattle.texts.specs.Surface as surface
use Rattle.std.specs.declared.alloc.Global.{Global}
use Rattle.core_code.specs.View.{site}
use Rattle.core_code.specs.declared.tree.Site as code
use Rattle.syntax.specs.View.{infix_sign, expressions, statement, statements, parameter}
use Rattle.syntax.specs.declared.tree.Expr.{Expr}
use Rattle.syntax.specs.declared.tree.Stmt.{Stmt}
use Rattle.syntax.specs.declared.tree.Parameter.{Parameter}
use Rattle.semantics.specs.Launch.{Three}
use Rattle.syntax.specs.declared.tree.InfixSign.{InfixSign}
use Rattle.lexer.specs.Seen.{token}
use Rattle.lexer.specs.declared.Token.{Token}
use Rattle.parser.specs.Reader.{Attempt, Took, Refused}
use Rattle.parser.specs.declared.stops.ParseFault.{ParseFault}
use Rattle.parser.specs.declared.stops.ParseFault.TheVariants as faults
use Rattle.parser.specs.declared.stops.Stop.{Stop}
use Rattle.parser.specs.declared.stops.Stop.TheVariants as stops

-- what the grammar reads of the lexer's tokens
abbrev pub lexemes : List Token → List Lexeme
lexemes tokens = map (λ t. lexeme (token t)) tokens

abbrev pub fault : ParseFault → rules.ParseFault
fault faults.Expected = rules.Expected
fault faults.TooDeep = rules.TooDeep
fault faults.TooMany = rules.TooMany

-- a stop is the reader's, unless memory was refused
abbrev pub IsStopOf : {A : Type 0} → Stop → Attempt A → Type 0
IsStopOf (stops.Refused f rest) outcome = outcome ≡ Refused (fault f) (lexemes rest.now)
IsStopOf stops.Memory outcome = Unit {0}

abbrev pub Reads : {A C : Type 0} → (C → A) → Result (C × Bor (List Token)) Stop → Attempt A → Type 0
Reads view (Ok (c, rest)) outcome = outcome ≡ Took (view c) (lexemes rest.now)
Reads view (Err stop) outcome = IsStopOf stop outcome

abbrev pub ranked_sign : ℕ × InfixSign → ℕ × surface.InfixSign
ranked_sign entry = (entry.0, infix_sign entry.1)

abbrev pub arguments_seen : Vec Expr Global → surface.Expressions
arguments_seen arguments = expressions arguments.items

abbrev pub text_seen : Bor (List ℕ) → List ℕ
text_seen text = text.now

-- with the number of the next statement
abbrev pub numbered : Stmt × ℕ → surface.Statement × ℕ
numbered entry = (statement entry.0, entry.1)

abbrev pub all_numbered : Vec Stmt Global × ℕ → surface.Statements × ℕ
all_numbered entry = (statements entry.0.items, entry.1)

-- a name, and where it stands
abbrev pub named_seen : Bor (List ℕ) × code.Site → List ℕ × Site
named_seen named = (named.0.now, site named.1)

abbrev pub parameters_seen : Vec Parameter Global → List surface.Parameter
parameters_seen ps = map parameter ps.items

abbrev pub sizes_seen : List ℕ → Three ℕ
sizes_seen sizes = record { x = slice_index sizes 0; y = slice_index sizes 1; z = slice_index sizes 2 }
