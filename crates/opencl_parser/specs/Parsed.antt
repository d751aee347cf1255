-- What lexemes are read as: the tree, or the first fault and its place. At most 64 levels stand within one another.
use Rattle.std.specs.Prelude.{◌≡◌, List, [], Bool, true, false, Result, Ok, Err, Vec}
use Rattle.std.specs.declared.alloc.Global.{Global}
use Rattle.semantics.specs.Core as core
use Rattle.opencl_tokens.specs.Lexemes.{LexemeKind, End}
use Rattle.core_code.specs.View.{site}
use Rattle.opencl_tree.specs.Tree.{Expression, Statements}
use Rattle.opencl_tree.specs.View.{statements}
use Rattle.opencl_tree.specs.declared.tree.Stmt.{Stmt}
use Rattle.opencl_parser.specs.Faults as rules
use Rattle.opencl_parser.specs.Reader.{Reader, Attempt, Took, Refused, Then, expects}
use Rattle.opencl_parser.specs.Reader as reader
use Rattle.opencl_parser.specs.Expressions.{level}
use Rattle.opencl_parser.specs.Statements.{block_reader}
use Rattle.opencl_parser.specs.View.{fault}
use Rattle.opencl_parser.specs.declared.stops.ParseError.{ParseError}
use Rattle.opencl_parser.specs.declared.stops.ParseError.TheVariants as errors

abbrev pub is_end : LexemeKind → Bool
is_end End = true
is_end kind = false

-- an expression, and nothing behind it
unfoldable pub whole_expression : Reader Expression
whole_expression = Then (level [] 64 13) (λ e. Then (expects is_end) (λ end. reader.Gives e))

-- statements up to the brace that closes them, and nothing behind it
unfoldable pub whole_block : Reader Statements
whole_block = Then (block_reader [] 64 1) (λ b. Then (expects is_end) (λ end. reader.Gives b.0))

abbrev pub answer : {A : Type 0} → Attempt A → Result A (rules.ParseFault × core.Site)
answer (Took a rest) = Ok a
answer (Refused f s) = Err (f, s)

-- an error is the reader's, unless memory was refused
abbrev pub Gives : {A C : Type 0} → (C → A) → Result C ParseError → Result A (rules.ParseFault × core.Site) → Type 0
Gives view (Ok c) answer = answer ≡ Ok (view c)
Gives view (Err (errors.At f s)) answer = answer ≡ Err (fault f, site s)
Gives view (Err errors.Memory) answer = Unit {0}

abbrev pub body_seen : Vec Stmt Global → Statements
body_seen body = statements body.items
