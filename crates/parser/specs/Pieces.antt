-- The parts of a kernel's head and body that the code reads one by one.
use Rattle.std.specs.Prelude.{ℕ, List, Vec}
use Rattle.std.specs.declared.alloc.Global.{Global}
use Rattle.semantics.specs.Core.{Site}
use Rattle.texts.specs.Surface.{Statements}
use Rattle.syntax.specs.View.{statements}
use Rattle.syntax.specs.declared.tree.Stmt.{Stmt}
use Rattle.parser.specs.Reader.{Reader, Gives, Then}
use Rattle.parser.specs.Expressions.{is_left_parenthesis, is_right_parenthesis, expects}
use Rattle.parser.specs.Statements.{is_left_brace, name_at, takes, block_reader}
use Rattle.parser.specs.Kernels.{is_kernel, is_attribute, is_void, is_required_size, ended}

unfoldable pub attribute_opening : Reader Site
attribute_opening = Then (expects is_kernel) (λ a. Then (expects is_attribute) (λ b. expects is_left_parenthesis))

unfoldable pub attribute_name : Reader Site
attribute_name = Then (expects is_left_parenthesis) (λ a. Then (expects is_required_size) (λ b. expects is_left_parenthesis))

unfoldable pub attribute_end : Reader Site
attribute_end = Then (expects is_right_parenthesis) (λ a. Then (expects is_right_parenthesis) (λ b. expects is_right_parenthesis))

-- from `void` to the parenthesis that opens the parameters
unfoldable pub head_reader : Reader (List ℕ × Site)
head_reader = Then (expects is_void) (λ a. Then (takes name_at) (λ x. Then (expects is_left_parenthesis) (λ b. Gives x)))

-- the body in braces, and then the end
unfoldable pub body_reader : Reader Statements
body_reader = Then (expects is_left_brace) (λ a. Then (block_reader 32 63 1) (λ body. ended body.0))

abbrev pub body_seen : Vec Stmt Global → Statements
body_seen body = statements body.items
