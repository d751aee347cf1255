-- What the code has of statements, as the definitions have it.
use Rattle.std.specs.Prelude.{ℕ, List, Vec}
use Rattle.std.specs.declared.alloc.Global.{Global}
use Rattle.opencl_tree.specs.Tree as tree
use Rattle.opencl_tree.specs.View.{maybe, first, statement, statements}
use Rattle.opencl_tree.specs.declared.tree.Stmt.{Stmt}
use Rattle.opencl_parser.specs.Statements as reads
use Rattle.opencl_parser.specs.DeclarationsView.{maybe_known}
use Rattle.opencl_parser.specs.declared.parts.Head.{Head}
use Rattle.opencl_parser.specs.declared.parts.Item.{Item}

abbrev pub head : Head → reads.Head
head h = record { first = first h.first; test = maybe h.test; update = maybe h.update }

abbrev pub item : Item → reads.Item
item i = record { statement = statement i.statement; next = i.next; made = maybe_known i.made }

-- with the number of the next statement
abbrev pub numbered : Stmt × ℕ → tree.Statement × ℕ
numbered entry = (statement entry.0, entry.1)

abbrev pub all_numbered : Vec Stmt Global × ℕ → tree.Statements × ℕ
all_numbered entry = (statements entry.0.items, entry.1)
