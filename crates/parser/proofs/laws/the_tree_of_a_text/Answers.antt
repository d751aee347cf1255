use Rattle.parser.proofs.TextTrees.{text-tree}
use Rattle.parser.proofs.laws.the_tree_of_a_text.Goals as goal

pub returns : goal.returns
returns c = text-tree
