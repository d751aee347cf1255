use Rattle.reading.proofs.Grammatical.{read-tree}
use Rattle.reading.proofs.laws.what_is_read_is_the_tree_of_a_text.Goals as goal

pub returns : goal.returns
returns c = read-tree
