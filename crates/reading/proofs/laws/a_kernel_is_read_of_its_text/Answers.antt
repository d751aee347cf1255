use Rattle.reading.proofs.Grammatical.{read-complete}
use Rattle.reading.proofs.laws.a_kernel_is_read_of_its_text.Goals as goal

pub returns : goal.returns
returns c = read-complete
