use Rattle.parser.proofs.Truth.{parsed-complete}
use Rattle.parser.proofs.laws.a_kernel_within_the_limits_is_parsed.Goals as goal

pub returns : goal.returns
returns c = parsed-complete
