use Rattle.std.specs.Prelude.{[]}
use Rattle.semantics.proofs.HonestTerms.{heeds}
use Rattle.semantics.proofs.honesty.terms_ask_inside.Goals as goal

pub returns : goal.returns
returns c = λ s i now e variables answers a k site h. (heeds s [] i now variables e).inside answers a k site h
