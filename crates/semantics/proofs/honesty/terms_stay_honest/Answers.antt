use Rattle.semantics.proofs.HonestTerms.{heeds}
use Rattle.semantics.proofs.honesty.terms_stay_honest.Goals as goal

pub returns : goal.returns
returns c = λ s cs i now e variables answers a k site w h held p. (heeds s cs i now variables e).more answers a k site w h held p
