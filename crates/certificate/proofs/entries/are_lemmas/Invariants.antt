use Rattle.std.proofs.Common.{◌≡◌, drop, map}
use Rattle.certificate_text.specs.Rules as rules
use Rattle.certificate.specs.View as view
use Rattle.certificate.proofs.entries.are_lemmas.Given as goal

abbrev pub invariant-loop-lemma : goal.invariant-loop-lemma
invariant-loop-lemma l = rules.all rules.is_lemma (map view.lemma (drop l.lemma-index l.lemmas)) ≡ rules.all rules.is_lemma (map view.lemma l.lemmas)
