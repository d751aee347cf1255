use Rattle.std.proofs.Common.{◌≡◌, drop, map}
use Rattle.certificate.specs.View as view
use Rattle.certificate_text.specs.Rules.{all}
use Rattle.certificate_notes.specs.NamesView.{names}
use Rattle.certificate_notes.specs.Noted as noted
use Rattle.certificate_notes.proofs.lemmas.are_stated.Given as goal

abbrev pub invariant-loop-lemma : goal.invariant-loop-lemma
invariant-loop-lemma l = all (noted.is_stated (names l.names)) (map view.lemma (drop l.lemma-index l.lemmas)) ≡ all (noted.is_stated (names l.names)) (map view.lemma l.lemmas)
