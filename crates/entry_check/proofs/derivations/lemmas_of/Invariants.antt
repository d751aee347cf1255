use Rattle.std.proofs.Common.{◌≡◌, drop, map}
use Rattle.certificate.specs.View.{lemma}
use Rattle.cut_proof.specs.View.{lemma as shown}
use Rattle.certificate_notes.specs.Behind.{after}
use Rattle.certificate_notes.specs.Noted.{each}
use Rattle.entry_check.specs.Entries.{lemma_of}
use Rattle.entry_check.specs.View.{stated}
use Rattle.entry_check.proofs.derivations.lemmas_of.Given as goal

abbrev pub invariant-loop-lemma : goal.invariant-loop-lemma
invariant-loop-lemma l = after (map shown l.shown.items) (each (lemma_of (stated l.names)) (map lemma (drop l.lemma-index l.lemmas))) ≡ each (lemma_of (stated l.names)) (map lemma l.lemmas)
