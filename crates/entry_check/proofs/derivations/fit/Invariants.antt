use Rattle.std.proofs.Common.{◌≡◌, ◌+◌, ◌≤◌, nat_le, drop, map}
use Rattle.certificate.specs.View.{lemma}
use Rattle.entry_check.specs.Entries.{lemma_lines}
use Rattle.entry_check.proofs.derivations.fit.Given as goal

abbrev pub invariant-loop-lemma : goal.invariant-loop-lemma
invariant-loop-lemma l = (l.all ≤ 65536) × (nat_le (l.all + lemma_lines (map lemma (drop l.lemma-index l.lemmas))) 65536 ≡ nat_le (l.own + lemma_lines (map lemma l.lemmas)) 65536)
