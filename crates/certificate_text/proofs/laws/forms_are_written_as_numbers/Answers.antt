use Rattle.certificate_text.proofs.NumberedSteps.{fact_numbered, congruence_numbered, multiple_numbered, bound_numbered, lemma_numbered, quotient_numbered}
use Rattle.certificate_text.proofs.laws.forms_are_written_as_numbers.Goals as goal

pub returns-clause-fact : goal.returns-clause-fact
returns-clause-fact c = fact_numbered

pub returns-clause-congruence : goal.returns-clause-congruence
returns-clause-congruence c = congruence_numbered

pub returns-clause-bound : goal.returns-clause-bound
returns-clause-bound c = bound_numbered

pub returns-clause-quotient : goal.returns-clause-quotient
returns-clause-quotient c = quotient_numbered

pub returns-clause-multiple : goal.returns-clause-multiple
returns-clause-multiple c = multiple_numbered

pub returns-clause-lemma : goal.returns-clause-lemma
returns-clause-lemma c = lemma_numbered
