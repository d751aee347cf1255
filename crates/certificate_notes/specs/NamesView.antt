-- What the code's names of lemmas stand for.
use Rattle.certificate_notes.specs.Sights as sights
use Rattle.certificate_notes.specs.View.{chart}
use Rattle.certificate_notes.specs.declared.names.Names.{Names}

abbrev pub names : Names → sights.Chart
names n = chart n.chart
