-- What the code's stations and notes stand for.
use Rattle.std.specs.Prelude.{map}
use Rattle.linear.specs.Forms.{form}
use Rattle.loop_bounds.specs.declared.bound.LoopBound.{LoopBound}
use Rattle.obligations.specs.declared.notes.Lines.{Lines}
use Rattle.obligations.specs.declared.notes.Visible.{Visible}
use Rattle.obligations.specs.declared.notes.Quotient.{Quotient}
use Rattle.obligations.specs.declared.notes.Notes.{Notes}
use Rattle.obligations.specs.View.{congruence, multiple, ranking}
use Rattle.certificate_notes.specs.Noted as noted
use Rattle.certificate_notes.specs.Stations as stations
use Rattle.certificate_notes.specs.View.{named, sight}
use Rattle.certificate_notes.specs.declared.station.Station.{Station}

abbrev pub station : Station → stations.Station
station s = record { anchor = s.anchor; head = s.head; agreeing = map named s.agreeing.now; sight = sight s.sight }

abbrev pub lines : Lines → noted.Lines
lines l = record { anchor = l.anchor; head = l.head; same = l.same.items; facts = map form l.facts.items; congruences = map congruence l.congruences.items; multiples = map multiple l.multiples.items }

abbrev pub ranked : LoopBound → noted.Ranked
ranked b = record { loop = b.number; ranking = ranking b.bound }

abbrev pub visible : Visible → noted.Visible
visible v = record { statement = v.statement; slots = v.slots.items }

abbrev pub quoted : Quotient → noted.Quoted
quoted q = record { claim = q.claim; form = form q.form }

abbrev pub notes : Notes → noted.Noted
notes n = record {
  is_wide = n.is_wide;
  joins = n.joins;
  places = map lines n.places.items;
  rankings = map ranked n.rankings.items;
  visible = map visible n.visible.items;
  quotients = map quoted n.quotients.items;
}
