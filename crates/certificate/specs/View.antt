-- The code's certificates as those of the definitions.
use Rattle.std.specs.Prelude.{map}
use Rattle.std.specs.Arc.{arc_value}
use Rattle.std.specs.String.{string_bytes}
use Rattle.linear.specs.Linear as linear
use Rattle.certificate_text.specs.Certificate as certificate
use Rattle.certificate.specs.declared.tree.Dimension.{Dimension}
use Rattle.certificate.specs.declared.tree.Dimension.TheVariants as dimensions
use Rattle.certificate.specs.declared.tree.Name.{Name, Variable, AtAnchor, Turns, Fresh, Argument, Length, Groups, Group, Local, Second', Product'}
use Rattle.certificate.specs.declared.tree.Term.{Term}
use Rattle.certificate.specs.declared.tree.Form.{Form}
use Rattle.certificate.specs.declared.tree.Anchor.{Anchor}
use Rattle.certificate.specs.declared.tree.Anchor.TheVariants as anchors
use Rattle.certificate.specs.declared.tree.Spot.{Spot}
use Rattle.certificate.specs.declared.tree.Congruence.{Congruence}
use Rattle.certificate.specs.declared.tree.Multiple.{Multiple}
use Rattle.certificate.specs.declared.tree.Place.{Place}
use Rattle.certificate.specs.declared.tree.Descent.{Descent}
use Rattle.certificate.specs.declared.tree.Descent.TheVariants as descents
use Rattle.certificate.specs.declared.tree.Bound.{Bound}
use Rattle.certificate.specs.declared.tree.EntrySort.{EntrySort}
use Rattle.certificate.specs.declared.tree.EntrySort.TheVariants as sorts
use Rattle.certificate.specs.declared.tree.Scaled.{Scaled}
use Rattle.certificate.specs.declared.tree.Step.{Step}
use Rattle.certificate.specs.declared.tree.Step.TheVariants as steps
use Rattle.certificate.specs.declared.tree.Lemma.{Lemma}
use Rattle.certificate.specs.declared.tree.Entry.{Entry}

abbrev pub dimension : Dimension → certificate.Dimension
dimension dimensions.First = certificate.First
dimension dimensions.Second = certificate.Second
dimension dimensions.Third = certificate.Third

abbrev pub name : Name → certificate.Name
name (Variable s) = certificate.Variable (string_bytes s)
name (AtAnchor s) = certificate.AtAnchor (string_bytes s)
name (Turns n) = certificate.Turns n
name (Fresh n) = certificate.Fresh n
name (Argument s) = certificate.Argument (string_bytes s)
name (Length s) = certificate.Length (string_bytes s)
name (Groups d) = certificate.Groups (dimension d)
name (Group d) = certificate.Group (dimension d)
name (Local d) = certificate.Local (dimension d)
name (Second' p n) = certificate.Second (name n)
name (Product' p first q others) = certificate.Product (name first) (name others)

abbrev pub term : Term → linear.Weighted certificate.Name
term t = record { coefficient = t.coefficient; symbol = name t.name }

abbrev pub form : Form → linear.Form certificate.Name
form f = record { terms = map term (arc_value f.terms.shared).items; constant = f.constant }

abbrev pub anchor : Anchor → certificate.Anchor
anchor anchors.KernelEntry = certificate.KernelEntry
anchor (anchors.Barrier n) = certificate.Barrier n

abbrev pub spot : Spot → certificate.Spot
spot s = record { anchor = anchor s.anchor; head = s.head }

abbrev pub congruence : Congruence → certificate.Congruence
congruence c = record { modulus = c.modulus; form = form c.form }

abbrev pub multiple : Multiple → certificate.Multiple
multiple m = record { of = form m.of; form = form m.form }

abbrev pub place : Place → certificate.Place
place p = record {
  spot = spot p.spot;
  same = map string_bytes p.same.items;
  facts = map form p.facts.items;
  congruences = map congruence p.congruences.items;
  multiples = map multiple p.multiples.items;
}

abbrev pub descent : Descent → certificate.Descent
descent (descents.Down n) = certificate.Down n
descent descents.Halve = certificate.Halve
descent (descents.Double n) = certificate.Double n

abbrev pub bound : Bound → certificate.Bound
bound b = record { loop = b.number; descent = descent b.descent; most = b.most; form = form b.form }

abbrev pub sort : EntrySort → certificate.EntrySort
sort sorts.Show = certificate.Show
sort sorts.Positive = certificate.Positive
sort sorts.Negative = certificate.Negative
sort (sorts.Quotient f) = certificate.Quotient (form f)

abbrev pub scaled : Scaled → certificate.Scaled
scaled s = record { factor = s.factor; line = s.line }

abbrev pub step : Step → certificate.Step
step (steps.Given n) = certificate.Given n
step (steps.Sum parts) = certificate.Sum (map scaled parts.items)
step (steps.Divide s) = certificate.Divide (scaled s)
step (steps.Product first second) = certificate.Product first second

abbrev pub lemma : Lemma → certificate.Lemma
lemma l = record { form = form l.form; steps = map step l.steps.items }

abbrev pub entry : Entry → certificate.Entry
entry e = record { obligation = e.obligation; sort = sort e.sort; lemmas = map lemma e.lemmas.items; steps = map step e.steps.items }
