-- The code's items as those of the definitions.
use Rattle.std.specs.String.{string_bytes}
use Rattle.certificate_text.specs.Lines as meaning
use Rattle.certificate.specs.declared.item.Item.{Item}
use Rattle.certificate.specs.declared.item.Item.TheVariants as items
use Rattle.certificate.specs.View.{spot, form, congruence, multiple, bound, sort, step}

abbrev pub item : Item → meaning.Item
item (items.Place s) = meaning.PlaceItem (spot s)
item (items.Same name) = meaning.SameItem (string_bytes name)
item (items.Fact f) = meaning.FactItem (form f)
item (items.Congruence c) = meaning.CongruenceItem (congruence c)
item (items.Multiple m) = meaning.MultipleItem (multiple m)
item (items.Bound b) = meaning.BoundItem (bound b)
item (items.Entry n c) = meaning.EntryItem n (sort c)
item (items.Lemma f) = meaning.LemmaItem (form f)
item items.Main = meaning.MainItem
item (items.Step s) = meaning.StepItem (step s)
item items.End = meaning.EndItem
