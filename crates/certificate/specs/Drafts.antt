-- The code's drafts as those of the definitions.
use Rattle.std.specs.Prelude.{map}
use Rattle.certificate_text.specs.Certificate as certificate
use Rattle.certificate_text.specs.Drafts as drafting
use Rattle.certificate.specs.declared.draft.Parts.{Parts}
use Rattle.certificate.specs.declared.draft.Open.{Open}
use Rattle.certificate.specs.declared.draft.Open.TheVariants as opens
use Rattle.certificate.specs.declared.draft.Draft.{Draft}
use Rattle.certificate.specs.View as view

abbrev pub parts : Parts → certificate.Certificate
parts p =
    drafting.certificate_with p.is_wide p.joins (map view.place p.places.items) (map view.bound p.bounds.items) (map view.entry p.entries.items)

abbrev pub opened : Open → drafting.Open
opened opens.Nothing = drafting.Nothing
opened (opens.InPlace p) = drafting.InPlace (view.place p)
opened (opens.InEntry e) = drafting.InEntry (view.entry e)
opened (opens.InLemma e l) = drafting.InLemma (view.entry e) (view.lemma l)
opened opens.Ended = drafting.Ended

abbrev pub draft : Draft → drafting.Draft
draft d = drafting.draft (parts d.settled) (opened d.opened)
