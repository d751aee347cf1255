use Rattle.std.proofs.Common.{map, refl, ap}
use Rattle.lines.specs.Left.{left as lines_left}
use Rattle.certificate_text.proofs.Cuts.{none_left}
use Rattle.certificate.specs.Drafts.{opened}
use Rattle.certificate.specs.Tables.{table}
use Rattle.certificate.specs.View as view
use Rattle.certificate.proofs.EntriesOpened.{behind_of}
use Rattle.certificate.proofs.entry_reader.Entries.behind.Goals as goal

pub returns : goal.returns
returns c =
    let d = c.args.draft in
    let p = d.read.settled in
    let none = none_left (map view.entry p.entries.items) c.requires.none in (
      behind_of c.args.is_numbered p.is_wide p.joins (map view.place p.places.items) (map view.place c.new.result.items) (map view.bound p.bounds.items) (map view.bound c.new-2.result.items) (map view.entry p.entries.items) (map view.entry c.new-3.result.items) (table c.args.table) c.args.number d.used (opened d.read.opened) (lines_left c.args.rest) none c.requires.begun
          (ap (map view.place) c.new.ensures.items) (ap (map view.bound) c.new-2.ensures.items) (ap (map view.entry) c.new-3.ensures.items),
      refl,
      none,
    )
