use Rattle.std.proofs.Common.{ap, ◌∙◌, map}
use Rattle.std.specs.Prelude.{option_to_list}
use Rattle.std.specs.Option.{option_map}
use Rattle.certificate.specs.Drafts.{opened}
use Rattle.certificate.specs.EntryAnswers.{settled_first}
use Rattle.certificate.specs.Numbers.{numbered_draft}
use Rattle.certificate.specs.Tables.{table}
use Rattle.certificate.specs.View as view
use Rattle.certificate.proofs.EntryTurns.{popped, taken_off}
use Rattle.certificate.proofs.RowsKept.{row_few}
use Rattle.certificate.proofs.entry_steps.take_row.Goals as goal

pub returns : goal.returns
returns c =
    let d = c.in_ok-draft.draft in
    let before = d.read.settled.entries.items in
    let behind = c.pop-entry.new.self.items in
    let one = row_few c.args.is_numbered (table c.args.table.now) (numbered_draft c.args.draft) c.args.line.now (numbered_draft d) c.requires c.in_ok-draft.ensures in
    let p = popped view.entry before behind c.pop-entry.result d.read.settled.entries.len c.pop-entry.new.self.len d.read.settled.entries.ok.0 c.pop-entry.new.self.ok.0 c.pop-entry.ensures.items one.few c.pop-entry.ensures.cases in
    ap (option_map settled_first) c.in_ok-draft.ensures
    ∙ taken_off d.used d.read.settled.is_wide d.read.settled.joins (map view.place d.read.settled.places.items) (map view.bound d.read.settled.bounds.items) (opened d.read.opened) (map view.entry before) (option_to_list (option_map view.entry c.pop-entry.result)) (map view.entry behind) p.0 p.1
