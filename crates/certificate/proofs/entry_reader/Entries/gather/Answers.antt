use Rattle.std.proofs.Common.{map, Ok, ap, sym, ◌∙◌}
use Rattle.certificate.specs.EntriesLeft.{with_entries}
use Rattle.certificate.specs.EntryCursors.{front, left}
use Rattle.certificate.specs.View.{entry}
use Rattle.certificate.proofs.EntriesGathered.{refused_text, whole_text}
use Rattle.certificate.proofs.entry_reader.Entries.gather.Goals as goal

pub of-requires : goal.of-requires
of-requires c =
    let es = map entry c.in-Ok.entries.items in
    let parts = c.with_entries-parts.ensures ∙ ap (with_entries es) (c.before-in-Ok.ensures ∙ c.in-Ok.ensures.front) in
    c.requires.proper _ (whole_text (front c.args.self) (left c.args.self) es c.in-Ok.ensures.all ∙ ap Ok (sym parts))

pub returns-in-Ok : goal.returns-in-Ok
returns-in-Ok c =
    let es = map entry c.in-Ok.entries.items in
    let parts = c.with_entries-parts.ensures ∙ ap (with_entries es) (c.before-in-Ok.ensures ∙ c.in-Ok.ensures.front) in
    whole_text (front c.args.self) (left c.args.self) es c.in-Ok.ensures.all ∙ ap Ok (sym (c.of.ensures ∙ parts))

pub returns-in-Err : goal.returns-in-Err
returns-in-Err c = refused_text c.in-Err.error (front c.args.self) (left c.args.self) c.in-Err.ensures.refused
