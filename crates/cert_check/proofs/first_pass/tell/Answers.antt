use Rattle.std.proofs.Common.{map}
use Rattle.core_code.specs.View.{kernel}
use Rattle.kernel_names.specs.View.{names_seen}
use Rattle.certificate.specs.EntryCursors.{front, left}
use Rattle.certificate_notes.specs.NamesView.{names}
use Rattle.places.specs.View.{place}
use Rattle.cert_check.proofs.Going.{told_whole, told_refused}
use Rattle.cert_check.proofs.first_pass.tell.Goals as goal

pub returns-clause-told : goal.returns-clause-told
returns-clause-told c =
    let k = kernel c.args.typed.now.1 in
    let source = names_seen c.args.typed.now.0 in
    let es = c.in_ok-entries.entries in
    let o = c.in_ok-entries.ensures in
    told_whole c.args.is_wide c.args.text.now k source (map place c.args.places.now) (front es) (left es) o.0 (names c.in-Ok.names) c.told_by.result c.in-Ok.ensures c.told_by.ensures.whole c.told_by.ensures.notes c.told_by.ensures.flags

pub returns-clause-refused : goal.returns-clause-refused
returns-clause-refused c =
    let k = kernel c.args.typed.now.1 in
    let source = names_seen c.args.typed.now.0 in
    let es = c.in_ok-entries.entries in
    let o = c.in_ok-entries.ensures in
    told_refused c.args.is_wide c.args.text.now k source (map place c.args.places.now) (front es) (left es) o.0 c.told_by.result c.told_by.ensures.refused
