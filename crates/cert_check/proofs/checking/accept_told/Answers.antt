use Rattle.std.proofs.Common.{◌≡◌, true, [], map, subst, sym}
use Rattle.std.specs.Option.{option_map}
use Rattle.core_code.specs.View.{kernel}
use Rattle.kernel_names.specs.View.{names_seen}
use Rattle.launch.specs.View.{conditions}
use Rattle.places.specs.View.{place}
use Rattle.obligations.specs.View.{seen}
use Rattle.certificate_text.specs.Rules.{rises, entry_is_before}
use Rattle.certificate.specs.EntryCursors.{front, left}
use Rattle.certificate_notes.specs.Noted.{noted}
use Rattle.certificate_notes.specs.NotesView as views
use Rattle.cert_check.specs.Breadth.{text_says}
use Rattle.cert_check.specs.Checked.{IsTold}
use Rattle.cert_check.proofs.Going.{opened_again, entries_rise}
use Rattle.cert_check.proofs.Saying.{is_said, tells_of_items}
use Rattle.cert_check.proofs.Stopped.{stopped}
use Rattle.cert_check.proofs.Unshown.{passes_with, unshown}
use Rattle.cert_check.proofs.checking.accept_told.Goals as goal

pub show-requires-clause-items : goal.show-requires-clause-items
show-requires-clause-items c =
    let k = kernel c.args.typed.now.1 in
    let source = names_seen c.args.typed.now.0 in
    let ps = map place c.args.places.now in
    let told = c.requires.told in
    tells_of_items k source told.certificate ps c.in-Some.notes (subst (λ x. option_map views.notes x ≡ noted k source ps told.certificate) c.in-Some.is told.noted)

pub show-requires-clause-rises : goal.show-requires-clause-rises
show-requires-clause-rises c =
    let text = c.args.certificate.now in
    let told = c.requires.told in
    let es = c.in-Ok.entries in
    let again = opened_again (text_says c.args.is_wide text) told.certificate (front es) (left es) told.says c.in-Ok.ensures.0 in
    subst (λ xs. rises entry_is_before xs ≡ true) (sym again.1) (entries_rise c.args.is_wide text told.certificate told.says)

pub returns-in-Ok-show-clause-passed : goal.returns-in-Ok-show-clause-passed
returns-in-Ok-show-clause-passed c =
    let k = kernel c.args.typed.now.1 in
    let source = names_seen c.args.typed.now.0 in
    let cond = conditions c.args.conditions.now in
    let ps = map place c.args.places.now in
    let text = c.args.certificate.now in
    let told = c.requires.told in
    let cert = told.certificate in
    let n = c.in-Some.notes in
    let es = c.in-Ok.entries in
    let again = opened_again (text_says c.args.is_wide text) cert (front es) (left es) told.says c.in-Ok.ensures.0 in
    let said = is_said k source cert ps n c.requires.places (subst (λ x. option_map views.notes x ≡ noted k source ps cert) c.in-Some.is told.noted) in
    let p = passes_with k source cond cert (left es).entries (seen n []) again.1 said c.in-Ok-show.ensures.passed in
    (c.requires.met, cert, p.0, told.says, p.1, p.2)

pub returns-clause-stopped : goal.returns-clause-stopped
returns-clause-stopped c =
    let k = kernel c.args.typed.now.1 in
    let source = names_seen c.args.typed.now.0 in
    let cond = conditions c.args.conditions.now in
    let ps = map place c.args.places.now in
    let text = c.args.certificate.now in
    let told = c.requires.told in
    let cert = told.certificate in
    let n = c.in-Some.notes in
    let es = c.in-Ok.entries in
    let error = c.in-Err-show.error in
    let again = opened_again (text_says c.args.is_wide text) cert (front es) (left es) told.says c.in-Ok.ensures.0 in
    let said = is_said k source cert ps n c.requires.places (subst (λ x. option_map views.notes x ≡ noted k source ps cert) c.in-Some.is told.noted) in
    let as_told = subst (λ x. IsTold (names_seen x) error c.unshown.result) c.names.ensures.value c.unshown.ensures in
    stopped c.args.is_wide c.args.typed.now cond text cert c.requires.met told.says error c.unshown.result as_told (unshown k source cond cert (left es).entries (seen n []) again.1 said error c.in-Err-show.ensures.lacks)
