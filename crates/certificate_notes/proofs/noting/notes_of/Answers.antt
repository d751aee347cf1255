use Rattle.std.proofs.Common.{rules, ◌≡◌, IfOk, map}
use Rattle.std.specs.Option.{option_map}
use Rattle.kernel_names.specs.View.{names_seen}
use Rattle.core_code.specs.View.{kernel as core_seen}
use Rattle.certificate.specs.Certificates.{certificate as certificate_seen}
use Rattle.places.specs.View.{place as place_seen}
use Rattle.certificate_notes.specs.Noted as noted
use Rattle.certificate_notes.specs.NotesView.{notes as notes_seen}
use Rattle.certificate_notes.proofs.Agreeing.{ok-agrees, ok-tells}
use Rattle.certificate_notes.proofs.Tells.{notes-tell, told}
use Rattle.certificate_notes.proofs.noting.notes_of.Goals as goal

pub returns-clause-notes : goal.returns-clause-notes
returns-clause-notes c =
    let o = noted.noted (core_seen c.args.kernel.now.1) (names_seen c.args.kernel.now.0) (map place_seen c.args.places.now) (certificate_seen c.args.certificate.now) in
    let h : IfOk c.noted_by.result (λ r. option_map notes_seen r ≡ o) = search rules in
    ok-agrees c.noted_by.result o h

pub returns-clause-items : goal.returns-clause-items
returns-clause-items c =
    let k = core_seen c.args.kernel.now.1 in
    let tree = names_seen c.args.kernel.now.0 in
    let ps = map place_seen c.args.places.now in
    let cert = certificate_seen c.args.certificate.now in
    let o = noted.noted k tree ps cert in
    let h : IfOk c.noted_by.result (λ r. option_map notes_seen r ≡ o) = search rules in
    ok-tells c.noted_by.result o h (λ m e entries. notes-tell m entries (told k tree ps cert m e))
