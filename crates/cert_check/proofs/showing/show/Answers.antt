use Rattle.std.proofs.Common.{◌≡◌, true, ap, sym, subst, map, []}
use Rattle.std.specs.Prelude.{IfOk}
use Rattle.core_code.specs.View.{kernel}
use Rattle.kernel_names.specs.View.{names_seen}
use Rattle.launch.specs.View.{conditions}
use Rattle.facts.specs.Launching.{are_sizes}
use Rattle.arrivals.specs.Places.{places}
use Rattle.places.specs.View.{place}
use Rattle.obligations.specs.View.{seen}
use Rattle.certificate_notes.specs.Noted.{lemma_form, stated}
use Rattle.certificate_notes.specs.NamesView.{names}
use Rattle.plain_kernels.specs.Domains.{domain}
use Rattle.certificate.specs.EntryCursors.{left}
use Rattle.entry_check.specs.Lacking.{PassesOf, TellsOf}
use Rattle.cert_check.specs.Checked.{AllIsShown}
use Rattle.cert_check.proofs.Handing.{mapped, follows}
use Rattle.cert_check.proofs.Unshown.{passes_named, tells_named}
use Rattle.cert_check.proofs.showing.show.Goals as goal

pub show_noted-requires-clause-sizes : goal.show_noted-requires-clause-sizes
show_noted-requires-clause-sizes c = subst (λ x. are_sizes (kernel x).sizes ≡ true) (sym c.core.ensures.value) c.requires.sizes

pub show_noted-requires-clause-places : goal.show_noted-requires-clause-places
show_noted-requires-clause-places c = subst (λ x. map place c.args.places.now ≡ places (kernel x).body) (sym c.core.ensures.value) c.requires.places

pub returns-clause-passed : goal.returns-clause-passed
returns-clause-passed c =
    let k = kernel c.args.typed.now.1 in
    let k' = kernel c.core.result.now in
    let source = names_seen c.args.typed.now.0 in
    let cond = conditions c.args.conditions.now in
    let es = (left c.args.entries.now).entries in
    let n = seen c.args.notes.now [] in
    let chart = names c.in-Ok.names in
    follows c.show_noted.result (PassesOf domain k' cond (lemma_form chart) n es) (PassesOf domain k cond (stated k source) n es) (passes_named k k' source cond n es chart (ap kernel c.core.ensures.value) c.in-Ok.ensures) c.show_noted.ensures.passed

pub returns-clause-shown : goal.returns-clause-shown
returns-clause-shown c = subst (λ x. IfOk c.show_noted.result (λ _. AllIsShown (kernel x) (conditions c.args.conditions.now))) c.core.ensures.value c.show_noted.ensures.shown

pub returns-clause-lacks : goal.returns-clause-lacks
returns-clause-lacks c =
    let k = kernel c.args.typed.now.1 in
    let k' = kernel c.core.result.now in
    let source = names_seen c.args.typed.now.0 in
    let cond = conditions c.args.conditions.now in
    let es = (left c.args.entries.now).entries in
    let n = seen c.args.notes.now [] in
    let chart = names c.in-Ok.names in
    mapped c.show_noted.result (TellsOf domain k' cond (lemma_form chart) n es) (TellsOf domain k cond (stated k source) n es) (tells_named k k' source cond n es chart (ap kernel c.core.ensures.value) c.in-Ok.ensures) c.show_noted.ensures.lacks
