use Rattle.std.proofs.Common.{◌≡◌, map, Ok, ap, sym, ◌∙◌, subst}
use Rattle.semantics.specs.Launch as meaning
use Rattle.launch_text.specs.LaunchReading.{launch_of}
use Rattle.kernel_names.specs.View.{names_seen}
use Rattle.syntax.specs.View.{parameter}
use Rattle.core_code.specs.View.{kernel as core_of}
use Rattle.launch_text.specs.View as view
use Rattle.launch_text.proofs.LaunchFit.{launch_fits}
use Rattle.launch_text.proofs.LeastFits.{launch_meant}
use Rattle.launch_text.proofs.reader.read_launch.Goals as goal

pub returns-clause-fit : goal.returns-clause-fit
returns-clause-fit c =
    let names = names_seen c.args.typed.now.0 in
    let own = c.names-names.ensures.parameters in
    let text = c.args.text.now in
    let read : launch_of names.parameters text ≡ Ok (view.launch c.in_ok-launch.launch) =
    ap (λ k. launch_of (names_seen k).parameters text) (sym c.names-names.ensures.value)
    ∙ ap (λ ps. launch_of (map parameter ps) text) (sym c.deref.ensures.value) ∙ c.in_ok-launch.ensures in
    let fit = launch_fits (core_of c.args.typed.now.1) names.parameters own.0 own.1 text (view.launch c.in_ok-launch.launch) read in
    subst (λ (x : meaning.Launch). meaning.Fits (core_of c.args.typed.now.1) x) (launch_meant c.in_ok-launch.launch) fit
