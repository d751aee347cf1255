use Rattle.std.proofs.Common.{◌≡◌, map, Ok, ap, sym, ◌∙◌, subst}
use Rattle.semantics.specs.Conditions as meaning
use Rattle.launch_text.specs.ConditionsReading.{conditions_of}
use Rattle.kernel_names.specs.View.{names_seen}
use Rattle.syntax.specs.View.{parameter}
use Rattle.core_code.specs.View.{kernel as core_of}
use Rattle.launch_text.specs.View as view
use Rattle.launch_text.proofs.ConditionsFit.{conditions_fit}
use Rattle.launch_text.proofs.LeastFits.{conditions_meant}
use Rattle.launch_text.proofs.reader.read_conditions_as.Goals as goal

pub returns-clause-of : goal.returns-clause-of
returns-clause-of c =
    let names = names_seen c.args.typed.now.0 in
    let own = c.names-names.ensures.parameters in
    let text = c.args.text.now in
    let may = c.args.may_be_two in
    let read : conditions_of may names.parameters text ≡ Ok (view.lined c.in_ok-conditions.conditions) =
    ap (λ k. conditions_of may (names_seen k).parameters text) (sym c.names-names.ensures.value)
    ∙ ap (λ ps. conditions_of may (map parameter ps) text) (sym c.deref.ensures.value) ∙ c.in_ok-conditions.ensures in
    conditions_fit may (core_of c.args.typed.now.1) names.parameters own.0 own.1 text (view.lined c.in_ok-conditions.conditions) read

pub returns-clause-fit : goal.returns-clause-fit
returns-clause-fit c =
    subst (λ (x : meaning.Conditions). meaning.ConditionsFit (core_of c.args.typed.now.1) x) (conditions_meant c.in_ok-conditions.conditions) (returns-clause-of c).fit
