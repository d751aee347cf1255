use Rattle.std.proofs.Common.{sym, ◌∙◌, subst, ap, length, refl}
use Rattle.core_code.specs.View.{kernel}
use Rattle.launch.specs.View.{launch, conditions}
use Rattle.semantics.specs.Conditions.{Meets}
use Rattle.cert_check.specs.View.{typed_of, kept}
use Rattle.executor.proofs.Kernels.{arguments-alike, buffers-alike}
use Rattle.executor.proofs.here.run_here.Goals as goal

pub meets-requires-clause-arguments : goal.meets-requires-clause-arguments
meets-requires-clause-arguments c =
    let a = c.conditions.result.now.arguments in
    let b = c.args.launch.now.arguments in
    a.ok.0 ∙ ap (λ x. length x.arguments.items) c.conditions.ensures.value ∙ arguments-alike (kernel (typed_of c.args.accepted.now).1) (kept c.args.accepted.now).arguments.items b.items c.conditions.ensures.parameters.arguments c.requires.arguments ∙ sym b.ok.0

pub meets-requires-clause-buffers : goal.meets-requires-clause-buffers
meets-requires-clause-buffers c =
    let a = c.conditions.result.now.lengths in
    let b = c.args.launch.now.buffers.words in
    a.ok.0 ∙ ap (λ x. length x.lengths.items) c.conditions.ensures.value ∙ buffers-alike (kernel (typed_of c.args.accepted.now).1) (kept c.args.accepted.now).lengths.items b.items c.conditions.ensures.parameters.buffers c.requires.buffers ∙ sym b.ok.0

pub run_groups_here-requires-clause-meets : goal.run_groups_here-requires-clause-meets
run_groups_here-requires-clause-meets c =
    subst (λ x. Meets (conditions x) (launch c.args.launch.now)) c.conditions.ensures.value (c.in_ok-meets.ensures.met.0 refl)

pub answered-requires-clause-meets : goal.answered-requires-clause-meets
answered-requires-clause-meets c =
    subst (λ x. Meets (conditions x) (launch c.args.launch.now)) c.conditions.ensures.value (c.in_ok-meets.ensures.met.0 refl)

pub returns-clause-meets : goal.returns-clause-meets
returns-clause-meets c =
    subst (λ x. Meets (conditions x) (launch c.args.launch.now)) c.conditions.ensures.value (c.in_ok-meets.ensures.met.0 refl)
