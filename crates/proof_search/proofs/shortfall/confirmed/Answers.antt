use Rattle.std.proofs.Common.{sym, ap, ◌∙◌, subst}
use Rattle.std.specs.Prelude.{IfSome}
use Rattle.std.specs.Option.{option_map}
use Rattle.semantics.specs.Conditions.{Meets}
use Rattle.core_code.specs.View.{kernel as core_seen}
use Rattle.launch.specs.View.{launch as launch_seen, conditions as conditions_seen}
use Rattle.proof_search.proofs.Witnesses.{of_answer}
use Rattle.proof_search.proofs.shortfall.confirmed.Goals as goal

pub confirm-requires-clause-fits : goal.confirm-requires-clause-fits
confirm-requires-clause-fits c =
    c.a_least_launch_fits.ensures (core_seen c.args.typed.now.1) c.args.conditions.now (launch_seen c.in-Some.launch) c.requires.of
    (sym c.in_ok-found.ensures.least ∙ ap (option_map launch_seen) c.in-Some.is)

pub returns-in-Some : goal.returns-in-Some
returns-in-Some c =
    let l = c.in-Some.launch in
    let n = c.args.conditions.now in
    let least = sym c.in_ok-found.ensures.least ∙ ap (option_map launch_seen) c.in-Some.is in
    let fits = c.a_least_launch_fits.ensures (core_seen c.args.typed.now.1) n (launch_seen l) c.requires.of least in
    let meets = subst (λ o. IfSome o (λ x. Meets (conditions_seen n) (launch_seen x))) c.in-Some.is c.in_ok-found.ensures.met in
    of_answer c.args.typed.now n l fits meets c.confirm.result c.confirm.ensures.shown
