-- What is to be at least 0 of two stops.
use Rattle.std.proofs.Common.{◌&&◌}
use Rattle.linear.specs.Exact.{fits}
use Rattle.facts.specs.Symbols.{Fact, denial}
use Rattle.facts.specs.Refusals.{IsUnfit}
use Rattle.facts.specs.declared.error.WalkError.{WalkError}
use Rattle.facts.specs.declared.error.WalkError.TheVariants as walks
use Rattle.facts.proofs.Tests.{and_left, and_right}
use Rattle.two_thread.specs.Refusals.{DoNotFit}

pub unfit_difference : (f : Fact) (e : WalkError) → IsUnfit e f → DoNotFit (fits f && fits (denial f)) e
unfit_difference f walks.TooMany u = absurd u
unfit_difference f walks.TooLarge u = and_left (fits f) (fits (denial f)) u
unfit_difference f walks.Memory u = tt

pub unfit_denial : (f : Fact) (e : WalkError) → IsUnfit e (denial f) → DoNotFit (fits f && fits (denial f)) e
unfit_denial f walks.TooMany u = absurd u
unfit_denial f walks.TooLarge u = and_right (fits f) (fits (denial f)) u
unfit_denial f walks.Memory u = tt
