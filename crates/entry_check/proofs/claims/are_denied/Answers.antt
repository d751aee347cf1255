use Rattle.std.proofs.Common.{◌&&◌, ap, sym, ◌∙◌}
use Rattle.two_thread.specs.Fitting.{claims_fit}
use Rattle.two_thread.specs.View.{met_claims}
use Rattle.walk.specs.Cursors.{left_claims}
use Rattle.entry_check.proofs.Holding.{denied_both}
use Rattle.entry_check.proofs.claims.are_denied.Goals as goal

pub returns-clause-exact : goal.returns-clause-exact
returns-clause-exact g c =
    (λ j. c.in_ok-held.ensures.exact j && (c.in_ok-others.ensures.exact ∙ ap claims_fit c.in_ok-next.ensures.claims) j)
    ∙ sym (denied_both (met_claims c.args.met.now) (left_claims g.D.Domain c.args.terrain.now c.args.behind.now))
