use Rattle.std.proofs.Common.{◌≡◌, Some, subst}
use Rattle.places.specs.Answers.{IsRefused}
use Rattle.kernel_names.specs.NameMap.{site_at}
use Rattle.kernel_names.specs.View.{names_seen}
use Rattle.core_code.specs.View.{kernel as core_seen, site as site_seen}
use Rattle.proof_search.proofs.Told.{none_placed}
use Rattle.proof_search.proofs.finding.unplaced.Goals as goal

pub returns-in-Missed : goal.returns-in-Missed
returns-in-Missed c = λ is_wide found workers kernel conditions read.
    let t = c.args.typed.now in
    let n = c.in-Missed.number in
    none_placed is_wide t found workers kernel conditions n c.site_at.result read
    (subst (λ e. IsRefused (core_seen t.1).body e) c.in-Missed.is c.requires)
    (subst (λ k. site_seen c.site_at.result ≡ site_at (names_seen k) (Some n)) c.names.ensures.value c.site_at.ensures)
