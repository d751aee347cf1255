use Rattle.std.proofs.Common.{ap, sym, ◌∙◌, List, Bool}
use Rattle.core_code.specs.View.{kernel}
use Rattle.launch.specs.View.{conditions}
use Rattle.linear.specs.Forms.{forms}
use Rattle.facts.proofs.Unmade.{passed}
use Rattle.facts.specs.View.{known_seen}
use Rattle.obligations.specs.View.{seen}
use Rattle.obligations.specs.Owning.{all_own_accesses, all_own_ends}
use Rattle.two_thread.specs.Alike.{notes_of}
use Rattle.two_thread.specs.Fitting.{claims_fit}
use Rattle.two_thread.specs.Listed.{all_listed}
use Rattle.two_thread.specs.Paths.{all_claims, all_ends, all_accesses, claims_of, ends_of, accesses_of}
use Rattle.two_thread.specs.Refusals.{AreUngathered}
use Rattle.two_thread.proofs.Spreading.{claims_are, ends_are, accesses_are}
use Rattle.two_thread.proofs.Whole.{listed_same, fits_same, moved}
use Rattle.two_thread.proofs.numbered.Obligations.of.Goals as goal

pub gather-requires-clause-accesses : goal.gather-requires-clause-accesses
gather-requires-clause-accesses g c = ap all_own_accesses (ap all_accesses c.in_ok-paths.ensures ∙ accesses_are c.args.walked.items) ∙ c.requires.accesses

pub gather-requires-clause-ends : goal.gather-requires-clause-ends
gather-requires-clause-ends g c = ap all_own_ends (ap all_ends c.in_ok-paths.ensures ∙ ends_are c.args.walked.items) ∙ c.requires.ends

pub returns-clause-listed : goal.returns-clause-listed
returns-clause-listed g c = λ x. c.in_ok-found.ensures.listed ∙ listed_same (notes_of c.in_ok-alike.alike.items) (seen c.args.notes.now x) c.in_ok-alike.ensures.same g.D.Domain (known_seen c.args.premises.known) (forms c.args.premises.launch.items) (kernel c.args.core.now) (conditions c.args.conditions.now) c.in_ok-paths.paths.items c.args.walked.items c.in_ok-paths.ensures

pub returns-clause-fits : goal.returns-clause-fits
returns-clause-fits g c = λ x. c.in_ok-found.ensures.fits ∙ fits_same (notes_of c.in_ok-alike.alike.items) (seen c.args.notes.now x) c.in_ok-alike.ensures.same g.D.Domain (known_seen c.args.premises.known) (forms c.args.premises.launch.items) (kernel c.args.core.now) (conditions c.args.conditions.now) c.in_ok-paths.paths.items c.args.walked.items c.in_ok-paths.ensures

pub returns-clause-denied : goal.returns-clause-denied
returns-clause-denied g c = sym (ap claims_fit (ap all_claims c.in_ok-paths.ensures ∙ claims_are c.args.walked.items)) ∙ c.in_ok-found.ensures.denied

pub returns-in_err-found-clause-ungathered : goal.returns-in_err-found-clause-ungathered
returns-in_err-found-clause-ungathered g c =
    let ps = c.in_ok-paths.paths.items in
    let ws = c.args.walked.items in
    let e = c.in_err-found.field-0.0 in
    let same = ap claims_fit (ap all_claims c.in_ok-paths.ensures ∙ claims_are ws) in
    passed c.from_residual-in_err-found.result e (λ e. (x : List Bool) → AreUngathered (all_listed g.D.Domain (known_seen c.args.premises.known) (forms c.args.premises.launch.items) (seen c.args.notes.now x) (kernel c.args.core.now) (conditions c.args.conditions.now) (claims_of ws) (ends_of ws) (accesses_of ws)) (claims_fit (claims_of ws)) e) c.from_residual-in_err-found.ensures.1
    (λ x. moved (all_listed g.D.Domain (known_seen c.args.premises.known) (forms c.args.premises.launch.items) (notes_of c.in_ok-alike.alike.items) (kernel c.args.core.now) (conditions c.args.conditions.now) (all_claims ps) (all_ends ps) (all_accesses ps)) (all_listed g.D.Domain (known_seen c.args.premises.known) (forms c.args.premises.launch.items) (seen c.args.notes.now x) (kernel c.args.core.now) (conditions c.args.conditions.now) (claims_of ws) (ends_of ws) (accesses_of ws)) (claims_fit (all_claims ps)) (claims_fit (claims_of ws)) e (listed_same (notes_of c.in_ok-alike.alike.items) (seen c.args.notes.now x) c.in_ok-alike.ensures.same g.D.Domain (known_seen c.args.premises.known) (forms c.args.premises.launch.items) (kernel c.args.core.now) (conditions c.args.conditions.now) c.in_ok-paths.paths.items c.args.walked.items c.in_ok-paths.ensures) same c.in_err-found.ensures.ungathered)
