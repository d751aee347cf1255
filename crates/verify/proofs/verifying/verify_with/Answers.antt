use Rattle.std.proofs.Common.{rules, ◌≡◌, ◌∙◌, subst}
use Rattle.certificate.specs.Certificates.{certificate as certificate_seen}
use Rattle.launch.specs.View.{conditions as conditions_seen}
use Rattle.cert_check.specs.Refusing.{IsPassedBy}
use Rattle.cert_check.specs.View.{typed_of, kept}
use Rattle.proof_search.specs.Searching.{text_by}
use Rattle.verify.proofs.verifying.verify_with.Goals as goal

pub returns-in-Ok-clause-verified : goal.returns-in-Ok-clause-verified
returns-in-Ok-clause-verified c =
    let a = c.in-Ok.accepted in
    let answers = c.in-Ok.ensures in
    let text : c.deref.result.now ≡ text_by c.args.is_wide (certificate_seen c.args.found.certificate) = search rules in
    record {
      kernel = answers.kernel;
      conditions = answers.conditions;
      passed = subst (IsPassedBy c.args.is_wide (typed_of a) (conditions_seen (kept a))) text answers.passed;
      pair = answers.pair;
      headline = answers.headline;
    }
