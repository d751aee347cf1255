use Rattle.std.proofs.Common.{◌≡◌, Some, ap, sym, subst, ◌∙◌}
use Rattle.std.specs.Prelude.{IsTrue}
use Rattle.linear.specs.Products.{IsImpossibleWithProducts}
use Rattle.linear.specs.Forms.{forms}
use Rattle.certificate.specs.View.{entry}
use Rattle.two_thread.specs.Goals.{maybe_forms}
use Rattle.entry_check.specs.Entries.{facts_for}
use Rattle.entry_check.specs.Hand.{obligation_at}
use Rattle.entry_check.proofs.Unshown.{shown_by}
use Rattle.entry_check.proofs.refuting.is_refuted_by.Goals as goal

pub returns-clause-shown : goal.returns-clause-shown
returns-clause-shown g c =
    let o = obligation_at g.D.Domain c.args.asked.now.premises c.args.met.now c.args.owed in
    let e = entry c.args.entry.now in
    let xs = c.in-Some.facts.items in
    let b = c.in_ok-is_refuted.field-0 in
    let f : Some (forms xs) ≡ facts_for e.sort o = ap maybe_forms (sym c.in-Some.is) ∙ c.in_ok-facts.ensures in
    shown_by o e xs b f (subst (λ l. IsTrue b → IsImpossibleWithProducts (forms l)) c.as_slice.ensures.value c.in_ok-is_refuted.ensures.impossible)
