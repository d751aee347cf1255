use Rattle.std.proofs.Common.{ap, sym, ◌∙◌, Ok}
use Rattle.semantics.specs.Core.{Loop}
use Rattle.core_code.specs.View.{term, statements}
use Rattle.core_code.proofs.Rows.{seen_loop}
use Rattle.types.proofs.statements.loop_with.Goals as goal

pub returns : goal.returns
returns c =
    let u = rw c.new-updates.ensures.items at c.in_ok-push.ensures.items in
    let r = seen_loop c.args.number c.args.test c.args.body c.push.new.self ∙ ap (λ v. Loop c.args.number (term c.args.test) (statements c.args.body.items) (statements v)) u in
    ap Ok (sym r)
