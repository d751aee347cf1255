use Rattle.std.proofs.Common.{ap, sym, ◌∙◌}
use Rattle.opencl_tree.specs.View.{statements}
use Rattle.opencl_jumps.specs.View as seen
use Rattle.opencl_jumps.proofs.Reversed.{cut_behind, cut-all, cut-last}
use Rattle.opencl_jumps.proofs.switches.cut_all.Goals as goal

pub loop-statement-init : goal.loop-statement-init
loop-statement-init c = ap (cut_behind (statements c.args.body.items)) c.not_cut-so.ensures ∙ cut-all (statements c.args.body.items)

pub loop-statement-preserved : goal.loop-statement-preserved
loop-statement-preserved c =
    ap (cut_behind (statements c.pop.new.self.items)) c.in_ok-so.ensures
    ∙ sym (cut-last c.pop.new.self.items c.in-Some.statement (seen.cut c.loop-statement.so))
    ∙ ap (λ l. cut_behind (statements l) (seen.cut c.loop-statement.so)) (sym c.in-Some.ensures.items)
    ∙ c.loop-statement.invariant
