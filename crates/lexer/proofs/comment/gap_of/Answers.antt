use Rattle.std.proofs.Common.{ap, sym, ◌∙◌, arith}
use Rattle.std.proofs.lemmas.List.{take_rest}
use Rattle.texts.specs.Tokens.{comment_gap}
use Rattle.lexer.specs.Seen.{leaves}
use Rattle.lexer.proofs.Pieces.{place_here, place_more}
use Rattle.lexer.proofs.comment.gap_of.Goals as goal

pub returns-then-leaves : goal.returns-then-leaves
returns-then-leaves c =
    sym (ap (λ o. comment_gap o c.args.count) (c.loop-i.invariant ∙ place_here (leaves c.args.comment) c.loop-i.i c.args.count c.args.bytes.now c.loop-i-test.true (omega (arith, c.requires, c.loop-i-test.true)) (rw take_rest at (sym c.leaves.ensures ∙ c.if-leaves.true))))

pub loop-i-preserved : goal.loop-i-preserved
loop-i-preserved c =
    c.loop-i.invariant ∙ place_more (leaves c.args.comment) c.loop-i.i c.args.count c.args.bytes.now c.loop-i-test.true (omega (arith, c.requires, c.loop-i-test.true)) (rw take_rest at (sym c.leaves.ensures ∙ c.if-leaves.false))
