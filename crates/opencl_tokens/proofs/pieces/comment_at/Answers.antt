use Rattle.std.proofs.Common.{◌∙◌, sym}
use Rattle.std.proofs.lemmas.List.{take_rest}
use Rattle.opencl_tokens.proofs.Spans.{comment_more}
use Rattle.opencl_tokens.proofs.pieces.comment_at.Goals as goal

pub loop-i-preserved : goal.loop-i-preserved
loop-i-preserved c =
    c.loop-i.invariant ∙ comment_more c.args.bytes.now c.loop-i.i c.loop-i-test.true
    (rw take_rest at (sym c.ends_comment.ensures ∙ c.if-ends_comment.false))
