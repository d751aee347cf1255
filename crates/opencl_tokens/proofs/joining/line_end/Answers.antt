use Rattle.std.proofs.Common.{◌≡◌, ◌∙◌, sym, false, true, nat_eq, get_or, arith}
use Rattle.std.proofs.lemmas.Bool.Decides.{nat_tests}
use Rattle.std.proofs.lemmas.List.{take_rest}
use Rattle.texts.specs.Tokens.{is_padding}
use Rattle.opencl_tokens.proofs.Spans.{line_more}
use Rattle.opencl_tokens.proofs.joining.line_end.Goals as goal

pub loop-i-preserved : goal.loop-i-preserved
loop-i-preserved c =
    let feed : nat_eq (get_or c.args.bytes.now c.loop-i.i 0) 10 ≡ false = grind (arith, nat_tests, c.if-b-eq10.false) in
    let padding : is_padding (get_or c.args.bytes.now c.loop-i.i 0) ≡ true = sym c.is_padding.ensures ∙ c.if-not-is_padding.false in
    c.loop-i.invariant ∙ line_more c.args.bytes.now c.args.at c.loop-i.i c.loop-i-test.true feed
    (rw take_rest at (sym c.begins_return.ensures ∙ c.if-begins_return.false)) padding
