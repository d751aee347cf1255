use Rattle.std.proofs.Common.{rules}
use Rattle.std.proofs.lemmas.List.{take_rest}
use Rattle.opencl_macros.specs.SeenReading.{state}
use Rattle.opencl_macros.proofs.Pieces.{taken-piece, failed-piece}
use Rattle.opencl_macros.proofs.reading.take_piece.Goals as goal

pub returns : goal.returns
returns c =
    taken-piece c.args.tokens.now c.first_of-first.result (state c.args.s.now) c.length_behind-count.result _ (search rules)
    c.first_of-first.ensures (rw take_rest at c.length_behind-count.ensures.is) (rw take_rest at c.in_ok-put_piece.ensures)

pub returns-in_err-put_piece : goal.returns-in_err-put_piece
returns-in_err-put_piece c =
    let failed = failed-piece _ c.args.tokens.now c.first_of-first.result (state c.args.s.now) c.length_behind-count.result
    (search rules) c.first_of-first.ensures (rw take_rest at c.length_behind-count.ensures.is)
    (rw take_rest at c.in_err-put_piece.ensures) in
    search rules
