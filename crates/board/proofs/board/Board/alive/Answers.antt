use Rattle.std.proofs.Common.{◌∙◌, ap, set}
use Rattle.board.proofs.Readings.{eight_written, read_is}
use Rattle.board.proofs.board.Board.alive.Goals as goal

pub returns-clause-read : goal.returns-clause-read
returns-clause-read c =
    let two = c.read-b.ensures.left ∙ ap (λ l. set l 1 c.read-b.result) c.read-a.ensures.left in
    let three = c.read-c.ensures.left ∙ ap (λ l. set l 2 c.read-c.result) two in
    let four = c.read-d.ensures.left ∙ ap (λ l. set l 3 c.read-d.result) three in
    let five = c.read-e.ensures.left ∙ ap (λ l. set l 4 c.read-e.result) four in
    let six = c.read-f.ensures.left ∙ ap (λ l. set l 5 c.read-f.result) five in
    let seven = c.read-g.ensures.left ∙ ap (λ l. set l 6 c.read-g.result) six in
    let eight = c.read-h.ensures.left ∙ ap (λ l. set l 7 c.read-h.result) seven in
    read_is c.args.self.now c.args.seat.now c.read-h.new.seat _ c.read-h.ensures.seat
    (eight ∙ eight_written c.args.seat.now.me.0.left _ _ _ _ _ _ _ _ c.requires.2.1)
    c.read-h.ensures.greatest
    (λ k s. c.read-h.ensures.more k (c.read-g.ensures.more k (c.read-f.ensures.more k (c.read-e.ensures.more k (c.read-d.ensures.more k (c.read-c.ensures.more k (c.read-b.ensures.more k (c.read-a.ensures.more k s))))))))

pub returns-clause-more : goal.returns-clause-more
returns-clause-more c = λ k s. c.read-h.ensures.more k (c.read-g.ensures.more k (c.read-f.ensures.more k (c.read-e.ensures.more k (c.read-d.ensures.more k (c.read-c.ensures.more k (c.read-b.ensures.more k (c.read-a.ensures.more k s)))))))
