use Rattle.linear.proofs.Widths.{wider, product_fits, sum_fits}
use Rattle.std.proofs.lemmas.Int.{to_z-of_z}
use Rattle.linear.proofs.term.wide.Goals as goal

pub overflow_add-result : goal.overflow_add-result
overflow_add-result c =
    let fx = c.ranges.x in
    let fk = c.ranges.k in
    let fy = c.ranges.y in
    let x = wider c.args.x fx in
    let k = wider c.args.k fk in
    let y = wider c.args.y fy in
    let p = product_fits c.args.k c.args.y fk fy in
    simp to_z-of_z (sum_fits c.args.x c.args.k c.args.y fx fk fy)

pub returns : goal.returns
returns c =
    let fx = c.ranges.x in
    let fk = c.ranges.k in
    let fy = c.ranges.y in
    let x = wider c.args.x fx in
    let k = wider c.args.k fk in
    let y = wider c.args.y fy in
    let p = product_fits c.args.k c.args.y fk fy in
    let s = sum_fits c.args.x c.args.k c.args.y fx fk fy in
    simp to_z-of_z
