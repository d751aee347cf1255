use Rattle.std.specs.Prelude.{◌*ℤ◌}
use Rattle.domain.proofs.Widths.{corners}
use Rattle.domain.proofs.interval.products.Goals as goal

pub returns : goal.returns
returns c =
    corners (λ a b. a *ℤ b) c.around.result c.args.a c.args.b c.args.c c.args.d c.product.result c.product-2.result c.product-3.result c.product-4.result
    c.ranges.a c.ranges.b c.ranges.c c.ranges.d (record { sfits = c.product.type_inv }) (record { sfits = c.product-2.type_inv }) (record { sfits = c.product-3.type_inv }) (record { sfits = c.product-4.type_inv })
    c.around.ensures c.product.ensures c.product-2.ensures c.product-3.ensures c.product-4.ensures
