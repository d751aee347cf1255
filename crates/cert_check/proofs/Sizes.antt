-- Local sizes within the limits of a text.
use Rattle.std.proofs.Common.{◌≡◌, ℕ, ◌<◌, ◌≤◌, ◌*◌, ◌&&◌, true, arith, mul-le-mul}
use Rattle.std.specs.Prelude.{nat_le}
use Rattle.std.proofs.lemmas.Bool.{and_from}
use Rattle.std.proofs.lemmas.Bool.{le-leb}
use Rattle.semantics.specs.Launch.{Kernel, product}
use Rattle.facts.specs.Launching.{are_sizes}
use Rattle.reading.specs.Limits.{HasLocalSizes}

-- no dimension is empty
some_items : (x y z : ℕ) → 1 ≤ x → 1 ≤ y → 1 ≤ z → 0 < x * y * z
some_items x y z h i j = let p : 1 * 1 * 1 ≤ x * y * z = mul-le-mul (mul-le-mul h i) j in omega (arith, p)

pub has_items : (k : Kernel) → HasLocalSizes k → 0 < product k.sizes
has_items k h = some_items k.sizes.x k.sizes.y k.sizes.z h.0.0 h.1.0 h.2.0

pub sizes_fit : (k : Kernel) → HasLocalSizes k → are_sizes k.sizes ≡ true
sizes_fit k h =
    let t = k.sizes in
    and_from (nat_le t.x 1024) (nat_le t.y 1024 && nat_le t.z 1024) (le-leb t.x 1024 h.0.1) (and_from (nat_le t.y 1024) (nat_le t.z 1024) (le-leb t.y 1024 h.1.1) (le-leb t.z 1024 h.2.1))
