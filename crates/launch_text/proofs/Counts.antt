-- Counts together fit 64 bits.
use Rattle.std.proofs.Common.{ℕ, ◌*◌, ◌≤◌}
use Rattle.std.proofs.Math.Nat.{mul-le-mul}

pub fits : (x y z : ℕ) → x ≤ 65536 → y ≤ 65536 → z ≤ 65536 → (x * y ≤ 4294967296) × (x * y * z ≤ 281474976710656)
fits x y z a b c =
    let p : x * y ≤ 4294967296 = mul-le-mul a b in
    (p, mul-le-mul p c)
