-- The sizes of a proper kernel: each is one of a device, and a work-group has a work-item.
use Rattle.std.proofs.Common.{◌≡◌, ℕ, ◌<◌, Bool, true, ◌&&◌, nat_lt, arith, ltb-true}
use Rattle.std.specs.Prelude.{nat_le}
use Rattle.std.proofs.lemmas.Bool.{and_parts, and_from}
use Rattle.semantics.specs.Launch.{Three, Kernel, Launch, product}
use Rattle.semantics.specs.Setup.{at_launch, group_size}
use Rattle.facts.specs.Launching as facts
use Rattle.work_item.specs.Proper as proper
use Rattle.work_item.specs.Proper.{are_proper, is_proper}

pub sizes : (k : Kernel) (l : Launch) → is_proper k ≡ true → (facts.are_sizes k.sizes ≡ true) × (0 < group_size (at_launch k l))
unfolding group_size
sizes k l h =
    let t = k.sizes in
    let p = (and_parts (proper.are_sizes t) (are_proper k.body) h).0 in
    let x = and_parts (nat_le t.x 1024) (nat_le t.y 1024 && (nat_le t.z 1024 && (nat_lt 0 (product t) && nat_le (product t) 1024))) p in
    let y = and_parts (nat_le t.y 1024) (nat_le t.z 1024 && (nat_lt 0 (product t) && nat_le (product t) 1024)) x.1 in
    let z = and_parts (nat_le t.z 1024) (nat_lt 0 (product t) && nat_le (product t) 1024) y.1 in
    let s = and_parts (nat_lt 0 (product t)) (nat_le (product t) 1024) z.1 in
    (and_from (nat_le t.x 1024) (nat_le t.y 1024 && nat_le t.z 1024) x.0 (and_from (nat_le t.y 1024) (nat_le t.z 1024) y.0 z.0), ltb-true 0 (product t) s.0)
