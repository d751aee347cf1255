-- Group counts by the sizes of a host.
use Rattle.std.proofs.Common.{◌≡◌, ℕ, ◌+◌, ◌*◌, ◌/◌, ◌%◌, ◌<◌, ◌≤◌, Bool, true, false, Option, Some, None, Result, Ok, Err, refl, ap, sym, ◌∙◌, arith}
use Rattle.std.specs.Prelude.{◌&&◌, nat_eq, nat_le, nat_lt, cond}
use Rattle.std.proofs.Math.Nat.{mul-div_cancel}
use Rattle.semantics.specs.Launch.{Three, IsCount}
use Rattle.launch.specs.View.{counts}
use Rattle.launch.specs.declared.launches.Counts.{Counts}
use Rattle.host_launches.specs.declared.given.Range.{Range}
use Rattle.host_launches.specs.declared.sizes.Along.{Along}
use Rattle.host_launches.specs.Sizes.{first, second, third, are_whole, is_count, whole_groups, or_sizes, groups_along, groups_in, groups_of, are_dimensions}
use Rattle.host_launches.specs.Sizes as sizes
use Rattle.host_launches.specs.Launches.{AreWholeGroups}
use Rattle.host_launches.specs.Refusing.{on, when}
use Rattle.host_launches.proofs.Taking.{on-ok, when-ok, both, equal, within, below}

-- what is known of a dimension's groups
pub record Counted (size : ℕ) (a : Along) (n : ℕ) : Type 0 where
  pub some : 0 < size
  pub offset : a.offset ≡ 0
  pub local : a.local ≡ size
  pub all : n * size ≡ a.global
  pub count : IsCount n

some-back : (t : Bool) (m n : ℕ) → cond t (Some m) None ≡ Some n → (t ≡ true) × (m ≡ n)
some-back true m n h = (refl, cc)
some-back false m n h = cc

sizes-back : (d : ℕ) (o : Option ℕ) (n : ℕ) → or_sizes d o ≡ Ok n → o ≡ Some n
sizes-back d (Some m) n h = cc
sizes-back d None n h = cc

whole : (size global n : ℕ) → 0 < size → global % size ≡ 0 → global / size ≡ n → n * size ≡ global
whole size global n h m e = omega (arith, ap (λ k. k * size) e)

pub counted : (d size : ℕ) (a : Along) (n : ℕ) → groups_along d size a ≡ Ok n → Counted size a n
counted d size a n h =
    let first = when-ok (nat_eq a.offset 0) 43 d (or_sizes d (whole_groups size a)) n h in
    let found = some-back (are_whole size a && is_count (a.global / size)) (a.global / size) n (sizes-back d (whole_groups size a) n first.1) in
    let parts = both (are_whole size a) (is_count (a.global / size)) found.0 in
    let wholes = both (nat_lt 0 size) (nat_eq a.local size && nat_eq (a.global % size) 0) parts.0 in
    let rest = both (nat_eq a.local size) (nat_eq (a.global % size) 0) wholes.1 in
    let few = both (nat_le 1 (a.global / size)) (nat_le (a.global / size) 65536) parts.1 in
    let some : 0 < size = below 0 size wholes.0 in
    let low : 1 ≤ a.global / size = within 1 (a.global / size) few.0 in
    let high : a.global / size ≤ 65536 = within (a.global / size) 65536 few.1 in
    let same : a.global / size ≡ n = found.1 in
    record {
      some = some;
      offset = equal a.offset 0 first.0;
      local = equal a.local size rest.0;
      all = whole size a.global n some (equal (a.global % size) 0 rest.1) same;
      count = (omega arith, omega arith);
    }

-- as the host's numbers say it
pub whole_of : (size : ℕ) (a : Along) (n : ℕ) → Counted size a n → AreWholeGroups size a
whole_of size a n h = record { offset = h.offset; local = h.local; groups = (n, h.count, h.all) }

-- a number of groups with that many work-items is that one
pub only : (size : ℕ) (a : Along) (n m : ℕ) → Counted size a n → m * size ≡ a.global → m ≡ n
only size a n m h e = sym (mul-div_cancel m h.some) ∙ ap (λ k. k / size) (e ∙ sym h.all) ∙ mul-div_cancel n h.some

pub record AllCounted (s : Three ℕ) (r : Range) (g : Counts) : Type 0 where
  pub dimensions : (1 ≤ r.dimensions) × (r.dimensions ≤ 3)
  pub x : Counted s.x (first r) g.x
  pub y : Counted s.y (second r) g.y
  pub z : Counted s.z (third r) g.z

pub all_counted : (s : Three ℕ) (r : Range) (g : Counts) → groups_of s r ≡ Ok g → AllCounted s r g
all_counted s r g h =
    let some = when-ok (are_dimensions r.dimensions) 42 r.dimensions (groups_in s r) g h in
    let few = both (nat_le 1 r.dimensions) (nat_le r.dimensions 3) some.0 in
    let x = on-ok (groups_along 0 s.x (first r)) (λ x. on (groups_along 1 s.y (second r)) (λ y. on (groups_along 2 s.z (third r)) (λ z. sizes.counts x y z))) g some.1 in
    let y = on-ok (groups_along 1 s.y (second r)) (λ y. on (groups_along 2 s.z (third r)) (λ z. sizes.counts x.0 y z)) g x.2 in
    let z = on-ok (groups_along 2 s.z (third r)) (λ z. sizes.counts x.0 y.0 z) g y.2 in
    let same : sizes.counts x.0 y.0 z.0 ≡ Ok g = z.2 in
    let gx : x.0 ≡ g.x = cc in
    let gy : y.0 ≡ g.y = cc in
    let gz : z.0 ≡ g.z = cc in
    record {
      dimensions = (within 1 r.dimensions few.0, within r.dimensions 3 few.1);
      x = counted 0 s.x (first r) g.x (x.1 ∙ ap (λ n. Ok n) gx);
      y = counted 1 s.y (second r) g.y (y.1 ∙ ap (λ n. Ok n) gy);
      z = counted 2 s.z (third r) g.z (z.1 ∙ ap (λ n. Ok n) gz);
    }
