-- The group counts of a launch, by a host's sizes (OpenCL 1.2, 3.2 and 5.8).
use Rattle.std.specs.Prelude.{ℕ, ◌/◌, ◌%◌, Bool, true, false, List, slice_index, cond, ◌&&◌, nat_eq, nat_le, nat_lt, Option, Some, None, Result, Ok, Err}
use Rattle.semantics.specs.Launch.{Three}
use Rattle.launch.specs.declared.launches.Counts.{Counts}
use Rattle.host_launches.specs.declared.given.Range.{Range}
use Rattle.host_launches.specs.declared.given.Refusal.{Refusal}
use Rattle.host_launches.specs.declared.sizes.Along.{Along}
use Rattle.host_launches.specs.Refusing.{refusal, on, when}

-- a dimension that is not read has one work-item
abbrev pub size_along : (is_read : Bool) → (offset global local : ℕ) → Along
size_along true offset global local = record { offset = offset; global = global; local = local }
size_along false offset global local = record { offset = 0; global = 1; local = 1 }

abbrev pub first : Range → Along
first r = size_along true r.offset.x r.global.x r.local.x

abbrev pub second : Range → Along
second r = size_along (nat_lt 1 r.dimensions) r.offset.y r.global.y r.local.y

abbrev pub third : Range → Along
third r = size_along (nat_lt 2 r.dimensions) r.offset.z r.global.z r.local.z

-- groups of the size, and no item is left over
abbrev pub are_whole : (size : ℕ) → Along → Bool
are_whole size a = nat_lt 0 size && (nat_eq a.local size && nat_eq (a.global % size) 0)

abbrev pub is_count : ℕ → Bool
is_count n = nat_le 1 n && nat_le n 65536

abbrev pub whole_groups : (size : ℕ) → Along → Option ℕ
whole_groups size a = cond (are_whole size a && is_count (a.global / size)) (Some (a.global / size)) None

abbrev pub or_sizes : (dimension : ℕ) → Option ℕ → Result ℕ Refusal
or_sizes d (Some n) = Ok n
or_sizes d None = Err (refusal 42 d)

abbrev pub groups_along : (dimension size : ℕ) → Along → Result ℕ Refusal
groups_along d size a = when (nat_eq a.offset 0) 43 d (or_sizes d (whole_groups size a))

abbrev pub are_dimensions : ℕ → Bool
are_dimensions n = nat_le 1 n && nat_le n 3

abbrev pub counts : (x y z : ℕ) → Result Counts Refusal
counts x y z = Ok (record { x = x; y = y; z = z })

abbrev pub groups_in : Three ℕ → Range → Result Counts Refusal
groups_in sizes r =
    on (groups_along 0 sizes.x (first r)) (λ x. on (groups_along 1 sizes.y (second r)) (λ y.
    on (groups_along 2 sizes.z (third r)) (λ z. counts x y z)))

abbrev pub groups_of : Three ℕ → Range → Result Counts Refusal
groups_of sizes r = when (are_dimensions r.dimensions) 42 r.dimensions (groups_in sizes r)

-- an array of the code
abbrev pub three : List ℕ → Three ℕ
three xs = record { x = slice_index xs 0; y = slice_index xs 1; z = slice_index xs 2 }
