-- The text of a kernel of four stores.
use Rattle.std.specs.Prelude.{ℕ, List, [], ◌∷◌, ◌++◌, Ok, Err, codes}
use Rattle.kernel_names.specs.NameMap.{only}
use Rattle.reading.specs.Kernels.{Kernel, Read}
use Rattle.texts.specs.Surface as surface
use Rattle.semantics.specs.Core as core

abbrev pub line : List ℕ → List ℕ
line bytes = bytes ++ 10 ∷ []

abbrev pub stores : List ℕ
stores =
    line (codes "kernel __attribute__((reqd_work_group_size(4, 1, 1))) void k(global uint *a, int n) {")
    ++ (line (codes "a[get_global_id(0)] = 1u;") ++ (line (codes "a[get_global_id(0) * 2u] = n;")
    ++ (line (codes "a[get_global_id(0) + 3] = 1;") ++ (line (codes "a[get_global_id(0) * 2 + 3u] = 7u;") ++ line (codes "}")))))

-- what is read, and a kernel without statements where nothing is
abbrev pub kernel_of : Read → Kernel
kernel_of (Ok k) = k
kernel_of (Err e) = record {
  tree = record { name = []; name_site = record { line = 0; column = 0 }; sizes = record { x = 1; y = 1; z = 1 }; parameters = []; body = surface.none };
  core = record { sizes = record { x = 1; y = 1; z = 1 }; arguments = []; variables = []; buffers = []; arrays = []; body = core.none };
  names = only [];
}
