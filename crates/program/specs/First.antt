-- The texts that stand in the program: a fill of a buffer, one item an element.
use Rattle.std.specs.Prelude.{ℕ, List, codes}

abbrev pub first_kernel : List ℕ
first_kernel = codes "__kernel __attribute__((reqd_work_group_size(64, 1, 1))) void k(__global uint *a) {\na[get_global_id(0)] = 1u;\n}\n"

abbrev pub first_conditions : List ℕ
first_conditions = codes "conditions 1\ngroups 1..1024 1..1 1..1\nlength a >= 65536\nbudget 1\n"

abbrev pub first_certificate : List ℕ
first_certificate =
    codes "certificate 1\nob 3 show\ng 34\ng 39\ng 40\ns 64 1 1 2 1 3\nob 4 show\ng 33\ng 39\ng 41\ns 64 1 1 2 1 3\nob 5 show\ng 10\ng 21\ng 33\ng 34\ns 1 1 1 2 64 3 1 4\nob 6 show\ng 9\ng 22\ng 33\ng 35\ns 1 1 1 2 64 3 1 4\nend\n"
