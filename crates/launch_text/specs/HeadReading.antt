-- Reading the head of a conditions text of version 3: which kernel of a file is meant, what a host defines for its text, how many
-- work-items a group has, and how many elements local buffers have. Its lines stand between the first line and that of groups.
use Rattle.std.specs.Prelude.{ℕ, List, [], ◌∷◌, take, Bool, true, cond, ◌&&◌, nat_le, Option, None, Some, Ok, codes, bytes_eq}
use Rattle.std.specs.List.{prefix_len}
use Rattle.semantics.specs.Launch.{Three}
use Rattle.launch_text.specs.LaunchFaults.{Expected, LimitPassed, Cursor, Step, refused, then, past, expect, end_line}
use Rattle.launch_text.specs.LaunchWords.{Conditions, natural_at, begins_name, name_at, first_word, due_blank, several}

-- how many elements the local buffer of this name has
pub record LocalCount : Type 0 where
  pub name : List ℕ
  pub count : ℕ

-- the name of the kernel, and the work-items of a group in each dimension, where the head says them; what is defined for its text, each
-- as a line of its own says it
pub record Head : Type 0 where
  pub kernel : Option (List ℕ)
  pub defines : List (List ℕ)
  pub sizes : Option (Three ℕ)
  pub locals : List LocalCount

abbrev pub local_of : (name : List ℕ) (count : ℕ) → LocalCount
local_of name count = record { name = name; count = count }

abbrev pub head_with : Option (List ℕ) → (defines : List (List ℕ)) → Option (Three ℕ) → List LocalCount → Head
head_with kernel defines sizes locals = record { kernel = kernel; defines = defines; sizes = sizes; locals = locals }

abbrev pub no_head : Head
no_head = head_with None [] None []

abbrev pub sizes_of : (x y z : ℕ) → Three ℕ
sizes_of x y z = record { x = x; y = y; z = z }

-- `kernel NAME`
unfoldable pub kernel_line : Cursor → Step (List ℕ × Cursor)
kernel_line c = then (due_blank Conditions (codes "kernel") c) (λ a. then (name_at a) (λ t. then (end_line t.1) (λ d. Ok (t.0, d))))

-- printable ASCII
abbrev pub is_printable : ℕ → Bool
is_printable b = nat_le 32 b && nat_le b 126

abbrev pub are_printable : List ℕ → Bool
are_printable [] = true
are_printable (b ∷ bytes) = is_printable b && are_printable bytes

-- what is defined: a letter or `_`, and all that is printable behind it, at most 255 bytes in all
unfoldable pub definition_at : Cursor → Step (List ℕ × Cursor)
definition_at c =
    cond (begins_name c.rest) (
    cond (nat_le (prefix_len is_printable c.rest) 255) (Ok (take (prefix_len is_printable c.rest) c.rest, past (prefix_len is_printable c.rest) c))
    (refused LimitPassed c)) (refused Expected c)

-- `define NAME TOKENS`
unfoldable pub define_line : Cursor → Step (List ℕ × Cursor)
define_line c = then (due_blank Conditions (codes "define") c) (λ a. then (definition_at a) (λ t. then (end_line t.1) (λ d. Ok (t.0, d))))

-- as many as there are, at most 256
abbrev pub define_lines : Cursor → Step (List (List ℕ) × Cursor)
define_lines c = several (codes "define") define_line 256 [] c

-- three sizes, each 1 to 1,024
unfoldable pub sizes_at : Cursor → Step (Three ℕ × Cursor)
sizes_at c =
    then (natural_at 1 1024 c) (λ x. then (expect (codes " ") x.1) (λ a. then (natural_at 1 1024 a) (λ y. then (expect (codes " ") y.1) (λ b.
    then (natural_at 1 1024 b) (λ z. Ok (sizes_of x.0 y.0 z.0, z.1))))))

-- `local_size X Y Z`
unfoldable pub size_line : Cursor → Step (Three ℕ × Cursor)
size_line c = then (due_blank Conditions (codes "local_size") c) (λ a. then (sizes_at a) (λ t. then (end_line t.1) (λ d. Ok (t.0, d))))

-- `local NAME COUNT`, of 1 to 1,048,576 elements
unfoldable pub local_line : Cursor → Step (LocalCount × Cursor)
local_line c =
    then (due_blank Conditions (codes "local") c) (λ a. then (name_at a) (λ name. then (expect (codes " ") name.1) (λ b. then (natural_at 1 1048576 b) (λ count.
    then (end_line count.1) (λ d. Ok (local_of name.0 count.0, d))))))

-- a line that may be missing
unfoldable pub optional : {A : Type 0} → (keyword : List ℕ) → (line : Cursor → Step (A × Cursor)) → Cursor → Step (Option A × Cursor)
optional keyword line c = cond (bytes_eq (first_word c.rest) keyword) (then (line c) (λ t. Ok (Some t.0, t.1))) (Ok (None, c))

-- as many as there are, at most 64
abbrev pub local_lines : Cursor → Step (List LocalCount × Cursor)
local_lines c = several (codes "local") local_line 64 [] c

-- all its lines
unfoldable pub head_at : Cursor → Step (Head × Cursor)
head_at c =
    then (optional (codes "kernel") kernel_line c) (λ kernel. then (define_lines kernel.1) (λ defines. then (optional (codes "local_size") size_line defines.1) (λ sizes.
    then (local_lines sizes.1) (λ locals. Ok (head_with kernel.0 defines.0 sizes.0 locals.0, locals.1)))))

-- the lines are passed over
abbrev pub past_head : Cursor → Step Cursor
past_head c = then (head_at c) (λ h. Ok h.1)
