-- A head is read of its text.
use Rattle.std.proofs.Common.{◌≡◌, ℕ, zero, suc, ◌+◌, ◌≤◌, true, false, List, [], ◌∷◌, ◌++◌, length, Option, None, Some, Ok, refl, ap, sym, ◌∙◌, append_assoc, arith}
use Rattle.std.specs.Prelude.{codes, bytes_eq, IfSome}
use Rattle.std.specs.List.{All, flat_map}
use Rattle.std.specs.Fmt.{decimal}
use Rattle.std.proofs.lemmas.List.{append-nil}
use Rattle.std.proofs.lemmas.List.Elements.{All-head, All-tail}
use Rattle.semantics.specs.Launch.{Three}
use Rattle.lines.specs.Identifiers.{is_identifier}
use Rattle.launch_text.specs.LaunchFaults.{Cursor, Step, cursor, expect}
use Rattle.launch_text.specs.LaunchWords.{Conditions, due, due_blank, first_word, several}
use Rattle.launch_text.specs.HeadReading.{LocalCount, Head, kernel_line, sizes_at, size_line, define_line, local_line, optional, head_at}
use Rattle.launch_text.specs.ConditionsText.{kernel_text, define_text, sizes_text, local_text, head_text, IsDefinition, AreSizes, IsLocal, IsHead}
use Rattle.launch_text.proofs.Several.{several_over, several_more}
use Rattle.launch_text.proofs.Forth.{natural_forth, name_forth}
use Rattle.launch_text.proofs.LinesForth.{blank_forth, end_forth, appended}
use Rattle.launch_text.proofs.DefineForth.{define_forth}
use Rattle.launch_text.proofs.HeadTaken.{kernel_shape, three_shape, sizes_shape, local_shape}

kernel_due : (rest : List ℕ) (n : ℕ) → due_blank Conditions (codes "kernel") (cursor n (codes "kernel " ++ rest)) ≡ Ok (cursor n rest)
unfolding due_blank due expect
kernel_due rest n = refl

size_due : (rest : List ℕ) (n : ℕ) → due_blank Conditions (codes "local_size") (cursor n (codes "local_size " ++ rest)) ≡ Ok (cursor n rest)
unfolding due_blank due expect
size_due rest n = refl

local_due : (rest : List ℕ) (n : ℕ) → due_blank Conditions (codes "local") (cursor n (codes "local " ++ rest)) ≡ Ok (cursor n rest)
unfolding due_blank due expect
local_due rest n = refl

kernel_forth : (name rest : List ℕ) (n : ℕ) → is_identifier name ≡ true → kernel_line (cursor n (kernel_text (Some name) ++ rest)) ≡ Ok (name, cursor (n + 1) rest)
unfolding kernel_line
kernel_forth name rest n i =
    rw (sym (kernel_shape name rest), kernel_due (name ++ (10 ∷ rest)) n, name_forth name (10 ∷ rest) n i refl, end_forth rest n) refl

three_forth : (s : Three ℕ) (rest : List ℕ) (n : ℕ) → AreSizes s → sizes_at (cursor n ((decimal s.x ++ (codes " " ++ (decimal s.y ++ (codes " " ++ decimal s.z)))) ++ (10 ∷ rest))) ≡ Ok (s, cursor n (10 ∷ rest))
unfolding sizes_at
three_forth s rest n h =
    rw (
      three_shape (decimal s.x) (decimal s.y) (decimal s.z) (10 ∷ rest),
      natural_forth 1 1024 s.x (32 ∷ (decimal s.y ++ (32 ∷ (decimal s.z ++ (10 ∷ rest))))) n h.0.0 h.0.1 (omega (arith, h.0.1)) refl,
      blank_forth (decimal s.y ++ (32 ∷ (decimal s.z ++ (10 ∷ rest)))) n,
      natural_forth 1 1024 s.y (32 ∷ (decimal s.z ++ (10 ∷ rest))) n h.1.0 h.1.1 (omega (arith, h.1.1)) refl,
      blank_forth (decimal s.z ++ (10 ∷ rest)) n,
      natural_forth 1 1024 s.z (10 ∷ rest) n h.2.0 h.2.1 (omega (arith, h.2.1)) refl,
    ) refl

sizes_forth : (s : Three ℕ) (rest : List ℕ) (n : ℕ) → AreSizes s → size_line (cursor n (sizes_text (Some s) ++ rest)) ≡ Ok (s, cursor (n + 1) rest)
unfolding size_line
sizes_forth s rest n h =
    rw (
      sym (sizes_shape (decimal s.x) (decimal s.y) (decimal s.z) rest),
      size_due ((decimal s.x ++ (codes " " ++ (decimal s.y ++ (codes " " ++ decimal s.z)))) ++ (10 ∷ rest)) n,
      three_forth s rest n h,
      end_forth rest n,
    ) refl

local_forth : (l : LocalCount) (rest : List ℕ) (n : ℕ) → IsLocal l → local_line (cursor n (local_text l ++ rest)) ≡ Ok (l, cursor (n + 1) rest)
unfolding local_line
local_forth l rest n h =
    rw (
      sym (local_shape l.name (decimal l.count) rest),
      local_due (l.name ++ (32 ∷ (decimal l.count ++ (10 ∷ rest)))) n,
      name_forth l.name (32 ∷ (decimal l.count ++ (10 ∷ rest))) n h.0 refl,
      blank_forth (decimal l.count ++ (10 ∷ rest)) n,
      natural_forth 1 1048576 l.count (10 ∷ rest) n h.1 h.2 (omega (arith, h.2)) refl,
      end_forth rest n,
    ) refl

-- a line that may be missing
optional_goes : {A : Type 0} (keyword : List ℕ) (line : Cursor → Step (A × Cursor)) (c d : Cursor) (a : A) → bytes_eq (first_word c.rest) keyword ≡ true → line c ≡ Ok (a, d) → optional keyword line c ≡ Ok (Some a, d)
unfolding optional
optional_goes keyword line c d a h e = rw (h, e) refl

optional_skips : {A : Type 0} (keyword : List ℕ) (line : Cursor → Step (A × Cursor)) (c : Cursor) → bytes_eq (first_word c.rest) keyword ≡ false → optional keyword line c ≡ Ok (None, c)
unfolding optional
optional_skips keyword line c h = rw h refl

-- a line of no other word comes behind the head
abbrev pub IsBehind : List ℕ → Type 0
IsBehind rest = first_word rest ≡ codes "groups"

not_in : (keyword rest : List ℕ) → IsBehind rest → bytes_eq (codes "groups") keyword ≡ false → bytes_eq (first_word rest) keyword ≡ false
not_in keyword rest b h = ap (λ w. bytes_eq w keyword) b ∙ h

lines_next : {A : Type 0} (text : A → List ℕ) (word keyword : List ℕ) → ((a : A) (others : List ℕ) → first_word (text a ++ others) ≡ word) → (ls : List A) (rest : List ℕ)
    → bytes_eq word keyword ≡ false → bytes_eq (first_word rest) keyword ≡ false → bytes_eq (first_word (flat_map text ls ++ rest)) keyword ≡ false
lines_next text word keyword first [] rest a b = b
lines_next text word keyword first (l ∷ ls) rest a b =
    ap (λ bytes. bytes_eq (first_word bytes) keyword) (append_assoc (text l) (flat_map text ls) rest) ∙ ap (λ w. bytes_eq w keyword) (first l (flat_map text ls ++ rest)) ∙ a

local_first : (l : LocalCount) (others : List ℕ) → first_word (local_text l ++ others) ≡ codes "local"
local_first l others = refl

define_first : (line others : List ℕ) → first_word (define_text line ++ others) ≡ codes "define"
define_first line others = refl

sizes_next : (keyword : List ℕ) (sizes : Option (Three ℕ)) (rest : List ℕ) → bytes_eq (codes "local_size") keyword ≡ false → bytes_eq (first_word rest) keyword ≡ false → bytes_eq (first_word (sizes_text sizes ++ rest)) keyword ≡ false
sizes_next keyword None rest a b = b
sizes_next keyword (Some s) rest a b = a

-- lines of one first word
module _ {A : Type 0} (keyword : List ℕ) (line : Cursor → Step (A × Cursor)) (text : A → List ℕ) (Is : A → Type 0) (first : (a : A) (others : List ℕ) → bytes_eq (first_word (text a ++ others)) keyword ≡ true) (one : (a : A) (others : List ℕ) (n : ℕ) → Is a → line (cursor n (text a ++ others)) ≡ Ok (a, cursor (n + 1) others)) where
  lines_forth : (room : ℕ) (done ls : List A) (rest : List ℕ) (n : ℕ) → All Is ls → length ls ≤ room → bytes_eq (first_word rest) keyword ≡ false
      → (m : ℕ) × (several keyword line room done (cursor n (flat_map text ls ++ rest)) ≡ Ok (done ++ ls, cursor m rest))
  lines_forth room done [] rest n are few h =
      (n, several_over keyword line room done (cursor n rest) h ∙ ap (λ xs. let r : Step (List A × Cursor) = Ok (xs, cursor n rest) in r) (sym (append-nil done)))
  lines_forth zero done (l ∷ ls) rest n are few h = absurd (omega (arith, few))
  lines_forth (suc room) done (l ∷ ls) rest n are few h =
      let others = flat_map text ls in
      let more = lines_forth room (done ++ l ∷ []) ls rest (n + 1) (All-tail Is l ls are) (omega (arith, few)) h in (
        more.0,
        ap (λ bytes. several keyword line (suc room) done (cursor n bytes)) (append_assoc (text l) others rest)
            ∙ several_more keyword line room done (cursor n (text l ++ (others ++ rest))) (cursor (n + 1) (others ++ rest)) l (first l (others ++ rest)) (one l (others ++ rest) n (All-head Is l ls are))
            ∙ more.1 ∙ appended done l ls (cursor more.0 rest),
      )

optional_kernel : (kernel : Option (List ℕ)) (rest : List ℕ) (n : ℕ) → IfSome kernel (λ name. is_identifier name ≡ true) → bytes_eq (first_word rest) (codes "kernel") ≡ false → (m : ℕ) × (optional (codes "kernel") kernel_line (cursor n (kernel_text kernel ++ rest)) ≡ Ok (kernel, cursor m rest))
optional_kernel None rest n i h = (n, optional_skips (codes "kernel") kernel_line (cursor n rest) h)
optional_kernel (Some name) rest n i h =
    (n + 1, optional_goes (codes "kernel") kernel_line (cursor n (kernel_text (Some name) ++ rest)) (cursor (n + 1) rest) name refl (kernel_forth name rest n i))

optional_sizes : (sizes : Option (Three ℕ)) (rest : List ℕ) (n : ℕ) → IfSome sizes AreSizes → bytes_eq (first_word rest) (codes "local_size") ≡ false → (m : ℕ) × (optional (codes "local_size") size_line (cursor n (sizes_text sizes ++ rest)) ≡ Ok (sizes, cursor m rest))
optional_sizes None rest n i h = (n, optional_skips (codes "local_size") size_line (cursor n rest) h)
optional_sizes (Some s) rest n i h =
    (n + 1, optional_goes (codes "local_size") size_line (cursor n (sizes_text (Some s) ++ rest)) (cursor (n + 1) rest) s refl (sizes_forth s rest n i))

head_shape : (kernel defines sizes locals rest : List ℕ) → (kernel ++ (defines ++ (sizes ++ locals))) ++ rest ≡ kernel ++ (defines ++ (sizes ++ (locals ++ rest)))
head_shape kernel defines sizes locals rest = simp append_assoc

local_sees : (l : LocalCount) (others : List ℕ) → bytes_eq (first_word (local_text l ++ others)) (codes "local") ≡ true
local_sees l others = refl

define_sees : (line others : List ℕ) → bytes_eq (first_word (define_text line ++ others)) (codes "define") ≡ true
define_sees line others = refl

pub head_forth : (h : Head) (rest : List ℕ) (n : ℕ) → IsHead h → IsBehind rest → (m : ℕ) × (head_at (cursor n (head_text h ++ rest)) ≡ Ok (h, cursor m rest))
unfolding head_at
head_forth h rest n is behind =
    let locals : List ℕ = flat_map local_text h.locals in
    let sizes : List ℕ = sizes_text h.sizes in
    let defines : List ℕ = flat_map define_text h.defines in
    let behind_sizes = λ (keyword : List ℕ) (a : bytes_eq (codes "local") keyword ≡ false) (b : bytes_eq (codes "groups") keyword ≡ false). lines_next local_text (codes "local") keyword local_first h.locals rest a (not_in keyword rest behind b) in
    let no_define = sizes_next (codes "define") h.sizes (locals ++ rest) refl (behind_sizes (codes "define") refl refl) in
    let no_kernel = lines_next define_text (codes "define") (codes "kernel") define_first h.defines (sizes ++ (locals ++ rest)) refl (sizes_next (codes "kernel") h.sizes (locals ++ rest) refl (behind_sizes (codes "kernel") refl refl)) in
    let k = optional_kernel h.kernel (defines ++ (sizes ++ (locals ++ rest))) n is.kernel no_kernel in
    let d = lines_forth (codes "define") define_line define_text IsDefinition define_sees define_forth 256 [] h.defines (sizes ++ (locals ++ rest)) k.0 is.defines is.few_defines no_define in
    let s = optional_sizes h.sizes (locals ++ rest) d.0 is.sizes (behind_sizes (codes "local_size") refl refl) in
    let l = lines_forth (codes "local") local_line local_text IsLocal local_sees local_forth 64 [] h.locals rest s.0 is.locals is.few_locals (not_in (codes "local") rest behind refl) in
    (l.0, rw (head_shape (kernel_text h.kernel) defines sizes locals rest, k.1, d.1, s.1, l.1) refl)
