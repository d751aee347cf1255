-- What is read of a head is what its text says.
use Rattle.std.proofs.Common.{◌≡◌, ℕ, zero, suc, ◌+◌, ◌≤◌, Bool, true, false, List, [], ◌∷◌, ◌++◌, length, take, Option, None, Some, Ok, refl, ap, sym, ◌∙◌, subst, append_assoc, arith}
use Rattle.std.specs.Prelude.{◌&&◌, cond, codes, bytes_eq, IfSome}
use Rattle.std.specs.List.{All, flat_map, prefix_len}
use Rattle.std.specs.Fmt.{decimal}
use Rattle.std.proofs.lemmas.Bool.{cond_both}
use Rattle.std.proofs.lemmas.List.{append-nil}
use Rattle.std.proofs.lemmas.List.Elements.{All-nil, All-cons}
use Rattle.semantics.specs.Launch.{Three}
use Rattle.lines.specs.Bytes.{is_word_byte}
use Rattle.lines.specs.Identifiers.{all_word_bytes, is_identifier}
use Rattle.launch_text.specs.LaunchFaults.{Expected, LimitPassed, Cursor, Step, refused, then, past, expect, end_line}
use Rattle.launch_text.specs.LaunchWords.{Conditions, natural_at, begins_name, name_at, first_word, due_blank, several}
use Rattle.launch_text.specs.HeadReading.{LocalCount, Head, local_of, head_with, sizes_of, kernel_line, sizes_at, size_line, define_line, define_lines, local_line, optional, local_lines, head_at}
use Rattle.launch_text.specs.ConditionsText.{kernel_text, define_text, sizes_text, local_text, head_text, IsDefinition, AreSizes, IsLocal, IsHead}
use Rattle.launch_text.proofs.Back.{then_back, same_back, when_back, natural_back}
use Rattle.launch_text.proofs.Forth.{one_more, letter_in_word}
use Rattle.launch_text.proofs.DefineTaken.{define_took}
use Rattle.launch_text.proofs.Taken.{expect_took, end_took, natural_took, name_took, due_blank_took}

-- a name that is read is an identifier
taken_words : (b : ℕ) (bytes : List ℕ) (h : Bool) → is_word_byte b ≡ h → all_word_bytes (take (prefix_len is_word_byte bytes) bytes) ≡ true → all_word_bytes (take (cond h (1 + prefix_len is_word_byte bytes) 0) (b ∷ bytes)) ≡ true
taken_words b bytes false h e = refl
taken_words b bytes true h e =
    ap (λ n. all_word_bytes (take n (b ∷ bytes))) (one_more (prefix_len is_word_byte bytes))
    ∙ ap (λ w. w && all_word_bytes (take (prefix_len is_word_byte bytes) bytes)) h ∙ e

word_taken : (bytes : List ℕ) → all_word_bytes (take (prefix_len is_word_byte bytes) bytes) ≡ true
word_taken [] = refl
word_taken (b ∷ bytes) = taken_words b bytes (is_word_byte b) refl (word_taken bytes)

name_is : (bytes : List ℕ) → begins_name bytes ≡ true → is_identifier (take (prefix_len is_word_byte bytes) bytes) ≡ true
name_is [] h = absurd cc
name_is (b ∷ bytes) h =
    ap (λ w. is_identifier (take (cond w (1 + prefix_len is_word_byte bytes) 0) (b ∷ bytes))) (letter_in_word b h)
    ∙ ap (λ n. is_identifier (take n (b ∷ bytes))) (one_more (prefix_len is_word_byte bytes))
    ∙ ap (λ w. w && all_word_bytes (take (prefix_len is_word_byte bytes) bytes)) h ∙ word_taken bytes

pub identifier_took : (c : Cursor) (t : List ℕ × Cursor) → name_at c ≡ Ok t → is_identifier t.0 ≡ true
unfolding name_at
identifier_took c t e =
    let h = when_back (begins_name c.rest) _ Expected c t e in
    let n : ℕ = prefix_len is_word_byte c.rest in
    subst (λ (r : List ℕ × Cursor). is_identifier r.0 ≡ true) (same_back (take n c.rest, past n c) t h.1) (name_is c.rest h.0)

abbrev TookKernel : Cursor → List ℕ × Cursor → Type 0
TookKernel c t = (c.rest ≡ kernel_text (Some t.0) ++ t.1.rest) × (is_identifier t.0 ≡ true)

pub kernel_shape : (name rest : List ℕ) → codes "kernel" ++ (32 ∷ (name ++ (10 ∷ rest))) ≡ (codes "kernel " ++ (name ++ 10 ∷ [])) ++ rest
kernel_shape name rest = simp append_assoc

kernel_whole : (name rest whole a b : List ℕ) → whole ≡ codes "kernel" ++ (32 ∷ a) → a ≡ name ++ b → b ≡ 10 ∷ rest → whole ≡ (codes "kernel " ++ (name ++ 10 ∷ [])) ++ rest
kernel_whole name rest whole a b p q r = p ∙ ap (λ x. codes "kernel " ++ x) (q ∙ ap (λ x. name ++ x) r) ∙ kernel_shape name rest

kernel_took : (c : Cursor) (t : List ℕ × Cursor) → kernel_line c ≡ Ok t → TookKernel c t
unfolding kernel_line
kernel_took c t e =
    let a = then_back (due_blank _ _ c) _ t e in
    let n = then_back (name_at a.0) _ t a.2 in
    let d = then_back (end_line n.0.1) _ t n.2 in
    subst (λ (u : List ℕ × Cursor). TookKernel c u) (same_back (n.0.0, d.0) t d.2)
    (kernel_whole n.0.0 d.0.rest c.rest a.0.rest n.0.1.rest (due_blank_took Conditions (codes "kernel") c a.0 a.1) (name_took a.0 n.0 n.1) (end_took n.0.1 d.0 d.1), identifier_took a.0 n.0 n.1)

-- three sizes with a blank between them
abbrev three_text : Three ℕ → List ℕ
three_text s = decimal s.x ++ (codes " " ++ (decimal s.y ++ (codes " " ++ decimal s.z)))

abbrev TookThree : Cursor → Three ℕ × Cursor → Type 0
TookThree c t = (c.rest ≡ three_text t.0 ++ t.1.rest) × AreSizes t.0

pub three_shape : (x y z rest : List ℕ) → (x ++ (codes " " ++ (y ++ (codes " " ++ z)))) ++ rest ≡ x ++ (32 ∷ (y ++ (32 ∷ (z ++ rest))))
three_shape x y z rest = simp append_assoc

three_whole : (x y z rest whole a b d e : List ℕ) → whole ≡ x ++ a → a ≡ 32 ∷ b → b ≡ y ++ d → d ≡ 32 ∷ e → e ≡ z ++ rest → whole ≡ (x ++ (codes " " ++ (y ++ (codes " " ++ z)))) ++ rest
three_whole x y z rest whole a b d e p q r s t =
    p ∙ ap (λ u. x ++ u) (q ∙ ap (λ u. 32 ∷ u) (r ∙ ap (λ u. y ++ u) (s ∙ ap (λ u. 32 ∷ u) t))) ∙ sym (three_shape x y z rest)

three_took : (c : Cursor) (t : Three ℕ × Cursor) → sizes_at c ≡ Ok t → TookThree c t
unfolding sizes_at
three_took c t e =
    let x = then_back (natural_at 1 1024 c) _ t e in
    let a = then_back (expect _ x.0.1) _ t x.2 in
    let y = then_back (natural_at 1 1024 a.0) _ t a.2 in
    let b = then_back (expect _ y.0.1) _ t y.2 in
    let z = then_back (natural_at 1 1024 b.0) _ t b.2 in
    subst (λ (u : Three ℕ × Cursor). TookThree c u) (same_back (sizes_of x.0.0 y.0.0 z.0.0, z.0.1) t z.2) (
      three_whole (decimal x.0.0) (decimal y.0.0) (decimal z.0.0) z.0.1.rest c.rest x.0.1.rest a.0.rest y.0.1.rest b.0.rest (natural_took 1 1024 c x.0 x.1) (expect_took (codes " ") x.0.1 a.0 a.1) (natural_took 1 1024 a.0 y.0 y.1) (expect_took (codes " ") y.0.1 b.0 b.1) (natural_took 1 1024 b.0 z.0 z.1),
      (natural_back 1 1024 c x.0 x.1, natural_back 1 1024 a.0 y.0 y.1, natural_back 1 1024 b.0 z.0 z.1),
    )

abbrev TookSizes : Cursor → Three ℕ × Cursor → Type 0
TookSizes c t = (c.rest ≡ sizes_text (Some t.0) ++ t.1.rest) × AreSizes t.0

pub sizes_shape : (x y z rest : List ℕ) → codes "local_size" ++ (32 ∷ ((x ++ (codes " " ++ (y ++ (codes " " ++ z)))) ++ (10 ∷ rest))) ≡ (codes "local_size " ++ (x ++ (codes " " ++ (y ++ (codes " " ++ (z ++ 10 ∷ [])))))) ++ rest
sizes_shape x y z rest = simp append_assoc

sizes_whole : (s : Three ℕ) (rest whole a b : List ℕ) → whole ≡ codes "local_size" ++ (32 ∷ a) → a ≡ three_text s ++ b → b ≡ 10 ∷ rest → whole ≡ sizes_text (Some s) ++ rest
sizes_whole s rest whole a b p q r =
    p ∙ ap (λ x. codes "local_size " ++ x) (q ∙ ap (λ x. three_text s ++ x) r) ∙ sizes_shape (decimal s.x) (decimal s.y) (decimal s.z) rest

sizes_took : (c : Cursor) (t : Three ℕ × Cursor) → size_line c ≡ Ok t → TookSizes c t
unfolding size_line
sizes_took c t e =
    let a = then_back (due_blank _ _ c) _ t e in
    let b = then_back (sizes_at a.0) _ t a.2 in
    let d = then_back (end_line b.0.1) _ t b.2 in
    let s = three_took a.0 b.0 b.1 in
    subst (λ (u : Three ℕ × Cursor). TookSizes c u) (same_back (b.0.0, d.0) t d.2)
    (sizes_whole b.0.0 d.0.rest c.rest a.0.rest b.0.1.rest (due_blank_took Conditions (codes "local_size") c a.0 a.1) s.0 (end_took b.0.1 d.0 d.1), s.1)

abbrev TookLocal : Cursor → LocalCount × Cursor → Type 0
TookLocal c t = (c.rest ≡ local_text t.0 ++ t.1.rest) × IsLocal t.0

pub local_shape : (name count rest : List ℕ) → codes "local" ++ (32 ∷ (name ++ (32 ∷ (count ++ (10 ∷ rest))))) ≡ (codes "local " ++ (name ++ (codes " " ++ (count ++ 10 ∷ [])))) ++ rest
local_shape name count rest = simp append_assoc

local_whole : (name count rest whole a b d e : List ℕ) → whole ≡ codes "local" ++ (32 ∷ a) → a ≡ name ++ b → b ≡ 32 ∷ d → d ≡ count ++ e → e ≡ 10 ∷ rest → whole ≡ (codes "local " ++ (name ++ (codes " " ++ (count ++ 10 ∷ [])))) ++ rest
local_whole name count rest whole a b d e p q r s t =
    p ∙ ap (λ x. codes "local " ++ x) (q ∙ ap (λ x. name ++ x) (r ∙ ap (λ x. 32 ∷ x) (s ∙ ap (λ x. count ++ x) t))) ∙ local_shape name count rest

local_took : (c : Cursor) (t : LocalCount × Cursor) → local_line c ≡ Ok t → TookLocal c t
unfolding local_line
local_took c t e =
    let a = then_back (due_blank _ _ c) _ t e in
    let n = then_back (name_at a.0) _ t a.2 in
    let b = then_back (expect _ n.0.1) _ t n.2 in
    let m = then_back (natural_at 1 1048576 b.0) _ t b.2 in
    let d = then_back (end_line m.0.1) _ t m.2 in
    let within = natural_back 1 1048576 b.0 m.0 m.1 in
    subst (λ (u : LocalCount × Cursor). TookLocal c u) (same_back (local_of n.0.0 m.0.0, d.0) t d.2) (
      local_whole n.0.0 (decimal m.0.0) d.0.rest c.rest a.0.rest n.0.1.rest b.0.rest m.0.1.rest (due_blank_took Conditions (codes "local") c a.0 a.1) (name_took a.0 n.0 n.1) (expect_took (codes " ") n.0.1 b.0 b.1) (natural_took 1 1048576 b.0 m.0 m.1) (end_took m.0.1 d.0 d.1),
      (identifier_took a.0 n.0 n.1, within.0, within.1),
    )

-- a line that may be missing, and its text
module _ {A : Type 0} (keyword : List ℕ) (line : Cursor → Step (A × Cursor)) (text : Option A → List ℕ) (none : text None ≡ []) (Is : A → Type 0) (one : (c : Cursor) (t : A × Cursor) → line c ≡ Ok t → (c.rest ≡ text (Some t.0) ++ t.1.rest) × Is t.0) where
  abbrev TookOptional : Cursor → Option A × Cursor → Type 0
  TookOptional c t = (c.rest ≡ text t.0 ++ t.1.rest) × IfSome t.0 Is

  optional_took : (c : Cursor) (t : Option A × Cursor) → optional keyword line c ≡ Ok t → TookOptional c t
  unfolding optional
  optional_took c t =
      cond_both (bytes_eq (first_word c.rest) keyword) (then (line c) (λ u. Ok (Some u.0, u.1))) (Ok (None, c)) (λ s. s ≡ Ok t → TookOptional c t)
      (λ _ e. let u = then_back (line c) _ t e in
      subst (λ (r : Option A × Cursor). TookOptional c r) (same_back (Some u.0.0, u.0.1) t u.2) (one c u.0 u.1))
      (λ _ e. subst (λ (r : Option A × Cursor). TookOptional c r) (same_back (None, c) t e) (ap (λ x. x ++ c.rest) (sym none), tt))

-- lines behind those that were read before
record TookLines {A : Type 0} (text : A → List ℕ) (Is : A → Type 0) (room : ℕ) (done : List A) (c : Cursor) (t : List A × Cursor) : Type 0 where
  pub read : List A
  pub all : t.0 ≡ done ++ read
  pub rest : c.rest ≡ flat_map text read ++ t.1.rest
  pub are : All Is read
  pub few : length read ≤ room

module _ {A : Type 0} (keyword : List ℕ) (line : Cursor → Step (A × Cursor)) (text : A → List ℕ) (Is : A → Type 0) (one : (c : Cursor) (t : A × Cursor) → line c ≡ Ok t → (c.rest ≡ text t.0 ++ t.1.rest) × Is t.0) where
  no_line : (room : ℕ) (done : List A) (c : Cursor) (t : List A × Cursor) → (let s : Step (List A × Cursor) = Ok (done, c) in s ≡ Ok t) → TookLines text Is room done c t
  no_line room done c t e =
      subst (λ t. TookLines text Is room done c t) (same_back (done, c) t e) (record { read = []; all = sym (append-nil done); rest = refl; are = All-nil Is; few = omega arith })

  one_line : (room : ℕ) (done : List A) (l : A) (c d : Cursor) (t : List A × Cursor) → (c.rest ≡ text l ++ d.rest) × Is l → TookLines text Is room (done ++ l ∷ []) d t → TookLines text Is (suc room) done c t
  one_line room done l c d t own others = record {
    read = l ∷ others.read;
    all = others.all ∙ append_assoc done (l ∷ []) others.read;
    rest = own.0 ∙ ap (λ x. text l ++ x) others.rest ∙ sym (append_assoc (text l) (flat_map text others.read) t.1.rest);
    are = All-cons Is l others.read own.1 others.are;
    few = omega (arith, others.few);
  }

  lines_took : (room : ℕ) (done : List A) (c : Cursor) (t : List A × Cursor) → several keyword line room done c ≡ Ok t → TookLines text Is room done c t
  unfolding several
  lines_took zero done c t =
      cond_both (bytes_eq (first_word c.rest) keyword) (refused LimitPassed c) (Ok (done, c)) (λ s. s ≡ Ok t → TookLines text Is zero done c t)
      (λ _ e. absurd cc) (λ _ e. no_line zero done c t e)
  lines_took (suc room) done c t =
      cond_both (bytes_eq (first_word c.rest) keyword) (then (line c) (λ u. several keyword line room (done ++ u.0 ∷ []) u.1)) (Ok (done, c)) (λ s. s ≡ Ok t → TookLines text Is (suc room) done c t)
      (λ _ e. let u = then_back (line c) _ t e in
      one_line room done u.0.0 c u.0.1 t (one c u.0 u.1) (lines_took room (done ++ u.0.0 ∷ []) u.0.1 t u.2))
      (λ _ e. no_line (suc room) done c t e)

-- what a head said
abbrev pub TookHead : Cursor → Head × Cursor → Type 0
TookHead c t = (c.rest ≡ head_text t.0 ++ t.1.rest) × IsHead t.0

head_joined : (kernel defines sizes locals rest whole a b d : List ℕ) → whole ≡ kernel ++ a → a ≡ defines ++ b → b ≡ sizes ++ d → d ≡ locals ++ rest → whole ≡ (kernel ++ (defines ++ (sizes ++ locals))) ++ rest
head_joined kernel defines sizes locals rest whole a b d p q r s =
    p ∙ ap (λ x. kernel ++ x) (q ∙ ap (λ x. defines ++ x) (r ∙ ap (λ x. sizes ++ x) s)) ∙ simp append_assoc

pub head_took : (c : Cursor) (t : Head × Cursor) → head_at c ≡ Ok t → TookHead c t
unfolding head_at
head_took c t e =
    let k = then_back (optional (codes "kernel") kernel_line c) _ t e in
    let f = then_back (define_lines k.0.1) _ t k.2 in
    let s = then_back (optional (codes "local_size") size_line f.0.1) _ t f.2 in
    let l = then_back (local_lines s.0.1) _ t s.2 in
    let kernel = optional_took (codes "kernel") kernel_line kernel_text refl (λ name. is_identifier name ≡ true) kernel_took c k.0 k.1 in
    let defines = lines_took (codes "define") define_line define_text IsDefinition define_took 256 [] k.0.1 f.0 f.1 in
    let sizes = optional_took (codes "local_size") size_line sizes_text refl AreSizes sizes_took f.0.1 s.0 s.1 in
    let locals = lines_took (codes "local") local_line local_text IsLocal local_took 64 [] s.0.1 l.0 l.1 in
    subst (λ (r : Head × Cursor). TookHead c r) (same_back (head_with k.0.0 f.0.0 s.0.0 l.0.0, l.0.1) t l.2) (
      head_joined (kernel_text k.0.0) (flat_map define_text f.0.0) (sizes_text s.0.0) (flat_map local_text l.0.0) l.0.1.rest c.rest k.0.1.rest f.0.1.rest s.0.1.rest kernel.0
          (subst (λ ls. k.0.1.rest ≡ flat_map define_text ls ++ f.0.1.rest) (sym defines.all) defines.rest) sizes.0 (subst (λ ls. s.0.1.rest ≡ flat_map local_text ls ++ l.0.1.rest) (sym locals.all) locals.rest),
      record {
        kernel = kernel.1;
        defines = subst (All IsDefinition) (sym defines.all) defines.are;
        few_defines = subst (λ (ls : List (List ℕ)). length ls ≤ 256) (sym defines.all) defines.few;
        sizes = sizes.1;
        locals = subst (All IsLocal) (sym locals.all) locals.are;
        few_locals = subst (λ (ls : List LocalCount). length ls ≤ 64) (sym locals.all) locals.few;
      },
    )
