-- The words of values are of the kernel's kinds, and in their range.
use Rattle.std.proofs.Common.{◌≡◌, ℕ, zero, suc, ◌+◌, ◌*◌, ◌-◌, ◌/◌, ◌%◌, ◌^◌, ◌<◌, ◌≤◌, List, [], ◌∷◌, ◌++◌, length, map, Bool, true, false, refl, ap, sym, ◌∙◌, arith, lt-ltb, mod-lt}
use Rattle.std.specs.Prelude.{ℤ, pos, negsuc, ◌-ℤ◌, ◌&&◌, nat_eq, nat_lt, cond, slice_index}
use Rattle.std.specs.List.{All, AllZip}
use Rattle.std.proofs.lemmas.List.Elements.{All-head, All-tail}
use Rattle.std.proofs.lemmas.Bool.Decides.{nat_tests}
use Rattle.std.proofs.lemmas.Int.{ints}
use Rattle.semantics.specs.Word as word
use Rattle.semantics.specs.Word.{Kind, Word, in_kind, same_kind}
use Rattle.semantics.specs.Launch.{Kernel, IsArgument, IsBuffer}
use Rattle.semantics.proofs.Words.{read_bits-in_kind}
use Rattle.host_launches.specs.declared.given.Argument.{Argument}
use Rattle.host_launches.specs.declared.shapes.Scalar.{Scalar}
use Rattle.host_launches.specs.declared.shapes.Scalar.TheVariants as scalars
use Rattle.host_launches.specs.declared.shapes.Shape.{Shape}
use Rattle.host_launches.specs.declared.shapes.Shape.TheVariants.{Value, Buffer, Local}
use Rattle.host_launches.specs.Shapes.{kind_of}
use Rattle.host_launches.specs.Numbers.{byte_at, pair_at, whole_at, narrow, unsigned, whole, component, components, words_at, words_of, lengths_at, lengths_of}
use Rattle.host_launches.specs.Kinds.{component_kinds, value_kinds, buffer_kinds, all_kinds, same_rows, same_kinds, are_parameters}
use Rattle.host_launches.proofs.Taking.{both, equal}

less : (b half : ℕ) → half ≤ b → b < 2 * half → pos b -ℤ pos (2 * half) ≡ negsuc (2 * half - 1 - b)
less b half l h = omega (arith, ints)

by_half : (t : Bool) (half b : ℕ) → nat_lt b half ≡ t → half ≤ 2 ^ 31 → b < 2 * half → in_kind word.Int (cond t (pos b) (pos b -ℤ pos (2 * half))) ≡ true
by_half true half b e m h = lt-ltb b (2 ^ 31) (let k : b < half = grind (arith, nat_tests) in omega (arith, k, m))
by_half false half b e m h =
    let l : half ≤ b = grind (arith, nat_tests) in
    ap (in_kind word.Int) (less b half l h) ∙ lt-ltb (2 * half - 1 - b) (2 ^ 31) (omega arith)

narrow_is : (half b : ℕ) → half ≤ 2 ^ 31 → b < 2 * half → IsArgument word.Int (narrow half b)
narrow_is half b m h = (refl, by_half (nat_lt b half) half b refl m h)

unsigned_is : (b : ℕ) → b < 65536 → IsArgument word.Int (unsigned b)
unsigned_is b h = (refl, lt-ltb b (2 ^ 31) (omega arith))

whole_is : (k : Kind) (b : ℕ) → b < 2 ^ 32 → IsArgument k (whole k b)
whole_is k b h = (refl, read_bits-in_kind k b h)

byte_below : (ws : List ℕ) (n : ℕ) → byte_at ws n < 256
byte_below ws n = mod-lt (slice_index ws (n / 4) / 2 ^ (8 * (n % 4))) (omega arith)

pair_below : (ws : List ℕ) (n : ℕ) → pair_at ws n < 65536
pair_below ws n = mod-lt (slice_index ws (n / 2) / 2 ^ (16 * (n % 2))) (omega arith)

whole_below : (ws : List ℕ) (n : ℕ) → whole_at ws n < 2 ^ 32
whole_below ws n = mod-lt (slice_index ws n) (omega arith)

component_is : (s : Scalar) (ws : List ℕ) (n : ℕ) → IsArgument (kind_of s) (component s ws n)
component_is scalars.Char ws n = narrow_is 128 (byte_at ws n) (omega arith) (byte_below ws n)
component_is scalars.Uchar ws n = unsigned_is (byte_at ws n) (omega (arith, byte_below ws n))
component_is scalars.Short ws n = narrow_is 32768 (pair_at ws n) (omega arith) (pair_below ws n)
component_is scalars.Ushort ws n = unsigned_is (pair_at ws n) (pair_below ws n)
component_is scalars.Int ws n = whole_is word.Int (whole_at ws n) (whole_below ws n)
component_is scalars.Uint ws n = whole_is word.Uint (whole_at ws n) (whole_below ws n)
component_is scalars.Long ws n = whole_is word.Int (whole_at ws n) (whole_below ws n)
component_is scalars.Float ws n = whole_is word.Uint (whole_at ws n) (whole_below ws n)

components_are : (s : Scalar) (ws : List ℕ) (n count : ℕ) (ks : List Kind) (vs : List Word) → AllZip IsArgument ks vs → AllZip IsArgument (component_kinds s count ++ ks) (components s ws n count ++ vs)
components_are s ws n zero ks vs h = h
components_are s ws n (suc count) ks vs h = (component_is s ws n, components_are s ws (n + 1) count ks vs h)

values_are : (s : Shape) (a : Argument) (ks : List Kind) (vs : List Word) → AllZip IsArgument ks vs → AllZip IsArgument (value_kinds s ++ ks) (words_at s a ++ vs)
values_are (Value e) a ks vs h = components_are e.scalar a.words 0 e.width ks vs h
values_are (Buffer e) a ks vs h = h
values_are (Local e count) a ks vs h = h

-- the words are arguments of the kinds of the parameters
pub words_are : (ss : List Shape) (gs : List Argument) → length ss ≡ length gs → AllZip IsArgument (all_kinds value_kinds ss) (words_of ss gs)
words_are [] [] e = tt
words_are [] (a ∷ gs) e = absurd (omega arith)
words_are (s ∷ ss) [] e = absurd (omega arith)
words_are (s ∷ ss) (a ∷ gs) e = values_are s a (all_kinds value_kinds ss) (words_of ss gs) (words_are ss gs (omega arith))

one_kind : (j k : Kind) → same_kind j k ≡ true → j ≡ k
one_kind word.Int word.Int h = refl
one_kind word.Int word.Uint h = cc
one_kind word.Int word.Size h = cc
one_kind word.Uint word.Int h = cc
one_kind word.Uint word.Uint h = refl
one_kind word.Uint word.Size h = cc
one_kind word.Size word.Int h = cc
one_kind word.Size word.Uint h = cc
one_kind word.Size word.Size h = refl

rows_are_one : (js ks : List Kind) → length js ≡ length ks → same_rows js ks ≡ true → js ≡ ks
rows_are_one [] [] e h = refl
rows_are_one [] (k ∷ ks) e h = absurd (omega arith)
rows_are_one (j ∷ js) [] e h = absurd (omega arith)
rows_are_one (j ∷ js) (k ∷ ks) e h =
    let p = both (same_kind j k) (same_rows js ks) h in
    ap (λ l. l ∷ js) (one_kind j k p.0) ∙ ap (λ ls. k ∷ ls) (rows_are_one js ks (omega arith) p.1)

pub kinds_are_one : (js ks : List Kind) → same_kinds js ks ≡ true → js ≡ ks
kinds_are_one js ks h =
    let p = both (nat_eq (length js) (length ks)) (same_rows js ks) h in
    rows_are_one js ks (equal (length js) (length ks) p.0) p.1

pub record AreOf (k : Kernel) (ss : List Shape) : Type 0 where
  pub arguments : k.arguments ≡ all_kinds value_kinds ss
  pub buffers : k.buffers ≡ all_kinds buffer_kinds ss

pub are_of : (k : Kernel) (ss : List Shape) → are_parameters k ss ≡ true → AreOf k ss
are_of k ss h =
    let p = both (same_kinds k.arguments (all_kinds value_kinds ss)) (same_kinds k.buffers (all_kinds buffer_kinds ss)) h in
    record { arguments = kinds_are_one k.arguments (all_kinds value_kinds ss) p.0; buffers = kinds_are_one k.buffers (all_kinds buffer_kinds ss) p.1 }

lengths_alike_at : (s : Shape) (a : Argument) (ks : List Kind) (ns : List ℕ) → length ks ≡ length ns → length (buffer_kinds s ++ ks) ≡ length (lengths_at s a ++ ns)
lengths_alike_at (Value e) a ks ns h = h
lengths_alike_at (Buffer e) a ks ns h = ap suc h
lengths_alike_at (Local e count) a ks ns h = h

-- there are as many lengths as kinds of buffers
pub lengths_alike : (ss : List Shape) (gs : List Argument) → length ss ≡ length gs → length (all_kinds buffer_kinds ss) ≡ length (lengths_of ss gs)
lengths_alike [] [] e = refl
lengths_alike [] (a ∷ gs) e = absurd (omega arith)
lengths_alike (s ∷ ss) [] e = absurd (omega arith)
lengths_alike (s ∷ ss) (a ∷ gs) e = lengths_alike_at s a (all_kinds buffer_kinds ss) (lengths_of ss gs) (lengths_alike ss gs (omega arith))

-- buffers with numbers of their kinds that are no longer than a `uint` counts
pub buffers_are : (ks : List Kind) (bs : List (List ℤ)) → AllZip (λ k b. All (λ z. in_kind k z ≡ true) b) ks bs → All (λ n. n ≤ 4294967295) (map (λ b. length b) bs) → AllZip IsBuffer ks bs
buffers_are [] [] h f = tt
buffers_are [] (b ∷ bs) h f = absurd h
buffers_are (k ∷ ks) [] h f = absurd h
buffers_are (k ∷ ks) (b ∷ bs) h f =
    ((All-head (λ n. n ≤ 4294967295) (length b) (map (λ b. length b) bs) f, h.0), buffers_are ks bs h.1 (All-tail (λ n. n ≤ 4294967295) (length b) (map (λ b. length b) bs) f))
