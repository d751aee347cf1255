-- What is written is read: numbers, names and words of lines.
use Rattle.std.proofs.Common.{◌≡◌, ℕ, suc, ◌+◌, ◌<◌, ◌≤◌, ◌^◌, true, false, nat_eq, nat_le, List, [], ◌∷◌, ◌++◌, length, take, drop, Ok, refl, ap, sym, ◌∙◌, arith}
use Rattle.std.specs.Prelude.{ℤ, pos, negsuc, codes, bytes_eq}
use Rattle.std.specs.List.{prefix_len, starts_with}
use Rattle.std.specs.Str.{all_ascii_digits}
use Rattle.std.specs.Fmt.{decimal, signed_decimal}
use Rattle.std.proofs.Math.Seq.{take-append_seam, drop-append_seam}
use Rattle.std.proofs.lemmas.Bool.{cond-true, cond-false}
use Rattle.std.proofs.lemmas.Bool.Decides.{nat_tests}
use Rattle.std.proofs.lemmas.Fmt.{decimal_nonempty}
use Rattle.std.proofs.lemmas.Slice.Eq.{bytes_eq-Decides}
use Rattle.semantics.specs.Word.{Kind, Int, Uint, Size, Word, in_kind}
use Rattle.semantics.specs.Launch.{IsArgument}
use Rattle.lines.specs.Bytes.{is_decimal_digit}
use Rattle.lines.specs.Bytes.{is_letter, is_word_byte}
use Rattle.lines.specs.Lines.{integer_of}
use Rattle.lines.specs.Identifiers.{all_word_bytes, is_identifier}
use Rattle.lines.specs.Lines.{is_integer}
use Rattle.texts.specs.Surface.{Parameter}
use Rattle.launch_text.specs.LaunchFaults.{Cursor, Step, cursor}
use Rattle.launch_text.specs.LaunchWords.{number_length, number_found, number_at, natural_at, word_at, name_at, parameter_at}
use Rattle.lines.proofs.Fronts.{both}
use Rattle.lines.proofs.Decimals.{digits_of_decimal, integer_forth}

digits_prefix : (ds rest : List ℕ) → all_ascii_digits ds ≡ true → prefix_len is_decimal_digit rest ≡ 0 → prefix_len is_decimal_digit (ds ++ rest) ≡ length ds
digits_prefix [] rest h s = s
digits_prefix (b ∷ ds) rest h s =
    let p = both (is_decimal_digit b) (all_ascii_digits ds) h in
    rw (p.0, digits_prefix ds rest p.1 s) (omega arith)

no_sign : (ds rest : List ℕ) → 0 < length ds → all_ascii_digits ds ≡ true → starts_with nat_eq (ds ++ rest) (codes "-") ≡ false
no_sign [] rest l h = absurd (omega arith)
no_sign (b ∷ ds) rest l h = grind (arith, nat_tests)

some_digit : (n : ℕ) → n < 2 ^ 64 → 0 < length (decimal n)
some_digit n l = omega (arith, decimal_nonempty n l)

pub one_more : (n : ℕ) → 1 + n ≡ suc n
one_more n = omega arith

length_forth : (z : ℤ) (rest : List ℕ) → is_integer z ≡ true → prefix_len is_decimal_digit rest ≡ 0 → number_length (signed_decimal z ++ rest) ≡ length (signed_decimal z)
length_forth (pos n) rest h s =
    let l : n < 2 ^ 64 = grind (arith, nat_tests) in
    let d = digits_of_decimal n l in
    cond-false (starts_with nat_eq (decimal n ++ rest) (codes "-")) _ _ (no_sign (decimal n) rest (some_digit n l) d) ∙ digits_prefix (decimal n) rest d s
length_forth (negsuc n) rest h s =
    let l : suc n < 2 ^ 64 = grind (arith, nat_tests) in
    ap (λ m. 1 + m) (digits_prefix (decimal (suc n)) rest (digits_of_decimal (suc n) l) s) ∙ one_more (length (decimal (suc n)))

pub number_forth : (z : ℤ) (rest : List ℕ) (n : ℕ) → is_integer z ≡ true → prefix_len is_decimal_digit rest ≡ 0 → number_at (cursor n (signed_decimal z ++ rest)) ≡ Ok (z, cursor n rest)
unfolding number_at
number_forth z rest n h s =
    let ds = signed_decimal z in
    ap (λ m. number_found (integer_of (take m (ds ++ rest))) (cursor n (drop m (ds ++ rest)))) (length_forth z rest h s)
    ∙ ap (λ w. number_found (integer_of w) (cursor n (drop (length ds) (ds ++ rest)))) (take-append_seam ds rest)
    ∙ ap (λ r. number_found (integer_of ds) (cursor n r)) (drop-append_seam ds rest)
    ∙ ap (λ r. number_found r (cursor n rest)) (integer_forth z h)

pub natural_forth : (least most m : ℕ) (rest : List ℕ) (n : ℕ) → least ≤ m → m ≤ most → m < 2 ^ 63 → prefix_len is_decimal_digit rest ≡ 0 → natural_at least most (cursor n (decimal m ++ rest)) ≡ Ok (m, cursor n rest)
unfolding natural_at
natural_forth least most m rest n a b l s =
    let fits : is_integer (pos m) ≡ true = grind (arith, nat_tests) in
    let low : nat_le least m ≡ true = grind (arith, nat_tests) in
    let high : nat_le m most ≡ true = grind (arith, nat_tests) in
    rw (number_forth (pos m) rest n fits s, low, high) refl

int_fits : (k : Kind) (z : ℤ) → in_kind k z ≡ true → is_integer z ≡ true
int_fits Int (pos n) h = grind (arith, nat_tests)
int_fits Int (negsuc n) h = grind (arith, nat_tests)
int_fits Uint (pos n) h = grind (arith, nat_tests)
int_fits Uint (negsuc n) h = absurd cc
int_fits Size (pos n) h = grind (arith, nat_tests)
int_fits Size (negsuc n) h = absurd cc

pub word_forth : (k : Kind) (w : Word) (rest : List ℕ) (n : ℕ) → IsArgument k w → prefix_len is_decimal_digit rest ≡ 0 → word_at k (cursor n (signed_decimal w.value ++ rest)) ≡ Ok (w, cursor n rest)
unfolding word_at
word_forth k w rest n h s =
    rw (number_forth w.value rest n (int_fits k w.value h.1) s, h.1, sym h.0) refl

pub word_prefix : (name rest : List ℕ) → all_word_bytes name ≡ true → prefix_len is_word_byte rest ≡ 0 → prefix_len is_word_byte (name ++ rest) ≡ length name
word_prefix [] rest h s = s
word_prefix (b ∷ name) rest h s =
    let p = both (is_word_byte b) (all_word_bytes name) h in
    rw (p.0, word_prefix name rest p.1 s) (omega arith)

pub letter_in_word : (b : ℕ) → is_letter b ≡ true → is_word_byte b ≡ true
letter_in_word b h = rw h refl

pub name_forth : (name rest : List ℕ) (n : ℕ) → is_identifier name ≡ true → prefix_len is_word_byte rest ≡ 0 → name_at (cursor n (name ++ rest)) ≡ Ok (name, cursor n rest)
unfolding name_at
name_forth [] rest n h s = absurd cc
name_forth (b ∷ name) rest n h s =
    let p = both (is_letter b) (all_word_bytes name) h in
    let all : all_word_bytes (b ∷ name) ≡ true = rw (letter_in_word b p.0, p.1) refl in
    let whole = word_prefix (b ∷ name) rest all s in
    cond-true (is_letter b) _ _ p.0
    ∙ ap (λ m. let r : Step (List ℕ × Cursor) = Ok (take m ((b ∷ name) ++ rest), cursor n (drop m ((b ∷ name) ++ rest))) in r) whole
    ∙ ap (λ w. let r : Step (List ℕ × Cursor) = Ok (w, cursor n (drop (length (b ∷ name)) ((b ∷ name) ++ rest))) in r) (take-append_seam (b ∷ name) rest)
    ∙ ap (λ x. let r : Step (List ℕ × Cursor) = Ok (b ∷ name, cursor n x) in r) (drop-append_seam (b ∷ name) rest)

pub parameter_forth : (ps : List Parameter) (name rest : List ℕ) (n : ℕ) → is_identifier name ≡ true → prefix_len is_word_byte rest ≡ 0 → parameter_at ps name (cursor n (name ++ rest)) ≡ Ok (cursor n rest)
unfolding parameter_at
parameter_forth ps name rest n h s =
    let same : bytes_eq name name ≡ true = (bytes_eq-Decides name name).1 refl in
    rw (name_forth name rest n h s, same) refl
