-- The names and numbers of the canonical text, each before a byte that is no part of it.
use Rattle.std.proofs.Common.{◌≡◌, ℕ, zero, suc, ◌+◌, ◌-◌, ◌*◌, ◌<◌, ◌^◌, List, [], ◌∷◌, ◌++◌, length, take, drop, true, false, cond, nat_eq, nat_le, ◌||◌, None, Ok, ap, refl, sym, ◌∙◌, subst, codes, append_assoc, arith}
use Rattle.std.specs.List.{prefix_len, take_while, find}
use Rattle.std.specs.Str.{bytes_eq}
use Rattle.std.proofs.lemmas.Bool.{false≢true, and_parts, and_from}
use Rattle.std.proofs.lemmas.Bool.Decides.{nat_tests}
use Rattle.std.specs.Str.{all_ascii_digits}
use Rattle.std.specs.Char.{is_ascii_digit}
use Rattle.std.specs.Prelude.{get_or, slice_index_or, fold}
use Rattle.std.specs.Fmt.{decimal}
use Rattle.std.proofs.lemmas.Fmt.{decimal_nonempty}
use Rattle.std.proofs.lemmas.List.{append-nil}
use Rattle.semantics.specs.Word.{Kind, Int, Uint, Size}
use Rattle.texts.specs.Numbers.{Literal, is_literal, is_digit, digit_value, with_suffix, is_prefixed, number_of}
use Rattle.lines.specs.Bytes.{is_decimal_digit, is_well_spelt}
use Rattle.lines.specs.Lines as lines
use Rattle.lines.proofs.Decimals.{decimal_is_decimal, decimal_value, below_of}
use Rattle.texts.specs.Canonical.{number_text}
use Rattle.texts.specs.Reserved.{reserved_words}
use Rattle.texts.specs.Tokens.{TokenKind, Name, Number, Has, piece, is_blank, is_exponent}
use Rattle.lines.specs.Bytes.{is_letter, is_word_byte}
use Rattle.lines.specs.Identifiers.{all_word_bytes}
use Rattle.texts.specs.CanonicalTokens.{IsName, number_token}
use Rattle.texts.proofs.CanonicalPieces.{Lexes, lex_piece}
use Rattle.texts.proofs.CanonicalSigns.{IsFirst}

-- a run of word bytes ends where they end
pub run : (x rest : List ℕ) → all_word_bytes x ≡ true → prefix_len is_word_byte rest ≡ 0 → prefix_len is_word_byte (x ++ rest) ≡ length x
run [] rest h e = e
run (b ∷ x) rest h e =
    let p = and_parts (is_word_byte b) (all_word_bytes x) h in
    let q : 1 + prefix_len is_word_byte (x ++ rest) ≡ suc (length x) = omega (arith, run x rest p.1 e) in
    ap (λ t. cond t (1 + prefix_len is_word_byte (x ++ rest)) 0) p.0 ∙ q

pub front_of : (x rest : List ℕ) → take (length x) (x ++ rest) ≡ x
front_of [] rest = refl
front_of (b ∷ x) rest = ap (λ xs. b ∷ xs) (front_of x rest)

pub back_of : (x rest : List ℕ) → drop (length x) (x ++ rest) ≡ rest
back_of [] rest = refl
back_of (b ∷ x) rest = back_of x rest

letter_no_blank : (b : ℕ) → is_letter b ≡ true → is_blank b ≡ false
letter_no_blank b h = grind (arith, nat_tests)

letter_word : (b : ℕ) → is_letter b ≡ true → is_word_byte b ≡ true
letter_word b h = ap (λ t. t || is_decimal_digit b) h

named : (b : ℕ) (bytes x : List ℕ) (n : ℕ) → is_letter b ≡ true → take_while is_word_byte bytes ≡ x → prefix_len is_word_byte bytes ≡ n → find (λ entry. bytes_eq entry.0 x) reserved_words ≡ None → piece b bytes ≡ Has (Name x) n
named b bytes x n l w m f = rw (letter_no_blank b l, l, w, m, f) refl

pub lex_name : (x : List ℕ) {rest : List ℕ} {ks : List TokenKind} → IsName x → prefix_len is_word_byte rest ≡ 0 → Lexes rest ks → Lexes (x ++ rest) (Name x ∷ ks)
lex_name [] h e go = absurd (false≢true h.0)
lex_name (b ∷ x) {rest} h e go =
    let p = and_parts (is_letter b) (all_word_bytes x) h.0 in
    let all : all_word_bytes (b ∷ x) ≡ true = and_from (is_word_byte b) (all_word_bytes x) (letter_word b p.0) p.1 in
    let n = run (b ∷ x) rest all e in
    let w : take_while is_word_byte ((b ∷ x) ++ rest) ≡ b ∷ x = ap (λ k. take k ((b ∷ x) ++ rest)) n ∙ front_of (b ∷ x) rest in
    lex_piece (Name (b ∷ x)) b x rest _ (named b ((b ∷ x) ++ rest) (b ∷ x) (suc (length x)) p.0 w n h.1) go

digits_all : (ds : List ℕ) → all_ascii_digits ds ≡ true → all_word_bytes ds ≡ true
digits_all [] h = refl
digits_all (b ∷ ds) h =
    let p = and_parts (is_ascii_digit b) (all_ascii_digits ds) h in
    and_from (is_word_byte b) (all_word_bytes ds) (digit_word b p.0) (digits_all ds p.1)
  where
    digit_word : (b : ℕ) → is_ascii_digit b ≡ true → is_word_byte b ≡ true
    digit_word b h = grind (arith, nat_tests)

digit_at : (ds : List ℕ) (k : ℕ) → all_ascii_digits ds ≡ true → k < length ds → is_ascii_digit (get_or ds k 0) ≡ true
digit_at [] k h l = absurd (omega (arith, l))
digit_at (b ∷ ds) zero h l = (and_parts (is_ascii_digit b) (all_ascii_digits ds) h).0
digit_at (b ∷ ds) (suc k) h l = digit_at ds k (and_parts (is_ascii_digit b) (all_ascii_digits ds) h).1 (omega (arith, l))

last_of : (ds : List ℕ) (b : ℕ) → get_or (ds ++ b ∷ []) (length ds) 0 ≡ b
last_of [] b = refl
last_of (c ∷ ds) b = last_of ds b

longer : (ds : List ℕ) (b : ℕ) → length (ds ++ b ∷ []) - 1 ≡ length ds
longer [] b = refl
longer (c ∷ ds) b = lengths (length (ds ++ b ∷ [])) (length ds) (omega (arith, more ds))
  where
    more : (ds : List ℕ) → length (ds ++ b ∷ []) ≡ length ds + 1
    more [] = refl
    more (c ∷ ds) = let e = more ds in omega (arith, e)

    lengths : (m n : ℕ) → m ≡ n + 1 → suc m - 1 ≡ suc n
    lengths m n e = omega (arith, e)

no_exponent : (b : ℕ) → is_ascii_digit b ≡ true → is_exponent b ≡ false
no_exponent b h = grind (arith, nat_tests)

digit_no_blank : (b : ℕ) → is_decimal_digit b ≡ true → is_blank b ≡ false
digit_no_blank b h = grind (arith, nat_tests)

digit_no_letter : (b : ℕ) → is_decimal_digit b ≡ true → is_letter b ≡ false
digit_no_letter b h = grind (arith, nat_tests)

numbered : (b : ℕ) (bytes word : List ℕ) (m : ℕ) (l : Literal) → is_decimal_digit b ≡ true → take_while is_word_byte bytes ≡ word → prefix_len is_word_byte bytes ≡ m → is_exponent (slice_index_or word (length word - 1) 0) ≡ false → number_of word ≡ Ok l → piece b bytes ≡ Has (Number l) m
numbered b bytes word m l d w e x n = rw (digit_no_blank b d, digit_no_letter b d, d, w, e, x, n) refl

numeral : (word : List ℕ) {rest : List ℕ} {ks : List TokenKind} (l : Literal) → all_word_bytes word ≡ true → is_decimal_digit (get_or word 0 0) ≡ true → is_exponent (slice_index_or word (length word - 1) 0) ≡ false → number_of word ≡ Ok l → prefix_len is_word_byte rest ≡ 0 → Lexes rest ks → Lexes (word ++ rest) (Number l ∷ ks)
numeral [] l a d x n e go = absurd (false≢true d)
numeral (b ∷ word) {rest} l a d x n e go =
    let m = run (b ∷ word) rest a e in
    let w : take_while is_word_byte ((b ∷ word) ++ rest) ≡ b ∷ word = ap (λ k. take k ((b ∷ word) ++ rest)) m ∙ front_of (b ∷ word) rest in
    lex_piece (Number l) b word rest _ (numbered b ((b ∷ word) ++ rest) (b ∷ word) (suc (length word)) l d w m x n) go

all_and : (ds suffix : List ℕ) → all_word_bytes ds ≡ true → all_word_bytes suffix ≡ true → all_word_bytes (ds ++ suffix) ≡ true
all_and [] suffix h g = g
all_and (b ∷ ds) suffix h g =
    let p = and_parts (is_word_byte b) (all_word_bytes ds) h in
    and_from (is_word_byte b) (all_word_bytes (ds ++ suffix)) p.0 (all_and ds suffix p.1 g)

digit_run : (ds rest : List ℕ) → all_ascii_digits ds ≡ true → prefix_len (is_digit false) rest ≡ 0 → prefix_len (is_digit false) (ds ++ rest) ≡ length ds
digit_run [] rest h e = e
digit_run (b ∷ ds) rest h e =
    let p = and_parts (is_ascii_digit b) (all_ascii_digits ds) h in
    let d : is_decimal_digit b ≡ true = p.0 in
    let q : 1 + prefix_len (is_digit false) (ds ++ rest) ≡ suc (length ds) = omega (arith, digit_run ds rest p.1 e) in
    ap (λ t. cond t (1 + prefix_len (is_digit false) (ds ++ rest)) 0) d ∙ q

values : (ds : List ℕ) (n : ℕ) → all_ascii_digits ds ≡ true → fold (λ n b. n * 10 + digit_value b) n ds ≡ fold (λ n b. n * 10 + (b - 48)) n ds
values [] n h = refl
values (b ∷ ds) n h =
    let p = and_parts (is_ascii_digit b) (all_ascii_digits ds) h in
    let d : is_decimal_digit b ≡ true = p.0 in
    ap (λ t. fold (λ n b. n * 10 + digit_value b) (n * 10 + cond t (b - 48) (cond (nat_le 97 b) (b - 87) (b - 55))) ds) d ∙ values ds (n * 10 + (b - 48)) p.1

plain_number : (ds suffix : List ℕ) → all_ascii_digits ds ≡ true → prefix_len (is_digit false) suffix ≡ 0 → is_prefixed (ds ++ suffix) ≡ false → is_well_spelt false ds ≡ true → number_of (ds ++ suffix) ≡ with_suffix false (lines.value_of ds) suffix
plain_number ds suffix a e x w =
    rw (x, digit_run ds suffix a e, front_of ds suffix, back_of ds suffix, w, values ds 0 a) refl

unprefixed : (a b : ℕ) (w : List ℕ) → nat_eq 120 b ≡ false → nat_eq 88 b ≡ false → is_prefixed (a ∷ b ∷ w) ≡ false
unprefixed a b w x y = grind (arith, nat_tests, x, y)

-- a byte that goes on with no sign
word_is_first : (b : ℕ) → is_word_byte b ≡ true → IsFirst b
word_is_first b h = (grind (arith, nat_tests), grind (arith, nat_tests))

no_short_prefix : (a : ℕ) → is_prefixed (a ∷ []) ≡ false
no_short_prefix a = grind (arith, nat_tests)

digits_no_prefix : (ds : List ℕ) → all_ascii_digits ds ≡ true → is_prefixed ds ≡ false
digits_no_prefix [] h = refl
digits_no_prefix (a ∷ []) h = no_short_prefix a
digits_no_prefix (a ∷ b ∷ w) h =
    let d = digit_at (a ∷ b ∷ w) 1 h (omega arith) in
    unprefixed a b w (grind (arith, nat_tests, d)) (grind (arith, nat_tests, d))

suffixed_no_prefix : (ds : List ℕ) → all_ascii_digits ds ≡ true → is_prefixed (ds ++ codes "u") ≡ false
suffixed_no_prefix [] h = no_short_prefix 117
suffixed_no_prefix (a ∷ []) h = unprefixed a 117 [] refl refl
suffixed_no_prefix (a ∷ b ∷ w) h =
    let d = digit_at (a ∷ b ∷ w) 1 h (omega arith) in
    unprefixed a b (w ++ codes "u") (grind (arith, nat_tests, d)) (grind (arith, nat_tests, d))

first_digit : (ds suffix : List ℕ) → all_ascii_digits ds ≡ true → 0 < length ds → is_decimal_digit (get_or (ds ++ suffix) 0 0) ≡ true
first_digit [] suffix h l = absurd (omega (arith, l))
first_digit (b ∷ ds) suffix h l = (and_parts (is_ascii_digit b) (all_ascii_digits ds) h).0

pub lex_number : (kind : Kind) (n : ℕ) {rest : List ℕ} {ks : List TokenKind} → is_literal kind n ≡ true → prefix_len is_word_byte rest ≡ 0 → Lexes rest ks → Lexes (number_text kind n ++ rest) (number_token kind n ∷ ks)
lex_number Int n h e go =
    let small : n < 2 ^ 31 = below_of n (2 ^ 31) h in
    let l : n < 2 ^ 64 = omega (arith, small) in
    let p = and_parts (all_ascii_digits (decimal n)) (is_well_spelt false (decimal n)) (decimal_is_decimal n l) in
    let some = decimal_nonempty n l in
    let nil = append-nil (decimal n) in
    numeral (decimal n) (record { kind = Int; value = n }) (digits_all (decimal n) p.0)
    (subst (λ w. is_decimal_digit (get_or w 0 0) ≡ true) nil (first_digit (decimal n) [] p.0 some))
    (no_exponent (slice_index_or (decimal n) (length (decimal n) - 1) 0) (digit_at (decimal n) (length (decimal n) - 1) p.0 (omega (arith, some))))
    (subst (λ w. number_of w ≡ with_suffix false (lines.value_of (decimal n)) []) nil (plain_number (decimal n) [] p.0 refl (subst (λ w. is_prefixed w ≡ false) (sym nil) (digits_no_prefix (decimal n) p.0)) p.1)
    ∙ rw (decimal_value n l, h) refl) e go
lex_number Uint n h e go =
    let small : n < 2 ^ 32 = below_of n (2 ^ 32) h in
    let l : n < 2 ^ 64 = omega (arith, small) in
    let p = and_parts (all_ascii_digits (decimal n)) (is_well_spelt false (decimal n)) (decimal_is_decimal n l) in
    let some = decimal_nonempty n l in
    numeral (decimal n ++ codes "u") (record { kind = Uint; value = n }) (all_and (decimal n) (codes "u") (digits_all (decimal n) p.0) refl)
    (first_digit (decimal n) (codes "u") p.0 some)
    (ap (λ k. is_exponent (slice_index_or (decimal n ++ codes "u") k 0)) (longer (decimal n) 117) ∙ ap is_exponent (last_of (decimal n) 117))
    (plain_number (decimal n) (codes "u") p.0 refl (suffixed_no_prefix (decimal n) p.0) p.1
    ∙ rw (decimal_value n l, h) refl) e go
lex_number Size n h e go = cc

pub front_name : (x rest : List ℕ) → IsName x → (b : ℕ) × (others : List ℕ) × IsFirst b × (x ++ rest ≡ b ∷ others)
front_name [] rest h = absurd (false≢true h.0)
front_name (b ∷ x) rest h = (b, x ++ rest, word_is_first b (letter_word b (and_parts (is_letter b) (all_word_bytes x) h.0).0), refl)

front_digits : (ds rest : List ℕ) → all_word_bytes ds ≡ true → 0 < length ds → (b : ℕ) × (others : List ℕ) × IsFirst b × (ds ++ rest ≡ b ∷ others)
front_digits [] rest h l = absurd (omega (arith, l))
front_digits (b ∷ ds) rest h l = (b, ds ++ rest, word_is_first b (and_parts (is_word_byte b) (all_word_bytes ds) h).0, refl)

pub front_number : (kind : Kind) (n : ℕ) (rest : List ℕ) → is_literal kind n ≡ true → (b : ℕ) × (others : List ℕ) × IsFirst b × (number_text kind n ++ rest ≡ b ∷ others)
front_number Int n rest h =
    let small : n < 2 ^ 31 = below_of n (2 ^ 31) h in
    let l : n < 2 ^ 64 = omega (arith, small) in
    let p = and_parts (all_ascii_digits (decimal n)) (is_well_spelt false (decimal n)) (decimal_is_decimal n l) in
    front_digits (decimal n) rest (digits_all (decimal n) p.0) (decimal_nonempty n l)
front_number Uint n rest h =
    let small : n < 2 ^ 32 = below_of n (2 ^ 32) h in
    let l : n < 2 ^ 64 = omega (arith, small) in
    let p = and_parts (all_ascii_digits (decimal n)) (is_well_spelt false (decimal n)) (decimal_is_decimal n l) in
    let r = front_digits (decimal n) (codes "u" ++ rest) (digits_all (decimal n) p.0) (decimal_nonempty n l) in
    (r.0, r.1, r.2, append_assoc (decimal n) (codes "u") rest ∙ r.3)
front_number Size n rest h = cc
