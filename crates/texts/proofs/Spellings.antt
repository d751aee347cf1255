-- The names of a text are identifiers, its numbers are of their kinds.
use Rattle.std.proofs.Common.{◌≡◌, ℕ, suc, ◌+◌, ◌^◌, Bool, true, false, not, ◌&&◌, ◌||◌, nat_lt, nat_eq, cond, Result, Ok, Err, List, [], ◌∷◌, length, take, drop, refl, sym, subst, arith}
use Rattle.std.specs.List.{prefix_len}
use Rattle.std.proofs.lemmas.Bool.{false≢true, cond_both, and_parts, and_from}
use Rattle.texts.specs.Faults.{TextFault}
use Rattle.texts.specs.Numbers.{Literal, value_of, is_digit, is_literal, sized, with_suffix, is_prefixed, number_in, number_of}
use Rattle.lines.specs.Bytes.{is_well_spelt}
use Rattle.texts.specs.Tokens as token
use Rattle.texts.specs.Tokens.{TokenKind, Token, tokens_of}
use Rattle.lines.specs.Bytes.{is_letter, is_word_byte}
use Rattle.texts.specs.Lexemes.{lexemes}
use Rattle.lines.specs.Identifiers.{all_word_bytes, is_identifier}
use Rattle.texts.specs.Reading.{IsText, IsWord, Reads, ends, gap, token as one_token}
use Rattle.texts.specs.Spelling.{IsSpelt, AreSpelt}
use Rattle.texts.proofs.Reading.{tokens_read}

-- numbers
FitsKind : Result Literal TextFault → Type 0
FitsKind (Ok l) = is_literal l.kind l.value ≡ true
FitsKind (Err e) = Unit {0}

sized-fits : (hexadecimal suffixed : Bool) (n : ℕ) → FitsKind (sized hexadecimal suffixed n)
unfolding FitsKind
sized-fits hexadecimal suffixed n =
    cond_both (not suffixed && nat_lt n (2 ^ 31)) _ _ FitsKind (λ h. (and_parts (not suffixed) (nat_lt n (2 ^ 31)) h).1)
    (λ h. cond_both ((suffixed || hexadecimal) && nat_lt n (2 ^ 32)) _ _ FitsKind (λ h. (and_parts (suffixed || hexadecimal) (nat_lt n (2 ^ 32)) h).1) (λ h. tt))

suffix-fits : (hexadecimal : Bool) (n : ℕ) (bytes : List ℕ) → FitsKind (with_suffix hexadecimal n bytes)
unfolding FitsKind
suffix-fits hexadecimal n [] = sized-fits hexadecimal false n
suffix-fits hexadecimal n (b ∷ []) = cond_both (nat_eq b 117 || nat_eq b 85) _ _ FitsKind (λ h. sized-fits hexadecimal true n) (λ h. tt)
suffix-fits hexadecimal n (b ∷ c ∷ bytes) = tt

in-fits : (hexadecimal : Bool) (bytes : List ℕ) → FitsKind (number_in hexadecimal bytes)
unfolding FitsKind
in-fits hexadecimal bytes =
    let n = prefix_len (is_digit hexadecimal) bytes in
    cond_both (is_well_spelt hexadecimal (take n bytes)) _ _ FitsKind (λ h. suffix-fits hexadecimal (value_of hexadecimal (take n bytes)) (drop n bytes)) (λ h. tt)

number-fits : (bytes : List ℕ) (l : Literal) → number_of bytes ≡ Ok l → is_literal l.kind l.value ≡ true
unfolding FitsKind
number-fits bytes l e = subst FitsKind e (cond_both (is_prefixed bytes) _ _ FitsKind (λ h. in-fits true (drop 2 bytes)) (λ h. in-fits false bytes))

-- names
words-all : (bytes : List ℕ) → prefix_len is_word_byte bytes ≡ length bytes → all_word_bytes bytes ≡ true
words-all [] h = refl
words-all (b ∷ bytes) h = by (is_word_byte b) refl h (words-all bytes)
  where
    by : (t : Bool) → is_word_byte b ≡ t → cond t (1 + prefix_len is_word_byte bytes) 0 ≡ suc (length bytes) → (prefix_len is_word_byte bytes ≡ length bytes → all_word_bytes bytes ≡ true) → (is_word_byte b && all_word_bytes bytes) ≡ true
    by true q h again = and_from (is_word_byte b) (all_word_bytes bytes) q (again (omega (arith, h)))
    by false q h again = absurd (omega (arith, h))

identifier : (bytes rest : List ℕ) → IsWord is_letter bytes rest → is_identifier bytes ≡ true
identifier [] rest w = absurd (false≢true w.1)
identifier (b ∷ bytes) rest w =
    let words = and_parts (is_word_byte b) (all_word_bytes bytes) (words-all (b ∷ bytes) w.0.0) in
    and_from (is_letter b) (all_word_bytes bytes) w.1 words.1

spelt : (kind : TokenKind) (bytes rest : List ℕ) → IsText kind bytes rest → IsSpelt kind
spelt (token.Name name) bytes rest h = subst (λ x. is_identifier x ≡ true) (sym h.2) (identifier bytes rest h.0)
spelt (token.Number l) bytes rest h = number-fits bytes l h.2
spelt (token.Word w) bytes rest h = tt
spelt (token.Mark s) bytes rest h = tt
spelt token.End bytes rest h = tt

all-spelt : (text : List ℕ) (at : ℕ) (bytes : List ℕ) (tokens : List Token) → Reads text at bytes tokens → AreSpelt (lexemes tokens)
all-spelt text at bytes tokens (ends n) = (tt, tt)
all-spelt text at bytes tokens (gap n some rest ts g h) = all-spelt text _ rest ts h
all-spelt text at bytes tokens (one_token n kind some rest ts g h) = (spelt kind some rest g, all-spelt text _ rest ts h)

pub lexemes_spelt : (text : List ℕ) (tokens : List Token) → tokens_of text ≡ Ok tokens → AreSpelt (lexemes tokens)
lexemes_spelt text tokens e = all-spelt text 0 text tokens (tokens_read text tokens e).1
