-- A number only grows by its further digits.
use Rattle.std.proofs.Common.{ℕ, ◌+◌, ◌*◌, ◌<◌, ◌≤◌, List, [], ◌∷◌, length, drop, get_or, arith}
use Rattle.std.specs.Prelude.{fold}
use Rattle.std.proofs.lemmas.List.{drop_more}
use Rattle.texts.specs.Numbers.{digit_value}
use Rattle.opencl_tokens.specs.Numbers.{Radix, Octal, Decimal, Hexadecimal, base_of}

grown : (radix : Radix) (n d : ℕ) → n ≤ n * base_of radix + d
grown Octal n d = omega arith
grown Decimal n d = omega arith
grown Hexadecimal n d = omega arith

grows : (radix : Radix) (digits : List ℕ) (n : ℕ) → n ≤ fold (λ n b. n * base_of radix + digit_value b) n digits
grows radix [] n = omega arith
grows radix (b ∷ digits) n = omega (arith, grown radix n (digit_value b), grows radix digits (n * base_of radix + digit_value b))

pub grows_at : (radix : Radix) (digits : List ℕ) (i n : ℕ) → i < length digits →
    n * base_of radix + digit_value (get_or digits i 0) ≤ fold (λ n b. n * base_of radix + digit_value b) n (drop i digits)
grows_at radix digits i n h = rw (drop_more digits i 0) (grows radix (drop (i + 1) digits)
    (n * base_of radix + digit_value (get_or digits i 0)))
