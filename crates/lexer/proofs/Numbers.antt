use Rattle.std.proofs.Common.{ℕ, ◌+◌, ◌*◌, ◌<◌, ◌≤◌, Bool, true, false, List, [], ◌∷◌, length, drop, get_or, arith}
use Rattle.std.specs.Prelude.{fold}
use Rattle.std.proofs.lemmas.List.{drop_more}
use Rattle.texts.specs.Numbers.{base_of, digit_value}

-- a number only grows by its further digits
grown : (hexadecimal : Bool) (n d : ℕ) → n ≤ n * base_of hexadecimal + d
grown true n d = omega arith
grown false n d = omega arith

grows : (hexadecimal : Bool) (digits : List ℕ) (n : ℕ) → n ≤ fold (λ n b. n * base_of hexadecimal + digit_value b) n digits
grows hexadecimal [] n = omega arith
grows hexadecimal (b ∷ digits) n =
    omega (arith, grown hexadecimal n (digit_value b), grows hexadecimal digits (n * base_of hexadecimal + digit_value b))

pub grows_at : (hexadecimal : Bool) (digits : List ℕ) (i n : ℕ) → i < length digits → n * base_of hexadecimal + digit_value (get_or digits i 0) ≤ fold (λ n b. n * base_of hexadecimal + digit_value b) n (drop i digits)
grows_at hexadecimal digits i n h =
    rw (drop_more digits i 0) (grows hexadecimal (drop (i + 1) digits) (n * base_of hexadecimal + digit_value (get_or digits i 0)))
