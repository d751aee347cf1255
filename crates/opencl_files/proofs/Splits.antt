-- A list, split before and behind an element, as it is seen.
use Rattle.std.proofs.Common.{◌≡◌, ℕ, suc, ◌+◌, ◌-◌, ◌<◌, ◌≤◌, List, [], ◌∷◌, ◌++◌, length, get_or, take, drop, refl, ap, sym, subst, ◌∙◌, map, arith, length-drop, add-one}
use Rattle.std.specs.List.{slice_range}
use Rattle.opencl_tokens.specs.Seen.{lexeme}
use Rattle.opencl_tokens.specs.declared.Lexeme.{Lexeme}
use Rattle.opencl_parser.specs.View.{lexemes}
use Rattle.std.proofs.lemmas.List.{map-append, drop_more, get_or-drop, take-map, drop-map, length-map}
use Rattle.std.proofs.Math.Seq.{take-suc}

pub dropped : {A B : Type 0} (view : A → B) (xs : List A) (i : ℕ) (d : A) → i < length xs → map view (drop i xs) ≡ view (get_or xs i d) ∷ map view (drop (i + 1) xs)
dropped view xs i d h = ap (map view) (drop_more xs i d h)

taken_one : {A : Type 0} (xs : List A) (i : ℕ) (d : A) → i < length xs → take (i + 1) xs ≡ take i xs ++ get_or xs i d ∷ []
taken_one xs i d h = ap (λ n. take n xs) (add-one i) ∙ take-suc xs i d h

pub taken : {A B : Type 0} (view : A → B) (xs : List A) (i : ℕ) (d : A) → i < length xs → map view (take (i + 1) xs) ≡ map view (take i xs) ++ view (get_or xs i d) ∷ []
taken view xs i d h = ap (map view) (taken_one xs i d h) ∙ map-append view (take i xs) (get_or xs i d ∷ [])

ranged : {A : Type 0} (xs : List A) (from i : ℕ) (d : A) → from ≤ i → i < length xs → slice_range xs from (i + 1) ≡ slice_range xs from i ++ get_or xs i d ∷ []
ranged xs from i d h k =
    let more : i + 1 - from ≡ (i - from) + 1 = omega arith in
    let back : from + (i - from) ≡ i = omega arith in
    let few : i - from < length (drop from xs) = omega (arith, length-drop from xs) in
    ap (λ n. take n (drop from xs)) more ∙ taken_one (drop from xs) (i - from) d few
    ∙ ap (λ x. take (i - from) (drop from xs) ++ x ∷ []) (get_or-drop from xs (i - from) d ∙ ap (λ n. get_or xs n d) back)

pub range_more : {A B : Type 0} (view : A → B) (xs : List A) (from i : ℕ) (d : A) → from ≤ i → i < length xs → map view (slice_range xs from (i + 1)) ≡ map view (slice_range xs from i) ++ view (get_or xs i d) ∷ []
range_more view xs from i d h k = ap (map view) (ranged xs from i d h k) ∙ map-append view (slice_range xs from i) (get_or xs i d ∷ [])

pub range_none : {A B : Type 0} (view : A → B) (xs : List A) (i : ℕ) → map view (slice_range xs i i) ≡ []
range_none view xs i =
    let none : i - i ≡ 0 = omega arith in
    ap (λ n. map view (take n (drop i xs))) none

pub lexemes-take : (n : ℕ) (ts : List Lexeme) → lexemes (take n ts) ≡ take n (lexemes ts)
lexemes-take n ts = sym (take-map lexeme n ts)

pub lexemes-drop : (n : ℕ) (ts : List Lexeme) → lexemes (drop n ts) ≡ drop n (lexemes ts)
lexemes-drop n ts = sym (drop-map lexeme n ts)

pub lexemes-length : (ts : List Lexeme) → length (lexemes ts) ≡ length ts
lexemes-length ts = length-map ts lexeme

pub ruleset halves = (lexemes-take, lexemes-drop, lexemes-length)
