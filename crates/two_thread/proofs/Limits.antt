-- Lists that are over their limit.
use Rattle.std.proofs.Common.{◌≡◌, ℕ, ◌+◌, ◌≤◌, List, ◌++◌, length, map, sym, ap, ◌∙◌, arith}
use Rattle.std.proofs.lemmas.List.{length-map, length-append}
use Rattle.facts.specs.declared.error.WalkError.{WalkError}
use Rattle.facts.specs.declared.error.WalkError.TheVariants as walks
use Rattle.two_thread.specs.Refusals.{IsOver}

pub over_more : (most n m : ℕ) (e : WalkError) → n ≤ m → IsOver most n e → IsOver most m e
over_more most n m walks.TooMany h u = omega (arith, h, u)
over_more most n m walks.TooLarge h u = u
over_more most n m walks.Memory h u = tt

-- with what comes next already over
pub over_in : {A B : Type 0} (view : A → B) (most : ℕ) (e : WalkError) (old now : List A) (left next rest all : List B) → map view now ++ left ≡ map view old ++ all → left ≡ next ++ rest → IsOver most (length now + length next) e → IsOver most (length old + length all) e
over_in view most e old now left next rest all q d u =
    let a : length (map view now ++ left) ≡ length now + (length next + length rest) = length-append (map view now) left ∙ ap (λ n. n + length left) (length-map now view) ∙ ap (λ n. length now + n) (ap length d ∙ length-append next rest) in
    let b : length (map view old ++ all) ≡ length old + length all = length-append (map view old) all ∙ ap (λ n. n + length all) (length-map old view) in
    let c : length (map view now ++ left) ≡ length (map view old ++ all) = ap length q in
    over_more most (length now + length next) (length old + length all) e (omega (arith, a, b, c)) u

-- of a list that begins with these, or ends with these
pub over_first : {A : Type 0} (most n : ℕ) (e : WalkError) (one rest all : List A) → one ++ rest ≡ all → n ≡ 0 → IsOver most (n + length one) e → IsOver most (length all) e
over_first most n e one rest all q z u = let a = length-append one rest in let b = ap length q in over_more most (n + length one) (length all) e (omega (arith, a, b, z)) u

pub over_last : {A B : Type 0} (view : A → B) (most : ℕ) (e : WalkError) (found : List A) (one rest all : List B) → one ++ rest ≡ all → map view found ≡ one → IsOver most (length found + length rest) e → IsOver most (length all) e
over_last view most e found one rest all q d u = let a = length-append one rest in let b = ap length q in let m : length found ≡ length one = sym (length-map found view) ∙ ap length d in over_more most (length found + length rest) (length all) e (omega (arith, a, b, m)) u

pub over_whole : {A B : Type 0} (view : A → B) (most : ℕ) (e : WalkError) (now : List A) (left next rest all : List B) → map view now ++ left ≡ all → left ≡ next ++ rest → IsOver most (length now + length next) e → IsOver most (length all) e
over_whole view most e now left next rest all q d u =
    let a : length (map view now ++ left) ≡ length now + (length next + length rest) = length-append (map view now) left ∙ ap (λ n. n + length left) (length-map now view) ∙ ap (λ n. length now + n) (ap length d ∙ length-append next rest) in
    let c : length (map view now ++ left) ≡ length all = ap length q in
    over_more most (length now + length next) (length all) e (omega (arith, a, c)) u
