-- Places one after the other, and what stands at them.
use Rattle.std.proofs.Common.{◌≡◌, ℕ, suc, ◌+◌, ◌-◌, ◌<◌, ◌≤◌, List, [], ◌∷◌, ◌++◌, map, length, drop, get_or, drop-cons, add-one, append-nil, sym, ap, ◌∙◌, arith}
use Rattle.std.proofs.Math.ListN.{drop_of_length-le}
use Rattle.std.proofs.lemmas.List.{append_assoc}
use Rattle.two_thread.specs.Places.{row, rows}
use Rattle.two_thread.specs.declared.on_path.OnPath.{OnPath}

-- one place more of a path
pub row_step : (p i n : ℕ) (found new all : List OnPath) → i < n → new ≡ found ++ record { path = p; item = i } ∷ [] → found ++ row p i (n - i) ≡ all → new ++ row p (i + 1) (n - (i + 1)) ≡ all
row_step p i n found new all h d e =
    let s : n - i ≡ suc (n - (i + 1)) = omega arith in
    let t : suc i ≡ i + 1 = omega arith in
    ap (λ l. l ++ row p (i + 1) (n - (i + 1))) d
    ∙ append_assoc found (record { path = p; item = i } ∷ []) (row p (i + 1) (n - (i + 1)))
    ∙ ap (λ j. found ++ (record { path = p; item = i } ∷ row p j (n - (i + 1)))) (sym t)
    ∙ ap (λ k. found ++ row p i k) (sym s) ∙ e

pub row_end : (p i n : ℕ) (found all : List OnPath) → n ≤ i → found ++ row p i (n - i) ≡ all → found ≡ all
row_end p i n found all h e =
    let z : n - i ≡ 0 = omega arith in
    sym (ap (λ k. found ++ row p i k) z ∙ append-nil found) ∙ e

-- one path more
pub rows_step : {A : Type 0} (count : A → ℕ) (xs : List A) (i : ℕ) (x : A) (found new all : List OnPath) → i < length xs → x ≡ get_or xs i x → new ≡ found ++ row i 0 (count x) → found ++ rows i (map count (drop i xs)) ≡ all → new ++ rows (i + 1) (map count (drop (i + 1) xs)) ≡ all
rows_step count xs i x found new all h q d e =
    let t : suc i ≡ i + 1 = omega arith in
    ap (λ l. l ++ rows (i + 1) (map count (drop (i + 1) xs))) d
    ∙ append_assoc found (row i 0 (count x)) (rows (i + 1) (map count (drop (i + 1) xs)))
    ∙ ap (λ j. found ++ (row i 0 (count x) ++ rows j (map count (drop (i + 1) xs)))) (sym t)
    ∙ ap (λ y. found ++ (row i 0 (count y) ++ rows (suc i) (map count (drop (i + 1) xs)))) q
    ∙ ap (λ k. found ++ (row i 0 (count (get_or xs i x)) ++ rows (suc i) (map count (drop k xs)))) (add-one i)
    ∙ ap (λ l. found ++ rows i (map count l)) (sym (drop-cons xs i x h)) ∙ e

pub rows_end : {A : Type 0} (count : A → ℕ) (xs : List A) (i : ℕ) (found all : List OnPath) → length xs ≤ i → found ++ rows i (map count (drop i xs)) ≡ all → found ≡ all
rows_end count xs i found all h e = sym (ap (λ l. found ++ rows i (map count l)) (drop_of_length-le xs h) ∙ append-nil found) ∙ e
