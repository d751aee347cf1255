-- The choices of the next path, from the last ones that were taken.
use Rattle.std.proofs.Common.{◌≡◌, ℕ, ◌+◌, ◌<◌, List, [], ◌∷◌, ◌++◌, map, take, drop, get_or, drop-cons, add-one, true, Option, Some, None, length, sym, ap, ◌∙◌}
use Rattle.std.proofs.lemmas.List.{take-append-drop, map-append}
use Rattle.path_steps.specs.Paths.{Choice, First, Other, is_first}
use Rattle.path_steps.specs.Turns.{turned, next_choices}
use Rattle.path_steps.specs.View.{choice}
use Rattle.path_steps.specs.declared.path.Choice as code

front : {A : Type 0} (xs : List A) (i : ℕ) (d : A) → i < length xs → drop i xs ≡ get_or xs i d ∷ drop (i + 1) xs
front xs i d h = drop-cons xs i d h ∙ ap (λ k. get_or xs i d ∷ drop k xs) (sym (add-one i))

turned_other : (c : Choice) (x : Option (List Choice)) (n : ℕ) → is_first c ≡ true → x ≡ None → turned c x n ≡ Some (Other n ∷ [])
turned_other First x n h e = ap (λ y. turned First y n) e
turned_other (Other k) x n h e = absurd cc

at_place : (cs : List code.Choice) (i : ℕ) (d : code.Choice) → i < length cs → map choice (drop i cs) ≡ choice (get_or cs i d) ∷ map choice (drop (i + 1) cs)
at_place cs i d h = ap (map choice) (front cs i d h)

behind_front : (xs ys zs : List Choice) (n : ℕ) → next_choices ys n ≡ Some zs → next_choices (xs ++ ys) n ≡ Some (xs ++ zs)
behind_front [] ys zs n h = h
behind_front (x ∷ xs) ys zs n h = ap (λ o. turned x o n) (behind_front xs ys zs n h)

-- the last first way is here
pub first_way : (cs : List code.Choice) (i n : ℕ) (d : code.Choice) → i < length cs → is_first (choice (get_or cs i d)) ≡ true → next_choices (map choice (drop (i + 1) cs)) n ≡ None → next_choices (map choice cs) n ≡ Some (map choice (take i cs) ++ Other n ∷ [])
first_way cs i n d h f e =
    let ys = map choice (drop i cs) in
    let s : next_choices ys n ≡ Some (Other n ∷ []) = ap (λ l. next_choices l n) (at_place cs i d h) ∙ turned_other (choice (get_or cs i d)) (next_choices (map choice (drop (i + 1) cs)) n) n f e in
    ap (λ l. next_choices l n) (ap (map choice) (sym (take-append-drop i cs)) ∙ map-append choice (take i cs) (drop i cs))
    ∙ behind_front (map choice (take i cs)) ys (Other n ∷ []) n s
