-- Claims and accesses of several paths, one path after the other, by places: a path and a number on it.
use Rattle.std.specs.Prelude.{ℕ, zero, suc, List, [], ◌∷◌, ◌++◌, get_or, length}
use Rattle.two_thread.specs.declared.walked.Tagged.{Tagged}
use Rattle.two_thread.specs.declared.on_path.OnPath.{OnPath}

-- so many places of a path, from a number on
abbrev pub row : (path from count : ℕ) → List OnPath
row p i zero = []
row p i (suc n) = record { path = p; item = i } ∷ row p (suc i) n

-- of paths with so many each, from a path on
abbrev pub rows : (path : ℕ) → (counts : List ℕ) → List OnPath
rows p [] = []
rows p (n ∷ ns) = row p 0 n ++ rows (suc p) ns

abbrev pub claim_count : {E : Type 0} → Tagged E → ℕ
claim_count t = length t.path.claims.items

abbrev pub access_count : {E : Type 0} → Tagged E → ℕ
access_count t = length t.path.accesses.items

abbrev pub end_count : {E : Type 0} → Tagged E → ℕ
end_count t = length t.path.ends.items

abbrev pub joined : {A : Type 0} → List (List A) → List A
joined [] = []
joined (l ∷ ls) = l ++ joined ls

-- what stands at a place of lists
abbrev pub at_place : {A : Type 0} → (past : A) → List (List A) → OnPath → A
at_place past ls p = get_or (get_or ls p.path []) p.item past
