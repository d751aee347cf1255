-- The steps of a path that comes to a place or to a loop's test, one by one; and where it ends.
use Rattle.std.specs.Prelude.{ℕ, ◌+◌, pos, Bool, true, ◌≡◌, List, [], ◌∷◌, ◌++◌}
use Rattle.facts.specs.Symbols.{Fact, constant, minus}
use Rattle.facts.specs.declared.error.WalkError.{WalkError}
use Rattle.arrivals.specs.Trees.{Turns, AtEnd}
use Rattle.linear.specs.Exact.{multiple}
use Rattle.walk_trees.specs.Trees.{Sort, OfCongruence, OfRanking, Replaced, Divided, Tree, Leaf}
use Rattle.walk_trees.specs.Walks.{Setting, State, settles, claim, arrived, with_rank, rank_form}
use Rattle.obligations.specs.Notes.{opens, holds, fallen, fallen_by}
use Rattle.walk_trees.specs.Operators.{small_product}
use Rattle.obligations.specs.Walking.{Placed, divides_form, never, claim_product, claim_rank, rank_on}
use Rattle.path_steps.specs.Paths.{Found, Followed, collect}
use Rattle.path_steps.specs.Refusals.{Refused}

-- a form that is put together of others
abbrev pub claim_told : {E : Type 0} → Setting E → Sort → List Fact → Fact → State E → (State E → Tree E) → Tree E
claim_told s o ms f st go = claim o true (settles s st f) (Replaced ms f) st go

-- both claims of a congruence or a multiple, by the product with its quotient
abbrev pub claim_over : {E : Type 0} → Bool → List Fact → (form product : Fact) → State E → (State E → Tree E) → Tree E
claim_over b ms f p st go = claim OfCongruence true b (Divided (ms ++ p ∷ []) (minus f p)) st go

abbrev pub claim_under : {E : Type 0} → Bool → (form product : Fact) → State E → (State E → Tree E) → Tree E
claim_under b f p st go = claim OfCongruence true b (Divided [] (minus p f)) st go

abbrev pub claim_divided : {E : Type 0} → Bool → List Fact → (form product : Fact) → State E → (State E → Tree E) → Tree E
claim_divided b ms f p st go = claim_over b ms f p st (λ st'. claim_under b f p st' go)

-- of a congruence whose form was put in the path's terms
abbrev pub claim_put : {E : Type 0} → Placed E → ℕ → List Fact → Fact → State E → (State E → Tree E) → Tree E
claim_put w m ms f st go = claim_divided (divides_form m f) ms f (multiple (pos m) (w.notes.quotient (st.claims + 1))) st go

-- of a multiple whose forms were
abbrev pub claim_put_multiple : {E : Type 0} → Placed E → List Fact → (form of : Fact) → State E → (State E → Tree E) → Tree E
claim_put_multiple w ms f g st go = claim_product ms f (small_product g (w.notes.quotient (st.claims + 1))) st go

-- what is found where the path ends
abbrev pub Comes : {E : Type 0} → Followed E → (State E → Tree E) → Found E → Type 0
Comes l walk n = n ≡ collect l.found (walk l.state)

abbrev pub IsRefusedAt : {E : Type 0} → Followed E → (State E → Tree E) → WalkError → Type 0
IsRefusedAt l walk e = Refused e (collect l.found (walk l.state))

-- the end of an item
abbrev pub end_at : {E : Type 0} → Turns → State E → Tree E
end_at t st = Leaf (arrived AtEnd t st)

-- of a ranking whose form was
abbrev pub put_opened : {E : Type 0} → Placed E → ℕ → List Fact → Fact → State E → (State E → Tree E) → Tree E
put_opened w n ms f st go = claim_told w.setting OfRanking ms (opens (w.notes.ranking n).bound f) st go

abbrev pub put_fallen : {E : Type 0} → Placed E → ℕ → List Fact → Fact → State E → (State E → Tree E) → Tree E
put_fallen w n ms f st go = claim_told w.setting OfRanking (ms ++ fallen_by (w.notes.ranking n).bound (rank_form st.ranks n) f ∷ []) (fallen (w.notes.ranking n).bound (rank_form st.ranks n) f) st go

abbrev pub put_entered : {E : Type 0} → Placed E → ℕ → List Fact → Fact → State E → (State E → Tree E) → Tree E
put_entered w n ms f st go = claim_told w.setting OfRanking ms (holds (w.notes.ranking n).bound f) st (λ st'. go (with_rank n f st'))

-- of one that was not
abbrev pub never_entered : {E : Type 0} → ℕ → State E → (State E → Tree E) → Tree E
never_entered n st go = never st (λ st'. go (with_rank n (constant (pos 0)) st'))

-- a loop's ranking where it opens, where it has turned, and where its test was true
abbrev pub claim_opened : {E : Type 0} → Placed E → ℕ → State E → (State E → Tree E) → Tree E
claim_opened w n st go = claim_rank w n [] (opens (w.notes.ranking n).bound (rank_on w n st)) st go

abbrev pub claim_fallen : {E : Type 0} → Placed E → ℕ → State E → (State E → Tree E) → Tree E
claim_fallen w n st go = claim_rank w n (fallen_by (w.notes.ranking n).bound (rank_form st.ranks n) (rank_on w n st) ∷ []) (fallen (w.notes.ranking n).bound (rank_form st.ranks n) (rank_on w n st)) st go

abbrev pub claim_entered : {E : Type 0} → Placed E → ℕ → State E → (State E → Tree E) → Tree E
claim_entered w n st go = claim_rank w n [] (holds (w.notes.ranking n).bound (rank_on w n st)) st (λ st'. go (with_rank n (rank_on w n st) st'))
