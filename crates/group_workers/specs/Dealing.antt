-- What a deque and the numbers taken from it keep.
use Rattle.std.specs.Prelude.{◌≡◌, ℕ, ◌+◌, ◌<◌, ◌≤◌, ◌%◌, ◌==◌, ◌⊎◌, Bool, true, List, [], ◌∷◌, ◌++◌, cond}
use Rattle.std.specs.List.{sum_by}
use mathlib.Core.Option.{some}
use lib.ListN.{get_elem?}
use Rattle.group_workers.specs.declared.Hand.{Hand}

abbrev pub hand : Bool → ℕ → List ℕ → Hand
hand owns next taken = record { owns = owns; next = next; taken = taken }

-- how often k stands in the list
abbrev pub times : ℕ → List ℕ → ℕ
times k = sum_by (λ x. cond (x == k) 1 0)

-- how often k stands in the deque, or was taken by its owner or a pass
abbrev pub met : ℕ → List ℕ → List Hand → ℕ
met k items views = times k items + sum_by (λ v. times k v.taken) views

-- one port at most owns the deque, and it knows the next number
abbrev pub IsOwned : ℕ → ℕ → List Hand → Type 0
IsOwned owner next views = (port : ℕ) (v : Hand) → get_elem? views port ≡ some v → v.owns ≡ true → (port ≡ owner) × (v.next ≡ next)

-- the deque, and what its owner and all passes have taken, hold only numbers of one share below the owner's next one, none twice
abbrev pub Deals : ℕ → List ℕ → List Hand → Type 0
Deals workers items views =
    (owner : ℕ) × (next : ℕ) × IsOwned owner next views
    × ((k : ℕ) → met k items views ≤ 1)
    × ((k : ℕ) → 0 < met k items views → (k < next) × (k % workers ≡ next % workers))

-- nothing was pushed yet, or the owner's next number is of this share
abbrev pub IsOfShare : ℕ → ℕ → Hand → Type 0
IsOfShare workers share owner = (owner.next ≡ 0) ⊎ (owner.next % workers ≡ share % workers)

-- a taker has taken x: now the last one of its list, where it did not stand before, and of one share with all that stood there.
-- An owner knows that share, and that x is below its next number
pub record Took (workers : ℕ) (old : Hand) (x : ℕ) (new : Hand) : Type 0 where
  pub last : new ≡ hand old.owns old.next (old.taken ++ x ∷ [])
  pub first_time : times x old.taken ≡ 0
  pub alike : (k : ℕ) → 0 < times k old.taken → k % workers ≡ x % workers
  pub own : old.owns ≡ true → (x < old.next) × (x % workers ≡ old.next % workers)
