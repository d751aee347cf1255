-- Arguments of the functions that choose, by their number.
use Rattle.std.proofs.Common.{◌≡◌, ◌<◌, ℕ, Bool, List, [], ◌∷◌, length, refl, arith}
use Rattle.semantics.specs.Core as core
use Rattle.opencl_values.specs.Choices.{select_called, shuffle_called, join_called, mix_called, tops_called}
use Rattle.opencl_values.specs.Faults.{WrongType, refused}
use Rattle.opencl_values.specs.View.{values}
use Rattle.opencl_values.specs.declared.wholes.Value.{Value}

pub select-few : (at : core.Site) (vs : List Value) → length vs < 3 → select_called at (values vs) ≡ refused WrongType at
select-few at [] h = refl
select-few at (a ∷ []) h = refl
select-few at (a ∷ b ∷ []) h = refl
select-few at (a ∷ b ∷ c ∷ vs) h = absurd (omega arith)

pub select-many : (at : core.Site) (vs : List Value) → 3 < length vs → select_called at (values vs) ≡ refused WrongType at
select-many at [] h = absurd (omega arith)
select-many at (a ∷ []) h = absurd (omega arith)
select-many at (a ∷ b ∷ []) h = absurd (omega arith)
select-many at (a ∷ b ∷ c ∷ []) h = absurd (omega arith)
select-many at (a ∷ b ∷ c ∷ d ∷ vs) h = refl

pub shuffle-few : (at : core.Site) (vs : List Value) → length vs < 2 → shuffle_called at (values vs) ≡ refused WrongType at
shuffle-few at [] h = refl
shuffle-few at (a ∷ []) h = refl
shuffle-few at (a ∷ b ∷ vs) h = absurd (omega arith)

pub shuffle-many : (at : core.Site) (vs : List Value) → 2 < length vs → shuffle_called at (values vs) ≡ refused WrongType at
shuffle-many at [] h = absurd (omega arith)
shuffle-many at (a ∷ []) h = absurd (omega arith)
shuffle-many at (a ∷ b ∷ []) h = absurd (omega arith)
shuffle-many at (a ∷ b ∷ c ∷ vs) h = refl

pub join-few : (at : core.Site) (vs : List Value) → length vs < 3 → join_called at (values vs) ≡ refused WrongType at
join-few at [] h = refl
join-few at (a ∷ []) h = refl
join-few at (a ∷ b ∷ []) h = refl
join-few at (a ∷ b ∷ c ∷ vs) h = absurd (omega arith)

pub join-many : (at : core.Site) (vs : List Value) → 3 < length vs → join_called at (values vs) ≡ refused WrongType at
join-many at [] h = absurd (omega arith)
join-many at (a ∷ []) h = absurd (omega arith)
join-many at (a ∷ b ∷ []) h = absurd (omega arith)
join-many at (a ∷ b ∷ c ∷ []) h = absurd (omega arith)
join-many at (a ∷ b ∷ c ∷ d ∷ vs) h = refl

pub mix-few : (at : core.Site) (vs : List Value) → length vs < 3 → mix_called at (values vs) ≡ refused WrongType at
mix-few at [] h = refl
mix-few at (a ∷ []) h = refl
mix-few at (a ∷ b ∷ []) h = refl
mix-few at (a ∷ b ∷ c ∷ vs) h = absurd (omega arith)

pub mix-many : (at : core.Site) (vs : List Value) → 3 < length vs → mix_called at (values vs) ≡ refused WrongType at
mix-many at [] h = absurd (omega arith)
mix-many at (a ∷ []) h = absurd (omega arith)
mix-many at (a ∷ b ∷ []) h = absurd (omega arith)
mix-many at (a ∷ b ∷ c ∷ []) h = absurd (omega arith)
mix-many at (a ∷ b ∷ c ∷ d ∷ vs) h = refl

pub tops-few : (is_all : Bool) (at : core.Site) (vs : List Value) → length vs < 1 → tops_called is_all at (values vs) ≡ refused WrongType at
tops-few a at [] h = refl
tops-few a at (v ∷ vs) h = absurd (omega arith)

pub tops-many : (is_all : Bool) (at : core.Site) (vs : List Value) → 1 < length vs → tops_called is_all at (values vs) ≡ refused WrongType at
tops-many a at [] h = absurd (omega arith)
tops-many a at (v ∷ []) h = absurd (omega arith)
tops-many a at (v ∷ w ∷ vs) h = refl

pub ruleset select_arguments = (select-few, select-many)

pub ruleset shuffle_arguments = (shuffle-few, shuffle-many)

pub ruleset join_arguments = (join-few, join-many)

pub ruleset mix_arguments = (mix-few, mix-many)

pub ruleset tops_arguments = (tops-few, tops-many)
