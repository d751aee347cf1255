-- Histories without a clash, the first clash of one, and what is watched of it.
use Rattle.std.specs.Prelude.{◌≡◌, ◌≤◌, ◌++◌, ◌∷◌, ℕ, List, Bool, length, slice_index_or, MatchOption}
use Rattle.std.specs.List.{Contains}
use Rattle.semantics.specs.Memory.{Cell}
use Rattle.semantics.specs.Setup.{Setup, group_of, group_size}
use Rattle.semantics.specs.Solo.{Access}
use Rattle.semantics.specs.Safety.{Clash}
use Rattle.semantics.specs.Tests.{clashes}
use Rattle.clashes.specs.View.{access}
use Rattle.clashes.specs.Knowledge.{Knows}
use Rattle.clashes.specs.Elements.{seen_of}
use Rattle.clashes.specs.declared.access.Access as code
use Rattle.clashes.specs.declared.watch.Watch.{Watch}

abbrev pub HasNoClash : Setup → List Access → Type 0
HasNoClash s history = (a b : Access) → Contains history a → Contains history b → Clash s a b → ⊥

-- of all that clash the two of which the later one comes first, and then the earlier one; the earlier first
pub record IsFirstClash (s : Setup) (history : List Access) (a b : Access) : Type 0 where
  pub before : List Access
  pub between : List Access
  pub after : List Access
  pub is : history ≡ (before ++ a ∷ between) ++ b ∷ after
  pub clash : Clash s a b
  pub none_sooner : HasNoClash s (before ++ a ∷ between)
  pub none_before : (x : Access) → Contains before x → Clash s x b → ⊥

-- the access at a place is the first that clashes with an earlier one
pub record ClashesFirst (s : Setup) (history : List Access) (place : ℕ) : Type 0 where
  pub before : List Access
  pub after : List Access
  pub earlier : Access
  pub later : Access
  pub is : history ≡ before ++ later ∷ after
  pub at : length before ≡ place
  pub among : Contains before earlier
  pub clash : Clash s earlier later
  pub none_sooner : HasNoClash s before

-- no access of its element by its group is of a later epoch
abbrev pub IsNext : Setup → List Access → Access → Type 0
IsNext s history b = (a : Access) → Contains history a → a.at ≡ b.at → group_of s a.item ≡ group_of s b.item → a.epoch ≤ b.epoch

pub record KnowsAll (s : Setup) (history : List Access) (w : Watch) : Type 0 where
  pub none : HasNoClash s history
  pub elements : (c : Cell) → Knows (group_size s) history c (seen_of w c)

abbrev pub Watches : Setup → List Access → Watch → Type 0
Watches s history w = MatchOption w.first (KnowsAll s history w) (ClashesFirst s history)

-- two accesses of the code clash, by their places
abbrev pub clash_at : Setup → List code.Access → code.Access → ℕ → ℕ → Bool
clash_at s xs past i j = clashes s (access (slice_index_or xs i past)) (access (slice_index_or xs j past))
