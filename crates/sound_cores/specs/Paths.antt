-- Paths through a core, as far as the variable of one slot is concerned. A test may come out either way, but for one that is always true,
-- and a loop may turn as often as it likes. Exits are of the innermost loop around, and updates only assign, as `is_placed` says.
use Rattle.std.specs.Prelude.{ℕ, zero, suc, Bool, true, false, ◌||◌, nat_eq, ◌≡◌, ◌⊎◌}
use Rattle.semantics.specs.Core.{Statement, Set, Store, If, Loop, Barrier, Return, Break, Continue, Statements, none, one}
use Rattle.sound_cores.specs.Unset.{reads, is_always}

-- where a path has come to, and whether the variable is set there; or the number of the statement at which it read the variable unset
pub data End : Type 0 where
  Behind : (set : Bool) → End
  Broken : (set : Bool) → End
  Continued : (set : Bool) → End
  Returned : End
  Unset : (number : ℕ) → End

abbrev pub ReadsUnset : (number : ℕ) (is_read set : Bool) → End → Type 0
ReadsUnset n is_read set end = (is_read ≡ true) × (set ≡ false) × (end ≡ Unset n)

-- on from the end of a statement: what follows it is gone through only from behind it
abbrev pub Then : (Next : Bool → End → Type 0) → End → End → Type 0
Then Next (Behind set) end = Next set end
Then Next (Broken set) end = end ≡ Broken set
Then Next (Continued set) end = end ≡ Continued set
Then Next Returned end = end ≡ Returned
Then Next (Unset n) end = end ≡ Unset n

-- on from the end of a loop's update: to the next turn
abbrev pub Again : (Next : Bool → End → Type 0) → End → End → Type 0
Again Next (Behind set) end = Next set end
Again Next (Broken set) end = ⊥
Again Next (Continued set) end = ⊥
Again Next Returned end = ⊥
Again Next (Unset n) end = end ≡ Unset n

-- on from the end of a loop's body: to its update, or behind the loop
abbrev pub OutOf : (Update : Bool → End → Type 0) → End → End → Type 0
OutOf Update (Behind set) end = Update set end
OutOf Update (Broken set) end = end ≡ Behind set
OutOf Update (Continued set) end = Update set end
OutOf Update Returned end = end ≡ Returned
OutOf Update (Unset n) end = end ≡ Unset n

-- a loop from its test on, in which so many times the body is begun
abbrev pub Turns : (number : ℕ) (is_read always : Bool) (Body Update : Bool → End → Type 0) → ℕ → Bool → End → Type 0
Turns n is_read always Body Update zero set end = ReadsUnset n is_read set end ⊎ ((always ≡ false) × (end ≡ Behind set))
Turns n is_read always Body Update (suc k) set end =
    (b : End) × Body set b
    × OutOf (λ s out. (u : End) × Update s u × Again (λ t last. Turns n is_read always Body Update k t last) u out) b end

abbrev mutual
  pub Goes : (x : ℕ) → (set : Bool) → Statement → End → Type 0
  Goes x set (Set n y e) end = ReadsUnset n (reads x e) set end ⊎ (end ≡ Behind (set || nat_eq y x))
  Goes x set (Store n a site k e) end = ReadsUnset n (reads x k || reads x e) set end ⊎ (end ≡ Behind set)
  Goes x set (If n e taken skipped) end = ReadsUnset n (reads x e) set end ⊎ (AllGo x set taken end ⊎ AllGo x set skipped end)
  Goes x set (Loop n e body update) end =
      (k : ℕ) × Turns n (reads x e) (is_always e) (λ s b. AllGo x s body b) (λ s u. AllGo x s update u) k set end
  Goes x set (Barrier n l g) end = end ≡ Behind set
  Goes x set (Return n) end = end ≡ Returned
  Goes x set (Break n loop) end = end ≡ Broken set
  Goes x set (Continue n loop) end = end ≡ Continued set

  pub AllGo : (x : ℕ) → (set : Bool) → Statements → End → Type 0
  AllGo x set none end = end ≡ Behind set
  AllGo x set (one s ss) end = (first : End) × Goes x set s first × Then (λ t last. AllGo x t ss last) first end
