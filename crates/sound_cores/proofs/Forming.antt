-- Statements that are told apart are formed.
use Rattle.std.proofs.Common.{◌≡◌, ℕ, false, List, refl, subst, inr}
use Rattle.std.specs.Prelude.{Option, Some, None}
use Rattle.semantics.specs.Core.{Statement, Set, Store, If, Loop, Barrier, Return, Break, Continue, Statements, none, one}
use Rattle.arrivals.specs.Loops.{has_barrier, have_barrier}
use Rattle.arrivals.specs.Points.{Has, has_loop, have_loop, jumps_to, jump_to, numbered, IsUpdate, IsFormed, AreFormed}
use Rattle.arrivals.proofs.Joined.{has_left, has_right}
use Rattle.arrivals.proofs.Tests.{refuted, neither}
use Rattle.sound_cores.specs.Told.{numbers_of, numbers_in, NoneTwice, Assigns, AllAssign, Leaves, IsPlaced, ArePlaced, AreTold}
use Rattle.sound_cores.proofs.Lists.{once-left, once-right, once-apart}
use Rattle.sound_cores.proofs.Finding.{numbered-has, loop-has, loops-have, leaves, leave}

-- an assignment holds no loop and no barrier, and leaves none
assigns-only : (s : Statement) → Assigns s → ((k : ℕ) → has_loop k s ≡ false) × (has_barrier s ≡ false) × ((k : ℕ) → jumps_to k s ≡ false)
assigns-only (Set n x e) h = (λ k. refl, refl, λ k. refl)
assigns-only (Store n a site i e) h = (λ k. refl, refl, λ k. refl)
assigns-only (If n e t f) h = absurd h
assigns-only (Loop n e b u) h = absurd h
assigns-only (Barrier n l g) h = absurd h
assigns-only (Return n) h = absurd h
assigns-only (Break n m) h = absurd h
assigns-only (Continue n m) h = absurd h

pub assigns-placed : (around : Option ℕ) (s : Statement) → Assigns s → IsPlaced around s
assigns-placed around (Set n x e) h = tt
assigns-placed around (Store n a site i e) h = tt
assigns-placed around (If n e t f) h = absurd h
assigns-placed around (Loop n e b u) h = absurd h
assigns-placed around (Barrier n l g) h = absurd h
assigns-placed around (Return n) h = absurd h
assigns-placed around (Break n m) h = absurd h
assigns-placed around (Continue n m) h = absurd h

all-placed : (around : Option ℕ) (ss : Statements) → AllAssign ss → ArePlaced around ss
all-placed around none h = tt
all-placed around (one s ss) h = (assigns-placed around s h.0, all-placed around ss h.1)

no-loop : (ss : Statements) → AllAssign ss → (k : ℕ) → have_loop k ss ≡ false
no-loop none h k = refl
no-loop (one s ss) h k = neither (has_loop k s) (have_loop k ss) ((assigns-only s h.0).0 k) (no-loop ss h.1 k)

no-barrier : (ss : Statements) → AllAssign ss → have_barrier ss ≡ false
no-barrier none h = refl
no-barrier (one s ss) h = neither (has_barrier s) (have_barrier ss) (assigns-only s h.0).1 (no-barrier ss h.1)

no-jump : (ss : Statements) → AllAssign ss → (k : ℕ) → jump_to k ss ≡ false
no-jump none h k = refl
no-jump (one s ss) h k = neither (jumps_to k s) (jump_to k ss) ((assigns-only s h.0).2 k) (no-jump ss h.1 k)

update-is : (n : ℕ) (u : Statements) → AllAssign u → (Has n (numbers_in u) → ⊥) → IsUpdate n u
update-is n u h k =
    record { no_loop = no-loop u h; no_barrier = no-barrier u h; no_jump = no-jump u h; other = refuted (numbered n u) (λ e. k (numbered-has n u e)) }

-- the number of the loop around is not one of these
abbrev IsOutside : (around : Option ℕ) → List ℕ → Type 0
IsOutside around ns = (k : ℕ) → Leaves around k → Has k ns → ⊥

mutual
  formed : (around : Option ℕ) (s : Statement) → NoneTwice (numbers_of s) → IsOutside around (numbers_of s) → IsPlaced around s → IsFormed s
  formed around (Set n x e) h o p = tt
  formed around (Store n a site k e) h o p = tt
  formed around (If n e t f) h o p = (
    all-formed around t (once-left (numbers_in t) (numbers_in f) h.1) (λ k l q. o k l (inr (has_left k (numbers_in t) (numbers_in f) q))) p.0,
    all-formed around f (once-right (numbers_in t) (numbers_in f) h.1) (λ k l q. o k l (inr (has_right k (numbers_in t) (numbers_in f) q))) p.1,
  )
  formed around (Loop n e b u) h o p = (
    refuted (have_loop n b) (λ q. h.0 (has_left n (numbers_in b) (numbers_in u) (loops-have n b q))),
    (
      λ k. leave (Some n) k b p.0,
      (
        all-formed (Some n) b (once-left (numbers_in b) (numbers_in u) h.1) (λ k l q. h.0 (has_left n (numbers_in b) (numbers_in u) (subst (λ m. Has m (numbers_in b)) l q))) p.0,
        (
          all-formed None u (once-right (numbers_in b) (numbers_in u) h.1) (λ k l q. absurd l) (all-placed None u p.1),
          update-is n u p.1 (λ q. h.0 (has_right n (numbers_in b) (numbers_in u) q)),
        ),
      ),
    ),
  )
  formed around (Barrier n l g) h o p = tt
  formed around (Return n) h o p = tt
  formed around (Break n k) h o p = tt
  formed around (Continue n k) h o p = tt

  all-formed : (around : Option ℕ) (ss : Statements) → NoneTwice (numbers_in ss) → IsOutside around (numbers_in ss) → ArePlaced around ss → AreFormed ss
  all-formed around none h o p = tt
  all-formed around (one s ss) h o p = (
    formed around s (once-left (numbers_of s) (numbers_in ss) h) (λ k l q. o k l (has_left k (numbers_of s) (numbers_in ss) q)) p.0,
    (
      all-formed around ss (once-right (numbers_of s) (numbers_in ss) h) (λ k l q. o k l (has_right k (numbers_of s) (numbers_in ss) q)) p.1,
      record {
        loops = λ k q. refuted (have_loop k ss) (λ r. once-apart (numbers_of s) (numbers_in ss) h k (loop-has k s q) (loops-have k ss r));
        jumps = λ k q. refuted (numbered k ss) (λ r. o k (leaves around k s p.0 q) (has_right k (numbers_of s) (numbers_in ss) (numbered-has k ss r)));
      },
    ),
  )

pub told-formed : (ss : Statements) → AreTold ss → AreFormed ss
told-formed ss t = all-formed None ss t.once (λ k l q. l) t.placed
