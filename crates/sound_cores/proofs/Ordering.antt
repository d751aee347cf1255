-- Statements that are numbered in the order in which they stand, and whose exits are of the loops around, are numbered as lane code wants.
use Rattle.std.proofs.Common.{◌≡◌, ℕ, ◌+◌, ◌≤◌, ◌<◌, List, [], ◌∷◌, true, arith, inl, refl, eqb-true}
use Rattle.std.specs.Prelude.{Option, Some, None}
use Rattle.std.proofs.lemmas.Bool.{and_parts, and_from}
use Rattle.semantics.specs.Core.{Statement, Set, Store, If, Loop, Barrier, Return, Break, Continue, Statements, none, one}
use Rattle.lanes.specs.Order.{In, Numbered, AllNumbered}
use Rattle.sound_cores.specs.Sound.{after, then, numbered, all_numbered, is_assignment, are_assignments, is_around, is_placed, are_placed}
use Rattle.sound_cores.proofs.Rising.{then-some, after-some, numbered-rises, all-numbered-rises}

abbrev pub innermost : List ℕ → Option ℕ
innermost [] = None
innermost (n ∷ ns) = Some n

around-in : (loops : List ℕ) (loop : ℕ) → is_around (innermost loops) loop ≡ true → In loops loop
around-in [] loop h = cc
around-in (n ∷ ns) loop h = inl (eqb-true loop n h)

-- what only assigns leaves no loop
assignment-placed : (around : Option ℕ) (s : Statement) → is_assignment s ≡ true → is_placed around s ≡ true
assignment-placed around (Set n x e) h = refl
assignment-placed around (Store n a site k e) h = refl
assignment-placed around (If n e taken skipped) h = absurd cc
assignment-placed around (Loop n e body update) h = absurd cc
assignment-placed around (Barrier n l g) h = absurd cc
assignment-placed around (Return n) h = absurd cc
assignment-placed around (Break n loop) h = absurd cc
assignment-placed around (Continue n loop) h = absurd cc

assignments-placed : (around : Option ℕ) (ss : Statements) → are_assignments ss ≡ true → are_placed around ss ≡ true
assignments-placed around none h = refl
assignments-placed around (one s ss) h =
    let p = and_parts (is_assignment s) (are_assignments ss) h in
    and_from (is_placed around s) (are_placed around ss) (assignment-placed around s p.0) (assignments-placed around ss p.1)

-- from `low`, which is no more than the next free number, to `top`, which is no less than the one behind
abbrev pub Fits : (low next high top : ℕ) → Type 0
Fits low next high top = (low ≤ next) × (high ≤ top)

lies : (low next n high top : ℕ) → Fits low next high top → after next n ≡ Some high → (low ≤ n) × (n < top)
lies low next n high top f e = let g = after-some next n high e in (omega (arith, f.0, g.0), omega (arith, f.1, g.1))

mutual
  numbered-in : (loops : List ℕ) (low next high top : ℕ) (s : Statement) → Fits low next high top → numbered next s ≡ Some high → is_placed (innermost loops) s ≡ true → Numbered loops low top s
  numbered-in loops low next high top (Set n x e) f h p = lies low next n high top f h
  numbered-in loops low next high top (Store n a site k e) f h p = lies low next n high top f h
  numbered-in loops low next high top (If n e taken skipped) f h p =
      let g = then-some (after next n) (λ i. then (all_numbered i taken) (λ j. all_numbered j skipped)) high h in
      let j = then-some (all_numbered g.0 taken) (λ j. all_numbered j skipped) high g.2 in
      let a = after-some next n g.0 g.1 in
      let q = and_parts (are_placed (innermost loops) taken) (are_placed (innermost loops) skipped) p in
      let t = all-numbered-rises g.0 j.0 taken j.1 in
      let u = all-numbered-rises j.0 high skipped j.2 in (
        omega (arith, f.0, a.0),
        omega (arith, f.1, a.1, t.upward, u.upward),
        j.0,
        omega (arith, a.1, t.upward),
        omega (arith, f.1, u.upward),
        all-numbered-in loops (n + 1) g.0 j.0 j.0 taken (omega (arith, a.1), omega arith) j.1 q.0,
        all-numbered-in loops j.0 j.0 high top skipped (omega arith, f.1) j.2 q.1,
      )
  numbered-in loops low next high top (Loop n e body update) f h p =
      let g = then-some (after next n) (λ i. then (all_numbered i body) (λ j. all_numbered j update)) high h in
      let j = then-some (all_numbered g.0 body) (λ j. all_numbered j update) high g.2 in
      let a = after-some next n g.0 g.1 in
      let q = and_parts (are_placed (Some n) body) (are_assignments update) p in
      let t = all-numbered-rises g.0 j.0 body j.1 in
      let u = all-numbered-rises j.0 high update j.2 in (
        omega (arith, f.0, a.0),
        omega (arith, f.1, a.1, t.upward, u.upward),
        all-numbered-in (n ∷ loops) (n + 1) g.0 j.0 top body (omega (arith, a.1), omega (arith, f.1, u.upward)) j.1 q.0,
        all-numbered-in [] (n + 1) j.0 high top update (omega (arith, a.1, t.upward), f.1) j.2 (assignments-placed None update q.1),
      )
  numbered-in loops low next high top (Barrier n l g) f h p = lies low next n high top f h
  numbered-in loops low next high top (Return n) f h p = lies low next n high top f h
  numbered-in loops low next high top (Break n loop) f h p = let r = lies low next n high top f h in (r.0, r.1, around-in loops loop p)
  numbered-in loops low next high top (Continue n loop) f h p = let r = lies low next n high top f h in (r.0, r.1, around-in loops loop p)

  pub all-numbered-in : (loops : List ℕ) (low next high top : ℕ) (ss : Statements) → Fits low next high top → all_numbered next ss ≡ Some high → are_placed (innermost loops) ss ≡ true → AllNumbered loops low top ss
  all-numbered-in loops low next high top none f h p = tt
  all-numbered-in loops low next high top (one s ss) f h p =
      let g = then-some (numbered next s) (λ i. all_numbered i ss) high h in
      let q = and_parts (is_placed (innermost loops) s) (are_placed (innermost loops) ss) p in
      let a = numbered-rises next g.0 s g.1 in
      let b = all-numbered-rises g.0 high ss g.2 in (
        numbered-in loops low next g.0 top s (f.0, omega (arith, f.1, b.upward)) g.1 q.0,
        all-numbered-in loops low g.0 high top ss (omega (arith, f.0, a.upward), f.1) g.2 q.1,
      )
