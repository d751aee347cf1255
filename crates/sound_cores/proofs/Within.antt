-- What is tested of names holds.
use Rattle.std.proofs.Common.{◌≡◌, ℕ, true, ◌&&◌, nat_lt}
use Rattle.std.proofs.lemmas.Bool.{and_parts, ltb-true}
use Rattle.semantics.specs.Core as core
use Rattle.semantics.specs.Core.{Space, Global, Local, Array, Term, Literal, Variable, Id, Load, Unary, Binary, Convert, Compare, Not, And, Or, Select, Minimum, Maximum, Shift, Opaque, Statement, Set, Store, If, Loop, Barrier, Return, Break, Continue, Statements, none, one}
use Rattle.sound_cores.specs.Declarations.{Declared, IsOf, TermWithin, Within, AllWithin}
use Rattle.sound_cores.specs.Sound.{is_of, has_array, is_carried, may_become, is_term_within, is_within, are_within}

of-space : (d : Declared) (s : Space) (n : ℕ) → is_of d s n ≡ true → IsOf d s n
of-space d Global n h = ltb-true n d.buffers h
of-space d Local n h = ltb-true n d.arrays h

term-within : (d : Declared) (e : Term) → is_term_within d e ≡ true → TermWithin d e
term-within d (Literal k z) h = tt
term-within d (Variable x) h = ltb-true x d.slots h
term-within d (Id k f i) h = tt
term-within d (Load a site index) h = let p = and_parts (has_array d a) (is_term_within d index) h in (of-space d a.space a.number p.0, term-within d index p.1)
term-within d (Unary op k site e) h = term-within d e h
term-within d (Binary op k site left right) h = let p = and_parts (is_term_within d left) (is_term_within d right) h in (term-within d left p.0, term-within d right p.1)
term-within d (Convert k site e) h = term-within d e (and_parts (may_become k e) (is_term_within d e) h).1
term-within d (Compare r k left right) h = let p = and_parts (is_term_within d left) (is_term_within d right) h in (term-within d left p.0, term-within d right p.1)
term-within d (Not e) h = term-within d e h
term-within d (And left right) h = let p = and_parts (is_term_within d left) (is_term_within d right) h in (term-within d left p.0, term-within d right p.1)
term-within d (Or left right) h = let p = and_parts (is_term_within d left) (is_term_within d right) h in (term-within d left p.0, term-within d right p.1)
term-within d (Select test taken skipped) h =
    let p = and_parts (is_term_within d test) (is_term_within d taken && is_term_within d skipped) h in
    let q = and_parts (is_term_within d taken) (is_term_within d skipped) p.1 in
    (term-within d test p.0, term-within d taken q.0, term-within d skipped q.1)
term-within d (Minimum left right) h = let p = and_parts (is_term_within d left) (is_term_within d right) h in (term-within d left p.0, term-within d right p.1)
term-within d (Maximum left right) h = let p = and_parts (is_term_within d left) (is_term_within d right) h in (term-within d left p.0, term-within d right p.1)
term-within d (Shift o k value count) h = let p = and_parts (is_term_within d value) (is_term_within d count) h in (term-within d value p.0, term-within d count p.1)
term-within d (core.Within site n index) h = term-within d index h
term-within d (Opaque n at k a b c) h =
    let r = and_parts (is_carried k) (is_term_within d a && (is_term_within d b && is_term_within d c)) h in
    let p = and_parts (is_term_within d a) (is_term_within d b && is_term_within d c) r.1 in
    let q = and_parts (is_term_within d b) (is_term_within d c) p.1 in
    (term-within d a p.0, term-within d b q.0, term-within d c q.1)

mutual
  within-within : (d : Declared) (s : Statement) → is_within d s ≡ true → Within d s
  within-within d (Set n x e) h = let p = and_parts (nat_lt x d.slots) (is_term_within d e) h in (ltb-true x d.slots p.0, term-within d e p.1)
  within-within d (Store n a site k e) h =
      let p = and_parts (has_array d a) (is_term_within d k && is_term_within d e) h in
      let q = and_parts (is_term_within d k) (is_term_within d e) p.1 in
      (of-space d a.space a.number p.0, term-within d k q.0, term-within d e q.1)
  within-within d (If n e taken skipped) h =
      let p = and_parts (is_term_within d e) (are_within d taken && are_within d skipped) h in
      let q = and_parts (are_within d taken) (are_within d skipped) p.1 in
      (term-within d e p.0, all-within d taken q.0, all-within d skipped q.1)
  within-within d (Loop n e body update) h =
      let p = and_parts (is_term_within d e) (are_within d body && are_within d update) h in
      let q = and_parts (are_within d body) (are_within d update) p.1 in
      (term-within d e p.0, all-within d body q.0, all-within d update q.1)
  within-within d (Barrier n l g) h = tt
  within-within d (Return n) h = tt
  within-within d (Break n loop) h = tt
  within-within d (Continue n loop) h = tt

  pub all-within : (d : Declared) (ss : Statements) → are_within d ss ≡ true → AllWithin d ss
  all-within d none h = tt
  all-within d (one s ss) h = let p = and_parts (is_within d s) (are_within d ss) h in (within-within d s p.0, all-within d ss p.1)
