-- What has no operation that is not reckoned is the same on each machine, at each moment.
use Rattle.std.proofs.Common.{◌≡◌, ℕ, pos, List, [], ◌∷◌, true, false, not, ◌&&◌, refl, ap, ap₂, ◌∙◌}
use Rattle.semantics.specs.Word.{Word, word, as_kind, is_zero, truth}
use Rattle.semantics.specs.Core.{Site, Array, Space, Global, Local, Function, GlobalId, LocalId, GroupId, GlobalSize, LocalSize, NumGroups, Term, Literal, Variable, Id, Load, Unary, Binary, Convert, Compare, Not, And, Or, Select, Minimum, Maximum, Shift, Within, Opaque}
use Rattle.semantics.specs.Launch.{Machine}
use Rattle.semantics.specs.Setup.{Setup, identity, group_size}
use Rattle.semantics.specs.Memory.{extent_in, element_kind_in}
use Rattle.std.proofs.lemmas.Bool.{and_parts}
use Rattle.semantics.specs.Machines.{is_reckoned_term, with_machine}
use Rattle.std.specs.Prelude.{ℤ}
use Rattle.semantics.specs.Evaluation.{Outcome, Gives, Needs, Faults, and_then, within, asks, load, decide, evaluate}

then-on : (o o' : Outcome) (go go' : Word → List Word → Outcome) → o ≡ o' → ((a : Word) (r : List Word) → go a r ≡ go' a r) → and_then o go ≡ and_then o' go'
then-on (Gives a r) o' go go' e h = h a r ∙ ap (λ x. and_then x go') e
then-on (Needs a k site) o' go go' e h = ap (λ x. and_then x go') e
then-on (Faults f site) o' go go' e h = ap (λ x. and_then x go') e

identity-on : (m n : Machine) (s : Setup) (i : ℕ) (f : Function) (d : ℕ) → identity (with_machine m s) i f d ≡ identity (with_machine n s) i f d
unfolding group_size
identity-on m n s i GlobalId d = refl
identity-on m n s i LocalId d = refl
identity-on m n s i GroupId d = refl
identity-on m n s i GlobalSize d = refl
identity-on m n s i LocalSize d = refl
identity-on m n s i NumGroups d = refl

extent-in_on : (m n : Machine) (s : Setup) (p : Space) (a : ℕ) → extent_in (with_machine m s) p a ≡ extent_in (with_machine n s) p a
extent-in_on m n s Global a = refl
extent-in_on m n s Local a = refl

kind-in_on : (m n : Machine) (s : Setup) (p : Space) (a : ℕ) → element_kind_in (with_machine m s) p a ≡ element_kind_in (with_machine n s) p a
kind-in_on m n s Global a = refl
kind-in_on m n s Local a = refl

load-on : (m n : Machine) (s : Setup) (a : Array) (site : Site) (z : ℤ) (answers : List Word) → load (with_machine m s) a site z answers ≡ load (with_machine n s) a site z answers
load-on m n s a site z [] = ap (λ k. asks a (within k z) site) (extent-in_on m n s a.space a.number)
load-on m n s a site z (x ∷ rest) = ap (λ k. Gives (word k (as_kind k x.value)) rest) (kind-in_on m n s a.space a.number)

module _ (m n : Machine) (s : Setup) (i : ℕ) (now then : List ℕ) (vars : List Word) where
  abbrev Alike : Term → Type 0
  Alike e = (answers : List Word) → evaluate (with_machine m s) i now e vars answers ≡ evaluate (with_machine n s) i then e vars answers

  both : (l r : Term) (go go' : Word → Word → List Word → Outcome) → Alike l → Alike r → ((a b : Word) (rest : List Word) → go a b rest ≡ go' a b rest) → (answers : List Word) → and_then (evaluate (with_machine m s) i now l vars answers) (λ a rest. and_then (evaluate (with_machine m s) i now r vars rest) (λ b rest'. go a b rest')) ≡ and_then (evaluate (with_machine n s) i then l vars answers) (λ a rest. and_then (evaluate (with_machine n s) i then r vars rest) (λ b rest'. go' a b rest'))
  both l r go go' hl hr h answers = then-on _ _ _ _ (hl answers) (λ a rest. then-on _ _ _ _ (hr rest) (λ b rest'. h a b rest'))

  pub evaluate-on : (e : Term) → is_reckoned_term e ≡ true → (answers : List Word) → evaluate (with_machine m s) i now e vars answers ≡ evaluate (with_machine n s) i then e vars answers
  unfolding evaluate
  evaluate-on (Literal k z) h answers = refl
  evaluate-on (Variable x) h answers = refl
  evaluate-on (Id k f d) h answers = ap (λ j. Gives (word k (pos j)) answers) (identity-on m n s i f d)
  evaluate-on (Load a site index) h answers = then-on _ _ _ _ (evaluate-on index h answers) (λ k rest. load-on m n s a site k.value rest)
  evaluate-on (Unary op k site e) h answers = then-on _ _ _ _ (evaluate-on e h answers) (λ a rest. refl)
  evaluate-on (Binary op k site l r) h answers = let p = and_parts (is_reckoned_term l) (is_reckoned_term r) h in both l r _ _ (evaluate-on l p.0) (evaluate-on r p.1) (λ a b rest. refl) answers
  evaluate-on (Convert k site e) h answers = then-on _ _ _ _ (evaluate-on e h answers) (λ a rest. refl)
  evaluate-on (Compare c k l r) h answers = let p = and_parts (is_reckoned_term l) (is_reckoned_term r) h in both l r _ _ (evaluate-on l p.0) (evaluate-on r p.1) (λ a b rest. refl) answers
  evaluate-on (Not e) h answers = then-on _ _ _ _ (evaluate-on e h answers) (λ a rest. refl)
  evaluate-on (And l r) h answers = let p = and_parts (is_reckoned_term l) (is_reckoned_term r) h in then-on _ _ _ _ (evaluate-on l p.0 answers) (λ a rest. ap (decide (is_zero a.value) (Gives (truth false) rest)) (then-on _ _ _ _ (evaluate-on r p.1 rest) (λ b rest'. refl)))
  evaluate-on (Or l r) h answers = let p = and_parts (is_reckoned_term l) (is_reckoned_term r) h in then-on _ _ _ _ (evaluate-on l p.0 answers) (λ a rest. ap (decide (not (is_zero a.value)) (Gives (truth true) rest)) (then-on _ _ _ _ (evaluate-on r p.1 rest) (λ b rest'. refl)))
  evaluate-on (Select t l r) h answers =
      let p = and_parts (is_reckoned_term t) (is_reckoned_term l && is_reckoned_term r) h in
      let q = and_parts (is_reckoned_term l) (is_reckoned_term r) p.1 in
      then-on _ _ _ _ (evaluate-on t p.0 answers) (λ x rest. ap₂ (λ p q. decide (is_zero x.value) p q) (evaluate-on r q.1 rest) (evaluate-on l q.0 rest))
  evaluate-on (Minimum l r) h answers = let p = and_parts (is_reckoned_term l) (is_reckoned_term r) h in both l r _ _ (evaluate-on l p.0) (evaluate-on r p.1) (λ a b rest. refl) answers
  evaluate-on (Maximum l r) h answers = let p = and_parts (is_reckoned_term l) (is_reckoned_term r) h in both l r _ _ (evaluate-on l p.0) (evaluate-on r p.1) (λ a b rest. refl) answers
  evaluate-on (Shift d k l r) h answers = let p = and_parts (is_reckoned_term l) (is_reckoned_term r) h in both l r _ _ (evaluate-on l p.0) (evaluate-on r p.1) (λ a b rest. refl) answers
  evaluate-on (Within site k e) h answers = then-on _ _ _ _ (evaluate-on e h answers) (λ v rest. refl)
  evaluate-on (Opaque o at k a b c) h answers = cc

pub reckoned-on : (m n : Machine) (s : Setup) (i : ℕ) (now then : List ℕ) (e : Term) (vars answers : List Word) → is_reckoned_term e ≡ true → evaluate (with_machine m s) i now e vars answers ≡ evaluate (with_machine n s) i then e vars answers
reckoned-on m n s i now then e vars answers h = evaluate-on m n s i now then vars e h answers
