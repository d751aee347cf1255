-- Where the device does not heed when an operation is done, no term does.
use Rattle.std.proofs.Common.{◌≡◌, ℕ, List, [], Bool, true, false, not, refl, ap, ap₂, ◌∙◌}
use Rattle.semantics.specs.Word.{Word, word, as_kind, is_zero, truth}
use Rattle.semantics.specs.Core.{Term, Literal, Variable, Id, Load, Unary, Binary, Convert, Compare, Not, And, Or, Select, Minimum, Maximum, Shift, Within, Opaque}
use Rattle.semantics.specs.Setup.{Setup}
use Rattle.semantics.specs.Evaluation.{Outcome, Gives, Needs, Faults, and_then, decide, evaluate}
use Rattle.lanes.specs.Plain.{IsTimeless}

then-on : (o o' : Outcome) (go go' : Word → List Word → Outcome) → o ≡ o' → ((a : Word) (r : List Word) → go a r ≡ go' a r) → and_then o go ≡ and_then o' go'
then-on (Gives a r) o' go go' e h = h a r ∙ ap (λ x. and_then x go') e
then-on (Needs a k site) o' go go' e h = ap (λ x. and_then x go') e
then-on (Faults f site) o' go go' e h = ap (λ x. and_then x go') e

module _ (s : Setup) (h : IsTimeless s) (i : ℕ) (t u : List ℕ) (vars : List Word) where
  abbrev Alike : Term → Type 0
  Alike e = (answers : List Word) → evaluate s i t e vars answers ≡ evaluate s i u e vars answers

  both : (l r : Term) (go go' : Word → Word → List Word → Outcome) → Alike l → Alike r → ((a b : Word) (rest : List Word) → go a b rest ≡ go' a b rest) → (answers : List Word) → and_then (evaluate s i t l vars answers) (λ a rest. and_then (evaluate s i t r vars rest) (λ b rest'. go a b rest')) ≡ and_then (evaluate s i u l vars answers) (λ a rest. and_then (evaluate s i u r vars rest) (λ b rest'. go' a b rest'))
  both l r go go' hl hr k answers = then-on _ _ _ _ (hl answers) (λ a rest. then-on _ _ _ _ (hr rest) (λ b rest'. k a b rest'))

  timeless-on : (e : Term) (answers : List Word) → evaluate s i t e vars answers ≡ evaluate s i u e vars answers
  unfolding evaluate
  timeless-on (Literal k z) answers = refl
  timeless-on (Variable x) answers = refl
  timeless-on (Id k f d) answers = refl
  timeless-on (Load a site index) answers = then-on _ _ _ _ (timeless-on index answers) (λ k rest. refl)
  timeless-on (Unary op k site e) answers = then-on _ _ _ _ (timeless-on e answers) (λ a rest. refl)
  timeless-on (Binary op k site l r) answers = both l r _ _ (timeless-on l) (timeless-on r) (λ a b rest. refl) answers
  timeless-on (Convert k site e) answers = then-on _ _ _ _ (timeless-on e answers) (λ a rest. refl)
  timeless-on (Compare c k l r) answers = both l r _ _ (timeless-on l) (timeless-on r) (λ a b rest. refl) answers
  timeless-on (Not e) answers = then-on _ _ _ _ (timeless-on e answers) (λ a rest. refl)
  timeless-on (And l r) answers = then-on _ _ _ _ (timeless-on l answers) (λ a rest. ap (decide (is_zero a.value) (Gives (truth false) rest)) (then-on _ _ _ _ (timeless-on r rest) (λ b rest'. refl)))
  timeless-on (Or l r) answers = then-on _ _ _ _ (timeless-on l answers) (λ a rest. ap (decide (not (is_zero a.value)) (Gives (truth true) rest)) (then-on _ _ _ _ (timeless-on r rest) (λ b rest'. refl)))
  timeless-on (Select c l r) answers = then-on _ _ _ _ (timeless-on c answers) (λ x rest. ap₂ (λ p q. decide (is_zero x.value) p q) (timeless-on r rest) (timeless-on l rest))
  timeless-on (Minimum l r) answers = both l r _ _ (timeless-on l) (timeless-on r) (λ a b rest. refl) answers
  timeless-on (Maximum l r) answers = both l r _ _ (timeless-on l) (timeless-on r) (λ a b rest. refl) answers
  timeless-on (Shift d k l r) answers = both l r _ _ (timeless-on l) (timeless-on r) (λ a b rest. refl) answers
  timeless-on (Within site n e) answers = then-on _ _ _ _ (timeless-on e answers) (λ k rest. refl)
  timeless-on (Opaque n at k a b c) answers =
      then-on _ _ _ _ (timeless-on a answers) (λ x rest. both b c _ _ (timeless-on b) (timeless-on c) (λ y z rest'. ap (λ q. Gives (word k (as_kind k q)) rest') (h n at i x.value y.value z.value t u)) rest)

pub timeless : (s : Setup) → IsTimeless s → (i : ℕ) (t u : List ℕ) (e : Term) (vars answers : List Word) → evaluate s i t e vars answers ≡ evaluate s i u e vars answers
timeless s h i t u e vars answers = timeless-on s h i t u vars e answers
