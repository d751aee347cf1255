-- The facts of a claim that is shown in a manner.
use Rattle.std.proofs.Common.{◌≡◌, ◌++◌, ◌∙◌, List, [], ◌∷◌, Option, None, Some, refl, sym, ap, subst}
use Rattle.facts.specs.Symbols.{Fact}
use Rattle.facts.specs.declared.error.WalkError.{WalkError}
use Rattle.walk_trees.specs.Trees.{Manner, Plainly, ByPositive, ByNegative, ByQuotient, Goal, AtLeastZero, Either, Replaced, Divided, added, with_facts, facts_by}
use Rattle.path_steps.specs.Paths.{Claimed}
use Rattle.walk_trees.specs.Fitting.{denials_fit}
use Rattle.two_thread.specs.Goals.{manner, owed, denial_by}
use Rattle.two_thread.specs.Refusals.{DoNotFit}
use Rattle.two_thread.specs.declared.manner.Manner as code
use Rattle.two_thread.specs.declared.manner.Manner.TheVariants as codes

abbrev pub added_by : Option Fact → Option (List Fact)
added_by None = None
added_by (Some d) = Some (d ∷ [])

added_is : (m : Manner) (g : Goal) → added m (Some g) ≡ added_by (denial_by m g)
added_is Plainly (AtLeastZero f) = refl
added_is Plainly (Either p n) = refl
added_is ByPositive (AtLeastZero f) = refl
added_is ByPositive (Either p n) = refl
added_is ByNegative (AtLeastZero f) = refl
added_is ByNegative (Either p n) = refl
added_is Plainly (Replaced made f) = refl
added_is Plainly (Divided made f) = refl
added_is ByPositive (Replaced made f) = refl
added_is ByPositive (Divided made f) = refl
added_is ByNegative (Replaced made f) = refl
added_is ByNegative (Divided made f) = refl
added_is ByQuotient (AtLeastZero f) = refl
added_is ByQuotient (Either p n) = refl
added_is ByQuotient (Replaced made f) = refl
added_is ByQuotient (Divided made f) = refl

-- `g` is the claim's goal
pub facts_are : (launch : List Fact) (c : Claimed) (m : Manner) (g : Goal) (o : Option Fact) → g ≡ c.goal → o ≡ denial_by m g → with_facts (launch ++ c.facts) (added_by o) ≡ facts_by m (owed launch c)
facts_are launch c m g o e d = ap (λ x. with_facts (launch ++ c.facts) (added_by x)) (d ∙ ap (denial_by m) e) ∙ ap (with_facts (launch ++ c.facts)) (sym (added_is m c.goal))

pub unfit_goal : (g h : Goal) (e : WalkError) → g ≡ h → DoNotFit (denials_fit g) e → DoNotFit (denials_fit h) e
unfit_goal g h e p d = subst (λ x. DoNotFit (denials_fit x) e) p d

-- a pair is shown by its facts alone
pub pair_otherwise : (m : code.Manner) (facts : List Fact) → (m ≡ codes.Plainly → ⊥) → with_facts facts (added (manner m) None) ≡ None
pair_otherwise codes.Plainly facts h = absurd (h refl)
pair_otherwise codes.ByPositive facts h = refl
pair_otherwise codes.ByNegative facts h = refl
pair_otherwise codes.ByQuotient facts h = refl
