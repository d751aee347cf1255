-- What an error of a path, of a place and of all places says.
use Rattle.std.proofs.Common.{◌≡◌, List, [], ◌∷◌, Bool, true, false, ◌&&◌, refl}
use Rattle.linear.specs.Forms.{forms}
use Rattle.linear.proofs.FormLists.{form-fits}
use Rattle.linear.specs.declared.form.Form.{Form}
use Rattle.facts.specs.declared.error.WalkError.{WalkError}
use Rattle.facts.specs.declared.error.WalkError.TheVariants as walks
use Rattle.facts.proofs.Tests.{and_left, and_right}
use Rattle.walk_trees.specs.Fitting.{all_fit, tree_fits, tree_denials_fit}
use Rattle.path_steps.specs.Paths.{Choice, collect}
use Rattle.path_steps.specs.Turns.{AreRight}
use Rattle.path_steps.specs.Refusals.{Refused}
use Rattle.walk.specs.Paths.{begun}
use Rattle.walk.proofs.Onward.{path_long, path_unfit}
use Rattle.obligations.specs.Listing.{Planted}
use Rattle.path_walk.specs.Rooted.{IsUnrooted}
use Rattle.walk.specs.declared.error.FindError.TheVariants as errors
use Rattle.walk.specs.Walks.{IsCut, IsStuck}

pub forms_fit : (fs : List Form) → all_fit (forms fs) ≡ true
forms_fit [] = refl
forms_fit (f ∷ fs) = λ i. form-fits f i && forms_fit fs i

-- either of two tests is false
one_false : (a b : Bool) → (a && b) ≡ false → (P : Type 0) → (a ≡ false → P) → (b ≡ false → P) → P
one_false true b h P f g = g h
one_false false b h P f g = f refl

module _ {E : Type 0} (p : Planted E) (cs : List Choice) where
  pub unrooted : (e : WalkError) → IsUnrooted p.facts e → IsCut p cs e
  unrooted walks.TooMany u = absurd u
  unrooted walks.TooLarge u = and_left (all_fit p.facts) _ u
  unrooted walks.Memory u = tt

  pub refused : (e : WalkError) → Refused e (collect (begun p.facts p.claims cs) p.tree) → IsCut p cs e
  refused walks.TooMany u = u
  refused walks.TooLarge u = and_right (all_fit p.facts) _ u
  refused walks.Memory u = tt

  pub stuck : AreRight cs p.claims p.tree → (e : WalkError) → IsCut p cs e → IsStuck p (errors.Walk e)
  stuck r walks.TooMany u = path_long p.facts p.claims p.tree cs r u
  stuck r walks.TooLarge u =
      one_false (all_fit p.facts) _ u _ (λ h. and_left (all_fit p.facts) _ h)
      (λ h. and_right (all_fit p.facts) _ (and_left (tree_fits p.claims p.tree) (tree_denials_fit p.claims p.tree) (path_unfit p.facts p.claims p.tree cs r h)))
  stuck r walks.Memory u = tt
