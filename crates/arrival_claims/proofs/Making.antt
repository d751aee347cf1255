-- The forms that are made where a form is put in a path's terms.
use Rattle.std.proofs.Common.{◌≡◌, ℕ, false, List, [], ◌∷◌, ◌++◌, ap, subst, ◌∙◌}
use Rattle.std.proofs.lemmas.List.{append_assoc}
use Rattle.linear.specs.Exact.{Terms, sum, multiple, fits}
use Rattle.linear.specs.Linear.{Weighted}
use Rattle.facts.specs.Symbols.{Fact}
use Rattle.facts.specs.Refusals.{IsUnfit}
use Rattle.facts.specs.declared.error.WalkError.{WalkError}
use Rattle.facts.specs.declared.error.WalkError.TheVariants as errors
use Rattle.facts.proofs.Tests.{and_left, and_right}
use Rattle.walk_trees.specs.Fitting.{all_fit}
use Rattle.obligations.specs.Replacing.{Replacement, form_of, replaced_from, made_from}
use Rattle.arrival_claims.specs.Unfit.{AreUnfit}

not_all : (xs ys : List Fact) (f : Fact) → fits f ≡ false → all_fit (xs ++ f ∷ ys) ≡ false
not_all [] ys f h = and_left (fits f) (all_fit ys) h
not_all (x ∷ xs) ys f h = and_right (fits x) _ (not_all xs ys f h)

pub unfit_among : (e : WalkError) (xs ys : List Fact) (f : Fact) → IsUnfit e f → AreUnfit e (xs ++ f ∷ ys)
unfit_among errors.TooMany xs ys f h = h
unfit_among errors.TooLarge xs ys f h = not_all xs ys f h
unfit_among errors.Memory xs ys f h = tt

module _ (by : Replacement) (f : Fact) (t : Weighted ℕ) (ts : Terms) (before all : List Fact) (d : before ++ made_from by f (t ∷ ts) ≡ all) where
  pub made_more : (after : List Fact) (part g : Fact) → part ≡ multiple t.coefficient (form_of by t.symbol) → g ≡ sum f part → after ≡ before ++ part ∷ sum f part ∷ [] → after ++ made_from by g ts ≡ all
  made_more after part g p q r =
      (λ i. r i ++ made_from by (q i) ts)
      ∙ append_assoc before (part ∷ sum f part ∷ []) (made_from by (sum f part) ts)
      ∙ ap (λ x. before ++ (x ∷ sum f x ∷ made_from by (sum f x) ts)) p
      ∙ d

  pub part_unfit : (e : WalkError) → IsUnfit e (multiple t.coefficient (form_of by t.symbol)) → AreUnfit e all
  part_unfit e h = subst (AreUnfit e) d (unfit_among e before _ (multiple t.coefficient (form_of by t.symbol)) h)

  pub sum_unfit : (e : WalkError) (part : Fact) → part ≡ multiple t.coefficient (form_of by t.symbol) → IsUnfit e (sum f part) → AreUnfit e all
  sum_unfit e part p h =
      let m = multiple t.coefficient (form_of by t.symbol) in
      subst (AreUnfit e) (append_assoc before (m ∷ []) (sum f m ∷ made_from by (sum f m) ts) ∙ d) (unfit_among e (before ++ m ∷ []) _ (sum f m) (subst (λ x. IsUnfit e (sum f x)) p h))

pub replaced_more : (by : Replacement) (f g part : Fact) (t : Weighted ℕ) (ts : Terms) (all : Fact) → replaced_from by f (t ∷ ts) ≡ all → part ≡ multiple t.coefficient (form_of by t.symbol) → g ≡ sum f part → replaced_from by g ts ≡ all
replaced_more by f g part t ts all d p q = ap (λ x. replaced_from by x ts) (q ∙ ap (sum f) p) ∙ d
