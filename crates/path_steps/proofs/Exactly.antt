-- Exact results in the range of their kind.
use Rattle.std.proofs.Common.{◌≡◌, ◌⊎◌, inl, inr, suc, Bool, true, false, List, [], ◌∷◌, refl, sym, ap, subst, ◌∙◌, length}
use Rattle.std.specs.Prelude.{Result, Ok, Err, MatchResult, MatchOption, Option, None, Some, cond, nat_le}
use Rattle.semantics.specs.Word.{Kind, Int, Uint, Size, Multiply}
use Rattle.linear.specs.Linear.{Weighted}
use Rattle.linear.specs.Exact.{fits_i64, fits_terms, fits, multiple}
use Rattle.linear.specs.Forms.{form}
use Rattle.linear.specs.Products.{and_then, product}
use Rattle.linear.specs.Terms.{terms}
use Rattle.linear.specs.declared.term.Term.{Term}
use Rattle.linear.specs.declared.form.Form.{Form}
use Rattle.facts.specs.Symbols.{Fact}
use Rattle.facts.specs.Refusals.{IsUnfit}
use Rattle.facts.specs.declared.error.WalkError.{WalkError}
use Rattle.facts.specs.declared.error.WalkError.TheVariants as errors
use Rattle.walk_trees.specs.Values as values
use Rattle.walk_trees.specs.Walks as walks
use Rattle.walk_trees.specs.Walks.{Setting, State, is_none, low_end, high_end, element_of}
use Rattle.walk_trees.specs.Operators as operators
use Rattle.path_steps.specs.Paths.{Followed, collect}
use Rattle.path_steps.specs.Leads.{Leads}
use Rattle.path_steps.specs.Refusals.{Refused, StopsAtStep, Stops, StopsAtForm}
use Rattle.path_steps.specs.declared.path.Value.{Value}
use Rattle.path_steps.proofs.Refusing.{low_stops, high_stops, refused_from}
use Rattle.path_steps.proofs.PastEnds.{ends_unfit}

range_unfit : {E : Type 0} (s : Setting E) (needed : Bool) (k : Kind) (f : Fact) (m : Followed E) → (fits (low_end k f) ≡ false) ⊎ (fits (high_end k f) ≡ false) → StopsAtStep m errors.TooLarge (walks.in_range s needed k f)
range_unfit s needed k f m (inl h) = low_stops s needed k f m errors.TooLarge h
range_unfit s needed k f m (inr h) = high_stops s needed k f m errors.TooLarge h

-- a form that was not made is not in a kind's range
unfit_ranged : {E : Type 0} (s : Setting E) (k : Kind) (f : Fact) (m : Followed E) → fits f ≡ false → Stops m errors.TooLarge (walks.ranged s k f)
unfit_ranged s Int f m h go = range_unfit s true Int f m (ends_unfit Int f (fits_i64 f.constant) (fits_terms f.terms) refl refl h) (λ st. go (values.value Int f) st)
unfit_ranged s Size f m h go = range_unfit s true Size f m (ends_unfit Size f (fits_i64 f.constant) (fits_terms f.terms) refl refl h) (λ st. go (values.value Size f) st)
unfit_ranged s Uint f m h go = range_unfit s (walks.is_kept s f m.state) Uint f m (ends_unfit Uint f (fits_i64 f.constant) (fits_terms f.terms) refl refl h) (λ st. walks.kept_or_new s (walks.is_kept s f m.state) f st go)

pub ranged_unfit : {E : Type 0} (s : Setting E) (k : Kind) (f : Fact) (m : Followed E) (e : WalkError) → IsUnfit e f → Stops m e (walks.ranged s k f)
ranged_unfit s k f m errors.TooMany h go = absurd h
ranged_unfit s k f m errors.TooLarge h go = unfit_ranged s k f m h go
ranged_unfit s k f m errors.Memory h go = tt

-- of a form that is it
pub ranged_as : {E : Type 0} (s : Setting E) (k : Kind) (f fact : Fact) (m n : Followed E) (view : Value → values.Value) (r : Result Value WalkError) → fact ≡ f →
    MatchResult r (λ v. Leads m n (walks.ranged s k fact) (view v)) (λ e. Stops m e (walks.ranged s k fact)) →
    MatchResult r (λ v. Leads m n (walks.ranged s k f) (view v)) (λ e. Stops m e (walks.ranged s k f))
ranged_as s k f fact m n view r d h = subst (λ x. MatchResult r (λ v. Leads m n (walks.ranged s k x) (view v)) (λ e. Stops m e (walks.ranged s k x))) d h

-- a product by a number whose form was not made, and one that is a new symbol
pub right_leads : {E : Type 0} (s : Setting E) (ts us : List (Weighted _)) (f g h : Fact) (m : Followed E) → is_none us ≡ true → h ≡ multiple g.constant f → Leads m m (operators.product s ts us f g) h
right_leads s ts [] f g h m d e = λ go. ap (λ x. collect m.found (go x m.state)) (sym e)
right_leads s ts (u ∷ us) f g h m d e = absurd cc

pub left_leads : {E : Type 0} (s : Setting E) (ts us : List (Weighted _)) (f g h : Fact) (m : Followed E) → is_none us ≡ false → is_none ts ≡ true → h ≡ multiple f.constant g → Leads m m (operators.product s ts us f g) h
left_leads s ts [] f g h m p d e = absurd cc
left_leads s [] (u ∷ us) f g h m p d e = λ go. ap (λ x. collect m.found (go x m.state)) (sym e)
left_leads s (t ∷ ts) (u ∷ us) f g h m p d e = absurd cc

pub right_stops : {E : Type 0} (s : Setting E) (ts us : List (Weighted _)) (f g : Fact) (m : Followed E) (e : WalkError) → is_none us ≡ true → IsUnfit e (multiple g.constant f) → StopsAtForm s m e (operators.product s ts us f g)
right_stops s ts [] f g m e d h = λ k. ranged_unfit s k (multiple g.constant f) m e h
right_stops s ts (u ∷ us) f g m e d h = absurd cc

pub left_stops : {E : Type 0} (s : Setting E) (ts us : List (Weighted _)) (f g : Fact) (m : Followed E) (e : WalkError) → is_none us ≡ false → is_none ts ≡ true → IsUnfit e (multiple f.constant g) → StopsAtForm s m e (operators.product s ts us f g)
left_stops s ts [] f g m e p d h = absurd cc
left_stops s [] (u ∷ us) f g m e p d h = λ k. ranged_unfit s k (multiple f.constant g) m e h
left_stops s (t ∷ ts) (u ∷ us) f g m e p d h = absurd cc

pub new_product : {E : Type 0} (s : Setting E) (ts us : List (Weighted _)) (f g : Fact) (m n : Followed E) (x : E) (r : Result Form WalkError) → is_none us ≡ false → is_none ts ≡ false → x ≡ s.domain.mul_of (element_of s m.state f) (element_of s m.state g) →
    MatchResult r (λ h. Leads m n (operators.product_in s s.is_wide f g x) (form h)) (λ e. Stops m e (operators.product_in s s.is_wide f g x)) →
    MatchResult r (λ h. Leads m n (operators.product s ts us f g) (form h)) (λ e. StopsAtForm s m e (operators.product s ts us f g))
new_product s ts [] f g m n x r p q d h = absurd cc
new_product s [] (u ∷ us) f g m n x r p q d h = absurd cc
new_product s (t ∷ ts) (u ∷ us) f g m n x (Ok y) p q d h = λ go. subst (λ z. collect m.found (operators.product_in s s.is_wide f g z m.state go) ≡ collect n.found (go (form y) n.state)) d (h go)
new_product s (t ∷ ts) (u ∷ us) f g m n x (Err e) p q d h = λ k go. subst (λ z. Refused e (collect m.found (operators.product_in s s.is_wide f g z m.state (λ y st. walks.ranged s k y st go)))) d (h (λ y st. walks.ranged s k y st go))

-- how many terms a product has
length-terms : (ts : List Term) → length (terms ts) ≡ length ts
length-terms [] = refl
length-terms (t ∷ ts) = ap suc (length-terms ts)

pub counted : (ts us : List Term) → terms ts ≡ terms us → length ts ≡ length (terms us)
counted ts us d = sym (length-terms ts) ∙ ap length d

pub as_made : (f g : Fact) (b : Bool) (o : Option Form) (y : Form) → o ≡ Some y → MatchOption o (product f g ≡ None) (λ z. product f g ≡ Some (form z)) → nat_le (length (form y).terms) 24 ≡ b → operators.small_product f g ≡ cond b (Some (form y)) None
as_made f g b o y d m l =
    let e : product f g ≡ Some (form y) = subst (λ p. MatchOption p (product f g ≡ None) (λ z. product f g ≡ Some (form z))) d m in
    ap (λ p. and_then p (λ h. cond (nat_le (length h.terms) 24) (Some h) None)) e ∙ ap (λ c. cond c (Some (form y)) None) l

pub ranged_product : {E : Type 0} (s : Setting E) (k : Kind) (x y f : Fact) (l m n : Followed E) (view : Value → values.Value) (r : Result Value WalkError) → Leads l m (operators.product s x.terms y.terms x y) f →
    MatchResult r (λ v. Leads m n (walks.ranged s k f) (view v)) (λ e. Stops m e (walks.ranged s k f)) →
    MatchResult r (λ v. Leads l n (operators.operate s Multiply k x y) (view v)) (λ e. Stops l e (operators.operate s Multiply k x y))
ranged_product s k x y f l m n view (Ok v) a h = λ go. a (λ g st. walks.ranged s k g st go) ∙ h go
ranged_product s k x y f l m n view (Err e) a h = λ go. refused_from e _ _ (a (λ g st. walks.ranged s k g st go)) (h go)
