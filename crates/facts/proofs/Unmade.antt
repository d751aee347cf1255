-- Errors that are handed on, and forms that were not made.
use Rattle.std.proofs.Common.{◌≡◌, ◌<◌, ◌^◌, false, refl, sym, subst}
use Rattle.std.specs.Prelude.{Result, Ok, Err, IsErr, IsErrAnd, IsErrOf, IfErr, IfSome, MatchOption, MatchResult, Option, None, Some}
use Rattle.linear.specs.Exact.{fits}
use Rattle.linear.specs.Sizes.{size}
use Rattle.linear.proofs.Sizes.{fits_small}
use Rattle.linear.specs.declared.form.Form.{Form}
use Rattle.linear.specs.declared.form.LinearError.{LinearError}
use Rattle.linear.specs.declared.form.LinearError.TheVariants as linear
use Rattle.facts.specs.View.{error_of_form}
use Rattle.facts.specs.Symbols.{Fact}
use Rattle.facts.specs.Refusals.{IsMemory, IsUnfit}
use Rattle.facts.specs.declared.error.WalkError.{WalkError}

-- an error handed on as it is
pub handed : {T : Type 0} (r : Result T WalkError) (e : WalkError) (P : T → Type 0) (Q : WalkError → Type 0) → IsErr r × IsErrAnd r (λ x. x ≡ e) → Q e → MatchResult r P Q
handed (Ok x) e P Q h q = absurd h.1
handed (Err x) e P Q h q = subst Q (sym h.1) q

-- a form that was not made
pub unfit_of : (r : Result Form LinearError) (e : LinearError) (f : Fact) → r ≡ Err e → (IsErrOf r linear.TooLarge → fits f ≡ false) → IsUnfit (error_of_form e) f
unfit_of r linear.TooLarge f d h = h d
unfit_of r linear.Memory f d h = tt

-- a small form is made, but for memory
pub memory_of : (r : Result Form LinearError) (e : LinearError) (f : Fact) → r ≡ Err e → (IsErrOf r linear.TooLarge → fits f ≡ false) → size f < 2 ^ 63 → IsMemory (error_of_form e)
memory_of r linear.TooLarge f d h l = cc (h d, fits_small f l)
memory_of r linear.Memory f d h l = refl

-- what there is, where there is something
pub if_some : {A : Type 0} (o : Option A) (x : A) (P : A → Type 0) → o ≡ Some x → IfSome o P → P x
if_some None x P e h = absurd cc
if_some (Some y) x P e h = let q : y ≡ x = cc in subst P q h

pub matched_some : {A : Type 0} (o : Option A) (x : A) (N : Type 0) (P : A → Type 0) → o ≡ Some x → MatchOption o N P → P x
matched_some None x N P e h = absurd cc
matched_some (Some y) x N P e h = let q : y ≡ x = cc in subst P q h

-- of an error alone
pub passed : {T E : Type 0} (r : Result T E) (x : E) (P : E → Type 0) → IsErrAnd r (λ e. e ≡ x) → P x → IfErr r P
passed (Ok t) x P h p = absurd h
passed (Err e) x P h p = subst P (sym h) p

-- what an answer or an error says, and what follows of it
pub matched : {T E : Type 0} (r : Result T E) (P P' : T → Type 0) (Q Q' : E → Type 0) → ((t : T) → P t → P' t) → ((e : E) → Q e → Q' e) → MatchResult r P Q → MatchResult r P' Q'
matched (Ok t) P P' Q Q' f g m = f t m
matched (Err e) P P' Q Q' f g m = g e m

-- the same of an error alone
pub erred : {T E : Type 0} (r : Result T E) (Q Q' : E → Type 0) → ((e : E) → Q e → Q' e) → IfErr r Q → IfErr r Q'
erred (Ok t) Q Q' g m = m
erred (Err e) Q Q' g m = g e m
