-- A form put in a path's terms, and what it says of forms that one of them was not made.
use Rattle.std.specs.Prelude.{◌≡◌, List, ◌++◌, Bool, true, false, ◌&&◌, Option, None, Some}
use Rattle.linear.specs.Forms.{form, forms}
use Rattle.facts.specs.Symbols.{Fact}
use Rattle.facts.specs.declared.error.WalkError.{WalkError}
use Rattle.facts.specs.declared.error.WalkError.TheVariants as errors
use Rattle.walk_trees.specs.Fitting.{all_fit}
use Rattle.obligations.specs.Replacing as replacing
use Rattle.obligations.specs.Replacing.{Replacement, made, is_replaceable}
use Rattle.obligations.specs.Notes.{Multiple}
use Rattle.obligations.specs.Walking.{Placed, on_path, has_form}
use Rattle.walk_trees.specs.Walks.{State}
use Rattle.arrival_claims.specs.declared.replacing.PathForm.{PathForm}
use Rattle.arrival_claims.specs.declared.multiplying.PathMultiple.{PathMultiple}

-- a number of one of them is no i64, or there was no memory
abbrev pub AreUnfit : WalkError → List Fact → Type 0
AreUnfit errors.TooMany fs = ⊥
AreUnfit errors.TooLarge fs = all_fit fs ≡ false
AreUnfit errors.Memory fs = Unit {0}

-- behind forms that were made before
abbrev pub IsAdded : Replacement → Fact → (before : List Fact) → PathForm → Type 0
IsAdded by f before r = (forms r.made.items ≡ before ++ made by f) × (form r.form ≡ replacing.replaced by f)

abbrev pub IsReplaced : Replacement → Fact → PathForm → Type 0
IsReplaced by f r = (forms r.made.items ≡ made by f) × (form r.form ≡ replacing.replaced by f)

-- the form, where each of its products has one
abbrev pub IsPut : Replacement → Fact → Option PathForm → Type 0
IsPut by f None = is_replaceable by f ≡ false
IsPut by f (Some r) = (is_replaceable by f ≡ true) × IsReplaced by f r

-- what an error says of forms that were not made: each product has a form, and one of the forms is not of i64; or there was no memory
abbrev pub IsUnmade : (has_forms : Bool) → List Fact → WalkError → Type 0
IsUnmade b fs errors.TooMany = ⊥
IsUnmade b fs errors.TooLarge = (b ≡ true) × (all_fit fs ≡ false)
IsUnmade b fs errors.Memory = Unit {0}

abbrev pub IsNotPut : Replacement → Fact → WalkError → Type 0
IsNotPut by f e = IsUnmade (is_replaceable by f) (made by f) e

-- both forms of a multiple
abbrev pub both_made : Replacement → Multiple → List Fact
both_made by m = made by m.form ++ made by m.of

abbrev pub AreMade : Replacement → Multiple → PathMultiple → Type 0
AreMade by m r = (forms r.made.items ≡ both_made by m) × (form r.form ≡ replacing.replaced by m.form) × (form r.of ≡ replacing.replaced by m.of)

abbrev pub AreNotMade : Replacement → Multiple → WalkError → Type 0
AreNotMade by m e = AreUnfit e (both_made by m)

abbrev pub have_forms : {E : Type 0} → Placed E → State E → Multiple → Bool
have_forms w st m = has_form w st m.form && has_form w st m.of

abbrev pub ArePut : {E : Type 0} → Placed E → State E → Multiple → Option PathMultiple → Type 0
ArePut w st m None = have_forms w st m ≡ false
ArePut w st m (Some r) = (have_forms w st m ≡ true) × AreMade (on_path w st) m r

abbrev pub AreNotPut : {E : Type 0} → Placed E → State E → Multiple → WalkError → Type 0
AreNotPut w st m e = IsUnmade (have_forms w st m) (both_made (on_path w st) m) e
