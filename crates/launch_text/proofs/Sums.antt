-- Sums, a term at a time.
use Rattle.std.proofs.Common.{◌≡◌, ℕ, zero, suc, ◌-◌, ◌<◌, List, [], ◌∷◌, ◌++◌, Bool, true, false, cond, Ok, refl, ◌∙◌, arith, sub-one}
use Rattle.std.specs.Prelude.{codes}
use Rattle.semantics.specs.Conditions.{Summand}
use Rattle.texts.specs.Surface.{Parameter}
use Rattle.launch_text.specs.LaunchFaults.{Cursor, LimitPassed, refused, then, sees, past}
use Rattle.launch_text.specs.LaunchSums.{term_at, sum_at}

pub sum_step : (products : Bool) (ps : List Parameter) (room : ℕ) (terms : List Summand) (c : Cursor) → 0 < room → sum_at products ps room terms c ≡ then (term_at products ps c) (λ t. cond (sees (codes " + ") t.1) (sum_at products ps (room - 1) (terms ++ t.0 ∷ []) (past 3 t.1)) (Ok (terms ++ t.0 ∷ [], t.1)))
unfolding sum_at
sum_step products ps zero terms c h = absurd (omega arith)
sum_step products ps (suc room) terms c h = rw sub-one refl

pub sum_spent : (products : Bool) (ps : List Parameter) (room : ℕ) (terms : List Summand) (c : Cursor) → room ≡ 0 → sum_at products ps room terms c ≡ refused LimitPassed c
unfolding sum_at
sum_spent products ps zero terms c h = refl
sum_spent products ps (suc room) terms c h = absurd cc

pub sum_ends : (products : Bool) (ps : List Parameter) (room : ℕ) (terms : List Summand) (c : Cursor) (t : Summand × Cursor) → 0 < room → term_at products ps c ≡ Ok t → sees (codes " + ") t.1 ≡ false → sum_at products ps room terms c ≡ Ok (terms ++ t.0 ∷ [], t.1)
sum_ends products ps room terms c t h e s = sum_step products ps room terms c h ∙ rw (e, s) refl

pub sum_goes : (products : Bool) (ps : List Parameter) (room : ℕ) (terms : List Summand) (c : Cursor) (t : Summand × Cursor) → 0 < room → term_at products ps c ≡ Ok t → sees (codes " + ") t.1 ≡ true → sum_at products ps room terms c ≡ sum_at products ps (room - 1) (terms ++ t.0 ∷ []) (past 3 t.1)
sum_goes products ps room terms c t h e s = sum_step products ps room terms c h ∙ rw (e, s) refl
