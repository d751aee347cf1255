-- What is read is of the kernel for which it is read.
use Rattle.std.proofs.Common.{◌≡◌, ℕ, zero, suc, ◌<◌, List, [], ◌∷◌, ◌++◌, length, Bool, ◌&&◌, Option, None, Some, Ok, refl, ap, subst, arith}
use Rattle.std.specs.Prelude.{ℤ, pos, codes}
use Rattle.std.specs.List.{All}
use Rattle.std.proofs.lemmas.Bool.{cond_both}
use Rattle.std.proofs.lemmas.List.Elements.{All-push}
use Rattle.semantics.specs.Launch.{Kernel}
use Rattle.semantics.specs.Conditions.{Factor, ArgumentFactor, GroupsFactor, Summand, Constant, Product, IsNamedFactor, IsNamed}
use Rattle.texts.specs.Surface.{Parameter}
use Rattle.launch_text.specs.LaunchFaults.{Cursor, Step, refused, then, sees, past}
use Rattle.launch_text.specs.LaunchWords.{factor_at, name_at, is_known}
use Rattle.launch_text.specs.LaunchSums.{value_number, argument_found, argument_at, symbol_at, times, symbols_at, begins_number, term_at, sum_at}
use Rattle.launch_text.proofs.Back.{then_back, same_back}
use Rattle.kernel_names.specs.Parameters.{kinds, value_kind}
use Rattle.launch_text.proofs.Parameters.{value_below}

named : (kernel : Kernel) (ps : List Parameter) → kernel.arguments ≡ kinds value_kind ps → (name : List ℕ) (o : Option ℕ) (c : Cursor) (t : Factor × Cursor) → value_number 0 ps name ≡ o → argument_found ps name o c ≡ Ok t → IsNamedFactor kernel t.0
named kernel ps k name (Some n) c t h e =
    let q : (ArgumentFactor n, c) ≡ t = cc in
    subst (λ r. IsNamedFactor kernel r.0) q (omega (arith, value_below 0 ps name n h, ap length k))
named kernel ps k name None c t h e =
    cond_both (is_known ps name) (refused _ c) (refused _ c) (λ s. s ≡ Ok t → IsNamedFactor kernel t.0) (λ _ f. absurd cc) (λ _ f. absurd cc) e

argument_named : (kernel : Kernel) (ps : List Parameter) → kernel.arguments ≡ kinds value_kind ps → (c : Cursor) (t : Factor × Cursor) → argument_at ps c ≡ Ok t → IsNamedFactor kernel t.0
unfolding argument_at
argument_named kernel ps k c t e =
    let n = then_back (name_at c) _ t e in
    named kernel ps k n.0.0 (value_number 0 ps n.0.0) n.0.1 t refl n.2

grouped : (kernel : Kernel) (d : ℕ) (c : Cursor) (t : Factor × Cursor) → d < 3 → (let s : Step (Factor × Cursor) = Ok (GroupsFactor d, c) in s ≡ Ok t) → IsNamedFactor kernel t.0
grouped kernel d c t h e = let q : (GroupsFactor d, c) ≡ t = cc in subst (λ r. IsNamedFactor kernel r.0) q h

symbol_named : (kernel : Kernel) (ps : List Parameter) → kernel.arguments ≡ kinds value_kind ps → (c : Cursor) (t : Factor × Cursor) → symbol_at ps c ≡ Ok t → IsNamedFactor kernel t.0
unfolding symbol_at
symbol_named kernel ps k c t =
    let P : Step (Factor × Cursor) → Type 0 = λ s. s ≡ Ok t → IsNamedFactor kernel t.0 in
    cond_both (sees (codes "groups.0") c) _ _ P (λ _ e. grouped kernel 0 _ t (omega arith) e) (λ _.
    cond_both (sees (codes "groups.1") c) _ _ P (λ _ e. grouped kernel 1 _ t (omega arith) e) (λ _.
    cond_both (sees (codes "groups.2") c) _ _ P (λ _ e. grouped kernel 2 _ t (omega arith) e) (λ _ e.
    argument_named kernel ps k c t e)))

times_named : (kernel : Kernel) (z : ℤ) (a : Factor) → IsNamedFactor kernel a → IsNamed kernel (times z a)
times_named kernel z (ArgumentFactor n) h = h
times_named kernel z (GroupsFactor d) h = h

symbols_named : (products : Bool) (kernel : Kernel) (ps : List Parameter) → kernel.arguments ≡ kinds value_kind ps → (z : ℤ) (c : Cursor) (t : Summand × Cursor) → symbols_at products ps z c ≡ Ok t → IsNamed kernel t.0
unfolding symbols_at
symbols_named products kernel ps k z c t e =
    let a = then_back (symbol_at ps c) _ t e in
    let one = symbol_named kernel ps k c a.0 a.1 in
    cond_both (products && sees (codes "*") a.0.1) (then (symbol_at ps (past 1 a.0.1)) (λ b. Ok (Product z a.0.0 b.0, b.1))) (Ok (times z a.0.0, a.0.1)) (λ s. s ≡ Ok t → IsNamed kernel t.0)
    (λ _ d. let b = then_back (symbol_at ps (past 1 a.0.1)) _ t d in
    subst (λ (r : Summand × Cursor). IsNamed kernel r.0) (same_back (Product z a.0.0 b.0.0, b.0.1) t b.2) (one, symbol_named kernel ps k (past 1 a.0.1) b.0 b.1))
    (λ _ d. subst (λ (r : Summand × Cursor). IsNamed kernel r.0) (same_back (times z a.0.0, a.0.1) t d) (times_named kernel z a.0.0 one)) a.2

term_named : (products : Bool) (kernel : Kernel) (ps : List Parameter) → kernel.arguments ≡ kinds value_kind ps → (c : Cursor) (t : Summand × Cursor) → term_at products ps c ≡ Ok t → IsNamed kernel t.0
unfolding term_at
term_named products kernel ps k c t =
    let P : Step (Summand × Cursor) → Type 0 = λ s. s ≡ Ok t → IsNamed kernel t.0 in
    cond_both (begins_number c.rest) _ _ P
    (λ _ e. let f = then_back (factor_at c) _ t e in
    cond_both (sees (codes "*") f.0.1) (symbols_at products ps f.0.0 (past 1 f.0.1)) (Ok (Constant f.0.0, f.0.1)) P
    (λ _ d. symbols_named products kernel ps k f.0.0 (past 1 f.0.1) t d)
    (λ _ d. let q : (Constant f.0.0, f.0.1) ≡ t = cc in subst (λ r. IsNamed kernel r.0) q tt) f.2)
    (λ _ e. symbols_named products kernel ps k (pos 1) c t e)

pub sum_named : (products : Bool) (kernel : Kernel) (ps : List Parameter) → kernel.arguments ≡ kinds value_kind ps → (room : ℕ) (terms : List Summand) (c : Cursor) (t : List Summand × Cursor) → All (IsNamed kernel) terms → sum_at products ps room terms c ≡ Ok t → All (IsNamed kernel) t.0
unfolding sum_at
sum_named products kernel ps k zero terms c t h e = absurd cc
sum_named products kernel ps k (suc room) terms c t h e =
    let one = then_back (term_at products ps c) _ t e in
    let more = All-push (IsNamed kernel) terms one.0.0 h (term_named products kernel ps k c one.0 one.1) in
    cond_both (sees (codes " + ") one.0.1) (sum_at products ps room (terms ++ one.0.0 ∷ []) (past 3 one.0.1)) (Ok (terms ++ one.0.0 ∷ [], one.0.1)) (λ s. s ≡ Ok t → All (IsNamed kernel) t.0)
    (λ _ d. sum_named products kernel ps k room (terms ++ one.0.0 ∷ []) (past 3 one.0.1) t more d)
    (λ _ d. let q : (terms ++ one.0.0 ∷ [], one.0.1) ≡ t = cc in subst (λ r. All (IsNamed kernel) r.0) q more) one.2
