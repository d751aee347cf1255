-- Blocks within one another.
use Rattle.std.proofs.Common.{◌≡◌, ◌+◌, ℕ, List, [], ◌∷◌, ◌++◌, length, refl, ap, sym, ◌∙◌, arith}
use Rattle.std.specs.Prelude.{Option, Some, None, MatchOption, option_to_list}
use Rattle.semantics.specs.Item.{Entry}
use Rattle.work_item.specs.declared.left.Frame.{Frame}
use Rattle.work_item.specs.Left.{opened, stacked, fronted}

-- one block more, the innermost
pub stacked_more : (fs : List Frame) (f : Frame) (around : List Entry) → stacked (fs ++ f ∷ []) around ≡ opened f (stacked fs around)
stacked_more [] f around = refl
stacked_more (g ∷ fs) f around = stacked_more fs f (opened g around)

nothing : (fs : List Frame) → length fs ≡ 0 → fs ≡ []
nothing [] h = refl
nothing (f ∷ fs) h = absurd (omega (arith, h))

-- the innermost block taken off
pub popped : (o : Option Frame) (all fs : List Frame) (n m : ℕ) → all ≡ fs ++ option_to_list o → n ≡ length all → MatchOption o ((n ≡ 0) × (m ≡ 0)) (λ f. m + 1 ≡ n) → fronted o fs ≡ stacked all []
popped None all fs n m e l h = ap (λ xs. stacked xs []) (sym (nothing all (sym l ∙ h.0)))
popped (Some f) all fs n m e l h = sym (stacked_more fs f []) ∙ ap (λ xs. stacked xs []) (sym e)
