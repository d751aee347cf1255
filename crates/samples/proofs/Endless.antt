-- Two items that store to one element for ever: a prefix of their solo runs races.
use Rattle.std.proofs.Common.{ℕ, pos, [], ◌∷◌, true, refl, inl, inr, lit<, arith}
use Rattle.semantics.specs.Setup.{group_size, group_count}
use Rattle.semantics.specs.Evaluation.{evaluate}
use Rattle.semantics.specs.Ask.{ask}
use Rattle.semantics.specs.Solo.{opening, Access}
use Rattle.semantics.specs.Safety.{IsPairSafe}
use Rattle.samples.specs.Terms.{at}
use Rattle.samples.specs.Kernels.{for_ever}

store_by : ℕ → Access
store_by i = record { item = i; at = record { owner = 0; array = 0; index = 0 }; is_store = true; epoch = 0; site = at 1 }

pub races : (bound : ℕ) → IsPairSafe for_ever bound → ⊥
unfolding ask evaluate opening group_size group_count store_by
races bound p =
    p.apart 0 1 (pos 0 ∷ pos 0 ∷ []) (pos 0 ∷ pos 0 ∷ []) (store_by 0) (store_by 1) (lit< tt) (lit< tt) (omega arith) (inl refl) (inl refl)
    (record { items = omega arith; element = refl; stored = inl refl; unordered = inr refl })
