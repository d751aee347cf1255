-- Differences of two symbols are small.
use Rattle.std.proofs.Common.{◌≡◌, true, arith, refl}
use Rattle.linear.specs.Exact.{fits}
use Rattle.linear.specs.Sizes.{size}
use Rattle.linear.proofs.Sizes.{fits_small, size_difference}
use Rattle.facts.specs.Symbols.{Symbol, once, minus}
use Rattle.facts.specs.Refusals.{IsMemory}
use Rattle.facts.specs.declared.error.WalkError.{WalkError}
use Rattle.facts.specs.declared.error.WalkError.TheVariants as walks
use Rattle.std.proofs.lemmas.Bool.{and_from}
use Rattle.two_thread.specs.Refusals.{AreUnfit}

fits_two : (s t : Symbol) → fits (minus (once s) (once t)) ≡ true
fits_two s t =
    let a : size (once s) ≡ 1 = refl in
    let b : size (once t) ≡ 1 = refl in
    fits_small (minus (once s) (once t)) (omega (arith, size_difference (once s) (once t), a, b))

pub small_memory : (s t : Symbol) (e : WalkError) → AreUnfit e (once s) (once t) → IsMemory e
small_memory s t walks.TooMany u = absurd u
small_memory s t walks.TooLarge u = cc (u, and_from (fits (minus (once s) (once t))) (fits (minus (once t) (once s))) (fits_two s t) (fits_two t s))
small_memory s t walks.Memory u = refl
