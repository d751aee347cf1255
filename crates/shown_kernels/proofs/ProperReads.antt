-- What is read of bytes is proper.
use Rattle.std.proofs.Common.{◌≡◌, ◌≤◌, ◌<◌, ◌*◌, ℕ, zero, suc, List, true, arith, refl, sym, subst, nat_lt, inl, inr}
use Rattle.std.specs.Prelude.{nat_le, Result, Ok, Err, IfOk}
use Rattle.std.proofs.lemmas.Bool.Decides.{nat_tests}
use Rattle.semantics.specs.Launch.{Three, product}
use Rattle.semantics.specs.Launch as launch
use Rattle.texts.specs.Surface as surface
use Rattle.types.specs.TypeFaults.{NameTwice, when}
use Rattle.types.specs.Scope.{Devices, empty_scope, may_name_kernel}
use Rattle.types.specs.Elaboration.{InKernel, elaborate_inside, elaborate, elaborate_all, declare_parameters}
use Rattle.texts.specs.KernelLimits.{IsLocalSize}
use Rattle.reading.specs.Kernels as plain
use Rattle.reading.proofs.Grammatical.{read-sound, read-tree}
use Rattle.kernel_reading.specs.Kernels.{Kernel, Source, as_plain, read}
use Rattle.kernel_reading.proofs.KernelReads.{read-either}
use Rattle.opencl_reading.proofs.Sound.{written-proper}
use Rattle.work_item.specs.Proper.{are_sizes, are_proper, is_proper}
use Rattle.shown_kernels.proofs.Holding.{Holds, then-any, held, both}
use Rattle.core_code.specs.View.{kernel}
use Rattle.typed_kernels.specs.TypedKernel.{TypedKernel}
use Rattle.kernel_reading.specs.Answers.{Gives, kernel_seen}
use Rattle.kernel_reading.specs.declared.KernelError.{KernelError}
use Rattle.shown_kernels.proofs.Elaborating.{elaborated-proper}

above : (a b : ℕ) → 1 ≤ a → 1 ≤ b → 1 ≤ a * b
above zero b h k = absurd (omega arith)
above (suc a) zero h k = absurd (omega arith)
above (suc a) (suc b) h k = omega arith

-- elaboration keeps the sizes
core-sizes : (d : Devices) (t : surface.Kernel) → Holds (λ (k : launch.Kernel). k.sizes ≡ t.sizes) (elaborate d t)
unfolding elaborate elaborate_inside
core-sizes d t =
    then-any (λ (k : launch.Kernel). k.sizes ≡ t.sizes) (when (may_name_kernel t.name) NameTwice t.name_site (empty_scope d)) _ (λ outside. then-any (λ (k : launch.Kernel). k.sizes ≡ t.sizes) (declare_parameters (empty_scope d) t.parameters) _ (λ outer.
    then-any (λ (k : launch.Kernel). k.sizes ≡ t.sizes) (elaborate_all InKernel outer t.body) _ (λ b. refl)))

sizes-fit : (t : Three ℕ) → IsLocalSize t.x → IsLocalSize t.y → IsLocalSize t.z → t.x * t.y * t.z ≤ 1024 → are_sizes t ≡ true
sizes-fit t x y z p =
    both (nat_le t.x 1024) _ (low t.x 1024 x.1) (both (nat_le t.y 1024) _ (low t.y 1024 y.1) (both (nat_le t.z 1024) _ (low t.z 1024 z.1)
    (both (nat_lt 0 (product t)) (nat_le (product t) 1024) (some (product t) (above (t.x * t.y) t.z (above t.x t.y x.0 y.0) z.0)) (low (product t) 1024 p))))
  where
    low : (a b : ℕ) → a ≤ b → nat_le a b ≡ true
    low a b h = grind (arith, nat_tests)

    some : (a : ℕ) → 0 < a → nat_lt 0 a ≡ true
    some a h = grind (arith, nat_tests)

plain-proper : (s : plain.Source) (k : plain.Kernel) → plain.read s ≡ Ok k → is_proper k.core ≡ true
plain-proper s k h =
    let t = read-sound s k h in
    let z = t.within_limits.1.local_sizes in
    both (are_sizes k.core.sizes) (are_proper k.core.body)
    (subst (λ n. are_sizes n ≡ true) (sym (held (λ (x : launch.Kernel). x.sizes ≡ k.tree.sizes) (elaborate s.devices k.tree) k.core t.is_typed (core-sizes s.devices k.tree))) (sizes-fit k.tree.sizes z.0 z.1 z.2 z.3))
    (elaborated-proper s.devices k.tree k.core (read-tree s k h).body t.is_typed)

pub read-proper : (s : Source) (k : Kernel) → read s ≡ Ok k → is_proper k.core ≡ true
read-proper s k h =
    let e = read-either s k h in
    elim e.2 [
      | inl p ↦ subst (λ x. is_proper x.core ≡ true) p.2 (plain-proper (as_plain s) p.0 p.1)
      | inr w ↦ subst (λ x. is_proper x.core ≡ true) w.4 (written-proper s.reading.devices e.0 s.bytes w.0 w.3)
    ]

pub answers_proper : (r : Result TypedKernel KernelError) (s : Source) → Gives r (read s) → IfOk r (λ t. is_proper (kernel t.1) ≡ true)
answers_proper (Ok t) s h = read-proper s (kernel_seen t) h
answers_proper (Err e) s h = tt
